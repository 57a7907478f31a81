use Rattle.std.proofs.Common.{◌-◌, ◌≤◌, ℕ, List, length, arith}
use Rattle.std.proofs.lemmas.Bool.{false≢true}
use Rattle.r6_recover.proofs.KnownLaws.{AgreeAtKnown-restores, BecomesFullRow-known, BecomesFullRow-restores, HaveSameLengths-long, few_missing}
use Rattle.r6_recover.proofs.in_place.restore_unknown.Goals as goal

pub returns-in-None-clause-restored : goal.returns-in-None-clause-restored
returns-in-None-clause-restored c = BecomesFullRow-known c.args.known c.args.blocks.now c.requires.count c.in-None.ensures

pub returns-in-One-clause-restored : goal.returns-in-One-clause-restored
returns-in-One-clause-restored c =
    let blocks : List (List ℕ) = c.args.blocks.now in
    let least : 2 ≤ length blocks = c.requires.count in
    BecomesFullRow-restores c.args.known (length blocks - 2) (length c.args.sum.now) c.in-One.x c.in-One.x blocks c.restore_one.new.blocks (omega arith)
    c.requires.long c.in-One.ensures.others c.restore_one.ensures.restores

pub returns-in-Two-clause-restored : goal.returns-in-Two-clause-restored
returns-in-Two-clause-restored c =
    let blocks : List (List ℕ) = c.args.blocks.now in
    let least : 2 ≤ length blocks = c.requires.count in
    BecomesFullRow-restores c.args.known (length blocks - 2) (length c.args.sum.now) c.in-Two.x c.in-Two.y blocks c.restore_pair.new.blocks (omega arith)
    c.requires.long c.in-Two.ensures.others c.restore_pair.ensures.restores

pub returns-in-None-clause-refused : goal.returns-in-None-clause-refused
returns-in-None-clause-refused c =
    (λ error. absurd (false≢true error), λ many. absurd (few_missing c.args.known (length c.args.blocks.now) 0 0 (λ k within nx ny. c.in-None.ensures k within) many))

pub returns-in-One-clause-refused : goal.returns-in-One-clause-refused
returns-in-One-clause-refused c =
    (λ error. absurd (false≢true error), λ many. absurd (few_missing c.args.known (length c.args.blocks.now) c.in-One.x c.in-One.x c.in-One.ensures.others many))

pub returns-in-Two-clause-refused : goal.returns-in-Two-clause-refused
returns-in-Two-clause-refused c =
    (λ error. absurd (false≢true error), λ many. absurd (few_missing c.args.known (length c.args.blocks.now) c.in-Two.x c.in-Two.y c.in-Two.ensures.others many))

pub returns-in-One-clause-kept : goal.returns-in-One-clause-kept
returns-in-One-clause-kept c =
    AgreeAtKnown-restores c.args.known (length c.args.blocks.now - 2) (length c.args.sum.now) c.in-One.x c.in-One.x c.args.blocks.now c.restore_one.new.blocks
    c.in-One.ensures.missing c.in-One.ensures.missing c.restore_one.ensures.restores

pub returns-in-Two-clause-kept : goal.returns-in-Two-clause-kept
returns-in-Two-clause-kept c =
    AgreeAtKnown-restores c.args.known (length c.args.blocks.now - 2) (length c.args.sum.now) c.in-Two.x c.in-Two.y c.args.blocks.now c.restore_pair.new.blocks
    c.in-Two.ensures.first_missing c.in-Two.ensures.second_missing c.restore_pair.ensures.restores

pub returns-in-One-clause-lengths : goal.returns-in-One-clause-lengths
returns-in-One-clause-lengths c =
    HaveSameLengths-long (length c.args.sum.now) c.args.blocks.now c.restore_one.new.blocks
    c.restore_one.ensures.restores.count c.requires.long c.restore_one.ensures.restores.long

pub returns-in-Two-clause-lengths : goal.returns-in-Two-clause-lengths
returns-in-Two-clause-lengths c =
    HaveSameLengths-long (length c.args.sum.now) c.args.blocks.now c.restore_pair.new.blocks
    c.restore_pair.ensures.restores.count c.requires.long c.restore_pair.ensures.restores.long
