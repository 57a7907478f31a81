use Rattle.std.proofs.Common.{◌≡◌, ◌+◌, ◌-◌, ◌<◌, ℕ, List, length, ◌∙◌, arith}
use Rattle.r6_recover.proofs.RestoreLaws.{value_from_p}
use Rattle.r6_recover.proofs.apart.restore_from_p_into.Goals as goal

pub returns-clause-restored : goal.returns-clause-restored
returns-clause-restored c =
    let blocks : List (List ℕ) = c.args.blocks.now in
    let x : ℕ = c.args.x in
    let m : ℕ = length blocks - 2 in
    let within : x + 2 < length blocks = c.requires.within in
    let count : length blocks ≡ m + 2 = omega arith in
    λ full is agree. c.recover_from_p.ensures.lost ∙ value_from_p m (length c.args.target.now) blocks full count is x (omega arith) agree
