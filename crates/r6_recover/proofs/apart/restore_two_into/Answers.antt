use Rattle.std.proofs.Common.{◌≡◌, ◌+◌, ◌-◌, ◌<◌, ◌≤◌, ℕ, List, length, ◌∙◌, arith}
use Rattle.r6_kernels.specs.Recovery.{lower_of_two, upper_of_two}
use Rattle.r6_recover.specs.Rows.{AgreeBut}
use Rattle.r6_recover.proofs.RestoreLaws.{value_of_first, value_of_second}
use Rattle.r6_recover.proofs.apart.restore_two_into.Goals as goal

pub returns-clause-first : goal.returns-clause-first
returns-clause-first c =
    let blocks : List (List ℕ) = c.args.blocks.now in
    let x : ℕ = c.args.x in
    let y : ℕ = c.args.y in
    let m : ℕ = length blocks - 2 in
    let len : ℕ = length c.args.first.now in
    let within : y + 2 < length blocks = c.requires.within in
    let few : length blocks ≤ 32 = c.requires.few in
    let count : length blocks ≡ m + 2 = omega arith in
    λ full is agree.
    c.recover_two.ensures.first
    ∙ (λ i. lower_of_two len x y (c.new-a.ensures i) (c.new-b.ensures i) blocks)
    ∙ value_of_first m len blocks full count is x y c.requires.before (omega arith) agree c.factors.result.0.0 c.factors.result.1.0 (omega arith) c.factors.ensures

pub returns-clause-second : goal.returns-clause-second
returns-clause-second c =
    let blocks : List (List ℕ) = c.args.blocks.now in
    let x : ℕ = c.args.x in
    let y : ℕ = c.args.y in
    let m : ℕ = length blocks - 2 in
    let len : ℕ = length c.args.first.now in
    let within : y + 2 < length blocks = c.requires.within in
    let few : length blocks ≤ 32 = c.requires.few in
    let count : length blocks ≡ m + 2 = omega arith in
    λ full is agree.
    let agree' : AgreeBut x y blocks full = λ k nx ny. agree k ny nx in
    c.recover_two.ensures.second
    ∙ (λ i. upper_of_two len x y (c.new-a.ensures i) (c.new-b.ensures i) blocks)
    ∙ value_of_second m len blocks full count is x y c.requires.before (omega arith) agree' (lower_of_two len x y c.factors.result.0.0 c.factors.result.1.0 blocks)
    (value_of_first m len blocks full count is x y c.requires.before (omega arith) agree' c.factors.result.0.0 c.factors.result.1.0 (omega arith) c.factors.ensures)
