use Rattle.std.proofs.Common.{◌≡◌, ◌+◌, ◌-◌, ◌<◌, ◌≤◌, ℕ, List, [], length, get_or, take, ◌∙◌, arith}
use Rattle.r6_kernels.specs.Blocks.{block_sum, scale, q_of, without}
use Rattle.r6_recover.proofs.RestoreLaws.{value_from_q}
use Rattle.r6_recover.proofs.apart.restore_from_q_into.Goals as goal

pub returns-clause-restored : goal.returns-clause-restored
returns-clause-restored c =
    let blocks : List (List ℕ) = c.args.blocks.now in
    let x : ℕ = c.args.x in
    let m : ℕ = length blocks - 2 in
    let len : ℕ = length c.args.target.now in
    let within : x + 2 < length blocks = c.requires.within in
    let few : length blocks ≤ 32 = c.requires.few in
    let count : length blocks ≡ m + 2 = omega arith in
    λ full is agree.
    c.recover_from_q.ensures.lost
    ∙ (λ i. scale ((c.new-back.ensures ∙ c.weight_back.ensures) i) (block_sum (q_of len (without len x (take m blocks))) (get_or blocks (m + 1) [])))
    ∙ value_from_q m len blocks full count is x (omega arith) (omega arith) agree
