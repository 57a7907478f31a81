use Rattle.std.proofs.Common.{◌≡◌, ◌+◌, ◌-◌, ◌<◌, ◌≤◌, ℕ, List, length, ◌∙◌, arith}
use Rattle.r6_field.specs.Field.{power, generator}
use Rattle.r6_kernels.specs.Recovery.{lost_from_q, p_with_lost}
use Rattle.r6_recover.specs.Rows.{AgreeBut}
use Rattle.r6_recover.proofs.RestoreLaws.{value_from_q, value_with_lost}
use Rattle.r6_recover.proofs.apart.restore_with_p_into.Goals as goal

pub returns-clause-target : goal.returns-clause-target
returns-clause-target c =
    let blocks : List (List ℕ) = c.args.blocks.now in
    let x : ℕ = c.args.x in
    let m : ℕ = length blocks - 2 in
    let len : ℕ = length c.args.target.now in
    let within : x + 2 < length blocks = c.requires.within in
    let few : length blocks ≤ 32 = c.requires.few in
    let count : length blocks ≡ m + 2 = omega arith in
    λ full is agree.
    c.recover_with_p.ensures.lost
    ∙ (λ i. lost_from_q len x ((c.new-back.ensures ∙ c.weight_back.ensures) i) blocks)
    ∙ value_from_q m len blocks full count is x (omega arith) (omega arith) agree

pub returns-clause-p : goal.returns-clause-p
returns-clause-p c =
    let blocks : List (List ℕ) = c.args.blocks.now in
    let x : ℕ = c.args.x in
    let m : ℕ = length blocks - 2 in
    let len : ℕ = length c.args.target.now in
    let within : x + 2 < length blocks = c.requires.within in
    let few : length blocks ≤ 32 = c.requires.few in
    let count : length blocks ≡ m + 2 = omega arith in
    λ full is agree.
    let agree' : AgreeBut x m blocks full = λ k nx nm. agree k nm nx in
    c.recover_with_p.ensures.p
    ∙ (λ i. p_with_lost len x ((c.new-back.ensures ∙ c.weight_back.ensures) i) blocks)
    ∙ value_with_lost m len blocks full count is x (omega arith) agree' (lost_from_q len x (power generator (255 - x)) blocks)
    (value_from_q m len blocks full count is x (omega arith) (omega arith) agree')
