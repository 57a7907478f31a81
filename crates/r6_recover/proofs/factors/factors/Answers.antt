use Rattle.std.proofs.Common.{◌≡◌, ◌-◌, ◌<◌, ℕ, bit_xor, ◌∙◌, ap, sym, arith}
use Rattle.r6_field.specs.Field.{power, generator}
use Rattle.r6_recover.proofs.FactorLaws.{denominator-nonzero}
use Rattle.r6_recover.proofs.factors.factors.Goals as goal

pub quotient-requires : goal.quotient-requires
quotient-requires c =
    let before : c.args.x < c.args.y = c.requires.before in
    let few : c.args.y < 255 = c.requires.few in
    let divisor : c.add-divisor.result.0 ≡ bit_xor (power generator (c.args.y - c.args.x)) 1 =
    c.add-divisor.ensures ∙ ap (λ (a : ℕ). bit_xor a 1) c.exp-ratio.ensures in
    λ none. denominator-nonzero (c.args.y - c.args.x) (omega arith) (omega arith) (sym divisor ∙ none)

pub quotient-requires-2 : goal.quotient-requires-2
quotient-requires-2 c =
    let before : c.args.x < c.args.y = c.requires.before in
    let few : c.args.y < 255 = c.requires.few in
    let divisor : c.add-divisor.result.0 ≡ bit_xor (power generator (c.args.y - c.args.x)) 1 =
    c.add-divisor.ensures ∙ ap (λ (a : ℕ). bit_xor a 1) c.exp-ratio.ensures in
    λ none. denominator-nonzero (c.args.y - c.args.x) (omega arith) (omega arith) (sym divisor ∙ none)
