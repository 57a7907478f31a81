use Rattle.std.proofs.Common.{◌≡◌, ◌+◌, ◌-◌, ◌*◌, ◌/◌, ◌^◌, ◌≤◌, ℕ, sym, ap, subst, ◌∙◌}
use Rattle.std.proofs.Math.Nat.{div-mul-le_self, mod-eq-sub-div-mul}
use Rattle.r6_layout.proofs.Quotients.{quotient_by_inverse}
use Rattle.r6_layout.proofs.division.divide.Goals as goal

divided : (c : goal.After-inverse) → (c.args.number + 1) * c.inverse.result / 2 ^ 36 ≡ c.args.number / c.args.divisor
divided c =
    ap (λ (m : ℕ). (c.args.number + 1) * m / 2 ^ 36) c.inverse.ensures
    ∙ quotient_by_inverse c.args.number c.args.divisor c.requires.some c.requires.most c.requires.few

pub returns : goal.returns
returns c = record {
  quotient = divided c;
  remainder = ap (λ (q : ℕ). c.args.number - q * c.args.divisor) (divided c) ∙ sym (mod-eq-sub-div-mul c.args.number c.args.divisor);
}

pub overflow_sub-result : goal.overflow_sub-result
overflow_sub-result c =
    subst (λ (q : ℕ). q * c.args.divisor ≤ c.args.number) (sym (divided c)) (div-mul-le_self c.args.number c.args.divisor)
