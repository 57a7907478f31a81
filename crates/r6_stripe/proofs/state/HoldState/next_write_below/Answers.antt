use Rattle.std.proofs.Common.{◌≡◌, ◌<◌, ◌≤◌, ℕ, length, sym, ◌∙◌, refl, subst, arith, None, Some, MatchOption}
use Rattle.std.specs.Prelude.{Option, option_map}
use Rattle.r6_stripe.specs.Plans as plans
use Rattle.r6_stripe.specs.Plans.Next.{WriteAt}
use Rattle.r6_stripe.specs.Views.{hold_of}
use Rattle.r6_stripe.specs.declared.state.HoldState.{HoldState}
use Rattle.r6_stripe.proofs.Alone.{cells_alone, next_write_alone}
use Rattle.r6_stripe.proofs.state.HoldState.next_write_below.Goals as goal

mapped_same : (o q : Option ℕ) → option_map WriteAt o ≡ option_map WriteAt q → q ≡ o
mapped_same None None e = refl
mapped_same (Some i) None e = absurd cc
mapped_same None (Some j) e = absurd cc
mapped_same (Some i) (Some j) e = cc

-- the lowest write, as it is found
first : (s : HoldState) (o : Option ℕ) → option_map WriteAt o ≡ plans.next_write (hold_of s) → plans.first_from (plans.is_next_write (hold_of s)) 0 (length (hold_of s).cells) ≡ o
first s o found = mapped_same o (plans.first_from (plans.is_next_write (hold_of s)) 0 (length (hold_of s).cells)) (found ∙ next_write_alone (hold_of s) (cells_alone s.places s.blocks.items))

pub returns-in_err-position : goal.returns-in_err-position
returns-in_err-position c =
    let s = c.args.self.now in
    let none = first s c.next_write.result c.next_write.ensures ∙ c.in_err-position.was in
    subst (λ (r : Option ℕ). MatchOption r ((i : ℕ) → plans.first_from (plans.is_next_write (hold_of s)) 0 (length (hold_of s).cells) ≡ Some i → c.args.limit ≤ i) (λ i. (plans.first_from (plans.is_next_write (hold_of s)) 0 (length (hold_of s).cells) ≡ Some i) × (i < c.args.limit)))
    (sym c.from_residual.ensures) (λ i e. absurd (let f = sym none ∙ e in cc))

pub returns-then-position-limit : goal.returns-then-position-limit
returns-then-position-limit c = (first c.args.self.now c.next_write.result c.next_write.ensures ∙ c.in_ok-position.was, c.if-position-limit.true)

pub returns-else-position-limit : goal.returns-else-position-limit
returns-else-position-limit c = λ i e.
    let same : Some c.in_ok-position.position ≡ Some i = sym (first c.args.self.now c.next_write.result c.next_write.ensures ∙ c.in_ok-position.was) ∙ e in
    let is : c.in_ok-position.position ≡ i = cc in
    omega (arith, is, c.if-position-limit.false)
