use Rattle.std.proofs.Common.{◌≡◌, Bool, true, false, refl, sym, ◌∙◌}
use Rattle.std.specs.Prelude.{not}
use Rattle.r6_stripe.specs.Plans as plans
use Rattle.r6_stripe.specs.Views.{hold_of, plan_of}
use Rattle.r6_stripe.proofs.Calm.{calm_read_out}
use Rattle.r6_stripe.proofs.state.HoldState.has_read.Goals as goal

pub returns-then-not-has_asked : goal.returns-then-not-has_asked
returns-then-not-has_asked c =
    let s = c.args.self.now in
    let answered : plans.has_read_out (hold_of s) ≡ false = calm_read_out (hold_of s) c.requires.mended ∙ sym c.has_asked.ensures ∙ c.if-not-has_asked.true in
    rw answered (c.is_enough.ensures ∙ twice (plans.is_enough (plan_of s.plan) (hold_of s)))
  where
    twice : (b : Bool) → b ≡ not (not b)
    twice true = refl
    twice false = refl
