use Rattle.std.proofs.Common.{length, refl, sym, ◌∙◌, ap}
use Rattle.std.specs.Prelude.{nat_lt, ◌&&◌}
use Rattle.r6_stripe.specs.Holds.{cell_at}
use Rattle.r6_stripe.specs.Plans as plans
use Rattle.r6_stripe.specs.Steps.{can_drop}
use Rattle.r6_stripe.specs.Views.{hold_of, plan_of}
use Rattle.r6_stripe.specs.declared.plan.Plan.{Plan}
use Rattle.r6_stripe.proofs.MaskedPlans.{dropped_parities}
use Rattle.r6_stripe.proofs.state.HoldState.dropped.Goals as goal

pub returns-in-Modify : goal.returns-in-Modify
returns-in-Modify c i =
    let s = c.args.self.now in
    dropped_parities s.places s.blocks.items (hold_of s) refl c.parities.result c.absent.result c.and.result c.parities.ensures c.absent.ensures c.and.ensures i
    ∙ sym (ap (λ (p : Plan). nat_lt i (length s.places) && (can_drop (plan_of p) (hold_of s) i && plans.is_out (cell_at (hold_of s).cells i).standing)) c.in-Modify.is)
