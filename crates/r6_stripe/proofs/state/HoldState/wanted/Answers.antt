use Rattle.std.proofs.Common.{length, sym, ◌∙◌, ap}
use Rattle.std.specs.Prelude.{nat_lt, ◌&&◌, not}
use Rattle.r6_stripe.specs.Plans as plans
use Rattle.r6_stripe.specs.Views.{hold_of, plan_of}
use Rattle.r6_stripe.specs.declared.plan.Plan.{Plan}
use Rattle.r6_stripe.proofs.MaskedPlans.{wanted_others, wanted_own}
use Rattle.r6_stripe.proofs.state.HoldState.wanted.Goals as goal

pub returns-in-Reconstruct : goal.returns-in-Reconstruct
returns-in-Reconstruct c i =
    let s = c.args.self.now in
    c.but.ensures i
    ∙ (λ j. c.all-all.ensures.every i j && not (c.changed.ensures i j))
    ∙ wanted_others (nat_lt i (length s.places)) (plans.puts_data (hold_of s).kind i) (plans.is_parity (hold_of s) i)
    ∙ sym (ap (λ (p : Plan). nat_lt i (length s.places) && plans.wants (plan_of p) (hold_of s) i) c.in-Reconstruct.is)

pub returns-in-Modify : goal.returns-in-Modify
returns-in-Modify c i =
    let s = c.args.self.now in
    c.and-in-Modify.ensures i
    ∙ (λ j. c.all-all.ensures.every i j && c.changed-in-Modify.ensures i j)
    ∙ wanted_own (nat_lt i (length s.places)) (plans.puts_data (hold_of s).kind i) (plans.is_parity (hold_of s) i)
    ∙ sym (ap (λ (p : Plan). nat_lt i (length s.places) && plans.wants (plan_of p) (hold_of s) i) c.in-Modify.is)

pub returns-in-One : goal.returns-in-One
returns-in-One c i =
    let s = c.args.self.now in
    c.and.ensures i
    ∙ (λ j. c.all-all.ensures.every i j && c.its_block.ensures i j)
    ∙ sym (ap (λ (p : Plan). nat_lt i (length s.places) && plans.wants (plan_of p) (hold_of s) i) c.in-One.is)
