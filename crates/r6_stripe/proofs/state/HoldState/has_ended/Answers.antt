use Rattle.std.proofs.Common.{sym, ◌∙◌, ap}
use Rattle.std.specs.Prelude.{◌&&◌, option_map}
use Rattle.r6_stripe.specs.Plans as plans
use Rattle.r6_stripe.specs.Plans.{is_none}
use Rattle.r6_stripe.specs.Views.{hold_of, planned_of}
use Rattle.r6_stripe.proofs.Nexts.{over_given_up}
use Rattle.r6_stripe.proofs.state.HoldState.has_ended.Goals as goal

pub returns-then-not-is_quiet : goal.returns-then-not-is_quiet
returns-then-not-is_quiet c =
    let s = c.args.self.now in
    sym (over_given_up (planned_of s) c.requires ∙ ap (λ quiet. quiet && is_none (plans.next_again (hold_of s))) (sym c.is_quiet.ensures ∙ c.if-not-is_quiet.true))

pub returns-in-Some : goal.returns-in-Some
returns-in-Some c =
    let s = c.args.self.now in
    sym (over_given_up (planned_of s) c.requires ∙ ap (λ quiet. quiet && is_none (plans.next_again (hold_of s))) (sym c.is_quiet.ensures ∙ c.if-not-is_quiet.false)
    ∙ ap is_none (sym c.next_again.ensures ∙ ap (option_map plans.Next.ReadAgainAt) c.in-Some.is))

pub returns-in-None : goal.returns-in-None
returns-in-None c =
    let s = c.args.self.now in
    sym (over_given_up (planned_of s) c.requires ∙ ap (λ quiet. quiet && is_none (plans.next_again (hold_of s))) (sym c.is_quiet.ensures ∙ c.if-not-is_quiet.false)
    ∙ ap is_none (sym c.next_again.ensures ∙ ap (option_map plans.Next.ReadAgainAt) c.in-None.is))
