use Rattle.std.proofs.Common.{◌≡◌, Bool, sym, ◌∙◌, ap, Option, Some}
use Rattle.std.specs.Prelude.{if◌then◌else◌}
use Rattle.r6_stripe.specs.Plans as plans
use Rattle.r6_stripe.specs.Views.{hold_of, kind_of}
use Rattle.r6_stripe.specs.declared.command.RowTask.{RowTask}
use Rattle.r6_stripe.specs.declared.command.RowTask.TheVariants as task
use Rattle.r6_stripe.proofs.state.HoldState.first_plan.Goals as goal

pub returns-in-Rebuild-clause-plan : goal.returns-in-Rebuild-clause-plan
returns-in-Rebuild-clause-plan c =
    let s = c.args.self.now in
    let is : s.task ≡ Some (task.Rebuild c.in-Rebuild.field-0) = c.in-Some.is ∙ ap (λ (t : RowTask). Some t) c.in-Rebuild.is in
    sym (ap (λ (t : Option RowTask). plans.first_plan (hold_of s) (kind_of t)) is
    ∙ ap (λ (b : Bool). if b then plans.Plan.One else plans.Plan.Recover) (c.requires.target c.in-Rebuild.field-0 (ap kind_of is)))
