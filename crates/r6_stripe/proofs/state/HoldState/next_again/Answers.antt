use Rattle.std.proofs.Common.{◌≡◌, Bool, true, false, length, refl, sym, ◌∙◌, ap, None, Some, Option}
use Rattle.std.specs.Prelude.{if◌then◌else◌, is_some, not, option_map, ◌||◌}
use Rattle.r6_stripe.specs.Places.{is_fix_out, is_rereadable}
use Rattle.r6_stripe.specs.Plans as plans
use Rattle.r6_stripe.specs.Views.{hold_of, kind_of}
use Rattle.r6_stripe.specs.declared.command.RowTask.{RowTask}
use Rattle.r6_stripe.specs.declared.command.RowTask.TheVariants as task
use Rattle.r6_stripe.proofs.MaskedPlaces.{any_masked, first_masked}
use Rattle.r6_stripe.proofs.Places.{fix_out-blind, rereadable-blind}
use Rattle.r6_stripe.proofs.state.HoldState.next_again.Goals as goal

idle_is : (t : Option RowTask) → not (is_some t) ≡ plans.is_idle (kind_of t)
idle_is None = refl
idle_is (Some (task.Read index)) = refl
idle_is (Some (task.Write batch)) = refl
idle_is (Some (task.Rebuild target)) = refl
idle_is (Some task.Check) = refl
idle_is (Some task.Repair) = refl

either : (a b d : Bool) (o : Option plans.Next) → (a || b || d) ≡ true → None ≡ (if a || b || d then None else o)
either a b d o e = sym (ap (λ (x : Bool). if x then None else o) e)

first : (a b d : Bool) → a ≡ true → (a || b || d) ≡ true
first true b d e = refl
first false b d e = absurd cc

second : (a b d : Bool) → b ≡ true → (a || b || d) ≡ true
second true b d e = refl
second false true d e = refl
second false false d e = absurd cc

third : (a b d : Bool) → d ≡ true → (a || b || d) ≡ true
third true b d e = refl
third false true d e = refl
third false false d e = e

pub returns-then-is_none : goal.returns-then-is_none
returns-then-is_none c =
    let hold = hold_of c.args.self.now in
    let idle = sym (idle_is c.args.self.now.task) ∙ ap not (c.is_none.ensures ∙ ap not c.if-is_none.true) in
    either (plans.is_idle hold.kind) (plans.has_computed hold) (plans.has_fix_out hold) _ (first (plans.is_idle hold.kind) (plans.has_computed hold) (plans.has_fix_out hold) idle)

pub returns-then-has_computed : goal.returns-then-has_computed
returns-then-has_computed c =
    let hold = hold_of c.args.self.now in
    either (plans.is_idle hold.kind) (plans.has_computed hold) (plans.has_fix_out hold) _ (second (plans.is_idle hold.kind) (plans.has_computed hold) (plans.has_fix_out hold) (sym c.has_computed.ensures ∙ c.if-has_computed.true))

pub returns-then-not-is_empty : goal.returns-then-not-is_empty
returns-then-not-is_empty c =
    let s = c.args.self.now in
    let hold = hold_of s in
    let fixes = any_masked is_fix_out fix_out-blind refl s.places s.blocks.items c.fix_out.result c.is_empty.result c.fix_out.ensures c.is_empty.ensures.none c.is_empty.ensures.some in
    either (plans.is_idle hold.kind) (plans.has_computed hold) (plans.has_fix_out hold) _ (third (plans.is_idle hold.kind) (plans.has_computed hold) (plans.has_fix_out hold) (fixes ∙ ap not c.if-not-is_empty.true))

pub returns : goal.returns
returns c =
    let s = c.args.self.now in
    let hold = hold_of s in
    let idle = sym (idle_is c.args.self.now.task) ∙ ap not (c.is_none.ensures ∙ ap not c.if-is_none.false) in
    let computed = sym c.has_computed.ensures ∙ c.if-has_computed.false in
    let fixes = any_masked is_fix_out fix_out-blind refl s.places s.blocks.items c.fix_out.result c.is_empty.result c.fix_out.ensures c.is_empty.ensures.none c.is_empty.ensures.some ∙ ap not c.if-not-is_empty.false in
    let found = first_masked is_rereadable rereadable-blind refl s.places s.blocks.items c.rereadable.result c.lowest.result c.rereadable.ensures c.lowest.ensures in
    ap (option_map plans.Next.ReadAgainAt) found
    ∙ sym (λ i. if idle i || computed i || fixes i then None else option_map plans.Next.ReadAgainAt (plans.first_from (plans.is_next_again hold) 0 (length hold.cells)))
