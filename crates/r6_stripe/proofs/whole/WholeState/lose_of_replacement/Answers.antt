use Rattle.std.proofs.Common.{◌≡◌, ◌⊎◌, inl, inr, ◌<◌, sym, ap, subst, ◌∙◌, refl, length, arith, Some}
use Rattle.r6_stripe.specs.Plans.{Plan, after_loss}
use Rattle.r6_stripe.specs.Plans.Plan.{One, Recover}
use Rattle.r6_stripe.specs.Replacements.{IsReplacing, held_beside, planned_beside, with_plan, with_replacement}
use Rattle.r6_stripe.specs.RowViews.{row_of_state}
use Rattle.r6_stripe.specs.Steps.{Held, lost}
use Rattle.r6_stripe.specs.WholeViews.{IsSoundReplacing, whole_of_state}
use Rattle.r6_stripe.specs.declared.replacement.Replacement.{Replacement}
use Rattle.r6_stripe.specs.declared.replacement.Written.TheVariants as written
use Rattle.r6_stripe.proofs.Places.{length-cells_of}
use Rattle.r6_stripe.proofs.ReplacingAnswers.{lose_both, lose_kept, loss_shape, lost_as, lost_plain}
use Rattle.r6_stripe.proofs.ReplacingWhole.{row_is, seen_is, source}
use Rattle.r6_stripe.proofs.whole.WholeState.lose_of_replacement.Goals.{After-lose}
use Rattle.r6_stripe.proofs.whole.WholeState.lose_of_replacement.Goals as goal

either : {A B : Type 0} (q : Plan) → ((q ≡ One) × A) ⊎ ((q ≡ Recover) × B) → (q ≡ One) ⊎ (q ≡ Recover)
either q (inl h) = inl h.0
either q (inr h) = inr h.0

module _ (c : After-lose) where
  abbrev held : Held
  held = row_of_state c.args.self.now.row

  abbrev r : Replacement
  r = c.args.replacement

  from : IsSoundReplacing c.args.self.now.row (Some c.args.replacement)
  from = source c.args.self.now c.args.replacement c.requires.sound c.requires.replacement

  seen : whole_of_state c.args.self.now ≡ held_beside c.args.replacement (row_of_state c.args.self.now.row)
  seen = seen_is c.args.self.now c.args.replacement c.requires.sound c.requires.replacement

  abbrev q : Plan
  q = after_loss (row_of_state c.args.self.now.row).planned.plan (planned_beside c.args.replacement (row_of_state c.args.self.now.row).planned).hold c.args.position

  shape : ((q ≡ One) × (held.planned.plan ≡ One)) ⊎ ((q ≡ Recover) × ((held.planned.plan ≡ Recover) ⊎ ((c.args.position ≡ r.position) × (r.written ≡ written.Unwritten))))
  shape = loss_shape held r from.1 c.args.position q refl

  row_then : row_of_state c.lose.new.self ≡ lost_as held r from.1 c.args.position q
  row_then =
      c.lose.ensures.held
      ∙ ap (λ (h : Held). lost h c.args.position) (c.plan_for_loss.ensures.row ∙ ap (λ (h : Held). with_plan (after_loss h.planned.plan h.planned.hold c.args.position) held) seen)
      ∙ lost_plain held r from.1 c.args.position q (either q shape)

  inside : c.args.position < length held.planned.hold.cells
  inside =
      let row = c.args.self.now.row in
      let wide = ap (λ (h : Held). length h.planned.hold.cells) (row_is row r from) in
      omega (arith, c.requires.place, wide, length-cells_of row.hold.places row.hold.blocks.items)

  kept : IsReplacing (lost_as held r from.1 c.args.position q) r
  kept = lose_kept held r from.1 c.args.position inside q (either q shape) (one shape) (recovers shape)
    where
      one : ((q ≡ One) × (held.planned.plan ≡ One)) ⊎ ((q ≡ Recover) × ((held.planned.plan ≡ Recover) ⊎ ((c.args.position ≡ r.position) × (r.written ≡ written.Unwritten)))) → q ≡ One → held.planned.plan ≡ One
      one (inl h) e = h.1
      one (inr h) e = absurd (let f = sym e ∙ h.0 in cc)

      recovers : ((q ≡ One) × (held.planned.plan ≡ One)) ⊎ ((q ≡ Recover) × ((held.planned.plan ≡ Recover) ⊎ ((c.args.position ≡ r.position) × (r.written ≡ written.Unwritten)))) →
          q ≡ Recover → (held.planned.plan ≡ Recover) ⊎ ((c.args.position ≡ r.position) × (r.written ≡ written.Unwritten))
      recovers (inl h) e = absurd (let f = sym e ∙ h.0 in cc)
      recovers (inr h) e = h.1

  same : c.plan_for_loss.new.self.replacement ≡ Some c.args.replacement
  same = c.plan_for_loss.ensures.replacement ∙ c.requires.replacement

pub returns-clause-held : goal.returns-clause-held
returns-clause-held c =
    let a = (goal.at.returns-clause-held c).After-lose in
    (λ k. with_replacement (same a k) (row_then a k))
    ∙ lose_both (row_of_state c.args.self.now.row) c.args.replacement (from a).1 c.args.position (q a) refl
    ∙ ap (λ (h : Held). lost h c.args.position) (sym (seen a))

pub returns-clause-sound : goal.returns-clause-sound
returns-clause-sound c =
    let a = (goal.at.returns-clause-sound c).After-lose in
    record {
      row = c.lose.ensures.sound;
      replacement = subst (IsSoundReplacing c.lose.new.self) (sym (same a))
          (c.lose.ensures.alone (c.plan_for_loss.ensures.second ∙ (from a).0), subst (λ (h : Held). IsReplacing h c.args.replacement) (sym (row_then a)) (kept a));
    }
