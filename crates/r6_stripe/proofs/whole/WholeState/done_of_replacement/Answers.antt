use Rattle.std.proofs.Common.{◌≡◌, ◌≢◌, true, false, Bool, ℕ, ◌<◌, List, length, get_or, sym, ap, subst, ◌∙◌, refl, arith, Some, None, Option}
use Rattle.std.proofs.lemmas.List.{get_or_past}
use Rattle.std.proofs.lemmas.Bool.{cases_lt}
use Rattle.r6_stripe.specs.Replacements.{IsReplacing, held_beside, with_replacement}
use Rattle.r6_stripe.specs.RowViews.{row_of_state}
use Rattle.r6_stripe.specs.Steps.{Held, answered, is_away}
use Rattle.r6_stripe.specs.WholeViews.{IsSoundReplacing, whole_of_state}
use Rattle.r6_stripe.specs.declared.replacement.Stage.TheVariants as stage
use Rattle.r6_stripe.proofs.ReplacingAnswers.{answer_away, answer_both, answer_kept}
use Rattle.r6_stripe.proofs.ReplacingSettles.{answer_class, confirm_moved, moved_parts, not_moved_parts}
use Rattle.r6_stripe.proofs.ReplacingEvents.{moved_apart}
use Rattle.r6_stripe.proofs.ReplacingWhole.{seen_is, source}
use Rattle.r6_stripe.proofs.whole.WholeState.done_of_replacement.Goals.{After-has_moved}
use Rattle.r6_stripe.proofs.whole.WholeState.done_of_replacement.Goals as goal

away_below : (away : List Bool) (i : ℕ) → get_or away i false ≡ true → i < length away
away_below away i e = elim (cases_lt i (length away)) [ Rattle.std.proofs.Common.inl below ↦ below | Rattle.std.proofs.Common.inr past ↦ absurd (let f = sym (get_or_past away i false past) ∙ e in cc) ]

module _ (c : After-has_moved) where
  abbrev held : Held
  held = row_of_state c.args.self.now.row

  from : IsSoundReplacing c.args.self.now.row (Some c.args.replacement)
  from = source c.args.self.now c.args.replacement c.requires.sound c.requires.replacement

  seen : whole_of_state c.args.self.now ≡ held_beside c.args.replacement (row_of_state c.args.self.now.row)
  seen = seen_is c.args.self.now c.args.replacement c.requires.sound c.requires.replacement

  gone : is_away (held_beside c.args.replacement (row_of_state c.args.self.now.row)) c.args.position ≡ true
  gone = sym (ap (λ (h : Held). is_away h c.args.position) seen) ∙ c.requires.away

  -- the answer to a command of the position's own device
  module _ (other : c.has_moved.result ≡ false) where
    apart : c.args.replacement.stage ≡ stage.Moved → c.args.position ≢ c.args.replacement.position
    apart = not_moved_parts c.args.replacement c.args.position (sym c.has_moved.ensures ∙ other)

    away : is_away held c.args.position ≡ true
    away = sym (answer_away held c.args.replacement from.1 c.args.position apart) ∙ gone

    inside : c.args.position < length held.planned.hold.cells
    inside = omega (arith, away_below held.away c.args.position away, from.1.wide)

pub done-requires-clause-away : goal.done-requires-clause-away
done-requires-clause-away c = away (goal.at.done-requires-clause-away c).After-has_moved c.if-has_moved.false

pub confirm-requires-clause-away : goal.confirm-requires-clause-away
confirm-requires-clause-away c =
    let a = (goal.at.confirm-requires-clause-away c).After-has_moved in
    let r = c.args.replacement in
    let parts = moved_parts r c.args.position (sym c.has_moved.ensures ∙ c.if-has_moved.true) in
    sym (ap (λ (h : Held). h.second_away) (Rattle.r6_stripe.proofs.ReplacingWhole.row_is c.args.self.now.row r (from a)))
    ∙ moved_apart (held a) r (from a).1 parts.0 (subst (λ (i : ℕ). is_away (held_beside r (held a)) i ≡ true) parts.1 (gone a))

pub returns-then-has_moved-clause-answered : goal.returns-then-has_moved-clause-answered
returns-then-has_moved-clause-answered c =
    let a = (goal.at.returns-then-has_moved-clause-answered c).After-has_moved in
    let r = c.args.replacement in
    let parts = moved_parts r c.args.position (sym c.has_moved.ensures ∙ c.if-has_moved.true) in
    (λ k. with_replacement (c.confirm.ensures.replacement k) (c.confirm.ensures.row k))
    ∙ confirm_moved (held a) r (from a).1 c.args.buffer parts.0 (subst (λ (i : ℕ). is_away (held_beside r (held a)) i ≡ true) parts.1 (gone a))
    ∙ (λ k. answered (sym (seen a) k) (sym parts.1 k) c.args.buffer)

pub returns-clause-answered : goal.returns-clause-answered
returns-clause-answered c =
    let a = (goal.at.returns-clause-answered c).After-has_moved in
    let r = c.args.replacement in
    let o = c.if-has_moved.false in
    (λ k. with_replacement (c.requires.replacement k) (answer_class (held a) r (from a).1 c.args.position c.args.buffer (inside a o) (away a o) (apart a o) (row_of_state c.done.new.self) c.done.ensures.answered c.done.ensures.class k))
    ∙ answer_both (held a) r (from a).1 c.args.position c.args.buffer (away a o) (apart a o)
    ∙ ap (λ (h : Held). answered h c.args.position c.args.buffer) (sym (seen a))

pub returns-clause-sound : goal.returns-clause-sound
returns-clause-sound c =
    let a = (goal.at.returns-clause-sound c).After-has_moved in
    let r = c.args.replacement in
    let o = c.if-has_moved.false in
    record {
      row = c.done.ensures.sound;
      replacement = subst (IsSoundReplacing c.done.new.self) (sym c.requires.replacement) (
        c.done.ensures.second ∙ (from a).0,
        subst (λ (h : Held). IsReplacing h r) (sym (answer_class (held a) r (from a).1 c.args.position c.args.buffer (inside a o) (away a o) (apart a o) (row_of_state c.done.new.self) c.done.ensures.answered c.done.ensures.class))
            (answer_kept (held a) r (from a).1 c.args.position c.args.buffer (inside a o) (away a o) (apart a o)),
      );
    }
