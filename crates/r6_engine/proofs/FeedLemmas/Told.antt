-- What the register told stays told.
use Rattle.std.proofs.Common.{◌≡◌, ℕ, List, [], ◌∷◌, ◌++◌, length, Result, Ok, Err, refl, sym, ap, ◌∙◌, subst, arith}
use Rattle.r6_health.specs.Passes.{IsPassOf, view_of}
use Rattle.r6_health.specs.Views.{Answered, Brought, Refused, Grows}
use Rattle.r6_health.specs.declared.history.View.{View}
use Rattle.r6_health.specs.declared.pass.Pass.{Pass}
use Rattle.r6_health.specs.declared.register.Register.{Register}
use Rattle.r6_health.specs.declared.call.Call.{Call}
use Rattle.r6_health.specs.declared.call.Call.TheVariants as call
use Rattle.r6_health.specs.declared.call.Answer.{Answer}
use Rattle.r6_health.specs.declared.refusal.Refusal.{Refusal}
use Rattle.r6_health.specs.declared.refusal.Refusal.TheVariants as refusal
use Rattle.r6_health.proofs.Histories.{starts_with_itself, starts_with-trans}
use Rattle.r6_health.proofs.Tells.{grows_none, grows-trans, looks-after, extends-after, misses_after, seen_after, seen_after_bringing, refused-grows}
use Rattle.r6_engine.specs.declared.feed.answer.AnsweredHere.{AnsweredHere}
use Rattle.r6_engine.specs.declared.feed.answer.AnsweredHere.TheVariants as outcome
use Rattle.r6_engine.specs.declared.feed.answer.EventAnswer.{EventAnswer}
use Rattle.r6_engine.specs.feed.Feeds.{call_of, IsLater, IsTold, WereTold, Begins, Sees, Joins, Hears, TellsOn}

-- ---- a call that is tried until others no longer come between

pub no_call_yet : (register : Register) (pass : Pass) → IsPassOf register pass → Grows (view_of pass) (view_of pass)
no_call_yet register pass its = grows_none (view_of pass) its.begun

pub came_between : (v u w : View) (c : Call) (result : Result Answer Refusal) → Grows v u → Answered u c result w
    → result ≡ Err refusal.Contended → Grows v w
came_between v u w c result grows was is =
    grows-trans v u w grows (refused-grows u w c refusal.Contended (subst (λ r. Answered u c r w) is was))

pub came_between_bringing : (v u w : View) (c : Call) (result : Result ℕ Refusal) → Grows v u → Brought u c result w
    → result ≡ Err refusal.Contended → Grows v w
came_between_bringing v u w c result grows was is =
    grows-trans v u w grows (refused-grows u w c refusal.Contended (subst (λ r. Brought u c r w) is was))

refused_since : (v u w : View) (c : Call) (r : Refusal) → Grows v u → Refused u c r w → Refused v c r w
refused_since v u w c refusal.NoSuchSlot grows was = (looks-after v u w grows was.0, was.1)
refused_since v u w c refusal.AlreadyLost grows was = (looks-after v u w grows was.0, was.1)
refused_since v u w c refusal.Stale grows was = (looks-after v u w grows was.0, was.1)
refused_since v u w c refusal.NotLost grows was = (looks-after v u w grows was.0, was.1)
refused_since v u w c refusal.ArrayFailed grows was = (looks-after v u w grows was.0, was.1)
refused_since v u w c refusal.AlreadyReported grows was = (looks-after v u w grows was.0, was.1)
refused_since v u w c refusal.GenerationsSpent grows was = (looks-after v u w grows was.0, was.1)
refused_since v u w c refusal.NotInSync grows was = (looks-after v u w grows was.0, was.1)
refused_since v u w c refusal.ReplacementBusy grows was = (looks-after v u w grows was.0, was.1)
refused_since v u w c refusal.Contended grows was = misses_after v u w c grows was

pub answered_since : (v u w : View) (c : Call) (result : Result Answer Refusal) → Grows v u → Answered u c result w
    → Answered v c result w
answered_since v u w c (Ok reply) grows was = extends-after v u w c reply grows was
answered_since v u w c (Err r) grows was = refused_since v u w c r grows was

pub brought_since : (v u w : View) (c : Call) (result : Result ℕ Refusal) → Grows v u → Brought u c result w
    → Brought v c result w
brought_since v u w c (Ok generation) grows was = extends-after v u w c _ grows was
brought_since v u w c (Err r) grows was = refused_since v u w c r grows was

-- ---- one answer behind the other

-- neither was a call made nor an event answered
pub tells_same : (old new : Pass) (before after : List EventAnswer) → new ≡ old → after ≡ before
    → TellsOn (view_of old) before (view_of new) after
tells_same old new before after same none first told =
    subst (λ p. WereTold first after (view_of p)) (sym same)
    (subst (λ answers. WereTold first answers (view_of old)) (sym none) told)

pub tells_more : (v w : View) (before after : List EventAnswer) (answer : EventAnswer) → after ≡ before ++ answer ∷ []
    → IsTold v answer.outcome w → TellsOn v before w after
tells_more v w before after answer more was first told =
    subst (λ answers. WereTold first answers w) (sym more) (Hears before answer v w told was)

later_on : (u v w : View) → IsLater u v → IsLater v w → IsLater u w
later_on u v w earlier later = record {
  same_start = later.same_start ∙ earlier.same_start;
  seen = starts_with-trans w.seen v.seen u.seen later.seen earlier.seen;
}

later_refused : (v w : View) (c : Call) (r : Refusal) → Refused v c r w → IsLater v w
later_refused v w c r was =
    let grows = refused-grows v w c r was in record { same_start = grows.same_start; seen = grows.seen }

later_called : (v w : View) (outcome : AnsweredHere) → IsTold v outcome w → IsLater v w
later_called v w outcome.OutOfRange same =
    subst (λ u. IsLater v u) (sym same) (record { same_start = refl; seen = starts_with_itself v.seen })
later_called v w (outcome.Failed slot (Ok reply)) was =
    record { same_start = was.same_start; seen = seen_after v w (call.Fail slot) (Ok reply) was }
later_called v w (outcome.Failed slot (Err r)) was = later_refused v w (call.Fail slot) r was
later_called v w (outcome.Brought how slot (Ok generation)) was =
    record { same_start = was.same_start; seen = seen_after_bringing v w (call_of how slot) (Ok generation) was }
later_called v w (outcome.Brought how slot (Err r)) was = later_refused v w (call_of how slot) r was

pub later_told : (first : View) (answers : List EventAnswer) (last : View) → WereTold first answers last → IsLater first last
later_told first _ _ Begins = record { same_start = refl; seen = starts_with_itself first.seen }
later_told first _ _ (Sees answers known last told grows) =
    later_on first known last (later_told first answers known told)
    (record { same_start = grows.same_start; seen = grows.seen })
later_told first _ _ (Joins answers known other told) =
    let before = later_told first answers known told in
    record { same_start = before.same_start; seen = before.seen }
later_told first _ _ (Hears answers answer known last told was) =
    later_on first known last (later_told first answers known told) (later_called known last answer.outcome was)

pub none_answered : (answers : List EventAnswer) → length answers ≡ 0 → answers ≡ []
none_answered [] none = refl
none_answered (answer ∷ answers) none = absurd (omega (arith, none))

-- ---- the pass keeps its name, and gives none

abbrev pub KeepsNames : View → View → Type 0
KeepsNames v w = (w.name ≡ v.name) × (w.next ≡ v.next)

grown_names : (v w : View) → Grows v w → KeepsNames v w
grown_names v w grows = (grows.name, grows.next)

answered_names : (v w : View) (c : Call) (result : Result Answer Refusal) → Answered v c result w → KeepsNames v w
answered_names v w c (Ok reply) made = (made.name, made.next)
answered_names v w c (Err r) was = grown_names v w (refused-grows v w c r was)

brought_names : (v w : View) (c : Call) (result : Result ℕ Refusal) → Brought v c result w → KeepsNames v w
brought_names v w c (Ok generation) made = (made.name, made.next)
brought_names v w c (Err r) was = grown_names v w (refused-grows v w c r was)

outcome_names : (v : View) (outcome : AnsweredHere) (w : View) → IsTold v outcome w → KeepsNames v w
outcome_names v outcome.OutOfRange w same = (ap (λ (u : View). u.name) same, ap (λ (u : View). u.next) same)
outcome_names v (outcome.Failed slot answer) w told = answered_names v w (call.Fail slot) answer told
outcome_names v (outcome.Brought how slot answer) w told = brought_names v w (call_of how slot) answer told

pub told_names : (first : View) (answers : List EventAnswer) (last : View) → WereTold first answers last → KeepsNames first last
told_names first _ _ Begins = (refl, refl)
told_names first _ _ (Sees answers known last told grows) =
    let before = told_names first answers known told in (grows.name ∙ before.0, grows.next ∙ before.1)
told_names first _ _ (Joins answers known other told) = told_names first answers known told
told_names first _ _ (Hears answers answer known last told was) =
    let before = told_names first answers known told in
    let now = outcome_names known answer.outcome last was in (now.0 ∙ before.0, now.1 ∙ before.1)
