-- A course of events goes on by one more.
use Rattle.std.proofs.Common.{◌≡◌, ℕ, ◌+◌, ◌<◌, List, [], ◌∷◌, ◌++◌, length, get_or, take, refl, sym, ap, subst, ◌∙◌, append_assoc}
use Rattle.std.proofs.lemmas.List.{take_more}
use Rattle.r6_script.specs.declared.script.Event.{Event}
use Rattle.r6_simulate.specs.Plays.{Course, Plays}
use Rattle.r6_simulate.specs.declared.array.Simulation.{Simulation}

pub one_more_event : (old middle new : Simulation) (events : List Event) (e : Event) (printed line : List ℕ) → Course old events printed middle → Plays e middle [] new line
    → Course old (events ++ e ∷ []) (printed ++ (line ++ 10 ∷ [])) new
one_more_event old middle new [] e printed line course plays =
    (new, line, [], subst (λ (s : Simulation). Plays e s [] new line) course.1 plays, ap (λ text. text ++ (line ++ 10 ∷ [])) course.0, (refl, refl))
one_more_event old middle new (d ∷ events) e printed line course plays = (
  course.0,
  course.1,
  course.2 ++ (line ++ 10 ∷ []),
  course.3,
  ap (λ text. text ++ (line ++ 10 ∷ [])) course.4 ∙ append_assoc course.1 (10 ∷ course.2) (line ++ 10 ∷ []),
  one_more_event course.0 middle new events e course.2 line course.5 plays,
)

-- the event at the index is played
pub one_more_taken : (old middle new : Simulation) (events : List Event) (index : ℕ) (e d : Event) (printed line : List ℕ) → index < length events
    → Course old (take index events) printed middle → Plays e middle [] new line → e ≡ get_or events index d
    → Course old (take (index + 1) events) (printed ++ (line ++ 10 ∷ [])) new
one_more_taken old middle new events index e d printed line there course plays is =
    subst (λ taken. Course old taken (printed ++ (line ++ 10 ∷ [])) new)
    (sym (take_more events index d there ∙ ap (λ (x : Event). take index events ++ x ∷ []) (sym is)))
    (one_more_event old middle new (take index events) e printed line course plays)
