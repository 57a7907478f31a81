-- As many parts of new devices come as the tasks bring.
use Rattle.std.proofs.Common.{◌≡◌, ℕ, ◌+◌, ◌≤◌, List, [], ◌∷◌, ◌++◌, take, drop, length, refl, sym, ap, ◌∙◌, arith, Option, Some, None, option_and_then}
use Rattle.std.specs.List.{cons_option, filter_map}
use Rattle.std.proofs.lemmas.List.{append-nil, length-append, length_push, take-append-drop}
use Rattle.std.proofs.lemmas.List.Elements.{filter_map-append}
use Rattle.r6_dev.specs.History.{Telling}
use Rattle.r6_dev.specs.Promises.{Promise}
use Rattle.r6_layout.specs.Shape.{Shape}
use Rattle.r6_engine.specs.lists.Events.{Event, Duty, Takes_up, Task, task, task_at, tasks_of, numbers_of}
use Rattle.r6_engine.specs.lists.Lists.{duty_in}
use Rattle.r6_engine.specs.declared.lists.work.EventPart.{EventPart}
use Rattle.r6_engine.specs.declared.lists.work.EventPart.TheVariants as work
use Rattle.r6_exchange.specs.declared.task.Part.{Part}
use Rattle.r6_shard.specs.declared.performs.Performs.{Ghosts}
use Rattle.r6_engine.specs.declared.runner.due.Due.{Due}
use Rattle.r6_engine.specs.declared.runner.runner.Runner.{Runner}
use Rattle.r6_engine.specs.runner.Parts.{HasPartRoom, HaveCome, KeepsParts, all_parts}
use Rattle.r6_engine.specs.runner.Runners.{IsHandedIn, IsPut}
use Rattle.r6_engine.specs.runner.Tasks.{NewPart, part_in, parts_in}
use Rattle.r6_engine.proofs.RunnerLemmas.Tasks.{of_tasks-more}

few-first : {A B : Type 0} (f : A → Option B) (k : ℕ) (xs : List A) → length (filter_map f (take k xs)) ≤ length (filter_map f xs)
few-first f k xs =
    let all = ap (filter_map f) (sym (take-append-drop k xs)) ∙ filter_map-append f (take k xs) (drop k xs) in
    let long = ap length all ∙ length-append (filter_map f (take k xs)) (filter_map f (drop k xs)) in omega (arith, long)

module _ (shape : Shape) (events : List Event) (number : ℕ) where
  -- one task more, which brings no part, or one
  pub none-more : (numbers : List ℕ) (n waits : ℕ) (duty : Duty) → task_at shape number events n ≡ Some (task n waits duty)
      → part_in n duty ≡ None
      → length (parts_in shape number events (numbers ++ n ∷ [])) ≡ length (parts_in shape number events numbers)
  none-more numbers n waits duty at none =
      ap length (of_tasks-more part_in shape number events numbers n waits duty at
      ∙ ap (λ o. parts_in shape number events numbers ++ cons_option o []) none
      ∙ append-nil (parts_in shape number events numbers))

  pub one-more : (numbers : List ℕ) (n waits : ℕ) (duty : Duty) (p : NewPart) → task_at shape number events n ≡ Some (task n waits duty)
      → part_in n duty ≡ Some p
      → length (parts_in shape number events (numbers ++ n ∷ [])) ≡ length (parts_in shape number events numbers) + 1
  one-more numbers n waits duty p at some =
      ap length (of_tasks-more part_in shape number events numbers n waits duty at
      ∙ ap (λ o. parts_in shape number events numbers ++ cons_option o []) some)
      ∙ length_push (parts_in shape number events numbers) p

  -- ---- as calls do it

  pub put-come : {P D : Type 0} {g : Ghosts P} (old new : Runner P D g) (d : Due) (numbers : List ℕ) (n waits : ℕ) (duty : Duty)
      → task_at shape number events n ≡ Some (task n waits duty) → part_in n duty ≡ None → IsPut d old new
      → HaveCome shape events number numbers old → HaveCome shape events number (numbers ++ n ∷ []) new
  put-come old new d numbers n waits duty at none h x =
      ap length h.handed ∙ x ∙ sym (none-more numbers n waits duty at none)

  pub handed-come : {P D : Type 0} {g : Ghosts P} (told : D → Telling) (promised : D → Promise) (old new : Runner P D g)
      (numbers : List ℕ) (n waits : ℕ) (part : Part D)
      → task_at shape number events n ≡ Some (task n waits (Takes_up part.slot (told part.device)))
      → IsHandedIn told promised n part old new
      → HaveCome shape events number numbers old → HaveCome shape events number (numbers ++ n ∷ []) new
  handed-come told promised old new numbers n waits part at h x =
      let long = ap length h.handed ∙ length_push old.handed.items _ in
      let more = one-more numbers n waits (Takes_up part.slot (told part.device)) _ at refl in omega (arith, long, more, x)

  pub still-come : {P D : Type 0} {g : Ghosts P} (old new : Runner P D g) (numbers : List ℕ) → KeepsParts old new
      → HaveCome shape events number numbers old → HaveCome shape events number numbers new
  still-come old new numbers kept x = ap length kept.handed ∙ x

  -- a part that comes is among those that all tasks bring
  pub part-room : {P D : Type 0} {g : Ghosts P} (told : D → Telling) (runner : Runner P D g) (numbers : List ℕ) (n waits : ℕ) (w : EventPart D)
      → task_at shape number events n ≡ Some (task n waits (duty_in told w))
      → numbers ++ n ∷ [] ≡ take (length (numbers ++ n ∷ [])) (numbers_of (tasks_of shape number events))
      → length (all_parts shape events number) ≤ runner.attaches → HaveCome shape events number numbers runner
      → HasPartRoom w runner
  part-room told runner numbers n waits (work.Read block buffer) at first room x = tt
  part-room told runner numbers n waits (work.Write block buffer) at first room x = tt
  part-room told runner numbers n waits work.Check at first room x = tt
  part-room told runner numbers n waits work.Repair at first room x = tt
  part-room told runner numbers n waits (work.TakeUp slot generation part) at first room x =
      let more = one-more numbers n waits (Takes_up slot (told part)) _ at refl in
      let same = ap (λ ns. length (parts_in shape number events ns)) first in
      let few =
      few-first (λ k. option_and_then (λ (t : Task). part_in k t.duty) (task_at shape number events k)) (length (numbers ++ n ∷ []))
      (numbers_of (tasks_of shape number events)) in
      omega (arith, more, same, few, room, x)
