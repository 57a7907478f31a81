-- Under which generations the parts of new devices came, and what the register answered (this project's own).
use Rattle.std.specs.Prelude.{◌≡◌, ◌≤◌, ℕ, true, All, List, map, filter_map, Option, Some, None}
use Rattle.r6_engine.specs.declared.feed.answer.EventAnswer.{EventAnswer}
use Rattle.r6_engine.specs.declared.feed.answer.AnsweredHere.{AnsweredHere}
use Rattle.r6_engine.specs.declared.feed.answer.AnsweredHere.TheVariants.{OutOfRange, Failed, Brought}
use Rattle.r6_engine.specs.feed.Feeds.{generation_of}
use Rattle.r6_engine.specs.declared.runner.runner.Handed.{Handed}

-- a new device: its event, and the generation that the register answered, 0 where it refused it
abbrev pub device_of : (event : ℕ) → AnsweredHere → Option (ℕ × ℕ)
device_of event OutOfRange = None
device_of event (Failed slot answer) = None
device_of event (Brought how slot answer) = Some (event, generation_of answer)

-- the same of an answer with the number of its event; nothing where the event brought no device
abbrev pub device_in : EventAnswer → Option (ℕ × ℕ)
device_in answer = device_of answer.event answer.outcome

-- the new devices among the answers, in the order of the events
abbrev pub answered_in : List EventAnswer → List (ℕ × ℕ)
answered_in answers = filter_map device_in answers

-- the parts that came to a shard, each with its event and the generation under which it came
abbrev pub handed_in : List Handed → List (ℕ × ℕ)
handed_in handed = map {B = ℕ × ℕ} (λ part. (part.event, part.generation)) handed

-- a part that was taken in came under a generation that the register gave
abbrev pub HasGeneration : Handed → Type 0
HasGeneration part = part.taken ≡ true → 1 ≤ part.generation

-- the parts came under the generations that the register answered, and none was taken in that it refused
abbrev pub HasAgreed : List EventAnswer → List Handed → Type 0
HasAgreed answers handed = (handed_in handed ≡ answered_in answers) × All HasGeneration handed
