-- The parts of devices that a shard was given: none is lost (this project's own).
use Rattle.std.specs.Prelude.{◌≡◌, ◌<◌, ℕ, List, ◌++◌, length, map, IsPermutation}
use Rattle.r6_layout.specs.Shape.{Shape}
use Rattle.r6_world.specs.Registers.{Snapshot}
use Rattle.r6_engine.specs.lists.Events.{Event, numbers_of, tasks_of}
use Rattle.r6_engine.specs.declared.lists.work.EventPart.{EventPart}
use Rattle.r6_engine.specs.declared.lists.work.EventPart.TheVariants.{TakeUp}
use Rattle.r6_shard.specs.Here.{BeginsHere, HasUsed, StaysHere}
use Rattle.r6_shard.specs.Parts.{labels_of}
use Rattle.r6_shard.specs.declared.performs.Performs.{Ghosts}
use Rattle.r6_engine.specs.declared.runner.runner.Handed.{Handed}
use Rattle.r6_engine.specs.declared.runner.runner.Runner.{Runner}
use Rattle.r6_engine.specs.runner.Tasks.{NewPart, parts_in}

-- of which slots and generations the parts are that came by the list
abbrev pub labels_in : List Handed → List (ℕ × ℕ)
labels_in handed = map (λ h. (h.slot, h.generation)) handed

-- of the parts that were there at first, and of those that came by the list, each is the shard's or stands among the
-- others
abbrev pub HasAll : {P D : Type 0} {g : Ghosts P} → (first : List (ℕ × ℕ)) → Runner P D g → Type 0
HasAll {g = g} first runner =
    IsPermutation (first ++ labels_in runner.handed.items)
    ((g.performer runner.shard.parts).labels ++ labels_of runner.others.items)

-- a shard begins with these parts and this window: all are its own, and each is here that it uses, if one is for the
-- first device of each slot that isn't lost
pub record BeginsOwn {P D : Type 0} {g : Ghosts P} (first : List (ℕ × ℕ)) (slots : ℕ) (snapshot : Snapshot) (window : ℕ)
    (runner : Runner P D g) : Type 0 where
  pub all : HasAll first runner
  pub here : (slot : ℕ) → BeginsHere first slots snapshot slot
      → HasUsed (g.performer runner.shard.parts).labels slot runner.shard.core
  pub window_is : runner.shard.core.window ≡ window

-- no part of the shard is lost, those that it uses stay here, and so do its window and its room for parts; and its
-- commands are performed where they were
pub record KeepsOwn {P D : Type 0} {g : Ghosts P} (old new : Runner P D g) : Type 0 where
  pub all : (first : List (ℕ × ℕ)) → HasAll first old → HasAll first new
  pub room : (g.performer new.shard.parts).part_room ≡ (g.performer old.shard.parts).part_room
  pub site : g.site new.shard.parts ≡ g.site old.shard.parts
  pub here : StaysHere old.shard new.shard
  pub window : new.shard.core.window ≡ old.shard.core.window

-- the parts of new devices that all tasks of a shard bring
abbrev pub all_parts : Shape → List Event → (number : ℕ) → List NewPart
all_parts shape events number = parts_in shape number events (numbers_of (tasks_of shape number events))

-- as many parts came by the list as the tasks of these numbers brought
abbrev pub HaveCome : {P D : Type 0} {g : Ghosts P} → Shape → List Event → (number : ℕ) → (numbers : List ℕ)
    → Runner P D g → Type 0
HaveCome shape events number numbers runner =
    length runner.handed.items ≡ length (parts_in shape number events numbers)

-- there is room for the part of a new device, if the work brings one
abbrev pub HasPartRoom : {P D : Type 0} {g : Ghosts P} → EventPart D → Runner P D g → Type 0
HasPartRoom (TakeUp slot generation part) runner = length runner.handed.items < runner.attaches
HasPartRoom work runner = Unit {0}

-- no part comes or goes
pub record KeepsParts {P D : Type 0} {g : Ghosts P} (old new : Runner P D g) : Type 0 where
  pub labels : (g.performer new.shard.parts).labels ≡ (g.performer old.shard.parts).labels
  pub room : (g.performer new.shard.parts).part_room ≡ (g.performer old.shard.parts).part_room
  pub site : g.site new.shard.parts ≡ g.site old.shard.parts
  pub handed : new.handed.items ≡ old.handed.items
  pub others : new.others.items ≡ old.others.items
  pub here : StaysHere old.shard new.shard
  pub window : new.shard.core.window ≡ old.shard.core.window
