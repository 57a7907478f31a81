-- An array that was served, its shards in threads of their own, is one run of the world of an array (this project's own;
-- that all calls of shared objects can be told as those of one is linearizability: Herlihy and Wing).
use Rattle.std.specs.Prelude.{◌≡◌, ℕ, List, [], map, slice_get, Some}
use Rattle.std.specs.List.{AllZip}
use Rattle.r6_dev.specs.History.{Telling}
use Rattle.r6_layout.specs.Shape.{Shape}
use Rattle.r6_health.specs.Histories as history
use Rattle.r6_health.specs.declared.history.View.{View}
use Rattle.r6_world.specs.Claims.{IsLawfulStart}
use Rattle.r6_world.specs.Geometries.{layout_of}
use Rattle.r6_world.specs.PlainArray.{Array}
use Rattle.r6_world.specs.Registers.{Snapshot}
use Rattle.r6_world.specs.Witness.{after_all}
use Rattle.r6_world.specs.Worlds.{Devices, Happening, Moment, started}
use Rattle.r6_merge.specs.Courses.{history_in}
use Rattle.r6_merge.specs.Passes.{IsCaller}
use Rattle.r6_merge.specs.Weaving.{IsArrayRun, IsWoven}
use Rattle.r6_shard.specs.Beginnings.{Hold, start_of}
use Rattle.r6_shard.specs.Parts.{part_in}
use Rattle.r6_shard.specs.declared.parts.Parts.{Parts}
use Rattle.r6_shard.specs.declared.performs.Performs.{Ghosts}
use Rattle.r6_engine.specs.Explained.{Tells, TellsShard}
use Rattle.r6_engine.specs.Generations.{HasAgreed}
use Rattle.r6_engine.specs.Passes.{IsKnownTo}
use Rattle.r6_engine.specs.ServedShards.{new_parts}
use Rattle.r6_engine.specs.Serves.{HaveServed}
use Rattle.r6_engine.specs.declared.feed.answer.EventAnswer.{EventAnswer}
use Rattle.r6_engine.specs.declared.ledger.Ledger.{Ledger}
use Rattle.r6_engine.specs.declared.reply.EventReply.{EventReply}
use Rattle.r6_engine.specs.declared.runner.runner.Handed.{Handed}
use Rattle.r6_engine.specs.declared.runner.runner.Runner.{Runner}
use Rattle.r6_engine.specs.lists.Events.{Event}
use Rattle.r6_engine.specs.runner.Learning.{KeepsAllElse}
use Rattle.r6_engine.specs.runner.Runners.{NoneIsSilent, taken_up}
use Rattle.r6_engine.specs.runner.Tasks.{handed_of, slot_of}

-- This is what happens in one run of the array, to which its law applies. In it the users of each shard see what its
-- ledger and the replies tell; and it ends with each shard as its ledger tells it, and with this register
pub record IsOneRun (shape : Shape) (events : List Event) (start : Snapshot) (device : Devices) (array : Array)
    (replies : List EventReply) (snapshot : Snapshot) (ledgers : List Ledger) (happenings : List Happening) : Type 0 where
  pub moments : List Moment
  pub one : IsArrayRun (layout_of shape) (started (layout_of shape) start device) array happenings moments
  pub tells : (shard : ℕ) (ledger : Ledger) → slice_get ledgers shard ≡ Some ledger
      → Tells events replies ledger (history_in shard [] happenings)
  pub ends : (shard : ℕ) (ledger : Ledger) → slice_get ledgers shard ≡ Some ledger
      → TellsShard shape.slots ((after_all (layout_of shape) (started (layout_of shape) start device) moments).shard shard) ledger
  pub register : (after_all (layout_of shape) (started (layout_of shape) start device) moments).register ≡ snapshot

-- Each shard has a run of its own; these can be woven; and in whatever order they are, that is such a run
pub record AreOneRun (shape : Shape) (events : List Event) (start : Snapshot) (device : Devices) (array : Array)
    (replies : List EventReply) (snapshot : Snapshot) (ledgers : List Ledger) : Type 0 where
  pub runs : ℕ → List Moment
  pub some : (happenings : List Happening) × IsWoven (layout_of shape) runs happenings
  pub every : (happenings : List Happening) → IsWoven (layout_of shape) runs happenings
      → IsOneRun shape events start device array replies snapshot ledgers happenings

-- The parts of new devices came to each shard, under the generations that the register answered; and from each lawful
-- start whose devices hold what the parts of all shards told when they came, the shards are one run
pub record RunAsOne {D : Type 0} (told : D → Telling) (shape : Shape) (events : List Event) (start : Snapshot)
    (parts : List (Parts D)) (answers : List EventAnswer) (replies : List EventReply) (snapshot : Snapshot)
    (ledgers : List Ledger) : Type 0 where
  pub handed : ℕ → List Handed
  pub came : (shard : ℕ) (own : Parts D) → slice_get parts shard ≡ Some own
      → map slot_of (new_parts shape shard events) ≡ map handed_of (handed shard)
  pub agreed : (shard : ℕ) (own : Parts D) → slice_get parts shard ≡ Some own → HasAgreed answers (handed shard)
  pub one_run : ((shard : ℕ) (own : Parts D) → slice_get parts shard ≡ Some own
      → NoneIsSilent (part_in told own.parts.items) (new_parts shape shard events))
      → (device : Devices) (array : Array) → IsLawfulStart (layout_of shape) start device array
      → ((shard : ℕ) (own : Parts D) → slice_get parts shard ≡ Some own
      → Hold (start_of shape shard start device array)
      (taken_up (part_in told own.parts.items) (new_parts shape shard events) (handed shard)))
      → AreOneRun shape events start device array replies snapshot ledgers

-- ---- while the threads run

-- The calling thread's pass knew all calls of these shards, which had done their parts of the events: these are the
-- shards since, of which no more changed than what their passes know
pub record HaveOneHistory {P D : Type 0} {g : Ghosts P} (told : D → Telling) (shape : Shape) (events : List Event)
    (start : Snapshot) (window : ℕ) (parts : List (Parts D)) (snapshot : Snapshot) (runners : List (Runner P D g))
    : Type 0 where
  pub last : View
  pub caller : IsCaller shape.shards last
  pub between : List (Runner P D g)
  pub served : HaveServed told shape events start window parts between
  pub known : (shard : ℕ) (runner : Runner P D g) → slice_get between shard ≡ Some runner → IsKnownTo last runner
  pub kept : AllZip KeepsAllElse between runners
  pub slots : last.start.slots ≡ shape.slots
  pub shards : last.start.shards ≡ shape.shards
  pub legal : history.IsLegal last.start last.seen
  pub held : snapshot ≡ history.held last.start last.seen
