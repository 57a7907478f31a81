-- That checks and repairs of a shard skip no row (md(4): a check reads every row; what it skips is this project's own).
use Rattle.std.specs.Prelude.{◌≡◌, ℕ, ◌<◌, Bool, true, false, List, slice_index_or, Some}
use Rattle.r6_stripe.specs.Holds.{Kind, passes_over}
use Rattle.r6_stripe.specs.Holds.Kind.{Idle, Read as RowRead, Write as RowWrite, Rebuild as RowRebuild, Check as RowCheck, Repair as RowRepair}
use Rattle.r6_health.specs.declared.history.HistoryEntry.{HistoryEntry}
use Rattle.r6_health.specs.declared.history.View.{View}
use Rattle.r6_health.specs.Histories.{held, StartsWith}
use Rattle.r6_world.specs.Layouts.{Layout}
use Rattle.r6_world.specs.Registers.{Snapshot, InSync, is_in_sync, status_of}
use Rattle.r6_world.specs.Tasks.{Task, Hold, ReadFor, WriteFor, Rebuild, Check, Repair}
use Rattle.r6_world.specs.ShardStates.{Shard, Synced}
use Rattle.r6_world.specs.Refusals.{IsInError}
use Rattle.r6_core.specs.Shards.{CoreView, core_layout, world_shard}

-- no slot is named, and none was seen that wasn't in sync
abbrev pub IsClean : (named : List Bool) → (saw_out : Bool) → Type 0
IsClean named saw_out = ((slot : ℕ) → slice_index_or named slot false ≡ false) × (saw_out ≡ false)

-- each slot is in sync
abbrev pub AreAllInSync : Snapshot → Type 0
AreAllInSync snapshot = (slot : ℕ) → slot < 32 → is_in_sync (status_of snapshot slot) ≡ true

-- each is so on its first device: a slot with another one has been out, or was replaced
abbrev pub AreAllFirst : Snapshot → Type 0
AreAllFirst snapshot = (slot : ℕ) → slot < 32 → status_of snapshot slot ≡ InSync 0

-- at no time that the pass has seen was a slot not in sync
abbrev pub WereAllInSync : View → Type 0
WereAllInSync v = (front : List HistoryEntry) → StartsWith v.seen front → AreAllInSync (held v.start front)

-- the shard saw a slot that wasn't in sync only where its pass did
abbrev pub SawWithPass : (saw_out : Bool) → View → Type 0
SawWithPass saw_out v = WereAllInSync v → saw_out ≡ false

-- what was named or seen stays so
abbrev pub Remembers : (named : List Bool) → (saw_out : Bool) → (named' : List Bool) → (saw_out' : Bool) → Type 0
Remembers named saw_out named' saw_out' = IsClean named' saw_out' → IsClean named saw_out

-- whether a hold rebuilds
abbrev pub is_rebuild : Kind → Bool
is_rebuild Idle = false
is_rebuild (RowRead index) = false
is_rebuild (RowWrite batch) = false
is_rebuild (RowRebuild target) = true
is_rebuild RowCheck = false
is_rebuild RowRepair = false

-- the task is the rebuild of a slot's row: no read, write, check or repair
abbrev pub rebuilds : Task → Bool
rebuilds (ReadFor id block) = false
rebuilds (WriteFor writes) = false
rebuilds (Rebuild slot generation) = true
rebuilds Check = false
rebuilds Repair = false

-- Every slot is in sync on its first device, no row was skipped, and no hold was cut short by a loss or met a read
-- error
pub record IsWhole (l : Layout) (s : Shard) : Type 0 where
  pub in_sync : (slot : ℕ) → slot < l.slots → s.slot slot ≡ Synced 0
  pub unskipped : s.counts.skipped ≡ 0
  pub uncut : (f : ℕ) (h : Hold) → s.frame f ≡ Some h → passes_over h.course ≡ false
  pub none_in_error : (slot : ℕ) → IsInError l s slot → ⊥
  pub tasks : (f : ℕ) (h : Hold) → s.frame f ≡ Some h → is_rebuild h.course.kind ≡ rebuilds h.task

-- a shard has skipped no row unless it names a slot, or saw one that wasn't in sync
abbrev pub SkipsNone : CoreView → (named : List Bool) → (saw_out : Bool) → Type 0
SkipsNone core named saw_out = IsClean named saw_out → IsWhole (core_layout core) (world_shard core)
