-- Workers that stop, and the slots of the others (this project's own).
use Rattle.std.specs.Prelude.{◌≡◌, ◌==◌, ◌%◌, ℕ, Bool, true, List, length, slice_get, if◌then◌else◌, Option, Some, None}
use Rattle.r6_engine.specs.declared.serving.Stop.{Stop}
use Rattle.r6_engine.specs.declared.crew.Crew.{Crew}
use Rattle.r6_engine.specs.remote.Remotes.{goes_on}

-- the worker of a shard that stops, if one does
abbrev pub stopping_in : Option Stop → (shard : ℕ) → Option ℕ
stopping_in None shard = None
stopping_in (Some stop) shard = if stop.shard == shard then Some stop.worker else None

-- the worker of a slot performs the shard's commands to the last, where each shard has so many
abbrev pub is_steady : Option Stop → (workers : ℕ) → (shard slot : ℕ) → Bool
is_steady stop workers shard slot = goes_on (stopping_in stop shard) (slot % workers)

-- so do these workers of all shards, as they are made
abbrev pub AreSteady : {D : Type 0} → (steady : (shard slot : ℕ) → Bool) → List (Crew D) → Type 0
AreSteady {D = D} steady crews =
    (shard slot : ℕ) (crew : Crew D) → slice_get crews shard ≡ Some crew → steady shard slot ≡ true
    → goes_on crew.stop (slot % length crew.ends.items) ≡ true
