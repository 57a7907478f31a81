-- Calls of a handle of one shard as happenings of a run of cores (this project's own).
use Rattle.std.specs.Prelude.{◌≡◌, ◌≢◌, ℕ, List, map}
use Rattle.r6_world.specs.Geometries.{layout_of}
use Rattle.r6_world.specs.Registers.{Snapshot, RegisterCall}
use Rattle.r6_world.specs.Worlds.{World, Devices}
use Rattle.r6_world.specs.Laws.{IsOfOutside, IsByAnyone}
use Rattle.r6_world.specs.Witness.{after_all}
use Rattle.r6_core.specs.Shards.{CoreView, SameShard}
use Rattle.r6_core.specs.Runs.{Happening, moment_of, cores_behind, IsShard, IsThis, CoresRun}
use Rattle.r6_array.specs.Runs.{moments_of, AreHonest}
use Rattle.r6_array.specs.Handles.{HandleView, core_in, number_of}

-- A run of cores has come to this shard, and to a register that holds this
pub record IsBeside (h : HandleView) (register : Snapshot) (w : World) (cores : ℕ → CoreView) : Type 0 where
  pub register_is : w.register ≡ register
  pub core_is : cores (number_of h) ≡ core_in h

-- With this every run of these cores goes on, beside these calls at the register, that has come to the old shard at the
-- old register, over honest devices; it comes to the new ones, and the other cores stay as they are
abbrev pub GoesOnAmong : (Ours : ℕ → Type 0) → (Comes : RegisterCall → Type 0) → HandleView → Snapshot
    → List Happening → HandleView → Snapshot → Type 0
GoesOnAmong Ours Comes old register happenings new register' =
    SameShard (core_in old) (core_in new)
    × ((w : World) (cores : ℕ → CoreView) → IsBeside old register w cores → (noise : ℕ → Devices)
    → let l = layout_of (core_in old).shape in
    let moments = moments_of noise happenings in
    AreHonest l w moments
    → CoresRun l Ours Comes w cores moments
    × IsBeside new register' (after_all l w (map moment_of moments)) (cores_behind cores moments)
    × ((m : ℕ) → m ≢ number_of old → cores_behind cores moments m ≡ cores m))

-- So goes on the run of this core alone, beside any calls at the register, whoever makes them; and the run of the cores
-- of all shards, beside calls from outside
abbrev pub GoesOnBeside : HandleView → Snapshot → List Happening → HandleView → Snapshot → Type 0
GoesOnBeside old register happenings new register' =
    GoesOnAmong (IsThis (number_of old)) IsByAnyone old register happenings new register'
    × GoesOnAmong (IsShard (core_in old).shape) IsOfOutside old register happenings new register'

-- whatever the register holds, and it stays so
abbrev pub GoesOnAway : HandleView → List Happening → HandleView → Type 0
GoesOnAway old happenings new = (register : Snapshot) → GoesOnBeside old register happenings new register
