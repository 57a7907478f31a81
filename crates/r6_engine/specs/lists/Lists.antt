-- What a shard is handed, as a piece of work (this project's own).
use Rattle.std.specs.Prelude.{◌≡◌, ℕ}
use Rattle.r6_layout.specs.Shape.{Shape}
use Rattle.r6_dev.specs.History.{Telling}
use Rattle.r6_dev.specs.Promises.{Promise, FailsNone}
use Rattle.r6_world.specs.Geometries.{layout_of}
use Rattle.r6_world.specs.Layouts.{IsRowOf}
use Rattle.r6_world.specs.declared.values.Op.TheVariants as op
use Rattle.r6_engine.specs.declared.lists.work.EventPart.{EventPart}
use Rattle.r6_engine.specs.declared.lists.work.EventPart.TheVariants.{Read, Write, TakeUp, Check, Repair}
use Rattle.r6_engine.specs.lists.Events.{Duty, Serves, Takes_up, Checks, Repairs}

-- the duty that a piece of work is, by what parts of devices tell, whatever generation a part comes under
abbrev pub duty_in : {D : Type 0} → (D → Telling) → EventPart D → Duty
duty_in told (Read block buffer) = Serves (op.Read block buffer)
duty_in told (Write block buffer) = Serves (op.Write block buffer)
duty_in told (TakeUp slot generation part) = Takes_up slot (told part)
duty_in told Check = Checks
duty_in told Repair = Repairs

-- where the parts of new devices of its slot fail no command of this shard, as is promised, this one fails none
abbrev pub IsAsPromised : {D : Type 0} → (promised : D → Promise) → Shape → (Sound : (shard slot : ℕ) → Type 0)
    → (shard : ℕ) → EventPart D → Type 0
IsAsPromised {D = D} promised shape Sound shard work =
    (slot generation : ℕ) (part : D) → work ≡ TakeUp slot generation part → Sound shard slot
    → FailsNone (promised part) (IsRowOf (layout_of shape) shard) shape.block
