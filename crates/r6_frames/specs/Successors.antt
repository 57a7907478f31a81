-- The device of a held row that is to take another one's place, and which buffer left with a command.
use Rattle.std.specs.Prelude.{ℕ, ◌==◌, ◌&&◌, not, if◌then◌else◌, Bool, true, Option, Some, None}
use Rattle.r6_layout.specs.PlainArray.{Block}
use Rattle.r6_stripe.specs.Steps.{Held, answered, settled}
use Rattle.r6_frames.specs.declared.rebuilt.Target.{Target}
use Rattle.r6_frames.specs.declared.successor.Successor.{Successor}
use Rattle.r6_frames.specs.declared.successor.Successor.TheVariants.{None as NoOther, Beside, InPlace, Dropped}

abbrev pub is_device : Target → (slot generation : ℕ) → Bool
is_device target slot generation = (target.slot == slot) && (target.generation == generation)

-- another device than this one has had its place
abbrev pub is_before : Target → (slot generation : ℕ) → Bool
is_before target slot generation = (target.slot == slot) && not (target.generation == generation)

-- the buffer of a command to the device of the slot is its position's own
abbrev pub is_own : Successor → (slot generation : ℕ) → Bool
is_own NoOther slot generation = true
is_own (Beside target) slot generation = not (is_device target slot generation)
is_own (InPlace target) slot generation = not (is_before target slot generation)
is_own (Dropped target) slot generation = not (is_device target slot generation)

-- the device that stands beside the slot's first one
abbrev pub beside_in : Successor → (slot : ℕ) → Option ℕ
beside_in NoOther slot = None
beside_in (Beside target) slot = if target.slot == slot then Some target.generation else None
beside_in (InPlace target) slot = None
beside_in (Dropped target) slot = None

-- it has the place of the other one; and it is out, if it stood beside another one in the slot
abbrev pub moved : Successor → Successor
moved NoOther = NoOther
moved (Beside target) = InPlace target
moved (InPlace target) = InPlace target
moved (Dropped target) = Dropped target

abbrev pub dropped : Successor → (slot : ℕ) → Successor
dropped NoOther slot = NoOther
dropped (Beside target) slot = if target.slot == slot then Dropped target else Beside target
dropped (InPlace target) slot = InPlace target
dropped (Dropped target) slot = Dropped target

-- the position's own buffer comes home, or the one that is no position's
abbrev pub brought_home : (own : Bool) → Held → (position : ℕ) → Block → Held
brought_home own hold position block = if own then answered hold position block else settled hold position
