-- What the parts of a worker tell and promise, and what is known of them.
use Rattle.std.specs.Prelude.{◌≡◌, ℕ, ◌==◌, ◌&&◌, Bool, List, [], ◌∷◌, if◌then◌else◌, Option, Some, None}
use Rattle.r6_dev.specs.History.{Telling}
use Rattle.r6_dev.specs.Promises.{Promise}
use Rattle.r6_dev.specs.declared.fault.Fault.{Fault}
use Rattle.r6_dev.specs.declared.fault.Fault.TheVariants as dev
use Rattle.r6_world.specs.declared.values.Command.{Command}
use Rattle.r6_world.specs.declared.values.FaultKind.{FaultKind}
use Rattle.r6_world.specs.declared.values.FaultKind.TheVariants as core
use Rattle.r6_exchange.specs.declared.task.ServedPart.{ServedPart}
use Rattle.r6_exchange.specs.declared.completion.Completion.{Completion}
use Rattle.r6_exchange.specs.Answering.{Known, State, IsAnswer, known_of, performed, taken_up}

-- what a fault of a device is to the shard
abbrev pub kind_of : Fault → FaultKind
kind_of dev.ReadFault = core.ReadFault
kind_of dev.WriteFault = core.WriteFault
kind_of dev.Gone = core.Gone
kind_of dev.Length = core.Length

abbrev pub is_of : {D : Type 0} → (slot generation : ℕ) → ServedPart D → Bool
is_of slot generation served = (served.part.slot == slot) && (served.part.generation == generation)

-- the part of a slot and generation, if it is there
abbrev pub part_in : {D : Type 0} → (D → Telling) → (D → Promise) → List (ServedPart D) → State
part_in told promised [] slot generation = None
part_in told promised (served ∷ parts) slot generation =
    if is_of slot generation served then Some (known_of told promised served)
    else part_in told promised parts slot generation

abbrev pub Tells : (known there : Telling) → Type 0
Tells None there = Unit {0}
Tells (Some blocks) there = there ≡ Some blocks

-- a part is there exactly where one is known to be; it tells what is known that it tells, and promises what it is known
-- to promise
abbrev pub Keeps : (known found : Option Known) → Type 0
Keeps None found = found ≡ None
Keeps (Some known) found =
    (there : Known) × (found ≡ Some there) × (there.promise ≡ known.promise) × Tells known.telling there.telling

abbrev pub Holds : (known found : State) → Type 0
Holds known found = (slot generation : ℕ) → Keeps (known slot generation) (found slot generation)

-- a command is answered as is honest by what is known, whatever that is; and the parts hold what is known then
abbrev pub Does : {D : Type 0} → (D → Telling) → (D → Promise) → Command → Completion → (old new : List (ServedPart D))
    → Type 0
Does told promised c a old new =
    (known : State) → Holds known (part_in told promised old)
    → IsAnswer known c a × Holds (performed known c a) (part_in told promised new)

abbrev pub TakesUp : {D : Type 0} → (D → Telling) → (D → Promise) → ServedPart D → (old new : List (ServedPart D))
    → Type 0
TakesUp told promised served old new =
    (known : State) → Holds known (part_in told promised old)
    → Holds (taken_up told promised known served) (part_in told promised new)
