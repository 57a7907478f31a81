-- What is known of who performs commands, and what it does with one.
use Rattle.std.specs.Prelude.{◌≡◌, ◌≢◌, ℕ, Bool, List, length, Option, Some, None, IsOk, MatchResult, Result}
use Rattle.std.specs.List.{Contains}
use Rattle.r6_dev.specs.History.{Telling}
use Rattle.r6_dev.specs.Promises.{Promise, Covers}
use Rattle.r6_dev.specs.declared.fault.Fault.{Fault}
use Rattle.r6_dev.specs.declared.fault.Fault.TheVariants as dev
use Rattle.r6_world.specs.Tables.{put}
use Rattle.r6_world.specs.Values.{given_transfer}
use Rattle.r6_world.specs.declared.values.Command.{Command}
use Rattle.r6_world.specs.declared.values.CommandKind.TheVariants.{Read}
use Rattle.r6_world.specs.declared.values.DeviceFault.{DeviceFault}
use Rattle.r6_world.specs.declared.values.FaultKind.{FaultKind}
use Rattle.r6_world.specs.declared.values.FaultKind.TheVariants as core
use Rattle.r6_course.specs.Steps.{Does, MissesRead, OthersAreKept}
use Rattle.r6_exchange.specs.declared.completion.Completion.{Completion}

-- By slot and generation what each part tells once the completions that came are counted (None: no part is there), and
-- which commands it promises never to answer by a fault; of which slots the parts are served to the last command (of
-- those of another nothing is promised); of which slots and generations parts were taken up, and for how many there is
-- room; and the commands that are out, by token
pub record Performer : Type 0 where
  pub tells : ℕ → ℕ → Option Telling
  pub promised : ℕ → ℕ → Promise
  pub steady : ℕ → Bool
  pub labels : List (ℕ × ℕ)
  pub part_room : ℕ
  pub out : ℕ → Option Command

-- a part is there
abbrev pub HasPart : (ℕ → ℕ → Option Telling) → (slot generation : ℕ) → Type 0
HasPart part slot generation = part slot generation ≢ None

-- among parts of these slots and generations there is one of this
abbrev pub IsHere : (labels : List (ℕ × ℕ)) → (slot generation : ℕ) → Type 0
IsHere labels slot generation = Contains labels (slot, generation)

-- what a fault of a device is to the core
abbrev pub kind_of : Fault → FaultKind
kind_of dev.ReadFault = core.ReadFault
kind_of dev.WriteFault = core.WriteFault
kind_of dev.Gone = core.Gone
kind_of dev.Length = core.Length

-- its part did what the command says, and no other changed
pub record Performed (old new : ℕ → ℕ → Option Telling) (c : Command) (came : List ℕ) : Type 0 where
  pub before : Telling
  pub behind : Telling
  pub was : old c.slot c.generation ≡ Some before
  pub is : new c.slot c.generation ≡ Some behind
  pub others : OthersAreKept c.slot c.generation old new
  pub does : Does before (given_transfer c.kind c.buffer) c.row came behind
  pub same_length : length came ≡ length c.buffer

-- its part answered by a fault: after a read error of a read it has every block as before, and after any other it may
-- tell anything. No other part changed
pub record Failed (old new : ℕ → ℕ → Option Telling) (c : Command) (fault : DeviceFault) : Type 0 where
  pub others : OthersAreKept c.slot c.generation old new
  pub same_length : length fault.buffer ≡ length c.buffer
  pub misses : fault.kind ≡ core.ReadFault → c.kind ≡ Read → MissesRead c.slot c.generation c.row old new

-- it was performed, or it failed
abbrev pub Did : (old new : ℕ → ℕ → Option Telling) → Command → Result (List ℕ) DeviceFault → Type 0
Did old new c result = MatchResult result (Performed old new c) (Failed old new c)

-- one command more is out
abbrev pub having_sent : Performer → Command → Performer
having_sent p c = record p { out = put p.out c.token (Some c) }

-- A command that was out is answered, under its token and slot, without a fault if its part promised that, and is out no
-- more
pub record Receives (old new : Performer) (a : Completion) : Type 0 where
  pub command : Command
  pub was_out : old.out a.token ≡ Some command
  pub slot : a.slot ≡ command.slot
  pub did : Did old.tells new.tells command a.result
  pub sound : Covers (old.promised command.slot command.generation) command.row (length command.buffer) → IsOk a.result
  pub out : new.out ≡ put old.out a.token None
  pub promised : new.promised ≡ old.promised
  pub steady : new.steady ≡ old.steady
  pub labels : new.labels ≡ old.labels
  pub part_room : new.part_room ≡ old.part_room
