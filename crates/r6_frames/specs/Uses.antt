-- What a frame is used for: a hold that begins in it, and buffers that come home to it.
use Rattle.std.specs.Prelude.{◌≡◌, ◌≢◌, ℕ, ◌+◌, ◌%◌, ◌<◌, ◌&&◌, ◌||◌, if◌then◌else◌, Bool, true, false, List, [], ◌∷◌, length, replicate, Option, Some, None, is_some}
use Rattle.std.specs.List.{list_any}
use Rattle.r6_layout.specs.Shape.{Shape}
use Rattle.r6_layout.specs.Layout as layout
use Rattle.r6_stripe.specs.Frames as buffers
use Rattle.r6_stripe.specs.Holds.{Kind, cell_at}
use Rattle.r6_stripe.specs.Holds.Kind.{Idle}
use Rattle.r6_stripe.specs.Plans.{is_out}
use Rattle.r6_stripe.specs.Steps.{Held, begun_beside, begun_held, is_away}
use Rattle.r6_stripe.specs.Views.{kind_of_task}
use Rattle.r6_stripe.specs.declared.command.RowTask.{RowTask}
use Rattle.r6_layout.specs.PlainArray.{Block}
use Rattle.r6_world.specs.Layouts.{first}
use Rattle.r6_frames.specs.declared.frames.Job.{Job}
use Rattle.r6_frames.specs.declared.frames.HeldRow.{HeldRow}
use Rattle.r6_frames.specs.declared.frames.FrameUse.{FrameUse}
use Rattle.r6_frames.specs.declared.frames.FrameUse.TheVariants as uses
use Rattle.r6_frames.specs.FramesState.{FramesState}
use Rattle.r6_frames.specs.declared.successor.Successor.{Successor}
use Rattle.r6_frames.specs.declared.successor.Successor.TheVariants as successor
use Rattle.r6_frames.specs.Successors.{brought_home, is_own}
use Rattle.r6_frames.specs.Slots.{is_second_synced, second_of, slot_in, states_of}
use Rattle.r6_frames.specs.Views.{is_rebuild, is_synced_at, rebuilds}
use Rattle.r6_world.specs.ShardStates.{second_in}

abbrev pub none_held : ℕ → List FrameUse
none_held n = replicate n uses.Free

-- the buffers are for a row of the array
abbrev pub IsForRow : Shape → buffers.Shape → Type 0
IsForRow shape frame = frame ≡ record { count = shape.slots; size = shape.block }

-- ---- a hold begins

-- which positions of the row are in sync
abbrev pub synced : FramesState → ℕ → List Bool
synced fs row = first fs.geometry.slots (is_synced_at fs row)

-- the position has a second device for the job: one in sync for the row, or one on which the job rebuilds the row
abbrev pub has_second_for : FramesState → (row : ℕ) → Job → (position : ℕ) → Bool
has_second_for fs row what position =
    let slot = layout.slot_at fs.geometry row position in
    let d = (slot_in fs.slots slot).device in
    is_some (second_of d) && (is_second_synced d row || rebuilds what slot)

-- this position has it, or none
abbrev pub IsSecondIn : FramesState → (row : ℕ) → Job → Option ℕ → Type 0
IsSecondIn fs row what None = (position : ℕ) → position < fs.geometry.slots
    → has_second_for fs row what position ≡ false
IsSecondIn fs row what (Some position) =
    (position < fs.geometry.slots) × (has_second_for fs row what position ≡ true)

abbrev pub begun_hold : (size : ℕ) → List Bool → Kind → (second : Option ℕ) → Held
begun_hold size in_sync kind None = begun_held size in_sync kind
begun_hold size in_sync kind (Some position) = begun_beside size in_sync kind position

-- the new device of the slot stands beside another one
abbrev pub beside_at : (slot generation : ℕ) → Successor
beside_at slot generation = successor.Beside (record { slot = slot; generation = generation })

abbrev pub second_on : FramesState → (slot : ℕ) → Successor
second_on fs slot = beside_at slot (second_in (states_of fs.slots slot))

abbrev pub begun_successor : FramesState → (row : ℕ) → (second : Option ℕ) → Successor
begun_successor fs row None = successor.None
begun_successor fs row (Some position) = second_on fs (layout.slot_at fs.geometry row position)

-- the same of a row whose first position stands on this slot
abbrev pub slot_from : FramesState → (first position : ℕ) → ℕ
slot_from fs first position = (first + position) % fs.geometry.slots

abbrev pub HasSecondAt : FramesState → (first position : ℕ) → Type 0
HasSecondAt fs first position =
    (position < fs.geometry.slots) × (second_of (slot_in fs.slots (slot_from fs first position)).device ≢ None)

abbrev pub successor_at : FramesState → (first position : ℕ) → Successor
successor_at fs first position = second_on fs (slot_from fs first position)

abbrev pub successor_of : FramesState → (first : ℕ) → (second : Option ℕ) → Successor
successor_of fs first None = successor.None
successor_of fs first (Some position) = successor_at fs first position

-- the row as its hold begins, whose position has the second device
abbrev pub begun_row : FramesState → (row : ℕ) → Job → RowTask → (second : Option ℕ) → HeldRow
begun_row fs row what task position =
    record {
      row = row;
      first_slot = layout.slot_at fs.geometry row 0;
      job = what;
      hold = begun_hold fs.geometry.block (synced fs row) (kind_of_task task) position;
      successor = begun_successor fs row position;
      has_target = is_rebuild what;
    }

-- ---- a hold has ended

abbrev pub has_away : Held → Bool
has_away hold = hold.second_away || list_any (λ away. away) hold.away

-- the frame is free with all its buffers home
abbrev pub retired : Held → Successor → FrameUse
retired hold successor = if has_away hold then uses.Returning hold successor else uses.Free

-- the buffers that are spare then
abbrev pub spared : Held → List buffers.Shape
spared hold =
    if has_away hold then [] else record { count = length hold.planned.hold.cells; size = hold.planned.hold.size } ∷ []

-- ---- a buffer comes home

-- the position's own buffer is away, or the one that is no position's
abbrev pub IsBufferAway : (own : Bool) → Held → (position : ℕ) → Type 0
IsBufferAway true hold position = is_away hold position ≡ true
IsBufferAway false hold position = hold.second_away ≡ true

-- the hold awaits nothing of the device: the position is out, or its second device
abbrev pub IsLateFor : (own : Bool) → Held → (position : ℕ) → Type 0
IsLateFor true hold position = is_out (cell_at hold.planned.hold.cells position).standing ≡ true
IsLateFor false hold position = is_out (cell_at hold.planned.hold.cells position).second ≡ true

-- the frame waits for a buffer of a command to the position on this slot and device
abbrev pub AwaitsBuffer : FrameUse → (device : ℕ × ℕ) → (position : ℕ) → Block → Type 0
AwaitsBuffer uses.Free device position block = ⊥
AwaitsBuffer (uses.Held h) device position block =
    let own = is_own h.successor device.0 device.1 in
    IsBufferAway own h.hold position × (length block ≡ h.hold.planned.hold.size) × IsLateFor own h.hold position
AwaitsBuffer (uses.Returning r successor) device position block =
    IsBufferAway (is_own successor device.0 device.1) r position × (length block ≡ r.planned.hold.size)
    × (r.planned.hold.kind ≡ Idle)

abbrev pub use_home : FrameUse → (device : ℕ × ℕ) → (position : ℕ) → Block → FrameUse
use_home uses.Free device position block = uses.Free
use_home (uses.Held h) device position block =
    uses.Held (record h { hold = brought_home (is_own h.successor device.0 device.1) h.hold position block })
use_home (uses.Returning r successor) device position block =
    retired (brought_home (is_own successor device.0 device.1) r position block) successor

abbrev pub spared_home : FrameUse → (device : ℕ × ℕ) → (position : ℕ) → Block → List buffers.Shape
spared_home uses.Free device position block = []
spared_home (uses.Held h) device position block = []
spared_home (uses.Returning r successor) device position block =
    spared (brought_home (is_own successor device.0 device.1) r position block)
