-- What the fields of writes, and of their requests, stand for.
use Rattle.std.specs.Prelude.{◌≡◌, ◌≤◌, List, length, reverse, vec_capacity}
use Rattle.r6_stripe.specs.BatchLists.{AreDistinct}
use Rattle.r6_frames.specs.declared.frames.ServedRequest.{ServedRequest}
use Rattle.r6_frames.specs.declared.writes.ServedStack.TheInside.{Inside as Stack}
use Rattle.r6_frames.specs.declared.writes.Writes.TheInside.{Inside}
use Rattle.r6_frames.specs.Writes.{Entry, entries_of}

-- the one that was put on last first
abbrev pub served_of : Stack → List ServedRequest
served_of stack = reverse stack.items.items

-- there is room for a request of each index
abbrev pub HasRoomForAll : Stack → Type 0
HasRoomForAll stack = 32 ≤ vec_capacity stack.items

abbrev pub writes_of : Inside → List Entry
writes_of writes = entries_of writes.served writes.batch.blocks

-- each request has its new block, and of each index there is one
pub record AreWritesInside (writes : Inside) : Type 0 where
  pub side_by_side : length writes.served ≡ length writes.batch.blocks
  pub distinct : AreDistinct writes.batch.blocks
