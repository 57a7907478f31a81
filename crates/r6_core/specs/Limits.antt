-- How many calls a core may have to make at the register, and how many tokens it may give: this project's own.
use Rattle.std.specs.Prelude.{ℕ, ◌+◌, ◌*◌, Bool, true, false, length, Option, Some, None}
use Rattle.r6_world.specs.ShardStates as shards
use Rattle.r6_world.specs.ShardStates.{SlotState, Synced, Missing, Building, Doubled, Paired}
use Rattle.r6_world.specs.Tables.{count_below}
use Rattle.r6_core.specs.declared.call.Call.{Call}
use Rattle.r6_core.specs.declared.state.State.{State}
use Rattle.r6_frames.specs.declared.frames.Frames.{Frames}
use Rattle.r6_frames.specs.Slots.{states_of}
use Rattle.r6_frames.specs.Directs.{read_requests}
use Rattle.r6_frames.specs.Owed.{owed, most_owed}
use Rattle.r6_core.specs.Shards.{waiting_of}
use Rattle.r6_world.specs.ShardStates.{limit}
use Rattle.r6_core.specs.Refusals.{most_unanswered}

-- ---- calls at the register

-- whether a call was taken whose answer isn't told
abbrev pub count_untold : Option Call → ℕ
count_untold None = 0
count_untold (Some taken) = 1

-- slots without a device, those with one in sync or none, and those of which no second device is being rebuilt
abbrev pub is_missing : SlotState → Bool
is_missing (Synced generation) = false
is_missing Missing = true
is_missing (Building generation built) = false
is_missing (Doubled old new built) = false
is_missing (Paired old new) = false

abbrev pub is_settled : SlotState → Bool
is_settled (Synced generation) = true
is_settled Missing = true
is_settled (Building generation built) = false
is_settled (Doubled old new built) = false
is_settled (Paired old new) = false

abbrev pub is_not_doubled : SlotState → Bool
is_not_doubled (Synced generation) = true
is_not_doubled Missing = true
is_not_doubled (Building generation built) = true
is_not_doubled (Doubled old new built) = false
is_not_doubled (Paired old new) = true

abbrev pub count_slots : (SlotState → Bool) → Frames → ℕ
count_slots test fs = count_below (λ slot. test (states_of fs.slots slot)) fs.geometry.slots

-- So many calls may wait to be made, since none did at the last look. Of a slot that had two devices they are the
-- rebuild of the second or the loss of one, then the rebuild or the loss of what is left, and then its loss
abbrev pub most_calls : Frames → ℕ
most_calls fs = count_slots is_missing fs + count_slots is_settled fs + count_slots is_not_doubled fs

-- ---- tokens of commands

-- as many requests wait, or may wait again
abbrev pub count_unheld : State → ℕ
count_unheld s = length (waiting_of s) + length (read_requests s.frames)

-- what was put out, with what may still come: each request that waits, or may wait again, puts out at most what one
-- hold may
abbrev pub bound : State → ℕ
bound s = s.frames.commands.next + owed s.frames + most_owed s.frames.geometry.slots * count_unheld s

-- so many may still come at the limit, from which on no request is read directly: for each frame, and each request
abbrev pub most_tokens : ℕ
most_tokens = limit + most_owed 32 * (most_unanswered + shards.frames)
