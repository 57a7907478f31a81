-- Who wakes a thread.
use Rattle.std.specs.Prelude.{◌≡◌}
use Rattle.std.specs.Arc.{arc_value}
use Rattle.atomic_table.specs.Seated.{TableId}
use Rattle.crossbeam_utils.specs.Token.{parker_view}
use Rattle.r6_idle.specs.declared.tally.Tally.{Tally}
use Rattle.atomic_table.specs.declared.shared.Seat.{Seat}
use Rattle.r6_idle.specs.declared.waker.Waker.{Waker}
use Rattle.r6_idle.specs.Tallies.{nothing, having_given}

abbrev pub Wake : Type 0
Wake = Seat (Unit {0}) Tally

-- what the thread sleeps on
abbrev pub parker_of : Waker → TableId
parker_of waker = (arc_value waker.unparker.state).shared.table_id

-- this waker, or another of the same thread, has woken it once
abbrev pub IsWakeBy : Waker → Wake → Type 0
IsWakeBy waker wake = (wake.table_id ≡ parker_of waker) × (parker_view wake ≡ having_given nothing)
