-- The ends of a queue, and its acknowledgements.
use Rattle.std.specs.Prelude.{◌≡◌, ℕ, []}
use Rattle.crossbeam_queue.specs.Passes.{Pass, IsPassOf, ruled_capacity}
use Rattle.r6_queues.specs.declared.ends.Ends.{Ends}
use Rattle.r6_queues.specs.declared.relay.Relay.{Relay}

abbrev pub End : Type 0 → Type 0 → Type 0
End T K = Pass T (Ends T K)

-- it is an end of this queue, or an acknowledgement at it
abbrev pub IsEndOf : {T K G : Type 0} → Relay T K G → End T K → Type 0
IsEndOf relay end = IsPassOf relay.queue end

-- it is one of whatever queue the other is an end of
abbrev pub SharesQueue : {T K : Type 0} → End T K → End T K → Type 0
SharesQueue end other = (end.table_id ≡ other.table_id) × (end.me.1 ≡ [])

abbrev pub capacity_of : {T K G : Type 0} → Relay T K G → ℕ
capacity_of relay = ruled_capacity relay.queue
