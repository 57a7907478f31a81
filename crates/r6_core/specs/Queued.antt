-- A request that waits, as the world has it (this project's own).
use Rattle.std.specs.Prelude.{◌≡◌, ℕ, Bool, true, false, List, map, Some}
use Rattle.r6_world.specs.ShardStates as shards
use Rattle.r6_world.specs.ShardStates.{Shard, Stage, Waiting, Erred}
use Rattle.r6_world.specs.Values.{op_of}
use Rattle.r6_world.specs.declared.values.Request.{Request}
use Rattle.r6_core.specs.declared.queued.Queued.{Queued}
use Rattle.r6_waiters.specs.Line.{Line, entries_of}

-- the request that waits
abbrev pub request_in : Queued → Request
request_in q = record { id = q.id; op = q.op }

-- a request waits that met no read error
abbrev pub unerred : Request → Queued
unerred r = record { id = r.id; op = r.op; erred = false }

-- a direct read that met a read error waits to be read by a hold
abbrev pub waiting_stage : (erred : Bool) → Stage
waiting_stage false = Waiting
waiting_stage true = Erred

abbrev pub waiting_request : Queued → ℕ × shards.Request
waiting_request q = (q.id, record { op = op_of q.op; stage = waiting_stage q.erred })

-- it waits so in the shard
abbrev pub IsWaiting : Shard → Queued → Type 0
IsWaiting s q = s.request q.id ≡ Some (record { op = op_of q.op; stage = waiting_stage q.erred })

-- those of a line, from the oldest to the newest, without what each waits for
abbrev pub requests_in : Line Queued → List Queued
requests_in line = map (λ entry. entry.1) (entries_of line)
