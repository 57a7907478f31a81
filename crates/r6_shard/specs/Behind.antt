-- Requests that stand behind others (linearizability: Herlihy and Wing).
use Rattle.std.specs.Prelude.{◌≡◌, ◌≢◌, ℕ, ◌<◌, ◌≤◌, List, Some, slice_get}
use Rattle.r6_world.specs.PlainArray as world
use Rattle.r6_world.specs.PlainArray.{Reply, ArrayFailed}
use Rattle.r6_course.specs.Courses.{Start, Mark, Replied}
use Rattle.r6_course.specs.Ledgers.{Entry, entry, IsIn, IsBefore}
use Rattle.r6_shard.specs.declared.ledger.Asked.{Asked}
use Rattle.r6_shard.specs.declared.performs.Performs.{Ghosts}
use Rattle.r6_shard.specs.declared.shard.Shard.{Shard}
use Rattle.r6_shard.specs.Runs.{IsLedger}

-- when the request of this number was handed in, each one before it was answered: as many replies had been taken
abbrev pub IsBehindAll : List Asked → (number : ℕ) → Type 0
IsBehindAll asked number = (a : Asked) × (slice_get asked number ≡ Some a) × (a.answered ≡ number)

-- the earlier request was answered, and where it acted it stands in the ledger's order before the later one
abbrev pub StandsBefore : List Mark → (order : List Entry) → (earlier later : ℕ) → Type 0
StandsBefore history order earlier later =
    (reply : Reply) × IsIn (Replied earlier reply) history
    × (reply ≢ ArrayFailed → (e : Entry) → IsIn e order → e.id ≡ later
    → (op : world.Op) × IsBefore (entry earlier op reply) e order)

-- such a request, and each behind it, stands behind all that were handed in before it
abbrev pub BehindLaw : {P : Type 0} → Ghosts P → Type 0
BehindLaw {P = P} g =
    (s : Start) (ops : List world.Op) (shard : Shard P g) (ledger : IsLedger s ops shard) (number : ℕ)
    → IsBehindAll shard.asked.items number → (earlier later : ℕ) → earlier < number → number ≤ later
    → StandsBefore ledger.history ledger.explained.leads.order earlier later
