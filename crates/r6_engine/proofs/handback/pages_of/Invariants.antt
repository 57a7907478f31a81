use Rattle.std.proofs.Common.{◌≡◌, ◌≤◌, All, length, vec_capacity}
use Rattle.r6_engine.specs.Ledgers.{IsPage}
use Rattle.r6_engine.proofs.handback.pages_of.Given as goal

abbrev pub invariant-loop : goal.invariant-loop
invariant-loop g l =
    (length l.pages.items ≡ l.counter) × (l.shards ≤ vec_capacity l.pages) × All (IsPage l.room) l.pages.items
