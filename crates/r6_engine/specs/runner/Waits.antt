-- That a request behind a wait is handed in only once all that came before the wait are answered (this project's own).
use Rattle.std.specs.Prelude.{◌≡◌, ℕ, ◌+◌, ◌<◌, ◌≤◌, ◌⊎◌, List, All, length, slice_get, Some}
use Rattle.r6_engine.specs.lists.Events.{Event, waits_before}
use Rattle.r6_shard.specs.declared.ledger.Asked.{Asked}
use Rattle.r6_shard.specs.Behind.{IsBehindAll}
use Rattle.r6_shard.specs.declared.performs.Performs.{Ghosts}
use Rattle.r6_engine.specs.declared.runner.due.Due.{Due}
use Rattle.r6_engine.specs.declared.runner.runner.Runner.{Runner}

-- if a wait stands between the events of two accepted requests, then the later one, or one between the two, was handed
-- in once all before it were answered
abbrev pub IsBehindWait : List Event → List Asked → (earlier later : ℕ) → Type 0
IsBehindWait events asked earlier later =
    (a b : Asked) → slice_get asked earlier ≡ Some a → slice_get asked later ≡ Some b
    → waits_before events a.event < waits_before events b.event
    → (number : ℕ) × (earlier < number) × (number ≤ later) × IsBehindAll asked number

-- so it is of any two requests that the shard accepted, by their numbers
abbrev pub AreBehindWaits : List Event → List Asked → Type 0
AreBehindWaits events asked = (earlier later : ℕ) → IsBehindWait events asked earlier later

-- ---- while they are handed in

-- so many waits stand before the event of the request that was accepted last
abbrev pub IsLastBehind : List Event → (waits : ℕ) → List Asked → Type 0
IsLastBehind events waits asked =
    (number : ℕ) (a : Asked) → slice_get asked number ≡ Some a → number + 1 ≡ length asked
    → waits ≡ waits_before events a.event

-- each task that is due knows how many waits stand before its event
abbrev pub KnowWaits : List Event → List Due → Type 0
KnowWaits events due = All (λ d. d.waits ≡ waits_before events d.event) due

pub record AreAwaited (events : List Event) (waits : ℕ) (asked : List Asked) (due : List Due) : Type 0 where
  pub behind : (earlier later : ℕ) → earlier < later → IsBehindWait events asked earlier later
  pub last : IsLastBehind events waits asked
  pub known : KnowWaits events due

abbrev pub HasAwaited : {P D : Type 0} {g : Ghosts P} → List Event → Runner P D g → Type 0
HasAwaited events runner = AreAwaited events runner.waits runner.shard.asked.items runner.due.items

-- whatever the events are, it is kept so
abbrev pub KeepsAwaited : {P D : Type 0} {g : Ghosts P} → (old new : Runner P D g) → Type 0
KeepsAwaited old new = (events : List Event) → HasAwaited events old → HasAwaited events new

-- a request behind so many waits may be handed in: no other is open, or no wait stands between it and the last
abbrev pub MayFollow : {P D : Type 0} {g : Ghosts P} → (waits : ℕ) → Runner P D g → Type 0
MayFollow waits runner =
    (length runner.shard.entries.items ≡ length runner.shard.asked.items) ⊎ (waits ≡ runner.waits)
