-- The generations of a register: none is given twice, and none is above the number of attaches.
use Rattle.std.proofs.Common.{◌≡◌, ℕ, ◌+◌, ◌≤◌, ◌⊎◌, zero, suc, List, [], ◌∷◌, ◌++◌, Bool, true, false, set, inl, inr, refl, sym, subst, arith, if◌then◌else◌}
use Rattle.std.specs.Prelude.{◌==◌, map, slice_get, unwrap_or}
use Rattle.std.specs.Int.{bit_at}
use Rattle.std.specs.List.{range_with_len}
use Rattle.r6_health.specs.declared.call.Call.{Call}
use Rattle.r6_health.specs.declared.call.Call.TheVariants.{Fail, DeclareLost, Attach, ReportRebuilt, Replace}
use Rattle.r6_health.specs.declared.history.HistoryEntry.{HistoryEntry}
use Rattle.r6_health.specs.declared.history.View.{View}
use Rattle.r6_health.specs.Slots.{no_shards, with_shard, has_all}
use Rattle.r6_health.specs.Registers.{after, starting, lost_if, state_without, reported_state, replaced}
use Rattle.r6_health.specs.Histories.{start_losing, held, held_after, StartsWith}
use Rattle.r6_world.specs.Registers.{Snapshot, Status, InSync, Lost, Rebuilding, Replacing, status_of}
use Rattle.r6_shard.specs.Looked.{HasDevice, IsNumbered}

-- a slot has a device after one state was set: that state has it, or the slot had it before
had : (slots : List Status) (at slot : ℕ) (x : Status) (g : ℕ) → HasDevice (unwrap_or (slice_get (set slots at x) slot) (InSync 0)) g
    → HasDevice x g ⊎ HasDevice (unwrap_or (slice_get slots slot) (InSync 0)) g
had [] at slot x g d = inr d
had (y ∷ ys) zero zero x g d = inl d
had (y ∷ ys) zero (suc slot) x g d = inr d
had (y ∷ ys) (suc at) zero x g d = inr d
had (y ∷ ys) (suc at) (suc slot) x g d = had ys at slot x g d

set-numbered : (now : Snapshot) (at : ℕ) (x : Status) (attaches : ℕ) (failed : Bool) → now.attaches ≤ attaches
    → ((g : ℕ) → HasDevice x g → g ≤ attaches) → IsNumbered now
    → IsNumbered (record { slots = set now.slots at x; attaches = attaches; failed = failed })
set-numbered now at x attaches failed more own y slot g d = elim (had now.slots at slot x g d) [
  | inl new ↦ own g new
  | inr old ↦ let before = y slot g old in omega arith
]

-- a report, a loss and a replacement give a slot no device but that of the replacement
reported-had : (state : Status) (shards shard g : ℕ) → HasDevice (reported_state state shards shard) g → HasDevice state g
reported-had (InSync current) shards shard g d = d
reported-had Lost shards shard g d = d
reported-had (Rebuilding current reported) shards shard g d = at (has_all (with_shard reported shard) shards) d
  where
    at : (b : Bool) → HasDevice (if b then InSync current else Rebuilding current (with_shard reported shard)) g → g ≡ current
    at true d = d
    at false d = d
reported-had (Replacing old new reported) shards shard g d = at (has_all (with_shard reported shard) shards) d
  where
    at : (b : Bool) → HasDevice (if b then InSync new else Replacing old new (with_shard reported shard)) g → (g ≡ old) ⊎ (g ≡ new)
    at true d = inr d
    at false d = d

left-had : (state : Status) (lost g : ℕ) → HasDevice (state_without state lost) g → HasDevice state g
left-had (InSync current) lost g d = absurd d
left-had Lost lost g d = absurd d
left-had (Rebuilding current reported) lost g d = absurd d
left-had (Replacing old new reported) lost g d = at (old == lost) d
  where
    at : (b : Bool) → HasDevice (if b then Rebuilding new reported else InSync old) g → (g ≡ old) ⊎ (g ≡ new)
    at true d = inr d
    at false d = inl d

replaced-had : (state : Status) (next g : ℕ) → HasDevice (replaced state next) g → HasDevice state g ⊎ (g ≡ next)
replaced-had (InSync current) next g d = d
replaced-had Lost next g d = absurd d
replaced-had (Rebuilding current reported) next g d = inl d
replaced-had (Replacing old new reported) next g d = inl d

-- a call gives at most the next
after-numbered : (shards : ℕ) (now : Snapshot) (call : Call) → IsNumbered now → IsNumbered (after shards now call)
after-numbered shards now (Fail slot) x =
    set-numbered now slot Lost now.attaches (after shards now (Fail slot)).failed (omega arith) (λ g d. absurd d) x
after-numbered shards now (DeclareLost slot generation) x =
    set-numbered now slot (state_without (status_of now slot) generation) now.attaches (after shards now (DeclareLost slot generation)).failed (omega arith)
    (λ g d. x slot g (left-had (status_of now slot) generation g d)) x
after-numbered shards now (Attach slot) x =
    set-numbered now slot (Rebuilding (now.attaches + 1) no_shards) (now.attaches + 1) now.failed (omega arith)
    (λ g d. let same : g ≡ now.attaches + 1 = d in omega arith) x
after-numbered shards now (ReportRebuilt shard slot generation) x =
    set-numbered now slot (reported_state (status_of now slot) shards shard) now.attaches now.failed (omega arith)
    (λ g d. x slot g (reported-had (status_of now slot) shards shard g d)) x
after-numbered shards now (Replace slot) x =
    set-numbered now slot (replaced (status_of now slot) (now.attaches + 1)) (now.attaches + 1) now.failed (omega arith)
    (λ g d. elim (replaced-had (status_of now slot) (now.attaches + 1) g d) [
      | inl old ↦ let before = x slot g old in omega arith
      | inr same ↦ omega arith
    ]) x

rises : (shards : ℕ) (now : Snapshot) (call : Call) → now.attaches ≤ (after shards now call).attaches
rises shards now (Fail slot) = omega arith
rises shards now (DeclareLost slot generation) = omega arith
rises shards now (Attach slot) = omega arith
rises shards now (ReportRebuilt shard slot generation) = omega arith
rises shards now (Replace slot) = omega arith

all-numbered : (shards : ℕ) (now : Snapshot) (log : List HistoryEntry) → IsNumbered now → IsNumbered (held_after shards now log)
all-numbered shards now [] x = x
all-numbered shards now (e ∷ es) x = all-numbered shards (after shards now e.call) es (after-numbered shards now e.call x)

all-rise : (shards : ℕ) (now : Snapshot) (log : List HistoryEntry) → now.attaches ≤ (held_after shards now log).attaches
all-rise shards now [] = omega arith
all-rise shards now (e ∷ es) =
    let one = rises shards now e.call in let all = all-rise shards (after shards now e.call) es in omega (arith, one, all)

-- ---- what a pass has seen

-- at the start each device is the first
first-devices : (lost : ℕ) (xs : List ℕ) (slot g : ℕ) → HasDevice (unwrap_or (slice_get (map (lost_if lost) xs) slot) (InSync 0)) g → g ≤ 0
first-devices lost [] slot g d = let none : g ≡ 0 = d in omega arith
first-devices lost (x ∷ xs) zero g d = at (bit_at lost x == 1) d
  where
    at : (b : Bool) → HasDevice (if b then Lost else InSync 0) g → g ≤ 0
    at true d = absurd d
    at false d = let none : g ≡ 0 = d in omega arith
first-devices lost (x ∷ xs) (suc slot) g d = first-devices lost xs slot g d

pub held-numbered : (slots shards lost : ℕ) (log : List HistoryEntry) → IsNumbered (held (start_losing slots shards lost) log)
held-numbered slots shards lost log = all-numbered shards (starting lost) log (first-devices lost (range_with_len 0 32))

held-more : (shards : ℕ) (now : Snapshot) (log more : List HistoryEntry)
    → held_after shards now (log ++ more) ≡ held_after shards (held_after shards now log) more
held-more shards now [] more = refl
held-more shards now (e ∷ es) more = held-more shards (after shards now e.call) es more

-- what was attached stays so
pub attaches-later : (v w : View) → w.start ≡ v.start → StartsWith w.seen v.seen → (held v.start v.seen).attaches ≤ (held w.start w.seen).attaches
attaches-later v w same longer =
    subst (λ s. (held v.start v.seen).attaches ≤ (held s w.seen).attaches) (sym same)
    (subst (λ log. (held v.start v.seen).attaches ≤ (held v.start log).attaches) (sym longer.1)
    (subst (λ (n : Snapshot). (held v.start v.seen).attaches ≤ n.attaches) (sym (held-more v.start.shards v.start.snapshot v.seen longer.0))
    (all-rise v.start.shards (held v.start v.seen) longer.0)))
