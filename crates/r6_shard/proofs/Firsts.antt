-- Where every slot was in sync at each time, each is so on the device that it began with.
use Rattle.std.proofs.Common.{◌≡◌, ℕ, zero, suc, ◌+◌, ◌<◌, ◌≤◌, ◌⊎◌, List, [], ◌∷◌, get_or, set, true, inl, inr, refl, sym, ap, subst, ◌∙◌, arith}
use Rattle.std.specs.Prelude.{slice_get, slice_set, unwrap_or}
use Rattle.std.proofs.lemmas.Bool.{false≢true}
use Rattle.std.proofs.lemmas.Option.{unwrap_or-slice_get}
use Rattle.r6_health.specs.declared.history.HistoryEntry.{HistoryEntry}
use Rattle.r6_health.specs.declared.history.Start.{Start}
use Rattle.r6_health.specs.declared.history.View.{View}
use Rattle.r6_health.specs.Histories.{start_losing, held, held_after, StartsWith}
use Rattle.r6_health.specs.Registers.{after, reported_state, state_without, replaced}
use Rattle.r6_world.specs.Registers.{Snapshot, Status, InSync, Lost, Rebuilding, Replacing, RegisterCall, Fail, DeclareLost, Attach, ReportRebuilt, Replace, is_in_sync, no_shards, status_of}
use Rattle.r6_shard.specs.Looked.{HasDevice}
use Rattle.r6_shard.proofs.Numbered.{held-numbered}
use Rattle.r6_shard.specs.Whole.{AreAllInSync, AreAllFirst, WereAllInSync}

-- ---- one call

-- what stands in a list in which one was set
set-cases : (slots : List Status) (at : ℕ) (state : Status) (slot : ℕ)
    → ((slot ≡ at) × (get_or (set slots at state) slot (InSync 0) ≡ state)) ⊎ (get_or (set slots at state) slot (InSync 0) ≡ get_or slots slot (InSync 0))
set-cases [] at state slot = inr refl
set-cases (first ∷ slots) zero state zero = inl (refl, refl)
set-cases (first ∷ slots) zero state (suc slot) = inr refl
set-cases (first ∷ slots) (suc at) state zero = inr refl
set-cases (first ∷ slots) (suc at) state (suc slot) = elim (set-cases slots at state slot) [
  | inl p ↦ inl (ap suc p.0, p.1)
  | inr e ↦ inr e
]

state-cases : (slots : List Status) (at : ℕ) (state : Status) (slot : ℕ)
    → ((slot ≡ at) × (unwrap_or (slice_get (slice_set slots at state) slot) (InSync 0) ≡ state))
    ⊎ (unwrap_or (slice_get (slice_set slots at state) slot) (InSync 0) ≡ unwrap_or (slice_get slots slot) (InSync 0))
state-cases slots at state slot = elim (set-cases slots at state slot) [
  | inl p ↦ inl (p.0, unwrap_or-slice_get (slice_set slots at state) slot (InSync 0) ∙ p.1)
  | inr e ↦ inr (unwrap_or-slice_get (slice_set slots at state) slot (InSync 0) ∙ e ∙ sym (unwrap_or-slice_get slots slot (InSync 0)))
]

-- a slot on its first device gets this state, by which it is in sync: on that device
abbrev StaysFirst : (Status → Status) → Type 0
StaysFirst change = is_in_sync (change (InSync 0)) ≡ true → change (InSync 0) ≡ InSync 0

still-first : (register : Snapshot) (at : ℕ) (change : Status → Status) → StaysFirst change → AreAllFirst register → (slot : ℕ) → slot < 32
    → let now = unwrap_or (slice_get (slice_set register.slots at (change (status_of register at))) slot) (InSync 0) in
    is_in_sync now ≡ true → now ≡ InSync 0
still-first register at change stays first slot below sync = elim (state-cases register.slots at (change (status_of register at)) slot) [
  | inl p ↦
      let here : change (status_of register at) ≡ change (InSync 0) = ap change (ap (status_of register) (sym p.0) ∙ first slot below) in
      p.1 ∙ here ∙ stays (sym (ap is_in_sync (p.1 ∙ here)) ∙ sync)
  | inr e ↦ e ∙ first slot below
]

-- each call but one that leaves a slot out leaves it on its first device
first-after : (shards : ℕ) (register : Snapshot) (call : RegisterCall) → AreAllFirst register → AreAllInSync (after shards register call) → AreAllFirst (after shards register call)
first-after shards register (Fail at) first sync slot below = still-first register at (λ state. Lost) (λ e. absurd (false≢true e)) first slot below (sync slot below)
first-after shards register (DeclareLost at generation) first sync slot below =
    still-first register at (λ state. state_without state generation) (λ e. absurd (false≢true e)) first slot below (sync slot below)
first-after shards register (Attach at) first sync slot below =
    still-first register at (λ state. Rebuilding (register.attaches + 1) no_shards) (λ e. absurd (false≢true e)) first slot below (sync slot below)
first-after shards register (ReportRebuilt shard at generation) first sync slot below =
    still-first register at (λ state. reported_state state shards shard) (λ e. refl) first slot below (sync slot below)
first-after shards register (Replace at) first sync slot below =
    still-first register at (λ state. replaced state (register.attaches + 1)) (λ e. absurd (false≢true e)) first slot below (sync slot below)

-- ---- all that a pass has seen

firsts : (shards : ℕ) (register : Snapshot) (entries : List HistoryEntry) → AreAllFirst register
    → ((front : List HistoryEntry) → StartsWith entries front → AreAllInSync (held_after shards register front)) → AreAllFirst (held_after shards register entries)
firsts shards register [] first were = first
firsts shards register (e ∷ entries) first were =
    firsts shards (after shards register e.call) entries (first-after shards register e.call first (were (e ∷ []) (entries, refl)))
    (λ front starts. were (e ∷ front) (starts.0, ap (λ y. e ∷ y) starts.1))

in-sync-first : (status : Status) → is_in_sync status ≡ true → ((generation : ℕ) → HasDevice status generation → generation ≤ 0) → status ≡ InSync 0
in-sync-first (InSync generation) sync first = let low = first generation refl in ap InSync (omega arith)
in-sync-first Lost sync first = absurd (false≢true sync)
in-sync-first (Rebuilding generation reported) sync first = absurd (false≢true sync)
in-sync-first (Replacing old new reported) sync first = absurd (false≢true sync)

-- a pass at a register that began as every register does
pub first-seen : (slots shards lost : ℕ) (v : View) → v.start ≡ start_losing slots shards lost → WereAllInSync v → AreAllFirst (held v.start v.seen)
first-seen slots shards lost v begins were = firsts v.start.shards v.start.snapshot v.seen first were
  where
    first : AreAllFirst v.start.snapshot
    first slot below = in-sync-first (status_of v.start.snapshot slot) (were [] (v.seen, refl) slot below)
        (subst (λ (s : Start). (generation : ℕ) → HasDevice (status_of s.snapshot slot) generation → generation ≤ 0) (sym begins) (held-numbered slots shards lost [] slot))
