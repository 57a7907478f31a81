-- A slot that a core has in sync once it has looked has one device.
use Rattle.std.proofs.Common.{◌≡◌, ℕ, ◌<◌, ◌==◌, [], Bool, true, false, if◌then◌else◌, nat_lt, refl, sym, ap, ◌∙◌, subst, Some, None}
use Rattle.std.proofs.lemmas.Bool.{ltb-true}
use Rattle.r6_health.specs.Registers.{starting}
use Rattle.r6_layout.specs.Shape.{Shape}
use Rattle.r6_world.specs.PlainArray.{Reply}
use Rattle.r6_world.specs.Layouts.{Layout}
use Rattle.r6_world.specs.Registers.{Snapshot, InSync, status_of}
use Rattle.r6_world.specs.Tasks.{Task, Hold, Outcome, Rebuild, Rebuilt}
use Rattle.r6_world.specs.ShardStates.{Shard, SlotState, Synced, Missing, Building, Doubled, Paired}
use Rattle.r6_world.specs.Changes.{Part, Nothing, Some_rows, Whole, part_of, alone, adopted, without, with_row, brought_in, slots_after, slots_in_error, Lose, Move, Give_over, Adopt, Finish, Bring_in, Release, after}
use Rattle.r6_world.specs.Steps as steps
use Rattle.r6_world.specs.Steps.{Event, Deliver, Good, Late, Look, Looks, Take_reply}
use Rattle.r6_world.proofs.Tables.{None-not_Some, Some-inj}
use Rattle.r6_world.proofs.Changes.{Keeps, go-on-kept, through-scans, lost-kept}
use Rattle.r6_world.proofs.Register.WaitingCalls.{put-alike}
use Rattle.r6_core.specs.Shards.{CoreView, Step, core_layout, world_shard, synced}

-- the slot has no second device
abbrev IsAlone : SlotState → Type 0
IsAlone (Synced current) = Unit {0}
IsAlone Missing = Unit {0}
IsAlone (Building current built) = Unit {0}
IsAlone (Doubled old new built) = ⊥
IsAlone (Paired old new) = ⊥

-- one that a core says to have in sync
in_sync_so : (state : SlotState) (generation : ℕ) → IsAlone state → synced state ≡ Some generation → state ≡ Synced generation
in_sync_so (Synced current) generation one e = ap (λ g. Synced g) (Some-inj current generation e)
in_sync_so Missing generation one e = absurd (None-not_Some generation e)
in_sync_so (Building current built) generation one e = absurd (None-not_Some generation e)
in_sync_so (Doubled old new built) generation one e = absurd one
in_sync_so (Paired old new) generation one e = absurd one

alone_part : (generation : ℕ) (part : Part) → IsAlone (alone generation part)
alone_part generation Nothing = tt
alone_part generation (Some_rows built) = tt
alone_part generation Whole = tt

without_alone : (state : SlotState) (lost : ℕ) → IsAlone (without state lost)
without_alone (Synced current) lost = tt
without_alone Missing lost = tt
without_alone (Building current built) lost = tt
without_alone (Doubled old new built) lost = left (old == lost)
  where
    left : (b : Bool) → IsAlone (if b then Building new built else Synced old)
    left true = tt
    left false = tt
without_alone (Paired old new) lost = left (old == lost)
  where
    left : (b : Bool) → IsAlone (if b then Synced new else Synced old)
    left true = tt
    left false = tt

row_alone : (state : SlotState) (row : ℕ) → IsAlone state → IsAlone (with_row state row)
row_alone (Synced current) row one = tt
row_alone Missing row one = tt
row_alone (Building current built) row one = tt
row_alone (Doubled old new built) row one = absurd one
row_alone (Paired old new) row one = absurd one

brought_alone : (state : SlotState) → IsAlone state → IsAlone (brought_in state)
brought_alone (Synced current) one = tt
brought_alone Missing one = tt
brought_alone (Building current built) one = tt
brought_alone (Doubled old new built) one = absurd one
brought_alone (Paired old new) one = absurd one

-- no event but a look brings a second one
abbrev quiet : Event
quiet = Deliver 0 (Good []) Late

ended_alone : (s : Shard) (h : Hold) (task : Task) (outcome : Outcome) (slot : ℕ) → IsAlone (s.slot slot) → IsAlone (slots_after s h task outcome slot)
ended_alone s h (Rebuild target g) Rebuilt slot one =
    put-alike IsAlone s.slot target (with_row (s.slot target) h.row) slot (row_alone (s.slot target) h.row) one
ended_alone s h task outcome slot one = one

alone_kept : (l : Layout) (n slot : ℕ) → Keeps l n (λ s. IsAlone (s.slot slot)) quiet
alone_kept l n slot s (Lose t c) within a one =
    put-alike IsAlone s.slot c.slot (without (s.slot c.slot) c.generation) slot (λ was. without_alone (s.slot c.slot) c.generation) one
alone_kept l n slot s (Move f h d g) within a one =
    put-alike IsAlone s.slot d (without (s.slot d) g) slot (λ was. without_alone (s.slot d) g) one
alone_kept l n slot s (Give_over f h) within a one =
    lost-kept l (λ s'. IsAlone (s'.slot slot)) (λ s' d one. put-alike IsAlone s'.slot d Missing slot (λ was. tt) one) (slots_in_error l h) s one
alone_kept l n slot s (Adopt d status) within a one = absurd (let e = within.1 in cc)
alone_kept l n slot s (Finish f h outcome) within a one = ended_alone s h h.task outcome slot one
alone_kept l n slot s (Bring_in d g) within a one =
    put-alike IsAlone s.slot d (brought_in (s.slot d)) slot (brought_alone (s.slot d)) one
alone_kept l n slot s change within a one = one

-- nor one that finds the slot in sync
looked_alone : (l : Layout) (n slot generation : ℕ) (old : Shard) (seen : Snapshot) (new : Shard) → steps.Step l n old (Look seen) new → slot < l.slots
    → status_of seen slot ≡ InSync generation → IsAlone (new.slot slot)
looked_alone l n slot generation old seen new st below e =
    after_looks seen.failed st.2 new st.5
    (subst IsAlone (sym (st.4 slot below)) (subst (λ y. IsAlone (adopted (old.slot slot) y)) (sym e) (alone_part generation (part_of (old.slot slot) generation))))
  where
    after_looks : (failed : Bool) (mid new : Shard) → Looks l n failed mid new → IsAlone (mid.slot slot) → IsAlone (new.slot slot)
    after_looks true mid new p one = subst (λ (s : Shard). IsAlone (s.slot slot)) (sym p) one
    after_looks false mid new p one =
        through-scans l n (λ s. IsAlone (s.slot slot)) quiet (alone_kept l n slot) (after l p.0 Release) new p.2
        (go-on-kept l n (λ s. IsAlone (s.slot slot)) quiet (record {}) (alone_kept l n slot) mid p.0 p.1 one)

-- a core says so of slot 1, once it has looked and then gave a reply
abbrev pub IsSyncedIn : CoreView → Type 0
IsSyncedIn core = (if nat_lt 1 core.shape.slots then synced ((world_shard core).slot 1) else None) ≡ Some 0

pub synced_still : (known seeing core : CoreView) (reply : Reply) → Step known (Look (starting 0)) seeing → Step seeing (Take_reply 0 reply) core
    → IsSyncedIn core → (world_shard core).slot 1 ≡ Synced 0
synced_still known seeing core reply looked replied e = by_test (nat_lt 1 core.shape.slots) refl e
  where
    by_test : (b : Bool) → nat_lt 1 core.shape.slots ≡ b → (if b then synced ((world_shard core).slot 1) else None) ≡ Some 0 → (world_shard core).slot 1 ≡ Synced 0
    by_test false is e = absurd (None-not_Some 0 e)
    by_test true is e =
        let inside : 1 < known.shape.slots =
        subst (λ (y : Shape). 1 < y.slots) (replied.0.0 ∙ looked.0.0) (ltb-true 1 core.shape.slots is) in
        in_sync_so ((world_shard core).slot 1) 0
        (subst (λ (s : Shard). IsAlone (s.slot 1)) (sym replied.1.2)
        (looked_alone (core_layout known) known.shard 1 0 (world_shard known) (starting 0) (world_shard seeing) looked.1 inside refl)) e
