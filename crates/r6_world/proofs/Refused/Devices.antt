-- The devices that a shard has at its slots in the course of a step, and which of them are in sync.
use Rattle.std.proofs.Common.{◌≡◌, ◌≢◌, ℕ, ◌⊎◌, ◌==◌, List, [], ◌∷◌, length, Bool, true, false, ◌||◌, ◌&&◌, not, if◌then◌else◌, inl, inr, refl, sym, ap, ◌∙◌, subst, arith, eq-eqb, ne_eqb}
use Rattle.std.proofs.lemmas.Bool.{cases_eq, cases_Bool, false≢true, or_left, or_right}
use Rattle.r6_world.specs.Tables.{put}
use Rattle.r6_world.specs.Layouts.{Layout}
use Rattle.r6_world.specs.Tasks.{Hold, Task, Rebuild, Outcome, Rebuilt}
use Rattle.r6_world.specs.ShardStates.{Shard, SlotState, Synced, Missing, Building, Doubled, Paired, InSyncFor, generation_in, second_in, devices_of, has_device}
use Rattle.r6_world.specs.Registers.{Snapshot, ShardSet, Status, InSync, Lost, Rebuilding, Replacing, status_of}
use Rattle.r6_world.specs.Changes.{Change, Start, Ask, Prepare, Classify, Send, Copy, Read_direct, Fix, Ask_again, Move, Give_over, Finish, Bring_in, Allowed, HasSecondFor, after, slots_in_error, slots_after, with_row, brought_in, without, adopted, differs, Part, Nothing, Some_rows, Whole, part_of, started, alone, Learn, Confirm, Give_direct, Fail, Set_back, Lose, Come_home}
use Rattle.r6_world.specs.Steps.{GivesOver, GoesOn, Scans, Takes, Completion, Good, Error, Read_error, Receipt, Taken, Late}
use Rattle.r6_world.specs.Refusals.{GoesOnWithout}
use Rattle.r6_world.proofs.Tables.{put-same, put-other}
use Rattle.r6_world.proofs.Changes.{lost-kept}
use Rattle.r6_world.proofs.Looks.{loss_brings_nothing, adopted-by, placed}
use Rattle.r6_world.proofs.Register.WaitingCalls.{put-alike}
use Rattle.r6_world.proofs.Register.PutAway.{without-was}
use Rattle.r6_world.proofs.Uses.{Uses, sync-uses, used-has, has-used}

-- ---- the devices of a slot

-- which devices a slot has is said by their list
abbrev pub among : List ℕ → ℕ → Bool
among [] g = false
among (d ∷ []) g = d == g
among (d ∷ e ∷ devices) g = (d == g) || among (e ∷ devices) g

pub has-among : (state : SlotState) (g : ℕ) → has_device state g ≡ among (devices_of state) g
has-among (Synced current) g = refl
has-among Missing g = refl
has-among (Building current built) g = refl
has-among (Doubled old new built) g = refl
has-among (Paired old new) g = refl

pub same-has : (a b : SlotState) (g : ℕ) → devices_of a ≡ devices_of b → has_device a g ≡ has_device b g
same-has a b g same = has-among a g ∙ ap (λ devices. among devices g) same ∙ sym (has-among b g)

pub fewer-has : (a b : SlotState) (g : ℕ) → (Uses a g → Uses b g) → has_device b g ≡ false → has_device a g ≡ false
fewer-has a b g back e = elim (cases_Bool (has_device a g)) [
  | inl has ↦ absurd (false≢true (sym e ∙ used-has b g (back (has-used a g has))))
  | inr none ↦ none
]

pub has-first : (state : SlotState) → state ≢ Missing → has_device state (generation_in state) ≡ true
has-first (Synced current) ne = eq-eqb current current refl
has-first Missing ne = absurd (ne refl)
has-first (Building current built) ne = eq-eqb current current refl
has-first (Doubled old new built) ne = or_left _ _ (eq-eqb old old refl)
has-first (Paired old new) ne = or_left _ _ (eq-eqb old old refl)

pub has-second : (state : SlotState) → length (devices_of state) ≡ 2 → has_device state (second_in state) ≡ true
has-second (Synced current) two = absurd (omega arith)
has-second Missing two = absurd (omega arith)
has-second (Building current built) two = absurd (omega arith)
has-second (Doubled old new built) two = or_right _ _ (eq-eqb new new refl)
has-second (Paired old new) two = or_right _ _ (eq-eqb new new refl)

pub row-devices : (state : SlotState) (row : ℕ) → devices_of (with_row state row) ≡ devices_of state
row-devices (Synced current) row = refl
row-devices Missing row = refl
row-devices (Building current built) row = refl
row-devices (Doubled old new built) row = refl
row-devices (Paired old new) row = refl

pub brought-devices : (state : SlotState) → devices_of (brought_in state) ≡ devices_of state
brought-devices (Synced current) = refl
brought-devices Missing = refl
brought-devices (Building current built) = refl
brought-devices (Doubled old new built) = refl
brought-devices (Paired old new) = refl

-- those of one slot are the same when a slot has another state with the same devices
pub put-devices : (slots : ℕ → SlotState) (slot : ℕ) (state : SlotState) (d : ℕ) → devices_of state ≡ devices_of (slots slot) → devices_of (put slots slot state d) ≡ devices_of (slots d)
put-devices slots slot state d same = put-alike (λ y. devices_of y ≡ devices_of (slots d)) slots slot state d (λ e. same ∙ e) refl

end-devices : (s : Shard) (h : Hold) (task : Task) (outcome : Outcome) (d : ℕ) → devices_of (slots_after s h task outcome d) ≡ devices_of (s.slot d)
end-devices s h (Rebuild target g) Rebuilt d = put-devices s.slot target (with_row (s.slot target) h.row) d (row-devices (s.slot target) h.row)
end-devices s h task outcome d = refl

-- one that has a second device has two, and without the first one the second alone
two-with : (state : SlotState) (row g : ℕ) → HasSecondFor state row g → length (devices_of state) ≡ 2
two-with (Synced current) row g has = absurd has.1
two-with Missing row g has = absurd has.1
two-with (Building current built) row g has = absurd has.1
two-with (Doubled old new built) row g has = refl
two-with (Paired old new) row g has = refl

second-left : (state : SlotState) (row g : ℕ) → g ≡ generation_in state → HasSecondFor state row g → devices_of (without state g) ≡ second_in state ∷ []
second-left (Synced current) row g is has = absurd has.1
second-left Missing row g is has = absurd has.1
second-left (Building current built) row g is has = absurd has.1
second-left (Doubled old new built) row g is has = by (old == g) refl
  where
    by : (x : Bool) → (old == g) ≡ x → devices_of (if x then Building new built else Synced old) ≡ new ∷ []
    by true e = refl
    by false e = absurd (false≢true (sym e ∙ eq-eqb old g (sym is)))
second-left (Paired old new) row g is has = by (old == g) refl
  where
    by : (x : Bool) → (old == g) ≡ x → devices_of (if x then Synced new else Synced old) ≡ new ∷ []
    by true e = refl
    by false e = absurd (false≢true (sym e ∙ eq-eqb old g (sym is)))

-- ---- what a look has taken over it finds so

not-other : (g : ℕ) → not (g == g) ≡ false
not-other g = ap not (eq-eqb g g refl)

both-same : (old new : ℕ) → old ≢ new → ((old == new) || not ((old == old) && (new == new))) ≡ false
both-same old new apart = (λ i. ne_eqb old new apart i || not (eq-eqb old old refl i && (new == new))) ∙ not-other new

both-there : (old new : ℕ) → old ≢ new → ((old == new) || not (((old == old) || (new == old)) && ((old == new) || (new == new)))) ≡ false
both-there old new apart = λ i. ne_eqb old new apart i || not (or_left (old == old) (new == old) (eq-eqb old old refl) i && or_right (old == new) (new == new) (eq-eqb new new refl) i)

both-swapped : (old new : ℕ) → old ≢ new → ((old == new) || not (((new == old) || (old == old)) && ((new == new) || (old == new)))) ≡ false
both-swapped old new apart = λ i. ne_eqb old new apart i || not (or_right (new == old) (old == old) (eq-eqb old old refl) i && or_left (new == new) (old == new) (eq-eqb new new refl) i)

settled-alone : (generation : ℕ) (part : Part) → differs (alone generation part) (InSync generation) ≡ false
settled-alone generation Nothing = refl
settled-alone generation (Some_rows built) = not-other generation
settled-alone generation Whole = not-other generation

settled-started : (generation : ℕ) (reported : ShardSet) (part : Part) → differs (alone generation (started part)) (Rebuilding generation reported) ≡ false
settled-started generation reported Nothing = not-other generation
settled-started generation reported (Some_rows built) = not-other generation
settled-started generation reported Whole = not-other generation

settled-new : (old new : ℕ) (reported : ShardSet) (part : Part) → differs (alone new (started part)) (Replacing old new reported) ≡ false
settled-new old new reported Nothing = not-other new
settled-new old new reported (Some_rows built) = not-other new
settled-new old new reported Whole = not-other new

settled-beside : (old new : ℕ) (reported : ShardSet) (first part : Part) → old ≢ new → differs (placed old first new (started part)) (Replacing old new reported) ≡ false
settled-beside old new reported Nothing part apart = settled-new old new reported part
settled-beside old new reported (Some_rows built) part apart = settled-new old new reported part
settled-beside old new reported Whole Nothing apart = both-same old new apart
settled-beside old new reported Whole (Some_rows built) apart = both-same old new apart
settled-beside old new reported Whole Whole apart = both-there old new apart

-- one device that is to be replaced by itself
settled-twice : (old new : ℕ) (reported : ShardSet) (part : Part) → old ≡ new → differs (alone old part) (Replacing old new reported) ≡ false
settled-twice old new reported Nothing same = ap not (eq-eqb old new same)
settled-twice old new reported (Some_rows built) same = ap not (eq-eqb old new same)
settled-twice old new reported Whole same = ap not (eq-eqb old new same)

pub adopted-settled : (now : SlotState) (status : Status) → differs (adopted now status) status ≡ false
adopted-settled now (InSync generation) = settled-alone generation (part_of now generation)
adopted-settled now Lost = refl
adopted-settled now (Rebuilding generation reported) = settled-started generation reported (part_of now generation)
adopted-settled now (Replacing old new reported) = adopted-by (λ state. differs state (Replacing old new reported) ≡ false) now old new reported
    (settled-twice old new reported (part_of now old)) (settled-beside old new reported (part_of now old) (part_of now new))
    (λ apart swapped. ap (λ state. differs state (Replacing old new reported)) swapped ∙ both-swapped old new apart)

module _ (l : Layout) (n : ℕ) where
  pub goes-devices : (s : Shard) (change : Change) → GoesOn change → Allowed l n s change → (d : ℕ) → devices_of ((after l s change).slot d) ≡ devices_of (s.slot d)
  goes-devices s (Ask f h slot g) k a d = refl
  goes-devices s (Prepare f h event) k a d = refl
  goes-devices s (Classify f h class) k a d = refl
  goes-devices s (Send f h slot g b) k a d = refl
  goes-devices s (Copy f h slot g b) k a d = refl
  goes-devices s (Fix f h slot g b) k a d = refl
  goes-devices s (Ask_again f h slot g) k a d = refl
  goes-devices s (Finish f h outcome) k a d = end-devices s h h.task outcome d
  goes-devices s (Bring_in slot g) k a d = put-devices s.slot slot (brought_in (s.slot slot)) d (brought-devices (s.slot slot))
  goes-devices s change k a d = absurd k

  pub goes-has : (s : Shard) (change : Change) → GoesOn change → Allowed l n s change → (d g : ℕ) → has_device ((after l s change).slot d) g ≡ has_device (s.slot d) g
  goes-has s change k a d g = same-has ((after l s change).slot d) (s.slot d) g (goes-devices s change k a d)

  pub gives-fewer : (d g : ℕ) (s : Shard) (change : Change) → GivesOver change → Allowed l n s change → has_device (s.slot d) g ≡ false → has_device ((after l s change).slot d) g ≡ false
  gives-fewer d g s (Give_over f h) k a x = lost-kept l (λ s'. has_device (s'.slot d) g ≡ false) (λ s' slot y. put-alike (λ z. has_device z g ≡ false) s'.slot slot Missing d (λ z. refl) y) (slots_in_error l h) s x
  gives-fewer d g s (Move f h slot g0) k a x =
      put-alike (λ z. has_device z g ≡ false) s.slot slot (without (s.slot slot) g0) d (fewer-has (without (s.slot slot) g0) (s.slot slot) g (without-was (s.slot slot) g0 g)) x
  gives-fewer d g s change k a x = absurd k

  pub scan-slots : (s : Shard) (change : Change) → Scans change → Allowed l n s change → (after l s change).slot ≡ s.slot
  scan-slots s (Start f row task) k a = refl
  scan-slots s (Ask f h slot g) k a = refl
  scan-slots s (Prepare f h event) k a = refl
  scan-slots s (Send f h slot g b) k a = refl
  scan-slots s (Copy f h slot g b) k a = refl
  scan-slots s (Read_direct buffer id block g) k a = refl
  scan-slots s change k a = absurd k

module _ (l : Layout) (n : ℕ) (old : Shard) where
  -- what is in sync on a device was so: so it is until holds go on
  abbrev pub SyncedBefore : (ℕ → SlotState) → Type 0
  SyncedBefore slots = (slot row g : ℕ) → InSyncFor (slots slot) row g → InSyncFor (old.slot slot) row g

  pub synced-put : (slots : ℕ → SlotState) (slot : ℕ) (state : SlotState) → ((row g : ℕ) → InSyncFor state row g → InSyncFor (slots slot) row g) → SyncedBefore slots → SyncedBefore (put slots slot state)
  synced-put slots slot state less x d row g sync = elim (cases_eq d slot) [
    | inl same ↦ x d row g (subst (λ k. InSyncFor (slots k) row g) (sym same) (less row g (subst (λ y. InSyncFor y row g) (put-same slots slot state d same) sync)))
    | inr ne ↦ x d row g (subst (λ y. InSyncFor y row g) (put-other slots slot state d ne) sync)
  ]

  pub gives-synced : (s : Shard) (change : Change) → GivesOver change → Allowed l n s change → SyncedBefore s.slot → SyncedBefore (after l s change).slot
  gives-synced s (Give_over f h) k a x = lost-kept l (λ s'. SyncedBefore s'.slot) (λ s' slot y. synced-put s'.slot slot Missing (λ row g sync. absurd sync) y) (slots_in_error l h) s x
  gives-synced s (Move f h slot g) k a x = synced-put s.slot slot (without (s.slot slot) g) (λ row g' sync. loss_brings_nothing (s.slot slot) g row g' sync) x
  gives-synced s change k a x = absurd k

  pub taken-synced : (s : Shard) (token : ℕ) (completion : Completion) (receipt : Receipt) (change : Change) → Takes l s token completion receipt change → SyncedBefore s.slot → SyncedBefore (after l s change).slot
  taken-synced s t (Good b) Taken (Learn token c h learned) k x = x
  taken-synced s t (Good b) Taken (Confirm token c h) k x = x
  taken-synced s t (Good b) Taken (Give_direct token c own block given) k x = x
  taken-synced s t Error Taken (Lose token c) k x = synced-put s.slot c.slot (without (s.slot c.slot) c.generation) (λ r g sync. loss_brings_nothing (s.slot c.slot) c.generation r g sync) x
  taken-synced s t Read_error Taken (Fail token c h) k x = x
  taken-synced s t Read_error Taken (Set_back token c own block) k x = x
  taken-synced s t Read_error Taken (Lose token c) k x = synced-put s.slot c.slot (without (s.slot c.slot) c.generation) (λ r g sync. loss_brings_nothing (s.slot c.slot) c.generation r g sync) x
  taken-synced s t Read_error Late (Come_home token c) k x = x
  taken-synced s t (Good b) Late (Come_home token c) k x = x
  taken-synced s t Error Late (Come_home token c) k x = x
  taken-synced s t completion receipt change k x = absurd k

  -- a look takes a slot over at most once
  abbrev pub TakenOnce : Snapshot → (ℕ → SlotState) → Type 0
  TakenOnce seen slots = (d : ℕ) → (slots d ≡ old.slot d) ⊎ (differs (slots d) (status_of seen d) ≡ false)

  pub take-once : (seen : Snapshot) (slots : ℕ → SlotState) (slot : ℕ) (status : Status) → status ≡ status_of seen slot → TakenOnce seen slots → TakenOnce seen (put slots slot (adopted (slots slot) status))
  take-once seen slots slot status is once d = elim (cases_eq d slot) [
    | inl same ↦ inr (subst (λ z. differs z (status_of seen d) ≡ false) (sym (put-same slots slot (adopted (slots slot) status) d same))
        (ap (differs (adopted (slots slot) status)) (ap (status_of seen) same ∙ sym is) ∙ adopted-settled (slots slot) status))
    | inr ne ↦ subst (λ z. (z ≡ old.slot d) ⊎ (differs z (status_of seen d) ≡ false)) (sym (put-other slots slot (adopted (slots slot) status) d ne)) (once d)
  ]

  -- a hold takes out the first of two devices: both were there
  pub goes-without : (s : Shard) (f : ℕ) (h : Hold) (slot g : ℕ) → Allowed l n s (Move f h slot g) → SyncedBefore s.slot → GoesOnWithout old (after l s (Move f h slot g)) slot g
  goes-without s f h slot g a x =
      let second = second_in (s.slot slot) in
      let was : (g' : ℕ) → InSyncFor (s.slot slot) h.row g' → has_device (old.slot slot) g' ≡ true = λ g' sync. used-has (old.slot slot) g' (sync-uses (old.slot slot) h.row g' (x slot h.row g' sync)) in (
        second,
        (λ same. a.4.0 (sym same)),
        was g a.2.0,
        was second (loss_brings_nothing (s.slot slot) g h.row second a.4.1),
        ap devices_of (put-same s.slot slot (without (s.slot slot) g) slot refl) ∙ second-left (s.slot slot) h.row g a.2.1 a.4,
      )

  -- a slot goes on as long as it has the same devices
  pub goes-on-still : (s s' : Shard) (slot g : ℕ) → devices_of (s'.slot slot) ≡ devices_of (s.slot slot) → GoesOnWithout old s slot g → GoesOnWithout old s' slot g
  goes-on-still s s' slot g same x = (x.0, x.1, x.2, x.3, same ∙ x.4)

  -- a slot with one device is no other one's that loses its first
  pub one-beside : (s : Shard) (f : ℕ) (h : Hold) (slot g : ℕ) → Allowed l n s (Move f h slot g) → (d other : ℕ) → devices_of (s.slot d) ≡ other ∷ [] → devices_of ((after l s (Move f h slot g)).slot d) ≡ other ∷ []
  one-beside s f h slot g a d other x = elim (cases_eq d slot) [
    | inl same ↦
        let one : length (devices_of (s.slot slot)) ≡ 1 = ap (λ k. length (devices_of (s.slot k))) (sym same) ∙ ap length x in
        let two = two-with (s.slot slot) h.row g a.4 in absurd (omega arith)
    | inr ne ↦ ap devices_of (put-other s.slot slot (without (s.slot slot) g) d ne) ∙ x
  ]

  -- so it goes on as it did
  pub goes-on-beside : (s : Shard) (f : ℕ) (h : Hold) (slot g : ℕ) → Allowed l n s (Move f h slot g) → (d g' : ℕ) → GoesOnWithout old s d g' → GoesOnWithout old (after l s (Move f h slot g)) d g'
  goes-on-beside s f h slot g a d g' x = (x.0, x.1, x.2, x.3, one-beside s f h slot g a d x.0 x.4)
