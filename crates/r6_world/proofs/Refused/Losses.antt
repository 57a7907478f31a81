-- What becomes of a slot's devices by errors and looks.
use Rattle.std.proofs.Common.{◌<◌, ◌≡◌, ◌≢◌, ℕ, ◌⊎◌, ◌==◌, if◌then◌else◌, List, [], ◌∷◌, ◌++◌, map, Bool, true, false, ◌&&◌, ◌||◌, nat_le, inl, inr, refl, sym, ap, ◌∙◌, subst, Some, arith, eq-eqb}
use Rattle.std.proofs.lemmas.Bool.{cases_eq, cases_Bool, false≢true, eqb-true, or_cases, or_right}
use Rattle.r6_stripe.specs.Holds.{Reading as CellReading, cell_at}
use Rattle.r6_stripe.specs.Holds.Reading.{Asked}
use Rattle.r6_stripe.specs.Plans.{is_asked}
use Rattle.r6_world.specs.Tables.{put}
use Rattle.r6_world.specs.Layouts.{Layout}
use Rattle.r6_world.specs.PlainArray.{Read}
use Rattle.r6_world.specs.Registers.{Snapshot, status_of}
use Rattle.r6_world.specs.Tasks.{Hold, Task, Rebuild, Outcome, Rebuilt}
use Rattle.r6_world.specs.ShardStates.{Shard, Reading, Transfer, Fetch, is_fetch, is_first_read, is_asked_of, frames, Command, Call, LossOf, RebuildOf, SlotState, Synced, Missing, Building, Doubled, Paired, InSyncFor, IsLive, devices_of, has_device}
use Rattle.r6_world.specs.Changes.{Change, Accept, Start, Ask, Prepare, Classify, Send, Copy, Read_direct, Give_direct, Learn, Confirm, Fix, Ask_again, Fail, Set_back, Move, Give_over, Come_home, Lose, Finish, Bring_in, Release, Skip_turn, Allowed, after, brought_in, lost_slot, slots_after, slots_in_error, with_row, without}
use Rattle.r6_world.specs.Steps.{Scans, GoesOn, GivesOver, GoOn, Leads, Looks, Takes, Through, Completion, Good, Error, Read_error, Receipt, Taken, Late, Event, Submit, Submit_all, entered, Deliver, Look, Turn_started, Turn_skipped, Take_command, No_command, Take_call, No_call, Told, Take_reply, No_reply, Step}
use Rattle.r6_world.specs.Looks.{IsDeviceOf, IsOldInPart}
use Rattle.r6_world.specs.Refusals.{IsIn, IsToTell, IsNoLook, FailsAtDevice, LossesAreDeclared, LooksKeep, TakesOut}
use Rattle.r6_world.proofs.Tables.{put-same, put-other, same_entry}
use Rattle.r6_world.proofs.Changes.{all-kept, enter-kept, lost-kept}
use Rattle.r6_world.proofs.Lives.{lives-before}
use Rattle.r6_world.proofs.Looks.{look_keeps_no_other, look_keeps_rows}
use Rattle.r6_world.proofs.Register.PutAway.{without-left, brought-uses}
use Rattle.r6_world.proofs.Register.WaitingCalls.{row-uses, put-alike}
use Rattle.r6_world.proofs.Uses.{Uses, sync-uses, used-has, has-used}
use Rattle.r6_world.proofs.Refused.Refusals.{in-last, to-tell-more}
use Rattle.r6_world.proofs.Rows.Becoming.{with-row-sync, brought-sync}
use Rattle.r6_world.proofs.Refused.Devices.{among, has-among, goes-devices, goes-has, gives-fewer, scan-slots, one-beside}

-- ---- calls of lost devices

in-behind : (call : Call) (calls more : List Call) → IsIn call more → IsIn call (calls ++ more)
in-behind call [] more x = x
in-behind call (other ∷ calls) more x = inr (in-behind call calls more x)

in-losses : (slot g : ℕ) (devices : List ℕ) → among devices g ≡ true → IsIn (LossOf slot g) (map (LossOf slot) devices)
in-losses slot g [] e = absurd (false≢true e)
in-losses slot g (d ∷ []) e = inl (ap (LossOf slot) (sym (eqb-true d g e)))
in-losses slot g (d ∷ e' ∷ devices) e = elim (or_cases _ _ e) [
  | inl here ↦ inl (ap (LossOf slot) (sym (eqb-true d g here)))
  | inr later ↦ inr (in-losses slot g (e' ∷ devices) later)
]

-- the loss of a slot's device is among those of all its devices
in-lost : (slot g : ℕ) (calls : List Call) (state : SlotState) → Uses state g → IsIn (LossOf slot g) (calls ++ map (LossOf slot) (devices_of state))
in-lost slot g calls state u = in-behind (LossOf slot g) calls (map (LossOf slot) (devices_of state)) (in-losses slot g (devices_of state) (sym (has-among state g) ∙ used-has state g u))

-- without another device a row is in sync as it was
without-sync : (state : SlotState) (g0 row g : ℕ) → Uses state g0 → InSyncFor state row g → InSyncFor (without state g0) row g ⊎ (g ≡ g0)
without-sync (Synced c) g0 row g (inl u) is = inr (is ∙ sym u.1)
without-sync (Synced c) g0 row g (inr u) is = absurd u.0
without-sync Missing g0 row g u is = absurd is
without-sync (Building c built) g0 row g (inl u) is = inr (is.0 ∙ sym u.1)
without-sync (Building c built) g0 row g (inr u) is = absurd u.0
without-sync (Doubled old new built) g0 row g u is = by (old == g0) refl
  where
    by : (x : Bool) → (old == g0) ≡ x → InSyncFor (if x then Building new built else Synced old) row g ⊎ (g ≡ g0)
    by true e = elim is [ inl y ↦ inr (y ∙ eqb-true old g0 e) | inr y ↦ inl y ]
    by false e = elim is [ inl y ↦ inl y | inr y ↦ elim u [ inl x ↦ absurd (false≢true (sym e ∙ eq-eqb old g0 (sym x.1))) | inr x ↦ inr (y.0 ∙ sym x.1) ] ]
without-sync (Paired old new) g0 row g u is = by (old == g0) refl
  where
    by : (x : Bool) → (old == g0) ≡ x → InSyncFor (if x then Synced new else Synced old) row g ⊎ (g ≡ g0)
    by true e = elim is [ inl y ↦ inr (y ∙ eqb-true old g0 e) | inr y ↦ inl y ]
    by false e = elim is [ inl y ↦ inl y | inr y ↦ elim u [ inl x ↦ absurd (false≢true (sym e ∙ eq-eqb old g0 (sym x.1))) | inr x ↦ inr (y ∙ sym x.1) ] ]

-- ---- what is so of a device of a slot is so yet, or its loss is to be declared

module _ (l : Layout) (n slot g : ℕ) (X : SlotState → Type 0) (uses : (state : SlotState) → X state → Uses state g)
    (on : (state : SlotState) (g0 : ℕ) → Uses state g0 → X state → X (without state g0) ⊎ (g ≡ g0))
    (rows : (state : SlotState) (row : ℕ) → X state → X (with_row state row)) (brings : (state : SlotState) → X state → X (brought_in state)) where
  abbrev Kept : Shard → Type 0
  Kept s = X (s.slot slot) ⊎ IsToTell s (LossOf slot g)

  -- a device of a slot is lost, and that is to be declared
  lost-kept-one : (s : Shard) (out g0 : ℕ) → Uses (s.slot out) g0 → Kept s → X (put s.slot out (without (s.slot out) g0) slot) ⊎ (IsIn (LossOf slot g) (s.calls ++ LossOf out g0 ∷ []) ⊎ (s.untold ≡ Some (LossOf slot g)))
  lost-kept-one s out g0 u (inr told) = inr (to-tell-more s.calls (LossOf out g0 ∷ []) s.untold (LossOf slot g) told)
  lost-kept-one s out g0 u (inl x) = elim (cases_eq slot out) [
    | inr ne ↦ inl (subst X (sym (put-other s.slot out (without (s.slot out) g0) slot ne)) x)
    | inl same ↦ elim (on (s.slot out) g0 u (subst (λ k. X (s.slot k)) same x)) [
      | inl y ↦ inl (subst X (sym (put-same s.slot out (without (s.slot out) g0) slot same)) y)
      | inr gone ↦ inr (inl (subst (λ c. IsIn c (s.calls ++ LossOf out g0 ∷ [])) ((λ i. LossOf (sym same i) (sym gone i))) (in-last (LossOf out g0) s.calls)))
    ]
  ]

  lost-kept-all : (s : Shard) (out : ℕ) → Kept s → Kept (lost_slot l s out)
  lost-kept-all s out (inr told) = inr (to-tell-more s.calls (map (LossOf out) (devices_of (s.slot out))) s.untold (LossOf slot g) told)
  lost-kept-all s out (inl x) = elim (cases_eq slot out) [
    | inr ne ↦ inl (subst X (sym (put-other s.slot out Missing slot ne)) x)
    | inl same ↦ inr (inl (subst (λ k. IsIn (LossOf slot g) (s.calls ++ map (LossOf k) (devices_of (s.slot k)))) same (in-lost slot g s.calls (s.slot slot) (uses (s.slot slot) x))))
  ]

  gives-keep : (s : Shard) (change : Change) → GivesOver change → Allowed l n s change → Kept s → Kept (after l s change)
  gives-keep s (Move f h out g0) k a x = lost-kept-one s out g0 (sync-uses (s.slot out) h.row g0 a.2.0) x
  gives-keep s (Give_over f h) k a x = lost-kept l Kept (λ s' out y. lost-kept-all s' out y) (slots_in_error l h) s x
  gives-keep s change k a x = absurd k

  ends-keep : (s : Shard) (h : Hold) (task : Task) (outcome : Outcome) → X (s.slot slot) → X (slots_after s h task outcome slot)
  ends-keep s h (Rebuild target current) Rebuilt x = put-alike X s.slot target (with_row (s.slot target) h.row) slot (rows (s.slot target) h.row) x
  ends-keep s h task outcome x = x

  goes-keep : (s : Shard) (change : Change) → GoesOn change → Allowed l n s change → Kept s → Kept (after l s change)
  goes-keep s (Ask f h d current) k a x = x
  goes-keep s (Prepare f h event) k a x = x
  goes-keep s (Classify f h class) k a x = x
  goes-keep s (Send f h d current b) k a x = x
  goes-keep s (Copy f h d current b) k a x = x
  goes-keep s (Fix f h d current b) k a x = x
  goes-keep s (Ask_again f h d current) k a x = x
  goes-keep s (Finish f h outcome) k a (inl x) = inl (ends-keep s h h.task outcome x)
  goes-keep s (Finish f h outcome) k a (inr told) = inr told
  goes-keep s (Bring_in d current) k a (inl x) = inl (put-alike X s.slot d (brought_in (s.slot d)) slot (brings (s.slot d)) x)
  goes-keep s (Bring_in d current) k a (inr told) = inr (to-tell-more s.calls (RebuildOf d current ∷ []) s.untold (LossOf slot g) told)
  goes-keep s change k a x = absurd k

  scans-keep-one : (s : Shard) (change : Change) → Scans change → Allowed l n s change → Kept s → Kept (after l s change)
  scans-keep-one s (Start f row task) k a x = x
  scans-keep-one s (Ask f h d current) k a x = x
  scans-keep-one s (Prepare f h event) k a x = x
  scans-keep-one s (Send f h d current b) k a x = x
  scans-keep-one s (Copy f h d current b) k a x = x
  scans-keep-one s (Read_direct buffer id block current) k a x = x
  scans-keep-one s change k a x = absurd k

  scans-keep : (mid new : Shard) → Through l n Scans mid new → Kept mid → Kept new
  scans-keep mid new t x = all-kept l n Kept Scans scans-keep-one t.0 mid new t.1 x

  go-on-keep : (mid last : Shard) → GoOn l n mid last → Kept mid → Kept last
  go-on-keep mid last t x = all-kept l n Kept GoesOn goes-keep t.2.0 t.0 last t.2.1 (all-kept l n Kept GivesOver gives-keep t.1.0 mid t.0 t.1.1 x)

  looks-keep : (failed : Bool) (mid new : Shard) → Looks l n failed mid new → X (mid.slot slot) → Kept new
  looks-keep true mid new k x = subst Kept (sym k) (inl x)
  looks-keep false mid new k x = scans-keep (after l k.0 Release) new k.2 (go-on-keep mid k.0 k.1 (inl x))

  -- ---- any event but a look

  opens-keep : (old : Shard) (token : ℕ) (completion : Completion) (receipt : Receipt) (change : Change) → FailsAtDevice old (Deliver token completion receipt) → Takes l old token completion receipt change → Allowed l n old change
      → X (old.slot slot) → Kept (after l old change)
  opens-keep old t (Good b) Taken (Learn token c h learned) own k a x = inl x
  opens-keep old t (Good b) Taken (Give_direct token c id block given) own k a x = inl x
  opens-keep old t (Good b) Taken (Confirm token c h) own k a x = inl x
  opens-keep old t Error Taken (Lose token c) own k a x = lost-kept-one old c.slot c.generation (has-used (old.slot c.slot) c.generation (own c (subst (λ y. old.command y ≡ Some c) k.0 a.0))) (inl x)
  opens-keep old t Read_error Taken (Fail token c h) own k a x = inl x
  opens-keep old t Read_error Taken (Set_back token c id block) own k a x = inl x
  opens-keep old t Read_error Taken (Lose token c) own k a x = lost-kept-one old c.slot c.generation (has-used (old.slot c.slot) c.generation (own c (subst (λ y. old.command y ≡ Some c) k.0 a.0))) (inl x)
  opens-keep old t (Good b) Late (Come_home token c) own k a x = inl x
  opens-keep old t Error Late (Come_home token c) own k a x = inl x
  opens-keep old t Read_error Late (Come_home token c) own k a x = inl x
  opens-keep old t completion receipt change own k a x = absurd k

  pub keeps : (old : Shard) (event : Event) (new : Shard) → IsNoLook event → FailsAtDevice old event → Step l n old event new → X (old.slot slot) → Kept new
  keeps old (Submit op id) new none own st x = scans-keep (after l old (Accept op)) new st.2 (inl x)
  keeps old (Submit_all ops first) new none own st x = scans-keep (entered l old ops) new st.2 (enter-kept l n Kept (λ s op a k. k) ops old st.1 (inl x))
  keeps old (Deliver token completion receipt) new none own st x =
      scans-keep st.3 new st.5 (go-on-keep (after l old st.0) st.3 st.4 (opens-keep old token completion receipt st.0 own st.1 st.2 x))
  keeps old (Look seen) new none own st x = absurd none
  keeps old (Turn_started task) new none own st x = scans-keep (after l old (Start st.1 st.2 task)) new st.4 (inl x)
  keeps old (Turn_skipped task row) new none own st x = scans-keep (after l old (Skip_turn task row)) new st.1 (inl x)
  keeps old (Take_command token c) new none own st x = subst Kept (sym st.1) (inl x)
  keeps old No_command new none own st x = subst Kept (sym st.1) (inl x)
  keeps old (Take_call call) new none own st x = subst Kept (sym st.2) (inl x)
  keeps old No_call new none own st x = subst Kept (sym st.1) (inl x)
  keeps old (Told call answer) new none own st x = subst Kept (sym st.1) (inl x)
  keeps old (Take_reply id reply) new none own st x = subst Kept (sym st.2) (inl x)
  keeps old No_reply new none own st x = subst Kept (sym st.1) (inl x)

pub losses_are_declared : LossesAreDeclared
losses_are_declared l n old new event slot g none own st = (
  (λ has.
      elim (keeps l n slot g (λ state. Uses state g) (λ state u. u) (λ state g0 u x. without-left state g0 g u x) (λ state row. row-uses state row g) (λ state. brought-uses state g)
      old event new none own st (has-used (old.slot slot) g has)) [
        | inl u ↦ inl (used-has (new.slot slot) g u)
        | inr told ↦ inr told
      ]),
  λ row is.
      keeps l n slot g (λ state. InSyncFor state row g) (λ state y. sync-uses state row g y) (λ state g0 u y. without-sync state g0 row g u y) (λ state done y. with-row-sync state done row g y) (λ state y. brought-sync state row g y)
      old event new none own st is,
)

looks-keep-rows : (l : Layout) (n : ℕ) (old new : Shard) (seen : Snapshot) (slot row g : ℕ) (st : Step l n old (Look seen) new) → slot < l.slots
    → InSyncFor (old.slot slot) row g → IsDeviceOf (status_of seen slot) g
    → InSyncFor (new.slot slot) row g ⊎ IsToTell new (LossOf slot g) ⊎ IsOldInPart (old.slot slot) (status_of seen slot) g
looks-keep-rows l n old new seen slot row g st below is own =
    elim (look_keeps_rows (old.slot slot) (status_of seen slot) row g is own) [
      | inr part ↦ inr (inr part)
      | inl after-look ↦
          let mid : InSyncFor (st.2.slot slot) row g = subst (λ z. InSyncFor z row g) (sym (st.4 slot below)) after-look in
          elim (looks-keep l n slot g (λ state. InSyncFor state row g) (λ state y. sync-uses state row g y) (λ state g0 u y. without-sync state g0 row g u y) (λ state done y. with-row-sync state done row g y) (λ state y. brought-sync state row g y)
          seen.failed st.2 new st.5 mid) [
            | inl y ↦ inl y
            | inr told ↦ inr (inl told)
          ]
    ]

-- ---- a look keeps no other device

module _ (l : Layout) (n slot g : ℕ) where
  abbrev Gone : Shard → Type 0
  Gone s = has_device (s.slot slot) g ≡ false

  goes-gone : (s : Shard) (change : Change) → GoesOn change → Allowed l n s change → Gone s → Gone (after l s change)
  goes-gone s change k a x = goes-has l n s change k a slot g ∙ x

  scans-gone : (s : Shard) (change : Change) → Scans change → Allowed l n s change → Gone s → Gone (after l s change)
  scans-gone s change k a x = ap (λ (slots : ℕ → SlotState). has_device (slots slot) g) (scan-slots l n s change k a) ∙ x

  looks-gone : (failed : Bool) (mid new : Shard) → Looks l n failed mid new → Gone mid → Gone new
  looks-gone true mid new k x = subst Gone (sym k) x
  looks-gone false mid new k x =
      all-kept l n Gone Scans scans-gone k.2.0 (after l k.0 Release) new k.2.1
      (all-kept l n Gone GoesOn goes-gone k.1.2.0 k.1.0 k.0 k.1.2.1
      (all-kept l n Gone GivesOver (gives-fewer l n slot g) k.1.1.0 mid k.1.0 k.1.1.1 x))

looks-keep-no-other : (l : Layout) (n : ℕ) (old new : Shard) (seen : Snapshot) (slot g : ℕ) (st : Step l n old (Look seen) new) → slot < l.slots
    → has_device (new.slot slot) g ≡ true → IsDeviceOf (status_of seen slot) g
looks-keep-no-other l n old new seen slot g st below has = elim (cases_Bool (has_device (st.2.slot slot) g)) [
  | inl there ↦ look_keeps_no_other (old.slot slot) (status_of seen slot) g (ap (λ z. has_device z g) (sym (st.4 slot below)) ∙ there)
  | inr none ↦ absurd (false≢true (sym (looks-gone l n slot g seen.failed st.2 new st.5 none) ∙ has))
]

pub looks_keep : LooksKeep
looks_keep l n old new seen slot g st below = (
  looks-keep-no-other l n old new seen slot g st below,
  λ row is own. looks-keep-rows l n old new seen slot row g st below is own,
)

-- ---- one error takes one device

-- without one of two devices the slot has the other alone
other-left : (state : SlotState) (g other : ℕ) → other ≢ g → has_device state g ≡ true → has_device state other ≡ true → devices_of (without state g) ≡ other ∷ []
other-left (Synced c) g other ne has has' = absurd (ne (sym (eqb-true c other has') ∙ eqb-true c g has))
other-left Missing g other ne has has' = absurd (false≢true has)
other-left (Building c built) g other ne has has' = absurd (ne (sym (eqb-true c other has') ∙ eqb-true c g has))
other-left (Doubled old new built) g other ne has has' = by (old == g) refl
  where
    by : (x : Bool) → (old == g) ≡ x → devices_of (if x then Building new built else Synced old) ≡ other ∷ []
    by true e = elim (or_cases _ _ has') [
      | inl first ↦ absurd (ne (sym (eqb-true old other first) ∙ eqb-true old g e))
      | inr second ↦ ap (λ (y : ℕ). y ∷ []) (eqb-true new other second)
    ]
    by false e = elim (or_cases _ _ has) [
      | inl first ↦ absurd (false≢true (sym e ∙ first))
      | inr second ↦ elim (or_cases _ _ has') [
        | inl first ↦ ap (λ (y : ℕ). y ∷ []) (eqb-true old other first)
        | inr second' ↦ absurd (ne (sym (eqb-true new other second') ∙ eqb-true new g second))
      ]
    ]
other-left (Paired old new) g other ne has has' = by (old == g) refl
  where
    by : (x : Bool) → (old == g) ≡ x → devices_of (if x then Synced new else Synced old) ≡ other ∷ []
    by true e = elim (or_cases _ _ has') [
      | inl first ↦ absurd (ne (sym (eqb-true old other first) ∙ eqb-true old g e))
      | inr second ↦ ap (λ (y : ℕ). y ∷ []) (eqb-true new other second)
    ]
    by false e = elim (or_cases _ _ has) [
      | inl first ↦ absurd (false≢true (sym e ∙ first))
      | inr second ↦ elim (or_cases _ _ has') [
        | inl first ↦ ap (λ (y : ℕ). y ∷ []) (eqb-true old other first)
        | inr second' ↦ absurd (ne (sym (eqb-true new other second') ∙ eqb-true new g second))
      ]
    ]

module _ (l : Layout) (n : ℕ) (old : Shard) (slot other : ℕ) where
  abbrev Alone : Shard → Type 0
  Alone s = devices_of (s.slot slot) ≡ other ∷ []

  gives-alone : (changes : List Change) (s lost : Shard) → Leads l n GivesOver s changes lost → Alone s → Alone lost ⊎ (IsLive l lost → ⊥)
  gives-alone [] s lost e x = inl (subst Alone (sym e) x)
  gives-alone (Move f h out g ∷ changes) s lost e x = gives-alone changes (after l s (Move f h out g)) lost e.2 (one-beside l n old s f h out g e.1 slot other x)
  gives-alone (Give_over f h ∷ changes) s lost e x =
      inr (λ live. let few = (lives-before l n GivesOver changes (after l s (Give_over f h)) lost e.2 live).0 in let three = e.1.3 in absurd (omega arith))
  gives-alone (change ∷ changes) s lost e x = absurd e.0

  delivers-alone : (s mid new : Shard) → GoOn l n s mid → Through l n Scans mid new → IsLive l new → Alone s → Alone new
  delivers-alone s mid new t u live x =
      let live-mid = lives-before l n Scans u.0 mid new u.1 live in
      let live-lost = lives-before l n GoesOn t.2.0 t.0 mid t.2.1 live-mid in
      all-kept l n Alone Scans (λ s' change k a y. ap (λ (slots : ℕ → SlotState). devices_of (slots slot)) (scan-slots l n s' change k a) ∙ y) u.0 mid new u.1
      (all-kept l n Alone GoesOn (λ s' change k a y. goes-devices l n s' change k a slot ∙ y) t.2.0 t.0 mid t.2.1
      (elim (gives-alone t.1.0 s t.0 t.1.1 x) [ inl y ↦ y | inr stops ↦ absurd (stops live-lost) ]))

loses-one : (l : Layout) (n : ℕ) (old : Shard) (t : ℕ) (c : Command) (other : ℕ) → old.command t ≡ Some c → has_device (old.slot c.slot) c.generation ≡ true → other ≢ c.generation → has_device (old.slot c.slot) other ≡ true
    → (token : ℕ) (d : Command) → token ≡ t → old.command token ≡ Some d → devices_of ((after l old (Lose token d)).slot c.slot) ≡ other ∷ []
loses-one l n old t c other here has ne has' token d same there =
    let is : d ≡ c = same_entry (old.command t) d c (subst (λ y. old.command y ≡ Some d) same there) here in
    ap devices_of (put-same old.slot d.slot (without (old.slot d.slot) d.generation) c.slot (ap (λ (y : Command). y.slot) (sym is)))
    ∙ ap (λ (y : Command). devices_of (without (old.slot y.slot) y.generation)) is ∙ other-left (old.slot c.slot) c.generation other ne has has'

-- an answer that the hold reads again, or fixes, is the read error of a first read
first-read : (b : Bool) (transfer : Transfer) (reading : CellReading) → transfer ≡ Fetch → reading ≡ Asked → (is_fetch transfer && (b || is_asked reading)) ≡ true
first-read b transfer reading fetch asked = (λ i. is_fetch (fetch i) && (b || is_asked (asked i))) ∙ or_right b true refl

failed-first : (l : Layout) (n : ℕ) (old : Shard) (token : ℕ) (c : Command) (h : Hold) → Allowed l n old (Fail token c h) → is_first_read l old c ≡ true
failed-first l n old token c h a =
    ap (λ o. is_fetch c.transfer && (nat_le frames c.frame || is_asked_of l o c)) a.2
    ∙ first-read (nat_le frames c.frame) c.transfer (cell_at h.course.cells (l.position h.row c.slot)).reading a.3 a.4

opens-alone : (l : Layout) (n : ℕ) (old : Shard) (t : ℕ) (c : Command) (completion : Completion) (other : ℕ) → old.command t ≡ Some c → TakesOut l old t c completion
    → has_device (old.slot c.slot) c.generation ≡ true → other ≢ c.generation → has_device (old.slot c.slot) other ≡ true
    → (change : Change) → Takes l old t completion Taken change → Allowed l n old change → devices_of ((after l old change).slot c.slot) ≡ other ∷ []
opens-alone l n old t c Error other here out has ne has' (Lose token d) k a = loses-one l n old t c other here has ne has' token d k.0 a.0
opens-alone l n old t c Read_error other here out has ne has' (Lose token d) k a = loses-one l n old t c other here has ne has' token d k.0 a.0
opens-alone l n old t c Read_error other here out has ne has' (Fail token d h) k a =
    let is : d ≡ c = same_entry (old.command t) d c (subst (λ y. old.command y ≡ Some d) k.0 a.0) here in
    absurd (false≢true (sym out.0 ∙ ap (is_first_read l old) (sym is) ∙ failed-first l n old token d h a))
opens-alone l n old t c Read_error other here out has ne has' (Set_back token d id block) k a =
    absurd (out.1 id block (subst (λ y. old.request id ≡ Some (record { op = Read block; stage = Reading y })) k.0 a.2))
opens-alone l n old t c (Good b) other here out has ne has' change k a = absurd out
opens-alone l n old t c completion other here out has ne has' change k a = absurd k

pub one-error-takes-one : (l : Layout) (n : ℕ) (old new : Shard) (token : ℕ) (c : Command) (completion : Completion) (other : ℕ)
    → old.command token ≡ Some c → TakesOut l old token c completion → has_device (old.slot c.slot) c.generation ≡ true
    → (st : Step l n old (Deliver token completion Taken) new) → IsLive l new → other ≢ c.generation
    → has_device (old.slot c.slot) other ≡ true → has_device (new.slot c.slot) other ≡ true
one-error-takes-one l n old new token c completion other here out has st live ne has' =
    let alone = delivers-alone l n old c.slot other (after l old st.0) st.3 new st.4 st.5 live (opens-alone l n old token c completion other here out has ne has' st.0 st.1 st.2) in
    has-among (new.slot c.slot) other ∙ ap (λ devices. among devices other) alone ∙ eq-eqb other other refl
