-- A read error of a first read loses nothing that its row can bear; and of a shard at rest no event declares a loss but
-- an error, or a look that finds a slot other.
use Rattle.std.proofs.Common.{◌≡◌, ℕ, zero, suc, ◌+◌, ◌<◌, ◌≤◌, ◌⊎◌, List, [], ◌∷◌, length, Bool, true, false, cond, inl, inr, refl, sym, ap, ◌∙◌, subst, arith, Some, None, Option}
use Rattle.std.proofs.lemmas.Bool.{cases_eq, cases_Bool, false≢true, true≢false}
use Rattle.r6_world.specs.Tables.{put, count_below}
use Rattle.r6_stripe.specs.Holds.{after_event, cell_at}
use Rattle.r6_stripe.specs.Holds.Event.{Fails, Gives}
use Rattle.r6_stripe.specs.Plans.{Planned, next, after_error}
use Rattle.r6_stripe.specs.PlanLaws.{sound_count}
use Rattle.r6_stripe.proofs.CellsAfter.{width_after}
use Rattle.r6_stripe.proofs.Counts.{losses_law_holds}
use Rattle.r6_world.specs.Layouts.{Layout}
use Rattle.r6_world.specs.Tasks.{Hold, planned, Task, Rebuild as RebuildTask, Outcome, Rebuilt}
use Rattle.r6_world.specs.ShardStates.{Shard, IsLive, Call, LossOf, RebuildOf, SlotState, Command, Missing, InSyncFor, is_away, is_first_read}
use Rattle.r6_world.specs.Changes.{Change, Accept, Learn, Give_direct, Confirm, Come_home, Skip_turn, Hand_call, Hear, Start, Ask, Prepare, Classify, Send, Lose, Finish, Bring_in, Fix, Ask_again, Fail, Give_over, Read_direct, Set_back, Allowed, after, lost_slot, lost_slots, slots_in_error, slots_after, with_row, Copy, Move, brought_in, confirmed_by, differs, Adopt, See_failed, Release}
use Rattle.r6_world.specs.Steps.{AtRest, Scans, GoesOn, GoOn, GivesOver, Leads, Looks, TakesOver, Through, Takes, Completion, Good, Error, Read_error, Receipt, Taken, Late, Event, Submit, Submit_all, entered, Deliver, Look, Turn_started, Turn_skipped, Take_command, No_command, Take_call, No_call, Told, Take_reply, No_reply, Step}
use Rattle.r6_world.specs.Registers.{Snapshot, Told as Answer}
use Rattle.r6_world.specs.Refusals.{IsIn, IsToTell, IsNoError, FindsAllSame, CanBearError, ErrorsTakeOne, OnlyErrorsDeclare}
use Rattle.r6_world.proofs.Rows.Becoming.{with-row-sync, brought-sync}
use Rattle.r6_world.proofs.Tables.{put-same, put-other, same_entry, Some-inj, None-not_Some}
use Rattle.r6_world.proofs.Changes.{all-kept, enter-kept}
use Rattle.r6_world.proofs.Refused.Refusals.{in_longer, in_put_back, no_loss}
use Rattle.r6_world.proofs.Refused.Declared.{declares}
use Rattle.r6_world.proofs.Refused.Losses.{one-error-takes-one}
use Rattle.r6_world.proofs.Refused.Borne.{IsLosing, sound-failed, gives-loses-none, confirm-loses-none}
use Rattle.r6_world.proofs.Register.WaitingCalls.{put-alike}

-- ---- what each change keeps

module _ (l : Layout) (n : ℕ) (old : Shard) where
  -- what was in sync still is, and no other losses are to be declared
  abbrev Unlost : Shard → Type 0
  Unlost s =
      ((slot row g : ℕ) → InSyncFor (old.slot slot) row g → InSyncFor (s.slot slot) row g)
      × ((slot g : ℕ) → IsToTell s (LossOf slot g) → IsToTell old (LossOf slot g))

  ended-sync : (s : Shard) (h : Hold) (task : Task) (outcome : Outcome) (slot row g : ℕ) → InSyncFor (s.slot slot) row g → InSyncFor (slots_after s h task outcome slot) row g
  ended-sync s h (RebuildTask target g') Rebuilt slot row g x = put-alike (λ y. InSyncFor y row g) s.slot target (with_row (s.slot target) h.row) slot (with-row-sync (s.slot target) h.row row g) x
  ended-sync s h task outcome slot row g x = x

  go-unlost : (s : Shard) (change : Change) → GoesOn change → Allowed l n s change → Unlost s → Unlost (after l s change)
  go-unlost s (Finish f h outcome) k a x = ((λ slot row g was. ended-sync s h h.task outcome slot row g (x.0 slot row g was)), x.1)
  go-unlost s (Bring_in d current) k a x = (
    (λ slot row g was. put-alike (λ y. InSyncFor y row g) s.slot d (brought_in (s.slot d)) slot (brought-sync (s.slot d) row g) (x.0 slot row g was)),
    brings,
  )
    where
      brings : (slot g : ℕ) → IsToTell (after l s (Bring_in d current)) (LossOf slot g) → IsToTell old (LossOf slot g)
      brings slot g (inl among) = elim (in_longer (LossOf slot g) (RebuildOf d current) s.calls among) [
        | inl before ↦ x.1 slot g (inl before)
        | inr e ↦ absurd (no_loss slot g d current e)
      ]
      brings slot g (inr untold) = x.1 slot g (inr untold)
  go-unlost s (Ask f h d g) k a x = x
  go-unlost s (Prepare f h event) k a x = x
  go-unlost s (Classify f h class) k a x = x
  go-unlost s (Send f h d g b) k a x = x
  go-unlost s (Copy f h d g b) k a x = x
  go-unlost s (Fix f h d g b) k a x = x
  go-unlost s (Ask_again f h d g) k a x = x
  go-unlost s change k a x = absurd k

  scan-unlost : (s : Shard) (change : Change) → Scans change → Allowed l n s change → Unlost s → Unlost (after l s change)
  scan-unlost s (Start f row task) k a x = x
  scan-unlost s (Ask f h d g) k a x = x
  scan-unlost s (Prepare f h event) k a x = x
  scan-unlost s (Send f h d g b) k a x = x
  scan-unlost s (Copy f h d g b) k a x = x
  scan-unlost s (Read_direct buffer id block g) k a x = x
  scan-unlost s change k a x = absurd k

  -- no hold loses a device next, or the slots of its read errors
  abbrev NoneLoses : Shard → Type 0
  NoneLoses s = IsLive l s → (f : ℕ) (h : Hold) → s.frame f ≡ Some h → IsLosing (planned h) → ⊥

  none-given : (changes : List Change) (s lost : Shard) → NoneLoses s → Leads l n GivesOver s changes lost → lost ≡ s
  none-given [] s lost none e = e
  none-given (Give_over f h ∷ changes) s lost none e = absurd (none e.1.1 f h e.1.0 (inl e.1.2))
  none-given (Move f h slot g ∷ changes) s lost none e = absurd (none e.1.3 f h e.1.0 (inr (e.1.6, e.1.8)))
  none-given (change ∷ changes) s lost none e = absurd e.0

  at-rest : (p : Planned) → next p ≡ None → IsLosing p → ⊥
  at-rest p none (inl e) = None-not_Some _ (sym none ∙ e)
  at-rest p none (inr e) = None-not_Some _ (sym none ∙ e.1)

  -- one hold has changed, and loses none
  one-loses : (s : Shard) (frame : ℕ) (own : Hold) → AtRest l n old → s.frame ≡ put old.frame frame (Some own) → (IsLive l s → IsLive l old)
      → (IsLive l old → IsLosing (planned own) → ⊥) → NoneLoses s
  one-loses s frame own rest is live-before none live f h at losing = elim (cases_eq f frame) [
    | inl same ↦
        let own-is : own ≡ h = Some-inj _ _ (sym (put-same old.frame frame (Some own) f same) ∙ ap (λ (frames : ℕ → Option Hold). frames f) (sym is) ∙ at) in
        none (live-before live) (subst (λ (y : Hold). IsLosing (planned y)) (sym own-is) losing)
    | inr ne ↦
        at-rest (planned h) (rest.nothing_next (live-before live) f h (sym (put-other old.frame frame (Some own) f ne) ∙ ap (λ (frames : ℕ → Option Hold). frames f) (sym is) ∙ at)) losing
  ]

  opens : AtRest l n old → (token : ℕ) (c : Command) → old.command token ≡ Some c → is_first_read l old c ≡ true → CanBearError old c
      → (change : Change) → Takes l old token Read_error Taken change → Allowed l n old change → Unlost (after l old change) × NoneLoses (after l old change)
  opens rest token c here first few (Fail t k h) takes a = (
    ((λ slot row g was. was), λ slot g told. told),
    bears,
  )
    where
      is : k ≡ c
      is = same_entry (old.command token) k c (subst (λ y. old.command y ≡ Some k) takes.0 a.0) here

      own : (2 ≤ length h.course.cells) × (length h.course.cells ≤ sound_count h.course.cells + 1)
      own = few h (subst (λ y. old.frame y.frame ≡ Some h) is a.2)

      failed : Hold
      failed = record h { course = after_event h.course (Fails (l.position h.row k.slot)); plan = after_error h.plan }

      bears : NoneLoses (after l old (Fail t k h))
      bears = one-loses (after l old (Fail t k h)) k.frame failed rest refl (λ live. live)
          (λ live losing.
          let place = l.position h.row k.slot in
          let wide = width_after h.course (Fails place) in
          let three = losses_law_holds (planned failed) (omega (arith, own.0, wide)) losing in
          let one = sound-failed h.course place in
          let two = own.1 in
          absurd (omega arith))
  opens rest token c here first few (Set_back t k id block) takes a = (
    ((λ slot row g was. was), λ slot g told. told),
    λ live f h at losing. at-rest (planned h) (rest.nothing_next live f h at) losing,
  )
  opens rest token c here first few (Lose t k) takes a =
      let is : k ≡ c = same_entry (old.command token) k c (subst (λ y. old.command y ≡ Some k) takes.0 a.0) here in
      absurd (false≢true (sym takes.2 ∙ ap (is_first_read l old) is ∙ first))
  opens rest token c here first few change takes a = absurd takes

read-error-loses-none : (l : Layout) (n : ℕ) (old new : Shard) (token : ℕ) (c : Command) → AtRest l n old → old.command token ≡ Some c
    → is_first_read l old c ≡ true → CanBearError old c → Step l n old (Deliver token Read_error Taken) new → Unlost l n old new
read-error-loses-none l n old new token c rest here first few st =
    let opened = opens l n old rest token c here first few st.0 st.1 st.2 in
    let mid = st.3 in
    let lost = st.4.0 in
    let same = none-given l n old st.4.1.0 (after l old st.0) lost opened.1 st.4.1.1 in
    all-kept l n (Unlost l n old) Scans (scan-unlost l n old) st.5.0 mid new st.5.1
    (all-kept l n (Unlost l n old) GoesOn (go-unlost l n old) st.4.2.0 lost mid st.4.2.1
    (subst (Unlost l n old) (sym same) opened.0))

-- ---- nor does any event but an error or a look, where the shard can bear its read errors

module _ (l : Layout) (n : ℕ) (old : Shard) where
  unlost-yet : Unlost l n old old
  unlost-yet = ((λ slot row g was. was), λ slot g told. told)

  opened : AtRest l n old → (token : ℕ) (completion : Completion) (receipt : Receipt) (change : Change) → IsNoError (Deliver token completion receipt) → Takes l old token completion receipt change
      → Allowed l n old change → Unlost l n old (after l old change) × NoneLoses l n old (after l old change)
  opened rest t Error Taken change none k a = absurd none
  opened rest t Read_error Taken change none k a = absurd none
  opened rest t (Good b) Taken (Learn token c h learned) none k a = (
    unlost-yet,
    one-loses l n old (after l old (Learn token c h learned)) c.frame
        (record h { course = after_event h.course (Gives (l.position h.row c.slot) learned) }) rest refl (λ live. live)
        (λ live. gives-loses-none h.course h.plan (l.position h.row c.slot) learned (rest.nothing_next live c.frame h a.2)),
  )
  opened rest t (Good b) Taken (Give_direct token c id block given) none k a = (unlost-yet, λ live f h at losing. at-rest l n old (planned h) (rest.nothing_next live f h at) losing)
  opened rest t (Good b) Taken (Confirm token c h) none k a = (
    unlost-yet,
    one-loses l n old (after l old (Confirm token c h)) c.frame
        (record h { course = after_event h.course (confirmed_by (old.slot c.slot) c.generation (cell_at h.course.cells (l.position h.row c.slot)).reading (l.position h.row c.slot)) }) rest refl (λ live. live)
        (λ live. confirm-loses-none h.course h.plan (old.slot c.slot) c.generation (l.position h.row c.slot) (rest.nothing_next live c.frame h a.2)),
  )
  opened rest t (Good b) Late (Come_home token c) none k a = (unlost-yet, λ live f h at losing. at-rest l n old (planned h) (rest.nothing_next live f h at) losing)
  opened rest t Error Late (Come_home token c) none k a = (unlost-yet, λ live f h at losing. at-rest l n old (planned h) (rest.nothing_next live f h at) losing)
  opened rest t Read_error Late (Come_home token c) none k a = (unlost-yet, λ live f h at losing. at-rest l n old (planned h) (rest.nothing_next live f h at) losing)
  opened rest t completion receipt change none k a = absurd k

  scanned : (mid new : Shard) → Through l n Scans mid new → Unlost l n old mid → Unlost l n old new
  scanned mid new t x = all-kept l n (Unlost l n old) Scans (scan-unlost l n old) t.0 mid new t.1 x

  delivered : AtRest l n old → (token : ℕ) (completion : Completion) (receipt : Receipt) (new : Shard) → IsNoError (Deliver token completion receipt) → Step l n old (Deliver token completion receipt) new → Unlost l n old new
  delivered rest token completion receipt new none st =
      let first = opened rest token completion receipt st.0 none st.1 st.2 in
      let same = none-given l n old st.4.1.0 (after l old st.0) st.4.0 first.1 st.4.1.1 in
      scanned st.3 new st.5 (all-kept l n (Unlost l n old) GoesOn (go-unlost l n old) st.4.2.0 st.4.0 st.3 st.4.2.1 (subst (Unlost l n old) (sym same) first.0))

  handed : (call : Call) (rest : List Call) (slot g : ℕ) → old.calls ≡ call ∷ rest → IsToTell (after l old (Hand_call call rest)) (LossOf slot g) → IsToTell old (LossOf slot g)
  handed call rest slot g waits (inl among) = inl (subst (IsIn (LossOf slot g)) (sym waits) (inr among))
  handed call rest slot g waits (inr untold) = inl (subst (IsIn (LossOf slot g)) (sym waits) (inl (sym (Some-inj _ _ untold))))

  heard : (call : Call) (answer : Answer) (slot g : ℕ) → old.untold ≡ Some call → IsToTell (after l old (Hear call answer)) (LossOf slot g) → IsToTell old (LossOf slot g)
  heard call answer slot g untold (inl among) = elim (in_put_back (LossOf slot g) call answer old.calls among) [ inl same ↦ inr (untold ∙ ap (λ y. Some y) (sym same)) | inr before ↦ inl before ]
  heard call answer slot g untold (inr none) = absurd (None-not_Some _ none)

  abbrev Told-before : Shard → Type 0
  Told-before s = (slot g : ℕ) → IsToTell s (LossOf slot g) → IsToTell old (LossOf slot g)

  -- a look that finds no slot other takes nothing over
  finds-same : (seen : Snapshot) (changes : List Change) (mid : Shard) → FindsAllSame l old (Look seen) → Leads l n (TakesOver seen) old changes mid → mid ≡ old
  finds-same seen [] mid finds e = e
  finds-same seen (Adopt slot status ∷ changes) mid finds e =
      absurd (true≢false (sym e.1.1 ∙ ap (differs (old.slot slot)) e.0 ∙ finds slot e.1.0))
  finds-same seen (change ∷ changes) mid finds e = absurd e.0

  looks-none : AtRest l n old → (failed : Bool) (mid new : Shard) → mid ≡ old → Looks l n failed mid new → Told-before new
  looks-none rest true mid new same k = subst Told-before (sym k) (subst (λ s. Told-before (after l s See_failed)) (sym same) (λ slot g told. told))
  looks-none rest false mid new same k =
      let on : GoOn l n old k.0 = subst (λ s. GoOn l n s k.0) same k.1 in
      let lost = none-given l n old on.1.0 old on.0 (λ live f h at losing. at-rest l n old (planned h) (rest.nothing_next live f h at) losing) on.1.1 in
      (scanned (after l k.0 Release) new k.2
      (all-kept l n (Unlost l n old) GoesOn (go-unlost l n old) on.2.0 on.0 k.0 on.2.1 (subst (Unlost l n old) (sym lost) unlost-yet))).1

  declares-none : AtRest l n old → (event : Event) (new : Shard) → IsNoError event → FindsAllSame l old event → Step l n old event new → Told-before new
  declares-none rest (Submit op id) new none no_look st = (scanned (after l old (Accept op)) new st.2 unlost-yet).1
  declares-none rest (Submit_all ops first) new none no_look st = (scanned (entered l old ops) new st.2 (enter-kept l n (Unlost l n old) (λ s op a x. x) ops old st.1 unlost-yet)).1
  declares-none rest (Deliver token completion receipt) new none no_look st = (delivered rest token completion receipt new none st).1
  declares-none rest (Look seen) new none finds st = looks-none rest seen.failed st.2 new (finds-same seen st.3.0 st.2 finds st.3.1) st.5
  declares-none rest (Turn_started task) new none no_look st = (scanned (after l old (Start st.1 st.2 task)) new st.4 unlost-yet).1
  declares-none rest (Turn_skipped task row) new none no_look st = (scanned (after l old (Skip_turn task row)) new st.1 unlost-yet).1
  declares-none rest (Take_command token c) new none no_look st = subst Told-before (sym st.1) (λ slot g told. told)
  declares-none rest No_command new none no_look st = subst Told-before (sym st.1) (λ slot g told. told)
  declares-none rest (Take_call call) new none no_look st = subst Told-before (sym st.2) (λ slot g told. handed call st.0 slot g st.1.0 told)
  declares-none rest No_call new none no_look st = subst Told-before (sym st.1) (λ slot g told. told)
  declares-none rest (Told call answer) new none no_look st = subst Told-before (sym st.1) (λ slot g told. heard call answer slot g st.0 told)
  declares-none rest (Take_reply id reply) new none no_look st = subst Told-before (sym st.2) (λ slot g told. told)
  declares-none rest No_reply new none no_look st = subst Told-before (sym st.1) (λ slot g told. told)

-- where nothing is given over, what a shard does by itself declares no loss
pub going-tells-none : (l : Layout) (n : ℕ) (s mid new : Shard) (on : GoOn l n s mid) → Through l n Scans mid new → on.0 ≡ s
    → (slot g : ℕ) → IsToTell new (LossOf slot g) → IsToTell s (LossOf slot g)
going-tells-none l n s mid new on scans same =
    (all-kept l n (Unlost l n s) Scans (scan-unlost l n s) scans.0 mid new scans.1
    (all-kept l n (Unlost l n s) GoesOn (go-unlost l n s) on.2.0 on.0 mid on.2.1 (subst (Unlost l n s) (sym same) (unlost-yet l n s)))).1

pub only_errors_declare : OnlyErrorsDeclare
only_errors_declare l n old new event none st slot g told = (
  (declares l n old event new none st).told slot g told,
  λ rest finds. declares-none l n old rest event new none finds st slot g told,
)

pub errors_take_one : ErrorsTakeOne
errors_take_one l n old new token c completion here st = (
  (λ other out has live ne has'. one-error-takes-one l n old new token c completion other here out has st live ne has'),
  λ is rest first few. read-error-loses-none l n old new token c rest here first few (subst (λ y. Step l n old (Deliver token y Taken) new) is st),
)
