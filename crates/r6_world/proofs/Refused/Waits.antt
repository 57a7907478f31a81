-- A request isn't answered as done by the event before which it waits.
use Rattle.std.proofs.Common.{◌≡◌, ℕ, List, [], ◌∷◌, Bool, true, false, inl, inr, refl, sym, ap, ◌∙◌, subst, Some, None, Option}
use Rattle.std.proofs.lemmas.Bool.{cases_Bool}
use Rattle.r6_world.specs.Tables.{put}
use Rattle.r6_world.specs.PlainArray.{Op, Read}
use Rattle.r6_world.specs.Layouts.{Layout}
use Rattle.r6_world.specs.Registers.{Snapshot}
use Rattle.r6_world.specs.Tasks.{Task, ReadFor, WriteFor, Rebuild, Check, Repair, Outcome, serves}
use Rattle.r6_world.specs.ShardStates.{Shard, Command, Stage, Waiting, Held, Reading, Request, Missing}
use Rattle.r6_world.specs.Changes.{Change, Accept, Start, Ask, Prepare, Classify, Send, Learn, Confirm, Come_home, Lose, Adopt, See_failed, Finish, Bring_in, Release, Skip_turn, IsWorkedOut, Allowed, after, finished, finished_stage, released, released_stage, failed_stage, Read_direct, Give_direct, abandoned_to, read_on, read_stage, Fix, Ask_again, Fail, Set_back, Give_over, slots_in_error, lost_slots, Copy, Move, without, brought_in, confirmed_by, heard_of, hearing, told_hold, with_row, slots_after, adopted, differs}
use Rattle.r6_world.specs.Steps.{IsTurn, Scans, GoesOn, TakesOver, Takes, Looks, Leads, Completion, Good, Error, Receipt, Taken, Late, Event, Submit, Submit_all, entered, Deliver, Look, Turn_started, Turn_skipped, Take_command, No_command, Take_call, No_call, Told, Take_reply, No_reply, Step, Read_error, GivesOver, GoOn}
use Rattle.r6_world.specs.Refusals.{IsDone, WaitingIsNotDone}
use Rattle.r6_world.proofs.Tables.{put-cases, None-not_Some}
use Rattle.r6_world.proofs.Acts.Requests.{request_at, same_stage, held_now-served, held_now-other, staged-cases, released-cases, finished-cases, failed-cases}
use Rattle.r6_world.proofs.Acts.ReadOns.{read-cases}
use Rattle.r6_world.proofs.Changes.{all-kept, lost-kept}

-- ---- no answer

module _ (l : Layout) (n : ℕ) where
  -- no answer is there: so it stays while requests start
  abbrev pub NotDone : ℕ → Shard → Type 0
  NotDone id s = (op : Op) (stage : Stage) → s.request id ≡ Some (request_at op stage) → IsDone stage → ⊥

  pub held-not-done : (f : ℕ) (stage : Stage) → Held f ≡ stage → IsDone stage → ⊥
  held-not-done f stage e d = subst IsDone (sym e) d

  scan-not-done : (id : ℕ) (s : Shard) (change : Change) → Scans change → Allowed l n s change → NotDone id s → NotDone id (after l s change)
  scan-not-done id s (Start f row task) k a x = λ op stage e d.
      elim (cases_Bool (serves task id)) [
        | inl mine ↦ held-not-done f stage (staged-cases (s.request id) f op stage (sym (held_now-served s.request task f id mine) ∙ e)).2 d
        | inr other ↦ x op stage (sym (held_now-other s.request task f id other) ∙ e) d
      ]
  scan-not-done id s (Ask f h slot g) k a x = x
  scan-not-done id s (Prepare f h event) k a x = x
  scan-not-done id s (Send f h slot g b) k a x = x
  scan-not-done id s (Copy f h slot g b) k a x = x
  scan-not-done id s (Read_direct buffer own block g) k a x = λ op stage e d.
      elim (put-cases s.request own _ id _ e) [ inl q ↦ subst IsDone (sym (same_stage _ _ _ _ q.1).1) d | inr q ↦ x op stage q.1 d ]
  scan-not-done id s change k a x = absurd k

  pub scans-not-done : (id : ℕ) (changes : List Change) (old new : Shard) → Leads l n Scans old changes new → NotDone id old → NotDone id new
  scans-not-done id = all-kept l n (NotDone id) Scans (scan-not-done id)

  -- ---- a request that waits

  abbrev Waits : ℕ → Shard → Type 0
  Waits id s = (op : Op) (stage : Stage) → s.request id ≡ Some (request_at op stage) → stage ≡ Waiting

  waits-not-done : (id : ℕ) (s : Shard) → Waits id s → NotDone id s
  waits-not-done id s x op stage e d = subst IsDone (x op stage e) d

  finished-waits : (f : ℕ) (outcome : Outcome) (op : Op) (before stage : Stage) → before ≡ Waiting → finished_stage f outcome op before ≡ stage → stage ≡ Waiting
  finished-waits f outcome op before stage was e = sym e ∙ ap (finished_stage f outcome op) was

  go-waits : (id : ℕ) (s : Shard) (change : Change) → GoesOn change → Allowed l n s change → Waits id s → Waits id (after l s change)
  go-waits id s (Ask f h slot g) k a x = x
  go-waits id s (Prepare f h event) k a x = x
  go-waits id s (Classify f h class) k a x = x
  go-waits id s (Send f h slot g b) k a x = x
  go-waits id s (Copy f h slot g b) k a x = x
  go-waits id s (Fix f h slot g b) k a x = x
  go-waits id s (Ask_again f h slot g) k a x = x
  go-waits id s (Finish f h outcome) k a x = λ op stage e.
      let p = finished-cases f outcome (s.request id) op stage e in finished-waits f outcome op p.0 stage (x op p.0 p.1) p.2
  go-waits id s (Bring_in slot g) k a x = x
  go-waits id s change k a x = absurd k

  goes-wait : (id : ℕ) (changes : List Change) (old new : Shard) → Leads l n GoesOn old changes new → Waits id old → Waits id new
  goes-wait id = all-kept l n (Waits id) GoesOn (go-waits id)

  -- a request that waits is none that reads directly
  read-waits : (id : ℕ) (command : ℕ → Option Command) (request : ℕ → Option Request) → ((op : Op) (stage : Stage) → request id ≡ Some (request_at op stage) → stage ≡ Waiting)
      → (op : Op) (stage : Stage) → read_on command (request id) ≡ Some (request_at op stage) → stage ≡ Waiting
  read-waits id command request x op stage e =
      let p = read-cases command (request id) op stage e in sym p.2 ∙ ap (read_stage command) (x op p.0 p.1)

  take-waits : (id : ℕ) (seen : Snapshot) (s : Shard) (change : Change) → TakesOver seen change → Allowed l n s change → Waits id s → Waits id (after l s change)
  take-waits id seen s (Adopt slot status) k a x = read-waits id (λ t. abandoned_to _ slot (Rattle.r6_world.specs.Changes.adopted (s.slot slot) status) (s.command t)) s.request x
  take-waits id seen s change k a x = absurd k

  gives-wait : (id : ℕ) (s : Shard) (change : Change) → GivesOver change → Allowed l n s change → Waits id s → Waits id (after l s change)
  gives-wait id s (Give_over f h) k a x = lost-kept l (Waits id) (λ s' slot y. read-waits id (λ t. abandoned_to _ slot Missing (s'.command t)) s'.request y) (slots_in_error l h) s x
  gives-wait id s (Move f h slot g) k a x = read-waits id (λ t. abandoned_to _ slot (without (s.slot slot) g) (s.command t)) s.request x
  gives-wait id s change k a x = absurd k

  go-on-waits : (id : ℕ) (mid last : Shard) → GoOn l n mid last → Waits id mid → Waits id last
  go-on-waits id mid last t x = goes-wait id t.2.0 t.0 last t.2.1 (all-kept l n (Waits id) GivesOver (gives-wait id) t.1.0 mid t.0 t.1.1 x)

  release-waits : (id : ℕ) (s : Shard) → Waits id s → Waits id (after l s Release)
  release-waits id s x op stage e = let p = released-cases (s.request id) op stage e in sym p.2 ∙ ap released_stage (x op p.0 p.1)

  -- what failed is not done
  failed-not-done : (before stage : Stage) → before ≡ Waiting → failed_stage before ≡ stage → IsDone stage → ⊥
  failed-not-done before stage was e d = absurd (let done = subst IsDone (sym e ∙ ap failed_stage was) d in cc)

  look-not-done : (id : ℕ) (failed : Bool) (mid new : Shard) → Looks l n failed mid new → Waits id mid → NotDone id new
  look-not-done id true mid new k x = λ op stage e d.
      let p = failed-cases (mid.request id) op stage (ap (λ (s : Shard). s.request id) (sym k) ∙ e) in
      failed-not-done p.0 stage (x op p.0 p.1) p.2 d
  look-not-done id false mid new k x =
      scans-not-done id k.2.0 (after l k.0 Release) new k.2.1
      (waits-not-done id (after l k.0 Release) (release-waits id k.0 (go-on-waits id mid k.0 k.1 x)))

  reading-waits : (token : ℕ) → Reading token ≡ Waiting → ⊥
  reading-waits token e = cc

  taken-waits : (id : ℕ) (s : Shard) (token : ℕ) (completion : Completion) (receipt : Receipt) (change : Change) → Takes l s token completion receipt change → Allowed l n s change → Waits id s → Waits id (after l s change)
  taken-waits id s t (Good b) Taken (Learn token c h learned) k a x = x
  taken-waits id s t (Good b) Taken (Confirm token c h) k a x = x
  taken-waits id s t (Good b) Taken (Give_direct token c own block given) k a x = λ op stage e.
      elim (put-cases s.request own _ id _ e) [
        | inl q ↦ absurd (reading-waits token (x (Read block) (Reading token) (ap s.request q.0 ∙ a.2)))
        | inr q ↦ x op stage q.1
      ]
  taken-waits id s t Error Taken (Lose token c) k a x = read-waits id (λ u. abandoned_to _ c.slot (without (s.slot c.slot) c.generation) (put s.command token None u)) s.request x
  taken-waits id s t (Good b) Late (Come_home token c) k a x = x
  taken-waits id s t Error Late (Come_home token c) k a x = x
  taken-waits id s t Read_error Taken (Lose token c) k a x = read-waits id (λ u. abandoned_to _ c.slot (without (s.slot c.slot) c.generation) (put s.command token None u)) s.request x
  taken-waits id s t Read_error Taken (Fail token c h) k a x = x
  taken-waits id s t Read_error Taken (Set_back token c own block) k a x = λ op stage e.
      elim (put-cases s.request own _ id _ e) [
        | inl q ↦ absurd (reading-waits token (x (Read block) (Reading token) (ap s.request q.0 ∙ a.2)))
        | inr q ↦ x op stage q.1
      ]
  taken-waits id s t Read_error Late (Come_home token c) k a x = x
  taken-waits id s t completion receipt change k a x = absurd k

  pub turn-serves : (task : Task) → IsTurn task → (id : ℕ) → serves task id ≡ false
  turn-serves (ReadFor own block) k id = absurd k
  turn-serves (WriteFor writes) k id = absurd k
  turn-serves (Rebuild slot g) k id = refl
  turn-serves Check k id = refl
  turn-serves Repair k id = refl

  pub enter-not-done : (id : ℕ) (ops : List Op) (s : Shard) → NotDone id s → NotDone id (entered l s ops)
  enter-not-done id [] s x = x
  enter-not-done id (op ∷ ops) s x = enter-not-done id ops (after l s (Accept op)) (λ o stage e.
      elim (put-cases s.request s.accepted (Some (request_at op Waiting)) id _ e) [
        | inl q ↦ λ d. subst IsDone (sym (same_stage _ _ _ _ q.1).1) d
        | inr q ↦ x o stage q.1
      ])

  waits-step : (id : ℕ) (old : Shard) (event : Event) (new : Shard) → Step l n old event new → Waits id old → NotDone id new
  waits-step id old (Submit op own) new st x =
      scans-not-done id st.2.0 (after l old (Accept op)) new st.2.1 (waits-not-done id (after l old (Accept op)) (λ o stage e.
      elim (put-cases old.request old.accepted (Some (request_at op Waiting)) id _ e) [ inl q ↦ sym (same_stage _ _ _ _ q.1).1 | inr q ↦ x o stage q.1 ]))
  waits-step id old (Submit_all ops first) new st x =
      scans-not-done id st.2.0 (entered l old ops) new st.2.1 (enter-not-done id ops old (waits-not-done id old x))
  waits-step id old (Deliver token completion receipt) new st x =
      let taken = taken-waits id old token completion receipt st.0 st.1 st.2 x in
      scans-not-done id st.5.0 st.3 new st.5.1 (waits-not-done id st.3 (go-on-waits id (after l old st.0) st.3 st.4 taken))
  waits-step id old (Look seen) new st x =
      look-not-done id seen.failed st.2 new st.5 (all-kept l n (Waits id) (TakesOver seen) (take-waits id seen) st.3.0 old st.2 st.3.1 x)
  waits-step id old (Turn_started task) new st x =
      scans-not-done id st.4.0 (after l old (Start st.1 st.2 task)) new st.4.1 (waits-not-done id (after l old (Start st.1 st.2 task))
      (λ op stage e. x op stage (sym (held_now-other old.request task st.1 id (turn-serves task st.0 id)) ∙ e)))
  waits-step id old (Turn_skipped task row) new st x =
      scans-not-done id st.1.0 (after l old (Skip_turn task row)) new st.1.1 (waits-not-done id old x)
  waits-step id old (Take_command token c) new st x = subst (NotDone id) (sym st.1) (waits-not-done id old x)
  waits-step id old No_command new st x = subst (NotDone id) (sym st.1) (waits-not-done id old x)
  waits-step id old (Take_call call) new st x = subst (NotDone id) (sym st.2) (waits-not-done id old x)
  waits-step id old No_call new st x = subst (NotDone id) (sym st.1) (waits-not-done id old x)
  waits-step id old (Told call answer) new st x = subst (NotDone id) (sym st.1) (waits-not-done id old x)
  waits-step id old (Take_reply own reply) new st x =
      subst (NotDone id) (sym st.2) (λ op stage e d.
      elim (put-cases old.request own None id _ e) [ inl q ↦ None-not_Some _ q.1 | inr q ↦ waits-not-done id old x op stage q.1 d ])
  waits-step id old No_reply new st x = subst (NotDone id) (sym st.1) (waits-not-done id old x)

-- the two requests of one number are one
waits-now : (s : Shard) (id : ℕ) (op : Op) → s.request id ≡ Some (request_at op Waiting) → (o : Op) (stage : Stage) → s.request id ≡ Some (request_at o stage) → stage ≡ Waiting
waits-now s id op here o stage e = (same_stage _ _ _ _ (sym e ∙ here)).1

pub waiting_is_not_done : WaitingIsNotDone
waiting_is_not_done l n old new event id op st here stage e = waits-step l n id old event new st (waits-now old id op here) op stage e
