-- An accepted request starts, where it can: directly, if its slot is in sync for its row, and else by a hold.
use Rattle.std.proofs.Common.{◌≡◌, ℕ, ◌<◌, List, [], ◌∷◌, inl, inr, refl, sym, ap, ◌∙◌, subst, Some, None}
use Rattle.std.proofs.lemmas.Bool.{cases_Bool, or_left, eq-eqb}
use Rattle.std.specs.Prelude.{true}
use Rattle.r6_stripe.specs.Plans.{Planned, next as next_of_plan, MayFollow}
use Rattle.r6_stripe.specs.Holds.{Event}
use Rattle.r6_stripe.specs.Holds.Event.{Asks, Restores, Computes, Writes, Copies, Gives, Confirms, Settles, Loses, Moves, Drops, Fixes, AsksAgain, Fails, Mends}
use Rattle.r6_world.specs.PlainArray.{Op, Read, Write}
use Rattle.r6_world.specs.Layouts.{Layout}
use Rattle.r6_world.specs.Tasks.{Write as RowWrite, Task, ReadFor, WriteFor, Rebuild, Check, Repair, planned, serves}
use Rattle.r6_world.specs.ShardStates.{Request, Waiting, Held, Reading, Shard, limit, IsLive, IsDirect, NotHeld, CouldStart, Erred, Stage}
use Rattle.r6_world.specs.Changes.{Change, Accept, Start, Ask, Prepare, Send, IsWorkedOut, Allowed, after, Read_direct, Copy}
use Rattle.r6_world.specs.Steps.{AtRest, IsRequest, Scans, Leads}
use Rattle.r6_world.specs.Refusals.{AcceptedStarts, DirectHoldsNoRow}
use Rattle.r6_world.proofs.Tables.{put-same, put-cases, not_both, Some-inj}
use Rattle.r6_world.proofs.Acts.Requests.{request_at, held_now-served, held_now-other, staged-cases, start-waits, same_stage, IsBack, back-not-held}
use Rattle.r6_world.proofs.Acts.ReadOns.{back-not-reading}

-- the request doesn't wait
abbrev pub Left : Shard → ℕ → Type 0
Left s id = (op : Op) (stage : Stage) → IsBack stage → s.request id ≡ Some (request_at op stage) → ⊥

-- and no row is held for it
abbrev IsApart : Shard → ℕ → Type 0
IsApart s id = (op : Op) (f : ℕ) → s.request id ≡ Some (request_at op (Held f)) → ⊥

-- a start takes a request from those that wait, and puts none there
pub left-served : (l : Layout) (s : Shard) (g at id : ℕ) (task : Task) → serves task id ≡ true → Left (after l s (Start g at task)) id
left-served l s g at id task yes' op stage back e = back-not-held stage g back (sym (staged-cases (s.request id) g op stage (sym (held_now-served s.request task g id yes') ∙ e)).2)

left-started : (l : Layout) (s : Shard) (g at id : ℕ) (task : Task) → Left s id → Left (after l s (Start g at task)) id
left-started l s g at id task left op stage back e =
    elim (cases_Bool (serves task id)) [
      | inl yes' ↦ left-served l s g at id task yes' op stage back e
      | inr no' ↦ left op stage back (sym (held_now-other s.request task g id no') ∙ e)
    ]

reading-not-held : (t f : ℕ) → Reading t ≡ Held f → ⊥
reading-not-held t f e = cc

-- what has left stays away
left-stays : (l : Layout) (n : ℕ) (id : ℕ) (s : Shard) (change : Change) → Scans change → Allowed l n s change → Left s id → Left (after l s change) id
left-stays l n id s (Start g at task) k a left = left-started l s g at id task left
left-stays l n id s (Ask g h slot generation) k a left = left
left-stays l n id s (Read_direct buffer own block g) k a left = λ op stage back e. elim (put-cases s.request own _ id _ e) [
  | inl q ↦ back-not-reading stage s.tokens back (sym (same_stage _ _ _ _ q.1).1)
  | inr q ↦ left op stage back q.1
]
left-stays l n id s (Prepare g h event) k a left = left
left-stays l n id s (Send g h slot generation b) k a left = left
left-stays l n id s (Copy g h slot generation b) k a left = left
left-stays l n id s change k a left = absurd k

-- and what has left and holds no row gets none
apart-stays : (l : Layout) (n : ℕ) (id : ℕ) (s : Shard) (change : Change) → Scans change → Allowed l n s change → Left s id → IsApart s id → IsApart (after l s change) id
apart-stays l n id s (Start g at task) k a left apart = λ op f e.
    elim (cases_Bool (serves task id)) [
      | inl yes' ↦ let waits = start-waits l s at id task a.4 yes' in absurd (left waits.0 waits.1 waits.2 waits.3)
      | inr no' ↦ apart op f (sym (held_now-other s.request task g id no') ∙ e)
    ]
apart-stays l n id s (Ask g h slot generation) k a left apart = apart
apart-stays l n id s (Read_direct buffer own block g) k a left apart = λ op f e. elim (put-cases s.request own _ id _ e) [
  | inl q ↦ reading-not-held s.tokens f (same_stage _ _ _ _ q.1).1
  | inr q ↦ apart op f q.1
]
apart-stays l n id s (Prepare g h event) k a left apart = apart
apart-stays l n id s (Send g h slot generation b) k a left apart = apart
apart-stays l n id s (Copy g h slot generation b) k a left apart = apart
apart-stays l n id s change k a left apart = absurd k

pub left-scans : (l : Layout) (n : ℕ) (id : ℕ) (changes : List Change) (s new : Shard) → Leads l n Scans s changes new → Left s id → Left new id
left-scans l n id [] s new e left = subst (λ y. Left y id) (sym e) left
left-scans l n id (change ∷ changes) s new e left = left-scans l n id changes (after l s change) new e.2 (left-stays l n id s change e.0 e.1 left)

apart-scans : (l : Layout) (n : ℕ) (id : ℕ) (changes : List Change) (s new : Shard) → Leads l n Scans s changes new → Left s id → IsApart s id → IsApart new id
apart-scans l n id [] s new e left apart = subst (λ y. IsApart y id) (sym e) apart
apart-scans l n id (change ∷ changes) s new e left apart =
    apart-scans l n id changes (after l s change) new e.2 (left-stays l n id s change e.0 e.1 left) (apart-stays l n id s change e.0 e.1 left apart)

-- a hold whose plan puts nothing out works nothing out either
pub works-nothing : (p : Planned) (event : Event) → next_of_plan p ≡ None → IsWorkedOut event → MayFollow p event → ⊥
works-nothing p (Restores position block) nothing k m = not_both (next_of_plan p) _ nothing m.0
works-nothing p (Computes new) nothing k m = not_both (next_of_plan p) _ nothing m.0
works-nothing p (Asks position) nothing k m = k
works-nothing p (Writes position block) nothing k m = k
works-nothing p (Fixes position block) nothing k m = k
works-nothing p (AsksAgain position) nothing k m = k
works-nothing p (Fails position) nothing k m = k
works-nothing p (Mends position) nothing k m = k
works-nothing p (Gives position block) nothing k m = k
works-nothing p (Confirms position) nothing k m = k
works-nothing p (Copies position block) nothing k m = k
works-nothing p (Settles position) nothing k m = k
works-nothing p (Loses position) nothing k m = k
works-nothing p (Moves position) nothing k m = k
works-nothing p (Drops position) nothing k m = k

-- A live shard at rest has accepted a request. No hold puts anything out, and no other request can start, so that what
-- comes first starts this one.
module _ (l : Layout) (n : ℕ) (s : Shard) (op : Op) (rests : AtRest l n s) (live : IsLive l s) (below : s.tokens < limit) where
  abbrev mid : Shard
  mid = after l s (Accept op)

  only-new : (other : ℕ) (asked : Op) → mid.request other ≡ Some (request_at asked Waiting) → CouldStart l s asked → other ≡ s.accepted
  only-new other asked e could = elim (put-cases s.request s.accepted (Some (request_at op Waiting)) other _ e) [
    | inl q ↦ q.0
    | inr q ↦ absurd (rests.none_could_start live other asked q.1 could)
  ]

  -- and this one is what was asked
  is-asked : (other : ℕ) (asked : Op) → mid.request other ≡ Some (request_at asked Waiting) → other ≡ s.accepted → asked ≡ op
  is-asked other asked e same =
      sym (ap (λ (r : Request). r.op) (Some-inj _ _ (sym (put-same s.request s.accepted (Some (request_at op Waiting)) other same) ∙ e)))

  -- what a hold that starts serves first, and what starts directly, could start
  read-could : (g at own block : ℕ) → Allowed l n mid (Start g at (ReadFor own block)) → (IsDirect l s (Read block) → ⊥) → CouldStart l s (Read block)
  read-could g at own block a not-direct = ((λ synced. absurd (not-direct (below, synced))), λ held. (subst (NotHeld s) (sym a.4.1) a.1, g, a.0))

  waiting-not-erred : Waiting ≡ Erred → ⊥
  waiting-not-erred e = cc

  -- nothing waits to be held that could be
  none-erred : (g at own block : ℕ) → Allowed l n mid (Start g at (ReadFor own block)) → mid.request own ≡ Some (request_at (Read block) Erred) → ⊥
  none-erred g at own block a e = elim (put-cases s.request s.accepted (Some (request_at op Waiting)) own _ e) [
    | inl q ↦ waiting-not-erred (same_stage _ _ _ _ q.1).1
    | inr q ↦ rests.none_could_hold live own (Read block) q.1 (subst (NotHeld s) (sym a.4.1) a.1, g, a.0)
  ]

  write-could : (g at : ℕ) (w : RowWrite) (writes : List RowWrite) → Allowed l n mid (Start g at (WriteFor (w ∷ writes))) → CouldStart l s (Write w.block w.new_data)
  write-could g at w writes a = ((λ synced. absurd synced), λ held. (subst (NotHeld s) (sym a.4.1.1) a.1, g, a.0))

  directly-could : (buffer own block generation : ℕ) → Allowed l n mid (Read_direct buffer own block generation) → CouldStart l s (Read block)
  directly-could buffer own block generation a = ((λ synced. (buffer, a.0)), λ held. absurd (held (a.6, ((generation, a.4.0), a.7))))

  started-serves : (g at : ℕ) (task : Task) → IsRequest task → Allowed l n mid (Start g at task) → serves task s.accepted ≡ true
  started-serves g at (ReadFor own block) k a = elim a.4.0 [
    | inl w ↦ eq-eqb s.accepted own (sym (only-new own (Read block) w.0 (read-could g at own block a w.1)))
    | inr w ↦ absurd (none-erred g at own block a w)
  ]
  started-serves g at (WriteFor []) k a = absurd (a.4.0 refl)
  started-serves g at (WriteFor (w ∷ writes)) k a =
      or_left _ _ (eq-eqb s.accepted w.id (sym (only-new w.id (Write w.block w.new_data) a.4.1.0 (write-could g at w writes a))))
  started-serves g at (Rebuild slot generation) k a = absurd k
  started-serves g at Check k a = absurd k
  started-serves g at Repair k a = absurd k

  read-is-new : (buffer own block generation : ℕ) → Allowed l n mid (Read_direct buffer own block generation) → own ≡ s.accepted
  read-is-new buffer own block generation a = only-new own (Read block) a.1 (directly-could buffer own block generation a)

  first-leaves : (change : Change) → Scans change → Allowed l n mid change → Left (after l mid change) s.accepted
  first-leaves (Start g at task) k a = left-served l mid g at s.accepted task (started-serves g at task k a)
  first-leaves (Ask g h slot generation) k a = absurd (not_both (next_of_plan (planned h)) _ (rests.nothing_next live g h a.0) a.5)
  first-leaves (Read_direct buffer own block generation) k a = λ o stage back e. elim (put-cases mid.request own _ s.accepted _ e) [
    | inl q ↦ back-not-reading stage s.tokens back (sym (same_stage _ _ _ _ q.1).1)
    | inr q ↦ absurd (q.0 (sym (read-is-new buffer own block generation a)))
  ]
  first-leaves (Prepare g h event) k a = absurd (works-nothing (planned h) event (rests.nothing_next live g h a.0) a.2 a.4)
  first-leaves (Send g h slot generation b) k a = absurd (not_both (next_of_plan (planned h)) _ (rests.nothing_next live g h a.0) a.5.0)
  first-leaves (Copy g h slot generation b) k a = absurd (not_both (next_of_plan (planned h)) _ (rests.nothing_next live g h a.0) a.5.0)
  first-leaves change k a = absurd k

  -- a direct read is not among what starts holds
  no-hold : IsDirect l s op → (g at : ℕ) (task : Task) → IsRequest task → Allowed l n mid (Start g at task) → ⊥
  no-hold direct g at (ReadFor own block) k a = elim a.4.0 [
    | inl w ↦
        let same = is-asked own (Read block) w.0 (only-new own (Read block) w.0 (read-could g at own block a w.1)) in
        w.1 (subst (IsDirect l s) (sym same) direct)
    | inr w ↦ none-erred g at own block a w
  ]
  no-hold direct g at (WriteFor []) k a = absurd (a.4.0 refl)
  no-hold direct g at (WriteFor (w ∷ writes)) k a =
      let same = is-asked w.id (Write w.block w.new_data) a.4.1.0 (only-new w.id (Write w.block w.new_data) a.4.1.0 (write-could g at w writes a)) in
      (subst (IsDirect l s) (sym same) direct).1
  no-hold direct g at (Rebuild slot generation) k a = absurd k
  no-hold direct g at Check k a = absurd k
  no-hold direct g at Repair k a = absurd k

  first-is-apart : IsDirect l s op → (change : Change) → Scans change → Allowed l n mid change → IsApart (after l mid change) s.accepted
  first-is-apart direct (Start g at task) k a = absurd (no-hold direct g at task k a)
  first-is-apart direct (Ask g h slot generation) k a = absurd (not_both (next_of_plan (planned h)) _ (rests.nothing_next live g h a.0) a.5)
  first-is-apart direct (Read_direct buffer own block generation) k a = λ o f e. elim (put-cases mid.request own _ s.accepted _ e) [
    | inl q ↦ reading-not-held s.tokens f (same_stage _ _ _ _ q.1).1
    | inr q ↦ absurd (q.0 (sym (read-is-new buffer own block generation a)))
  ]
  first-is-apart direct (Prepare g h event) k a = absurd (works-nothing (planned h) event (rests.nothing_next live g h a.0) a.2 a.4)
  first-is-apart direct (Send g h slot generation b) k a = absurd (not_both (next_of_plan (planned h)) _ (rests.nothing_next live g h a.0) a.5.0)
  first-is-apart direct (Copy g h slot generation b) k a = absurd (not_both (next_of_plan (planned h)) _ (rests.nothing_next live g h a.0) a.5.0)
  first-is-apart direct change k a = absurd k

  waiting-not-held : (f : ℕ) → Waiting ≡ Held f → ⊥
  waiting-not-held f e = cc

  starts : (changes : List Change) (new : Shard) → Leads l n Scans mid changes new → AtRest l n new → CouldStart l s op
      → new.request s.accepted ≡ Some (request_at op Waiting) → ⊥
  starts [] new e rests' could waits = (subst (AtRest l n) e rests').none_could_start live s.accepted op (put-same s.request s.accepted _ s.accepted refl) could
  starts (change ∷ changes) new e rests' could waits =
      left-scans l n s.accepted changes (after l mid change) new e.2 (first-leaves change e.0 e.1) op Waiting (inl refl) waits

  holds-none : (changes : List Change) (new : Shard) → Leads l n Scans mid changes new → IsDirect l s op → IsApart new s.accepted
  holds-none [] new e direct = subst (λ y. IsApart y s.accepted) (sym e)
      (λ o f e'. waiting-not-held f (same_stage _ _ _ _ (sym (put-same s.request s.accepted (Some (request_at op Waiting)) s.accepted refl) ∙ e')).1)
  holds-none (change ∷ changes) new e direct =
      apart-scans l n s.accepted changes (after l mid change) new e.2 (first-leaves change e.0 e.1) (first-is-apart direct change e.0 e.1)

pub accepted_starts : AcceptedStarts
accepted_starts l n old new op id rests live below could st waits =
    starts l n old op rests live below st.2.0 new st.2.1 st.3 could (subst (λ k. new.request k ≡ Some (request_at op Waiting)) st.0 waits)

pub direct_holds_no_row : DirectHoldsNoRow
direct_holds_no_row l n old new op id rests live direct st f held =
    holds-none l n old op rests live direct.0 st.2.0 new st.2.1 direct op f (subst (λ k. new.request k ≡ Some (request_at op (Held f))) st.0 held)
