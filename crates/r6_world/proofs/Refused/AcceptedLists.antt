-- Of a list that is accepted one request starts, where one could; and no row is held for one that is a direct read.
use Rattle.std.proofs.Common.{◌≡◌, ◌⊎◌, ℕ, ◌+◌, ◌<◌, ◌≤◌, List, [], ◌∷◌, ◌++◌, length, true, inl, inr, refl, sym, ap, ◌∙◌, subst, arith, Some}
use Rattle.std.proofs.lemmas.Bool.{cases_Bool, cases_eq, false≢true, or_cases, or_left, eq-eqb, eqb-true}
use Rattle.r6_stripe.specs.Plans.{next as next_of_plan}
use Rattle.r6_world.specs.PlainArray.{Op, Read, Write}
use Rattle.r6_world.specs.Layouts.{Layout, slot_of}
use Rattle.r6_world.specs.Tasks.{Write as RowWrite, Task, ReadFor, WriteFor, Rebuild, Check, Repair, planned, serves, serves_one}
use Rattle.r6_world.specs.ShardStates.{Stage, Waiting, Erred, Held, Reading, Shard, limit, IsLive, IsSyncedRead, NotHeld, CouldStart, CouldHold}
use Rattle.r6_world.specs.Changes.{Change, Accept, Start, Ask, Prepare, Send, Copy, Read_direct, Allowed, Batch, after}
use Rattle.r6_world.specs.Steps.{AtRest, IsRequest, Scans, Leads, entered}
use Rattle.r6_world.specs.Refusals.{AcceptedListStarts, AllWait, DirectOfListHoldsNoRow, OneCouldStart}
use Rattle.r6_world.proofs.Tables.{put-same, put-other, put-cases, not_both}
use Rattle.r6_world.proofs.Acts.Forgets.{tokens-scan}
use Rattle.r6_world.proofs.Acts.ReadOns.{back-not-reading}
use Rattle.r6_world.proofs.Acts.Requests.{request_at, held_now-other, same_stage}
use Rattle.r6_world.proofs.Refused.Accepted.{Left, left-scans, left-served, works-nothing}
use Rattle.r6_world.proofs.Refused.Passed.{passed-back}

-- a number that the list gets
abbrev IsOfList : Shard → List Op → ℕ → Type 0
IsOfList s ops id = (s.accepted ≤ id) × (id < s.accepted + length ops)

erred-not-waiting : Erred ≡ Waiting → ⊥
erred-not-waiting e = cc

-- all but the requests is as it was
abbrev listed : Layout → Shard → List Op → Shard
listed l s ops = record s { accepted = (entered l s ops).accepted; request = (entered l s ops).request }

entered_is : (l : Layout) (ops : List Op) (s : Shard) → entered l s ops ≡ listed l s ops
entered_is l [] s = refl
entered_is l (op ∷ ops) s = entered_is l ops (after l s (Accept op))

-- what stands there stood there, or is of the list and waits
listed-cases : (l : Layout) (ops : List Op) (s : Shard) (id : ℕ) (asked : Op) (stage : Stage) → (entered l s ops).request id ≡ Some (request_at asked stage)
    → (s.request id ≡ Some (request_at asked stage)) ⊎ (IsOfList s ops id × (stage ≡ Waiting))
listed-cases l [] s id asked stage e = inl e
listed-cases l (op ∷ ops) s id asked stage e =
    elim (listed-cases l ops (after l s (Accept op)) id asked stage e) [
      | inr new ↦ let low = new.0.0 in let high = new.0.1 in inr ((omega (arith, low), omega (arith, high)), new.1)
      | inl before ↦ elim (put-cases s.request s.accepted (Some (request_at op Waiting)) id _ before) [
        | inl q ↦ let same = q.0 in inr ((omega (arith, same), omega (arith, same)), sym (same_stage _ _ _ _ q.1).1)
        | inr q ↦ inl q.1
      ]
    ]

-- each that waits has its number
one-waits : (s : Shard) (ops : List Op) (first id : ℕ) → AllWait s first ops → first ≤ id → id < first + length ops → (op : Op) × (s.request id ≡ Some (request_at op Waiting))
one-waits s [] first id all low high = absurd (omega (arith, low, high))
one-waits s (op ∷ ops) first id all low high = elim (cases_eq id first) [
  | inl same ↦ (op, subst (λ k. s.request k ≡ Some (request_at op Waiting)) (sym same) all.0)
  | inr ne ↦ one-waits s ops (first + 1) id all.1 (omega (arith, low, ne)) (omega (arith, high))
]

-- A live shard at rest has accepted a list. What comes first starts one of it.
module _ (l : Layout) (n : ℕ) (s : Shard) (ops : List Op) (rests : AtRest l n s) (live : IsLive l s) (below : s.tokens < limit) where
  abbrev mid : Shard
  mid = listed l s ops

  is-new : (id : ℕ) (asked : Op) → mid.request id ≡ Some (request_at asked Waiting) → CouldStart l s asked → IsOfList s ops id
  is-new id asked e could = elim (listed-cases l ops s id asked Waiting e) [
    | inl before ↦ absurd (rests.none_could_start live id asked before could)
    | inr new ↦ new.0
  ]

  none-erred : (id : ℕ) (asked : Op) → mid.request id ≡ Some (request_at asked Erred) → CouldHold l s asked → ⊥
  none-erred id asked e could = elim (listed-cases l ops s id asked Erred e) [
    | inl before ↦ rests.none_could_hold live id asked before could
    | inr new ↦ erred-not-waiting new.1
  ]

  serves-new : (g at : ℕ) (task : Task) → IsRequest task → Allowed l n mid (Start g at task) → (id : ℕ) × IsOfList s ops id × (serves task id ≡ true)
  serves-new g at (ReadFor own block) k a =
      let free : CouldHold l s (Read block) = (subst (NotHeld s) (sym a.4.1) a.1, g, a.0) in
      elim a.4.0 [
        | inl w ↦ (own, is-new own (Read block) w.0 ((λ synced. absurd (w.1 (below, synced))), λ held. free), eq-eqb own own refl)
        | inr w ↦ absurd (none-erred own (Read block) w free)
      ]
  serves-new g at (WriteFor []) k a = absurd (a.4.0 refl)
  serves-new g at (WriteFor (w ∷ writes)) k a =
      let could : CouldStart l s (Write w.block w.new_data) = ((λ synced. absurd synced), λ held. (subst (NotHeld s) (sym a.4.1.1) a.1, g, a.0)) in
      (w.id, is-new w.id (Write w.block w.new_data) a.4.1.0 could, or_left _ _ (eq-eqb w.id w.id refl))
  serves-new g at (Rebuild slot generation) k a = absurd k
  serves-new g at Check k a = absurd k
  serves-new g at Repair k a = absurd k

  first-leaves : (change : Change) → Scans change → Allowed l n mid change → (id : ℕ) × IsOfList s ops id × Left (after l mid change) id
  first-leaves (Start g at task) k a = let new = serves-new g at task k a in (new.0, new.1, left-served l mid g at new.0 task new.2)
  first-leaves (Read_direct buffer own block generation) k a =
      let could : CouldStart l s (Read block) = ((λ synced. (buffer, a.0)), λ held. absurd (held (a.6, ((generation, a.4.0), a.7)))) in (
        own,
        is-new own (Read block) a.1 could,
        λ o stage back e. elim (put-cases mid.request own _ own _ e) [
          | inl q ↦ back-not-reading stage s.tokens back (sym (same_stage _ _ _ _ q.1).1)
          | inr q ↦ absurd (q.0 refl)
        ],
      )
  first-leaves (Ask g h slot generation) k a = absurd (not_both (next_of_plan (planned h)) _ (rests.nothing_next live g h a.0) a.5)
  first-leaves (Prepare g h event) k a = absurd (works-nothing (planned h) event (rests.nothing_next live g h a.0) a.2 a.4)
  first-leaves (Send g h slot generation b) k a = absurd (not_both (next_of_plan (planned h)) _ (rests.nothing_next live g h a.0) a.5.0)
  first-leaves (Copy g h slot generation b) k a = absurd (not_both (next_of_plan (planned h)) _ (rests.nothing_next live g h a.0) a.5.0)
  first-leaves change k a = absurd k

  waits-and-could : (new : Shard) (some : List Op) (first : ℕ) → AllWait new first some → OneCouldStart l s some
      → (id : ℕ) × (op : Op) × (new.request id ≡ Some (request_at op Waiting)) × CouldStart l s op
  waits-and-could new [] first all one = absurd one
  waits-and-could new (op ∷ some) first all (inl could) = (first, op, all.0, could)
  waits-and-could new (op ∷ some) first all (inr later) = waits-and-could new some (first + 1) all.1 later

  starts-one : (changes : List Change) (new : Shard) → Leads l n Scans mid changes new → AtRest l n new → OneCouldStart l s ops → AllWait new s.accepted ops → ⊥
  starts-one [] new e rests' one all =
      let w = waits-and-could new ops s.accepted all one in
      (subst (AtRest l n) e rests').none_could_start live w.0 w.1 (subst (λ (y : Shard). y.request w.0 ≡ Some (request_at w.1 Waiting)) e w.2) w.3
  starts-one (change ∷ changes) new e rests' one all =
      let first = first-leaves change e.0 e.1 in
      let w = one-waits new ops s.accepted first.0 all first.1.0 first.1.1 in
      left-scans l n first.0 changes (after l mid change) new e.2 first.2 w.0 Waiting (inl refl) w.1

pub accepted_list_starts : AcceptedListStarts
accepted_list_starts l n old new ops first rests live below one st all =
    starts-one l n old ops rests live below st.2.0 new (subst (λ (y : Shard). Leads l n Scans y st.2.0 new) (entered_is l ops old) st.2.1) st.3 one
    (subst (λ k. AllWait new k ops) st.0 all)

-- ---- a direct read

-- it waits or is read
abbrev IsUnheld : Stage → Type 0
IsUnheld Waiting = record {}
IsUnheld (Reading token) = record {}
IsUnheld stage = ⊥

read-not-write : (block other : ℕ) (b : Rattle.r6_layout.specs.PlainArray.Block) → Write other b ≡ Read block → ⊥
read-not-write block other b e = cc

-- a batch serves writes alone
batch-writes : (l : Layout) (s : Shard) (row id : ℕ) (writes : List RowWrite) → Batch l s row writes → serves_one writes id ≡ true
    → (w : RowWrite) × (s.request id ≡ Some (request_at (Write w.block w.new_data) Waiting))
batch-writes l s row id [] b e = absurd (false≢true e)
batch-writes l s row id (w ∷ writes) b e = elim (or_cases _ _ e) [
  | inl same ↦ (w, subst (λ x. s.request x ≡ Some (request_at (Write w.block w.new_data) Waiting)) (sym (eqb-true id w.id same)) b.0)
  | inr later ↦ batch-writes l s row id writes b.3 later
]

module _ (l : Layout) (n id block : ℕ) where
  -- nobody holds a row for the read of this number, and its slot is in sync
  record Unheld (s : Shard) : Type 0 where
    own : (o : Op) (stage : Stage) → s.request id ≡ Some (request_at o stage) → (o ≡ Read block) × IsUnheld stage
    synced : IsSyncedRead l s (Read block)

  not-served : (s : Shard) (f at : ℕ) (task : Task) → IsRequest task → Allowed l n s (Start f at task) → s.tokens < limit → Unheld s → serves task id ≡ true → ⊥
  not-served s f at (ReadFor asked b) k a few x yes' =
      let same = eqb-true id asked yes' in
      elim a.4.0 [
        | inl w ↦
            let is = x.own (Read b) Waiting (subst (λ i. s.request i ≡ Some (request_at (Read b) Waiting)) (sym same) w.0) in
            w.1 (few, subst (IsSyncedRead l s) (sym is.0) x.synced)
        | inr w ↦ (x.own (Read b) Erred (subst (λ i. s.request i ≡ Some (request_at (Read b) Erred)) (sym same) w)).1
      ]
  not-served s f at (WriteFor writes) k a few x yes' =
      let w = batch-writes l s at id writes a.4.1 yes' in
      read-not-write block w.0.block w.0.new_data (x.own (Write w.0.block w.0.new_data) Waiting w.1).0
  not-served s f at (Rebuild slot generation) k a few x yes' = absurd k
  not-served s f at Check k a few x yes' = absurd k
  not-served s f at Repair k a few x yes' = absurd k

  unheld-kept : (s : Shard) (change : Change) → Scans change → Allowed l n s change → s.tokens < limit → Unheld s → Unheld (after l s change)
  unheld-kept s (Start f at task) k a few x = record {
    own = λ o stage e. elim (cases_Bool (serves task id)) [
      | inl yes' ↦ absurd (not-served s f at task k a few x yes')
      | inr no' ↦ x.own o stage (sym (held_now-other s.request task f id no') ∙ e)
    ];
    synced = (x.synced.0, λ p. x.synced.1 (passed-back l n s (Start f at task) (record {}) a (l.row_of block) (slot_of l block) p));
  }
  unheld-kept s (Read_direct buffer asked b g) k a few x = record {
    own = λ o stage e. elim (put-cases s.request asked _ id _ e) [
      | inl q ↦
          let is = x.own (Read b) Waiting (subst (λ i. s.request i ≡ Some (request_at (Read b) Waiting)) (sym q.0) a.1) in
          (sym (same_stage _ _ _ _ q.1).0 ∙ is.0, subst IsUnheld (same_stage _ _ _ _ q.1).1 (record {}))
      | inr q ↦ x.own o stage q.1
    ];
    synced = (x.synced.0, λ p. x.synced.1 (passed-back l n s (Read_direct buffer asked b g) (record {}) a (l.row_of block) (slot_of l block) p));
  }
  unheld-kept s (Ask f h slot g) k a few x = record {
    own = x.own;
    synced = (x.synced.0, λ p. x.synced.1 (passed-back l n s (Ask f h slot g) (record {}) a (l.row_of block) (slot_of l block) p));
  }
  unheld-kept s (Prepare f h event) k a few x = record {
    own = x.own;
    synced = (x.synced.0, λ p. x.synced.1 (passed-back l n s (Prepare f h event) (record {}) a (l.row_of block) (slot_of l block) p));
  }
  unheld-kept s (Send f h slot g b) k a few x = record {
    own = x.own;
    synced = (x.synced.0, λ p. x.synced.1 (passed-back l n s (Send f h slot g b) (record {}) a (l.row_of block) (slot_of l block) p));
  }
  unheld-kept s (Copy f h slot g b) k a few x = record {
    own = x.own;
    synced = (x.synced.0, λ p. x.synced.1 (passed-back l n s (Copy f h slot g b) (record {}) a (l.row_of block) (slot_of l block) p));
  }
  unheld-kept s change k a few x = absurd k

  scans-tokens : (changes : List Change) (s new : Shard) → Leads l n Scans s changes new → s.tokens ≤ new.tokens
  scans-tokens [] s new e = subst (λ (y : Shard). s.tokens ≤ y.tokens) (sym e) (omega arith)
  scans-tokens (change ∷ changes) s new e =
      let one = tokens-scan l n s change e.0 in
      let rest = scans-tokens changes (after l s change) new e.2 in
      omega (arith, one, rest)

  unheld-scans : (changes : List Change) (s new : Shard) → Leads l n Scans s changes new → new.tokens < limit → Unheld s → Unheld new
  unheld-scans [] s new e few x = subst Unheld (sym e) x
  unheld-scans (change ∷ changes) s new e few x =
      let up = scans-tokens (change ∷ changes) s new e in
      unheld-scans changes (after l s change) new e.2 few (unheld-kept s change e.0 e.1 (omega (arith, up, few)) x)

-- the request of each number of the list
later-keeps : (l : Layout) (ops : List Op) (s : Shard) (id : ℕ) → id < s.accepted → (entered l s ops).request id ≡ s.request id
later-keeps l [] s id low = refl
later-keeps l (op ∷ ops) s id low =
    later-keeps l ops (after l s (Accept op)) id (omega (arith, low)) ∙ put-other s.request s.accepted (Some (request_at op Waiting)) id (λ same. absurd (omega (arith, low, same)))

placed : (l : Layout) (before : List Op) (op : Op) (behind : List Op) (s : Shard)
    → (entered l s (before ++ op ∷ behind)).request (s.accepted + length before) ≡ Some (request_at op Waiting)
placed l [] op behind s =
    let none : List Op = [] in
    let same : s.accepted + length none ≡ s.accepted = omega arith in
    subst (λ i. (entered l s (op ∷ behind)).request i ≡ Some (request_at op Waiting)) (sym same)
    (later-keeps l behind (after l s (Accept op)) s.accepted (omega arith) ∙ put-same s.request s.accepted (Some (request_at op Waiting)) s.accepted refl)
placed l (o ∷ before) op behind s =
    let same : s.accepted + 1 + length before ≡ s.accepted + length (o ∷ before) = omega arith in
    subst (λ i. (entered l s (o ∷ (before ++ op ∷ behind))).request i ≡ Some (request_at op Waiting)) same (placed l before op behind (after l s (Accept o)))

pub direct_of_list_holds_no_row : DirectOfListHoldsNoRow
direct_of_list_holds_no_row l n old new before behind block first synced few st f held =
    let ops : List Op = before ++ Read block ∷ behind in
    let id = old.accepted + length before in
    let there = placed l before (Read block) behind old in
    let begin : Unheld l n id block (listed l old ops) = record {
      own = λ o stage e. let is = same_stage (Read block) o Waiting stage (sym there ∙ e) in (sym is.0, subst IsUnheld is.1 (record {}));
      synced = synced;
    } in
    let end = unheld-scans l n id block st.2.0 (listed l old ops) new (subst (λ (y : Shard). Leads l n Scans y st.2.0 new) (entered_is l ops old) st.2.1) few begin in
    (end.own (Read block) (Held f) (subst (λ k. new.request (k + length before) ≡ Some (request_at (Read block) (Held f))) st.0 held)).1
