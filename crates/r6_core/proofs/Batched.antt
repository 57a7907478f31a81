-- A request starts, and with a write those that wait for other blocks of its row: what is left of those behind it.
use Rattle.std.proofs.Common.{◌≡◌, ◌⊎◌, inl, inr, ℕ, ◌&&◌, ◌||◌, not, Bool, true, false, List, [], ◌∷◌, ◌++◌, map, refl, sym, ap, subst, ◌∙◌, Option, Some, None, IsPermutation}
use Rattle.std.specs.Prelude.{◌==◌, if◌then◌else◌}
use Rattle.std.specs.List.{AllByRecursion}
use Rattle.std.proofs.lemmas.Bool.{cases_Bool, cases_eq, eq-eqb, eqb-true}
use Rattle.std.proofs.lemmas.List.Sorted.{IsPermutation-sym}
use Rattle.r6_world.proofs.Tables.{put-same, put-other}
use Rattle.r6_world.specs.Layouts.{Layout}
use Rattle.r6_world.specs.Tasks.{Task, WriteFor, Write, serves_one}
use Rattle.r6_world.specs.ShardStates.{Shard, Held, NotHeld, begun}
use Rattle.r6_world.specs.ShardStates as shards
use Rattle.r6_world.specs.Changes.{Start, Read_direct, after, Allowed, staged}
use Rattle.r6_world.specs.Steps.{Through, Scans, IsRequest}
use Rattle.r6_world.specs.declared.values.Op.{Op}
use Rattle.r6_world.specs.declared.values.Op.TheVariants as op
use Rattle.r6_core.specs.declared.queued.Queued.{Queued}
use Rattle.r6_world.specs.Values.{op_of}
use Rattle.r6_frames.specs.Calls.{PutsFirst}
use Rattle.r6_waiters.specs.Line.{Entries}
use Rattle.r6_core.specs.Batches.{block_written, is_wanted, but, joined, left, entries_left}
use Rattle.r6_core.specs.Turns.{CouldLeave, row_for, IsWaiting, MustWait, wanted_with, write_for, IsTaskOf, IsRead, Starts}
use Rattle.r6_core.proofs.InTurns.{HasJoined, InTurnBefore, joined_still}
use Rattle.r6_core.proofs.Joined.{IsUnwanted, all_joined, joined_behind, joined_in, joined_not, key_of, left_behind, left_in, left_not, none_join, values, values_left}
use Rattle.r6_core.proofs.Lined.{all_permuted}
use Rattle.r6_core.proofs.Throughs.{scans, through_both, through_of, through_one}

-- ---- those that are left

-- of these requests, from the oldest to the newest, these wait still; for each of the others its row is held
abbrev pub AreLeft : Layout → Shard → List Queued → (waiting : List Queued) → Type 0
AreLeft l s [] waiting = waiting ≡ []
AreLeft l s (r ∷ rs) waiting =
    (HasJoined l s r × AreLeft l s rs waiting)
    ⊎ ((others : List Queued) × (waiting ≡ r ∷ others) × AreLeft l s rs others)

pub all_are_left : (l : Layout) (s : Shard) (rs : List Queued) → AreLeft l s rs rs
all_are_left l s [] = refl
all_are_left l s (r ∷ rs) = inr (rs, refl, all_are_left l s rs)

-- the first of those that wait still
pub record IsNextLeft (l : Layout) (s : Shard) (rs : List Queued) (r : Queued) (waiting : List Queued) : Type 0 where
  pub gone : List Queued
  pub rest : List Queued
  pub split : rs ≡ gone ++ r ∷ rest
  pub joined : AllByRecursion (HasJoined l s) gone
  pub left : AreLeft l s rest waiting

module _ (l : Layout) (s : Shard) where
  pub next_left : (rs : List Queued) (r : Queued) (waiting : List Queued) → AreLeft l s rs (r ∷ waiting) → IsNextLeft l s rs r waiting
  next_left [] r waiting is = absurd (cc is)
  next_left (x ∷ rs) r waiting is = elim is [
    | inl gone ↦
        let later = next_left rs r waiting gone.1 in
        record {
          gone = x ∷ later.gone;
          rest = later.rest;
          split = ap (λ ys. x ∷ ys) later.split;
          joined = (gone.0, later.joined);
          left = later.left;
        }
    | inr waits ↦
        let same : r ≡ x = cc in
        let others : waiting ≡ waits.0 = cc in
        record {
          gone = [];
          rest = rs;
          split = ap (λ y. y ∷ rs) (sym same);
          joined = tt;
          left = subst (AreLeft l s rs) (sym others) waits.2;
        }
  ]

  -- none waits
  pub none_left : (rs : List Queued) → AreLeft l s rs [] → AllByRecursion (HasJoined l s) rs
  none_left [] is = tt
  none_left (r ∷ rs) is = elim is [
    | inl gone ↦ (gone.0, none_left rs gone.1)
    | inr waits ↦ let none = waits.1 in absurd (cc none)
  ]

pub left_still : (l : Layout) (n : ℕ) (old new : Shard) (rs waiting : List Queued) → Through l n Scans old new → AreLeft l old rs waiting → AreLeft l new rs waiting
left_still l n old new [] waiting through is = is
left_still l n old new (r ∷ rs) waiting through is = elim is [
  | inl gone ↦ inl (joined_still l n old new r through gone.0, left_still l n old new rs waiting through gone.1)
  | inr waits ↦ inr (waits.0, waits.1, left_still l n old new rs waits.0 through waits.2)
]

-- ---- blocks of one row

module _ (l : Layout) (row : ℕ) where
  -- blocks of this row are wanted
  abbrev pub AreOfRow : (ℕ → Bool) → Type 0
  AreOfRow wanted = (block : ℕ) → wanted block ≡ true → l.row_of block ≡ row

  pub but_of_row : (wanted : ℕ → Bool) (key : Option ℕ) → AreOfRow wanted → AreOfRow (but wanted key)
  but_of_row wanted None of = of
  but_of_row wanted (Some own) of = λ block is. elim (cases_eq block own) [
    | inl same ↦ let not = put-same wanted own false block same in absurd (let both : false ≡ true = sym not ∙ is in cc both)
    | inr ne ↦ of block (sym (put-other wanted own false block ne) ∙ is)
  ]

  pub wanted_row : (wanted : ℕ → Bool) → AreOfRow wanted → (o : Op) → is_wanted wanted (block_written o) ≡ true → row_for l o ≡ row
  wanted_row wanted of (op.Read block buffer) is = absurd (cc is)
  wanted_row wanted of (op.Write block buffer) is = of block is

  pub joined_rows : (wanted : ℕ → Bool) → AreOfRow wanted → (rs : List Queued) → AllByRecursion (λ r. row_for l r.op ≡ row) (joined wanted rs)
  joined_rows wanted of [] = tt
  joined_rows wanted of (r ∷ rs) = elim (cases_Bool (is_wanted wanted (key_of r))) [
    | inl is ↦ subst (AllByRecursion (λ r. row_for l r.op ≡ row)) (sym (joined_in wanted r rs is)) (wanted_row wanted of r.op is, joined_rows (but wanted (key_of r)) (but_of_row wanted (key_of r) of) rs)
    | inr not ↦ subst (AllByRecursion (λ r. row_for l r.op ≡ row)) (sym (joined_not wanted r rs not)) (joined_rows wanted of rs)
  ]

  -- who is held in another row isn't wanted
  module _ (s : Shard) (unheld : NotHeld s row) where
    unwanted : (wanted : ℕ → Bool) → AreOfRow wanted → (r : Queued) → HasJoined l s r → is_wanted wanted (key_of r) ≡ false
    unwanted wanted of r has = elim (cases_Bool (is_wanted wanted (key_of r))) [
      | inl is ↦ absurd (unheld has.frame has.hold has.held (has.row ∙ wanted_row wanted of r.op is))
      | inr not ↦ not
    ]

    -- who joins is found among those that are left
    pub joined_of_left : (wanted : ℕ → Bool) → AreOfRow wanted → (rs waiting : List Queued) → AreLeft l s rs waiting → joined wanted rs ≡ joined wanted waiting
    joined_of_left wanted of [] waiting is = ap (joined wanted) (sym is)
    joined_of_left wanted of (r ∷ rs) waiting is = elim is [
      | inl gone ↦ joined_not wanted r rs (unwanted wanted of r gone.0) ∙ joined_of_left wanted of rs waiting gone.1
      | inr waits ↦ elim (cases_Bool (is_wanted wanted (key_of r))) [
        | inl is ↦
            joined_in wanted r rs is
            ∙ ap (λ ys. r ∷ ys) (joined_of_left (but wanted (key_of r)) (but_of_row wanted (key_of r) of) rs waits.0 waits.2)
            ∙ sym (ap (joined wanted) waits.1 ∙ joined_in wanted r waits.0 is)
        | inr not ↦
            joined_not wanted r rs not ∙ joined_of_left wanted of rs waits.0 waits.2
            ∙ sym (ap (joined wanted) waits.1 ∙ joined_not wanted r waits.0 not)
      ]
    ]

  -- who must wait while the row could be held isn't wanted
  module _ (n : ℕ) (s : Shard) (frame : ℕ) (task : Task) (may : Allowed l n s (Start frame row task)) where
    must_not : (wanted : ℕ → Bool) → AreOfRow wanted → (erred : Bool) (o : Op) → (shards.IsLive l s → CouldLeave erred l s (op_of o) → ⊥) → is_wanted wanted (block_written o) ≡ false
    must_not wanted of erred (op.Read block buffer) must = refl
    must_not wanted of erred (op.Write block buffer) must = elim (cases_Bool (wanted block)) [
      | inr not ↦ not
      | inl is ↦ absurd (must may.3 (by_bit erred (subst (NotHeld s) (sym (of block is)) may.1, frame, may.0)))
    ]
      where
        by_bit : (erred : Bool) → shards.CouldHold l s (op_of (op.Write block buffer)) → CouldLeave erred l s (op_of (op.Write block buffer))
        by_bit false could = ((λ synced. absurd synced), λ held. could)
        by_bit true could = could

    pub older_unwanted : (wanted : ℕ → Bool) → AreOfRow wanted → (rs : List Queued) → AllByRecursion (MustWait l s) rs → AllByRecursion (IsUnwanted wanted) rs
    older_unwanted wanted of [] must = tt
    older_unwanted wanted of (r ∷ rs) must = (must_not wanted of r.erred r.op must.0, older_unwanted wanted of rs must.1)

-- those that join wait no more
pub left_joined : (l : Layout) (s : Shard) (wanted : ℕ → Bool) (rs waiting : List Queued) → AllByRecursion (HasJoined l s) (joined wanted waiting) → AreLeft l s rs waiting → AreLeft l s rs (left wanted waiting)
left_joined l s wanted [] waiting all is = ap (left wanted) is
left_joined l s wanted (r ∷ rs) waiting all is = elim is [
  | inl gone ↦ inl (gone.0, left_joined l s wanted rs waiting all gone.1)
  | inr waits ↦
      let these = subst (λ ws. AllByRecursion (HasJoined l s) (joined wanted ws)) waits.1 all in
      subst (λ ws. AreLeft l s (r ∷ rs) (left wanted ws)) (sym waits.1) (elim (cases_Bool (is_wanted wanted (key_of r))) [
        | inl in_it ↦
            let joins = subst (AllByRecursion (HasJoined l s)) (joined_in wanted r waits.0 in_it) these in
            subst (AreLeft l s (r ∷ rs)) (sym (left_in wanted r waits.0 in_it))
            (inl (joins.0, left_joined l s (but wanted (key_of r)) rs waits.0 joins.1 waits.2))
        | inr not ↦
            let joins = subst (AllByRecursion (HasJoined l s)) (joined_not wanted r waits.0 not) these in
            subst (AreLeft l s (r ∷ rs)) (sym (left_not wanted r waits.0 not)) (inr (left wanted waits.0, refl, left_joined l s wanted rs waits.0 joins waits.2))
      ])
]

-- ---- a request starts

and_first : (a b : Bool) → (a && b) ≡ true → a ≡ true
and_first true b is = refl
and_first false b is = is

pub with_of_row : (l : Layout) (o : Op) → AreOfRow l (row_for l o) (wanted_with l o)
with_of_row l (op.Read own buffer) block is = absurd (cc is)
with_of_row l (op.Write own buffer) block is = eqb-true (l.row_of block) (l.row_of own) (and_first (l.row_of block == l.row_of own) (not (block == own)) is)

or_true : (b : Bool) → (b || true) ≡ true
or_true true = refl
or_true false = refl

-- the hold serves all of these
all_served : (rs : List Queued) → AllByRecursion (λ r. serves_one (map write_for rs) r.id ≡ true) rs
all_served rs = these [] rs (λ id is. absurd (cc is)) (λ id is. is)
  where
    these : (before rs' : List Queued) → ((id : ℕ) → serves_one (map write_for before) id ≡ true → serves_one (map write_for rs) id ≡ true)
        → ((id : ℕ) → serves_one (map write_for rs') id ≡ true → serves_one (map write_for rs) id ≡ true) → AllByRecursion (λ r. serves_one (map write_for rs) r.id ≡ true) rs'
    these before [] first within = tt
    these before (r ∷ later) first within = (
      within r.id (ap (λ (b : Bool). b || serves_one (map write_for later) r.id) (eq-eqb r.id r.id refl)),
      these before later first (λ id is. within id (ap (λ (b : Bool). (id == r.id) || b) is ∙ or_true (id == r.id))),
    )

module _ (l : Layout) (n : ℕ) (s : Shard) (r : Queued) (newer : List Queued) (new : Shard) where
  is_request : (o : Op) (task : Task) → IsTaskOf l r o newer task → IsRequest task
  is_request (op.Read block buffer) task is = subst IsRequest (sym is) (record {})
  is_request (op.Write block buffer) task is = subst IsRequest (sym is.2) (record {})

  read_scans : (o : Op) → IsRead l n s r.id o new → Through l n Scans s new
  read_scans (op.Read block buffer) is = through_one l n Scans s new (Read_direct is.0 r.id block is.1) (record {}) is.2 is.3
  read_scans (op.Write block buffer) is = absurd is

  pub starts_scan : Starts l n s r newer new → Through l n Scans s new
  starts_scan starts = elim starts [
    | inl read ↦ read_scans r.op read.1
    | inr held ↦
        let start = Start held.0 (row_for l r.op) held.1 in
        through_both l n Scans s (after l s start) new
        (through_one l n Scans s (after l s start) start (is_request r.op held.1 held.2) held.3 refl)
        (through_of l n PutsFirst Scans scans (after l s start) new held.4)
  ]

  module _ (wait : AllByRecursion (IsWaiting s) newer) where
    none_with_read : (o : Op) → IsRead l n s r.id o new → AllByRecursion (HasJoined l new) (joined (wanted_with l o) newer)
    none_with_read (op.Read block buffer) is = subst (AllByRecursion (HasJoined l new)) (sym (none_join (λ other. false) (λ other. refl) newer)) tt
    none_with_read (op.Write block buffer) is = absurd is

    begins_for : (frame row : ℕ) (writes : List Write) (x : Queued) → serves_one writes x.id ≡ true → IsWaiting s x → row_for l x.op ≡ row
        → HasJoined l (after l s (Start frame row (WriteFor writes))) x
    begins_for frame row writes x served waits in_row =
        let h = begun l s.slot row (WriteFor writes) in
        record {
          frame = frame;
          at = ap (λ (b : Bool). if b then staged (s.request x.id) (Held frame) else s.request x.id) served ∙ ap (λ o. staged o (Held frame)) waits;
          hold = h;
          held = put-same s.frame frame (Some h) frame refl;
          row = sym in_row;
        }

    all_begin : (frame row : ℕ) (writes : List Write) (xs : List Queued) → AllByRecursion (λ x. serves_one writes x.id ≡ true) xs → AllByRecursion (IsWaiting s) xs
        → AllByRecursion (λ x. row_for l x.op ≡ row) xs → Through l n PutsFirst (after l s (Start frame row (WriteFor writes))) new → AllByRecursion (HasJoined l new) xs
    all_begin frame row writes [] served waits rows puts = tt
    all_begin frame row writes (x ∷ xs) served waits rows puts =
        let start = Start frame row (WriteFor writes) in (
          joined_still l n (after l s start) new x (through_of l n PutsFirst Scans scans (after l s start) new puts) (begins_for frame row writes x served.0 waits.0 rows.0),
          all_begin frame row writes xs served.1 waits.1 rows.1 puts,
        )

    joined_by : (o : Op) (frame : ℕ) (task : Task) → IsTaskOf l r o newer task → Through l n PutsFirst (after l s (Start frame (row_for l o) task)) new
        → AllByRecursion (HasJoined l new) (joined (wanted_with l o) newer)
    joined_by (op.Read block buffer) frame task is puts = subst (AllByRecursion (HasJoined l new)) (sym (none_join (λ other. false) (λ other. refl) newer)) tt
    joined_by (op.Write block buffer) frame task is puts =
        let o = op.Write block buffer in
        let wanted = wanted_with l o in
        let served : AllByRecursion (λ x. serves_one (map write_for is.0) x.id ≡ true) (r ∷ joined wanted newer) =
        all_permuted (λ x. serves_one (map write_for is.0) x.id ≡ true) is.0 (r ∷ joined wanted newer) (IsPermutation-sym (r ∷ joined wanted newer) is.0 is.1) (all_served is.0) in
        all_begin frame (row_for l o) (map write_for is.0) (joined wanted newer) served.1 (all_joined (IsWaiting s) wanted newer wait)
        (joined_rows l (row_for l o) wanted (with_of_row l o) newer) (subst (λ t. Through l n PutsFirst (after l s (Start frame (row_for l o) t)) new) is.2 puts)

    -- a row is held for each that joins
    pub starts_joined : Starts l n s r newer new → AllByRecursion (HasJoined l new) (joined (wanted_with l r.op) newer)
    starts_joined starts = elim starts [
      | inl read ↦ none_with_read r.op read.1
      | inr held ↦ joined_by r.op held.0 held.1 held.2 held.4
    ]

-- ---- the oldest that can start: none of the older ones joins it

module _ (l : Layout) (n : ℕ) (s : Shard) (r : Queued) (new : Shard) (before behind : Entries Queued) (must : AllByRecursion (MustWait l s) (values before))
    (starts : Starts l n s r (values before ++ values behind) new) where
  abbrev wanted : ℕ → Bool
  wanted = wanted_with l r.op

  no_block_wanted : (o : Op) → IsRead l n s r.id o new → (block : ℕ) → wanted_with l o block ≡ false
  no_block_wanted (op.Read own buffer) is block = refl
  no_block_wanted (op.Write own buffer) is block = absurd is

  none_older : AllByRecursion (IsUnwanted wanted) (values before)
  none_older = elim starts [
    | inl read ↦ unread (values before) (no_block_wanted r.op read.1)
    | inr held ↦ older_unwanted l (row_for l r.op) n s held.0 held.1 held.3 wanted (with_of_row l r.op) (values before) must
  ]
    where
      by_key : (key : Option ℕ) → ((block : ℕ) → wanted block ≡ false) → is_wanted wanted key ≡ false
      by_key None none = refl
      by_key (Some block) none = none block

      unread : (rs : List Queued) → ((block : ℕ) → wanted block ≡ false) → AllByRecursion (IsUnwanted wanted) rs
      unread [] none = tt
      unread (x ∷ rs) none = (by_key (key_of x) none, unread rs none)

  -- the line is left with the older ones, and with what is left of the others
  pub line_left : entries_left wanted (before ++ behind) ≡ before ++ entries_left wanted behind
  line_left = left_behind wanted before behind none_older

  -- it starts with those behind it alone
  task_behind : (newer : List Queued) (o : Op) (task : Task) → joined (wanted_with l o) (values before ++ values behind) ≡ joined (wanted_with l o) newer
      → IsTaskOf l r o (values before ++ values behind) task → IsTaskOf l r o newer task
  task_behind newer (op.Read block buffer) task same is = is
  task_behind newer (op.Write block buffer) task same is = (is.0, subst (λ rs. IsPermutation (r ∷ rs) is.0) same is.1, is.2)

  module _ (newer : List Queued) (are : AreLeft l s newer (values behind)) where
    -- those that have started before it don't join it
    pub starts_behind : Starts l n s r newer new
    starts_behind = elim starts [
      | inl read ↦ inl read
      | inr held ↦
          let same = joined_behind wanted (values before) (values behind) none_older
          ∙ sym (joined_of_left l (row_for l r.op) s held.3.1 wanted (with_of_row l r.op) newer (values behind) are) in
          inr (held.0, held.1, task_behind newer r.op held.1 same held.2, held.3, held.4)
    ]

    -- what is left then
    pub left_then : AllByRecursion (IsWaiting s) (values before ++ values behind) → AreLeft l new newer (values (entries_left wanted behind))
    left_then wait =
        let these = subst (AllByRecursion (HasJoined l new)) (joined_behind wanted (values before) (values behind) none_older)
        (starts_joined l n s r (values before ++ values behind) new wait starts) in
        subst (AreLeft l new newer) (sym (values_left wanted behind))
        (left_joined l new wanted newer (values behind) these (left_still l n s new newer (values behind) (starts_scan l n s r (values before ++ values behind) new starts) are))

-- ---- nobody else starts

-- of these requests those that are left must wait
pub turns_left : (l : Layout) (n : ℕ) (behind : List Queued) (s : Shard) (rs waiting : List Queued) → AreLeft l s rs waiting → AllByRecursion (IsWaiting s) waiting
    → AllByRecursion (MustWait l s) waiting → InTurnBefore l n behind s rs s waiting
turns_left l n behind s [] waiting is wait must = (refl, is)
turns_left l n behind s (r ∷ rs) waiting is wait must = elim is [
  | inl gone ↦ inl ((gone.0.frame, gone.0.at), turns_left l n behind s rs waiting gone.1 wait must)
  | inr waits ↦
      let each = subst (AllByRecursion (IsWaiting s)) waits.1 wait in
      let all = subst (AllByRecursion (MustWait l s)) waits.1 must in
      inr (each.0, inr (all.0, waits.0, waits.1, turns_left l n behind s rs waits.0 waits.2 each.1 all.1))
]
