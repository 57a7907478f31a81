-- What requests wait for after a change of the frames.
use Rattle.std.proofs.Common.{◌≡◌, ◌≢◌, ◌⊎◌, ℕ, List, [], ◌∷◌, refl, sym, ap, subst, ◌∙◌, Option, Some, None, inl, inr, arith}
use Rattle.std.specs.Prelude.{◌↔◌, option_map}
use Rattle.std.specs.List.{AllByRecursion}
use Rattle.std.proofs.lemmas.Bool.{cases_eq}
use Rattle.r6_layout.specs.Shape.{Shape}
use Rattle.r6_layout.specs.Layout.{index_of, row_of, slot_at}
use Rattle.r6_world.specs.PlainArray.{block_of}
use Rattle.r6_core.specs.declared.queued.Queued.{Queued}
use Rattle.r6_frames.specs.declared.frames.Frames.{Frames}
use Rattle.r6_frames.specs.declared.frames.Job.{Job}
use Rattle.r6_frames.specs.declared.frames.HeldRow.{HeldRow}
use Rattle.r6_world.specs.Values.{op_of}
use Rattle.r6_frames.specs.Views.{held_for, use_at, row_in, hold_at, AreLive}
use Rattle.r6_frames.specs.Calls.{IsFreeFrame, IsHolder, NotHeldBy, KeepsDirects, KeepsHolds, KeepsOthers, KeepsRows}
use Rattle.r6_world.specs.declared.values.Op.{Op}
use Rattle.r6_world.specs.declared.values.Op.TheVariants as op
use Rattle.r6_frames.specs.declared.directs.Direct.{Direct}
use Rattle.r6_frames.specs.Directs.{direct_at, is_free_direct}
use Rattle.r6_frames.specs.Reads.{IsFreeDirect, IsPassedOnIn}
use Rattle.r6_frames.specs.Slots.{states_of}
use Rattle.r6_stripe.specs.Plans.{is_in_sync}
use Rattle.r6_world.specs.ShardStates.{standing_of}
use Rattle.r6_core.specs.declared.scan.Room.TheVariants as room
use Rattle.r6_core.specs.declared.state.State.{State}
use Rattle.r6_core.specs.Shards.{waiting_of}
use Rattle.r6_waiters.specs.Line.{Entries, all_moved, entries_of}
use Rattle.r6_core.specs.Inside.{AllWait, HasBuffer, HasLetGo, HasNoFreeBuffer, HasNoFreeFrame, IsLike, IsReadDirectly, IsForBuffer, IsSyncedRead, TakesRoom, Waits, WaitsFor, free_buffer, free_frame, row_for}
use Rattle.r6_core.proofs.PassedOn.{passed_both}
use Rattle.r6_core.proofs.Lined.{all_after_moves, all_then, all_then_too, values}

-- ---- a row that is held is held in its frame still

same_row : (o : Option HeldRow) (h : HeldRow) → option_map held_for o ≡ Some (held_for h) → (i : HeldRow) × (o ≡ Some i) × (i.row ≡ h.row)
same_row None h is = absurd (cc)
same_row (Some i) h is = (i, refl, (let same : held_for i ≡ held_for h = cc in ap (λ (x : ℕ × Job). x.0) same))

pub row_stays : (old new : Frames) (frame : ℕ) (h : HeldRow) → KeepsRows old new → hold_at old.uses frame ≡ Some h
    → (i : HeldRow) × (hold_at new.uses frame ≡ Some i) × (i.row ≡ h.row)
row_stays old new frame h rows is = same_row (hold_at new.uses frame) h (rows frame ∙ ap (option_map held_for) is)

-- ---- what is in sync is so still

same_at : (old new : Frames) (block : ℕ) → IsLike old new
    → is_in_sync (standing_of (states_of new.slots (slot_at new.geometry (row_of new.geometry block) (index_of new.geometry block))) (row_of new.geometry block))
    ≡ is_in_sync (standing_of (states_of old.slots (slot_at old.geometry (row_of old.geometry block) (index_of old.geometry block))) (row_of old.geometry block))
same_at old new block like =
    λ i. is_in_sync (standing_of (like.slots i (slot_at (like.geometry i) (row_of (like.geometry i) block) (index_of (like.geometry i) block))) (row_of (like.geometry i) block))

-- a slot that is passed on there was so before, and is still
passed_at : (old new : Frames) (block : ℕ) → IsLike old new
    → IsPassedOnIn new (row_of new.geometry block) (slot_at new.geometry (row_of new.geometry block) (index_of new.geometry block))
    ↔ IsPassedOnIn old (row_of old.geometry block) (slot_at old.geometry (row_of old.geometry block) (index_of old.geometry block))
passed_at old new block like =
    subst (λ (g : Shape). IsPassedOnIn new (row_of new.geometry block) (slot_at new.geometry (row_of new.geometry block) (index_of new.geometry block)) ↔ IsPassedOnIn old (row_of g block) (slot_at g (row_of g block) (index_of g block))) like.geometry
    (like.passed (row_of new.geometry block) (slot_at new.geometry (row_of new.geometry block) (index_of new.geometry block)))

-- a read whose position is in sync was one before
pub synced_before : (old new : Frames) (o : Op) → IsLike old new → IsSyncedRead new o → IsSyncedRead old o
synced_before old new (op.Read block buffer) like synced = (sym (same_at old new block like) ∙ synced.0, λ passed. synced.1 ((passed_at old new block like).1 passed))
synced_before old new (op.Write block buffer) like synced = synced

pub synced_after : (old new : Frames) (o : Op) → IsLike old new → IsSyncedRead old o → IsSyncedRead new o
synced_after old new (op.Read block buffer) like synced = (same_at old new block like ∙ synced.0, λ passed. synced.1 ((passed_at old new block like).0 passed))
synced_after old new (op.Write block buffer) like synced = synced

-- and below the limit so was one that is read directly
pub directly_before : (old new : Frames) (q : Queued) → IsLike old new → IsReadDirectly new q → IsReadDirectly old q
directly_before old new q like directly =
    let below = directly.0 in
    let tokens = like.tokens in
    (omega arith, (directly.1.0, synced_before old new q.op like directly.1.1))

pub for_buffer_after : (old new : Frames) (q : Queued) → IsLike old new → IsForBuffer old q → IsForBuffer new q
for_buffer_after old new q like is = (is.0, synced_after old new q.op like is.1)

abbrev pub FreesNone : Frames → Frames → Type 0
FreesNone old new = (number : ℕ) → IsFreeDirect new number → IsFreeDirect old number

pub frees_kept : (old new : Frames) → KeepsDirects old new → FreesNone old new
frees_kept old new directs number free =
    (free.0, sym (ap (λ (ds : List Direct). is_free_direct (direct_at ds number)) directs) ∙ free.1)

-- ---- what waits for a thing can't begin

-- what it would need: a free direct buffer where it is a read of a position in sync that met no read error, and where
-- it isn't read directly its row and a free frame
pub record CouldBegin (fs : Frames) (q : Queued) : Type 0 where
  pub buffer : IsForBuffer fs q → (number : ℕ) × IsFreeDirect fs number
  pub frame : (IsReadDirectly fs q → ⊥) → NotHeldBy fs (row_for fs q.op) × (frame : ℕ) × IsFreeFrame fs frame

abbrev pub CannotStart : Frames → Queued → Type 0
CannotStart fs q = AreLive fs → CouldBegin fs q → ⊥

abbrev pub NoneCanStart : State → Type 0
NoneCanStart s = AllByRecursion (CannotStart s.frames) (waiting_of s)

pub cannot_begin : (fs : Frames) (cause : ℕ) (q : Queued) → WaitsFor fs cause q → CannotStart fs q
cannot_begin fs cause q waits alive could = elim waits [
  | inl buffer ↦ let there = could.buffer buffer.1 in buffer.2 there.0 there.1
  | inr frame ↦
      let there = could.frame frame.0 in
      elim frame.1 [
        | inl holder ↦ there.0 cause holder.1 holder.2 holder.3
        | inr none ↦ none.1 there.1 there.2
      ]
]

pub all_cannot : (fs : Frames) (es : Entries Queued) → (AreLive fs → AllByRecursion (Waits fs) es) → AllByRecursion (CannotStart fs) (values es)
all_cannot fs [] all = tt
all_cannot fs (e ∷ es) all = ((λ alive could. cannot_begin fs e.0 e.1 (all alive).0 alive could), all_cannot fs es (λ alive. (all alive).1))

pub none_can : (s : State) → AllWait s → NoneCanStart s
none_can s all = all_cannot s.frames (entries_of s.waiting) all

-- ---- it waits for it still where each row is held in its frame still, and no frame and no direct buffer became free

abbrev pub KeepsHolders : Frames → Frames → Type 0
KeepsHolders old new = (row frame : ℕ) → IsHolder old row frame → IsHolder new row frame

abbrev pub KeepsFull : Frames → Frames → Type 0
KeepsFull old new = (frame : ℕ) → IsFreeFrame new frame → IsFreeFrame old frame

pub holders_by_rows : (old new : Frames) → KeepsRows old new → KeepsHolders old new
holders_by_rows old new rows row frame holder =
    let there = row_stays old new frame holder.1 rows holder.2 in
    (holder.0, there.0, there.1, there.2 ∙ holder.3)

pub holders_same : (old new : Frames) → KeepsHolds old new → KeepsHolders old new
holders_same old new holds row frame holder = (holder.0, holder.1, ap (λ held. hold_at held frame) holds ∙ holder.2, holder.3)

pub full_same : (old new : Frames) → KeepsHolds old new → KeepsFull old new
full_same old new holds frame free = (free.0, ap (λ held. use_at held frame) (sym holds) ∙ free.1)

-- a frame that has what it had
pub holder_else : (old new : Frames) (changed row frame : ℕ) → KeepsOthers old changed new → frame ≢ changed → IsHolder old row frame → IsHolder new row frame
holder_else old new changed row frame others apart holder = (holder.0, holder.1, ap row_in (others frame apart) ∙ holder.2, holder.3)

pub free_else : (old new : Frames) (changed frame : ℕ) → KeepsOthers old changed new → frame ≢ changed → IsFreeFrame new frame → IsFreeFrame old frame
free_else old new changed frame others apart free = (free.0, sym (others frame apart) ∙ free.1)

-- a free frame holds no row
pub frees : (fs : Frames) (row frame : ℕ) → IsFreeFrame fs frame → IsHolder fs row frame → ⊥
frees fs row frame free holder = let both : None ≡ Some holder.1 = sym (ap row_in free.1) ∙ holder.2 in absurd (cc)

-- a row comes into a free frame
pub holders_begun : (old new : Frames) (frame : ℕ) → IsFreeFrame old frame → KeepsOthers old frame new → KeepsHolders old new
holders_begun old new frame free others row at holder = elim (cases_eq at frame) [
  | inl e ↦ absurd (frees old row frame free (subst (IsHolder old row) e holder))
  | inr ne ↦ holder_else old new frame row at others ne holder
]

pub full_begun : (old new : Frames) (frame row : ℕ) → KeepsOthers old frame new → IsHolder new row frame → KeepsFull old new
full_begun old new frame row others holder at free = elim (cases_eq at frame) [
  | inl e ↦ absurd (frees new row frame (subst (IsFreeFrame new) e free) holder)
  | inr ne ↦ free_else old new frame at others ne free
]

row_like : (old new : Frames) (o : Op) → IsLike old new → row_for new o ≡ row_for old o
row_like old new o like = ap (λ (g : Shape). row_of g (block_of (op_of o))) like.geometry

-- the row of a request
pub holder_for : (old new : Frames) (o : Op) (frame : ℕ) → IsLike old new → IsHolder new (row_for old o) frame → IsHolder new (row_for new o) frame
holder_for old new o frame like holder = subst (λ (row : ℕ). IsHolder new row frame) (sym (row_like old new o like)) holder

module _ (old new : Frames) (like : IsLike old new) where
  -- what isn't read directly isn't now
  pub not_directly : (q : Queued) → (IsReadDirectly old q → ⊥) → IsReadDirectly new q → ⊥
  not_directly q not directly = not (directly_before old new q like directly)

  module _ (none : FreesNone old new) (holders : KeepsHolders old new) (full : KeepsFull old new) where
    pub still_waits : (cause : ℕ) (q : Queued) → WaitsFor old cause q → WaitsFor new cause q
    still_waits cause q waits = elim waits [
      | inl buffer ↦ inl (buffer.0, for_buffer_after old new q like buffer.1, (λ number free. buffer.2 number (none number free)))
      | inr frame ↦ inr (
        not_directly q frame.0,
        elim frame.1 [
          | inl holder ↦ inl (holder_for old new q.op cause like (holders (row_for old q.op) cause holder))
          | inr no_frame ↦ inr (no_frame.0, (λ at free. no_frame.1 at (full at free)))
        ],
      )
    ]

    pub all_wait_still : (es : Entries Queued) → AllByRecursion (Waits old) es → AllByRecursion (Waits new) es
    all_wait_still es all = all_then (Waits old) (Waits new) es (λ e waits. still_waits e.0 e.1 waits) all

-- ---- a frame has let its row go

abbrev pub WaitsOrWaited : Frames → Frames → ℕ × Queued → Type 0
WaitsOrWaited before fs e = Waits fs e ⊎ Waits before e

module _ (frame : ℕ) (s : State) (go : HasLetGo frame s) where
  -- who waits neither for its row nor for a frame waits still
  pub else_waits : (cause : ℕ) (r : Queued) → cause ≢ frame → cause ≢ free_frame → WaitsOrWaited go.before s.frames (cause, r) → Waits s.frames (cause, r)
  else_waits cause r not_own not_free waits = elim waits [
    | inl now ↦ now
    | inr was ↦ elim was [
      | inl buffer ↦ inl (
        buffer.0,
        for_buffer_after go.before s.frames r go.like buffer.1,
        (λ number free. buffer.2 number (frees_kept go.before s.frames go.directs number free)),
      )
      | inr waited ↦ inr (
        not_directly go.before s.frames go.like r waited.0,
        elim waited.1 [
          | inl holder ↦ inl (holder_for go.before s.frames r.op cause go.like (holder_else go.before s.frames frame (row_for go.before r.op) cause go.others not_own holder))
          | inr none ↦ absurd (not_free none.0)
        ],
      )
    ]
  ]

  -- who waits for its row waited for it before
  pub own_waited : (r : Queued) → WaitsOrWaited go.before s.frames (frame, r)
      → (IsReadDirectly go.before r → ⊥) × IsHolder go.before (row_for go.before r.op) frame
  own_waited r waits = elim waits [
    | inl now ↦ elim now [
      | inl buffer ↦ absurd (let there = go.there in let e = buffer.0 in omega arith)
      | inr held ↦ elim held.1 [
        | inl holder ↦ absurd (let both : None ≡ Some holder.1 = sym go.empty ∙ holder.2 in cc)
        | inr none ↦ absurd (let there = go.there in let e = none.0 in omega arith)
      ]
    ]
    | inr was ↦ elim was [
      | inl buffer ↦ absurd (let there = go.there in let e = buffer.0 in omega arith)
      | inr held ↦ elim held.1 [
        | inl holder ↦ (held.0, holder)
        | inr none ↦ absurd (let there = go.there in let e = none.0 in omega arith)
      ]
    ]
  ]

  -- while a frame is free, who waits for one has waited since before
  pub free_waited : (r : Queued) (free : ℕ) → IsFreeFrame s.frames free → WaitsOrWaited go.before s.frames (free_frame, r)
      → (IsReadDirectly go.before r → ⊥) × HasNoFreeFrame go.before
  free_waited r free is waits = elim waits [
    | inl now ↦ elim now [
      | inl buffer ↦ absurd (let e = buffer.0 in omega arith)
      | inr held ↦ elim held.1 [
        | inl holder ↦ absurd (let below = holder.0 in omega arith)
        | inr none ↦ absurd (none.1 free is)
      ]
    ]
    | inr was ↦ elim was [
      | inl buffer ↦ absurd (let e = buffer.0 in omega arith)
      | inr held ↦ elim held.1 [
        | inl holder ↦ absurd (let below = holder.0 in omega arith)
        | inr none ↦ (held.0, none.1)
      ]
    ]
  ]

  -- none of them is read directly
  pub not_read : (cause : ℕ) (r : Queued) (free : ℕ) → (cause ≡ frame) ⊎ (cause ≡ free_frame) → IsFreeFrame s.frames free
      → WaitsOrWaited go.before s.frames (cause, r) → IsReadDirectly s.frames r → ⊥
  not_read cause r free one is waits = not_directly go.before s.frames go.like r (elim one [
    | inl e ↦ (own_waited r (subst (λ (n : ℕ). WaitsOrWaited go.before s.frames (n, r)) e waits)).0
    | inr e ↦ (free_waited r free is (subst (λ (n : ℕ). WaitsOrWaited go.before s.frames (n, r)) e waits)).0
  ])

  -- those that wait for a frame, none of which is free
  for_a_frame : (r : Queued) → HasNoFreeFrame s.frames → WaitsOrWaited go.before s.frames (free_frame, r) → Waits s.frames (free_frame, r)
  for_a_frame r none waits = elim waits [
    | inl now ↦ now
    | inr was ↦ elim was [
      | inl buffer ↦ absurd (let e = buffer.0 in omega arith)
      | inr held ↦ inr (not_directly go.before s.frames go.like r held.0, inr (refl, none))
    ]
  ]

  -- no frame is free: who waited for the row waits for a frame
  pub wait_for_a_frame : HasNoFreeFrame s.frames → AllByRecursion (Waits s.frames) (all_moved frame free_frame (entries_of s.waiting))
  wait_for_a_frame none =
      all_after_moves (WaitsOrWaited go.before s.frames) (Waits s.frames) frame free_frame (entries_of s.waiting)
      (λ r waits. inr (not_directly go.before s.frames go.like r (own_waited r waits).0, inr (refl, none)))
      (λ cause r not_own waits. elim (cases_eq cause free_frame) [
        | inl e ↦ subst (λ (n : ℕ). Waits s.frames (n, r)) (sym e) (for_a_frame r none (subst (λ (n : ℕ). WaitsOrWaited go.before s.frames (n, r)) e waits))
        | inr ne ↦ else_waits cause r not_own ne waits
      ])
      go.waits

  -- none waited for the row, and none waits for a frame
  pub none_waits_for_it : AllByRecursion (λ entry. (entry.0 ≢ frame) × (entry.0 ≢ free_frame)) (entries_of s.waiting) → AllByRecursion (Waits s.frames) (entries_of s.waiting)
  none_waits_for_it none =
      all_then_too (WaitsOrWaited go.before s.frames) (λ entry. (entry.0 ≢ frame) × (entry.0 ≢ free_frame)) (Waits s.frames) (entries_of s.waiting)
      (λ e waits not. else_waits e.0 e.1 not.0 not.1 waits) go.waits none

  -- one of them starts in a free frame
  module _ (started : Queued) (free : ℕ) (new : Frames) (is_free : IsFreeFrame s.frames free) (like : IsLike s.frames new) (takes : TakesRoom (room.Frame free) s.frames started new) where
    both_like : IsLike go.before new
    both_like = record {
      geometry = like.geometry ∙ go.like.geometry;
      live = λ live. go.like.live (like.live live);
      slots = like.slots ∙ go.like.slots;
      passed = passed_both go.before s.frames new go.like.passed like.passed;
      tokens = let first = go.like.tokens in let second = like.tokens in omega arith;
    }

    waits_on : (e : ℕ × Queued) → Waits s.frames e → Waits new e
    waits_on e waits =
        still_waits s.frames new like (frees_kept s.frames new takes.1) (holders_begun s.frames new free is_free takes.0)
        (full_begun s.frames new free (row_for new started.op) takes.0 takes.2) e.0 e.1 waits

    -- if no frame was free before, none is
    none_is_free : HasNoFreeFrame go.before → HasNoFreeFrame new
    none_is_free none at free_now =
        let then = full_begun s.frames new free (row_for new started.op) takes.0 takes.2 at free_now in
        let apart : at ≢ free = λ e. frees new (row_for new started.op) free (subst (IsFreeFrame new) e free_now) takes.2 in
        elim (cases_eq at frame) [
          | inl e ↦ none free (free_else go.before s.frames frame free go.others (λ same. apart (e ∙ sym same)) is_free)
          | inr ne ↦ none at (free_else go.before s.frames frame at go.others ne then)
        ]

    -- who waits for a frame, if one that does has started or none is free in its place
    else_on : (cause : ℕ) (r : Queued) → cause ≢ frame → WaitsOrWaited go.before s.frames (cause, r) → Waits new (cause, r)
    else_on cause r not_own waits = elim (cases_eq cause free_frame) [
      | inl e ↦
          let was = free_waited r free is_free (subst (λ (n : ℕ). WaitsOrWaited go.before s.frames (n, r)) e waits) in
          inr (not_directly go.before new both_like r was.0, inr (e, none_is_free was.1))
      | inr ne ↦ waits_on (cause, r) (else_waits cause r not_own ne waits)
    ]

    -- it waited for the row: the others wait for the frame that holds it
    pub behind_own : (es : Entries Queued) → WaitsOrWaited go.before s.frames (frame, started) → AllByRecursion (WaitsOrWaited go.before s.frames) es
        → AllByRecursion (Waits new) (all_moved frame free es)
    behind_own es own all =
        all_after_moves (WaitsOrWaited go.before s.frames) (Waits new) frame free es
        (λ r waits.
        let one = own_waited started own in
        let other = own_waited r waits in
        let row : row_for go.before started.op ≡ row_for go.before r.op =
        sym one.1.3 ∙ ap (λ (h : HeldRow). h.row) (let both : Some one.1.1 ≡ Some other.1.1 = sym one.1.2 ∙ other.1.2 in let same : one.1.1 ≡ other.1.1 = cc in same) ∙ other.1.3 in
        let rows : row_for new started.op ≡ row_for new r.op = row_like go.before new started.op both_like ∙ row ∙ sym (row_like go.before new r.op both_like) in
        inr (not_directly go.before new both_like r other.0, inl (subst (λ (n : ℕ). IsHolder new n free) rows takes.2)))
        else_on all

    -- it waited for a frame: who waited for the row waits for one
    pub behind_other : (es : Entries Queued) → WaitsOrWaited go.before s.frames (free_frame, started) → AllByRecursion (WaitsOrWaited go.before s.frames) es
        → AllByRecursion (Waits new) (all_moved frame free_frame es)
    behind_other es own all =
        let none = none_is_free (free_waited started free is_free own).1 in
        all_after_moves (WaitsOrWaited go.before s.frames) (Waits new) frame free_frame es
        (λ r waits. inr (not_directly go.before new both_like r (own_waited r waits).0, inr (refl, none)))
        else_on all

-- ---- a direct buffer came home

module _ (s : State) (home : HasBuffer s) where
  -- none waits for one
  pub no_frame_freed : (e : ℕ × Queued) → Waits home.before e → e.0 ≢ free_buffer → Waits s.frames e
  no_frame_freed e waits ne = elim waits [
    | inl buffer ↦ absurd (ne buffer.0)
    | inr held ↦ inr (
      not_directly home.before s.frames home.like e.1 held.0,
      elim held.1 [
        | inl holder ↦ inl (holder_for home.before s.frames e.1.op e.0 home.like (holders_same home.before s.frames home.holds (row_for home.before e.1.op) e.0 holder))
        | inr none ↦ inr (none.0, (λ at free. none.1 at (full_same home.before s.frames home.holds at free)))
      ],
    )
  ]

  pub none_waits_for_one : AllByRecursion (λ entry. entry.0 ≢ free_buffer) (entries_of s.waiting) → AllByRecursion (Waits s.frames) (entries_of s.waiting)
  none_waits_for_one none =
      all_then_too (Waits home.before) (λ entry. entry.0 ≢ free_buffer) (Waits s.frames) (entries_of s.waiting) (λ e waits ne. no_frame_freed e waits ne) home.waits none

  -- none is free
  pub wait_for_one : HasNoFreeBuffer s.frames → AllByRecursion (Waits s.frames) (entries_of s.waiting)
  wait_for_one none =
      all_wait_still home.before s.frames home.like (λ number free. absurd (none number free)) (holders_same home.before s.frames home.holds)
      (full_same home.before s.frames home.holds) (entries_of s.waiting) home.waits

  -- one starts with it
  module _ (started : Queued) (number : ℕ) (new : Frames) (is_free : IsFreeDirect s.frames number) (like : IsLike s.frames new) (takes : TakesRoom (room.Direct number) s.frames started new) where
    none_left : HasNoFreeBuffer home.before → HasNoFreeBuffer new
    none_left none m free =
        let there = takes.1 m free in
        elim (cases_eq m home.number) [
          | inl e ↦
              let apart : number ≢ home.number = λ same. there.0 (e ∙ sym same) in
              none number (home.frees number apart is_free)
          | inr ne ↦ none m (home.frees m ne there.1)
        ]

    pub behind_reader : (es : Entries Queued) → Waits home.before (free_buffer, started) → AllByRecursion (Waits home.before) es → AllByRecursion (Waits new) es
    behind_reader es own all =
        let none : HasNoFreeBuffer home.before = elim own [
          | inl buffer ↦ buffer.2
          | inr held ↦ elim held.1 [ inl holder ↦ absurd (let below = holder.0 in omega arith) | inr no_frame ↦ absurd (let e = no_frame.0 in omega arith) ]
        ] in
        let left = none_left none in
        all_wait_still home.before new
        (record {
          geometry = like.geometry ∙ home.like.geometry;
          live = λ live. home.like.live (like.live live);
          slots = like.slots ∙ home.like.slots;
          passed = passed_both home.before s.frames new home.like.passed like.passed;
          tokens = let first = home.like.tokens in let second = like.tokens in omega arith;
        })
        (λ m free. absurd (left m free))
        (holders_same home.before new (takes.0 ∙ home.holds)) (full_same home.before new (takes.0 ∙ home.holds)) es all
