-- The oldest request that waits for a cause leaves the line, and with a write those that start with it.
use Rattle.std.proofs.Common.{◌≡◌, ◌≢◌, inl, inr, ℕ, ◌<◌, Bool, false, List, [], ◌∷◌, ◌++◌, map, refl, sym, ap, subst, ◌∙◌, Some, IfSome, IsPermutation, All}
use Rattle.std.specs.List.{AllByRecursion}
use Rattle.std.proofs.lemmas.Bool.{cases_Bool}
use Rattle.std.proofs.lemmas.List.Sorted.{IsPermutation-refl, IsPermutation-sym, IsPermutation-trans, IsPermutation-cons, IsPermutation-middle, IsPermutation-append_left}
use Rattle.std.proofs.lemmas.List.Elements.{All-cons, All-nil}
use Rattle.r6_kernels.specs.Blocks.{IsBlock}
use Rattle.r6_layout.specs.Shape.{blocks}
use Rattle.r6_layout.specs.Layout as layout
use Rattle.r6_layout.specs.PlainArray.{Block}
use Rattle.r6_world.specs.PlainArray.{block_of}
use Rattle.r6_world.specs.Tasks.{ReadFor}
use Rattle.r6_world.specs.declared.values.Op.TheVariants as op
use Rattle.r6_core.specs.declared.queued.Queued.{Queued}
use Rattle.r6_world.specs.Values.{buffer_of, op_of}
use Rattle.r6_frames.specs.Writes.{Entry, IsWriteIn, blocks_in, write_task}
use Rattle.r6_stripe.specs.BatchLists.{AreDistinct}
use Rattle.r6_waiters.specs.Line.{Entries, entries_of, oldest_of, with_entries, without_oldest}
use Rattle.r6_core.specs.declared.state.State.{State}
use Rattle.r6_core.specs.Shards.{layout_in, state_of, waiting_of}
use Rattle.r6_core.specs.Batches.{block_written, but, entries_left, is_wanted, joined, left}
use Rattle.r6_core.specs.Turns.{IsWaiting, wanted_with}
use Rattle.r6_core.specs.Inside.{IsReadDirectly, IsSettled, LeavesLine, others_in, row_for, waited, IsQueuedOf}
use Rattle.r6_core.proofs.Unerred.{as_waited, write_unerred}
use Rattle.r6_core.specs.Queued.{request_in, unerred}
use Rattle.r6_core.proofs.HeldStarts.{IsServed, read_served, writes_served}
use Rattle.r6_core.proofs.Joined.{all_stay, joined_in, joined_not, key_of, left_in, left_not, values, values_left}
use Rattle.r6_core.proofs.Lined.{IsSplit, all_first, all_permuted, split_of, split_without, values_both, values_split}
use Rattle.r6_core.proofs.RowWrites.{entry_back, entry_in, task_of_writes}
use Rattle.r6_core.proofs.Scanned.{waiting_wait}

-- those that join and those that are left are all
pub joined_and_left : (wanted : ℕ → Bool) (rs : List Queued) → IsPermutation rs (joined wanted rs ++ left wanted rs)
joined_and_left wanted [] = IsPermutation-refl []
joined_and_left wanted (r ∷ rs) = elim (cases_Bool (is_wanted wanted (key_of r))) [
  | inl is ↦
      let rest = joined_and_left (but wanted (key_of r)) rs in
      subst (IsPermutation (r ∷ rs)) (sym (λ i. joined_in wanted r rs is i ++ left_in wanted r rs is i)) (IsPermutation-cons r rs _ rest)
  | inr not ↦
      let in_it = joined wanted rs in
      let others = left wanted rs in
      subst (IsPermutation (r ∷ rs)) (sym (λ i. joined_not wanted r rs not i ++ left_not wanted r rs not i))
      (IsPermutation-trans (r ∷ rs) (r ∷ (in_it ++ others)) (in_it ++ r ∷ others) (IsPermutation-cons r rs (in_it ++ others) (joined_and_left wanted rs))
      (IsPermutation-sym (in_it ++ r ∷ others) (r ∷ (in_it ++ others)) (IsPermutation-middle in_it r others)))
]

-- ---- the oldest of a cause

module _ (s : State) (settled : IsSettled s) (cause : ℕ) (request : Queued) (oldest : oldest_of cause (entries_of s.waiting) ≡ Some request) where
  -- the others in the line
  abbrev pub line : Entries Queued
  line = without_oldest cause (entries_of s.waiting)

  abbrev split : IsSplit cause (entries_of s.waiting) request
  split = split_of cause (entries_of s.waiting) request oldest

  line_is : line ≡ split.before ++ split.behind
  line_is = ap (without_oldest cause) split.entries ∙ split_without cause split.before request split.behind split.oldest

  first_of_all_waiting : IsPermutation (waiting_of s) (request ∷ values line)
  first_of_all_waiting =
      subst (λ rs. IsPermutation rs (request ∷ values line)) (sym (ap values split.entries ∙ values_split split.before cause request split.behind))
      (subst (λ rs. IsPermutation (values split.before ++ request ∷ values split.behind) (request ∷ rs)) (sym (ap values line_is ∙ values_both split.before split.behind))
      (IsPermutation-middle (values split.before) request (values split.behind)))

  pub oldest_own : IsQueuedOf s.frames request
  oldest_own = (all_permuted (IsQueuedOf s.frames) (waiting_of s) (request ∷ values line) first_of_all_waiting settled.sound.requests.waiting).0

  pub line_own : AllByRecursion (λ entry. IsQueuedOf s.frames entry.1) line
  line_own = by_entries line (all_permuted (IsQueuedOf s.frames) (waiting_of s) (request ∷ values line) first_of_all_waiting settled.sound.requests.waiting).1
    where
      by_entries : (es : Entries Queued) → AllByRecursion (IsQueuedOf s.frames) (values es) → AllByRecursion (λ entry. IsQueuedOf s.frames entry.1) es
      by_entries [] all = tt
      by_entries (entry ∷ es) all = (all.0, by_entries es all.1)

  pub oldest_waits : IsWaiting (state_of s) request
  oldest_waits = (all_permuted (IsWaiting (state_of s)) (waiting_of s) (request ∷ values line) first_of_all_waiting (waiting_wait s settled.sound)).0

  -- the line is left so
  pub leaves : (new : State) → new.waiting ≡ with_entries s.waiting (entries_left (wanted_with (layout_in s) request.op) line) → LeavesLine s cause new
  leaves new is =
      subst (λ o. IfSome o (λ r. new.waiting ≡ with_entries s.waiting (entries_left (wanted_with (layout_in s) r.op) (without_oldest cause (entries_of s.waiting))))) (sym oldest) is

  -- ---- a read, which starts alone

  module _ (block : ℕ) (buffer : Block) (reads : request.op ≡ op.Read block buffer) where
    pub read_alone : IsPermutation (waiting_of s) ((request ∷ []) ++ values line)
    read_alone = first_of_all_waiting

    pub read_is_served : (IsReadDirectly s.frames request → ⊥) → IsServed s request (others_in s cause) (ReadFor request.id block) (request ∷ [])
    read_is_served plain = read_served s request (others_in s cause) block buffer reads oldest_own oldest_waits plain settled.sound.frames.shape

    pub read_leaves : (new : State) → new.waiting ≡ with_entries s.waiting line → LeavesLine s cause new
    read_leaves new is =
        leaves new (is ∙ ap (with_entries s.waiting) (sym (ap (λ o. entries_left (wanted_with (layout_in s) o) line) reads ∙ all_stay (λ other. false) (λ other. refl) line)))

  -- ---- a write, with those of the other blocks of its row

  module _ (own : ℕ) (buffer : Block) (is_write : request.op ≡ op.Write own buffer) (writes : List Entry) (now : Entries Queued)
      (joins : IsPermutation (unerred (request_in request) ∷ joined (wanted_with (layout_in s) request.op) (values line)) (map waited writes)) (left_are : now ≡ entries_left (wanted_with (layout_in s) request.op) line)
      (some : writes ≢ []) (in_row : All (IsWriteIn s.frames.geometry (row_for s.frames request.op)) writes) (distinct : AreDistinct (blocks_in writes)) where
    abbrev others : ℕ → Bool
    others = wanted_with (layout_in s) request.op

    plain : request.erred ≡ false
    plain = write_unerred s.frames request own oldest_own (ap block_written is_write)

    -- it waited so
    all_join : IsPermutation (request ∷ joined others (values line)) (map waited writes)
    all_join = subst (λ q. IsPermutation (q ∷ joined others (values line)) (map waited writes)) (as_waited request plain) joins

    pub writes_of_all : IsPermutation (waiting_of s) (map waited writes ++ values now)
    writes_of_all =
        let rest = left others (values line) in
        let now_is : values now ≡ rest = ap values left_are ∙ values_left others line in
        IsPermutation-trans (waiting_of s) (request ∷ values line) (map waited writes ++ values now) first_of_all_waiting
        (IsPermutation-trans (request ∷ values line) (request ∷ (joined others (values line) ++ rest)) (map waited writes ++ values now)
        (IsPermutation-cons request (values line) (joined others (values line) ++ rest) (joined_and_left others (values line)))
        (subst (λ rs. IsPermutation (request ∷ (joined others (values line) ++ rest)) (map waited writes ++ rs)) (sym now_is)
        (IsPermutation-append_left rest (request ∷ joined others (values line)) (map waited writes) all_join)))

    all_wait_in : AllByRecursion (IsWaiting (state_of s)) (map waited writes)
    all_wait_in =
        all_first (IsWaiting (state_of s)) (map waited writes) (values now)
        (all_permuted (IsWaiting (state_of s)) (waiting_of s) (map waited writes ++ values now) writes_of_all (waiting_wait s settled.sound))

    pub writes_are_served : IsServed s request (others_in s cause) (write_task writes) (map waited writes)
    writes_are_served =
        writes_served s request (others_in s cause) own buffer writes is_write oldest_own settled.sound.frames.shape some in_row distinct all_wait_in
        (task_of_writes s.frames.geometry request own buffer (others_in s cause) writes
        (subst (λ o. IsPermutation (request ∷ joined (wanted_with (layout_in s) o) (values line)) (map waited writes)) is_write all_join))

    pub writes_leave : (new : State) → new.waiting ≡ with_entries s.waiting now → LeavesLine s cause new
    writes_leave new is = leaves new (is ∙ ap (with_entries s.waiting) left_are)

-- ---- a write that was just accepted: no older one waits for its row, so it starts alone

pub write_alone : (s : State) → IsSettled s → (request : Queued) (own : ℕ) (buffer : Block) (index : ℕ) → request.op ≡ op.Write own buffer → IsQueuedOf s.frames request
    → IsWaiting (state_of s) request → index ≡ layout.index_of s.frames.geometry own
    → IsServed s request [] (write_task (entry_in request own buffer index ∷ [])) (request ∷ [])
write_alone s settled request own buffer index is fits waits at =
    let shape = s.frames.geometry in
    let writes = entry_in request own buffer index ∷ [] in
    let row = row_for s.frames request.op in
    let back : map waited writes ≡ request ∷ [] = ap (λ r. r ∷ []) (entry_back request own buffer index is (write_unerred s.frames request own fits (ap block_written is))) in
    let row_is : row ≡ layout.row_of shape own = ap (λ o. layout.row_of shape (block_of (op_of o))) is in
    let mine : IsWriteIn shape row (entry_in request own buffer index) =
    record {
      there = subst (λ o. block_of (op_of o) < blocks shape) is fits.request.there;
      in_row = row_is;
      index = at;
      sized = subst (λ o. IsBlock shape.block (buffer_of o)) is fits.request.sized;
    } in
    subst (IsServed s request [] (write_task writes)) back
    (writes_served s request [] own buffer writes is fits settled.sound.frames.shape (λ none. (cc none))
    (All-cons (IsWriteIn shape row) (entry_in request own buffer index) [] mine (All-nil (IsWriteIn shape row))) (refl, tt)
    (subst (AllByRecursion (IsWaiting (state_of s))) (sym back) (waits, tt))
    (task_of_writes shape request own buffer [] writes (subst (IsPermutation (request ∷ [])) (sym back) (IsPermutation-refl (request ∷ [])))))
