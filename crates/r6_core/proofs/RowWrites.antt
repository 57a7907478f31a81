-- The writes that one hold is to serve are put together, index by index of the row.
use Rattle.std.proofs.Common.{◌≡◌, ◌≢◌, ◌⊎◌, inl, inr, ℕ, ◌+◌, ◌<◌, ◌||◌, Bool, true, false, List, [], ◌∷◌, ◌++◌, map, refl, sym, ap, subst, ◌∙◌, Option, Some, None, All, IsPermutation, arith}
use Rattle.std.specs.Prelude.{◌==◌, if◌then◌else◌}
use Rattle.std.specs.List.{AllByRecursion}
use Rattle.std.proofs.lemmas.Bool.{cases_eq, eq-eqb, ne_eqb, eqb-true}
use Rattle.std.proofs.lemmas.List.Elements.{All-cons, All-nil, All-head, All-tail}
use Rattle.r6_kernels.specs.Blocks.{IsBlock}
use Rattle.r6_layout.specs.Shape.{Shape, IsShape, blocks, data_slots}
use Rattle.r6_layout.specs.Layout as layout
use Rattle.r6_layout.proofs.Places.{row_of-block_at, index_of-block_at}
use Rattle.r6_stripe.specs.BatchLists.{AreDistinct}
use Rattle.r6_world.specs.PlainArray as world
use Rattle.r6_layout.specs.PlainArray.{Block}
use Rattle.r6_world.specs.Geometries.{layout_of}
use Rattle.r6_world.specs.Tasks.{WriteFor, is_written}
use Rattle.r6_world.specs.ShardStates.{Shard}
use Rattle.r6_world.specs.Changes.{Batch}
use Rattle.r6_world.specs.declared.values.Op.{Op}
use Rattle.r6_world.specs.declared.values.Op.TheVariants as op
use Rattle.r6_core.specs.declared.queued.Queued.{Queued}
use Rattle.r6_frames.specs.FramesState.{FramesState}
use Rattle.r6_world.specs.Values.{op_of, buffer_of}
use Rattle.r6_frames.specs.Writes.{Entry, IsWriteIn, blocks_in, has_index, write_of, write_task}
use Rattle.r6_waiters.specs.Line.{Entries, is_key, oldest_keyed, without_oldest_keyed}
use Rattle.r6_core.specs.Batches.{block_written, entries_left, others_of, joined}
use Rattle.r6_core.specs.Inside.{IsQueuedOf, waited}
use Rattle.r6_core.specs.Turns.{IsWaiting, IsTaskOf, write_for}
use Rattle.r6_core.proofs.Joined.{key_of, oldest_in, values}
use Rattle.r6_core.proofs.Unerred.{write_unerred}
use Rattle.r6_core.proofs.RowJoined.{IsJoining, joining_first, joining_last, joining_next, joining_own}

-- ---- what is found by its key

module _ (key : ℕ) where
  pub found_key : (es : Entries Queued) (r : Queued) → oldest_keyed key_of key es ≡ Some r → key_of r ≡ Some key
  found_key [] r is = absurd (cc is)
  found_key (entry ∷ es) r is = elim (key_of entry.1) as (λ k. key_of entry.1 ≡ k → (if is_key key k then Some entry.1 else oldest_keyed key_of key es) ≡ Some r → key_of r ≡ Some key) [
    | None ↦ λ e found. found_key es r found
    | Some other ↦ λ e. elim (other == key) as (λ b. other == key ≡ b → (if b then Some entry.1 else oldest_keyed key_of key es) ≡ Some r → key_of r ≡ Some key) [
      | true ↦ λ same found. let one : entry.1 ≡ r = cc in ap key_of (sym one) ∙ e ∙ ap Some (eqb-true other key same)
      | false ↦ λ ne found. found_key es r found
    ] refl
  ] refl is

  -- what is true of all
  pub found_all : (Fact : ℕ × Queued → Type 0) (es : Entries Queued) → AllByRecursion Fact es → AllByRecursion Fact (without_oldest_keyed key_of key es)
  found_all Fact [] all = tt
  found_all Fact (entry ∷ es) all = elim (is_key key (key_of entry.1)) as (λ b. AllByRecursion Fact (if b then es else entry ∷ without_oldest_keyed key_of key es)) [
    | true ↦ all.1
    | false ↦ (all.0, found_all Fact es all.1)
  ]

  pub found_one : (Fact : Queued → Type 0) (es : Entries Queued) (r : Queued) → AllByRecursion (λ entry. Fact entry.1) es → oldest_keyed key_of key es ≡ Some r → Fact r
  found_one Fact [] r all is = absurd (cc is)
  found_one Fact (entry ∷ es) r all is = elim (is_key key (key_of entry.1)) as (λ b. (if b then Some entry.1 else oldest_keyed key_of key es) ≡ Some r → Fact r) [
    | true ↦ λ found. let one : entry.1 ≡ r = cc in subst Fact one all.0
    | false ↦ λ found. found_one Fact es r all.1 found
  ] is

written_block : (o : Op) (block : ℕ) → block_written o ≡ Some block → world.block_of (op_of o) ≡ block
written_block (op.Read own buffer) block is = absurd (cc is)
written_block (op.Write own buffer) block is = cc

-- ---- the writes of a row

-- the request as a write
abbrev pub entry_in : Queued → (block : ℕ) → Block → (index : ℕ) → Entry
entry_in request block new_data index =
    record { served = record { id = request.id; block = block }; index = index; new_data = new_data }

pub entry_back : (request : Queued) (block : ℕ) (new_data : Block) (index : ℕ) → request.op ≡ op.Write block new_data → request.erred ≡ false
    → waited (entry_in request block new_data index) ≡ request
entry_back request block new_data index is plain = λ i. record { id = request.id; op = sym is i; erred = sym plain i }

abbrev IsBefore : Shape → (own index : ℕ) → Entry → Type 0
IsBefore shape own index write = (write.index < index) ⊎ (write.index ≡ layout.index_of shape own)

-- Of the indices before this one the oldest write that waited was put to the request's own
pub record WritesSoFar (fs : FramesState) (row own : ℕ) (request : Queued) (line : Entries Queued) (index : ℕ) (found : List Entry) (now : Entries Queued) : Type 0 where
  pub joining : IsJoining fs.geometry row own request line index (map waited found) now
  pub some : found ≢ []
  pub writes : All (IsWriteIn fs.geometry row) found
  pub distinct : AreDistinct (blocks_in found)
  pub before : AllByRecursion (IsBefore fs.geometry own index) found
  pub asked : AllByRecursion (λ entry. IsQueuedOf fs entry.1) now

before_more : (shape : Shape) (own index : ℕ) (writes : List Entry) → AllByRecursion (IsBefore shape own index) writes → AllByRecursion (IsBefore shape own (index + 1)) writes
before_more shape own index [] all = tt
before_more shape own index (write ∷ writes) all = (elim all.0 [ inl lt ↦ inl (omega (arith, lt)) | inr same ↦ inr same ], before_more shape own index writes all.1)

-- the index has no write yet
pub index_is_new : (shape : Shape) (own index : ℕ) (writes : List Entry) → AllByRecursion (IsBefore shape own index) writes → layout.index_of shape own ≢ index → has_index writes index ≡ false
index_is_new shape own index [] all ne = refl
index_is_new shape own index (write ∷ writes) all ne =
    ap (λ (b : Bool). b || has_index writes index) (ne_eqb write.index index (elim all.0 [ inl lt ↦ (λ same. omega (arith, lt, same)) | inr is ↦ (λ same. ne (sym is ∙ same)) ]))
    ∙ index_is_new shape own index writes all.1 ne

module _ (fs : FramesState) (is_shape : IsShape fs.geometry) (row own : ℕ) (request : Queued) (line : Entries Queued) where
  pub so_far_first : (new_data : Block) → request.op ≡ op.Write own new_data → layout.row_of fs.geometry own ≡ row → IsQueuedOf fs request → AllByRecursion (λ entry. IsQueuedOf fs entry.1) line
      → WritesSoFar fs row own request line 0 (entry_in request own new_data (layout.index_of fs.geometry own) ∷ []) line
  so_far_first new_data is in_row fits all =
      record {
        joining = subst (λ r. IsJoining fs.geometry row own request line 0 (r ∷ []) line) (sym (entry_back request own new_data (layout.index_of fs.geometry own) is (write_unerred fs request own fits (ap block_written is)))) (joining_first fs.geometry is_shape row own request line);
        some = λ e. (cc e);
        writes = All-cons (IsWriteIn fs.geometry row) (entry_in request own new_data (layout.index_of fs.geometry own)) [] (record {
          there = subst (λ o. world.block_of (op_of o) < blocks fs.geometry) is fits.request.there;
          in_row = sym in_row;
          index = refl;
          sized = subst (λ o. IsBlock fs.geometry.block (buffer_of o)) is fits.request.sized;
        }) (All-nil (IsWriteIn fs.geometry row));
        distinct = (refl, tt);
        before = (inr refl, tt);
        asked = all;
      }

  module _ (index : ℕ) (writes : List Entry) (now : Entries Queued) (is : WritesSoFar fs row own request line index writes now) where
    -- the own index is passed over
    pub so_far_own : layout.row_of fs.geometry own ≡ row → layout.index_of fs.geometry own ≡ index → WritesSoFar fs row own request line (index + 1) writes now
    so_far_own in_row at =
        record {
          joining = joining_own fs.geometry is_shape row own request line index (map waited writes) now is.joining in_row at;
          some = is.some;
          writes = is.writes;
          distinct = is.distinct;
          before = before_more fs.geometry own index writes is.before;
          asked = is.asked;
        }

    module _ (below : index < data_slots fs.geometry) (apart : layout.index_of fs.geometry own ≢ index) where
      abbrev block : ℕ
      block = layout.block_at fs.geometry row index

      abbrev later : Entries Queued
      later = without_oldest_keyed key_of block now

      pub so_far_new : has_index writes index ≡ false
      so_far_new = index_is_new fs.geometry own index writes is.before apart

      next : IsJoining fs.geometry row own request line (index + 1) (oldest_in block now ++ map waited writes) later
      next = joining_next fs.geometry is_shape row own request line index (map waited writes) now is.joining below apart

      -- no write waits for the block
      pub so_far_none : oldest_keyed key_of block now ≡ None → WritesSoFar fs row own request line (index + 1) writes later
      so_far_none none =
          record {
            joining = subst (λ (o : Option Queued). IsJoining fs.geometry row own request line (index + 1) (Rattle.std.specs.Prelude.option_to_list o ++ map waited writes) later) none next;
            some = is.some;
            writes = is.writes;
            distinct = is.distinct;
            before = before_more fs.geometry own index writes is.before;
            asked = found_all block (λ entry. IsQueuedOf fs entry.1) now is.asked;
          }

      -- one does
      pub so_far_found : (r : Queued) (of : ℕ) (new_data : Block) → oldest_keyed key_of block now ≡ Some r → r.op ≡ op.Write of new_data
          → WritesSoFar fs row own request line (index + 1) (entry_in r of new_data index ∷ writes) later
      so_far_found r of new_data found writes_it =
          let fits = found_one block (IsQueuedOf fs) now r is.asked found in
          let same : of ≡ block =
          ap (λ o. world.block_of (op_of o)) (sym writes_it) ∙ written_block r.op block (found_key block now r found) in
          record {
            joining = subst (λ x. IsJoining fs.geometry row own request line (index + 1) (x ∷ map waited writes) later) (sym (entry_back r of new_data index writes_it (write_unerred fs r of fits (ap block_written writes_it))))
                (subst (λ (o : Option Queued). IsJoining fs.geometry row own request line (index + 1) (Rattle.std.specs.Prelude.option_to_list o ++ map waited writes) later) found next);
            some = λ e. (cc e);
            writes = All-cons (IsWriteIn fs.geometry row) (entry_in r of new_data index) writes (record {
              there = subst (λ o. world.block_of (op_of o) < blocks fs.geometry) writes_it fits.request.there;
              in_row = sym (ap (layout.row_of fs.geometry) same ∙ row_of-block_at fs.geometry row index is_shape below);
              index = sym (ap (layout.index_of fs.geometry) same ∙ index_of-block_at fs.geometry row index is_shape below);
              sized = subst (λ o. IsBlock fs.geometry.block (buffer_of o)) writes_it fits.request.sized;
            }) is.writes;
            distinct = (so_far_new, is.distinct);
            before = (inl (omega arith), before_more fs.geometry own index writes is.before);
            asked = found_all block (λ entry. IsQueuedOf fs entry.1) now is.asked;
          }

  -- all indices are through
  pub so_far_last : (writes : List Entry) (now : Entries Queued) → WritesSoFar fs row own request line (data_slots fs.geometry) writes now
      → IsPermutation (request ∷ joined (others_of (layout_of fs.geometry) row own) (values line)) (map waited writes) × (now ≡ entries_left (others_of (layout_of fs.geometry) row own) line)
  so_far_last writes now is = joining_last fs.geometry is_shape row own request line (map waited writes) now is.joining

-- ---- what their hold is for, by the world

pub writes_for : (writes : List Entry) → map write_for (map waited writes) ≡ map write_of writes
writes_for [] = refl
writes_for (write ∷ writes) = ap (λ (ws : List _). write_of write ∷ ws) (writes_for writes)

pub task_of_writes : (shape : Shape) (request : Queued) (own : ℕ) (new_data : Block) (others : List Queued) (writes : List Entry)
    → IsPermutation (request ∷ joined (others_of (layout_of shape) (layout.row_of shape own) own) others) (map waited writes)
    → IsTaskOf (layout_of shape) request (op.Write own new_data) others (write_task writes)
task_of_writes shape request own new_data others writes same = (map waited writes, same, ap WriteFor (sym (writes_for writes)))

module _ (shape : Shape) (row : ℕ) (s : Shard) where
  not_written : (write : Entry) (writes : List Entry) → IsWriteIn shape row write → All (IsWriteIn shape row) writes → has_index writes write.index ≡ false → is_written (map write_of writes) write.served.block ≡ false
  not_written write [] one all new = refl
  not_written write (other ∷ writes) one all new = elim (cases_eq write.served.block other.served.block) [
    | inl same ↦
        let index : other.index ≡ write.index = (let first : IsWriteIn shape row other = All-head (IsWriteIn shape row) other writes all in first.index) ∙ ap (layout.index_of shape) (sym same) ∙ sym one.index in
        let there : has_index (other ∷ writes) write.index ≡ true = ap (λ (b : Bool). b || has_index writes write.index) (eq-eqb other.index write.index index) in
        absurd (let both : true ≡ false = sym there ∙ new in cc both)
    | inr ne ↦
        ap (λ (b : Bool). b || is_written (map write_of writes) write.served.block) (ne_eqb write.served.block other.served.block ne)
        ∙ not_written write writes one (All-tail (IsWriteIn shape row) other writes all) (later (other.index == write.index) (has_index writes write.index) new)
  ]
    where
      later : (a b : Bool) → (a || b) ≡ false → b ≡ false
      later true b is = absurd (cc is)
      later false b is = is

  pub batch_of_writes : (writes : List Entry) → All (IsWriteIn shape row) writes → AreDistinct (blocks_in writes) → AllByRecursion (IsWaiting s) (map waited writes)
      → Batch (layout_of shape) s row (map write_of writes)
  batch_of_writes [] all distinct wait = record {}
  batch_of_writes (write ∷ writes) all distinct wait =
      let one : IsWriteIn shape row write = All-head (IsWriteIn shape row) write writes all in
      let rest : All (IsWriteIn shape row) writes = All-tail (IsWriteIn shape row) write writes all in (
        wait.0,
        sym one.in_row,
        not_written write writes one rest distinct.0,
        batch_of_writes writes rest distinct.1 wait.1,
      )
