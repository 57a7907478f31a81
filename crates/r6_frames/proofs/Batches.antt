-- Writes by their requests and their new blocks, and what the hold of them is asked to do.
use Rattle.std.proofs.Common.{◌≡◌, ℕ, ◌<◌, true, false, List, [], ◌∷◌, map, length, refl, sym, ap, subst, ◌∙◌, inl, inr, arith}
use Rattle.std.specs.Prelude.{◌||◌, ◌==◌, Bool}
use Rattle.std.specs.List.{All}
use Rattle.std.proofs.lemmas.Bool.{eq-eqb}
use Rattle.std.proofs.lemmas.List.Elements.{All-cons, All-nil, All-head, All-tail}
use Rattle.r6_layout.specs.Shape.{Shape, IsShape, data_slots}
use Rattle.r6_stripe.specs.Batches.{IsEntryFor}
use Rattle.r6_stripe.specs.BatchLists.{AreDistinct}
use Rattle.r6_stripe.specs.Holds.{IsBatch, IsIndexOf, Kind}
use Rattle.r6_stripe.specs.Plans.{names}
use Rattle.r6_world.specs.Geometries.{layout_of}
use Rattle.r6_layout.specs.PlainArray.{Block}
use Rattle.r6_world.specs.ShardStates as shards
use Rattle.r6_world.specs.Tasks.{batch_of}
use Rattle.r6_world.proofs.Geometries.{layouts}
use Rattle.r6_frames.specs.declared.frames.ServedRequest.{ServedRequest}
use Rattle.r6_world.specs.declared.values.Request.{Request}
use Rattle.r6_frames.specs.declared.finish.Ended.TheVariants as ended
use Rattle.r6_frames.specs.declared.frames.HeldRow.{HeldRow}
use Rattle.r6_frames.specs.declared.frames.Job.TheVariants as job
use Rattle.r6_world.specs.Values.{numbered}
use Rattle.r6_frames.specs.Views.{batch_in, held_entry, kind_in}
use Rattle.r6_frames.specs.Calls.{HasOneBlock, IsEndedOf, entry_of}
use Rattle.r6_frames.specs.Sound.{IsJob}
use Rattle.r6_frames.specs.Writes.{Entry, IsWriteIn, blocks_in, entries_of, request_of, served_in, write_of}

-- ---- side by side

pub served_long : (writes : List Entry) → length (served_in writes) ≡ length writes
served_long [] = refl
served_long (write ∷ writes) = omega (arith, served_long writes)

pub blocks_long : (writes : List Entry) → length (blocks_in writes) ≡ length writes
blocks_long [] = refl
blocks_long (write ∷ writes) = omega (arith, blocks_long writes)

pub entries_back : (writes : List Entry) → entries_of (served_in writes) (blocks_in writes) ≡ writes
entries_back [] = refl
entries_back (write ∷ writes) = ap (λ (rest : List Entry). write ∷ rest) (entries_back writes)

pub served_back : (served : List ServedRequest) (blocks : List (ℕ × Block)) → length served ≡ length blocks → served_in (entries_of served blocks) ≡ served
served_back [] blocks same = refl
served_back (one ∷ served) [] same = absurd (omega (arith, same))
served_back (one ∷ served) (block ∷ blocks) same = ap (λ (rest : List ServedRequest). one ∷ rest) (served_back served blocks (omega (arith, same)))

pub blocks_back : (served : List ServedRequest) (blocks : List (ℕ × Block)) → length served ≡ length blocks → blocks_in (entries_of served blocks) ≡ blocks
blocks_back [] [] same = refl
blocks_back [] (block ∷ blocks) same = absurd (omega (arith, same))
blocks_back (one ∷ served) [] same = absurd (omega (arith, same))
blocks_back (one ∷ served) (block ∷ blocks) same = ap (λ (rest : List (ℕ × Block)). block ∷ rest) (blocks_back served blocks (omega (arith, same)))

-- the blocks of what stands for them, so
pub blocks_as : (served : List ServedRequest) (blocks : List (ℕ × Block)) (writes : List Entry) → length served ≡ length blocks → entries_of served blocks ≡ writes → blocks ≡ blocks_in writes
blocks_as served blocks writes same view = sym (blocks_back served blocks same) ∙ ap blocks_in view

-- there are none as there are no blocks
pub none_as : (served : List ServedRequest) (blocks : List (ℕ × Block)) → length served ≡ length blocks → blocks ≡ [] → entries_of served blocks ≡ []
none_as [] blocks same none = refl
none_as (one ∷ served) [] same none = absurd (omega (arith, same))
none_as (one ∷ served) (block ∷ blocks) same none = absurd (omega (arith, ap length none))

pub blocks_none : (served : List ServedRequest) (blocks : List (ℕ × Block)) → length served ≡ length blocks → entries_of served blocks ≡ [] → blocks ≡ []
blocks_none [] [] same none = refl
blocks_none [] (block ∷ blocks) same none = absurd (omega (arith, same))
blocks_none (one ∷ served) [] same none = absurd (omega (arith, same))
blocks_none (one ∷ served) (block ∷ blocks) same none = absurd (omega (arith, ap length none))

-- ---- their requests

pub entries_held : (frame : ℕ) (requests : List Request) → map (held_entry frame) (map numbered requests) ≡ map (entry_of frame) requests
entries_held frame [] = refl
entries_held frame (r ∷ requests) = ap (λ (rest : List (ℕ × shards.Request)). entry_of frame r ∷ rest) (entries_held frame requests)

-- each has one block
pub all_one_block : (shape : Shape) (row : ℕ) (writes other : List Entry) → All (IsWriteIn shape row) writes → blocks_in other ≡ blocks_in writes → All (HasOneBlock shape) (map request_of other)
all_one_block shape row writes [] all same = All-nil (HasOneBlock shape)
all_one_block shape row [] (one ∷ other) all same = absurd (omega (arith, ap length same))
all_one_block shape row (write ∷ writes) (one ∷ other) all same =
    let sized = (All-head (IsWriteIn shape row) write writes all).sized.length_is in
    let head : ◌≡◌ {A = ℕ × Block} (one.index, one.new_data) (write.index, write.new_data) = cc in
    let first = ap (λ (block : ℕ × Block). block.1) head in
    let rest : blocks_in other ≡ blocks_in writes = cc in
    All-cons (HasOneBlock shape) (request_of one) (map request_of other) (ap length first ∙ sized)
    (all_one_block shape row writes other (All-tail (IsWriteIn shape row) write writes all) rest)

-- ---- what the hold is asked to do

-- the indices are those of the blocks
pub batch_is : (shape : Shape) (row : ℕ) (writes : List Entry) → All (IsWriteIn shape row) writes → batch_of (layout_of shape) (map write_of writes) ≡ blocks_in writes
batch_is shape row [] all = refl
batch_is shape row (write ∷ writes) all =
    let first = All-head (IsWriteIn shape row) write writes all in
    let rest = batch_is shape row writes (All-tail (IsWriteIn shape row) write writes all) in
    λ i. (sym first.index i, write.new_data) ∷ rest i

-- the index is one of the row's data
pub index_within : (shape : Shape) (row : ℕ) (write : Entry) → IsShape shape → IsWriteIn shape row write → write.index < data_slots shape
index_within shape row write lawful own =
    let placed = (layouts shape lawful).placed write.served.block own.there in
    subst (λ (index : ℕ). index < data_slots shape) (sym own.index) placed.1

pub fit_row : (shape : Shape) (row : ℕ) (writes : List Entry) → IsShape shape → All (IsWriteIn shape row) writes → All (IsEntryFor shape.slots shape.block) (blocks_in writes)
fit_row shape row [] lawful all = All-nil (IsEntryFor shape.slots shape.block)
fit_row shape row (write ∷ writes) lawful all =
    let first = All-head (IsWriteIn shape row) write writes all in
    let inside = index_within shape row write lawful first in
    All-cons (IsEntryFor shape.slots shape.block) (write.index, write.new_data) (blocks_in writes) (omega (arith, inside), first.sized.length_is)
    (fit_row shape row writes lawful (All-tail (IsWriteIn shape row) write writes all))

-- an index that is named is one of the blocks'
index_named : (index : ℕ) (batch : List (ℕ × Block)) → IsIndexOf index batch → names batch index ≡ true
index_named index [] named = absurd named
index_named index (entry ∷ rest) (inl here) = ap (λ (b : Bool). b || names rest index) (eq-eqb entry.0 index here)
index_named index (entry ∷ rest) (inr later) = ap (λ (b : Bool). (entry.0 == index) || b) (index_named index rest later) ∙ either (entry.0 == index)
  where
    either : (b : Bool) → (b || true) ≡ true
    either true = refl
    either false = refl

pub are_batch : (shape : Shape) (row : ℕ) (writes : List Entry) → IsShape shape → All (IsWriteIn shape row) writes → AreDistinct (blocks_in writes) → IsBatch (data_slots shape) shape.block (blocks_in writes)
are_batch shape row [] lawful all distinct = tt
are_batch shape row (write ∷ writes) lawful all distinct =
    let first = All-head (IsWriteIn shape row) write writes all in (
      index_within shape row write lawful first,
      first.sized,
      λ named. let there = index_named write.index (blocks_in writes) named in let apart = distinct.0 in cc,
      are_batch shape row writes lawful (All-tail (IsWriteIn shape row) write writes all) distinct.1,
    )

-- ---- what comes back of a hold that writes

module _ (shape : Shape) (row : ℕ) (served : List ServedRequest) (kind : Kind) (blocks : List (ℕ × Block)) (mine : IsJob shape row (job.Write served) kind) (same : Kind.Write blocks ≡ kind) where
  blocks_are : blocks ≡ blocks_in mine.0
  blocks_are = ap batch_in (same ∙ mine.2)

  pub back_side_by_side : length served ≡ length blocks
  back_side_by_side = ap length mine.1 ∙ served_long mine.0 ∙ sym (blocks_long mine.0) ∙ ap length (sym blocks_are)

-- and whose writes they are
pub ended_writes : (h : HeldRow) (served : List ServedRequest) (blocks : List (ℕ × Block)) → length served ≡ length blocks → h.job ≡ job.Write served → Kind.Write blocks ≡ kind_in h → IsEndedOf h (ended.Wrote (entries_of served blocks))
ended_writes h served blocks long is_job same = (is_job ∙ ap job.Write (sym (served_back served blocks long)), sym same ∙ ap Kind.Write (sym (blocks_back served blocks long)))
