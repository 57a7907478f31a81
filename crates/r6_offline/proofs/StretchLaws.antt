-- Rows of one chunk that are read at once, and what is found of them.
use Rattle.std.proofs.Common.{◌≡◌, ◌≢◌, ℕ, zero, suc, ◌+◌, ◌-◌, ◌*◌, ◌/◌, ◌%◌, ◌<◌, ◌≤◌, Bool, true, false, List, [], length, get_or, set, is_some, Option, Some, None, sym, ap, subst, ◌∙◌, ⊎_elim, arith}
use Rattle.std.specs.Prelude.{IsTrue, MatchBool, option_map}
use Rattle.std.specs.List.{All}
use Rattle.std.proofs.lemmas.Bool.{cases_eq, false≢true}
use Rattle.std.proofs.lemmas.List.{get_or-map, get_or_default, get_or-set_other, get_or-set_same, length-map}
use Rattle.std.proofs.lemmas.Nat.{div-add-mod', div-mul-add, row_fits}
use Rattle.r6_kernels.specs.Blocks.{piece}
use Rattle.r6_dev.specs.History.{AnswersAtOnce, AreTogether, Block, Telling}
use Rattle.r6_layout.specs.Shape.{Shape, IsShape, chunk_rows}
use Rattle.r6_layout.specs.Layout.{OwnsRow, chunk_row_of, p_slot, position_at, shard_of, slot_at, first_row}
use Rattle.r6_layout.proofs.Roles.{position_at-lt, slot_at-lt, slot_at-position_at}
use Rattle.r6_layout.proofs.Shards.{OwnsRow-shard_of}
use Rattle.r6_recover.specs.Classes.{HasClass}
use Rattle.r6_recover.specs.Rows.{block_at, block_length, pieces_of}
use Rattle.r6_recover.specs.declared.class.RowClass.TheVariants.{Consistent}
use Rattle.r6_recover.proofs.PieceLaws.{pieces_consistent}
use Rattle.r6_offline.specs.Parts.{AllTell, Devices, OnlyRead, Parts, TellsRows, part_number, parts_of}
use Rattle.r6_offline.specs.Reports.{IsFinding}
use Rattle.r6_offline.specs.Rows.{AreThere, IsRow}
use Rattle.r6_offline.specs.Stretches.{AreOfOneChunk, PartRowsRead, PositionRead, PositionsRead}
use Rattle.r6_offline.proofs.RowLaws.{all_tell_still, only_read_set}

-- ---- one part

tells_after : (old new : Telling) (row count : ℕ) (bytes : List ℕ) (read : Bool) → MatchBool read (AnswersAtOnce old row count bytes new) (new ≡ old)
    → (first end : ℕ) (blocks : ℕ → Block) → TellsRows first end blocks (Some old) → TellsRows first end blocks (Some new)
tells_after None new row count bytes read answers first end blocks tells = absurd tells
tells_after (Some told) new row count bytes true answers first end blocks tells = subst (λ (t : Telling). TellsRows first end blocks (Some t)) (sym answers.1) tells
tells_after (Some told) new row count bytes false answers first end blocks tells = subst (λ (t : Telling). TellsRows first end blocks (Some t)) (sym answers) tells

together : (old new : Telling) (row count : ℕ) (bytes : List ℕ) (first end : ℕ) (blocks : ℕ → Block) → AnswersAtOnce old row count bytes new
    → first ≤ row → row + count ≤ end → TellsRows first end blocks (Some old) → AreTogether blocks row count bytes
together None new row count bytes first end blocks answers from to tells = absurd tells
together (Some told) new row count bytes first end blocks answers from to tells =
    λ len index long below. answers.0 len index long below ∙ tells (row + index) (omega (arith, from)) (omega (arith, below, to))

when_true : (answer : Bool) (P Q : Type 0) → MatchBool answer P Q → IsTrue answer → P
when_true true P Q p yes' = p
when_true false P Q q yes' = absurd (false≢true yes')

module _ {D : Type 0} (told : D → Telling) (parts : List (Option D)) (number row count : ℕ) (bytes : List ℕ) (device next : D) (read : Bool)
    (within : number < length parts) (is : get_or parts number None ≡ Some device)
    (answers : MatchBool read (AnswersAtOnce (told device) row count bytes (told next)) (told next ≡ told device)) where
  pub part_only_read : OnlyRead (parts_of told parts) (parts_of told (set parts number (Some next)))
  part_only_read = only_read_set told parts number device next within is (tells_after (told device) (told next) row count bytes read answers)

  pub part_rows_read : IsTrue read → PartRowsRead (parts_of told parts) number row count bytes
  part_rows_read yes' =
      let was : parts_of told parts number ≡ Some (told device) = ap (option_map told) is in
      record {
        is_there = ap is_some was;
        gives = λ first end blocks from to tells.
            together (told device) (told next) row count bytes first end blocks (when_true read _ _ answers yes') from to
            (subst (TellsRows first end blocks) was tells);
      }

-- ---- rows of one chunk

chunk_row_same : (shape : Shape) (row count index : ℕ) → AreOfOneChunk shape row count → index < count → chunk_row_of shape (row + index) ≡ chunk_row_of shape row
chunk_row_same shape row count index one below =
    let split = div-add-mod' row shape.chunk in
    let place : row + index ≡ row / shape.chunk * shape.chunk + (row % shape.chunk + index) = omega (arith, split) in
    ap (λ (n : ℕ). n / shape.chunk) place ∙ div-mul-add (row / shape.chunk) shape.chunk (row % shape.chunk + index) (omega (arith, one, below))

shard_same : (shape : Shape) (row count index : ℕ) → AreOfOneChunk shape row count → index < count → shard_of shape (row + index) ≡ shard_of shape row
shard_same shape row count index one below =
    ap (λ (n : ℕ). ((n + 1) * shape.shards - 1) / chunk_rows shape) (chunk_row_same shape row count index one below)

pub slot_same : (shape : Shape) (row count index position : ℕ) → AreOfOneChunk shape row count → index < count
    → slot_at shape (row + index) position ≡ slot_at shape row position
slot_same shape row count index position one below =
    ap (λ (n : ℕ). (p_slot shape.slots n + 2 + position) % shape.slots) (chunk_row_same shape row count index one below)

-- they are rows of one shard
shard_has : (shape : Shape) (row count : ℕ) → IsShape shape → AreOfOneChunk shape row count → 0 < count → row + count ≤ shape.rows
    → row + count ≤ first_row shape (shard_of shape row + 1)
shard_has shape row zero is one some within = absurd (omega (arith, some))
shard_has shape row (suc n) is one some within =
    let owner : OwnsRow shape (shard_of shape (row + n)) (row + n) = OwnsRow-shard_of shape (row + n) is (omega (arith, within)) in
    let below : row + n < first_row shape (shard_of shape row + 1) =
    subst (λ (shard : ℕ). row + n < first_row shape (shard + 1)) (shard_same shape row (suc n) n one (omega arith)) owner.below_next in
    omega (arith, below)

-- ---- what was read of them

pub position_read : (shape : Shape) (parts : Parts) (row count position number : ℕ) (bytes : List ℕ) → IsShape shape → AreOfOneChunk shape row count → 0 < count
    → row + count ≤ shape.rows → number ≡ part_number shape (shard_of shape row) (slot_at shape row position)
    → PartRowsRead parts number row count bytes → PositionRead shape parts row count position bytes
position_read shape parts row count position number bytes is one some within at read =
    let owner : OwnsRow shape (shard_of shape row) row = OwnsRow-shard_of shape row is (omega (arith, some, within)) in
    let in_slots : slot_at shape row position < shape.slots = slot_at-lt shape row position (omega (arith, is.slots_allowed.0)) in
    record {
      is_there = ap (λ (n : ℕ). is_some (parts n)) (sym at) ∙ read.is_there;
      gives = λ device tell.
          read.gives (first_row shape (shard_of shape row)) (first_row shape (shard_of shape row + 1)) (device (slot_at shape row position))
          owner.from_first (shard_has shape row count is one some within)
          (subst (λ (n : ℕ). TellsRows (first_row shape (shard_of shape row)) (first_row shape (shard_of shape row + 1)) (device (slot_at shape row position)) (parts n))
          (sym at) (tell (shard_of shape row) (slot_at shape row position) owner.is_shard in_slots));
    }

-- read from the parts as they were before
pub position_since : (shape : Shape) (old now : Parts) (row count position : ℕ) (bytes : List ℕ) → OnlyRead old now
    → PositionRead shape now row count position bytes → PositionRead shape old row count position bytes
position_since shape old now row count position bytes read is = record {
  is_there = sym (read.there (part_number shape (shard_of shape row) (slot_at shape row position))) ∙ is.is_there;
  gives = λ device tell. is.gives device (all_tell_still shape old now device read tell);
}

-- one position more
pub positions_next : (shape : Shape) (parts : Parts) (row count position : ℕ) (blocks : List Block) (bytes : List ℕ) → position < length blocks
    → PositionsRead shape parts row count position blocks → PositionRead shape parts row count position bytes
    → PositionsRead shape parts row count (position + 1) (set blocks position bytes)
positions_next shape parts row count position blocks bytes within so_far read k below =
    ⊎_elim
    (λ (here : k ≡ position).
    subst (λ (n : ℕ). PositionRead shape parts row count n (block_at (set blocks position bytes) n)) (sym here)
    (subst (PositionRead shape parts row count position) (sym (get_or-set_same blocks position bytes [] within)) read))
    (λ (apart : k ≢ position).
    subst (PositionRead shape parts row count k) (sym (get_or-set_other blocks position k bytes [] apart)) (so_far k (omega (arith, below, apart))))
    (cases_eq k position)

-- the blocks keep their length
pub long_set : (blocks : List Block) (position slots long : ℕ) (bytes : Block) → length blocks ≡ slots → length bytes ≡ long
    → ((k : ℕ) → k < slots → length (block_at blocks k) ≡ long) → (k : ℕ) → k < slots → length (block_at (set blocks position bytes) k) ≡ long
long_set blocks position slots long bytes count is each k below =
    ⊎_elim
    (λ (here : k ≡ position).
    let within : position < length blocks = omega (arith, here, below, count) in
    ap (λ (n : ℕ). length (block_at (set blocks position bytes) n)) here ∙ ap length (get_or-set_same blocks position bytes [] within) ∙ is)
    (λ (apart : k ≢ position). ap length (get_or-set_other blocks position k bytes [] apart) ∙ each k below)
    (cases_eq k position)

pub one_length : (blocks : List Block) (slots long : ℕ) → length blocks ≡ slots → ((k : ℕ) → k < slots → length (block_at blocks k) ≡ long)
    → All (λ block. length block ≡ block_length blocks) blocks
one_length blocks slots long count each k d below =
    ap length (get_or_default blocks k d [] below) ∙ each k (omega (arith, below, count)) ∙ sym (each 0 (omega (arith, below, count)))

-- ---- what is found of them

module _ (shape : Shape) (parts : Parts) (row count : ℕ) (blocks : List Block) (is : IsShape shape) (one : AreOfOneChunk shape row count)
    (slots : length blocks ≡ shape.slots) (long : (position : ℕ) → position < shape.slots → length (block_at blocks position) ≡ count * shape.block)
    (read : PositionsRead shape parts row count shape.slots blocks) (class : HasClass blocks Consistent) where
  are_there : (index : ℕ) → index < count → AreThere shape parts (row + index)
  are_there index below slot in_slots =
      let position : ℕ = position_at shape row slot in
      let there = (read position (position_at-lt shape row slot (omega (arith, in_slots)))).is_there in
      ap (λ (shard : ℕ). is_some (parts (part_number shape shard slot))) (shard_same shape row count index one below)
      ∙ ap (λ (s : ℕ). is_some (parts (part_number shape (shard_of shape row) s))) (sym (slot_at-position_at shape row slot in_slots))
      ∙ there

  is_row : (index : ℕ) → index < count → (device : Devices) → AllTell shape parts device
      → IsRow shape device (row + index) (pieces_of (index * shape.block) shape.block blocks)
  is_row index below device tell = record {
    count = length-map blocks (piece (index * shape.block) shape.block) ∙ slots;
    each = λ position within.
        get_or-map (piece (index * shape.block) shape.block) blocks position [] [] (omega (arith, within, slots))
        ∙ (read position within).gives device tell shape.block index (long position within) below
        ∙ ap (λ (slot : ℕ). device slot (row + index)) (sym (slot_same shape row count index position one below));
  }

  found_at : (index : ℕ) → index < count → IsFinding shape parts (row + index) (Some Consistent)
  found_at index below =
      let least : 2 ≤ length blocks = omega (arith, slots, is.slots_allowed.0) in
      let fits = row_fits index shape.block count shape.block below (omega arith) in
      let whole = long 0 (omega (arith, is.slots_allowed.0)) in (
        are_there index below,
        λ device tell. (
          pieces_of (index * shape.block) shape.block blocks,
          is_row index below device tell,
          pieces_consistent (index * shape.block) shape.block blocks least (omega (arith, fits, whole)) class,
        ),
      )

  pub found_consistent : (at : ℕ) → row ≤ at → at < row + count → IsFinding shape parts at (Some Consistent)
  found_consistent at from below =
      let place : row + (at - row) ≡ at = omega (arith, from) in
      subst (λ (r : ℕ). IsFinding shape parts r (Some Consistent)) place (found_at (at - row) (omega (arith, from, below)))
