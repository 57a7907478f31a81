-- Full rows put together are one full row of longer blocks, so that the pieces of what is restored of it are theirs.
use Rattle.std.proofs.Common.{◌≡◌, ◌≢◌, ℕ, zero, suc, ◌+◌, ◌-◌, ◌*◌, ◌<◌, ◌≤◌, Bool, true, false, List, [], ◌∷◌, ◌++◌, length, get_or, set, map, take, drop, replicate, sym, ap, subst, ◌∙◌, ⊎_elim, arith}
use Rattle.std.specs.List.{All, range_with_len}
use Rattle.std.proofs.Math.Seq.{drop-append_seam, take-append_seam}
use Rattle.std.proofs.lemmas.Bool.{cases_eq, cases_lt, false≢true}
use Rattle.std.proofs.lemmas.List.{drop-drop, ext_get_or, get_or_past, get_or-map, get_or-set_other, get_or-set_same, get_or-take, length-append, length-drop, length-map, map-append, take-append-drop}
use Rattle.std.proofs.lemmas.List.Elements.{All-append, All-nil}
use Rattle.std.proofs.lemmas.List.FromFn.{get_or-map-range_with_len, length-map-range_with_len}
use Rattle.std.proofs.lemmas.Nat.{row_fits}
use Rattle.r6_kernels.specs.Blocks.{IsBlock, piece, p_of, q_of}
use Rattle.r6_kernels.proofs.PieceLaws.{piece-p, piece-q}
use Rattle.r6_dev.specs.History.{Block, Blocks}
use Rattle.r6_layout.specs.Shape.{Shape, IsShape, data_slots}
use Rattle.r6_layout.specs.Layout.{position_at}
use Rattle.r6_layout.proofs.Roles.{position_at-lt, position_at-slot_at, slot_at-position_at}
use Rattle.r6_recover.specs.Restores.{AgreeAtKnown, BecomesFullRow}
use Rattle.r6_recover.specs.Rows.{block_at, block_length, IsFullRow, pieces_of, row_of}
use Rattle.r6_recover.proofs.RowLaws.{full_row-eq, IsFullRow-row_of, length-row_data, length-row_of}
use Rattle.r6_offline.specs.Parts.{AllTell, Parts}
use Rattle.r6_offline.specs.Rebuilds.{AreFullRows, devices_of}
use Rattle.r6_offline.specs.Stretches.{AreOfOneChunk, PositionRead, PositionsKnown}
use Rattle.r6_offline.proofs.RowLaws.{none_known}
use Rattle.r6_offline.proofs.StretchLaws.{slot_same}

-- ---- blocks put together

abbrev pub together : Blocks → (row count : ℕ) → Block
together blocks row zero = []
together blocks row (suc n) = blocks row ++ together blocks (row + 1) n

piece_next : (index len : ℕ) (bytes : Block) → piece (suc index * len) len bytes ≡ piece (index * len) len (drop len bytes)
piece_next index len bytes =
    let place : suc index * len ≡ len + index * len = omega arith in
    ap (λ (n : ℕ). take len (drop n bytes)) place ∙ ap (take len) (sym (drop-drop (index * len) len bytes))

length_together : (blocks : Blocks) (len row count : ℕ) → ((at : ℕ) → row ≤ at → at < row + count → length (blocks at) ≡ len)
    → length (together blocks row count) ≡ count * len
length_together blocks len row zero each = omega arith
length_together blocks len row (suc n) each =
    let first = each row (omega arith) (omega arith) in
    let rest = length_together blocks len (row + 1) n (λ at from below. each at (omega (arith, from)) (omega (arith, below))) in
    length-append (blocks row) (together blocks (row + 1) n) ∙ omega (arith, first, rest)

bytes_together : (blocks : Blocks) (row count : ℕ) → ((at : ℕ) → row ≤ at → at < row + count → All (λ byte. byte < 256) (blocks at))
    → All (λ byte. byte < 256) (together blocks row count)
bytes_together blocks row zero each = All-nil (λ byte. byte < 256)
bytes_together blocks row (suc n) each =
    All-append (λ byte. byte < 256) (blocks row) (together blocks (row + 1) n) (each row (omega arith) (omega arith))
    (bytes_together blocks (row + 1) n (λ at from below. each at (omega (arith, from)) (omega (arith, below))))

piece_together : (blocks : Blocks) (len row count : ℕ) → ((at : ℕ) → row ≤ at → at < row + count → length (blocks at) ≡ len)
    → (index : ℕ) → index < count → piece (index * len) len (together blocks row count) ≡ blocks (row + index)
piece_together blocks len row zero each index below = absurd (omega (arith, below))
piece_together blocks len row (suc n) each zero below =
    let long = each row (omega arith) (omega arith) in
    let rest = together blocks (row + 1) n in
    let none : 0 * len ≡ 0 = omega arith in
    ap (λ (k : ℕ). piece k len (blocks row ++ rest)) none
    ∙ ap (λ (k : ℕ). take k (blocks row ++ rest)) (sym long) ∙ take-append_seam (blocks row) rest
    ∙ ap blocks (omega arith)
piece_together blocks len row (suc n) each (suc index) below =
    let long = each row (omega arith) (omega arith) in
    let rest = together blocks (row + 1) n in
    piece_next index len (blocks row ++ rest)
    ∙ ap (λ (m : ℕ). piece (index * len) len (drop m (blocks row ++ rest))) (sym long)
    ∙ ap (piece (index * len) len) (drop-append_seam (blocks row) rest)
    ∙ piece_together blocks len (row + 1) n (λ at from under. each at (omega (arith, from)) (omega (arith, under))) index (omega (arith, below))
    ∙ ap blocks (omega arith)

-- bytes are put together of their pieces
are_together : (blocks : Blocks) (len row count : ℕ) (bytes : Block) → length bytes ≡ count * len
    → ((index : ℕ) → index < count → piece (index * len) len bytes ≡ blocks (row + index)) → bytes ≡ together blocks row count
are_together blocks len row zero bytes long each =
    let none : length bytes ≡ 0 = omega (arith, long) in
    ext_get_or 0 bytes [] none (λ i below. absurd (omega (arith, below, none)))
are_together blocks len row (suc n) bytes long each =
    let none : 0 * len ≡ 0 = omega arith in
    let first : take len bytes ≡ blocks row = ap (λ (k : ℕ). piece k len bytes) (sym none) ∙ each 0 (omega arith) ∙ ap blocks (omega arith) in
    let rest : drop len bytes ≡ together blocks (row + 1) n =
    are_together blocks len (row + 1) n (drop len bytes) (length-drop len bytes ∙ omega (arith, long))
    (λ index below. sym (piece_next index len bytes) ∙ each (suc index) (omega (arith, below)) ∙ ap blocks (omega arith)) in
    sym (take-append-drop len bytes) ∙ ap (λ (b : Block). b ++ drop len bytes) first ∙ ap (λ (b : Block). blocks row ++ b) rest

-- ---- full rows put together

abbrev column_of : (ℕ → List Block) → (position : ℕ) → Blocks
column_of full position at = block_at (full at) position

module _ (m len : ℕ) (full : ℕ → List Block) (row count : ℕ) (each : (at : ℕ) → row ≤ at → at < row + count → IsFullRow m len (full at)) where
  abbrev long_data : List Block
  long_data = map (λ (position : ℕ). together (column_of full position) row count) (range_with_len 0 m)

  abbrev pub long_full : List Block
  long_full = row_of (count * len) long_data

  count_data : length long_data ≡ m
  count_data = length-map-range_with_len (λ (position : ℕ). together (column_of full position) row count) 0 m

  block_in : (position : ℕ) → position < m + 2 → (at : ℕ) → row ≤ at → at < row + count → IsBlock len (column_of full position at)
  block_in position within at from below =
      let is = each at from below in
      is.full.sized position [] (omega (arith, within, is.count))

  data_at : (position : ℕ) (d : Block) → position < m → get_or long_data position d ≡ together (column_of full position) row count
  data_at position d within =
      get_or-map-range_with_len (λ (position : ℕ). together (column_of full position) row count) 0 m position position d within (omega arith)

  data_blocks : All (IsBlock (count * len)) long_data
  data_blocks position d within =
      let below : position < m = omega (arith, within, count_data) in
      subst (IsBlock (count * len)) (sym (data_at position d below)) (record {
        length_is = length_together (column_of full position) len row count
            (λ at from under. (block_in position (omega (arith, below)) at from under).length_is);
        bytes = bytes_together (column_of full position) row count (λ at from under. (block_in position (omega (arith, below)) at from under).bytes);
      })

  pub long_is_full : IsFullRow m (count * len) long_full
  long_is_full = IsFullRow-row_of m (count * len) long_data count_data data_blocks

  data_pieces : (index : ℕ) → index < count → map (piece (index * len) len) long_data ≡ take m (full (row + index))
  data_pieces index below =
      let is = each (row + index) (omega arith) (omega (arith, below)) in
      let cut = length-row_data m len (full (row + index)) is in
      ext_get_or [] (map (piece (index * len) len) long_data) (take m (full (row + index))) (length-map long_data (piece (index * len) len) ∙ count_data ∙ sym cut)
      (λ position within.
      let in_data : position < m = omega (arith, within, count_data, length-map long_data (piece (index * len) len)) in
      get_or-map (piece (index * len) len) long_data position [] [] (omega (arith, in_data, count_data))
      ∙ ap (piece (index * len) len) (data_at position [] in_data)
      ∙ piece_together (column_of full position) len row count
      (λ at from under. (block_in position (omega (arith, in_data)) at from under).length_is) index below
      ∙ sym (get_or-take m (full (row + index)) position [] in_data))

  -- the pieces of the long row are the rows
  pub pieces_are : (index : ℕ) → index < count → pieces_of (index * len) len long_full ≡ full (row + index)
  pieces_are index below =
      let is = each (row + index) (omega arith) (omega (arith, below)) in
      let fits : index * len + len ≤ count * len = row_fits index len count len below (omega arith) in
      let cut = piece (index * len) len in
      let rows = take m (full (row + index)) in
      map-append cut long_data (p_of (count * len) long_data ∷ q_of (count * len) long_data ∷ [])
      ∙ (λ i. data_pieces index below i ++ piece-p (index * len) len (count * len) long_data fits i ∷ piece-q (index * len) len (count * len) long_data fits i ∷ [])
      ∙ ap (λ (blocks : List Block). rows ++ p_of len blocks ∷ q_of len blocks ∷ []) (data_pieces index below)
      ∙ sym (full_row-eq m len (full (row + index)) is)

  pub piece_is : (position index : ℕ) → position < m + 2 → index < count
      → piece (index * len) len (block_at long_full position) ≡ column_of full position (row + index)
  piece_is position index within below =
      sym (get_or-map (piece (index * len) len) long_full position [] [] (omega (arith, within, length-row_of m (count * len) long_data count_data)))
      ∙ ap (λ (blocks : List Block). block_at blocks position) (pieces_are index below)

  -- what is put together of the same pieces is a block of the long row
  pub block_is : (position : ℕ) (bytes : Block) → position < m + 2 → length bytes ≡ count * len
      → ((index : ℕ) → index < count → piece (index * len) len bytes ≡ column_of full position (row + index))
      → bytes ≡ block_at long_full position
  block_is position bytes within long pieces =
      let whole : length (block_at long_full position) ≡ count * len =
      (long_is_full.full.sized position [] (omega (arith, within, long_is_full.count))).length_is in
      are_together (column_of full position) len row count bytes long pieces
      ∙ sym (are_together (column_of full position) len row count (block_at long_full position) whole (λ index below. piece_is position index within below))

-- ---- what is restored

position_same : (shape : Shape) (row count index slot : ℕ) → AreOfOneChunk shape row count → index < count → slot < shape.slots
    → position_at shape (row + index) slot ≡ position_at shape row slot
position_same shape row count index slot one below within =
    let position = position_at shape row slot in
    let in_slots : position < shape.slots = position_at-lt shape row slot (omega (arith, within)) in
    ap (position_at shape (row + index)) (sym (slot_at-position_at shape row slot within) ∙ sym (slot_same shape row count index position one below))
    ∙ position_at-slot_at shape (row + index) position in_slots

pub restored_pieces : (shape : Shape) (parts : Parts) (row count target : ℕ) (known : List Bool) (before after : List Block) → IsShape shape
    → AreOfOneChunk shape row count → row + count ≤ shape.rows → target < shape.slots → length before ≡ shape.slots
    → ((position : ℕ) → position < shape.slots → length (block_at before position) ≡ count * shape.block)
    → PositionsKnown shape parts row count known before → BecomesFullRow known before after
    → (full : ℕ → List Block) → AreFullRows shape full → AllTell shape parts (devices_of shape full)
    → (index : ℕ) → index < count
    → piece (index * shape.block) shape.block (block_at after (position_at shape row target)) ≡ devices_of shape full target (row + index)
restored_pieces shape parts row count target known before after is one within in_slots slots long read becomes full are tell index below =
    let m = data_slots shape in
    let len = shape.block in
    let least : 4 ≤ shape.slots = is.slots_allowed.0 in
    let each : (at : ℕ) → row ≤ at → at < row + count → IsFullRow m len (full at) = λ at from under. are at (omega (arith, under, within)) in
    let whole : List Block = long_full m len full row count each in
    let whole_is : IsFullRow m (count * len) whole = long_is_full m len full row count each in
    let whole_is' : IsFullRow (length before - 2) (block_length before) whole =
    subst (λ (n : ℕ). IsFullRow (n - 2) (block_length before) whole) (sym slots)
    (subst (λ (b : ℕ). IsFullRow m b whole) (sym (long 0 (omega (arith, least)))) whole_is) in
    let agree : AgreeAtKnown known before whole = λ position is_known.
    ⊎_elim
    (λ (inside : position < shape.slots).
    block_is m len full row count each position (block_at before position) (omega (arith, inside, least)) (long position inside)
    (λ k under.
    (read position is_known).gives (devices_of shape full) tell len k (long position inside) under
    ∙ ap (λ (slot : ℕ). block_at (full (row + k)) (position_at shape (row + k) slot)) (sym (slot_same shape row count k position one under))
    ∙ ap (block_at (full (row + k))) (position_at-slot_at shape (row + k) position inside)))
    (λ (past : shape.slots ≤ position).
    get_or_past before position [] (omega (arith, slots, past)) ∙ sym (get_or_past whole position [] (omega (arith, whole_is.count, least, past))))
    (cases_lt position shape.slots) in
    let position = position_at shape row target in
    let inside : position < shape.slots = position_at-lt shape row target (omega (arith, in_slots)) in
    ap (λ (blocks : List Block). piece (index * len) len (block_at blocks position)) (becomes whole whole_is' agree)
    ∙ piece_is m len full row count each position index (omega (arith, inside, least)) below
    ∙ ap (block_at (full (row + index))) (sym (position_same shape row count index target one below in_slots))

-- ---- which positions are known

pub known_none : (shape : Shape) (parts : Parts) (row count : ℕ) (blocks : List Block) → PositionsKnown shape parts row count (replicate 32 false) blocks
known_none shape parts row count blocks position is_known = absurd (false≢true (sym (none_known position) ∙ is_known))

pub known_next : (shape : Shape) (parts : Parts) (row count position : ℕ) (known : List Bool) (blocks : List Block) (bytes : Block) → position < length blocks
    → PositionsKnown shape parts row count known blocks → PositionRead shape parts row count position bytes
    → PositionsKnown shape parts row count (set known position true) (set blocks position bytes)
known_next shape parts row count position known blocks bytes within so_far read k is_known =
    ⊎_elim
    (λ (here : k ≡ position).
    subst (λ (n : ℕ). PositionRead shape parts row count n (block_at (set blocks position bytes) n)) (sym here)
    (subst (PositionRead shape parts row count position) (sym (get_or-set_same blocks position bytes [] within)) read))
    (λ (apart : k ≢ position).
    subst (PositionRead shape parts row count k) (sym (get_or-set_other blocks position k bytes [] apart))
    (so_far k (sym (get_or-set_other known position k true false apart) ∙ is_known)))
    (cases_eq k position)
