-- The first blocks that are known, as many as there are data: what a fix is computed from.
use Rattle.std.proofs.Common.{◌≡◌, ◌≢◌, Bool, true, false, ℕ, zero, suc, ◌+◌, ◌-◌, ◌<◌, ◌≤◌, List, [], ◌∷◌, length, get_or, drop, inl, refl, sym, ◌∙◌, ap, subst, arith}
use Rattle.std.specs.Prelude.{if◌then◌else◌}
use Rattle.std.proofs.lemmas.List.{at_drop_more}
use Rattle.r6_recover.specs.Known.{IsKnown, IsMissing}
use Rattle.r6_recover.specs.Restores.{AreLongButMissing, MayMiss}
use Rattle.r6_recover.specs.Rows.{block_at}
use Rattle.r6_recover.specs.declared.known.Missing.{Missing}
use Rattle.r6_stripe.specs.Holds.{Cell, Reading, cell_at, first_known, is_known, known_count}
use Rattle.r6_stripe.specs.Mending.{first_known_of}
use Rattle.r6_stripe.specs.Places.{cell_of, cells_of, no_place, reading_of}
use Rattle.r6_stripe.specs.Recovery.{AgreeButMissing}
use Rattle.r6_stripe.specs.Sound.{AreHome}
use Rattle.r6_stripe.specs.declared.place.PositionState.{PositionState}
use Rattle.r6_stripe.specs.declared.place.ReadState.{ReadState}
use Rattle.r6_stripe.specs.declared.place.ReadState.TheVariants as read
use Rattle.r6_stripe.proofs.Knows.{first_count, first_wide}
use Rattle.r6_stripe.proofs.Missing.{agree_of, long_of, may_miss_of}
use Rattle.r6_stripe.proofs.Places.{cell_at-cells_of, known_only, known_reading, length-cells_of, read_blind}
use Rattle.r6_stripe.proofs.Steps.{first_is}

-- ---- one position on

abbrev left_after : ℕ → Bool → ℕ
left_after zero known = 0
left_after (suc left) known = if known then left else suc left

abbrev taken : ℕ → Bool → Bool
taken zero known = false
taken (suc left) known = known

pub takes : (left : ℕ) (place : PositionState) (places : List PositionState) →
    first_known_of left (place ∷ places) ≡ taken left (is_known (reading_of place.read [])) ∷ first_known_of (left_after left (is_known (reading_of place.read []))) places
takes zero place places = refl
takes (suc left) place places = refl

-- the flags from the position on are those of the places that are left
abbrev pub GoesOn : List Bool → List PositionState → ℕ → ℕ → Type 0
GoesOn flags places i left = (k : ℕ) → get_or flags (i + k) false ≡ get_or (first_known_of left (drop i places)) k false

module _ (flags : List Bool) (places : List PositionState) (i left : ℕ) (inside : i < length places) (goes_on : GoesOn flags places i left) where
  from_here : first_known_of left (drop i places) ≡ taken left (is_known (reading_of (get_or places i no_place).read [])) ∷ first_known_of (left_after left (is_known (reading_of (get_or places i no_place).read []))) (drop (i + 1) places)
  from_here = at_drop_more (first_known_of left) places i no_place inside ∙ takes left (get_or places i no_place) (drop (i + 1) places)

  pub flag_here : get_or flags i false ≡ taken left (is_known (reading_of (get_or places i no_place).read []))
  flag_here = ap (λ (j : ℕ). get_or flags j false) (omega arith) ∙ goes_on 0 ∙ ap (λ (rest : List Bool). get_or rest 0 false) from_here

  pub on_from_here : GoesOn flags places (i + 1) (left_after left (is_known (reading_of (get_or places i no_place).read [])))
  on_from_here k = ap (λ (j : ℕ). get_or flags j false) (omega arith) ∙ goes_on (suc k) ∙ ap (λ (rest : List Bool). get_or rest (suc k) false) from_here

  -- one that is taken, and one that isn't
  pub flag_taken : 0 < left → is_known (reading_of (get_or places i no_place).read []) ≡ true → (get_or flags i false ≡ true) × GoesOn flags places (i + 1) (left - 1)
  flag_taken some here = (
    flag_here ∙ ap (taken left) here ∙ is_taken left some,
    subst (GoesOn flags places (i + 1)) (ap (left_after left) here ∙ is_left left some) on_from_here,
  )
    where
      is_taken : (n : ℕ) → 0 < n → taken n true ≡ true
      is_taken zero some = absurd (omega arith)
      is_taken (suc n) some = refl

      is_left : (n : ℕ) → 0 < n → left_after n true ≡ n - 1
      is_left zero some = absurd (omega arith)
      is_left (suc n) some = omega arith

  pub flag_left : (0 < left → is_known (reading_of (get_or places i no_place).read []) ≡ false) → (get_or flags i false ≡ false) × GoesOn flags places (i + 1) left
  flag_left none = by_left left refl
    where
      by_left : (n : ℕ) → left ≡ n → (get_or flags i false ≡ false) × GoesOn flags places (i + 1) left
      by_left zero is = (
        flag_here ∙ ap (λ (m : ℕ). taken m (is_known (reading_of (get_or places i no_place).read []))) is,
        subst (GoesOn flags places (i + 1)) (ap (λ (m : ℕ). left_after m (is_known (reading_of (get_or places i no_place).read []))) is ∙ sym is) on_from_here,
      )
      by_left (suc n) is =
          let unknown = none (omega (arith, is)) in
          (flag_here ∙ (λ j. taken (is j) (unknown j)), subst (GoesOn flags places (i + 1)) ((λ j. left_after (is j) (unknown j)) ∙ sym is) on_from_here)

-- ---- the cells that they stand for

known_blind : (place : PositionState) (block : List ℕ) → is_known (cell_of place block).reading ≡ is_known (reading_of place.read [])
known_blind place block = read_blind is_known (λ b. refl) place.read block

pub flag_cell : (count : ℕ) (places : List PositionState) (blocks : List (List ℕ)) (k : ℕ) → is_known (cell_at (first_known count (cells_of places blocks)) k).reading ≡ get_or (first_known_of count places) k false
flag_cell count [] blocks k = refl
flag_cell zero (place ∷ places) [] zero = refl
flag_cell zero (place ∷ places) (block ∷ blocks) zero = refl
flag_cell zero (place ∷ places) [] (suc k) = flag_cell zero places [] k
flag_cell zero (place ∷ places) (block ∷ blocks) (suc k) = flag_cell zero places blocks k
flag_cell (suc count) (place ∷ places) [] zero = refl
flag_cell (suc count) (place ∷ places) (block ∷ blocks) zero = known_blind place block
flag_cell (suc count) (place ∷ places) [] (suc k) = flag_cell (if is_known (reading_of place.read []) then count else suc count) places [] k
flag_cell (suc count) (place ∷ places) (block ∷ blocks) (suc k) =
    ap (λ (b : Bool). is_known (cell_at (first_known (if b then count else suc count) (cells_of places blocks)) k).reading) (known_blind place block)
    ∙ flag_cell (if is_known (reading_of place.read []) then count else suc count) places blocks k

-- at most two positions aren't among the first, if so many are known
pub may_miss_first : (places : List PositionState) (blocks : List (List ℕ)) (m : Missing) → 2 ≤ length places → length places - 2 ≤ known_count (cells_of places blocks) → IsMissing (first_known_of (length places - 2) places) (length places) m → MayMiss (length places) m
may_miss_first places blocks m two enough =
    let count : ℕ = length places - 2 in
    may_miss_of (first_known_of count places) (length places) (first_known count (cells_of places blocks)) (first_wide count (cells_of places blocks) ∙ length-cells_of places blocks)
    (omega (arith, two, first_count count (cells_of places blocks) enough)) (λ k below e. flag_cell count places blocks k ∙ e) m

module _ (size : ℕ) (places : List PositionState) (blocks : List (List ℕ)) (wide : length blocks ≡ length places) (home : AreHome size places blocks)
    (at_home : (k : ℕ) → k < length places → (get_or places k no_place).read ≡ read.Known → (get_or places k no_place).away ≡ false)
    (kept : (k : ℕ) → k < length places → (get_or places k no_place).read ≢ read.Replaced) (count : ℕ) where
  flag_known : (k : ℕ) → k < length places → IsKnown (first_known_of count places) k → (get_or places k no_place).read ≡ read.Known
  flag_known k below flag =
      let among = flag_cell count places blocks k ∙ flag in
      known_only (get_or places k no_place).read (sym (known_reading places blocks k below) ∙ ap (λ (c : Cell). is_known c.reading) (sym (first_is count (cells_of places blocks) k among)) ∙ among) (kept k below)

  flag_long : (k : ℕ) → k < length places → IsKnown (first_known_of count places) k → length (get_or blocks k []) ≡ size
  flag_long k below flag = home k below (inl (at_home k below (flag_known k below flag)))

  pub long_but_first : (m : Missing) → IsMissing (first_known_of count places) (length places) m → AreLongButMissing size m blocks
  long_but_first = long_of (first_known_of count places) (length places) blocks wide size flag_long

  -- the blocks agree with the full row of the first
  module _ (row : List (List ℕ)) (row_wide : length row ≡ length places)
      (same : (k : ℕ) (block : List ℕ) → (cell_at (first_known count (cells_of places blocks)) k).reading ≡ Reading.Known block → block_at row k ≡ block) where
    flag_was : (k : ℕ) → k < length places → IsKnown (first_known_of count places) k → get_or blocks k [] ≡ block_at row k
    flag_was k below flag =
        let among = flag_cell count places blocks k ∙ flag in
        sym (same k (get_or blocks k [])
        (ap (λ (c : Cell). c.reading) (first_is count (cells_of places blocks) k among ∙ cell_at-cells_of places blocks k no_place below) ∙ ap (λ (r : ReadState). reading_of r (get_or blocks k [])) (flag_known k below flag)))

    pub agree_first : (m : Missing) → IsMissing (first_known_of count places) (length places) m → AgreeButMissing m blocks row
    agree_first = agree_of (first_known_of count places) (length places) blocks wide row row_wide flag_was
