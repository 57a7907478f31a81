-- The writes of the other blocks of a row are found by going through its indices.
use Rattle.std.proofs.Common.{◌≡◌, ◌≢◌, inl, inr, ℕ, ◌+◌, ◌<◌, ◌&&◌, not, Bool, true, false, List, [], ◌∷◌, ◌++◌, refl, sym, ap, subst, ◌∙◌, IsPermutation, arith, append_assoc, append-nil}
use mathlib.Core.Path.{fun_ext}
use Rattle.std.specs.Prelude.{◌==◌, nat_le}
use Rattle.std.proofs.lemmas.Bool.{eq-eqb, ne_eqb, cases_eq, cases_lt, le-leb, lt-leb}
use Rattle.std.proofs.lemmas.List.Sorted.{IsPermutation-refl, IsPermutation-trans, IsPermutation-append_comm, IsPermutation-append_left, IsPermutation-append_right}
use Rattle.r6_layout.specs.Shape.{Shape, IsShape, data_slots}
use Rattle.r6_layout.specs.Layout as layout
use Rattle.r6_layout.proofs.Places.{index_of-lt, block_at-row_of, row_of-block_at, index_of-block_at}
use Rattle.r6_world.specs.Geometries.{layout_of}
use Rattle.r6_world.proofs.Tables.{put-same, put-other}
use Rattle.r6_core.specs.declared.queued.Queued.{Queued}
use Rattle.r6_waiters.specs.Line.{Entries, without_oldest_keyed}
use Rattle.r6_core.specs.Batches.{entries_left, others_of, joined}
use Rattle.r6_core.proofs.Joined.{key_of, plus, values, oldest_in, takes_oldest, none_join, all_stay}

-- the other blocks of the row from this index on
abbrev pub others_from : Shape → (row own index : ℕ) → ℕ → Bool
others_from shape row own index block = others_of (layout_of shape) row own block && nat_le index (layout.index_of shape block)

and_true : (b : Bool) → (b && true) ≡ b
and_true true = refl
and_true false = refl

and_false : (b : Bool) → (b && false) ≡ false
and_false true = refl
and_false false = refl

-- From the oldest to the newest wait those of the line; the writes that the hold serves so far have left it. All that
-- join it are these, and those of the indices from this one on
pub record IsJoining (shape : Shape) (row own : ℕ) (request : Queued) (line : Entries Queued) (index : ℕ) (taken : List Queued) (now : Entries Queued) : Type 0 where
  pub served : IsPermutation (request ∷ joined (others_of (layout_of shape) row own) (values line)) (taken ++ joined (others_from shape row own index) (values now))
  pub left : entries_left (others_of (layout_of shape) row own) line ≡ entries_left (others_from shape row own index) now

module _ (shape : Shape) (is_shape : IsShape shape) (row own : ℕ) where
  abbrev others : ℕ → Bool
  others = others_of (layout_of shape) row own

  from_first : others_from shape row own 0 ≡ others
  from_first = fun_ext (λ block. ap (λ (b : Bool). others block && b) (le-leb 0 (layout.index_of shape block) (omega arith)) ∙ and_true (others block))

  -- none is behind the last
  none_from : (block : ℕ) → others_from shape row own (data_slots shape) block ≡ false
  none_from block =
      let below = index_of-lt shape block is_shape in
      ap (λ (b : Bool). others block && b) (lt-leb (data_slots shape) (layout.index_of shape block) below) ∙ and_false (others block)

  same_from : (index block : ℕ) → layout.index_of shape block ≢ index → nat_le index (layout.index_of shape block) ≡ nat_le (index + 1) (layout.index_of shape block)
  same_from index block ne = elim (cases_lt (layout.index_of shape block) index) [
    | inl lt ↦
        lt-leb index (layout.index_of shape block) lt ∙ sym (lt-leb (index + 1) (layout.index_of shape block) (omega (arith, lt)))
    | inr le ↦ le-leb index (layout.index_of shape block) le ∙ sym (le-leb (index + 1) (layout.index_of shape block) (omega (arith, le, ne)))
  ]

  others_not : (block : ℕ) → layout.row_of shape block ≢ row → others block ≡ false
  others_not block ne = ap (λ (b : Bool). b && not (block == own)) (ne_eqb (layout.row_of shape block) row ne)

  not_own : (block : ℕ) → block ≡ own → others block ≡ false
  not_own block same = ap (λ (b : Bool). (layout.row_of shape block == row) && not b) (eq-eqb block own same) ∙ and_false (layout.row_of shape block == row)

  -- the own block is passed over
  from_own : (index : ℕ) → layout.row_of shape own ≡ row → layout.index_of shape own ≡ index → others_from shape row own index ≡ others_from shape row own (index + 1)
  from_own index in_row at = fun_ext (λ block. elim (cases_eq (layout.index_of shape block) index) [
    | inr ne ↦ ap (λ (b : Bool). others block && b) (same_from index block ne)
    | inl same ↦ elim (cases_eq (layout.row_of shape block) row) [
      | inr ne ↦
          ap (λ (b : Bool). b && nat_le index (layout.index_of shape block)) (others_not block ne)
          ∙ sym (ap (λ (b : Bool). b && nat_le (index + 1) (layout.index_of shape block)) (others_not block ne))
      | inl there ↦
          let one : block ≡ own =
          sym (block_at-row_of shape block is_shape) ∙ (λ i. layout.block_at shape ((there ∙ sym in_row) i) ((same ∙ sym at) i)) ∙ block_at-row_of shape own is_shape in
          ap (λ (b : Bool). b && nat_le index (layout.index_of shape block)) (not_own block one)
          ∙ sym (ap (λ (b : Bool). b && nat_le (index + 1) (layout.index_of shape block)) (not_own block one))
    ]
  ])

  -- another is one more
  module _ (index : ℕ) (below : index < data_slots shape) (apart : layout.index_of shape own ≢ index) where
    abbrev block : ℕ
    block = layout.block_at shape row index

    row_is : layout.row_of shape block ≡ row
    row_is = row_of-block_at shape row index is_shape below

    index_is : layout.index_of shape block ≡ index
    index_is = index_of-block_at shape row index is_shape below

    other_block : block ≢ own
    other_block same = apart (ap (layout.index_of shape) (sym same) ∙ index_is)

    wanted_here : others_from shape row own index block ≡ true
    wanted_here = λ i. (eq-eqb (layout.row_of shape block) row row_is i && not (ne_eqb block own other_block i)) && le-leb index (layout.index_of shape block) (omega (arith, index_is)) i

    pub unwanted_behind : others_from shape row own (index + 1) block ≡ false
    unwanted_behind =
        ap (λ (b : Bool). others block && b) (lt-leb (index + 1) (layout.index_of shape block) (omega (arith, index_is))) ∙ and_false (others block)

    from_other : others_from shape row own index ≡ plus (others_from shape row own (index + 1)) block
    from_other = fun_ext (λ x. elim (cases_eq x block) [
      | inl same ↦ ap (others_from shape row own index) same ∙ wanted_here ∙ sym (put-same (others_from shape row own (index + 1)) block true x same)
      | inr ne ↦
          sym (put-other (others_from shape row own (index + 1)) block true x ne
          ∙ (elim (cases_eq (layout.index_of shape x) index) [
            | inr ne' ↦ ap (λ (b : Bool). others x && b) (sym (same_from index x ne'))
            | inl at ↦ elim (cases_eq (layout.row_of shape x) row) [
              | inr ne' ↦
                  ap (λ (b : Bool). b && nat_le (index + 1) (layout.index_of shape x)) (others_not x ne')
                  ∙ sym (ap (λ (b : Bool). b && nat_le index (layout.index_of shape x)) (others_not x ne'))
              | inl there ↦ absurd (ne (sym (block_at-row_of shape x is_shape) ∙ (λ i. layout.block_at shape (there i) (at i))))
            ]
          ]))
    ])

  module _ (request : Queued) (line : Entries Queued) where
    pub joining_first : IsJoining shape row own request line 0 (request ∷ []) line
    joining_first =
        record {
          served = subst (λ w. IsPermutation (request ∷ joined others (values line)) (request ∷ joined w (values line))) (sym from_first) (IsPermutation-refl (request ∷ joined others (values line)));
          left = ap (λ w. entries_left w line) (sym from_first);
        }

    module _ (index : ℕ) (served : List Queued) (now : Entries Queued) (is : IsJoining shape row own request line index served now) where
      pub joining_own : layout.row_of shape own ≡ row → layout.index_of shape own ≡ index → IsJoining shape row own request line (index + 1) served now
      joining_own in_row at =
          let same = from_own index in_row at in
          record {
            served = subst (λ w. IsPermutation (request ∷ joined others (values line)) (served ++ joined w (values now))) same is.served;
            left = is.left ∙ ap (λ w. entries_left w now) same;
          }

      pub joining_next : index < data_slots shape → layout.index_of shape own ≢ index
          → IsJoining shape row own request line (index + 1) (oldest_in (layout.block_at shape row index) now ++ served) (without_oldest_keyed key_of (layout.block_at shape row index) now)
      joining_next below apart =
          let block = layout.block_at shape row index in
          let behind = others_from shape row own (index + 1) in
          let found = oldest_in block now in
          let later = without_oldest_keyed key_of block now in
          let step = takes_oldest behind block now (unwanted_behind index below apart) in
          let more : IsPermutation (request ∷ joined others (values line)) (served ++ joined (plus behind block) (values now)) =
          subst (λ w. IsPermutation (request ∷ joined others (values line)) (served ++ joined w (values now))) (from_other index below apart) is.served in
          let taken : IsPermutation (request ∷ joined others (values line)) (served ++ (found ++ joined behind (values later))) =
          IsPermutation-trans _ _ _ more (IsPermutation-append_right served _ _ step.0) in
          record {
            served = IsPermutation-trans _ _ _ (subst (IsPermutation (request ∷ joined others (values line))) (sym (append_assoc served found (joined behind (values later)))) taken)
                (IsPermutation-append_left (joined behind (values later)) (served ++ found) (found ++ served) (IsPermutation-append_comm served found));
            left = is.left ∙ ap (λ w. entries_left w now) (from_other index below apart) ∙ step.1;
          }

  -- all have joined
  pub joining_last : (request : Queued) (line : Entries Queued) (served : List Queued) (now : Entries Queued) → IsJoining shape row own request line (data_slots shape) served now
      → IsPermutation (request ∷ joined others (values line)) served × (now ≡ entries_left others line)
  joining_last request line served now is = (
    subst (IsPermutation (request ∷ joined others (values line))) (ap (λ rs. served ++ rs) (none_join (others_from shape row own (data_slots shape)) none_from (values now)) ∙ append-nil served) is.served,
    sym (is.left ∙ all_stay (others_from shape row own (data_slots shape)) none_from now),
  )
