-- One of the rows that are rebuilt next is rebuilt.
use Rattle.std.proofs.Common.{◌≡◌, ◌≢◌, ◌⊎◌, ℕ, zero, suc, ◌+◌, ◌-◌, ◌<◌, ◌≤◌, Bool, true, false, List, length, get_or, inl, inr, refl, sym, ap, ◌∙◌, arith, cond, [], ◌∷◌, set, length-set, get_or-set_same, get_or-set_other}
use mathlib.Core.Path.{fun_ext}
use Rattle.std.specs.Prelude.{◌==◌, ◌&&◌, nat_le, nat_lt, not}
use Rattle.std.specs.List.{list_any}
use Rattle.std.proofs.lemmas.Bool.{cases_eq, cases_lt, cases_Bool, eqb-true, eq-eqb, le-leb, leb-true, le-ltb, lt-ltb, ltb-true, false≢true}
use Rattle.std.proofs.lemmas.List.Folds.{list_any_at, Any-from_list_any}
use Rattle.r6_world.specs.Tables.{put}
use Rattle.r6_world.proofs.Tables.{put-same, put-other}
use Rattle.r6_frames.specs.declared.rebuilt.RebuiltRows.{RebuiltRows}
use Rattle.r6_frames.specs.Rebuilt.{AreNext, IsNext, is_rebuilt, next_row, next_without}

same_bool : (a b : Bool) → (a ≡ true → b ≡ true) → (b ≡ true → a ≡ true) → a ≡ b
same_bool true b to back = sym (to refl)
same_bool false true to back = back refl
same_bool false false to back = refl

-- ---- which rows are rebuilt

pub record IsBuilt (r : RebuiltRows) (row : ℕ) : Type 0 where
  pub from : r.start ≤ row
  pub before : row < next_row r 7
  pub not_next : IsNext r row → ⊥

named_not : (r : RebuiltRows) (row : ℕ) → length r.next ≡ 8 → (IsNext r row → ⊥) → list_any (λ next. next == row) r.next ≡ false
named_not r row count none =
    elim (cases_Bool (list_any (λ next. next == row) r.next)) [
      | inl named ↦
          let there = Any-from_list_any (λ next. next == row) r.next named in
          let same : next_row r there.0 ≡ there.1 = get_or_here r.next there.0 there.1 there.2 there.3 in
          absurd (none (there.0, omega (arith, there.2, count), same ∙ eqb-true there.1 row there.4))
      | inr not_named ↦ not_named
    ]
  where
    get_or_here : (xs : List ℕ) (k x : ℕ) → k < length xs → get_or xs k x ≡ x → get_or xs k 0 ≡ x
    get_or_here [] k x below is = absurd (omega arith)
    get_or_here (y ∷ xs) zero x below is = is
    get_or_here (y ∷ xs) (suc k) x below is = get_or_here xs k x (omega arith) is

all_three : (a b c : Bool) → a ≡ true → b ≡ true → c ≡ false → (a && (b && not c)) ≡ true
all_three true true false x y z = refl
all_three true true true x y z = absurd (cc)
all_three true false c x y z = absurd (cc)
all_three false b c x y z = absurd (cc)

pub built : (r : RebuiltRows) (row : ℕ) → length r.next ≡ 8 → IsBuilt r row → is_rebuilt r row ≡ true
built r row count is =
    all_three (nat_le r.start row) (nat_lt row (next_row r 7)) (list_any (λ next. next == row) r.next)
    (le-leb r.start row is.from) (lt-ltb row (next_row r 7) is.before) (named_not r row count is.not_next)

named_at : (r : RebuiltRows) (row : ℕ) → length r.next ≡ 8 → IsNext r row → list_any (λ next. next == row) r.next ≡ true
named_at r row count next = list_any_at (λ next. next == row) r.next next.0 0 (omega (arith, next.1, count)) (eq-eqb (next_row r next.0) row next.2)

parts : (a b c : Bool) → (a && (b && not c)) ≡ true → (a ≡ true) × (b ≡ true) × (c ≡ false)
parts true true false is = (refl, refl, refl)
parts true true true is = absurd (cc)
parts true false c is = absurd (cc)
parts false b c is = absurd (cc)

pub is_built : (r : RebuiltRows) (row : ℕ) → length r.next ≡ 8 → is_rebuilt r row ≡ true → IsBuilt r row
is_built r row count is =
    let all = parts (nat_le r.start row) (nat_lt row (next_row r 7)) (list_any (λ next. next == row) r.next) is in
    record {
      from = leb-true r.start row all.0;
      before = ltb-true row (next_row r 7) all.1;
      not_next = λ next. false≢true (sym all.2 ∙ named_at r row count next);
    }

-- ---- their order

module _ (end : ℕ) (r : RebuiltRows) (next : AreNext end r) where
  -- a row that stands ahead is lower
  pub lower : (number steps : ℕ) → number + steps < 8 → next_row r number + steps ≤ next_row r (number + steps)
  lower number zero below = let same : next_row r (number + 0) ≡ next_row r number = ap (next_row r) (omega arith) in omega arith
  lower number (suc steps) below =
      let rest = lower number steps (omega arith) in
      let more = next.ordered (number + steps) (omega arith) in
      let same : next_row r (number + suc steps) ≡ next_row r (number + steps + 1) = ap (next_row r) (omega arith) in
      omega arith

  pub before : (one other : ℕ) → one < other → other < 8 → next_row r one < next_row r other
  before one other lt below =
      let ahead = lower one (other - one) (omega arith) in
      let same : next_row r (one + (other - one)) ≡ next_row r other = ap (next_row r) (omega arith) in
      omega arith

  pub at_most : (one other : ℕ) → one ≤ other → other < 8 → next_row r one ≤ next_row r other
  at_most one other le below =
      let ahead = lower one (other - one) (omega arith) in
      let same : next_row r (one + (other - one)) ≡ next_row r other = ap (next_row r) (omega arith) in
      omega arith

  -- it stands ahead of a higher one
  pub ahead : (one other : ℕ) → one < 8 → other < 8 → next_row r one < next_row r other → one < other
  ahead one other below inside lt =
      elim (cases_lt one other) [
        | inl is ↦ is
        | inr not_ahead ↦ let back = at_most other one not_ahead below in absurd (omega arith)
      ]

-- ---- the row is rebuilt

-- what the code makes of the rows that are rebuilt next
pub record IsMarked (r : RebuiltRows) (row : ℕ) (new : RebuiltRows) : Type 0 where
  pub count : length new.next ≡ 8
  pub start : new.start ≡ r.start
  pub shifted : (number : ℕ) → number < 7 → next_row new number ≡ next_without r row number
  pub last : next_row new 7 ≡ next_row r 7 + 1

module _ (end : ℕ) (r : RebuiltRows) (row : ℕ) (new : RebuiltRows) (next : AreNext end r) (is : IsNext r row) (below_end : row < end) (marked : IsMarked r row new) where
  -- a row before it stays where it is, and each from it on gives way to the next
  kept : (number : ℕ) → number < 7 → next_row r number < row → next_row new number ≡ next_row r number
  kept number below lt = marked.shifted number below ∙ ap (λ (b : Bool). cond b (next_row r number) (next_row r (number + 1))) (lt-ltb (next_row r number) row lt)

  moved : (number : ℕ) → number < 7 → row ≤ next_row r number → next_row new number ≡ next_row r (number + 1)
  moved number below le = marked.shifted number below ∙ ap (λ (b : Bool). cond b (next_row r number) (next_row r (number + 1))) (le-ltb (next_row r number) row le)

  row_last : row ≤ next_row r 7
  row_last = let at = at_most end r next is.0 7 (omega (arith, is.1)) (omega arith) in omega (arith, at, is.2)

  row_from : r.start ≤ row
  row_from = let at = at_most end r next 0 is.0 (omega arith) is.1 in omega (arith, at, is.2, next.from)

  -- the row isn't next any more
  gone : IsNext new row → ⊥
  gone there =
      elim (cases_lt there.0 7) [
        | inl below ↦ elim (cases_lt (next_row r there.0) row) [
          | inl lt ↦ let same = kept there.0 below lt in absurd (omega (arith, lt, same, there.2))
          | inr le ↦ let same = moved there.0 below le in let more = next.ordered there.0 below in absurd (omega (arith, le, same, more, there.2))
        ]
        | inr last ↦
            let same : next_row new there.0 ≡ next_row new 7 = ap (next_row new) (omega (arith, last, there.1)) in
            absurd (omega (arith, same, marked.last, row_last, there.2))
      ]

  -- the others are
  pub stays : (other : ℕ) → IsNext r other → other ≢ row → IsNext new other
  stays other there ne =
      elim (cases_lt other row) [
        | inl lt ↦
            let below : there.0 < 7 = elim (cases_lt there.0 7) [
              | inl yes_below ↦ yes_below
              | inr last ↦ let same : next_row r there.0 ≡ next_row r 7 = ap (next_row r) (omega (arith, last, there.1)) in absurd (omega (arith, same, row_last, lt, there.2))
            ] in
            (there.0, omega (arith, below), kept there.0 below (omega (arith, lt, there.2)) ∙ there.2)
        | inr le ↦
            let behind : is.0 < there.0 = ahead end r next is.0 there.0 is.1 there.1 (omega (arith, le, ne_more le ne, is.2, there.2)) in
            let number = there.0 - 1 in
            let here : number + 1 ≡ there.0 = omega (arith, behind) in
            let from : row ≤ next_row r number = let at = at_most end r next is.0 number (omega (arith, behind)) (omega (arith, there.1)) in omega (arith, at, is.2) in
            (number, omega (arith, there.1), moved number (omega (arith, there.1, behind)) from ∙ ap (next_row r) here ∙ there.2)
      ]
    where
      ne_more : row ≤ other → other ≢ row → row < other
      ne_more le ne = elim (cases_lt row other) [ inl lt ↦ lt | inr back ↦ absurd (ne (omega (arith, le, back))) ]

  -- one that is next now was, or stands behind all
  came : (other : ℕ) → IsNext new other → IsNext r other ⊎ (other ≡ next_row r 7 + 1)
  came other there =
      elim (cases_lt there.0 7) [
        | inl below ↦ elim (cases_lt (next_row r there.0) row) [
          | inl lt ↦ inl (there.0, there.1, sym (kept there.0 below lt) ∙ there.2)
          | inr le ↦ inl (there.0 + 1, omega (arith, below), sym (moved there.0 below le) ∙ there.2)
        ]
        | inr last ↦
            let same : next_row new there.0 ≡ next_row new 7 = ap (next_row new) (omega (arith, last, there.1)) in
            inr (omega (arith, same, marked.last, there.2))
      ]

  pub row_built : IsBuilt new row
  row_built = record { from = omega (arith, marked.start, row_from); before = omega (arith, marked.last, row_last); not_next = gone }

  still : (other : ℕ) → other ≢ row → IsBuilt r other → IsBuilt new other
  still other ne was = record {
    from = omega (arith, marked.start, was.from);
    before = omega (arith, marked.last, was.before);
    not_next = λ there. elim (came other there) [ inl before ↦ was.not_next before | inr last ↦ omega (arith, last, was.before) ];
  }

  was_built : (other : ℕ) → other ≢ row → IsBuilt new other → IsBuilt r other
  was_built other ne now =
      elim (cases_lt other (next_row r 7)) [
        | inl lt ↦ record { from = omega (arith, marked.start, now.from); before = lt; not_next = λ there. now.not_next (stays other there ne) }
        | inr last ↦ absurd (now.not_next (stays other (7, omega arith, omega (arith, last, now.before, marked.last)) ne))
      ]

  pub marks : is_rebuilt new ≡ put (is_rebuilt r) row true
  marks =
      fun_ext (λ other.
      elim (cases_eq other row) [
        | inl e ↦ ap (is_rebuilt new) e ∙ built new row marked.count row_built ∙ sym (put-same (is_rebuilt r) row true other e)
        | inr ne ↦
            same_bool (is_rebuilt new other) (is_rebuilt r other)
            (λ now. built r other next.count (was_built other ne (is_built new other marked.count now)))
            (λ was. built new other marked.count (still other ne (is_built r other next.count was)))
            ∙ sym (put-other (is_rebuilt r) row true other ne)
      ])

  pub next_then : AreNext end new
  next_then = record {
    count = marked.count;
    ordered = λ number below.
        elim (cases_lt number 6) [
          | inl inside ↦ elim (cases_lt (next_row r number) row) [
            | inl lt ↦ elim (cases_lt (next_row r (number + 1)) row) [
              | inl more ↦ omega (arith, kept number below lt, kept (number + 1) (omega arith) more, next.ordered number below)
              | inr past ↦ omega (arith, kept number below lt, moved (number + 1) (omega arith) past, next.ordered number below, next.ordered (number + 1) (omega arith))
            ]
            | inr le ↦
                let more = next.ordered number below in
                omega (arith, moved number below le, moved (number + 1) (omega arith) (omega arith), next.ordered (number + 1) (omega arith))
          ]
          | inr last ↦
              let six : number ≡ 6 = omega arith in
              let now : next_row new (number + 1) ≡ next_row new 7 = ap (next_row new) (omega arith) in
              let was : next_row r (number + 1) ≡ next_row r 7 = ap (next_row r) (omega arith) in
              elim (cases_lt (next_row r number) row) [
                | inl lt ↦ omega (arith, kept number below lt, now, was, marked.last, next.ordered number below)
                | inr le ↦ omega (arith, moved number below le, now, was, marked.last)
              ]
        ];
    from = elim (cases_lt (next_row r 0) row) [
      | inl lt ↦ omega (arith, kept 0 (omega arith) lt, marked.start, next.from)
      | inr le ↦ omega (arith, moved 0 (omega arith) le, marked.start, next.from, next.ordered 0 (omega arith))
    ];
    upto = elim (cases_lt (next_row r 0) row) [
      | inl lt ↦ omega (arith, kept 0 (omega arith) lt, next.upto)
      | inr le ↦ elim (next.behind 0 (omega arith)) [
        | inl within ↦ omega (arith, moved 0 (omega arith) le, within)
        | inr step ↦ omega (arith, moved 0 (omega arith) le, step, below_end, row_first)
      ]
    ];
    behind = λ number below.
        elim (cases_lt number 6) [
          | inl inside ↦ elim (cases_lt (next_row r number) row) [
            | inl lt ↦ elim (cases_lt (next_row r (number + 1)) row) [
              | inl more ↦ inl (omega (arith, kept (number + 1) (omega arith) more, more, below_end))
              | inr past ↦ over number inside lt past
            ]
            | inr le ↦
                let more = next.ordered number below in
                elim (next.behind (number + 1) (omega arith)) [
                  | inl within ↦ inl (omega (arith, moved (number + 1) (omega arith) (omega arith), within))
                  | inr step ↦ inr (omega (arith, moved number below le, moved (number + 1) (omega arith) (omega arith), step))
                ]
          ]
          | inr last ↦ at_end number below last
        ];
  }
    where
      -- the first is no higher than the row
      row_first : next_row r 0 ≤ row
      row_first = let at = at_most end r next 0 is.0 (omega arith) is.1 in omega (arith, at, is.2)

      -- the row stood between the two
      over : (number : ℕ) → number < 6 → next_row r number < row → row ≤ next_row r (number + 1)
          → (next_row new (number + 1) ≤ end) ⊎ (next_row new (number + 1) ≡ next_row new number + 1)
      over number inside lt past =
          let here : next_row r (number + 1) ≡ row =
          let after = ahead end r next number is.0 (omega arith) is.1 (omega (arith, lt, is.2)) in
          let at = at_most end r next (number + 1) is.0 (omega (arith, after)) is.1 in
          omega (arith, at, past, is.2) in
          elim (next.behind (number + 1) (omega arith)) [
            | inl within ↦ inl (omega (arith, moved (number + 1) (omega arith) past, within))
            | inr step ↦ inl (omega (arith, moved (number + 1) (omega arith) past, step, here, below_end))
          ]

      at_end : (number : ℕ) → number < 7 → 6 ≤ number → (next_row new (number + 1) ≤ end) ⊎ (next_row new (number + 1) ≡ next_row new number + 1)
      at_end number below last =
          let now : next_row new (number + 1) ≡ next_row new 7 = ap (next_row new) (omega arith) in
          let was : next_row r (number + 1) ≡ next_row r 7 = ap (next_row r) (omega arith) in
          elim (cases_lt (next_row r number) row) [
            | inl lt ↦
                let after = ahead end r next number is.0 (omega arith) is.1 (omega (arith, lt, is.2)) in
                let seven : next_row r is.0 ≡ next_row r 7 = ap (next_row r) (omega (arith, after, is.1, last)) in
                inl (omega (arith, now, marked.last, seven, is.2, below_end))
            | inr le ↦ inr (omega (arith, moved number below le, now, was, marked.last))
          ]

-- ---- the loop that marks it

-- the rows up to the number have given way
pub record IsShiftedTo (r : RebuiltRows) (row at : ℕ) (now : RebuiltRows) : Type 0 where
  pub count : length now.next ≡ 8
  pub start : now.start ≡ r.start
  pub shifted : (number : ℕ) → number < at → next_row now number ≡ next_without r row number
  pub still : (number : ℕ) → at ≤ number → next_row now number ≡ next_row r number

pub shift_none : (r now : RebuiltRows) (row at : ℕ) → IsShiftedTo r row at now → next_row now at < row → IsShiftedTo r row (at + 1) now
shift_none r now row at is lt = record {
  count = is.count;
  start = is.start;
  shifted = λ number below.
      elim (cases_lt number at) [
        | inl before ↦ is.shifted number before
        | inr last ↦
            let here : number ≡ at = omega arith in
            let was : next_row r number < row = let same = ap (next_row now) here in omega (arith, same, lt, is.still number last) in
            is.still number last ∙ sym (ap (λ (b : Bool). cond b (next_row r number) (next_row r (number + 1))) (lt-ltb (next_row r number) row was))
      ];
  still = λ number le. is.still number (omega arith);
}

pub shift_one : (r now : RebuiltRows) (row at : ℕ) → IsShiftedTo r row at now → at < 7 → row ≤ next_row now at
    → IsShiftedTo r row (at + 1) (record now { next = set now.next at (next_row now (at + 1)) })
shift_one r now row at is below le = record {
  count = length-set now.next at (next_row now (at + 1)) ∙ is.count;
  start = is.start;
  shifted = λ number inside.
      elim (cases_eq number at) [
        | inl here ↦
            let was : row ≤ next_row r number = let same = ap (next_row now) here in omega (arith, same, le, is.still number (omega arith)) in
            ap (λ (n : ℕ). get_or (set now.next at (next_row now (at + 1))) n 0) here
            ∙ get_or-set_same now.next at (next_row now (at + 1)) 0 (omega (arith, is.count))
            ∙ is.still (at + 1) (omega arith)
            ∙ ap (λ (n : ℕ). next_row r (n + 1)) (sym here)
            ∙ sym (ap (λ (b : Bool). cond b (next_row r number) (next_row r (number + 1))) (le-ltb (next_row r number) row was))
        | inr ne ↦ get_or-set_other now.next at number (next_row now (at + 1)) 0 ne ∙ is.shifted number (before number inside ne)
      ];
  still = λ number past. get_or-set_other now.next at number (next_row now (at + 1)) 0 (λ here. absurd (omega arith)) ∙ is.still number (omega arith);
}
  where
    before : (number : ℕ) → number < at + 1 → number ≢ at → number < at
    before number inside ne = elim (cases_lt number at) [ inl lt ↦ lt | inr back ↦ absurd (ne (omega arith)) ]

pub marked_is : (r now : RebuiltRows) (row at : ℕ) → IsShiftedTo r row at now → 7 ≤ at → IsMarked r row (record now { next = set now.next 7 (next_row r 7 + 1) })
marked_is r now row at is past = record {
  count = length-set now.next 7 (next_row r 7 + 1) ∙ is.count;
  start = is.start;
  shifted = λ number below. get_or-set_other now.next 7 number (next_row r 7 + 1) 0 (λ here. absurd (omega arith)) ∙ is.shifted number (omega arith);
  last = get_or-set_same now.next 7 (next_row r 7 + 1) 0 (omega (arith, is.count));
}
