-- A hold one position of which has a second device, beside the same hold without it: what the plan asks of the two.
use Rattle.std.proofs.Common.{◌≡◌, ◌≢◌, inl, inr, Bool, true, false, ℕ, zero, suc, ◌+◌, ◌-◌, ◌<◌, ◌≤◌, List, [], ◌∷◌, length, set, refl, sym, ◌∙◌, ap, subst, arith, Option, Some, None}
use Rattle.std.specs.Prelude.{◌&&◌, ◌||◌, not, nat_lt, nat_le, if◌then◌else◌, option_map}
use Rattle.std.specs.List.{list_any}
use Rattle.std.proofs.lemmas.Bool.{cases_eq, le-ltb, lt-ltb}
use Rattle.std.proofs.lemmas.List.{get_or-set_other, get_or-set_same, length-set}
use Rattle.r6_recover.specs.Rows.{block_at, data_of, row_of}
use Rattle.r6_stripe.specs.Holds as holds
use Rattle.r6_stripe.specs.Holds.{Reading, Writing, Cell, Kind, Hold, cell_at, no_cell, own_writing, writing_for, is_known, all_known, known_count, count_where}
use Rattle.r6_stripe.specs.Holds.Standing.{InSync, Target, Out}
use Rattle.r6_stripe.specs.Holds.Reading.{Unread, Recalled, Asked, Unreadable, Fixing, Fixed, AskedAgain, Known, Replaced}
use Rattle.r6_stripe.specs.Holds.Kind.{Idle, Read, Write, Rebuild, Check, Repair}
use Rattle.r6_stripe.specs.Places.{standing_of}
use Rattle.r6_stripe.specs.Plans as plans
use Rattle.r6_stripe.specs.Plans.{Plan, Planned, Next, is_in_sync, is_out, is_target, is_unread, is_recalled, is_asked, is_asked_again, is_unreadable, is_fixing, is_fixed, is_met, is_unwritten, is_ready, is_sent, known_block, known_row, names, same_block, or_else, or_lose, is_in_error, is_knowable, write_at}
use Rattle.r6_stripe.specs.Plans.Plan.{One, Reconstruct, Modify, Overwrite, Recover, All}
use Rattle.r6_stripe.specs.Plans.Next.{ReadAt, FixAt, ReadAgainAt, MoveAt, LoseUnreadable, RestoreAt, ComputeNew, WriteAt, CopyAt}
use Rattle.r6_stripe.specs.Seconds.{beside, cells_beside, copying_of, recalled_if}
use Rattle.r6_stripe.specs.declared.place.Standing.{Standing}
use Rattle.r6_stripe.specs.declared.place.Standing.TheVariants as state
use Rattle.r6_stripe.specs.declared.second.Second.{Second}
use Rattle.r6_stripe.proofs.Alone.{AreAlone, own_alone, read_alone}
use Rattle.r6_stripe.proofs.Searches.{first_none}
use Rattle.r6_stripe.proofs.WritesLeft.{any_set, at_set}

-- ---- lists

pub count_set : (test : Cell → Bool) (cells : List Cell) (i : ℕ) (cell : Cell) → test cell ≡ test (cell_at cells i) → count_where test (set cells i cell) ≡ count_where test cells
count_set test [] i cell e = refl
count_set test (first ∷ cells) zero cell e = ap (λ (b : Bool). (if b then 1 else 0) + count_where test cells) e
count_set test (first ∷ cells) (suc i) cell e = ap (λ (n : ℕ). (if test first then 1 else 0) + n) (count_set test cells i cell e)

pub all_set : (cells : List Cell) (i : ℕ) (cell : Cell) → is_known cell.reading ≡ is_known (cell_at cells i).reading → all_known (set cells i cell) ≡ all_known cells
all_set [] i cell e = refl
all_set (first ∷ cells) zero cell e = ap (λ (b : Bool). b && all_known cells) e
all_set (first ∷ cells) (suc i) cell e = ap (λ (b : Bool). is_known first.reading && b) (all_set cells i cell e)

pub row_set : (cells : List Cell) (i : ℕ) (cell : Cell) → known_block cell.reading ≡ known_block (cell_at cells i).reading → known_row (set cells i cell) ≡ known_row cells
row_set [] i cell e = refl
row_set (first ∷ cells) zero cell e = ap (λ (b : List ℕ). b ∷ known_row cells) e
row_set (first ∷ cells) (suc i) cell e = ap (λ (row : List (List ℕ)). known_block first.reading ∷ row) (row_set cells i cell e)

-- the lowest of which only one can pass
pub first_only : (test : ℕ → Bool) (start count p : ℕ) → ((j : ℕ) → j ≢ p → test j ≡ false) → start ≤ p → p < start + count → plans.first_from test start count ≡ (if test p then Some p else None)
first_only test start zero p none from below = absurd (omega arith)
first_only test start (suc count) p none from below =
    elim (cases_eq start p) [
      | inl same ↦
          rw (first_none test (suc start) count (λ k after before. none k (λ e. omega arith)))
          (ap (λ (i : ℕ). if test i then Some i else None) same)
      | inr other ↦ rw (none start other) (first_only test (suc start) count p none (omega arith) (omega arith))
    ]

-- the lowest that passes, or this one
abbrev pub lower_of : ℕ → Option ℕ → Option ℕ
lower_of p None = Some p
lower_of p (Some i) = if nat_lt i p then Some i else Some p

not_lower : (p i : ℕ) → p ≤ i → (if nat_lt i p then Some i else Some p) ≡ Some p
not_lower p i from = rw (le-ltb i p from) refl

is_lower : (p i : ℕ) → i < p → (if nat_lt i p then Some i else Some p) ≡ Some i
is_lower p i below = rw (lt-ltb i p below) refl

found_from : (test : ℕ → Bool) (start count i : ℕ) → plans.first_from test start count ≡ Some i → start ≤ i
found_from test start zero i e = absurd cc
found_from test start (suc count) i e = by_test (test start) e (λ f. found_from test (suc start) count i f)
  where
    by_test : (b : Bool) → (if b then Some start else plans.first_from test (suc start) count) ≡ Some i → (plans.first_from test (suc start) count ≡ Some i → suc start ≤ i) → start ≤ i
    by_test true f later = let same : start ≡ i = cc in omega arith
    by_test false f later = let h = later f in omega arith

pub first_or : (test other : ℕ → Bool) (start count p : ℕ) → ((j : ℕ) → j ≢ p → other j ≡ false) → other p ≡ true → test p ≡ false → start ≤ p → p < start + count →
    plans.first_from (λ j. test j || other j) start count ≡ lower_of p (plans.first_from test start count)
first_or test other start zero p none here apart from below = absurd (omega arith)
first_or test other start (suc count) p none here apart from below =
    elim (cases_eq start p) [
      | inl same ↦
          subst (λ (s : ℕ). (if test s || other s then Some s else plans.first_from (λ j. test j || other j) (suc start) count) ≡ lower_of p (if test s then Some s else plans.first_from test (suc start) count)) (sym same)
          (rw (apart, here) (sym (past (plans.first_from test (suc start) count) (λ i e. let h = found_from test (suc start) count i e in omega arith))))
      | inr other_than ↦ by_test (test start) (none start other_than) (first_or test other (suc start) count p none here apart (omega arith) (omega arith)) (omega arith)
    ]
  where
    past : (o : Option ℕ) → ((i : ℕ) → o ≡ Some i → p ≤ i) → lower_of p o ≡ Some p
    past None h = refl
    past (Some i) h = not_lower p i (h i refl)

    by_test : (b : Bool) → other start ≡ false → plans.first_from (λ j. test j || other j) (suc start) count ≡ lower_of p (plans.first_from test (suc start) count) → start < p →
        (if b || other start then Some start else plans.first_from (λ j. test j || other j) (suc start) count) ≡ lower_of p (if b then Some start else plans.first_from test (suc start) count)
    by_test true e later less = sym (is_lower p start less)
    by_test false e later less = rw e later

-- ---- a read that is recalled

pub recalled_same : {A : Type 0} (f : Reading → A) (b : Bool) (r : Reading) → f Recalled ≡ f Asked → f (recalled_if b r) ≡ f r
recalled_same f false r e = refl
recalled_same f true Unread e = refl
recalled_same f true Recalled e = refl
recalled_same f true Asked e = e
recalled_same f true Unreadable e = refl
recalled_same f true Fixing e = refl
recalled_same f true Fixed e = refl
recalled_same f true AskedAgain e = refl
recalled_same f true (Known block) e = refl
recalled_same f true Replaced e = refl

pub recalled_known : (b : Bool) (r : Reading) (block : List ℕ) → recalled_if b r ≡ Known block → r ≡ Known block
recalled_known false r block e = e
recalled_known true Unread block e = e
recalled_known true Recalled block e = e
recalled_known true Asked block e = absurd cc
recalled_known true Unreadable block e = e
recalled_known true Fixing block e = e
recalled_known true Fixed block e = e
recalled_known true AskedAgain block e = e
recalled_known true (Known other) block e = e
recalled_known true Replaced block e = e

pub known_recalled : (b : Bool) (r : Reading) (block : List ℕ) → r ≡ Known block → recalled_if b r ≡ Known block
known_recalled false r block e = e
known_recalled true r block e = rw e refl

-- ---- the two holds

-- what comes next, by the parts of a hold
abbrev pub next_by : (up : Bool) (again loss reads : Option Next) (asked : Bool) (fixes : Option Next) (enough : Bool) (restores computes writes : Option Next) → Option Next
next_by up again loss reads asked fixes enough restores computes writes =
    if up then again
    else or_else loss
    (or_else reads (if asked then None else or_else fixes (or_else again (if not enough then None else or_else restores (or_else computes writes)))))

-- what is true of a second device for the plan to be the same
pub record IsTwin (second : Second) (block : List ℕ) (hold : Hold) : Type 0 where
  pub inside : second.position < length hold.cells
  pub untargeted : second.state ≢ state.Target
  pub paired : is_unwritten (cell_at hold.cells second.position).writing ≡ true → is_unwritten (copying_of second.copy (cell_at hold.cells second.position).writing block) ≡ true

-- no read is to be put out again
abbrev pub IsUnrecalled : Second → Cell → Type 0
IsUnrecalled second cell = second.recalled ≡ true → is_out cell.standing ≡ true

module _ (second : Second) (block : List ℕ) (hold : Hold) (alone : AreAlone hold.cells) (twin : IsTwin second block hold) where
  abbrev p : ℕ
  p = second.position

  abbrev cell : Cell
  cell = cell_at hold.cells second.position

  abbrev two : Cell
  two = beside second block (cell_at hold.cells second.position)

  abbrev pub both : Hold
  both = record hold { cells = cells_beside second block hold.cells }

  pub width : length both.cells ≡ length hold.cells
  width = length-set hold.cells p two

  pub standing : (j : ℕ) → (cell_at both.cells j).standing ≡ (cell_at hold.cells j).standing
  standing = at_set (λ c. c.standing) hold.cells p two refl

  pub writing : (j : ℕ) → (cell_at both.cells j).writing ≡ (cell_at hold.cells j).writing
  writing = at_set (λ c. c.writing) hold.cells p two refl

  pub reading : {A : Type 0} (f : Reading → A) → f Recalled ≡ f Asked → (j : ℕ) → f (cell_at both.cells j).reading ≡ f (cell_at hold.cells j).reading
  reading f e = at_set (λ c. f c.reading) hold.cells p two (recalled_same f second.recalled cell.reading e)

  pub known_at : (j : ℕ) → is_known (cell_at both.cells j).reading ≡ is_known (cell_at hold.cells j).reading
  known_at = reading is_known refl

  pub here : cell_at both.cells p ≡ two
  here = get_or-set_same hold.cells p two no_cell twin.inside

  pub other : (j : ℕ) → j ≢ p → cell_at both.cells j ≡ cell_at hold.cells j
  other j apart = get_or-set_other hold.cells p j two no_cell apart

  is_no_target : is_target (standing_of second.state) ≡ false
  is_no_target = by_state second.state twin.untargeted
    where
      by_state : (s : Standing) → s ≢ state.Target → is_target (standing_of s) ≡ false
      by_state state.InSync h = refl
      by_state state.Target h = absurd (h refl)
      by_state state.Out h = refl

  target : (j : ℕ) → plans.has_target (cell_at both.cells j) ≡ plans.has_target (cell_at hold.cells j)
  target = at_set plans.has_target hold.cells p two
      (ap (λ (b : Bool). is_target cell.standing || b) (is_no_target ∙ sym (ap is_target (alone p).second)))

  pub unwritten_same : (j : ℕ) → is_unwritten (own_writing (cell_at both.cells j)) ≡ is_unwritten (own_writing (cell_at hold.cells j))
  unwritten_same = at_set (λ c. is_unwritten (own_writing c)) hold.cells p two (ap is_unwritten (by_state second.state twin.untargeted ∙ sym (own_alone cell (alone p))))
    where
      by_state : (s : Standing) → s ≢ state.Target → writing_for (standing_of s) two ≡ cell.writing
      by_state state.InSync h = refl
      by_state state.Target h = absurd (h refl)
      by_state state.Out h = refl

  pub row : known_row both.cells ≡ known_row hold.cells
  row = row_set hold.cells p two (recalled_same known_block second.recalled cell.reading refl)

  live : (f : Reading → Bool) → f Recalled ≡ f Asked → plans.any_live (λ c. f c.reading) both ≡ plans.any_live (λ c. f c.reading) hold
  live f e = any_set (λ c. not (is_out c.standing) && f c.reading) hold.cells p two (ap (λ (b : Bool). not (is_out cell.standing) && b) (recalled_same f second.recalled cell.reading e))

  pub known_count_same : known_count both.cells ≡ known_count hold.cells
  known_count_same = count_set (λ c. is_known c.reading) hold.cells p two (recalled_same is_known second.recalled cell.reading refl)

  pub all_known_same : all_known both.cells ≡ all_known hold.cells
  all_known_same = all_set hold.cells p two (recalled_same is_known second.recalled cell.reading refl)

  pub mending_same : plans.is_mending both ≡ plans.is_mending hold
  mending_same = live is_met refl

  fix_out_same : plans.has_fix_out both ≡ plans.has_fix_out hold
  fix_out_same = live is_fixing refl

  pub asked_again_same : plans.has_asked_again both ≡ plans.has_asked_again hold
  asked_again_same = live is_asked_again refl

  pub errors_at : (j : ℕ) → is_in_error (cell_at both.cells j) ≡ is_in_error (cell_at hold.cells j)
  errors_at j = λ k. is_in_sync (standing j k) && reading is_unreadable refl j k

  pub errors_same : list_any is_in_error both.cells ≡ list_any is_in_error hold.cells
  errors_same = any_set is_in_error hold.cells p two (ap (λ (b : Bool). is_in_sync cell.standing && b) (recalled_same is_unreadable second.recalled cell.reading refl))

  pub knowable_same : plans.knowable_count both.cells ≡ plans.knowable_count hold.cells
  knowable_same = count_set is_knowable hold.cells p two
      (λ k. recalled_same is_known second.recalled cell.reading refl k || (is_in_sync cell.standing && not (recalled_same is_unreadable second.recalled cell.reading refl k)))

  coming_same : plans.coming_count both.cells ≡ plans.coming_count hold.cells
  coming_same = count_set (λ c. is_known c.reading || ((is_asked c.reading || is_recalled c.reading) && not (is_out c.standing))) hold.cells p two
      (λ k. recalled_same is_known second.recalled cell.reading refl k || (recalled_same (λ r. is_asked r || is_recalled r) second.recalled cell.reading refl k && not (is_out cell.standing)))

  pub computed_same : plans.has_computed both ≡ plans.has_computed hold
  computed_same = any_set (λ c. not (is_unwritten c.writing) || not (is_unwritten c.copying)) hold.cells p two
      (either (is_unwritten cell.writing) (is_unwritten two.copying) twin.paired ∙ ap (λ (w : Writing). not (is_unwritten cell.writing) || not (is_unwritten w)) (sym (alone p).copying))
    where
      either : (w c : Bool) → (w ≡ true → c ≡ true) → (not w || not c) ≡ (not w || false)
      either false c h = refl
      either true c h = ap not (h refl)

  lost_same : (kind : Kind) → plans.has_lost both kind ≡ plans.has_lost hold kind
  lost_same Idle = refl
  lost_same (Read index) = refl
  lost_same (Write batch) = refl
  lost_same (Rebuild at) = ap not (target at)
  lost_same Check = refl
  lost_same Repair = refl

  pub gives_up_same : plans.gives_up both ≡ plans.gives_up hold
  gives_up_same = lost_same hold.kind

  restores_same : (kind : Kind) → plans.next_restore both kind ≡ plans.next_restore hold kind
  restores_same Idle = refl
  restores_same (Read index) = λ k. if is_out (standing index k) && not (known_at index k) then Some (RestoreAt index) else None
  restores_same (Write batch) = refl
  restores_same (Rebuild at) = refl
  restores_same Check = refl
  restores_same Repair = refl

  pub differs_same : (j : ℕ) → plans.differs both j ≡ plans.differs hold j
  differs_same j = λ k. not (same_block (block_at (row_of hold.size (data_of (row k))) j) (block_at (row k) j))

  puts_same : (kind : Kind) (j : ℕ) → plans.puts both kind j ≡ plans.puts hold kind j
  puts_same Idle j = refl
  puts_same (Read index) j = refl
  puts_same (Write batch) j = λ k. names batch j || nat_le (width k - 2) j
  puts_same (Rebuild at) j = refl
  puts_same Check j = refl
  puts_same Repair j = λ k. not hold.met_error && (nat_le (width k - 2) j && differs_same j k)

  pub lacks_new_same : (j : ℕ) → plans.lacks_new both j ≡ plans.lacks_new hold j
  lacks_new_same j = λ k. not (is_out (standing j k)) && unwritten_same j k && puts_same hold.kind j k

  pub each_same : plans.each_below (λ j. not (plans.lacks_new both j)) (length both.cells) ≡ plans.each_below (λ j. not (plans.lacks_new hold j)) (length hold.cells)
  each_same = λ k. plans.each_below (λ j. not (lacks_new_same j k)) (width k)

  computes_same : plans.next_compute both ≡ plans.next_compute hold
  computes_same = λ k. if each_same k then None else Some ComputeNew

  pub enough_same : (plan : Plan) → plans.is_enough plan both ≡ plans.is_enough plan hold
  enough_same One = λ k. plans.each_below (λ j. not (plans.is_its_block hold.kind j) || known_at j k) (width k)
  enough_same Reconstruct = λ k. plans.each_below (λ j. not (not (nat_le (width k - 2) j || plans.puts_data hold.kind j)) || known_at j k) (width k)
  enough_same Modify = λ k. plans.each_below (λ j. (not (nat_le (width k - 2) j || plans.puts_data hold.kind j) || known_at j k) || (nat_le (width k - 2) j && is_out (standing j k))) (width k)
  enough_same Overwrite = refl
  enough_same Recover = λ k. nat_le (width k - 2) (known_count_same k)
  enough_same All = all_known_same

  pub has_enough_same : (plan : Plan) → plans.has_enough plan both ≡ plans.has_enough plan hold
  has_enough_same plan = λ k. enough_same plan k && not (mending_same k)

  lacks_same : (plan : Plan) → plans.lacks plan both ≡ plans.lacks plan hold
  lacks_same One = refl
  lacks_same Reconstruct = refl
  lacks_same Modify = refl
  lacks_same Overwrite = refl
  lacks_same Recover = λ k. nat_lt (coming_same k) (width k - 2)
  lacks_same All = refl

  wants_same : (plan : Plan) (j : ℕ) → plans.wants plan both j ≡ plans.wants plan hold j
  wants_same One j = refl
  wants_same Reconstruct j = λ k. not (nat_le (width k - 2) j || plans.puts_data hold.kind j)
  wants_same Modify j = λ k. nat_le (width k - 2) j || plans.puts_data hold.kind j
  wants_same Overwrite j = refl
  wants_same Recover j = refl
  wants_same All j = refl

  pub next_fix_same : plans.next_fix both ≡ plans.next_fix hold
  next_fix_same = λ k. if computed_same k then None else option_map FixAt (plans.first_from (λ j. nat_le (width k - 2) (known_count_same k) && errors_at j k) 0 (width k))

  pub next_again_same : plans.next_again both ≡ plans.next_again hold
  next_again_same = λ k. if plans.is_idle hold.kind || computed_same k || fix_out_same k then None else option_map ReadAgainAt (plans.first_from (λ j. is_in_sync (standing j k) && reading is_fixed refl j k) 0 (width k))

  pub few_same : (nat_lt (plans.knowable_count both.cells) (plans.data_count both) && list_any is_in_error both.cells) ≡ (nat_lt (plans.knowable_count hold.cells) (plans.data_count hold) && list_any is_in_error hold.cells)
  few_same = λ k. nat_lt (knowable_same k) (width k - 2) && errors_same k

  pub loss_same : plans.next_loss both ≡ (if nat_lt (plans.knowable_count hold.cells) (plans.data_count hold) && list_any is_in_error hold.cells then Some (or_lose (plans.first_from (plans.is_next_move both) 0 (length both.cells))) else None)
  loss_same = λ k. if few_same k then Some (or_lose (plans.first_from (plans.is_next_move both) 0 (length both.cells))) else None

  -- a first read of any other position is put out next as it is without the second device
  reads_at : (plan : Plan) (j : ℕ) → (is_in_sync (cell_at both.cells j).standing && is_recalled (cell_at both.cells j).reading) ≡ false → plans.is_next_read plan both j ≡ plans.is_next_read plan hold j
  reads_at plan j none =
      only (is_in_sync (cell_at both.cells j).standing) (is_recalled (cell_at both.cells j).reading) (is_unread (cell_at both.cells j).reading && plans.wants plan both j && plans.lacks plan both) none
      ∙ (λ k. is_in_sync (standing j k) && (reading is_unread refl j k && wants_same plan j k && lacks_same plan k))
      ∙ apart (is_in_sync (cell_at hold.cells j).standing) (is_unread (cell_at hold.cells j).reading) (plans.wants plan hold j) (plans.lacks plan hold)
      ∙ sym (read_alone hold alone plan j)
    where
      only : (s r x : Bool) → (s && r) ≡ false → (s && (r || x)) ≡ (s && x)
      only false r x e = refl
      only true false x e = refl
      only true true x e = absurd cc

      apart : (a b c d : Bool) → (a && (b && c && d)) ≡ (a && b && c && d)
      apart true b c d = refl
      apart false b c d = refl

  pub reads_other : (plan : Plan) (j : ℕ) → j ≢ p → plans.is_next_read plan both j ≡ plans.is_next_read plan hold j
  reads_other plan j apart = reads_at plan j
      (ap (λ (c : Cell). is_in_sync c.standing && is_recalled c.reading) (other j apart) ∙ rw ((alone j).unrecalled) (and_false (is_in_sync (cell_at hold.cells j).standing)))
    where
      and_false : (b : Bool) → (b && false) ≡ false
      and_false true = refl
      and_false false = refl

  module _ (unrecalled : IsUnrecalled second cell) where
    in_sync_out : (s : holds.Standing) → is_out s ≡ true → is_in_sync s ≡ false
    in_sync_out InSync e = absurd cc
    in_sync_out Target e = refl
    in_sync_out Out e = refl

    none_recalled : (is_in_sync two.standing && is_recalled two.reading) ≡ false
    none_recalled = by_recalled second.recalled refl
      where
        and_false : (b : Bool) → (b && false) ≡ false
        and_false true = refl
        and_false false = refl

        by_recalled : (b : Bool) → second.recalled ≡ b → (is_in_sync cell.standing && is_recalled (recalled_if b cell.reading)) ≡ false
        by_recalled true e = rw (in_sync_out cell.standing (unrecalled e)) refl
        by_recalled false e = rw (alone p).unrecalled (and_false (is_in_sync cell.standing))

    pub asked_same : plans.has_asked both ≡ plans.has_asked hold
    asked_same = any_set (λ c. not (is_out c.standing) && is_asked c.reading) hold.cells p two (by_recalled second.recalled refl)
      where
        by_recalled : (b : Bool) → second.recalled ≡ b → (not (is_out cell.standing) && is_asked (recalled_if b cell.reading)) ≡ (not (is_out cell.standing) && is_asked cell.reading)
        by_recalled true e = rw (unrecalled e) refl
        by_recalled false e = refl

    pub reads_same : (plan : Plan) (j : ℕ) → plans.is_next_read plan both j ≡ plans.is_next_read plan hold j
    reads_same plan j =
        elim (cases_eq j p) [
          | inl same ↦ reads_at plan j (subst (λ (i : ℕ). (is_in_sync (cell_at both.cells i).standing && is_recalled (cell_at both.cells i).reading) ≡ false) (sym same) (ap (λ (c : Cell). is_in_sync c.standing && is_recalled c.reading) here ∙ none_recalled))
          | inr apart ↦ reads_other plan j apart
        ]

    pub next_read_same : (plan : Plan) → plans.next_read plan both ≡ plans.next_read plan hold
    next_read_same plan = λ k. if computed_same k then None else option_map ReadAt (plans.first_from (λ j. reads_same plan j k) 0 (width k))

    pub read_out_same : plans.has_read_out both ≡ plans.has_read_out hold
    read_out_same = λ k. asked_same k || asked_again_same k

    -- what comes next, but for what is lost and what is written
    pub next_same : (plan : Plan) → plans.next (record { hold = both; plan = plan }) ≡
        next_by (plans.gives_up hold) (plans.next_again hold) (plans.next_loss both) (plans.next_read plan hold) (plans.has_asked hold) (plans.next_fix hold) (plans.has_enough plan hold) (plans.next_restore hold hold.kind) (plans.next_compute hold) (plans.next_write both)
    next_same plan = λ k. next_by (gives_up_same k) (next_again_same k) (plans.next_loss both) (next_read_same plan k) (asked_same k) (next_fix_same k) (has_enough_same plan k) (restores_same hold.kind k) (computes_same k) (plans.next_write both)
