-- Positions with one device each: of them the rules and the plans say what they would say if no position ever had two.
use Rattle.std.proofs.Common.{◌≡◌, Bool, true, false, ℕ, zero, suc, List, [], ◌∷◌, length, refl, ap, ◌∙◌, Some, None}
use Rattle.std.specs.Prelude.{◌&&◌, ◌||◌, not, Option, option_map, if◌then◌else◌}
use Rattle.std.specs.List.{list_any}
use Rattle.r6_stripe.specs.Holds.{Standing, Writing, Cell, Hold, cell_at, count_where, is_known, made_ready, ready_for, replaced, own_writing, writing_for}
use Rattle.r6_stripe.specs.Holds.Standing.{Out}
use Rattle.r6_stripe.specs.Holds.Writing.{Unwritten, Ready}
use Rattle.r6_stripe.specs.Plans.{Plan, Next, any_live, coming_count, first_from, has_computed, has_fix_out, has_write_out, is_asked, is_first_sent, is_in_sync, is_next_copy, is_next_read, is_next_write, is_out, is_ready, is_recalled, is_sent, is_unread, is_unwritten, lacks, lacks_new, next_write, puts, wants, write_at}
use Rattle.r6_stripe.specs.Plans.Next.{WriteAt}
use Rattle.r6_stripe.specs.Places.{cell_of, cells_of, is_coming, reading_of}
use Rattle.r6_stripe.specs.declared.place.PositionState.{PositionState}
use Rattle.r6_stripe.specs.declared.place.ReadState.{ReadState}
use Rattle.r6_stripe.specs.declared.place.ReadState.TheVariants as read
use Rattle.r6_stripe.proofs.Counts.{count_same}
use Rattle.r6_stripe.proofs.Steps.{first_finds}

-- the position has one device, and no read of it was put out to another one before
pub record IsAlone (cell : Cell) : Type 0 where
  pub second : cell.second ≡ Out
  pub copying : cell.copying ≡ Unwritten
  pub unrecalled : is_recalled cell.reading ≡ false

abbrev pub AreAlone : List Cell → Type 0
AreAlone cells = (i : ℕ) → IsAlone (cell_at cells i)

-- ---- those of the code

pub unrecalled_of : (r : ReadState) (block : List ℕ) → is_recalled (reading_of r block) ≡ false
unrecalled_of read.Unread block = refl
unrecalled_of read.Asked block = refl
unrecalled_of read.Unreadable block = refl
unrecalled_of read.Fixing block = refl
unrecalled_of read.Fixed block = refl
unrecalled_of read.AskedAgain block = refl
unrecalled_of read.Known block = refl
unrecalled_of read.Replaced block = refl

pub cell_alone : (place : PositionState) (block : List ℕ) → IsAlone (cell_of place block)
cell_alone place block = record { second = refl; copying = refl; unrecalled = unrecalled_of place.read block }

pub cells_alone : (places : List PositionState) (blocks : List (List ℕ)) → AreAlone (cells_of places blocks)
cells_alone [] blocks i = record { second = refl; copying = refl; unrecalled = refl }
cells_alone (place ∷ places) [] zero = cell_alone place []
cells_alone (place ∷ places) [] (suc i) = cells_alone places [] i
cells_alone (place ∷ places) (block ∷ blocks) zero = cell_alone place block
cells_alone (place ∷ places) (block ∷ blocks) (suc i) = cells_alone places blocks i

-- ---- one position

or_false : (b : Bool) → (b || false) ≡ b
or_false true = refl
or_false false = refl

pub own_alone : (cell : Cell) → IsAlone cell → own_writing cell ≡ cell.writing
own_alone cell is = ap (λ (s : Standing). writing_for s cell) is.second

-- with its new block
abbrev pub ready_one : Cell → List ℕ → Cell
ready_one cell block = record cell { reading = replaced cell.reading; writing = Ready block }

pub ready_alone : (cell : Cell) (block : List ℕ) → IsAlone cell → made_ready cell block ≡ ready_one cell block
ready_alone cell block is = ap (λ (s : Standing). ready_for s cell block) is.second

-- the second device gets no write
no_copy : (hold : Hold) (i : ℕ) → IsAlone (cell_at hold.cells i) → is_next_copy hold i ≡ false
no_copy hold i is =
    ap (λ (s : Standing). not (is_out (cell_at hold.cells i).standing) && is_first_sent s (cell_at hold.cells i).writing && is_ready (cell_at hold.cells i).copying) is.second
    ∙ none (is_out (cell_at hold.cells i).standing) (is_ready (cell_at hold.cells i).copying)
  where
    none : (a b : Bool) → (not a && false && b) ≡ false
    none true b = refl
    none false b = refl

-- ---- a row

module _ (hold : Hold) (alone : AreAlone hold.cells) where
  pub lacks_alone : (i : ℕ) → lacks_new hold i ≡ (not (is_out (cell_at hold.cells i).standing) && is_unwritten (cell_at hold.cells i).writing && puts hold hold.kind i)
  lacks_alone i = ap (λ (w : Writing). not (is_out (cell_at hold.cells i).standing) && is_unwritten w && puts hold hold.kind i) (own_alone (cell_at hold.cells i) (alone i))

  pub read_alone : (plan : Plan) (i : ℕ) → is_next_read plan hold i ≡ (is_in_sync (cell_at hold.cells i).standing && is_unread (cell_at hold.cells i).reading && wants plan hold i && lacks plan hold)
  read_alone plan i =
      ap (λ (b : Bool). is_in_sync (cell_at hold.cells i).standing && (b || (is_unread (cell_at hold.cells i).reading && wants plan hold i && lacks plan hold))) (alone i).unrecalled
      ∙ apart (is_in_sync (cell_at hold.cells i).standing) (is_unread (cell_at hold.cells i).reading) (wants plan hold i) (lacks plan hold)
    where
      apart : (a b c d : Bool) → (a && (b && c && d)) ≡ (a && b && c && d)
      apart true b c d = refl
      apart false b c d = refl

any_same : (test other : Cell → Bool) (cells : List Cell) → ((i : ℕ) → test (cell_at cells i) ≡ other (cell_at cells i)) → list_any test cells ≡ list_any other cells
any_same test other [] same = refl
any_same test other (cell ∷ cells) same =
    let here : test cell ≡ other cell = same 0 in
    (λ k. here k || any_same test other cells (λ i. same (suc i)) k)

any_none : (test : Cell → Bool) (cells : List Cell) → ((i : ℕ) → test (cell_at cells i) ≡ false) → list_any test cells ≡ false
any_none test [] none = refl
any_none test (cell ∷ cells) none =
    let here : test cell ≡ false = none 0 in
    ap (λ (b : Bool). b || list_any test cells) here ∙ any_none test cells (λ i. none (suc i))

count_same_in : (test other : Cell → Bool) (cells : List Cell) → ((i : ℕ) → test (cell_at cells i) ≡ other (cell_at cells i)) → count_where test cells ≡ count_where other cells
count_same_in test other [] same = refl
count_same_in test other (cell ∷ cells) same =
    let here : test cell ≡ other cell = same 0 in
    rw (here, count_same_in test other cells (λ i. same (suc i))) refl

pub computed_alone : (hold : Hold) → AreAlone hold.cells → has_computed hold ≡ list_any (λ cell. not (is_unwritten cell.writing)) hold.cells
computed_alone hold alone =
    any_same (λ cell. not (is_unwritten cell.writing) || not (is_unwritten cell.copying)) (λ cell. not (is_unwritten cell.writing)) hold.cells
    (λ i. ap (λ (w : Writing). not (is_unwritten (cell_at hold.cells i).writing) || not (is_unwritten w)) (alone i).copying ∙ or_false (not (is_unwritten (cell_at hold.cells i).writing)))

pub write_out_alone : (hold : Hold) → AreAlone hold.cells → has_write_out hold ≡ (has_fix_out hold || any_live (λ cell. is_sent cell.writing) hold)
write_out_alone hold alone =
    let none = any_none (λ cell. not (is_out cell.second) && is_sent cell.copying) hold.cells (λ i. ap (λ (s : Standing). not (is_out s) && is_sent (cell_at hold.cells i).copying) (alone i).second) in
    ap (λ (b : Bool). has_fix_out hold || (any_live (λ cell. is_sent cell.writing) hold || b)) none
    ∙ ap (λ (b : Bool). has_fix_out hold || b) (or_false (any_live (λ cell. is_sent cell.writing) hold))

pub coming_alone : (cells : List Cell) → AreAlone cells → coming_count cells ≡ count_where (λ cell. is_known cell.reading || (is_asked cell.reading && not (is_out cell.standing))) cells
coming_alone cells alone =
    count_same_in _ _ cells
    (λ i. ap (λ (b : Bool). is_known (cell_at cells i).reading || (b && not (is_out (cell_at cells i).standing)))
    (ap (λ (b : Bool). is_asked (cell_at cells i).reading || b) (alone i).unrecalled ∙ or_false (is_asked (cell_at cells i).reading)))

pub coming_is : (cells : List Cell) → AreAlone cells → coming_count cells ≡ count_where is_coming cells
coming_is cells alone = coming_alone cells alone ∙ count_same _ is_coming (λ cell. ap (λ (b : Bool). is_known cell.reading || b) (turn (is_asked cell.reading) (not (is_out cell.standing)))) cells
  where
    turn : (a b : Bool) → (a && b) ≡ (b && a)
    turn true true = refl
    turn true false = refl
    turn false true = refl
    turn false false = refl

pub first_same : (test other : ℕ → Bool) (start count : ℕ) → ((i : ℕ) → test i ≡ other i) → first_from test start count ≡ first_from other start count
first_same test other start zero same = refl
first_same test other start (suc count) same = rw (same start, first_same test other (suc start) count same) refl

pub next_write_alone : (hold : Hold) → AreAlone hold.cells → next_write hold ≡ option_map WriteAt (first_from (is_next_write hold) 0 (length hold.cells))
next_write_alone hold alone =
    ap (option_map (write_at hold)) (first_same (λ i. is_next_write hold i || is_next_copy hold i) (is_next_write hold) 0 (length hold.cells)
    (λ i. ap (λ (b : Bool). is_next_write hold i || b) (no_copy hold i (alone i)) ∙ or_false (is_next_write hold i)))
    ∙ writes (first_from (is_next_write hold) 0 (length hold.cells)) refl
  where
    writes : (o : Option ℕ) → first_from (is_next_write hold) 0 (length hold.cells) ≡ o → option_map (write_at hold) o ≡ option_map WriteAt o
    writes None e = refl
    writes (Some i) e = ap (λ (b : Bool). Some (if b then WriteAt i else Rattle.r6_stripe.specs.Plans.Next.CopyAt i)) (first_finds (is_next_write hold) 0 (length hold.cells) i e)
