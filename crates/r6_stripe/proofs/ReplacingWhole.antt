-- A row's hold with either second device, by the hold without the target of a rebuild.
use Rattle.std.proofs.Common.{◌≡◌, inl, inr, Bool, true, false, ℕ, zero, suc, ◌<◌, List, [], ◌∷◌, length, get_or, set, refl, sym, ◌∙◌, ap, subst, arith, Some, None, Option}
use Rattle.std.specs.Prelude.{not, ◌&&◌, ◌||◌}
use Rattle.std.specs.List.{list_any}
use Rattle.std.proofs.lemmas.Bool.{false_from_ne_true}
use Rattle.r6_stripe.specs.Holds.{Cell, Kind, cell_at, all_known, is_known, passes_over, wants_all}
use Rattle.r6_stripe.specs.Places.{cell_of, is_read_out, no_place, standing_of}
use Rattle.r6_stripe.specs.Plans as plans
use Rattle.r6_stripe.specs.Replacements.{AreUnlent, IsReplacing, away_beside, apart_beside, held_beside, is_gone, replacing, with_replacement}
use Rattle.r6_stripe.specs.RowViews.{IsRowSound, row_of_state}
use Rattle.r6_stripe.specs.Seconds.{IsSoundBeside, is_passed, with_second}
use Rattle.r6_stripe.specs.Sound.{IsSound}
use Rattle.r6_stripe.specs.Checks.{IsClassed}
use Rattle.r6_stripe.specs.Steps.{Held, is_away}
use Rattle.r6_stripe.specs.Views.{held_of, hold_of, plan_of}
use Rattle.r6_stripe.specs.WholeViews.{IsSoundReplacing, IsWholeSound, whole_of_state}
use Rattle.r6_stripe.specs.declared.plan.Plan.{Plan}
use Rattle.r6_stripe.specs.declared.plan.Plan.TheVariants as plan
use Rattle.r6_stripe.specs.declared.replacement.Stage.{Stage}
use Rattle.r6_stripe.specs.declared.replacement.Stage.TheVariants as stage
use Rattle.r6_stripe.specs.declared.replacement.Replacement.{Replacement}
use Rattle.r6_stripe.specs.declared.row.RowState.{RowState}
use Rattle.r6_stripe.specs.declared.second.Second.{Second}
use Rattle.r6_stripe.specs.declared.state.HoldState.{HoldState}
use Rattle.r6_stripe.specs.declared.whole.WholeState.{WholeState}
use Rattle.r6_stripe.proofs.BesideOption.{size_option, width_option}
use Rattle.r6_stripe.proofs.Places.{cell_at-cells_of, length-cells_of}
use Rattle.r6_stripe.proofs.Replacing.{at_position, error_is, live_test, same_at, target_is, width}

-- ---- the hold that reads

module _ (row : RowState) (r : Replacement) (sound : IsSoundReplacing row (Some r)) where
  pub row_is : row_of_state row ≡ record (held_of row.hold) { second_away = row.spare_away }
  row_is = ap (λ (o : Option Second). with_second o row.spare row.spare_away (held_of row.hold)) sound.0

  pub position_below : r.position < length row.hold.places
  position_below =
      let cells = ap (λ (h : Held). length h.planned.hold.cells) row_is in
      omega (arith, sound.1.within, cells, length-cells_of row.hold.places row.hold.blocks.items)

  pub cell_is : cell_at (row_of_state row).planned.hold.cells r.position ≡ cell_of (get_or row.hold.places r.position no_place) (get_or row.hold.blocks.items r.position [])
  cell_is = ap (λ (h : Held). cell_at h.planned.hold.cells r.position) row_is ∙ cell_at-cells_of row.hold.places row.hold.blocks.items r.position no_place position_below

  -- whether the target is there
  pub target_there : plans.has_target (cell_at (held_beside r (row_of_state row)).planned.hold.cells r.position) ≡ (not (is_gone r.stage) && not (plans.is_out (standing_of (get_or row.hold.places r.position no_place).state)))
  target_there =
      let cells : List Cell = (row_of_state row).planned.hold.cells in
      ap plans.has_target (at_position r.stage r.written r.position cells sound.1.within)
      ∙ target_is r.stage r.written (cell_at cells r.position) (sound.1.sources r.position).standing
      ∙ ap (λ (c : Cell). not (is_gone r.stage) && not (plans.is_out c.standing)) cell_is

module _ (whole : WholeState) (r : Replacement) (sound : IsWholeSound whole) (is : whole.replacement ≡ Some r) where
  pub source : IsSoundReplacing whole.row (Some r)
  source = subst (IsSoundReplacing whole.row) is sound.replacement

  pub seen_is : whole_of_state whole ≡ held_beside r (row_of_state whole.row)
  seen_is = ap (λ (o : Option Replacement). with_replacement o (row_of_state whole.row)) is

-- ---- what the target doesn't change

pub width_whole : (o : Option Replacement) (held : Held) → length (with_replacement o held).planned.hold.cells ≡ length held.planned.hold.cells
width_whole None held = refl
width_whole (Some r) held = width r.stage r.written r.position held.planned.hold.cells

pub size_whole : (o : Option Replacement) (held : Held) → (with_replacement o held).planned.hold.size ≡ held.planned.hold.size
size_whole None held = refl
size_whole (Some r) held = refl

pub class_whole : (o : Option Replacement) (held : Held) → (with_replacement o held).class ≡ held.class
class_whole None held = refl
class_whole (Some r) held = refl

pub read_out_whole : (row : RowState) (o : Option Replacement) → IsSoundReplacing row o → (i : ℕ) → is_read_out (cell_at (with_replacement o (row_of_state row)).planned.hold.cells i) ≡ is_read_out (cell_at (row_of_state row).planned.hold.cells i)
read_out_whole row None sound i = refl
read_out_whole row (Some r) sound i =
    let cells : List Cell = (row_of_state row).planned.hold.cells in
    same_at is_read_out r.stage r.written r.position cells sound.1.within (live_test plans.is_asked (λ block. refl) r.stage r.written (cell_at cells r.position)) i

pub errors_whole : (row : RowState) (o : Option Replacement) → IsSoundReplacing row o → (i : ℕ) → plans.is_in_error (cell_at (with_replacement o (row_of_state row)).planned.hold.cells i) ≡ plans.is_in_error (cell_at (row_of_state row).planned.hold.cells i)
errors_whole row None sound i = refl
errors_whole row (Some r) sound i =
    let cells : List Cell = (row_of_state row).planned.hold.cells in
    same_at plans.is_in_error r.stage r.written r.position cells sound.1.within (error_is r.stage r.written (cell_at cells r.position) sound.1.moved) i

pub passed_whole : (row : RowState) (o : Option Replacement) → IsSoundReplacing row o → (i : ℕ) → is_passed (cell_at (with_replacement o (row_of_state row)).planned.hold.cells i).doubling ≡ is_passed (cell_at (row_of_state row).planned.hold.cells i).doubling
passed_whole row None sound i = refl
passed_whole row (Some r) sound i =
    let cells : List Cell = (row_of_state row).planned.hold.cells in
    same_at (λ c. is_passed c.doubling) r.stage r.written r.position cells sound.1.within (by_stage r.stage ∙ sym (ap is_passed (sound.1.sources r.position).doubling)) i
  where
    by_stage : (s : Stage) → is_passed (replacing s r.written (cell_at (row_of_state row).planned.hold.cells r.position)).doubling ≡ false
    by_stage stage.Beside = refl
    by_stage stage.Moved = refl
    by_stage stage.Dropped = refl

pub whole_width : (w : WholeState) → length (whole_of_state w).planned.hold.cells ≡ length w.row.hold.places
whole_width w =
    width_whole w.replacement (row_of_state w.row)
    ∙ width_option w.row.second w.row.spare w.row.spare_away (held_of w.row.hold)
    ∙ length-cells_of w.row.hold.places w.row.hold.blocks.items

pub whole_size : (w : WholeState) → (whole_of_state w).planned.hold.size ≡ w.row.hold.len
whole_size w = size_whole w.replacement (row_of_state w.row) ∙ size_option w.row.second w.row.spare w.row.spare_away (held_of w.row.hold)

-- ---- buffers

-- where two flags are exchanged, as many are set
any_moved : (away : List Bool) (p : ℕ) (apart : Bool) → p < length away → (get_or away p false || list_any (λ a. a) (set away p apart)) ≡ (apart || list_any (λ a. a) away)
any_moved [] p apart below = absurd (omega arith)
any_moved (first ∷ away) zero apart below = turn first apart (list_any (λ a. a) away)
  where
    turn : (a b c : Bool) → (a || (b || c)) ≡ (b || (a || c))
    turn true true c = refl
    turn true false c = refl
    turn false true c = refl
    turn false false c = refl
any_moved (first ∷ away) (suc p) apart below =
    turn (get_or away p false) first (list_any (λ a. a) (set away p apart))
    ∙ ap (λ (b : Bool). first || b) (any_moved away p apart (omega arith))
    ∙ turn first apart (list_any (λ a. a) away)
  where
    turn : (a b c : Bool) → (a || (b || c)) ≡ (b || (a || c))
    turn true true c = refl
    turn true false c = refl
    turn false true c = refl
    turn false false c = refl

neither : (a b c d : Bool) → (a || b) ≡ (c || d) → (not a && not b) ≡ (not c && not d)
neither a b c d e = demorgan a b ∙ ap not e ∙ sym (demorgan c d)
  where
    demorgan : (a b : Bool) → (not a && not b) ≡ not (a || b)
    demorgan true b = refl
    demorgan false b = refl

pub home_whole : (row : RowState) (o : Option Replacement) → IsSoundReplacing row o →
    (not (with_replacement o (row_of_state row)).second_away && not (list_any (λ a. a) (with_replacement o (row_of_state row)).away)) ≡ (not (row_of_state row).second_away && not (list_any (λ a. a) (row_of_state row).away))
home_whole row None sound = refl
home_whole row (Some r) sound = by_stage r.stage
  where
    by_stage : (s : Stage) → (not (apart_beside s r.position (row_of_state row).away (row_of_state row).second_away) && not (list_any (λ a. a) (away_beside s r.position (row_of_state row).away (row_of_state row).second_away)))
        ≡ (not (row_of_state row).second_away && not (list_any (λ a. a) (row_of_state row).away))
    by_stage stage.Beside = refl
    by_stage stage.Moved =
        neither (get_or (row_of_state row).away r.position false) (list_any (λ a. a) (set (row_of_state row).away r.position (row_of_state row).second_away)) (row_of_state row).second_away (list_any (λ a. a) (row_of_state row).away)
        (any_moved (row_of_state row).away r.position (row_of_state row).second_away (omega (arith, sound.1.within, sound.1.wide)))
    by_stage stage.Dropped = refl

-- a known block's buffer is home
pub known_home : (held : Held) (r : Replacement) → IsReplacing held r → is_known (cell_at held.planned.hold.cells r.position).reading ≡ true → is_away held r.position ≡ false
known_home held r is known = false_from_ne_true (is_away held r.position) (λ away. let e = sym known ∙ is.unlent r.position away in cc)

-- ---- a row whose hold has no task that reads every position

pub rests_sound : (hold : HoldState) (second : Option Second) (spare : List ℕ) (away : Bool) → IsSound hold → wants_all (hold_of hold).kind ≡ false → hold.class ≡ None → hold.prepared ≡ false → second ≡ None → (away ≡ false → length spare ≡ hold.len) →
    IsRowSound (record { hold = hold; second = second; spare = spare; spare_away = away })
rests_sound hold second spare away sound wants unclassed unprepared none long = record {
  sound = sound;
  classed = subst (IsClassed (hold_of hold)) (sym unclassed) (ap (λ (b : Bool). b && (not (passes_over (hold_of hold)) && all_known (hold_of hold).cells)) wants);
  prepared = λ e. absurd (let f = sym unprepared ∙ e in cc);
  spare = long;
  second = subst (IsSoundBeside (held_of hold) away) (sym none) tt;
}

pub idle_unprepared : (row : RowState) → IsRowSound row → (hold_of row.hold).kind ≡ Kind.Idle → row.hold.prepared ≡ false
idle_unprepared row sound idle = false_from_ne_true row.hold.prepared (λ e. let f = sym (ap (plans.has_lost (hold_of row.hold)) idle) ∙ (sound.prepared e).goes_on in cc)

module _ (row : RowState) (r : Replacement) (sound : IsRowSound row) (source : IsSoundReplacing row (Some r)) where
  pub idle : (hold_of row.hold).kind ≡ Kind.Idle
  idle = sym (ap (λ (h : Held). h.planned.hold.kind) (row_is row r source)) ∙ source.1.untasked

  pub unclassed : row.hold.class ≡ None
  unclassed = sym (ap (λ (h : Held). h.class) (row_is row r source)) ∙ source.1.unclassed

  pub unprepared : row.hold.prepared ≡ false
  unprepared = idle_unprepared row sound idle

  pub unlent : AreUnlent (held_of row.hold)
  unlent i = subst (λ (h : Held). is_away h i ≡ true → is_known (cell_at h.planned.hold.cells i).reading ≡ false) (row_is row r source) (source.1.unlent i)

  -- the row with another hold
  pub with_hold : (hold : HoldState) (spare : List ℕ) (away : Bool) → IsSound hold → (hold_of hold).kind ≡ Kind.Idle → hold.class ≡ None → hold.prepared ≡ false → (away ≡ false → length spare ≡ hold.len) →
      IsRowSound (record { hold = hold; second = row.second; spare = spare; spare_away = away })
  with_hold hold spare away is none class prepared long = rests_sound hold row.second spare away is (ap wants_all none) class prepared source.0 long

pub row_alone : (hold : HoldState) (second : Option Second) (spare : List ℕ) (away : Bool) → second ≡ None → row_of_state (record { hold = hold; second = second; spare = spare; spare_away = away }) ≡ record (held_of hold) { second_away = away }
row_alone hold second spare away none = ap (λ (o : Option Second). with_second o spare away (held_of hold)) none

-- what the hold does the row does
pub left_is : (row : RowState) (r : Replacement) → IsSoundReplacing row (Some r) → (hold : HoldState) (f : Held → Held) → ((h : Held) (away : Bool) → record (f h) { second_away = away } ≡ f (record h { second_away = away })) → held_of hold ≡ f (held_of row.hold) →
    row_of_state (record { hold = hold; second = row.second; spare = row.spare; spare_away = row.spare_away }) ≡ f (row_of_state row)
left_is row r source hold f passes e =
    row_alone hold row.second row.spare row.spare_away source.0
    ∙ ap (λ (h : Held). record h { second_away = row.spare_away }) e
    ∙ passes (held_of row.hold) row.spare_away
    ∙ ap f (sym (row_is row r source))

-- a plan that isn't to read one block is to recover
pub plan_recover : (row : RowState) (r : Replacement) → IsSoundReplacing row (Some r) → (row.hold.plan ≡ plan.One → ⊥) → (row_of_state row).planned.plan ≡ plans.Plan.Recover
plan_recover row r source other = elim source.1.plan [
  | inl one ↦ absurd (other (one_is row.hold.plan (sym (ap (λ (h : Held). h.planned.plan) (row_is row r source)) ∙ one)))
  | inr recover ↦ recover
]
  where
    one_is : (q : Plan) → plan_of q ≡ plans.Plan.One → q ≡ plan.One
    one_is plan.One e = refl
    one_is plan.Reconstruct e = absurd cc
    one_is plan.Modify e = absurd cc
    one_is plan.Overwrite e = absurd cc
    one_is plan.Recover e = absurd cc
    one_is plan.All e = absurd cc
