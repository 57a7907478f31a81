-- A hold begins with a second device in sync at a position.
use Rattle.std.proofs.Common.{◌≡◌, ◌≢◌, inl, Bool, true, false, ℕ, zero, suc, ◌+◌, ◌-◌, ◌<◌, List, [], ◌∷◌, length, get_or, set, map, refl, sym, ◌∙◌, ap, arith, Some, None}
use Rattle.std.specs.Prelude.{◌||◌, not, nat_le, if◌then◌else◌}
use Rattle.std.proofs.lemmas.Bool.{ne_eqb}
use Rattle.std.proofs.lemmas.List.{get_or-set_other, length-map, length-set, set_comm}
use Rattle.r6_stripe.specs.Holds.{Cell, Hold, Kind, begun, cell_at, no_cell, resting, standing_cell, targeted, with_target}
use Rattle.r6_stripe.specs.Holds.Standing.{InSync, Out}
use Rattle.r6_stripe.specs.Holds.Kind.{Idle, Read, Write, Rebuild, Check, Repair}
use Rattle.r6_stripe.specs.Plans as plans
use Rattle.r6_stripe.specs.Plans.{Plan, fewest_reads, is_in_sync}
use Rattle.r6_stripe.specs.Seconds.{IsSecondSound, beside, cells_beside, with_second}
use Rattle.r6_stripe.specs.Steps.{Held, alone_if, begun_beside, begun_held, but_target, resting_beside}
use Rattle.r6_stripe.specs.declared.second.CopyState.TheVariants as copy
use Rattle.r6_stripe.specs.declared.second.Doubling.TheVariants as doubling
use Rattle.r6_stripe.specs.declared.second.Second.{Second}
use Rattle.r6_stripe.specs.declared.place.Standing.TheVariants as state
use Rattle.r6_stripe.proofs.Alone.{AreAlone}
use Rattle.r6_stripe.proofs.Beside.{IsTwin, both, standing, width}

-- the second device as it begins
abbrev pub begun_second : ℕ → Second
begun_second position = record { position = position; state = state.InSync; copy = copy.Following; doubling = doubling.Single; recalled = false }

set_mapped : {A B : Type 0} (f : A → B) (xs : List A) (i : ℕ) (x : A) → map f (set xs i x) ≡ set (map f xs) i (f x)
set_mapped f [] i x = refl
set_mapped f (y ∷ xs) zero x = refl
set_mapped f (y ∷ xs) (suc i) x = λ j. f y ∷ set_mapped f xs i x j

abbrev standings : List Bool → List Cell
standings flags = map standing_cell (map alone_if flags)

standing_of_flag : (flags : List Bool) (i : ℕ) → i < length flags → get_or flags i false ≡ true → cell_at (standings flags) i ≡ standing_cell (InSync, Out)
standing_of_flag [] i below e = absurd (omega arith)
standing_of_flag (flag ∷ flags) zero below e = ap (λ (b : Bool). standing_cell (alone_if b)) e
standing_of_flag (flag ∷ flags) (suc i) below e = standing_of_flag flags i (omega arith) e

-- it stands there as it is at rest
placed : (flags : List Bool) (p : ℕ) (block : List ℕ) → p < length flags → get_or flags p false ≡ true → cells_beside (begun_second p) block (standings flags) ≡ map standing_cell (set (map alone_if flags) p (InSync, InSync))
placed flags p block below e =
    ap (λ (c : Cell). set (standings flags) p (beside (begun_second p) block c)) (standing_of_flag flags p below e)
    ∙ sym (set_mapped standing_cell (map alone_if flags) p (InSync, InSync))

begun_cells : (flags : List Bool) (kind : Kind) (p : ℕ) (block : List ℕ) → p < length flags → get_or flags p false ≡ true → kind ≢ Rebuild p →
    cells_beside (begun_second p) block (with_target kind (standings (but_target kind flags))) ≡ with_target kind (map standing_cell (resting_beside kind p flags))
begun_cells flags Idle p block below e apart = placed flags p block below e
begun_cells flags (Read index) p block below e apart = placed flags p block below e
begun_cells flags (Write batch) p block below e apart = placed flags p block below e
begun_cells flags Check p block below e apart = placed flags p block below e
begun_cells flags Repair p block below e apart = placed flags p block below e
begun_cells flags (Rebuild target) p block below e apart =
    let other : target ≢ p = (λ same. apart (ap Rebuild same)) in
    let back : p ≢ target = (λ same. other (sym same)) in
    let left : List Bool = set flags target false in
    let cells : List Cell = standings left in
    let aim : Cell = targeted (cell_at cells target).standing (cell_at cells target) in
    let two : Cell = beside (begun_second p) block (cell_at cells p) in
    let is : set cells p two ≡ map standing_cell (set (map alone_if left) p (InSync, InSync)) = placed left p block (omega (arith, below, length-set flags target false)) (get_or-set_other flags target p false false back ∙ e) in
    ap (λ (c : Cell). set (set cells target aim) p (beside (begun_second p) block c)) (get_or-set_other cells target p aim no_cell back)
    ∙ set_comm cells target p aim two other
    ∙ ap (λ (c : Cell). set (set cells p two) target (targeted c.standing c)) (sym (get_or-set_other cells p target two no_cell other))
    ∙ ap (λ (cs : List Cell). set cs target (targeted (cell_at cs target).standing (cell_at cs target))) is
    ∙ ap (λ (b : Bool). with_target (Rebuild target) (map standing_cell (set (map alone_if left) p (InSync, if b then Out else InSync)))) (sym (ne_eqb target p other))

-- a second device changes no plan
plan_same : (second : Second) (block : List ℕ) (hold : Hold) (alone : AreAlone hold.cells) (twin : IsTwin second block hold) (kind : Kind) → plans.first_plan (both second block hold alone twin) kind ≡ plans.first_plan hold kind
plan_same second block hold alone twin Idle = refl
plan_same second block hold alone twin (Read index) = λ k. if is_in_sync (standing second block hold alone twin index k) then Plan.One else Plan.Recover
plan_same second block hold alone twin (Write batch) =
    (λ k. fewest_reads
    (plans.each_below (λ j. not (not (nat_le (width second block hold alone twin k - 2) j || plans.puts_data hold.kind j)) || is_in_sync (standing second block hold alone twin j k)) (width second block hold alone twin k - 2))
    (plans.each_below (λ j. not (nat_le (width second block hold alone twin k - 2) j || plans.puts_data hold.kind j) || is_in_sync (standing second block hold alone twin j k)) (width second block hold alone twin k - 2))
    (width second block hold alone twin k - 2) (length batch)
    ((if is_in_sync (standing second block hold alone twin (width second block hold alone twin k - 2) k) then 1 else 0)
    + (if is_in_sync (standing second block hold alone twin (width second block hold alone twin k - 2 + 1) k) then 1 else 0)))
plan_same second block hold alone twin (Rebuild at) = λ k. if is_in_sync (standing second block hold alone twin at k) then Plan.One else Plan.Recover
plan_same second block hold alone twin Check = refl
plan_same second block hold alone twin Repair = refl

wide : (flags : List Bool) → length (standings flags) ≡ length flags
wide flags = length-map (map alone_if flags) standing_cell ∙ length-map flags alone_if

pub begun_wide : (size : ℕ) (flags : List Bool) (kind : Kind) → length (begun_held size flags kind).planned.hold.cells ≡ length flags
begun_wide size flags Idle = wide flags
begun_wide size flags (Read index) = wide flags
begun_wide size flags (Write batch) = wide flags
begun_wide size flags (Rebuild target) =
    let cells : List Cell = standings (set flags target false) in
    length-set cells target (targeted (cell_at cells target).standing (cell_at cells target)) ∙ wide (set flags target false) ∙ length-set flags target false
begun_wide size flags Check = wide flags
begun_wide size flags Repair = wide flags

pub begun_both : (size : ℕ) (flags : List Bool) (kind : Kind) (p : ℕ) (block : List ℕ) → p < length flags → get_or flags p false ≡ true → kind ≢ Rebuild p → AreAlone (begun_held size flags kind).planned.hold.cells →
    with_second (Some (begun_second p)) block false (begun_held size flags kind) ≡ begun_beside size flags kind p
begun_both size flags kind p block below e apart alone =
    let hold : Hold = begun (resting size (map alone_if (but_target kind flags))) kind in
    let twin : IsTwin (begun_second p) block hold = record { inside = omega (arith, below, begun_wide size flags kind); untargeted = (λ f. cc); paired = λ f. f } in
    let cells = begun_cells flags kind p block below e apart in
    let holds : (record hold { cells = cells_beside (begun_second p) block hold.cells }) ≡ begun (resting size (resting_beside kind p flags)) kind = ap (λ (cs : List Cell). record hold { cells = cs }) cells in
    (λ k. record {
      planned = record { hold = holds k; plan = (sym (plan_same (begun_second p) block hold alone twin kind) ∙ ap (λ (h : Hold). plans.first_plan h kind) holds) k };
      away = map (λ b. false) flags;
      class = None;
      second_away = false;
    })

-- the position as the hold finds it, and its second device then
pub begun_cell : (size : ℕ) (flags : List Bool) (kind : Kind) (p : ℕ) → p < length flags → get_or flags p false ≡ true → kind ≢ Rebuild p → cell_at (begun_held size flags kind).planned.hold.cells p ≡ standing_cell (InSync, Out)
begun_cell size flags Idle p below e apart = standing_of_flag flags p below e
begun_cell size flags (Read index) p below e apart = standing_of_flag flags p below e
begun_cell size flags (Write batch) p below e apart = standing_of_flag flags p below e
begun_cell size flags Check p below e apart = standing_of_flag flags p below e
begun_cell size flags Repair p below e apart = standing_of_flag flags p below e
begun_cell size flags (Rebuild target) p below e apart =
    let back : p ≢ target = (λ same. apart (ap Rebuild (sym same))) in
    let cells : List Cell = standings (set flags target false) in
    get_or-set_other cells target p (targeted (cell_at cells target).standing (cell_at cells target)) no_cell back
    ∙ standing_of_flag (set flags target false) p (omega (arith, below, length-set flags target false)) (get_or-set_other flags target p false false back ∙ e)

pub begun_sound : (held : Held) (away : Bool) (p : ℕ) → p < length held.planned.hold.cells → cell_at held.planned.hold.cells p ≡ standing_cell (InSync, Out) → away ≡ false → IsSecondSound held away (begun_second p)
begun_sound held away p inside is home = record {
  within = inside;
  untargeted = λ e. cc;
  beside_one = λ e. ap (λ (c : Cell). c.standing) is;
  follows = λ e. inl refl;
  early = λ e. ((λ f. let g = sym (ap (λ (c : Cell). c.writing) is) ∙ f in cc), λ f. let g = sym (ap (λ (c : Cell). c.writing) is) ∙ f in cc);
  owed = λ e f. cc;
  over = λ e. absurd cc;
  computed = λ u f. absurd (f refl);
  following_home = λ e. home;
  ready_home = λ e. home;
  confirmed_home = λ e. home;
  alone = λ e. absurd cc;
  recalled = λ e. absurd cc;
}
