-- How a rebuild of a position in sync begins.
use Rattle.std.proofs.Common.{◌≡◌, ◌≢◌, ◌⊎◌, inl, inr, Bool, true, false, ℕ, zero, suc, ◌<◌, ◌≤◌, List, [], ◌∷◌, length, map, get_or, set, refl, sym, ◌∙◌, ap, subst, arith}
use Rattle.std.specs.Prelude.{◌==◌, if◌then◌else◌}
use Rattle.std.proofs.lemmas.Bool.{eq-eqb}
use Rattle.std.proofs.lemmas.List.{get_or-set_same, length-map, map-set, set-set}
use Rattle.r6_stripe.specs.Holds.{Standing, Cell, Kind, Hold, begun, cell_at, no_cell, resting, standing_cell, targeted}
use Rattle.r6_stripe.specs.Holds.Standing.{InSync, Target, Out}
use Rattle.r6_stripe.specs.Holds.Kind.{Rebuild}
use Rattle.r6_stripe.specs.Plans.{first_plan, is_in_sync}
use Rattle.r6_stripe.specs.Plans.Plan.{One, Recover}
use Rattle.r6_stripe.specs.Replacements.{IsReplacing, IsSource, held_beside, replacing, replacing_at, source_held}
use Rattle.r6_stripe.specs.Steps.{alone_if, begun_beside, resting_beside, standing_if}
use Rattle.r6_stripe.specs.declared.replacement.Stage.TheVariants as stage
use Rattle.r6_stripe.specs.declared.replacement.Written.TheVariants as written
use Rattle.r6_stripe.specs.declared.replacement.Replacement.{Replacement}

abbrev pub first_replacement : ℕ → Replacement
first_replacement position = record { position = position; stage = stage.Beside; written = written.Unwritten; closed = false }

abbrev sources : List Bool → List Cell
sources in_sync = map standing_cell (map alone_if in_sync)

source_at : (in_sync : List Bool) (i : ℕ) → (cell_at (sources in_sync) i ≡ no_cell) ⊎ ((b : Bool) × (cell_at (sources in_sync) i ≡ standing_cell (alone_if b)))
source_at [] i = inl refl
source_at (b ∷ in_sync) zero = inr (b, refl)
source_at (b ∷ in_sync) (suc i) = source_at in_sync i

source_in : (in_sync : List Bool) (i : ℕ) → get_or in_sync i false ≡ true → cell_at (sources in_sync) i ≡ standing_cell (InSync, Out)
source_in [] i e = absurd cc
source_in (b ∷ in_sync) zero e = ap (λ (x : Bool). standing_cell (alone_if x)) e
source_in (b ∷ in_sync) (suc i) e = source_in in_sync i e

is_one : (cell : Cell) → (cell ≡ no_cell) ⊎ ((b : Bool) × (cell ≡ standing_cell (alone_if b))) → IsSource cell × (cell.reading ≡ Rattle.r6_stripe.specs.Holds.Reading.Unread)
is_one cell (inl e) = (subst IsSource (sym e) (record { standing = λ f. cc; kept = λ f. cc; unrecalled = refl; writing = refl; second = refl; copying = refl; doubling = refl }), ap (λ (c : Cell). c.reading) e)
is_one cell (inr (b, e)) = (subst IsSource (sym e) (record { standing = never b; kept = λ f. cc; unrecalled = refl; writing = refl; second = refl; copying = refl; doubling = refl }), ap (λ (c : Cell). c.reading) e)
  where
    never : (b : Bool) → standing_if b ≢ Target
    never true f = cc
    never false f = cc

none_away : (in_sync : List Bool) (i : ℕ) → get_or (map (λ b. false) in_sync) i false ≡ false
none_away [] i = refl
none_away (b ∷ in_sync) zero = refl
none_away (b ∷ in_sync) (suc i) = none_away in_sync i

pub begun_kept : (size : ℕ) (in_sync : List Bool) (p : ℕ) → p < length in_sync → 4 ≤ length in_sync → get_or in_sync p false ≡ true → IsReplacing (source_held size in_sync) (first_replacement p)
begun_kept size in_sync p below four there =
    let wide : length (sources in_sync) ≡ length in_sync = length-map (map alone_if in_sync) standing_cell ∙ length-map in_sync alone_if in
    let one : (i : ℕ) → IsSource (cell_at (sources in_sync) i) × ((cell_at (sources in_sync) i).reading ≡ Rattle.r6_stripe.specs.Holds.Reading.Unread) = λ i. is_one (cell_at (sources in_sync) i) (source_at in_sync i) in
    record {
      within = omega (arith, below, wide);
      wide = length-map in_sync (λ b. false) ∙ sym wide;
      enough_positions = omega (arith, four, wide);
      untasked = refl;
      unclassed = refl;
      uncut = refl;
      sources = λ i. (one i).0;
      unlent = λ i gone. absurd (let e = sym (none_away in_sync i) ∙ gone in cc);
      busy = λ i gone. absurd (let e = sym (none_away in_sync i) ∙ gone in cc);
      plan = inl refl;
      own = λ e i apart. (one i).1;
      tried = λ e. absurd cc;
      moved = λ e. absurd cc;
      home = λ e. refl;
      known = λ e. absurd (e refl);
      over = λ e. absurd (e refl);
      enough = λ e. absurd (e refl);
    }

pub begins : (size : ℕ) (in_sync : List Bool) (p : ℕ) → p < length in_sync → get_or in_sync p false ≡ true → held_beside (first_replacement p) (source_held size in_sync) ≡ begun_beside size in_sync (Rebuild p) p
begins size in_sync p below there =
    (λ k. record (source_held size in_sync) { planned = record { hold = record (resting size (map alone_if in_sync)) { kind = Rebuild p; cells = cells k }; plan = plan k } })
  where
    was : Cell
    was = standing_cell (InSync, Out)

    rest_cells : List Cell
    rest_cells = map standing_cell (resting_beside (Rebuild p) p in_sync)

    -- the row as it rests
    rest_is : rest_cells ≡ set (sources in_sync) p (standing_cell (InSync, Out))
    rest_is =
        map-set standing_cell (map alone_if (set in_sync p false)) p (InSync, if p == p then Out else InSync)
        ∙ (λ k. set (map standing_cell (map-set alone_if in_sync p false k)) p (standing_cell (InSync, if eq-eqb p p refl k then Out else InSync)))
        ∙ ap (λ (cs : List Cell). set cs p (standing_cell (InSync, Out))) (map-set standing_cell (map alone_if in_sync) p (alone_if false))
        ∙ set-set (sources in_sync) p (standing_cell (alone_if false)) (standing_cell (InSync, Out))

    wide : length (sources in_sync) ≡ length in_sync
    wide = length-map (map alone_if in_sync) standing_cell ∙ length-map in_sync alone_if

    at_rest : cell_at rest_cells p ≡ standing_cell (InSync, Out)
    at_rest = ap (λ (cs : List Cell). cell_at cs p) rest_is ∙ get_or-set_same (sources in_sync) p (standing_cell (InSync, Out)) no_cell (omega (arith, below, wide))

    begun_is : (begun (resting size (resting_beside (Rebuild p) p in_sync)) (Rebuild p)).cells ≡ set (sources in_sync) p (record (standing_cell (InSync, Out)) { second = Target })
    begun_is =
        (λ k. set (rest_is k) p (targeted (at_rest k).standing (at_rest k)))
        ∙ set-set (sources in_sync) p (standing_cell (InSync, Out)) (record (standing_cell (InSync, Out)) { second = Target })

    cells : replacing_at stage.Beside written.Unwritten p (sources in_sync) ≡ (begun (resting size (resting_beside (Rebuild p) p in_sync)) (Rebuild p)).cells
    cells = ap (λ (c : Cell). set (sources in_sync) p (replacing stage.Beside written.Unwritten c)) (source_in in_sync p there) ∙ sym begun_is

    plan : One ≡ first_plan (begun (resting size (resting_beside (Rebuild p) p in_sync)) (Rebuild p)) (Rebuild p)
    plan =
        sym (ap (λ (cs : List Cell). if is_in_sync (cell_at cs p).standing then One else Recover) begun_is
        ∙ ap (λ (c : Cell). if is_in_sync c.standing then One else Recover) (get_or-set_same (sources in_sync) p (record (standing_cell (InSync, Out)) { second = Target }) no_cell (omega (arith, below, wide))))
