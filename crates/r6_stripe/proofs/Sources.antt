-- A hold without a task: what is true of its places.
use Rattle.std.proofs.Common.{◌≡◌, Bool, true, false, ℕ, zero, suc, ◌<◌, List, [], ◌∷◌, length, get_or, set, refl, sym, ◌∙◌, ap, subst, arith, Some, None, Option}
use Rattle.r6_stripe.specs.Holds as holds
use Rattle.r6_stripe.specs.Holds.{Cell, Kind, is_known}
use Rattle.r6_stripe.specs.Places.{cell_of, cells_of, holds_block, is_lent, no_place, reading_of, standing_of}
use Rattle.r6_stripe.specs.Replacements.{AreUnlent}
use Rattle.r6_stripe.specs.Sound.{Each, IsInCourse, IsTargetOf}
use Rattle.r6_stripe.specs.Views.{held_of, kind_of}
use Rattle.r6_stripe.specs.declared.command.RowTask.{RowTask}
use Rattle.r6_stripe.specs.declared.command.RowTask.TheVariants as task
use Rattle.r6_stripe.specs.declared.place.PositionState.{PositionState}
use Rattle.r6_stripe.specs.declared.place.ReadState.{ReadState}
use Rattle.r6_stripe.specs.declared.place.ReadState.TheVariants as read
use Rattle.r6_stripe.specs.declared.place.Standing.{Standing}
use Rattle.r6_stripe.specs.declared.place.Standing.TheVariants as state
use Rattle.r6_stripe.specs.declared.plan.Plan.{Plan}
use Rattle.r6_stripe.specs.declared.plan.Plan.TheVariants as plan
use Rattle.r6_stripe.specs.declared.state.HoldState.{HoldState}
use Rattle.r6_stripe.proofs.Places.{known_reading}
use Rattle.r6_stripe.proofs.States.{away_at}

-- a hold without a task has no course
pub no_course : (p : Plan) (t : Option RowTask) (count : ℕ) (computed : Bool) (i : ℕ) (place : PositionState) → t ≡ None → IsInCourse p t count computed i place
no_course p t count computed i place none = subst (λ (u : Option RowTask). IsInCourse p u count computed i place) (sym none) (by_plan p)
  where
    by_plan : (p : Plan) → IsInCourse p None count computed i place
    by_plan plan.One = tt
    by_plan plan.Reconstruct = tt
    by_plan plan.Modify = tt
    by_plan plan.Overwrite = tt
    by_plan plan.Recover = tt
    by_plan plan.All = tt

pub no_target : (t : Option RowTask) (i : ℕ) (place : PositionState) → t ≡ None → IsTargetOf t i place
no_target t i place none = subst (λ (u : Option RowTask). IsTargetOf u i place) (sym none) (λ e. tt)

-- and by its kind it has none
pub untasked : (t : Option RowTask) → kind_of t ≡ Kind.Idle → t ≡ None
untasked None e = refl
untasked (Some (task.Read index)) e = absurd cc
untasked (Some (task.Write batch)) e = absurd cc
untasked (Some (task.Rebuild target)) e = absurd cc
untasked (Some task.Check) e = absurd cc
untasked (Some task.Repair) e = absurd cc

pub unlent_places : (s : HoldState) → AreUnlent (held_of s) → Each (λ position place. is_lent place ≡ false) s.places
unlent_places s unlent k below = by_away (get_or s.places k no_place).away refl
  where
    unknown : (r : ReadState) → is_known (reading_of r []) ≡ false → holds_block r ≡ false
    unknown read.Unread e = refl
    unknown read.Asked e = refl
    unknown read.Unreadable e = refl
    unknown read.Fixing e = refl
    unknown read.Fixed e = refl
    unknown read.AskedAgain e = refl
    unknown read.Known e = absurd cc
    unknown read.Replaced e = refl

    by_away : (b : Bool) → (get_or s.places k no_place).away ≡ b → is_lent (get_or s.places k no_place) ≡ false
    by_away false e = rw e refl
    by_away true e =
        let none = sym (known_reading s.places s.blocks.items k below) ∙ unlent k (away_at s.places k below ∙ e) in
        rw e (unknown (get_or s.places k no_place).read none)

-- another block stands at a position
pub cells_of-set_block : (places : List PositionState) (blocks : List (List ℕ)) (i : ℕ) (block : List ℕ) → i < length places → i < length blocks → cells_of places (set blocks i block) ≡ set (cells_of places blocks) i (cell_of (get_or places i no_place) block)
cells_of-set_block [] blocks i block below inside = absurd (omega arith)
cells_of-set_block (first ∷ places) [] i block below inside = absurd (omega arith)
cells_of-set_block (first ∷ places) (other ∷ blocks) zero block below inside = refl
cells_of-set_block (first ∷ places) (other ∷ blocks) (suc i) block below inside = ap (λ (cells : List Cell). cell_of first other ∷ cells) (cells_of-set_block places blocks i block (omega arith) (omega arith))

pub target_state : (s : Standing) → standing_of s ≡ holds.Standing.Target → s ≡ state.Target
target_state state.InSync e = absurd cc
target_state state.Target e = refl
target_state state.Out e = absurd cc
