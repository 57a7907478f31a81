-- What the code knows of the blocks that a fix is computed from.
use Rattle.std.specs.Prelude.{ℕ, zero, suc, Bool, false, List, [], ◌∷◌, if◌then◌else◌}
use Rattle.r6_stripe.specs.Holds.{is_known}
use Rattle.r6_stripe.specs.Places.{reading_of}
use Rattle.r6_stripe.specs.declared.place.PositionState.{PositionState}

-- of each place whether it is one of the first so many whose blocks are known, in row order
abbrev pub first_known_of : ℕ → List PositionState → List Bool
first_known_of count [] = []
first_known_of zero (place ∷ places) = false ∷ first_known_of zero places
first_known_of (suc count) (place ∷ places) =
    is_known (reading_of place.read []) ∷ first_known_of (if is_known (reading_of place.read []) then count else suc count) places
