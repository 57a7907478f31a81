-- Requests that are handed in together, with their names (this project's own).
use Rattle.std.specs.Prelude.{◌≡◌, ℕ, List, ◌∷◌, map}
use Rattle.r6_world.specs.declared.values.Op.{Op}
use Rattle.r6_array.specs.Effects.{block_asked}

-- a request, and what its caller calls it
abbrev pub Named : Type 0
Named = Op × ℕ

abbrev pub ops_of : List Named → List Op
ops_of requests = map (λ (request : Named). request.0) requests

abbrev pub names_of : List Named → List ℕ
names_of requests = map (λ (request : Named). request.1) requests

-- the first request is for this block
abbrev pub IsFirstBlock : List Named → ℕ → Type 0
IsFirstBlock requests block =
    (first : Named) × (others : List Named) × (requests ≡ first ∷ others) × (block ≡ block_asked first.0)
