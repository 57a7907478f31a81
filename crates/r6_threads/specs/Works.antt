-- Pieces of work in threads of their own (this project's own).
use Rattle.std.specs.Prelude.{◌≡◌, Bool, true, false, List, map, reverse}

-- a piece of work that was begun is done; one that wasn't is as it was
abbrev pub HasEnded : {W : Type 0} → (done : W → W → Type 0) → (begun : Bool) → (before after : W) → Type 0
HasEnded done true before after = done before after
HasEnded done false before after = after ≡ before

-- the threads are started from the last piece of work on: so the work of the first stands last
abbrev pub in_order : {W H : Type 0} → (work : H → W) → (handles : List H) → List W
in_order work handles = map work (reverse handles)
