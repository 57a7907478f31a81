-- What sets of positions, one for each class of keys, say of places.
use Rattle.std.specs.Prelude.{◌≡◌, ℕ, ◌<◌, ◌%◌, Bool, true, false, List, length, Option, Some, None}
use Rattle.r6_waiters.specs.Line.{is_key}
use Rattle.r6_waiters.specs.Sets.{Places, place_at, IsMarked}

-- as many classes as keys have remainders, and one for values with no key
abbrev pub classes : ℕ
classes = 65

abbrev pub class_of : Option ℕ → ℕ
class_of None = 64
class_of (Some key) = key % 64

abbrev pub class_in : {X : Type 0} → (X → Option ℕ) → Option X → ℕ
class_in key_of None = 0
class_in key_of (Some value) = class_of (key_of value)

-- the class of the value at the position
abbrev pub class_at : {X : Type 0} → (X → Option ℕ) → Places X → ℕ → ℕ
class_at key_of places position = class_in key_of (place_at places position).1

-- a place has a value with the key
abbrev pub has_key : {X : Type 0} → (X → Option ℕ) → (key : ℕ) → Option X → Bool
has_key key_of key None = false
has_key key_of key (Some value) = is_key key (key_of value)

abbrev pub is_keyed : {X : Type 0} → (X → Option ℕ) → (key : ℕ) → Places X → ℕ → Bool
is_keyed key_of key places position = has_key key_of key (place_at places position).1

-- an entry's position is in the set of its class, and in no other; no other position is in a set
pub record AreClassed {X : Type 0} (key_of : X → Option ℕ) (keyed : List (List ℕ)) (places : Places X) : Type 0 where
  pub many : length keyed ≡ classes
  pub marked : IsMarked keyed places (λ position. class_at key_of places position)

-- no place has a value with the key
abbrev pub HasNoneKeyed : {X : Type 0} → (X → Option ℕ) → (key : ℕ) → Places X → Type 0
HasNoneKeyed key_of key places = (position : ℕ) → is_keyed key_of key places position ≡ false

-- the first place that has one
abbrev pub IsFirstKeyed : {X : Type 0} → (X → Option ℕ) → (key : ℕ) → Places X → ℕ → Type 0
IsFirstKeyed key_of key places position =
    (is_keyed key_of key places position ≡ true)
    × ((lower : ℕ) → lower < position → is_keyed key_of key places lower ≡ false)
