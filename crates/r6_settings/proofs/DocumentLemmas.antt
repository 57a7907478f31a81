-- What the entries and the values of a table say of its document.
use Rattle.std.proofs.Common.{◌≡◌, ◌≤◌, ◌<◌, ℕ, suc, false, not, List, [], ◌∷◌, Option, Some, None, option_map, get_or, length, String, Global, string_bytes, refl, ap, ◌∙◌, sym, arith}
use Rattle.std.proofs.lemmas.Bool.Decides.{nat_tests}
use Rattle.std.specs.List.{list_any}
use Rattle.std.specs.Map.{keys_of}
use Rattle.std.specs.Option.{option_map_or}
use Rattle.std.specs.Prelude.{option_and_then}
use Rattle.toml.proofs.Views.{Entry}
use Rattle.toml.specs.Data.{Data, Members, as_array, get_member}
use Rattle.toml.specs.View.{view, items_view, members_view}
use Rattle.toml.specs.declared.value.Value.{Value}
use Rattle.r6_settings.specs.Keys.{is_key, name_of}
use Rattle.r6_settings.specs.declared.key.Key.TheVariants.{Lost}
use Rattle.r6_settings.specs.Settings.{array_of, each_of, has_unknown_key, lost_slots, may_be_lost, slot_below, slots_written, where_it}

-- an unknown key is one of the map's keys
pub list_any-unknown : (es : List Entry) → list_any (λ (key : String Global). not (is_key (string_bytes key))) (keys_of es) ≡ has_unknown_key (members_view es)
list_any-unknown [] = refl
list_any-unknown (e ∷ es) = rw (list_any-unknown es) refl

-- what was said, if something was, has this length
abbrev HasLength : Option (List ℕ) → ℕ → Type 0
HasLength None n = Unit {0}
HasLength (Some xs) n = length xs ≡ n

length_more : (o : Option ℕ) (r : Option (List ℕ)) (n : ℕ) → HasLength r n → HasLength (option_and_then (λ x. option_map (λ xs. x ∷ xs) r) o) (suc n)
length_more None r n h = tt
length_more (Some x) None n h = tt
length_more (Some x) (Some xs) n h = ap suc h

length_each : (says : Data → Option ℕ) (vs : List Value) → HasLength (each_of says (items_view vs)) (length vs)
length_each says [] = refl
length_each says (v ∷ vs) = length_more (says (view v)) (each_of says (items_view vs)) (length vs) (length_each says vs)

too_long : (r : Option (List ℕ)) (n : ℕ) → HasLength r n → 3 ≤ n → where_it may_be_lost r ≡ None
too_long None n h long = refl
too_long (Some xs) n h long =
    let is_long : may_be_lost xs ≡ false = grind (arith, nat_tests) in
    rw is_long

-- more than two slots may not be lost
pub too_many_lost : (says : Data → Option ℕ) (vs : List Value) → 3 ≤ length vs → where_it may_be_lost (each_of says (items_view vs)) ≡ None
too_many_lost says vs long = too_long (each_of says (items_view vs)) (length vs) (length_each says vs) long

-- the lost slots of a document whose key has an array of these values
pub lost_there : (document : Members) (value : Data) (held items : List Value) (slots : ℕ) → Some value ≡ get_member (name_of Lost) document
    → Some (items_view held) ≡ as_array value → items ≡ held → slots ≡ slots_written document
    → lost_slots document ≡ where_it may_be_lost (each_of (slot_below slots) (items_view items))
lost_there document value held items slots there array same of_slots =
    ap (λ (found : Option Data). where_it may_be_lost (option_map_or (array_of (slot_below (slots_written document))) found (Some []))) (sym there)
    ∙ ap (λ found. where_it may_be_lost (option_and_then (each_of (slot_below (slots_written document))) found)) (sym array)
    ∙ ap (λ these. where_it may_be_lost (each_of (slot_below (slots_written document)) (items_view these))) (sym same)
    ∙ ap (λ bound. where_it may_be_lost (each_of (slot_below bound) (items_view items))) (sym of_slots)

-- the lost slots of an array of one value, and of two
abbrev pub lost_among : (slots : ℕ) → List Value → Option (List ℕ)
lost_among slots values = where_it may_be_lost (each_of (slot_below slots) (items_view values))

one_value : (values : List Value) (only : Value) → 1 ≤ length values → length values < 2 → only ≡ get_or values 0 only → values ≡ only ∷ []
one_value [] only from below is = absurd (omega (arith, from))
one_value (value ∷ []) only from below is = ap (λ (v : Value). v ∷ []) (sym is)
one_value (value ∷ other ∷ values) only from below is = absurd (omega (arith, below))

two_values : (values : List Value) (first second : Value) → 2 ≤ length values → length values < 3 → first ≡ get_or values 0 first
    → second ≡ get_or values 1 second → values ≡ first ∷ second ∷ []
two_values [] first second from below of_first of_second = absurd (omega (arith, from))
two_values (value ∷ []) first second from below of_first of_second = absurd (omega (arith, from))
two_values (value ∷ other ∷ []) first second from below of_first of_second =
    ap (λ (v : Value). v ∷ other ∷ []) (sym of_first) ∙ ap (λ (v : Value). first ∷ v ∷ []) (sym of_second)
two_values (value ∷ other ∷ more ∷ values) first second from below of_first of_second = absurd (omega (arith, below))

pub one_lost : (slots : ℕ) (values : List Value) (only : Value) (said : Option ℕ) → 1 ≤ length values → length values < 2 → only ≡ get_or values 0 only
    → slot_below slots (view only) ≡ said → lost_among slots values ≡ option_map (λ slot. slot ∷ []) said
one_lost slots values only None from below is says = ap (lost_among slots) (one_value values only from below is) ∙ rw says refl
one_lost slots values only (Some slot) from below is says = ap (lost_among slots) (one_value values only from below is) ∙ rw says refl

pub two_lost : (slots : ℕ) (values : List Value) (first second : Value) → 2 ≤ length values → length values < 3 → first ≡ get_or values 0 first
    → second ≡ get_or values 1 second → lost_among slots values ≡ lost_among slots (first ∷ second ∷ [])
two_lost slots values first second from below of_first of_second = ap (lost_among slots) (two_values values first second from below of_first of_second)
