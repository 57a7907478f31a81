-- What a settings document decides: the values that it gives, or the first thing that is wrong with
-- it. The keys, their ranges and the order of the checks are this project's own.
use Rattle.std.specs.Prelude.{◌≡◌, ◌≢◌, ℕ, ◌<◌, ◌≤◌, ◌==◌, ◌&&◌, ◌||◌, pos, Bool, false, not, List, [], ◌∷◌, length, map, Option, Some, None, Result, Ok, Err, is_some, nat_le, nat_lt, if◌then◌else◌, unwrap_or, option_map, option_and_then, string_bytes}
use Rattle.std.specs.List.{All, list_any}
use Rattle.std.specs.Option.{option_map_or}
use Rattle.toml.specs.Data.{Data, integer, Items, no_items, item, Members, no_members, member, as_array, as_str, get_member}
use Rattle.toml.specs.Parse.{parse_document}
use Rattle.r6_layout.specs.Limits.{first_fault}
use Rattle.r6_layout.specs.Shape.{Shape, shape_of}
use Rattle.r6_settings.specs.declared.key.Key.{Key}
use Rattle.r6_settings.specs.declared.key.Key.TheVariants.{Slots, Chunk, Block, Rows, Shards, Window, Workers, Lost, Devices}
use Rattle.r6_settings.specs.declared.fault.SettingsFault.{SettingsFault}
use Rattle.r6_settings.specs.declared.fault.SettingsFault.TheVariants.{NotToml, UnknownKey, Value, Geometry, Memory}
use Rattle.r6_settings.specs.declared.config.Config.{Config}
use Rattle.r6_settings.specs.Keys.{name_of, is_key}

abbrev pub Text : Type 0
Text = List ℕ

-- ---- what single values say

-- the integer that a value is, where it is from low to high
abbrev pub integer_from_to : ℕ → ℕ → Data → Option ℕ
integer_from_to low high (integer (pos n)) = if nat_le low n && nat_le n high then Some n else None
integer_from_to low high _ = None

-- what each element says, where each says something
abbrev pub each_of : {A : Type 0} → (Data → Option A) → Items → Option (List A)
each_of says no_items = Some []
each_of says (item d rest) =
    option_and_then (λ x. option_map (λ xs. x ∷ xs) (each_of says rest)) (says d)

-- what the elements of an array say, where the value is an array and each says something
abbrev pub array_of : {A : Type 0} → (Data → Option A) → Data → Option (List A)
array_of says value = option_and_then (each_of says) (as_array value)

-- the value where it passes the test
abbrev pub where_it : {A : Type 0} → (A → Bool) → Option A → Option A
where_it test (Some x) = if test x then Some x else None
where_it test None = None

-- some number stands in the list twice
abbrev pub has_repeat : List ℕ → Bool
has_repeat [] = false
has_repeat (n ∷ ns) = list_any (λ m. m == n) ns || has_repeat ns

-- ---- what the keys of a document say

-- some key of the document is none of the settings' keys
abbrev pub has_unknown_key : Members → Bool
has_unknown_key no_members = false
has_unknown_key (member word value rest) = not (is_key word) || has_unknown_key rest

-- the value at a key, read by `says`; a key that isn't there says nothing
abbrev pub required : {A : Type 0} → (Data → Option A) → Key → Members → Option A
required says key document = option_and_then says (get_member (name_of key) document)

-- the same, but a key that isn't there says the default
abbrev pub optional : {A : Type 0} → A → (Data → Option A) → Key → Members → Option A
optional default says key document =
    option_map_or says (get_member (name_of key) document) (Some default)

-- an integer of the geometry: at least 0, and of 32 bits
abbrev pub geometry_integer : Key → Members → Option ℕ
geometry_integer = required (integer_from_to 0 4294967295)

-- an integer from 1 to 8, which is 1 where it isn't given
abbrev pub one_to_eight : Key → Members → Option ℕ
one_to_eight = optional 1 (integer_from_to 1 8)

-- the number of slots as it is written, before the geometry is tested
abbrev pub slots_written : Members → ℕ
slots_written document = unwrap_or (geometry_integer Slots document) 0

-- the value is an integer below the bound
abbrev pub slot_below : ℕ → Data → Option ℕ
slot_below bound value = where_it (λ n. nat_lt n bound) (integer_from_to 0 4294967295 value)

-- at most two slots are lost, none of them twice
abbrev pub may_be_lost : List ℕ → Bool
may_be_lost slots = nat_le (length slots) 2 && not (has_repeat slots)

-- the lost slots, in the order in which they are written
abbrev pub lost_slots : Members → Option (List ℕ)
lost_slots document = where_it may_be_lost
    (optional [] (array_of (slot_below (slots_written document))) Lost document)

-- one path a slot
abbrev pub device_paths : Members → Option (List Text)
device_paths document = where_it (λ paths. length paths == slots_written document)
    (required (array_of as_str) Devices document)

-- the paths where the command uses devices; where it doesn't, the key may say anything
abbrev pub paths_used : Bool → Members → Option (List Text)
paths_used with_devices document = if with_devices then device_paths document else Some []

-- ---- what the document decides

-- the values that settings have
pub record Values : Type 0 where
  pub shape : Shape
  pub window : ℕ
  pub workers : ℕ
  pub lost : List ℕ
  pub devices : List Text

-- the five integers of the geometry
abbrev pub shape_in : Members → Shape
shape_in document = shape_of (slots_written document) (unwrap_or (geometry_integer Chunk document) 0)
    (unwrap_or (geometry_integer Block document) 0) (unwrap_or (geometry_integer Rows document) 0)
    (unwrap_or (geometry_integer Shards document) 0)

-- the values that a document gives where nothing is wrong with it
abbrev pub values_in : Bool → Members → Values
values_in with_devices document = record {
  shape = shape_in document;
  window = unwrap_or (one_to_eight Window document) 0;
  workers = unwrap_or (one_to_eight Workers document) 0;
  lost = unwrap_or (lost_slots document) [];
  devices = unwrap_or (paths_used with_devices document) [];
}

-- the fault, where the test holds
abbrev pub fault_if : Bool → SettingsFault → Option SettingsFault
fault_if test fault = if test then Some fault else None

-- the fault of a key that says nothing
abbrev pub fault_at : {A : Type 0} → Key → Option A → Option SettingsFault
fault_at key said = fault_if (not (is_some said)) (Value key)

-- the fault of the five integers as a geometry
abbrev pub geometry_fault : Shape → Option SettingsFault
geometry_fault shape = option_map (λ limit. Geometry limit) (first_fault shape)

-- every check, in order, with the fault that it finds
abbrev pub checks : Bool → Members → List (Option SettingsFault)
checks with_devices document =
    fault_if (has_unknown_key document) UnknownKey
    ∷ fault_at Slots (geometry_integer Slots document)
    ∷ fault_at Chunk (geometry_integer Chunk document)
    ∷ fault_at Block (geometry_integer Block document)
    ∷ fault_at Rows (geometry_integer Rows document)
    ∷ fault_at Shards (geometry_integer Shards document)
    ∷ fault_at Window (one_to_eight Window document)
    ∷ fault_at Workers (one_to_eight Workers document)
    ∷ fault_at Lost (lost_slots document)
    ∷ fault_at Devices (paths_used with_devices document)
    ∷ geometry_fault (shape_in document)
    ∷ []

-- the first fault that is found
abbrev pub first_found : List (Option SettingsFault) → Option SettingsFault
first_found [] = None
first_found (Some fault ∷ rest) = Some fault
first_found (None ∷ rest) = first_found rest

-- what a document decides: its values, or the first fault
abbrev pub decided : Bool → Members → Result Values SettingsFault
decided with_devices document =
    option_map_or (λ fault. Err fault) (first_found (checks with_devices document))
    (Ok (values_in with_devices document))

-- what a text decides
abbrev pub settings_in : Bool → Text → Result Values SettingsFault
settings_in with_devices text =
    option_map_or (decided with_devices) (parse_document text) (Err NotToml)

-- ---- the same values, as the program holds them

abbrev pub values_of : Config → Values
values_of config = record {
  shape = config.geometry;
  window = config.window;
  workers = config.workers;
  lost = config.lost.items;
  devices = map string_bytes config.devices.items;
}

-- ---- the ranges that values are in

-- at most two of the slots
abbrev pub MayBeLost : (slots : ℕ) → List ℕ → Type 0
MayBeLost slots lost = (length lost ≤ 2) × All (λ slot. slot < slots) lost

pub record AreInRange (values : Values) : Type 0 where
  pub window_from : 1 ≤ values.window
  pub window_to : values.window ≤ 8
  pub workers_from : 1 ≤ values.workers
  pub workers_to : values.workers ≤ 8
  pub lost : MayBeLost values.shape.slots values.lost

-- ---- what a fault says

-- the fault of a key that says nothing
abbrev pub IsOf : {A : Type 0} → Key → Option A → SettingsFault → Type 0
IsOf key said fault = (fault ≡ Value key) × (said ≡ None)

-- want of memory can come at any place; of every other fault this holds
abbrev pub IsMemoryOr : (SettingsFault → Type 0) → SettingsFault → Type 0
IsMemoryOr Holds fault = fault ≢ Memory → Holds fault
