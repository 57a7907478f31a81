-- What is decided, by the checks of the numbers and by those that come after them.
use Rattle.std.proofs.Common.{◌≡◌, ◌∙◌, ℕ, zero, suc, Bool, true, List, [], ◌∷◌, take, drop, Option, None, Some, Result, Ok, Err, IfErr, refl, ap, subst, sym, unwrap_or}
use Rattle.std.proofs.lemmas.Result.{err_from_is_err_and}
use Rattle.std.specs.Option.{option_map_or}
use Rattle.std.specs.Prelude.{IsErrAnd}
use Rattle.toml.specs.Data.{Members}
use Rattle.r6_layout.specs.Limits.{first_fault}
use Rattle.r6_layout.specs.Shape.{Shape, shape_of}
use Rattle.r6_layout.specs.declared.geometry.GeometryError.{GeometryError}
use Rattle.r6_settings.specs.declared.fault.SettingsFault.{SettingsFault}
use Rattle.r6_settings.specs.declared.fault.SettingsFault.TheVariants.{Value, Geometry}
use Rattle.r6_settings.specs.declared.key.Key.TheVariants.{Window, Workers, Lost, Devices}
use Rattle.r6_settings.specs.Settings.{IsMemoryOr, IsOf, Values, checks, decided, first_found, lost_slots, one_to_eight, paths_used, shape_in, values_in}

-- what holds of a fault holds of it as it is told on
pub told_on : {T : Type 0} (Holds : SettingsFault → Type 0) (result : Result T SettingsFault) (fault : SettingsFault) → Holds fault
    → IsErrAnd result (λ told. told ≡ fault) → IfErr result Holds
told_on Holds result fault holds fails =
    let told = err_from_is_err_and result fails in
    subst (λ r. IfErr r Holds) (sym told.1) (subst Holds (sym told.2) holds)

-- the first of the faults, where it is one of the first checks, and where none of them finds any
found_early : (n : ℕ) (found : List (Option SettingsFault)) (fault : SettingsFault) → first_found (take n found) ≡ Some fault → first_found found ≡ Some fault
found_early zero found fault is = cc
found_early (suc n) [] fault is = is
found_early (suc n) (Some first ∷ found) fault is = is
found_early (suc n) (None ∷ found) fault is = found_early n found fault is

found_late : (n : ℕ) (found : List (Option SettingsFault)) → first_found (take n found) ≡ None → first_found found ≡ first_found (drop n found)
found_late zero found none = refl
found_late (suc n) [] none = refl
found_late (suc n) (Some first ∷ found) none = cc
found_late (suc n) (None ∷ found) none = found_late n found none

-- the numbers pass their checks, which are those before lost slots
abbrev pub NumbersPass : Members → Type 0
NumbersPass document = first_found (take 8 (checks true document)) ≡ None

decided_as : (with_devices : Bool) (document : Members) (first : Option SettingsFault) → first_found (checks with_devices document) ≡ first
    → decided with_devices document ≡ option_map_or (λ fault. Err fault) first (Ok (values_in with_devices document))
decided_as with_devices document first is =
    ap (λ (found : Option SettingsFault). option_map_or (λ fault. Err fault) found (Ok (values_in with_devices document))) is

pub numbers_fail : (with_devices : Bool) (document : Members) (fault : SettingsFault) → first_found (take 8 (checks true document)) ≡ Some fault
    → decided with_devices document ≡ Err fault
numbers_fail with_devices document fault is =
    decided_as with_devices document (Some fault) (found_early 8 (checks with_devices document) fault is)

pub lost_fail : (with_devices : Bool) (document : Members) (fault : SettingsFault) → NumbersPass document → IsMemoryOr (IsOf Lost (lost_slots document)) fault
    → IsMemoryOr (λ told. decided with_devices document ≡ Err told) fault
lost_fail with_devices document fault pass fails other =
    let is = fails other in
    decided_as with_devices document (Some (Value Lost)) (found_late 8 (checks with_devices document) pass ∙ rw (is.1) refl) ∙ ap (λ told. Err told) (sym is.0)

pub paths_fail : (with_devices : Bool) (document : Members) (lost : List ℕ) (fault : SettingsFault) → NumbersPass document → lost_slots document ≡ Some lost
    → IsMemoryOr (IsOf Devices (paths_used with_devices document)) fault → IsMemoryOr (λ told. decided with_devices document ≡ Err told) fault
paths_fail with_devices document lost fault pass some fails other =
    let is = fails other in
    decided_as with_devices document (Some (Value Devices)) (found_late 8 (checks with_devices document) pass ∙ rw (some, is.1) refl)
    ∙ ap (λ told. Err told) (sym is.0)

pub geometry_fails : (with_devices : Bool) (document : Members) (lost : List ℕ) (paths : List (List ℕ)) (shape : Shape) (limit : GeometryError)
    → NumbersPass document → lost_slots document ≡ Some lost → paths_used with_devices document ≡ Some paths → shape ≡ shape_in document
    → first_fault shape ≡ Some limit → decided with_devices document ≡ Err (Geometry limit)
geometry_fails with_devices document lost paths shape limit pass some used same fault =
    let is : first_fault (shape_in document) ≡ Some limit = sym (ap first_fault same) ∙ fault in
    decided_as with_devices document (Some (Geometry limit)) (found_late 8 (checks with_devices document) pass ∙ rw (some, used, is) refl)

-- the values of a document, by what its keys say
values_are : (with_devices : Bool) (document : Members) (values : Values) → values.shape ≡ shape_in document
    → values.window ≡ unwrap_or (one_to_eight Window document) 0 → values.workers ≡ unwrap_or (one_to_eight Workers document) 0
    → lost_slots document ≡ Some values.lost → paths_used with_devices document ≡ Some values.devices → values_in with_devices document ≡ values
values_are with_devices document values shape window workers lost devices = rw (lost, devices, ← shape, ← window, ← workers) refl

pub all_pass : (with_devices : Bool) (document : Members) (values : Values) (shape : Shape) → NumbersPass document
    → values.window ≡ unwrap_or (one_to_eight Window document) 0 → values.workers ≡ unwrap_or (one_to_eight Workers document) 0
    → lost_slots document ≡ Some values.lost → paths_used with_devices document ≡ Some values.devices → shape ≡ shape_in document
    → values.shape ≡ shape → first_fault shape ≡ None → decided with_devices document ≡ Ok values
all_pass with_devices document values shape pass window workers lost devices same made fault =
    let none : first_fault (shape_in document) ≡ None = sym (ap first_fault same) ∙ fault in
    decided_as with_devices document None (found_late 8 (checks with_devices document) pass ∙ rw (lost, devices, none) refl)
    ∙ ap (λ (these : Values). Ok these) (values_are with_devices document values (made ∙ same) window workers lost devices)

-- the shape of the numbers, two of which are taken as wider ones
pub same_shape : (document : Members) (slots chunk block rows shards wide_chunk wide_rows : ℕ) → wide_chunk ≡ chunk → wide_rows ≡ rows
    → shape_of slots chunk block rows shards ≡ shape_in document → shape_of slots wide_chunk block wide_rows shards ≡ shape_in document
same_shape document slots chunk block rows shards wide_chunk wide_rows of_chunk of_rows is =
    ap (λ n. shape_of slots n block wide_rows shards) of_chunk ∙ ap (λ n. shape_of slots chunk block n shards) of_rows ∙ is
