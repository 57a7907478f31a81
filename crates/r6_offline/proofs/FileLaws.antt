-- Parts that are opened, one after another.
use Rattle.std.proofs.Common.{◌≡◌, ℕ, ◌+◌, ◌*◌, ◌/◌, ◌%◌, ◌<◌, ◌≤◌, Bool, true, false, List, [], ◌∷◌, ◌++◌, length, get_or, is_some, not, option_map, Option, Some, None, refl, sym, ap, subst, ◌∙◌, arith, ⊎_elim}
use Rattle.std.specs.Prelude.{if◌then◌else◌, slice_get}
use Rattle.std.proofs.lemmas.Bool.{cases_lt}
use Rattle.std.proofs.lemmas.List.{length-append, get_or_append_left, get_or_default}
use Rattle.std.proofs.lemmas.Nat.{div-mul-add, mod-mul-add, mul-add-lt, mul-le}
use Rattle.std.proofs.Math.Nat.{mul_comm}
use Rattle.std.proofs.Math.Seq.{get_or-append_seam}
use Rattle.r6_dev.specs.History.{Telling}
use Rattle.r6_dev.specs.FilePart.{FilePart}
use Rattle.r6_dev.specs.declared.file.Access.{Access}
use Rattle.r6_offline.specs.Files.{AreOpened, Path, opened_part, part_at}
use Rattle.r6_layout.specs.Shape.{Shape, IsShape}
use Rattle.r6_dev.specs.OpenErrors.{IsOpenError}
use Rattle.r6_dev.specs.declared.file.OpenError.TheVariants as refused
use Rattle.r6_offline.specs.Errors.{IsOpeningFault, IsSlotFault}
use Rattle.r6_offline.specs.declared.error.EngineError.{EngineError}
use Rattle.r6_offline.specs.declared.error.EngineError.TheVariants.{NoMemory, ThreadRefused, Device}
use Rattle.r6_offline.specs.Parts.{AreThoseNotLost, is_lost, part_number, parts_of, tells_nothing}

-- the parts below this number, each opened at its slot's path, or none of a lost slot
pub record Opened (shape : Shape) (paths : List Path) (lost : List ℕ) (access : Access) (number : ℕ) (parts : List (Option FilePart)) : Type 0 where
  pub count : length parts ≡ number
  pub each : (k : ℕ) → k < number → get_or parts k None ≡ opened_part shape paths lost access (k / shape.slots) (k % shape.slots)
  pub have_path : (k : ℕ) → k < number → is_lost lost (k % shape.slots) ≡ false → k % shape.slots < length paths

pub opened_none : (shape : Shape) (paths : List Path) (lost : List ℕ) (access : Access) (parts : List (Option FilePart)) → parts ≡ []
    → Opened shape paths lost access 0 parts
opened_none shape paths lost access parts none = record {
  count = ap length none;
  each = λ k below. absurd (omega (arith, below));
  have_path = λ k below. absurd (omega (arith, below));
}

pub opened_next : (shape : Shape) (paths : List Path) (lost : List ℕ) (access : Access) (number : ℕ) (parts : List (Option FilePart))
    (part : Option FilePart) → Opened shape paths lost access number parts
    → part ≡ opened_part shape paths lost access (number / shape.slots) (number % shape.slots)
    → (is_lost lost (number % shape.slots) ≡ false → number % shape.slots < length paths)
    → Opened shape paths lost access (number + 1) (parts ++ part ∷ [])
opened_next shape paths lost access number parts part opened is path =
    let count : length parts ≡ number = opened.count in
    let long = length-append parts (part ∷ []) in
    let last : (k : ℕ) → k < number + 1 → number ≤ k → number ≡ k = λ k below past. omega (arith, below, past) in
    record {
      count = omega (arith, long, count);
      each = λ k below.
          ⊎_elim
          (λ (before : k < number). get_or_append_left parts (part ∷ []) None k (omega (arith, count, before)) ∙ opened.each k before)
          (λ (past : number ≤ k).
          let here : k ≡ length parts = omega (arith, below, past, count) in
          ap (λ n. get_or (parts ++ part ∷ []) n None) here ∙ get_or-append_seam parts part [] None
          ∙ is ∙ ap (λ (n : ℕ). opened_part shape paths lost access (n / shape.slots) (n % shape.slots)) (last k below past))
          (cases_lt k number);
      have_path = λ k below.
          ⊎_elim
          (λ (before : k < number). opened.have_path k before)
          (λ (past : number ≤ k).
          subst (λ (n : ℕ). is_lost lost (n % shape.slots) ≡ false → n % shape.slots < length paths) (last k below past) path)
          (cases_lt k number);
    }

pub is_some_told : {D : Type 0} (told : D → Telling) (part : Option D) → is_some (option_map told part) ≡ is_some part
is_some_told told None = refl
is_some_told told (Some device) = refl

pub number_below : (shape : Shape) (shard slot : ℕ) → shard < shape.shards → slot < shape.slots → part_number shape shard slot < shape.shards * shape.slots
number_below shape shard slot in_shards in_slots =
    subst (λ (n : ℕ). part_number shape shard slot < n) (mul_comm shape.slots shape.shards) (mul-add-lt shard shape.slots slot shape.shards in_shards in_slots)

-- the number as it is computed, from the count of the slots that was asked for
pub number_within : (shape : Shape) (shard slot slots : ℕ) → slots ≡ shape.slots → shard < shape.shards → slot < shape.slots
    → shard * slots + slot < shape.shards * shape.slots
number_within shape shard slot slots same in_shards in_slots =
    subst (λ (n : ℕ). shard * n + slot < shape.shards * shape.slots) (sym same) (number_below shape shard slot in_shards in_slots)

pub number_fits : (shape : Shape) (shard slot slots : ℕ) → IsShape shape → slots ≡ shape.slots → shard < shape.shards → slot < shape.slots
    → shard * slots + slot < 512
number_fits shape shard slot slots is same in_shards in_slots =
    omega (
      arith,
      number_within shape shard slot slots same in_shards in_slots,
      mul-le shape.shards shape.slots 16 32 is.shards_allowed.1 is.slots_allowed.1,
    )

-- the part with a number is there exactly if the one that was looked at is
pub part_told : {D : Type 0} (told : D → Telling) (parts : List (Option D)) (at number : ℕ) (part : Option D) → at ≡ number → number < length parts
    → part ≡ get_or parts at part → is_some (parts_of told parts number) ≡ is_some part
part_told told parts at number part same below is =
    is_some_told told (get_or parts number None) ∙ ap is_some (get_or_default parts number None part below)
    ∙ sym (ap (λ (n : ℕ). is_some (get_or parts n part)) same) ∙ ap is_some (sym is)

pub opened_all : (shape : Shape) (paths : List Path) (lost : List ℕ) (access : Access) (parts : List (Option FilePart)) → IsShape shape
    → Opened shape paths lost access (shape.shards * shape.slots) parts → AreOpened shape paths lost access parts
opened_all shape paths lost access parts is opened = record {
  each = λ shard slot in_shards in_slots.
      opened.each (part_number shape shard slot) (number_below shape shard slot in_shards in_slots)
      ∙ ap (λ (n : ℕ). opened_part shape paths lost access n (part_number shape shard slot % shape.slots)) (div-mul-add shard shape.slots slot in_slots)
      ∙ ap (λ (n : ℕ). opened_part shape paths lost access shard n) (mod-mul-add shard shape.slots slot in_slots);
  have_path = λ slot in_slots kept.
      let at = mod-mul-add 0 shape.slots slot in_slots in
      subst (λ (n : ℕ). n < length paths) at
      (opened.have_path (part_number shape 0 slot) (number_below shape 0 slot (omega (arith, is.shards_allowed.0)) in_slots)
      (ap (is_lost lost) at ∙ kept));
}

some_opened : (shape : Shape) (path : Path) (access : Access) (shard : ℕ) (lost : Bool)
    → let part : Option FilePart = if lost then None else Some (part_at shape shard path access) in
    is_some part ≡ not lost
some_opened shape path access shard true = refl
some_opened shape path access shard false = refl

-- the parts that are there are those of the slots that aren't lost
pub those_opened : (shape : Shape) (paths : List Path) (lost : List ℕ) (access : Access) (parts : List (Option FilePart))
    → AreOpened shape paths lost access parts → AreThoseNotLost shape lost (parts_of tells_nothing parts)
those_opened shape paths lost access parts opened shard slot in_shards in_slots =
    is_some_told tells_nothing (get_or parts (part_number shape shard slot) None) ∙ ap is_some (opened.each shard slot in_shards in_slots)
    ∙ some_opened shape (get_or paths slot []) access shard (is_lost lost slot)

-- the parts of one slot, below this shard
abbrev pub SlotOpened : Shape → Path → Access → (shard : ℕ) → List FilePart → Type 0
SlotOpened shape path access shard parts = (k : ℕ) → k < shard → slice_get parts k ≡ Some (part_at shape k path access)

-- the fault of a slot that isn't lost is one of the array
pub opening_of : (slots slot : ℕ) (lost : List ℕ) (error : EngineError) → slot < slots → is_lost lost slot ≡ false → IsSlotFault slot error
    → IsOpeningFault slots lost error
opening_of slots slot lost NoMemory below other is = tt
opening_of slots slot lost ThreadRefused below other is = absurd is
opening_of slots slot lost (Device named fault) below other is =
    subst (λ s. (s < slots) × (is_lost lost s ≡ false) × IsOpenError (refused.Device fault)) (sym is.0) (below, other, is.1)
