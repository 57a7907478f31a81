-- One part of a list of parts.
use Rattle.std.proofs.Common.{◌≡◌, ℕ, ◌<◌, zero, suc, List, [], ◌∷◌, length, get_or, true, false, inl, inr, sym, ap, subst, ◌∙◌, arith, Some, Result, Ok, Err}
use Rattle.std.specs.Prelude.{slice_set, MatchResult, ◌==◌, ◌&&◌}
use Rattle.std.specs.List.{position}
use Rattle.std.proofs.Math.Seq.{map-set_same}
use Rattle.std.proofs.lemmas.List.Quantifiers.{position-Some}
use Rattle.std.proofs.lemmas.Bool.{cases_Bool, and_parts, eqb-true}
use Rattle.r6_dev.specs.History.{Telling, Answers}
use Rattle.r6_world.specs.Values.{given_transfer}
use Rattle.r6_world.specs.declared.values.Command.{Command}
use Rattle.r6_world.specs.declared.values.CommandKind.{CommandKind}
use Rattle.r6_world.specs.declared.values.DeviceFault.{DeviceFault}
use Rattle.r6_world.specs.declared.values.FaultKind.{FaultKind}
use Rattle.r6_world.specs.declared.values.FaultKind.TheVariants.{ReadFault}
use Rattle.r6_exchange.specs.Answering.{failed_by}
use Rattle.r6_course.specs.Steps.{Does}
use Rattle.r6_exchange.specs.declared.task.Part.{Part}
use Rattle.r6_shard.specs.Parts.{is_of, label_of, labels_of, part_in}
use Rattle.r6_shard.specs.Performing.{Performed, Failed}

pub first-of : {D : Type 0} (told : D → Telling) (part : Part D) (parts : List (Part D)) (slot generation : ℕ) → is_of slot generation part ≡ true
    → part_in told (part ∷ parts) slot generation ≡ Some (told part.device)
first-of told part parts slot generation e = rw e

pub behind : {D : Type 0} (told : D → Telling) (part : Part D) (parts : List (Part D)) (slot generation : ℕ) → is_of slot generation part ≡ false
    → part_in told (part ∷ parts) slot generation ≡ part_in told parts slot generation
behind told part parts slot generation e = rw e

-- the part that is found tells what is told of it
pub found : {D : Type 0} (told : D → Telling) (parts : List (Part D)) (at : ℕ) (d : Part D) (slot generation : ℕ) → at < length parts
    → is_of slot generation (get_or parts at d) ≡ true → ((k : ℕ) → k < at → is_of slot generation (get_or parts k d) ≡ false)
    → part_in told parts slot generation ≡ Some (told (get_or parts at d).device)
found told [] at d slot generation below is before = absurd (omega arith)
found told (part ∷ parts) zero d slot generation below is before = first-of told part parts slot generation is
found told (part ∷ parts) (suc at) d slot generation below is before =
    behind told part parts slot generation (before 0 (omega arith))
    ∙ found told parts at d slot generation (omega arith) is (λ k low. before (suc k) (omega arith))

pub replaced : {D : Type 0} (told : D → Telling) (parts : List (Part D)) (at : ℕ) (d new : Part D) (slot generation : ℕ) → at < length parts
    → is_of slot generation new ≡ true → ((k : ℕ) → k < at → is_of slot generation (get_or parts k d) ≡ false)
    → part_in told (slice_set parts at new) slot generation ≡ Some (told new.device)
replaced told [] at d new slot generation below is before = absurd (omega arith)
replaced told (part ∷ parts) zero d new slot generation below is before = first-of told new parts slot generation is
replaced told (part ∷ parts) (suc at) d new slot generation below is before =
    behind told part (slice_set parts at new) slot generation (before 0 (omega arith))
    ∙ replaced told parts at d new slot generation (omega arith) is (λ k low. before (suc k) (omega arith))

-- of another slot or generation nothing changes
pub elsewhere : {D : Type 0} (told : D → Telling) (parts : List (Part D)) (at : ℕ) (d new : Part D) (other g : ℕ) → at < length parts
    → is_of other g new ≡ false → is_of other g (get_or parts at d) ≡ false
    → part_in told (slice_set parts at new) other g ≡ part_in told parts other g
elsewhere told [] at d new other g below is was = absurd (omega arith)
elsewhere told (part ∷ parts) zero d new other g below is was =
    behind told new parts other g is ∙ sym (behind told part parts other g was)
elsewhere told (part ∷ parts) (suc at) d new other g below is was = elim (cases_Bool (is_of other g part)) [
  | inl yes' ↦ first-of told part (slice_set parts at new) other g yes' ∙ sym (first-of told part parts other g yes')
  | inr no' ↦
      behind told part (slice_set parts at new) other g no' ∙ elsewhere told parts at d new other g (omega arith) is was
      ∙ sym (behind told part parts other g no')
]

pub not-both : {D : Type 0} (part : Part D) (slot generation other g : ℕ) → is_of slot generation part ≡ true
    → ((other ≡ slot) × (g ≡ generation) → ⊥) → is_of other g part ≡ false
not-both part slot generation other g is ne = elim (cases_Bool (is_of other g part)) [
  | inl yes' ↦
      let p = and_parts (part.slot == slot) (part.generation == generation) is in
      let q = and_parts (part.slot == other) (part.generation == g) yes' in
      absurd (ne (sym (eqb-true part.slot other q.0) ∙ eqb-true part.slot slot p.0, sym (eqb-true part.generation g q.1) ∙ eqb-true part.generation generation p.1))
  | inr no' ↦ no'
]

pub label-is : {D : Type 0} (part : Part D) (slot generation : ℕ) → is_of slot generation part ≡ true → label_of part ≡ (slot, generation)
label-is part slot generation is =
    let p = and_parts (part.slot == slot) (part.generation == generation) is in
    ap (λ y. (y, part.generation)) (eqb-true part.slot slot p.0) ∙ ap (λ y. (slot, y)) (eqb-true part.generation generation p.1)

-- a part goes on where it stands
pub labels-kept : {D : Type 0} (parts : List (Part D)) (at : ℕ) (before behind' : Part D) → get_or parts at before ≡ before
    → behind'.slot ≡ before.slot → behind'.generation ≡ before.generation → labels_of (slice_set parts at behind') ≡ labels_of parts
labels-kept parts at before behind' here slot generation =
    map-set_same label_of parts at behind' before
    (ap (λ y. (y, behind'.generation)) slot ∙ ap (λ y. (before.slot, y)) generation ∙ ap label_of (sym here))

pub performed-there : {D : Type 0} (told : D → Telling) (parts : List (Part D)) (at : ℕ) (before behind' : Part D) (c : Command)
    (completion : Result (List ℕ) DeviceFault) → position (is_of c.slot c.generation) parts ≡ Some at → get_or parts at before ≡ before
    → behind'.slot ≡ before.slot → behind'.generation ≡ before.generation
    → MatchResult completion
    (λ came. Does (told before.device) (given_transfer c.kind c.buffer) c.row came (told behind'.device) × (length came ≡ length c.buffer))
    (λ fault. Answers (told before.device) (failed_by fault.kind c.kind c.row) (told behind'.device)
    × (length fault.buffer ≡ length c.buffer))
    → MatchResult completion
    (Performed (part_in told parts) (part_in told (slice_set parts at behind')) c)
    (Failed (part_in told parts) (part_in told (slice_set parts at behind')) c)
performed-there {D = D} told parts at before behind' c completion place here slot generation did =
    let p = position-Some (is_of c.slot c.generation) parts at before place in
    let was : is_of c.slot c.generation before ≡ true = ap (is_of c.slot c.generation) (sym here) ∙ p.1 in
    let is : is_of c.slot c.generation behind' ≡ true =
    ap (λ (y : ℕ). (y == c.slot) && (behind'.generation == c.generation)) slot
    ∙ ap (λ (y : ℕ). (before.slot == c.slot) && (y == c.generation)) generation ∙ was in
    let others : (other g : ℕ) → ((other ≡ c.slot) × (g ≡ c.generation) → ⊥)
    → part_in told (slice_set parts at behind') other g ≡ part_in told parts other g =
    (λ other g ne. elsewhere told parts at before behind' other g p.0 (not-both behind' c.slot c.generation other g is ne)
    (ap (is_of other g) here ∙ not-both before c.slot c.generation other g was ne)) in
    which completion did
    (found told parts at before c.slot c.generation p.0 p.1 p.2 ∙ ap (λ (y : Part D). Some (told y.device)) here)
    (replaced told parts at before behind' c.slot c.generation p.0 is p.2) others
  where
    which : (completion : Result (List ℕ) DeviceFault)
        → MatchResult completion
        (λ came. Does (told before.device) (given_transfer c.kind c.buffer) c.row came (told behind'.device) × (length came ≡ length c.buffer))
        (λ fault. Answers (told before.device) (failed_by fault.kind c.kind c.row) (told behind'.device)
        × (length fault.buffer ≡ length c.buffer))
        → part_in told parts c.slot c.generation ≡ Some (told before.device)
        → part_in told (slice_set parts at behind') c.slot c.generation ≡ Some (told behind'.device)
        → ((other g : ℕ) → ((other ≡ c.slot) × (g ≡ c.generation) → ⊥)
        → part_in told (slice_set parts at behind') other g ≡ part_in told parts other g)
        → MatchResult completion
        (Performed (part_in told parts) (part_in told (slice_set parts at behind')) c)
        (Failed (part_in told parts) (part_in told (slice_set parts at behind')) c)
    which (Ok came) did was is others = record {
      before = told before.device;
      behind = told behind'.device;
      was = was;
      is = is;
      others = others;
      does = did.0;
      same_length = did.1;
    }
    which (Err fault) did was is others = record {
      others = others;
      same_length = did.1;
      misses = λ reads kind. (
        told before.device,
        told behind'.device,
        was,
        is,
        subst (λ (k : CommandKind). Answers (told before.device) (failed_by ReadFault k c.row) (told behind'.device)) kind
            (subst (λ (f : FaultKind). Answers (told before.device) (failed_by f c.kind c.row) (told behind'.device)) reads did.0),
      );
    }
