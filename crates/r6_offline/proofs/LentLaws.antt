-- What is left of the parts that a pass was lent.
use Rattle.std.proofs.Common.{◌≡◌, ◌≢◌, ℕ, ◌+◌, ◌<◌, true, arith, List, length, get_or, set, is_some, option_map, Option, Some, None, refl, sym, ap, subst, ◌∙◌, ⊎_elim}
use Rattle.std.proofs.lemmas.Bool.{cases_eq, false≢true}
use Rattle.std.proofs.lemmas.List.{get_or-set_same, get_or-set_other, set-get_or}
use Rattle.std.specs.Prelude.{IfSome}
use Rattle.r6_dev.specs.History.{Telling}
use Rattle.r6_dev.specs.Promises.{Promise, Covers, MayAnswer}
use Rattle.r6_layout.specs.Shape.{Shape, IsShape}
use Rattle.r6_layout.proofs.Shards.{OwnsRow-shard_of}
use Rattle.r6_layout.specs.Layout.{shard_of}
use Rattle.r6_offline.specs.Parts.{Parts, OnlyRead, TellsRows, part_number, parts_of}
use Rattle.r6_offline.specs.Lent.{FailsAlone, FailsNoRow, IsSound, KeepPromises, OnlyReadBut, Promises, promises_of}
use Rattle.r6_offline.specs.Rows.{ReadFails}
use Rattle.r6_dev.specs.declared.fault.Fault.{Fault}
use Rattle.r6_offline.specs.RowChecks.{IsBatchRead}
use Rattle.r6_offline.specs.declared.batch.BatchRead.{BatchRead}
use Rattle.r6_offline.specs.declared.report.RowFault.{RowFault}
use Rattle.r6_offline.specs.declared.row.SlotFault.{SlotFault}
use Rattle.r6_offline.specs.declared.row_check.RowCheck.{RowCheck}

pub keep_none : (promises : Promises) → KeepPromises promises promises
keep_none promises number = refl

pub keep_both : (old between new : Promises) → KeepPromises old between → KeepPromises between new → KeepPromises old new
keep_both old between new first second number = second number ∙ first number

-- ---- one part

pub keep_set : {D : Type 0} (promised : D → Promise) (parts : List (Option D)) (number : ℕ) (device next : D)
    → number < length parts → get_or parts number None ≡ Some device → promised next ≡ promised device
    → KeepPromises (promises_of promised parts) (promises_of promised (set parts number (Some next)))
keep_set promised parts number device next within is same n =
    ⊎_elim
    (λ (here : n ≡ number).
    ap (λ (k : ℕ). promises_of promised (set parts number (Some next)) k) here
    ∙ ap (option_map promised) (get_or-set_same parts number (Some next) None within) ∙ ap Some same
    ∙ sym (ap (option_map promised) is) ∙ sym (ap (λ (k : ℕ). promises_of promised parts k) here))
    (λ (apart : n ≢ number). ap (option_map promised) (get_or-set_other parts number n (Some next) None apart))
    (cases_eq n number)

pub keep_absent : {D : Type 0} (promised : D → Promise) (parts : List (Option D)) (number : ℕ) (part : Option D)
    → KeepPromises (promises_of promised parts) (promises_of promised (set parts number (get_or parts number part)))
keep_absent promised parts number part n = ap (λ l. promises_of promised l n) (set-get_or parts number part)

-- a part that is there answered a fault
pub part_failed : {D : Type 0} (told : D → Telling) (parts : List (Option D)) (number : ℕ) (device next : D)
    → number < length parts → get_or parts number None ≡ Some device
    → OnlyReadBut (λ other. other ≡ number) (parts_of told parts) (parts_of told (set parts number (Some next)))
part_failed told parts number device next within is =
    let old : Parts = parts_of told parts in
    let new : Parts = parts_of told (set parts number (Some next)) in
    let other : (n : ℕ) → n ≢ number → new n ≡ old n =
    λ n apart. ap (option_map told) (get_or-set_other parts number n (Some next) None apart) in
    record {
      tells = λ n apart first end blocks tells. subst (TellsRows first end blocks) (sym (other n apart)) tells;
      there = λ n.
          ⊎_elim
          (λ (here : n ≡ number).
          ap (λ (k : ℕ). is_some (new k)) here ∙ ap is_some (ap (option_map told) (get_or-set_same parts number (Some next) None within))
          ∙ sym (ap is_some (ap (option_map told) is)) ∙ sym (ap (λ (k : ℕ). is_some (old k)) here))
          (λ (apart : n ≢ number). ap is_some (other n apart))
          (cases_eq n number);
    }

pub unpromised_at : {D : Type 0} (promised : D → Promise) (part : Option D) (device : D) (row long : ℕ) → part ≡ Some device
    → ¬ Covers (promised device) row long → IfSome (option_map promised part) (λ promise. ¬ Covers promise row long)
unpromised_at promised part device row long is none =
    subst (λ it. IfSome (option_map promised it) (λ promise. ¬ Covers promise row long)) (sym is) none

pub answered_at : {D : Type 0} (promised : D → Promise) (part : Option D) (device : D) (row : ℕ) (fault : Fault) → part ≡ Some device
    → MayAnswer (promised device) row fault → IfSome (option_map promised part) (λ promise. MayAnswer promise row fault)
answered_at promised part device row fault is may =
    subst (λ it. IfSome (option_map promised it) (λ promise. MayAnswer promise row fault)) (sym is) may

-- ---- one after another

pub but_since : (Failed : ℕ → Type 0) (old now new : Parts) → OnlyRead old now → OnlyReadBut Failed now new → OnlyReadBut Failed old new
but_since Failed old now new read but = record {
  tells = λ n spared first end blocks tell. but.tells n spared first end blocks (read.tells n first end blocks tell);
  there = λ n. but.there n ∙ read.there n;
}

pub but_then : (Failed : ℕ → Type 0) (old now new : Parts) → OnlyReadBut Failed old now → OnlyRead now new → OnlyReadBut Failed old new
but_then Failed old now new but read = record {
  tells = λ n spared first end blocks tell. read.tells n first end blocks (but.tells n spared first end blocks tell);
  there = λ n. read.there n ∙ but.there n;
}

pub but_none : (Failed : ℕ → Type 0) (old new : Parts) → OnlyRead old new → OnlyReadBut Failed old new
but_none Failed old new read = record {
  tells = λ n spared first end blocks tell. read.tells n first end blocks tell;
  there = read.there;
}

pub alone_since : (shape : Shape) (promises now_promises : Promises) (old now new : Parts) (row : ℕ) (fault : SlotFault)
    → KeepPromises promises now_promises → OnlyRead old now → FailsAlone shape now_promises now new row fault
    → FailsAlone shape promises old new row fault
alone_since shape promises now_promises old now new row fault keep read alone =
    let number = part_number shape (shard_of shape row) fault.slot in
    record {
      kept = but_since (λ other. other ≡ number) old now new read alone.kept;
      unpromised = subst (λ it. IfSome it (λ promise. ¬ Covers promise row shape.block)) (keep number) alone.unpromised;
      kind = subst (λ it. IfSome it (λ promise. MayAnswer promise row fault.fault)) (keep number) alone.kind;
    }

-- the part with the number of a row and a slot answered a fault
pub failed_at : (shape : Shape) (promises : Promises) (old new : Parts) (row : ℕ) (fault : SlotFault) (number long : ℕ)
    → number ≡ part_number shape (shard_of shape row) fault.slot → long ≡ shape.block
    → OnlyReadBut (λ other. other ≡ number) old new → IfSome (promises number) (λ promise. ¬ Covers promise row long)
    → IfSome (promises number) (λ promise. MayAnswer promise row fault.fault) → FailsAlone shape promises old new row fault
failed_at shape promises old new row fault number long at same kept sound kind = record {
  kept = subst (λ (n : ℕ). OnlyReadBut (λ other. other ≡ n) old new) at kept;
  unpromised = subst (λ (n : ℕ). IfSome (promises n) (λ promise. ¬ Covers promise row shape.block)) at
      (subst (λ (n : ℕ). IfSome (promises number) (λ promise. ¬ Covers promise row n)) same sound);
  kind = subst (λ (n : ℕ). IfSome (promises n) (λ promise. MayAnswer promise row fault.fault)) at kind;
}

-- a batch met a fault, or none
pub met_since : (shape : Shape) (promises now_promises : Promises) (old now new : Parts) (row : ℕ) (fault : Option SlotFault)
    → KeepPromises promises now_promises → OnlyRead old now
    → IfSome fault (FailsAlone shape now_promises now new row)
    → IfSome fault (FailsAlone shape promises old new row)
met_since shape promises now_promises old now new row None keep read met = met
met_since shape promises now_promises old now new row (Some fault) keep read met =
    alone_since shape promises now_promises old now new row fault keep read met

-- a batch of no row meets none
pub none_met : (shape : Shape) (old new : Parts) (row : ℕ) (before after : List RowCheck) (count : ℕ) (read : BatchRead) (fault : Option SlotFault)
    → count ≡ 0 → IsBatchRead shape old new row count before after read → read.fault ≡ fault → fault ≡ None
none_met shape old new row before after count read None none is same = refl
none_met shape old new row before after count read (Some fault) none is same =
    let fails = subst (λ it. IfSome it (λ fault. (read.rows < count) × ReadFails shape old (row + read.rows) fault)) same is.fails in
    absurd (omega (arith, fails.0, none))

-- ---- faults that are not made up

pub sound_none : (shape : Shape) (promises : Promises) (fault : Option RowFault) → fault ≡ None → IsSound shape promises fault
sound_none shape promises fault none = subst (IsSound shape promises) (sym none) (record { named = tt; kind = tt; all = λ _. refl })

pub clash : (P : Promise → Type 0) (promise : Option Promise) → is_some promise ≡ true → IfSome promise P
    → IfSome promise (λ it. ¬ P it) → ⊥
clash P None there yes' no' = false≢true there
clash P (Some promise) there yes' no' = no' yes'

-- a part that doesn't promise one of its rows does not promise them all
pub unpromised_row : (shape : Shape) (row : ℕ) (promise : Option Promise) → IsShape shape → row < shape.rows
    → IfSome promise (λ it. ¬ Covers it row shape.block)
    → IfSome promise (λ it. ¬ FailsNoRow shape (shard_of shape row) it)
unpromised_row shape row None is within no' = tt
unpromised_row shape row (Some promise) is within no' = λ all. no' (all row (OwnsRow-shard_of shape row is within))

pub same_there : {D : Type 0} (told : D → Telling) (promised : D → Promise) (part : Option D)
    → is_some (option_map promised part) ≡ is_some (option_map told part)
same_there told promised None = refl
same_there told promised (Some device) = refl

pub sound_at : {D : Type 0} (told : D → Telling) (promised : D → Promise) (parts : List (Option D)) (new : Parts) (shape : Shape)
    (row : ℕ) (fault : SlotFault) → IsShape shape → row < shape.rows → ReadFails shape (parts_of told parts) row fault
    → FailsAlone shape (promises_of promised parts) (parts_of told parts) new row fault
    → IsSound shape (promises_of promised parts) (Some (record { row = row; slot = fault.slot; fault = fault.fault }))
sound_at told promised parts new shape row fault is within fails alone =
    let number = part_number shape (shard_of shape row) fault.slot in
    let promise : Option Promise = promises_of promised parts number in
    let no' : IfSome promise (λ it. ¬ FailsNoRow shape (shard_of shape row) it) =
    unpromised_row shape row promise is within alone.unpromised in
    record {
      named = no';
      kind = alone.kind;
      all = λ all.
          absurd (clash (FailsNoRow shape (shard_of shape row)) promise
          (same_there told promised (get_or parts number None) ∙ fails.is_there)
          (all (shard_of shape row) fault.slot (OwnsRow-shard_of shape row is within).is_shard fails.within) no');
    }
