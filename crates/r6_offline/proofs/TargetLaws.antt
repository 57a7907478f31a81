-- The new part of a shard is written.
use Rattle.std.proofs.Common.{◌≡◌, ◌≢◌, ℕ, ◌<◌, ◌≤◌, true, arith, is_some, List, [], ◌∷◌, length, get_or, set, Some, Result, Ok, Err, refl, sym, ap, subst, ◌∙◌, ⊎_elim}
use Rattle.std.specs.Prelude.{option_map, MatchResult, OnErr, OnOk, IfErr, IfSome, IsOk}
use Rattle.std.proofs.lemmas.Bool.{cases_eq, cases_lt, false≢true}
use Rattle.std.proofs.lemmas.List.{get_or-set_same, get_or-set_other, length-set}
use Rattle.std.proofs.lemmas.Option.{slice_get-get_or, slice_get_past}
use Rattle.r6_dev.specs.History.{Answers, Block, Fails, Telling, Writes}
use Rattle.r6_dev.specs.Promises.{Covers, MayAnswer, Promise}
use Rattle.r6_dev.specs.declared.fault.Fault.{Fault}
use Rattle.r6_offline.specs.Lent.{KeepPromises, target_promises}
use Rattle.r6_dev.specs.declared.fault.Fault.TheVariants.{ReadFault}
use Rattle.r6_offline.specs.Rebuilds.{PartWritten, targets_of}

told_at : {D : Type 0} (told : D → Telling) (targets : List D) (shard : ℕ) (part other : D) → shard < length targets
    → get_or targets shard other ≡ part → targets_of told targets shard ≡ Some (told part)
told_at told targets shard part other within is =
    ap (option_map told) (slice_get-get_or targets shard other within ∙ ap Some is)

pub targets_apart : {D : Type 0} (told : D → Telling) (targets : List D) (shard : ℕ) (part : D) (other : ℕ) → other ≢ shard
    → targets_of told (set targets shard part) other ≡ targets_of told targets other
targets_apart told targets shard part other apart =
    let long = length-set targets shard part in
    ⊎_elim
    (λ (below : other < length targets).
    ap (option_map told) (slice_get-get_or (set targets shard part) other part (subst (λ (n : ℕ). other < n) (sym long) below)
    ∙ ap Some (get_or-set_other targets shard other part part apart) ∙ sym (slice_get-get_or targets other part below)))
    (λ (past : length targets ≤ other).
    ap (option_map told) (slice_get_past (set targets shard part) other (subst (λ (n : ℕ). n ≤ other) (sym long) past)
    ∙ sym (slice_get_past targets other past)))
    (cases_lt other (length targets))

pub part_written : {D : Type 0} (told : D → Telling) (targets : List D) (shard row : ℕ) (block : Block) (other new : D)
    (result : Result (Unit {0}) Fault) → shard < length targets
    → MatchResult result (λ _. Answers (told (get_or targets shard other)) (Writes row block) (told new))
    (λ _. Answers (told (get_or targets shard other)) Fails (told new))
    → OnOk result (PartWritten (targets_of told targets) (targets_of told (set targets shard new)) shard row block)
part_written told targets shard row block other new (Ok done) within answers =
    let within' : shard < length (set targets shard new) = subst (λ (n : ℕ). shard < n) (sym (length-set targets shard new)) within in
    record {
      others = λ k apart. targets_apart told targets shard new k apart;
      written = λ blocks tells.
          let old = get_or targets shard other in
          let same : Some (told old) ≡ Some (Some blocks) = sym (told_at told targets shard old other within refl) ∙ tells in
          let known : told old ≡ Some blocks = cc in
          told_at told (set targets shard new) shard new new within' (get_or-set_same targets shard new new within)
          ∙ ap Some (subst (λ t. Answers t (Writes row block) (told new)) known answers);
    }
part_written told targets shard row block other new (Err fault) within answers = tt

pub not_of_read : (result : Result (Unit {0}) Fault) → result ≢ Err ReadFault → IfErr result (λ fault. fault ≢ ReadFault)
not_of_read (Ok done) other = tt
not_of_read (Err fault) other = λ same. other (ap Err same)

-- the parts promise what they promised
pub targets_keep : {D : Type 0} (promised : D → Promise) (targets : List D) (shard : ℕ) (new other : D) → shard < length targets
    → promised new ≡ promised (get_or targets shard other)
    → KeepPromises (target_promises promised targets) (target_promises promised (set targets shard new))
targets_keep promised targets shard new other within same k =
    let long = length-set targets shard new in
    ⊎_elim
    (λ (here : k ≡ shard).
    ap (λ (n : ℕ). target_promises promised (set targets shard new) n) here
    ∙ ap (option_map promised) (slice_get-get_or (set targets shard new) shard new (subst (λ (n : ℕ). shard < n) (sym long) within)
    ∙ ap Some (get_or-set_same targets shard new new within))
    ∙ ap Some same ∙ sym (ap (option_map promised) (slice_get-get_or targets shard other within))
    ∙ sym (ap (λ (n : ℕ). target_promises promised targets n) here))
    (λ (apart : k ≢ shard).
    ⊎_elim
    (λ (below : k < length targets).
    ap (option_map promised) (slice_get-get_or (set targets shard new) k new (subst (λ (n : ℕ). k < n) (sym long) below)
    ∙ ap Some (get_or-set_other targets shard k new new apart) ∙ sym (slice_get-get_or targets k new below)))
    (λ (past : length targets ≤ k).
    ap (option_map promised) (slice_get_past (set targets shard new) k (subst (λ (n : ℕ). n ≤ k) (sym long) past)
    ∙ sym (slice_get_past targets k past)))
    (cases_lt k (length targets)))
    (cases_eq k shard)

pub target_unpromised : {D : Type 0} (promised : D → Promise) (targets : List D) (shard row long : ℕ) (other : D)
    (result : Result (Unit {0}) Fault) → shard < length targets
    → (Covers (promised (get_or targets shard other)) row long → IsOk result)
    → OnErr result (IfSome (target_promises promised targets shard) (λ promise. ¬ Covers promise row long))
target_unpromised promised targets shard row long other (Ok done) within sound = tt
target_unpromised promised targets shard row long other (Err fault) within sound =
    subst (λ it. IfSome it (λ promise. ¬ Covers promise row long)) (sym (ap (option_map promised) (slice_get-get_or targets shard other within)))
    (λ covers. false≢true (sound covers))

pub target_answered : {D : Type 0} (promised : D → Promise) (targets : List D) (shard row : ℕ) (other : D) (result : Result (Unit {0}) Fault)
    → shard < length targets → IfErr result (MayAnswer (promised (get_or targets shard other)) row)
    → IfErr result (λ fault. IfSome (target_promises promised targets shard) (λ promise. MayAnswer promise row fault))
target_answered promised targets shard row other (Ok done) within may = tt
target_answered promised targets shard row other (Err fault) within may =
    subst (λ it. IfSome it (λ promise. MayAnswer promise row fault)) (sym (ap (option_map promised) (slice_get-get_or targets shard other within))) may

pub targets_there : {D : Type 0} (promised : D → Promise) (targets : List D) (shard : ℕ) → shard < length targets
    → is_some (target_promises promised targets shard) ≡ true
targets_there promised [] shard within = absurd (omega (arith, within))
targets_there promised (first ∷ targets) shard within =
    ap is_some (ap (option_map promised) (slice_get-get_or (first ∷ targets) shard first within))
