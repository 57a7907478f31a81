-- What was right, or refused, of requests that were handed in together.
use Rattle.std.proofs.Common.{◌≡◌, ℕ, ◌+◌, ◌≤◌, List, [], ◌∷◌, ◌++◌, length, map, refl, sym, ap, subst, ◌∙◌, arith, append_assoc, append-nil, length-append, Some}
use Rattle.std.specs.List.{AllByRecursion}
use Rattle.r6_world.specs.PlainArray as world
use Rattle.r6_world.specs.Values.{op_of}
use Rattle.r6_world.specs.declared.values.Op.{Op}
use Rattle.r6_core.specs.declared.refusal.Refusal.{Refusal}
use Rattle.r6_core.specs.declared.submitting.Submitted.{Submitted}
use Rattle.r6_core.specs.Refusals.{HasSubmitFault, most_unanswered, HasNone}
use Rattle.r6_core.specs.Shards.{CoreView}
use Rattle.r6_core.specs.Together.{AreRight, EndsTaking, SubmitsAll}
use Rattle.r6_shard.specs.declared.ledger.Asked.{Asked}
use Rattle.r6_shard.specs.declared.ledger.Asking.{Asking}
use Rattle.r6_shard.specs.Refusing.{own_faults, ending_faults, IsRefusedFor}
use Rattle.r6_shard.specs.Runs.{AreServed}
use Rattle.r6_shard.specs.Replying.{noted_of}
use Rattle.r6_shard.specs.Together.{all_asked, all_asking}
use Rattle.r6_shard.proofs.Lasting.{further-refused, further_entered, further_started, refused-so, was-right, was-serving}
use Rattle.r6_shard.proofs.Ledgers.{one-accepted}

-- ---- those that were taken

-- nothing is wrong with it in itself, and the service hasn't ended
abbrev pub WasRight : CoreView → Op → Type 0
WasRight core o = HasNone (HasSubmitFault core o) own_faults × HasNone (HasSubmitFault core o) ending_faults

each-right : (old : CoreView) (taken before rest : List Op) → taken ≡ before ++ rest → AreRight old taken → AllByRecursion (WasRight old) rest
each-right old taken before [] split right = tt
each-right old taken before (o ∷ rest) split right =
    let at = right before o rest split in
    let further = further_entered old before at.0 at.1 in (
      (was-right old at.0 o further at.2, was-serving old at.0 o further at.2),
      each-right old taken (before ++ o ∷ []) rest (split ∙ sym (append_assoc before (o ∷ []) rest)) right,
    )

pub all-right : (old : CoreView) (taken : List Op) → AreRight old taken → AllByRecursion (WasRight old) taken
all-right old taken right = each-right old taken [] taken refl right

pub all-accepted : (core : CoreView) (askings : List Asking) (asked : List Asked) (ops : List world.Op) (refused : List (ℕ × Refusal)) (answered : ℕ) (events : List ℕ) (taken : List Op)
    → length taken ≤ length events → AllByRecursion (WasRight core) taken → AreServed core askings asked ops refused
    → AreServed core (askings ++ all_asking events taken) (asked ++ all_asked answered events taken) (ops ++ map op_of taken) refused
all-accepted core askings asked ops refused answered [] [] many right x =
    subst (λ xs. AreServed core xs (asked ++ []) (ops ++ []) refused) (sym (append-nil askings))
    (subst (λ xs. AreServed core askings xs (ops ++ []) refused) (sym (append-nil asked)) (subst (λ xs. AreServed core askings asked xs refused) (sym (append-nil ops)) x))
all-accepted core askings asked ops refused answered (event ∷ events) [] many right x =
    subst (λ xs. AreServed core xs (asked ++ []) (ops ++ []) refused) (sym (append-nil askings))
    (subst (λ xs. AreServed core askings xs (ops ++ []) refused) (sym (append-nil asked)) (subst (λ xs. AreServed core askings asked xs refused) (sym (append-nil ops)) x))
all-accepted core askings asked ops refused answered [] (o ∷ taken) many right x = absurd (omega (arith, many))
all-accepted core askings asked ops refused answered (event ∷ events) (o ∷ taken) many right x =
    let asking : Asking = record { event = event; op = o } in
    let a : Asked = noted_of event (op_of o) answered in
    let one = one-accepted core askings asking asked a ops refused refl refl right.0.0 right.0.1 x in
    let others = all-accepted core (askings ++ asking ∷ []) (asked ++ a ∷ []) (ops ++ op_of o ∷ []) refused answered events taken (omega (arith, many)) right.1 one in
    subst (λ xs. AreServed core xs (asked ++ a ∷ all_asked answered events taken) (ops ++ op_of o ∷ map op_of taken) refused) (append_assoc askings (asking ∷ []) (all_asking events taken))
    (subst (λ xs. AreServed core ((askings ++ asking ∷ []) ++ all_asking events taken) xs (ops ++ op_of o ∷ map op_of taken) refused) (append_assoc asked (a ∷ []) (all_asked answered events taken))
    (subst (λ xs. AreServed core ((askings ++ asking ∷ []) ++ all_asking events taken) ((asked ++ a ∷ []) ++ all_asked answered events taken) xs refused) (append_assoc ops (op_of o ∷ []) (map op_of taken)) others))

-- ---- the one that is refused

pub next-refused : (old new : CoreView) (ops left : List Op) (submitted : Submitted) (refusal : Refusal) (s : SubmitsAll old ops left submitted new) → submitted.refusal ≡ Some refusal
    → old.unanswered + length ops ≤ most_unanswered → (o : Op) × (behind : List Op) × (left ≡ o ∷ behind) × IsRefusedFor new o refusal
next-refused old new ops left submitted refusal s is room =
    let e : EndsTaking old s.taken left (Some refusal) = subst (EndsTaking old s.taken left) is s.ends in
    let many = ap length s.split ∙ length-append s.taken left in
    let rest = ap length e.2 in
    let unanswered = e.4.unanswered in (
      e.0,
      e.1,
      e.2,
      further-refused e.3 new e.0 refusal (further_started old s.taken e.3 submitted.first.0 new e.4 s.step)
          (refused-so e.3 e.0 refusal (omega (arith, unanswered, many, rest, room)) e.5),
    )
