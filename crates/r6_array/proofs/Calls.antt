-- What the calls of an array do, from what they do to one shard.
use Rattle.std.proofs.Common.{◌≡◌, ℕ, zero, suc, ◌≤◌, List, [], ◌∷◌, ◌++◌, ◌⊎◌, inl, inr, refl, sym, ap, ◌∙◌, subst, Some, Result, Ok, Err, IfOk, IfErr, length}
use Rattle.std.specs.Prelude.{slice_get, slice_set}
use Rattle.std.proofs.lemmas.Option.{get_or_from_slice_get}
use Rattle.std.proofs.lemmas.List.{set-get_or}
use Rattle.r6_layout.specs.Shape.{blocks}
use Rattle.r6_world.specs.Steps as steps
use Rattle.r6_world.specs.Values.{op_of, world_command}
use Rattle.r6_world.specs.declared.values.Command.{Command}
use Rattle.r6_world.specs.declared.values.Op.{Op}
use Rattle.r6_world.proofs.Tables.{Some-inj, None-not_Some}
use Rattle.r6_core.specs.declared.refusal.Refusal.{Refusal}
use Rattle.r6_core.specs.declared.refusal.Refusal.TheVariants.{WrongLength, Busy, ArrayFailed, Exhausted}
use Rattle.r6_core.specs.Shards.{SameShard}
use Rattle.r6_core.specs.Refusals.{HasSubmitFault, submit_faults, IsFirstFault}
use Rattle.r6_core.specs.Effects.{RefusesOp}
use Rattle.r6_array.specs.Arrays.{ShardView, ArrayView, Has, with_shard}
use Rattle.r6_array.specs.Members.{TakesIn, PutsOut, AllAreTaken}
use Rattle.r6_array.specs.Effects.{shard_of_block, block_asked, Submits, HasRequestFault, request_faults, RefusesRequest, one_more, HandsOutOf, HandsNoneOf}
use Rattle.r6_array.specs.Inside.{IsArray}
use Rattle.r6_array.proofs.Going.{called, is_array-with, at_work-goes}
use Rattle.r6_array.specs.declared.ticket.Ticket.{Ticket}

-- one shard of a number
pub same_shard : (a : ArrayView) (n : ℕ) (s t : ShardView) → Has a n s → Has a n t → t ≡ s
same_shard a n s t x y = Some-inj t s (sym y ∙ x)

pub array_with : (a : ArrayView) (n : ℕ) (s t : ShardView) → IsArray a.shape a.shards → Has a n s → SameShard s.core t.core → IsArray a.shape (slice_set a.shards n t)
array_with a n s t x has same = is_array-with a.shape a.shards n s t x has same.0 same.1

-- what stands in a list with one more
pub pushed-cases : {A : Type 0} (xs : List A) (x : A) (k : ℕ) (y : A) → slice_get (xs ++ x ∷ []) k ≡ Some y → (slice_get xs k ≡ Some y) ⊎ ((k ≡ length xs) × (y ≡ x))
pushed-cases [] x zero y e = inr (refl, sym (Some-inj x y e))
pushed-cases [] x (suc k) y e = absurd (None-not_Some y e)
pushed-cases (x' ∷ xs) x zero y e = inl e
pushed-cases (x' ∷ xs) x (suc k) y e = elim (pushed-cases xs x k y e) [ inl a ↦ inl a | inr a ↦ inr (ap suc a.0, a.1) ]

-- ---- submit

pub submits : (a : ArrayView) (o : Op) (name n : ℕ) (s t : ShardView) → IsArray a.shape a.shards → shard_of_block a.shape (block_asked o) ≡ n → Has a n s → TakesIn s o name t
    → Submits a o name (with_shard a n t)
submits a o name n s t x own has taken =
    let home = shard_of_block a.shape (block_asked o) in
    let there : Has a home s = ap (slice_get a.shards) own ∙ has in
    record {
      was = s;
      there = there;
      now = t;
      taken = taken;
      new_is = ap (λ k. with_shard a k t) (sym own);
      run = subst (λ k. Rattle.r6_array.specs.Runs.GoesOn a (Rattle.r6_core.specs.Runs.Call home (steps.Submit (op_of o) taken.id) t.core ∷ []) (with_shard a k t)) own
          (called a home s t (steps.Submit (op_of o) taken.id) x there (record {}) taken.accepts.step taken.settled);
    }

-- a fault of the core of the block's shard is one of the request, which is for a block of that shard
request_fault : (a : ArrayView) (o : Op) (refusal : Refusal) (s : ShardView) → Has a (shard_of_block a.shape (block_asked o)) s → s.core.shape ≡ a.shape
    → s.core.shard ≡ shard_of_block a.shape (block_asked o) → IsFirstFault (HasSubmitFault s.core o) submit_faults refusal → IsFirstFault (HasRequestFault a o) request_faults refusal
request_fault a o refusal s there shape number f =
    elim f [
      | inl p ↦ inl (p.0, subst (λ sh. blocks sh ≤ block_asked o) shape p.1)
      | inr p ↦ inr (
        λ h. p.0 (subst (λ sh. blocks sh ≤ block_asked o) (sym shape) h),
        elim p.1 [
          | inl q ↦ absurd (q.1 (ap (λ sh. shard_of_block sh (block_asked o)) shape ∙ sym number))
          | inr q ↦ elim q.1 [
            | inl r ↦ inl (r.0, (s, there, r.1))
            | inr r ↦ inr (
              none WrongLength r.0,
              elim r.1 [
                | inl t ↦ inl (t.0, (s, there, t.1))
                | inr t ↦ inr (
                  none ArrayFailed t.0,
                  elim t.1 [
                    | inl u ↦ inl (u.0, (s, there, u.1))
                    | inr u ↦ inr (
                      none Exhausted u.0,
                      elim u.1 [
                        | inl v ↦ inl (v.0, (s, there, v.1))
                        | inr v ↦ inr (none Busy v.0, v.1)
                      ],
                    )
                  ],
                )
              ],
            )
          ]
        ],
      )
    ]
  where
    none : (fault : Refusal) → (HasSubmitFault s.core o fault → ⊥) → ((t : ShardView) × Has a (shard_of_block a.shape (block_asked o)) t × HasSubmitFault t.core o fault) → ⊥
    none fault h x = h (subst (λ (v : ShardView). HasSubmitFault v.core o fault) (same_shard a (shard_of_block a.shape (block_asked o)) s x.0 there x.1) x.2)

pub refuses : (a : ArrayView) (o : Op) (refusal : Refusal) (back : Op) (n : ℕ) (s : ShardView) → IsArray a.shape a.shards → shard_of_block a.shape (block_asked o) ≡ n → Has a n s
    → RefusesOp s.core o refusal back s.core → RefusesRequest a o refusal back a
refuses a o refusal back n s x own has r =
    let here = x.own n s has in
    record {
      same = refl;
      back_is = r.back_is;
      fault = request_fault a o refusal s (ap (slice_get a.shards) own ∙ has) here.0 (here.1 ∙ sym own) r.fault;
    }

pub if_ok : {X E : Type 0} (result : Result X E) (P Q : X → Type 0) → ((x : X) → P x → Q x) → IfOk result P → IfOk result Q
if_ok (Ok x) P Q on h = on x h
if_ok (Err e) P Q on h = tt

pub if_err : {X E : Type 0} (result : Result X E) (P Q : E → Type 0) → ((e : E) → P e → Q e) → IfErr result P → IfErr result Q
if_err (Ok x) P Q on h = tt
if_err (Err e) P Q on h = on e h

-- a shard that stays as it was
pub with_same : (a : ArrayView) (n : ℕ) (s t : ShardView) → Has a n s → t ≡ s → with_shard a n t ≡ a
with_same a n s t has e =
    ap (with_shard a n) e
    ∙ ap (λ shards. record a { shards = shards }) (ap (slice_set a.shards n) (sym (get_or_from_slice_get a.shards n s s has)) ∙ set-get_or a.shards n s)

-- ---- commands

pub hands_out : (a : ArrayView) (n : ℕ) (s t : ShardView) (c : Command) (ticket : Ticket) (at_work : List ℕ) → IsArray a.shape a.shards → Has a n s → PutsOut s c t
    → ticket ≡ record { shard = n; slot = c.slot; token = c.token } → at_work ≡ one_more a.at_work c.slot
    → HandsOutOf a n ticket c (record (with_shard a n t) { at_work = at_work })
hands_out a n s t c ticket at_work x has out is e =
    record {
      shard = ap (λ (k : Ticket). k.shard) is;
      was = s;
      there = has;
      now = t;
      taken = out;
      slot = ap (λ (k : Ticket). k.slot) is;
      token = ap (λ (k : Ticket). k.token) is;
      new_is = ap (λ w. record (with_shard a n t) { at_work = w }) e;
      run = at_work-goes a (with_shard a n t) (Rattle.r6_core.specs.Runs.Call n (steps.Take_command c.token (world_command out.frame out.abandoned out.copy c)) t.core ∷ []) at_work (called a n s t (steps.Take_command c.token (world_command out.frame out.abandoned out.copy c)) x has (record {}) out.step out.settled);
    }

pub none_of_shard : (a : ArrayView) (n : ℕ) (s t : ShardView) → Has a n s → t ≡ s → AllAreTaken s.core → HandsNoneOf a n (with_shard a n t)
none_of_shard a n s t has same taken =
    record { same = with_same a n s t has same; none = λ v h. subst (λ (v : ShardView). AllAreTaken v.core) (same_shard a n v s h has) taken }
