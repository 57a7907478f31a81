-- Requests that are handed in together, and what their callers call them.
use Rattle.std.proofs.Common.{◌≡◌, ◌≢◌, ℕ, ◌+◌, ◌<◌, ◌≤◌, ◌^◌, List, [], ◌∷◌, ◌++◌, ◌⊎◌, Bool, false, inl, inr, refl, sym, ap, ◌∙◌, subst, arith, length, length-append, map, Option, Some, None}
use Rattle.std.specs.Prelude.{take, drop}
use Rattle.std.specs.List.{zip}
use Rattle.std.proofs.Math.Nat.{lt_of_not-le}
use Rattle.std.proofs.lemmas.Bool.{cases_eq, cases_lt, ne_eqb}
use Rattle.std.proofs.lemmas.List.{length-map, length-take-le, length-drop}
use Rattle.std.proofs.lemmas.Slice.Zip.{firsts-zip, seconds-zip}
use Rattle.std.specs.Ordering.{nat_cmp}
use Rattle.std.specs.FinMap as finite
use Rattle.std.specs.FinMap.{FinMap}
use Rattle.r6_tables.specs.Table.{Numbered, capacity_of, next_of, entries_of}
use Rattle.r6_frames.proofs.Tables.{inserted-own, inserted-other, len-inserted}
use Rattle.r6_world.specs.PlainArray as world
use Rattle.r6_world.specs.Layouts.{Layout}
use Rattle.r6_world.specs.ShardStates.{Shard, limit}
use Rattle.r6_world.specs.Changes.{Accept, after}
use Rattle.r6_world.specs.Steps as steps
use Rattle.r6_world.specs.Steps.{Step as ShardStep, Submit_all, entered}
use Rattle.r6_world.specs.Values.{op_of}
use Rattle.r6_world.specs.declared.values.Op.{Op}
use Rattle.r6_world.proofs.Tables.{put-other, not_both}
use Rattle.r6_core.specs.declared.call.Call.{Call}
use Rattle.r6_core.specs.declared.submitting.Submitted.{Submitted}
use Rattle.r6_core.specs.Shards.{CoreView, core_layout, world_shard}
use Rattle.r6_core.specs.Refusals.{most_unanswered}
use Rattle.r6_core.specs.declared.refusal.Refusal.TheVariants.{NoSuchBlock}
use Rattle.r6_core.specs.Together.{AreRight, SubmitsAll}
use Rattle.r6_layout.specs.Shape.{Shape, blocks}
use Rattle.r6_array.specs.Arrays.{ArrayView, ShardView, Has, first_of, with_shard}
use Rattle.r6_array.specs.Effects.{shard_of_block}
use Rattle.r6_array.specs.Inside.{AreNamed, AreTakenBelow, IsArray, IsHandle, IsMember}
use Rattle.r6_array.specs.Requests.{Named, ops_of, IsFirstBlock}
use Rattle.r6_array.specs.Together.{AreFresh, TakesAllIn, SubmitsTo, SubmitsList, HandleTakesAllIn, all_named, handed_in, with_named}
use Rattle.r6_array.specs.declared.handed_in.HandedIn.{HandedIn}
use Rattle.r6_array.proofs.Lists.{zip_split}
use Rattle.r6_array.proofs.Inner.{scans, calls_stay}
use Rattle.r6_array.proofs.Events.{same_commands}
use Rattle.r6_array.proofs.Members.{false-true, unnamed}
use Rattle.r6_array.proofs.Going.{called}
use Rattle.r6_array.proofs.Calls.{with_same}
use Rattle.r6_array.proofs.HandleCalls.{handle, there}
use Rattle.r6_array.proofs.HandleGoing.{beside_call}

-- ---- what acceptances leave

entered_is : (l : Layout) (ops : List world.Op) (s : Shard) → entered l s ops ≡ record s { accepted = (entered l s ops).accepted; request = (entered l s ops).request }
entered_is l [] s = refl
entered_is l (op ∷ ops) s = entered_is l ops (after l s (Accept op))

entered_count : (l : Layout) (ops : List world.Op) (s : Shard) → (entered l s ops).accepted ≡ s.accepted + length ops
entered_count l [] s = omega arith
entered_count l (op ∷ ops) s = let rest = entered_count l ops (after l s (Accept op)) in omega (arith, rest)

-- a number that isn't one of theirs
abbrev pub IsOutside : (first many k : ℕ) → Type 0
IsOutside first many k = (k < first) ⊎ (first + many ≤ k)

narrower : (first many k : ℕ) → IsOutside first (many + 1) k → (k ≢ first) × IsOutside (first + 1) many k
narrower first many k (inl low) = ((λ e. absurd (omega (arith, low, e))), inl (omega (arith, low)))
narrower first many k (inr high) = ((λ e. absurd (omega (arith, high, e))), inr (omega (arith, high)))

entered_outside : (l : Layout) (ops : List world.Op) (s : Shard) (k : ℕ) → IsOutside s.accepted (length ops) k → (entered l s ops).request k ≡ s.request k
entered_outside l [] s k out = refl
entered_outside l (op ∷ ops) s k out =
    let more : length (op ∷ ops) ≡ length ops + 1 = omega arith in
    let n = narrower s.accepted (length ops) k (subst (λ m. IsOutside s.accepted m k) more out) in
    entered_outside l ops (after l s (Accept op)) k n.1 ∙ put-other s.request s.accepted _ k n.0

-- requests are accepted: no others come
pub record EntersAll (old : Shard) (first many : ℕ) (new : Shard) : Type 0 where
  pub number : first ≡ old.accepted
  pub accepted : new.accepted ≡ old.accepted + many
  pub gone : (k : ℕ) → IsOutside first many k → old.request k ≡ None → new.request k ≡ None
  pub untold : new.untold ≡ old.untold
  pub calls : new.calls ≡ old.calls
  pub taken : (next : ℕ) → AreTakenBelow next old → AreTakenBelow next new

together : (l : Layout) (n : ℕ) (old : Shard) (ops : List world.Op) (first : ℕ) (new : Shard) → ShardStep l n old (Submit_all ops first) new → EntersAll old first (length ops) new
together l n old ops first new st =
    let mid = entered l old ops in
    let is = entered_is l ops old in
    let k = scans l n mid new st.2 in
    record {
      number = st.0;
      accepted = k.accepted ∙ entered_count l ops old;
      gone = λ i out e. k.gone i (entered_outside l ops old i (subst (λ m. IsOutside m (length ops) i) st.0 out) ∙ e);
      untold = k.untold ∙ ap (λ (s : Shard). s.untold) is;
      calls = calls_stay l n mid new st.2 ∙ ap (λ (s : Shard). s.calls) is;
      taken = λ next x. k.taken next (same_commands next old mid (ap (λ (s : Shard). s.tokens) is) (ap (λ (s : Shard). s.command) is) x);
    }

-- ---- names

-- a number outside has the name that it had, and one inside has one
named_outside : (names : FinMap nat_cmp ℕ) (first : ℕ) (list : List ℕ) (k : ℕ) → IsOutside first (length list) k → finite.get (all_named names first list) k ≡ finite.get names k
named_outside names first [] k out = refl
named_outside names first (name ∷ more) k out =
    let long : length (name ∷ more) ≡ length more + 1 = omega arith in
    let n = narrower first (length more) k (subst (λ m. IsOutside first m k) long out) in
    named_outside (finite.insert names first name) (first + 1) more k n.1 ∙ inserted-other names first name k (ne_eqb k first n.0)

named_inside : (names : FinMap nat_cmp ℕ) (first : ℕ) (list : List ℕ) (k : ℕ) → first ≤ k → k < first + length list
    → (name : ℕ) × (finite.get (all_named names first list) k ≡ Some name)
named_inside names first [] k low high = absurd (omega (arith, low, high))
named_inside names first (name ∷ more) k low high = elim (cases_eq k first) [
  | inl same ↦ (
    name,
    named_outside (finite.insert names first name) (first + 1) more k (inl (omega (arith, same)))
        ∙ ap (finite.get (finite.insert names first name)) same ∙ inserted-own names first name,
  )
  | inr ne ↦ named_inside (finite.insert names first name) (first + 1) more k (omega (arith, low, ne)) (omega (arith, high))
]

inside_or : (first many k : ℕ) → ((first ≤ k) × (k < first + many)) ⊎ IsOutside first many k
inside_or first many k = elim (cases_lt k first) [
  | inl low ↦ inr (inl low)
  | inr up ↦ elim (cases_lt k (first + many)) [ inl below ↦ inl (up, below) | inr past ↦ inr (inr past) ]
]

named_all : (names : Numbered ℕ) (first : ℕ) (list : List ℕ) (old new : Shard) (capacity next : ℕ) → AreNamed names old
    → ((k : ℕ) → IsOutside first (length list) k → old.request k ≡ None → new.request k ≡ None)
    → AreNamed (capacity, (next, all_named (entries_of names) first list)) new
named_all names first list old new capacity next x gone id request e = elim (inside_or first (length list) id) [
  | inl in' ↦ named_inside (entries_of names) first list id in'.0 in'.1
  | inr out ↦ of out (finite.get (entries_of names) id) refl
]
  where
    of : IsOutside first (length list) id → (o : Option ℕ) → finite.get (entries_of names) id ≡ o
        → (name : ℕ) × (finite.get (all_named (entries_of names) first list) id ≡ Some name)
    of out (Some name) f = (name, named_outside (entries_of names) first list id out ∙ f)
    of out None f = absurd (not_both (new.request id) request (gone id out (unnamed names old id x f)) e)

below_all : (names : FinMap nat_cmp ℕ) (first : ℕ) (list : List ℕ) (accepted : ℕ) → first + length list ≤ accepted
    → ((id n : ℕ) → finite.get names id ≡ Some n → id < accepted) → (id n : ℕ) → finite.get (all_named names first list) id ≡ Some n → id < accepted
below_all names first list accepted many x id n e = elim (inside_or first (length list) id) [
  | inl in' ↦ let high = in'.1 in omega (arith, high, many)
  | inr out ↦ x id n (sym (named_outside names first list id out) ∙ e)
]

-- none of the numbers from this one on has a name
len_all : (names : FinMap nat_cmp ℕ) (first : ℕ) (list : List ℕ) → ((id : ℕ) → first ≤ id → finite.get names id ≡ None)
    → finite.len (all_named names first list) ≡ finite.len names + length list
len_all names first [] none = omega arith
len_all names first (name ∷ more) none =
    let rest = len_all (finite.insert names first name) (first + 1) more (λ id low.
    inserted-other names first name id (ne_eqb id first (λ same. absurd (omega (arith, low, same)))) ∙ none id (omega (arith, low))) in
    let one = len-inserted names first name (none first (omega arith)) in
    omega (arith, rest, one)

none_from : (names : Numbered ℕ) (accepted : ℕ) → ((id n : ℕ) → finite.get (entries_of names) id ≡ Some n → id < accepted)
    → (id : ℕ) → accepted ≤ id → finite.get (entries_of names) id ≡ None
none_from names accepted x id low = of (finite.get (entries_of names) id) refl
  where
    of : (o : Option ℕ) → finite.get (entries_of names) id ≡ o → finite.get (entries_of names) id ≡ None
    of None e = e
    of (Some n) e = absurd (let b = x id n e in omega (arith, b, low))

-- ---- as many more as fit

last_of : (o : Op) (ops : List Op) → (before : List Op) × (last : Op) × (o ∷ ops ≡ before ++ last ∷ [])
last_of o [] = ([], o, refl)
last_of o (p ∷ ops) = let rest = last_of p ops in (o ∷ rest.0, rest.1, ap (λ xs. o ∷ xs) rest.2)

fits : (old : CoreView) (taken : List Op) → AreRight old taken → old.unanswered ≤ most_unanswered
    → (old.unanswered + length taken ≤ most_unanswered) × (0 < length taken → (world_shard old).accepted + length taken < 2 ^ 64)
fits old [] right room = (omega (arith, room), λ some. absurd (omega (arith, some)))
fits old (o ∷ ops) right room =
    let l = last_of o ops in
    let at = right l.0 l.1 [] l.2 in
    let mid : CoreView = at.0 in
    let many = at.1.unanswered in
    let accepted : (world_shard mid).accepted ≡ (world_shard old).accepted + length l.0 =
    ap (λ (s : Shard). s.accepted) at.1.state ∙ entered_count (core_layout old) (map op_of l.0) (world_shard old) ∙ ap (λ n. (world_shard old).accepted + n) (length-map l.0 op_of) in
    let few : mid.unanswered < most_unanswered = lt_of_not-le at.2.1.1.1.1.1.0 in
    let fresh : (world_shard mid).accepted < limit = lt_of_not-le (λ le. at.2.1.1.1.1.0 (inr le)) in
    let long : length (o ∷ ops) ≡ length l.0 + 1 = ap length l.2 ∙ length-append l.0 (l.1 ∷ []) in
    (omega (arith, many, few, long), λ some. omega (arith, accepted, fresh, long))

-- ---- the names of a list

-- the requests that were taken were in the list
pub within_list : (taken left ops : List Op) → ops ≡ taken ++ left → length taken ≤ length ops
within_list taken left ops e = let both = ap length e ∙ length-append taken left in omega (arith, both)

pub fresh : (core : CoreView) (names : Numbered ℕ) (settled : Bool) (change : Option Call) (taken : ℕ) → IsMember core names settled change taken → AreFresh names
fresh core names settled change taken x id low = let n = x.numbers in none_from names (world_shard core).accepted x.below id (omega (arith, low, n))

all_last : (names : FinMap nat_cmp ℕ) (first : ℕ) (list : List ℕ) (name : ℕ)
    → all_named names first (list ++ name ∷ []) ≡ finite.insert (all_named names first list) (first + length list) name
all_last names first [] name = let none : List ℕ = [] in let same : first + length none ≡ first = omega arith in ap (λ k. finite.insert names k name) (sym same)
all_last names first (other ∷ list) name =
    let same : first + 1 + length list ≡ first + length (other ∷ list) = omega arith in
    all_last (finite.insert names first other) (first + 1) list name ∙ ap (λ k. finite.insert (all_named names first (other ∷ list)) k name) same

-- one name more
pub one_named : (old : Numbered ℕ) (named : List ℕ) (name : ℕ)
    → (capacity_of (with_named old named), (next_of (with_named old named) + 1, finite.insert (entries_of (with_named old named)) (next_of (with_named old named)) name))
    ≡ with_named old (named ++ name ∷ [])
one_named old named name =
    let long : length (named ++ name ∷ []) ≡ length named + 1 = length-append named (name ∷ []) in
    let next : next_of old + length named + 1 ≡ next_of old + length (named ++ name ∷ []) = omega (arith, long) in
    λ i. (capacity_of old, (next i, sym (all_last (entries_of old) (next_of old) named name) i))

pub none_named : (old : Numbered ℕ) → with_named old [] ≡ old
none_named old = let none : List ℕ = [] in let same : next_of old + length none ≡ next_of old = omega arith in λ i. (capacity_of old, (same i, entries_of old))

pub len_named : (old : Numbered ℕ) (named : List ℕ) → AreFresh old → finite.len (entries_of (with_named old named)) ≡ finite.len (entries_of old) + length named
len_named old named x = len_all (entries_of old) (next_of old) named x

-- ---- a shard's fields stay sound

pub all_submitted : (core new : CoreView) (names : Numbered ℕ) (settled : Bool) (change : Option Call) (taken : ℕ) (ops left : List Op) (submitted : Submitted) (named : List ℕ)
    → IsMember core names settled change taken → (s : SubmitsAll core ops left submitted new) → length named ≡ submitted.count
    → IsMember new (with_named names named) false change taken
all_submitted core new names settled change taken ops left submitted named x s count =
    let e = together (core_layout core) core.shard (world_shard core) (map op_of s.taken) submitted.first.0 (world_shard new) s.step.1 in
    let as_many : length (map op_of s.taken) ≡ length named = length-map s.taken op_of ∙ sym s.count ∙ sym count in
    let numbers = x.numbers in
    let first = e.number in
    let accepted = e.accepted in
    let unanswered = s.unanswered in
    let total = s.count in
    let room = (fits core s.taken s.right x.room).0 in
    let outside : (k : ℕ) → IsOutside (next_of names) (length named) k → (world_shard core).request k ≡ None → (world_shard new).request k ≡ None =
    (λ k out none. e.gone k (subst (λ m. IsOutside submitted.first.0 m k) (sym as_many) (subst (λ f. IsOutside f (length named) k) (numbers ∙ sym first) out)) none) in
    record {
      capacity = x.capacity;
      numbers = omega (arith, numbers, accepted, as_many);
      count = len_all (entries_of names) (next_of names) named (fresh core names settled change taken x)
          ∙ ap (λ n. n + length named) x.count ∙ (let same : core.unanswered + length named ≡ new.unanswered = omega (arith, unanswered, total, count) in same);
      room = omega (arith, room, unanswered);
      named = named_all names (next_of names) named (world_shard core) (world_shard new) (capacity_of names) (next_of names + length named) x.named outside;
      below = below_all (entries_of names) (next_of names) named (world_shard new).accepted (omega (arith, numbers, accepted, as_many))
          (λ id n f. let b = x.below id n f in omega (arith, b, accepted));
      taken_below = e.taken taken x.taken_below;
      told = e.untold ∙ x.told;
      next = x.next ∙ ap first_of (sym e.calls);
      agreed = λ h. absurd (false-true h);
    }

-- the first of them has the number that its table gives the next name
pub first_number : (core new : CoreView) (names : Numbered ℕ) (settled : Bool) (change : Option Call) (taken : ℕ) (ops left : List Op) (submitted : Submitted)
    → IsMember core names settled change taken → SubmitsAll core ops left submitted new → submitted.first.0 ≡ next_of names
first_number core new names settled change taken ops left submitted x s =
    (together (core_layout core) core.shard (world_shard core) (map op_of s.taken) submitted.first.0 (world_shard new) s.step.1).number ∙ sym x.numbers

-- what its table needs for their names
pub room_for : (core new : CoreView) (names : Numbered ℕ) (settled : Bool) (change : Option Call) (taken : ℕ) (ops left : List Op) (submitted : Submitted)
    → IsMember core names settled change taken → (s : SubmitsAll core ops left submitted new) → 0 < submitted.count
    → (finite.len (entries_of names) + submitted.count ≤ capacity_of names) × (next_of names + submitted.count < 2 ^ 64)
room_for core new names settled change taken ops left submitted x s some =
    let f = fits core s.taken s.right x.room in
    let room = f.0 in
    let many = s.count in
    let len = x.count in
    let capacity = x.capacity in
    let numbers = x.numbers in
    let below = f.1 (omega (arith, some, many)) in
    (omega (arith, room, many, len, capacity), omega (arith, below, many, numbers))

-- ---- what leaves the list

-- as many requests as were accepted leave, with their names
pub takes_all : (old new : ShardView) (ops left : List Op) (names others : List ℕ) (submitted : Submitted) → SubmitsAll old.core ops left submitted new.core → length names ≡ length ops
    → others ≡ drop submitted.count names → new.names ≡ all_named old.names submitted.first.0 (take submitted.count names) → (0 < submitted.count → new.settled ≡ false)
    → (submitted.count ≡ 0 → new ≡ old) → TakesAllIn old (zip ops names) (zip left others) submitted new
takes_all old new ops left names others submitted s long rest named settled none =
    let count = s.count in
    let all = ap length s.split ∙ length-append s.taken left in
    let few : length s.taken ≤ length names = omega (arith, long, all) in
    let first = take (length s.taken) names in
    let as_many : length first ≡ length s.taken = length-take-le (length s.taken) names few in
    let left_long : length others ≡ length left = ap length rest ∙ length-drop submitted.count names ∙ omega (arith, long, all, count) in
    record {
      taken = zip s.taken first;
      split = ap (λ list. zip list names) s.split ∙ zip_split s.taken left names (long ∙ ap length s.split)
          ∙ ap (λ n. zip s.taken first ++ zip left (drop n names)) (sym count) ∙ ap (λ list. zip s.taken first ++ zip left list) (sym rest);
      submits = subst (λ (of : List Op). SubmitsAll old.core of (ops_of (zip left others)) submitted new.core) (sym (firsts-zip ops names long))
          (subst (λ (of : List Op). SubmitsAll old.core ops of submitted new.core) (sym (firsts-zip left others left_long)) s);
      named = named ∙ ap (λ n. all_named old.names submitted.first.0 (take n names)) count ∙ ap (all_named old.names submitted.first.0) (sym (seconds-zip s.taken first as_many));
      settled = settled;
      none = none;
    }

-- ---- of an array

pub submits_to : (a : ArrayView) (n : ℕ) (s t : ShardView) (requests left : List Named) (submitted : Submitted) → IsArray a.shape a.shards → Has a n s → TakesAllIn s requests left submitted t
    → SubmitsTo a n requests left (handed_in submitted) (with_shard a n t)
submits_to a n s t requests left submitted x has taken =
    record {
      was = s;
      there = has;
      now = t;
      submitted = submitted;
      told_is = refl;
      taken = taken;
      new_is = refl;
      run = λ some. called a n s t (steps.Submit_all (map op_of taken.submits.taken) submitted.first.0) x has (record {}) taken.submits.step (taken.settled some);
      none = λ none. with_same a n s t has (taken.none none);
    }

pub submits_list : (a : ArrayView) (requests left : List Named) (told : HandedIn) (new : ArrayView) (block : ℕ) → IsFirstBlock requests block → block < blocks a.shape → (n : ℕ)
    → shard_of_block a.shape block ≡ n → SubmitsTo a n requests left told new → SubmitsList a requests left told new
submits_list a requests left told new block (first, others, front, is) low n own x =
    subst (λ (list : List Named). SubmitsList a list left told new) (sym front)
    (inr (
      subst (λ b. b < blocks a.shape) is low,
      subst (λ k. SubmitsTo a k (first ∷ others) left told new) (sym own ∙ ap (shard_of_block a.shape) is)
          (subst (λ (list : List Named). SubmitsTo a n list left told new) front x),
    ))

pub no_such_block : (a : ArrayView) (requests : List Named) (block : ℕ) → IsFirstBlock requests block → blocks a.shape ≤ block
    → SubmitsList a requests requests (record { count = 0; refusal = Some NoSuchBlock }) a
no_such_block a requests block (first, others, front, is) high =
    subst (λ (list : List Named). SubmitsList a list list (record { count = 0; refusal = Some NoSuchBlock }) a) (sym front)
    (inl (subst (λ b. blocks a.shape ≤ b) is high, (refl, refl), refl))

pub nothing_listed : (a : ArrayView) (requests : List Named) → requests ≡ [] → SubmitsList a requests requests (record { count = 0; refusal = None }) a
nothing_listed a requests empty =
    subst (λ (list : List Named). SubmitsList a list list (record { count = 0; refusal = None }) a) (sym empty) ((refl, refl), refl)

-- ---- of a handle

pub takes_all_in : (shape : Shape) (n : ℕ) (s t : ShardView) (at_work : List ℕ) (requests left : List Named) (submitted : Submitted) → IsHandle shape n s → TakesAllIn s requests left submitted t
    → HandleTakesAllIn (handle s at_work) requests left (handed_in submitted) (handle t at_work)
takes_all_in shape n s t at_work requests left submitted x taken =
    record {
      submitted = submitted;
      told_is = refl;
      taken = taken;
      at_work = refl;
      run = λ some register.
          beside_call (handle s at_work) (handle t at_work) register (steps.Submit_all (map op_of taken.submits.taken) submitted.first.0) (there shape n s x) (record {}) taken.submits.step;
      none = λ none. ap (λ v. handle v at_work) (taken.none none);
    }
