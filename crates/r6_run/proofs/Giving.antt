-- The parts of shards, taken one after another from those of all shards and slots.
use Rattle.std.proofs.Common.{◌≡◌, ◌∙◌, ℕ, zero, suc, ◌+◌, ◌*◌, ◌<◌, ◌≤◌, List, [], ◌∷◌, ◌++◌, length, map, take, drop, Option, Some, None, refl, ap, sym, subst, arith, append_assoc}
use Rattle.std.proofs.lemmas.List.{append-nil, drop-drop, length-map, map_push}
use Rattle.std.proofs.lemmas.List.FromFn.{length-map-range_with_len, map-range_with_len_more}
use Rattle.std.specs.Option.{MatchOption}
use Rattle.r6_run.specs.Arrays.{AreGiven, parts_at, parts_from}
use Rattle.r6_exchange.specs.declared.task.Part.{Part}
use Rattle.r6_shard.specs.declared.parts.Parts.{Parts}

-- the slots before this one are through: their parts are these, and those devices are left
pub record Gives {D : Type 0} (slots : ℕ) (all : List (Option D)) (slot : ℕ) (left : List (Option D)) (parts : List (Part D)) : Type 0 where
  pub count : ℕ
  pub sum : slot + count ≡ slots
  pub so_far : parts ++ parts_from slot (take count left) ≡ parts_from 0 (take slots all)
  pub rest : drop count left ≡ drop slots all

pub none_given : {D : Type 0} (slots : ℕ) (all : List (Option D)) (parts : List (Part D)) → parts ≡ [] → Gives slots all 0 all parts
none_given slots all parts none = record { count = slots; sum = omega arith; so_far = ap (λ (before : List (Part _)). before ++ parts_from 0 (take slots all)) none; rest = refl }

module _ {D : Type 0} (slots : ℕ) (all : List (Option D)) (slot : ℕ) (left next : List (Option D)) (parts : List (Part D)) (within : slot < slots) where
  pub one_given : (device : D) (more : List (Part D)) → Gives slots all slot left parts → left ≡ Some device ∷ next
      → more ≡ parts ++ record { slot = slot; generation = 0; device = device } ∷ [] → Gives slots all (slot + 1) next more
  one_given device more gives is pushed = with_count gives.count gives.sum gives.so_far gives.rest where
    with_count : (count : ℕ) → slot + count ≡ slots → parts ++ parts_from slot (take count left) ≡ parts_from 0 (take slots all) → drop count left ≡ drop slots all
        → Gives slots all (slot + 1) next more
    with_count zero sum so_far rest = absurd (omega (arith, sum, within))
    with_count (suc count) sum so_far rest = record {
      count = count;
      sum = omega (arith, sum);
      so_far = ap (λ (before : List (Part D)). before ++ parts_from (slot + 1) (take count next)) pushed
          ∙ append_assoc parts (record { slot = slot; generation = 0; device = device } ∷ []) (parts_from (slot + 1) (take count next))
          ∙ subst (λ (these : List (Option D)). parts ++ parts_from slot (take (suc count) these) ≡ parts_from 0 (take slots all)) is so_far;
      rest = subst (λ (these : List (Option D)). drop (suc count) these ≡ drop slots all) is rest;
    }

  pub none_there : Gives slots all slot left parts → left ≡ None ∷ next → Gives slots all (slot + 1) next parts
  none_there gives is = with_count gives.count gives.sum gives.so_far gives.rest where
    with_count : (count : ℕ) → slot + count ≡ slots → parts ++ parts_from slot (take count left) ≡ parts_from 0 (take slots all) → drop count left ≡ drop slots all
        → Gives slots all (slot + 1) next parts
    with_count zero sum so_far rest = absurd (omega (arith, sum, within))
    with_count (suc count) sum so_far rest = record {
      count = count;
      sum = omega (arith, sum);
      so_far = subst (λ (these : List (Option D)). parts ++ parts_from slot (take (suc count) these) ≡ parts_from 0 (take slots all)) is so_far;
      rest = subst (λ (these : List (Option D)). drop (suc count) these ≡ drop slots all) is rest;
    }

pub all_given : {D : Type 0} (slots : ℕ) (all : List (Option D)) (slot : ℕ) (left : List (Option D)) (parts : List (Part D)) → Gives slots all slot left parts
    → slots ≤ slot → (parts ≡ parts_from 0 (take slots all)) × (left ≡ drop slots all)
all_given slots all slot left parts gives end = with_count gives.count gives.sum gives.so_far gives.rest where
  with_count : (count : ℕ) → slot + count ≡ slots → parts ++ parts_from slot (take count left) ≡ parts_from 0 (take slots all) → drop count left ≡ drop slots all
      → (parts ≡ parts_from 0 (take slots all)) × (left ≡ drop slots all)
  with_count zero sum so_far rest = (sym (append-nil parts) ∙ so_far, rest)
  with_count (suc count) sum so_far rest = absurd (omega (arith, sum, end))

-- what an iterator over a list gave
pub next_is : {X : Type 0} (answer : Option X) (left next : List X) (count rest : ℕ) → MatchOption answer ((count ≡ 0) × (rest ≡ 0)) (λ x. (left ≡ x ∷ next) × (rest + 1 ≡ count))
    → (x : X) → answer ≡ Some x → (left ≡ x ∷ next) × (rest + 1 ≡ count)
next_is None left next count rest step x is = cc
next_is (Some y) left next count rest step x is = let same : y ≡ x = cc in (step.0 ∙ ap (λ first. first ∷ next) same, step.1)

pub none_next : {X : Type 0} (answer : Option X) (left next : List X) (count rest : ℕ) → MatchOption answer ((count ≡ 0) × (rest ≡ 0)) (λ x. (left ≡ x ∷ next) × (rest + 1 ≡ count))
    → answer ≡ None → count ≡ 0
none_next None left next count rest step is = step.0
none_next (Some y) left next count rest step is = cc

-- ---- one shard after another

pub none_of_shards : {D : Type 0} (slots : ℕ) (all : List (Option D)) (parts : List (Parts D)) → parts ≡ [] → AreGiven 0 slots all parts
none_of_shards slots all parts none = ap (λ these. map (λ (shard : Parts _). shard.parts.items) these) none

pub from_first : {D : Type 0} (slots : ℕ) (all : List (Option D)) → all ≡ drop (0 * slots) all
from_first slots all = let none : 0 ≡ 0 * slots = omega arith in ap (λ n. drop n all) none

pub one_shard_more : {D : Type 0} (count slots : ℕ) (all left : List (Option D)) (parts more : List (Parts D)) (shard : Parts D) → AreGiven count slots all parts
    → left ≡ drop (count * slots) all → shard.parts.items ≡ parts_from 0 (take slots left) → more ≡ parts ++ shard ∷ [] → AreGiven (count + 1) slots all more
one_shard_more count slots all left parts more shard given is made pushed =
    ap (map (λ (one : Parts _). one.parts.items)) pushed ∙ map_push (λ (one : Parts _). one.parts.items) parts shard
    ∙ ap (λ items. map (λ (one : Parts _). one.parts.items) parts ++ items ∷ []) (made ∙ ap (λ these. parts_from 0 (take slots these)) is)
    ∙ ap (λ before. before ++ parts_at slots all count ∷ []) given
    ∙ sym (map-range_with_len_more (parts_at slots all) 0 count count (omega arith))

pub dropped_more : {D : Type 0} (count slots : ℕ) (all left next : List (Option D)) → left ≡ drop (count * slots) all → next ≡ drop slots left
    → next ≡ drop ((count + 1) * slots) all
dropped_more count slots all left next is rest =
    let more : count * slots + slots ≡ (count + 1) * slots = omega arith in
    rest ∙ ap (drop slots) is ∙ drop-drop slots (count * slots) all ∙ ap (λ n. drop n all) more

pub as_many_given : {D : Type 0} (count slots : ℕ) (all : List (Option D)) (parts : List (Parts D)) → AreGiven count slots all parts → length parts ≡ count
as_many_given count slots all parts given =
    sym (length-map parts (λ (one : Parts _). one.parts.items)) ∙ ap length given ∙ length-map-range_with_len (parts_at slots all) 0 count

-- past the last shard all are given
pub whole_given : {D : Type 0} (count shards slots : ℕ) (all : List (Option D)) (parts : List (Parts D)) → count ≤ shards → shards ≤ count → AreGiven count slots all parts
    → AreGiven shards slots all parts
whole_given count shards slots all parts within end given =
    let same : count ≡ shards = omega (arith, within, end) in
    subst (λ k. AreGiven k slots all parts) same given
