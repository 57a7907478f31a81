-- The threads of an array's shards, one more (this project's own).
use Rattle.std.proofs.Common.{arith, ◌≡◌, ◌∙◌, ℕ, ◌<◌, List, [], ◌∷◌, ◌++◌, length, map, ap, refl, below_more, slice_index_or}
use Rattle.std.proofs.Math.Seq.{get_or-append_seam}
use Rattle.std.proofs.lemmas.List.{get_or_append_left, length-append}
use Rattle.r6_engine.specs.Serves.{AreNumbered}

-- each of a list has the value of its place, and so has one more
pub each_more : {T A : Type 0} (value : T → A) (wanted : ℕ → A) (xs : List T) (x : T)
    → ((k : ℕ) (d : T) → k < length xs → value (slice_index_or xs k d) ≡ wanted k) → value x ≡ wanted (length xs)
    → (k : ℕ) (d : T) → k < length (xs ++ x ∷ []) → value (slice_index_or (xs ++ x ∷ []) k d) ≡ wanted k
each_more value wanted xs x before is k d below =
    below_more (λ i. value (slice_index_or (xs ++ x ∷ []) i d) ≡ wanted i) (length xs)
    (λ i low. ap value (get_or_append_left xs (x ∷ []) d i low) ∙ before i d low)
    (ap value (get_or-append_seam xs x [] d) ∙ is) k
    (let long = length-append xs (x ∷ []) in omega (arith, below, long))

-- one thread more, of the next shard
pub one_more : {T : Type 0} (number : T → ℕ) (threads : List T) (thread : T) → AreNumbered number threads
    → number thread ≡ length threads → AreNumbered number (threads ++ thread ∷ [])
one_more number threads thread before is = each_more number (λ k. k) threads thread before is

-- fewer threads than shards are there yet
pub fewer : (threads yielded parts shards : ℕ) → threads ≡ yielded → yielded < parts → parts ≡ shards → threads < shards
fewer threads yielded parts shards as_many more whole = omega (arith, as_many, more, whole)

-- what is made of each element is the element
pub unchanged : {A : Type 0} (all : List A) → map (λ (y : A). y) all ≡ all
unchanged [] = refl
unchanged (x ∷ all) = ap (λ others. x ∷ others) (unchanged all)
