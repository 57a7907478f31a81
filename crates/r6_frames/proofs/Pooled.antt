-- Which direct buffers are free after one was lent, left or brought back.
use Rattle.std.proofs.Common.{◌≡◌, inl, inr, ℕ, ◌<◌, ◌≤◌, Bool, true, false, List, length, set, sym, ap, ◌∙◌, arith}
use Rattle.std.specs.Prelude.{◌==◌, ◌&&◌, if◌then◌else◌, is_none, is_some, not, replicate, Option, Some, None, MatchOption}
use Rattle.std.proofs.lemmas.Bool.{cases_eq, cases_lt, eq-eqb, ne_eqb}
use Rattle.std.proofs.lemmas.List.{length-set, length-replicate, get_or-replicate, get_or_past}
use Rattle.std.proofs.lemmas.Nat.Bits.{bit_at_ones}
use Rattle.r6_frames.specs.declared.directs.Direct.{Direct}
use Rattle.r6_frames.specs.declared.directs.DirectRead.{DirectRead}
use Rattle.r6_frames.specs.Directs.{direct_at, is_free_direct, no_direct, unused}
use Rattle.r6_bits.specs.Words.{is_set, HasNone, IsLowest}
use Rattle.r6_frames.specs.Pool.{IsPool}
use Rattle.r6_frames.proofs.DirectReads.{direct_own, direct_other}

-- one is another
pub pooled : (free bits : ℕ) (buffers : List Direct) (number : ℕ) (d : Direct) → IsPool free buffers → number < length buffers
    → ((i : ℕ) → i < 64 → is_set bits i ≡ (if i == number then is_free_direct d else is_set free i)) → IsPool bits (set buffers number d)
pooled free bits buffers number d pool below is = record {
  few = let few = pool.few in let long = length-set buffers number d in omega arith;
  bits = λ i inside. elim (cases_eq i number) [
    | inl e ↦
        is i inside ∙ ap (λ (b : Bool). if b then is_free_direct d else is_set free i) (eq-eqb i number e)
        ∙ sym (ap (λ (n : ℕ). is_free_direct (direct_at (set buffers number d) n)) e ∙ ap is_free_direct (direct_own buffers number d below))
    | inr ne ↦
        is i inside ∙ ap (λ (b : Bool). if b then is_free_direct d else is_set free i) (ne_eqb i number ne)
        ∙ pool.bits i inside ∙ sym (ap is_free_direct (direct_other buffers number d i ne))
  ];
}

pub put_in : (free bits : ℕ) (buffers : List Direct) (number : ℕ) (d : Direct) (is_free : Bool) → IsPool free buffers → number < length buffers → is_free ≡ is_free_direct d
    → ((i : ℕ) → i < 64 → is_set bits i ≡ (if i == number then is_free else is_set free i)) → IsPool bits (set buffers number d)
put_in free bits buffers number d is_free pool below same is =
    pooled free bits buffers number d pool below (λ i inside. is i inside ∙ ap (λ (b : Bool). if i == number then b else is_set free i) same)

-- it is free, once it is home, if no read has it
pub free_if : (is_free : Bool) (read : Option DirectRead) → is_some read ≡ not is_free → is_free ≡ (is_none read && true)
free_if true read is = sym (ap (λ b. not b && true) is)
free_if false read is = sym (ap (λ b. not b && true) is)

-- what is no buffer isn't free
pub none_past : (buffers : List Direct) (number : ℕ) → length buffers ≤ number → is_free_direct (direct_at buffers number) ≡ false
none_past buffers number past = ap is_free_direct (get_or_past buffers number no_direct past)

-- all are free at the start
pub unused_pool : (block : ℕ) → IsPool 18446744073709551615 (replicate 64 (unused block))
unused_pool block = record {
  few = omega (arith, length-replicate {A = Direct} 64 (unused block));
  bits = λ i inside.
      ap (λ (n : ℕ). n == 1) (bit_at_ones 64 i inside)
      ∙ sym (ap is_free_direct (get_or-replicate {A = Direct} 64 i (unused block) no_direct inside));
}

-- the lowest bit is that of a buffer that is free, and none is where no bit is set
pub lowest_pooled : (free : ℕ) (buffers : List Direct) (found : Option ℕ) → IsPool free buffers → MatchOption found (HasNone free) (IsLowest free)
    → MatchOption found ((number : ℕ) → is_free_direct (direct_at buffers number) ≡ false) (λ number. (number < 64) × (is_free_direct (direct_at buffers number) ≡ true))
lowest_pooled free buffers None pool none = λ number. elim (cases_lt number 64) [
  | inl inside ↦ sym (pool.bits number inside) ∙ none number inside
  | inr past ↦ none_past buffers number (let few = pool.few in omega arith)
]
lowest_pooled free buffers (Some number) pool is = (is.0, sym (pool.bits number is.0) ∙ is.1)
