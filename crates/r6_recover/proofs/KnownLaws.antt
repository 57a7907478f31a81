-- Known positions, and the rows that agree at them.
use Rattle.std.proofs.Common.{◌≡◌, ◌⊎◌, ℕ, ◌+◌, ◌-◌, ◌<◌, ◌≤◌, Bool, false, true≢false, List, [], length, get_or, sym, ap, subst, ◌∙◌, arith, inl, inr, ⊎_elim}
use Rattle.std.specs.List.{All}
use Rattle.std.proofs.lemmas.Bool.{cases_eq, cases_lt}
use Rattle.std.proofs.lemmas.List.{get_or_past, ext_get_or}
use Rattle.r6_recover.specs.Known.{IsKnown, KnownBut, AreTooMany}
use Rattle.r6_recover.specs.Rows.{block_at, block_length, IsFullRow, AgreeBut}
use Rattle.r6_recover.specs.Restores.{Restores, AgreeAtKnown, BecomesFullRow, HaveSameLengths}

agree_but : (known : List Bool) (m len x y : ℕ) (old full : List (List ℕ)) → length old ≡ m + 2 → KnownBut known (m + 2) x y → IsFullRow m len full → AgreeAtKnown known old full → AgreeBut x y old full
agree_but known m len x y old full count others is agree =
    let full_count : length full ≡ m + 2 = is.count in
    λ k nx ny. ⊎_elim
    (λ (h : k < m + 2). agree k (others k h nx ny))
    (λ (past : m + 2 ≤ k). get_or_past old k [] (omega arith) ∙ sym (get_or_past full k [] (omega arith)))
    (cases_lt k (m + 2))

-- a row in which the missing blocks were restored
pub BecomesFullRow-restores : (known : List Bool) (m len x y : ℕ) (old new : List (List ℕ)) → length old ≡ m + 2 → All (λ block. length block ≡ len) old → KnownBut known (length old) x y → Restores m len x y old new → BecomesFullRow known old new
BecomesFullRow-restores known m len x y old new count long others restores full is agree =
    let size : length old - 2 ≡ m = omega arith in
    let bytes : block_length old ≡ len = long 0 [] (omega arith) in
    let is' : IsFullRow m len full = subst (λ (l : ℕ). IsFullRow m l full) bytes (subst (λ (n : ℕ). IsFullRow n (block_length old) full) size is) in
    let others' : KnownBut known (m + 2) x y = subst (λ (n : ℕ). KnownBut known n x y) count others in
    let all : (k : ℕ) → block_at new k ≡ block_at full k = restores.restored full is' (agree_but known m len x y old full count others' is' agree) in
    ext_get_or [] new full (restores.count ∙ count ∙ sym is'.count) (λ k h. all k)

-- a row all of whose blocks are known
pub BecomesFullRow-known : (known : List Bool) (row : List (List ℕ)) → 2 ≤ length row → ((k : ℕ) → k < length row → IsKnown known k) → BecomesFullRow known row row
BecomesFullRow-known known row least all full is agree =
    let full_count : length full ≡ length row - 2 + 2 = is.count in
    ext_get_or [] row full (omega arith) (λ k h. agree k (all k h))

-- where all positions are known but two, no three are missing
pub few_missing : (known : List Bool) (n x y : ℕ) → KnownBut known n x y → AreTooMany known n → ⊥
few_missing known n x y others many =
    let i : ℕ = many.first in
    let j : ℕ = many.second in
    let k : ℕ = many.third in
    let i_j : i < j = many.first_before in
    let j_k : j < k = many.second_before in
    let k_n : k < n = many.within in
    ⊎_elim
    (λ (a : i ≡ x). ⊎_elim (λ (b : j ≡ x). omega (arith, a, b)) (λ (b : j ≡ y). ⊎_elim (λ (d : k ≡ x). omega (arith, a, d)) (λ (d : k ≡ y). omega (arith, b, d)) (named k k_n many.third_missing)) (named j (omega arith) many.second_missing))
    (λ (a : i ≡ y). ⊎_elim (λ (b : j ≡ x). ⊎_elim (λ (d : k ≡ x). omega (arith, b, d)) (λ (d : k ≡ y). omega (arith, a, d)) (named k k_n many.third_missing)) (λ (b : j ≡ y). omega (arith, a, b)) (named j (omega arith) many.second_missing))
    (named i (omega arith) many.first_missing)
  where
    named : (p : ℕ) → p < n → get_or known p false ≡ false → (p ≡ x) ⊎ (p ≡ y)
    named p within missing =
        ⊎_elim (λ (is : p ≡ x). inl is)
        (λ (nx : p ≡ x → ⊥). ⊎_elim (λ (is : p ≡ y). inr is) (λ (ny : p ≡ y → ⊥). absurd (true≢false (sym (others p within nx ny) ∙ missing))) (cases_eq p y))
        (cases_eq p x)

-- blocks that are restored were not known
pub AgreeAtKnown-restores : (known : List Bool) (m len x y : ℕ) (old new : List (List ℕ)) → get_or known x false ≡ false → get_or known y false ≡ false → Restores m len x y old new → AgreeAtKnown known new old
AgreeAtKnown-restores known m len x y old new no_x no_y restores position is =
    restores.kept position
    (λ here. true≢false (sym is ∙ ap (λ (k : ℕ). get_or known k false) here ∙ no_x))
    (λ here. true≢false (sym is ∙ ap (λ (k : ℕ). get_or known k false) here ∙ no_y))

pub HaveSameLengths-long : (len : ℕ) (old new : List (List ℕ)) → length new ≡ length old → All (λ block. length block ≡ len) old → All (λ block. length block ≡ len) new → HaveSameLengths old new
HaveSameLengths-long len old new count long long' = record {
  count = count;
  each = λ position.
      ⊎_elim
      (λ (within : position < length old). long' position [] (omega (arith, count, within)) ∙ sym (long position [] within))
      (λ (past : length old ≤ position). ap length (get_or_past new position [] (omega (arith, count, past)) ∙ sym (get_or_past old position [] past)))
      (cases_lt position (length old));
}
