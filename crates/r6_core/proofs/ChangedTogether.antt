-- Entries of a table that change, each under its number: what a look-up gives then, in whatever order they stand.
use Rattle.std.proofs.Common.{◌≡◌, ℕ, List, [], ◌∷◌, ◌++◌, length, map, refl, sym, ap, subst, ◌∙◌, Option, Some, None, IsPermutation}
use mathlib.Core.Path.{fun_ext}
use Rattle.std.specs.Prelude.{nat_eq}
use Rattle.std.specs.Cmp.{nat_eq_equiv}
use Rattle.std.specs.List.{IsDistinct, AllByRecursion}
use Rattle.std.specs.Map.{keys_of}
use Rattle.std.proofs.lemmas.Bool.{eqb-true}
use Rattle.std.proofs.lemmas.List.{length-map}
use Rattle.std.proofs.lemmas.List.Sorted.{IsPermutation-sym, IsPermutation-trans, IsPermutation-map, Contains-permutation, length_permutation}
use Rattle.std.proofs.lemmas.Map.Views.{Contains-from_lookup, lookup-from_Contains}
use Rattle.std.proofs.lemmas.Map.Keys.{IsDistinct-IsPermutation}
use Rattle.r6_frames.proofs.Lists.{Entries, table}
use Rattle.r6_core.proofs.Lined.{all_permuted}

-- ---- a look-up doesn't depend on the order

found_still : {X : Type 0} (xs ys : Entries X) (q : ℕ) (v : X) → IsPermutation xs ys → IsDistinct nat_eq (keys_of ys) → table xs q ≡ Some v → table ys q ≡ Some v
found_still xs ys q v same distinct is =
    lookup-from_Contains nat_eq_equiv q v ys distinct (Contains-permutation xs ys (q, v) same (Contains-from_lookup (λ x y e. eqb-true x y e) q v xs is))

table_permuted : {X : Type 0} (xs ys : Entries X) (q : ℕ) → IsPermutation xs ys → IsDistinct nat_eq (keys_of xs) → IsDistinct nat_eq (keys_of ys) → table xs q ≡ table ys q
table_permuted xs ys q same dx dy =
    elim (table xs q) as (λ o. table xs q ≡ o → table xs q ≡ table ys q) [
      | Some v ↦ λ e. e ∙ sym (found_still xs ys q v same dy e)
      | None ↦ λ e. elim (table ys q) as (λ o. table ys q ≡ o → table xs q ≡ table ys q) [
        | None ↦ λ f. e ∙ sym f
        | Some v ↦ λ f. let there = found_still ys xs q v (IsPermutation-sym xs ys same) dx f in absurd (cc)
      ] refl
    ] refl

-- ---- entries change

-- a look-up gives what the change makes of it, and the numbers stand once each, as many as before
pub record AreChanged {X : Type 0} (change : ℕ → Option X → Option X) (old new : Entries X) : Type 1 where
  pub now : table new ≡ (λ q. change q (table old q))
  pub distinct : IsDistinct nat_eq (keys_of new)
  pub count : length new ≡ length old
  pub keeps : (P : ℕ → Type 0) → AllByRecursion P (keys_of old) → AllByRecursion P (keys_of new)

module _ {X : Type 0} (change : ℕ → Option X → Option X) (old were are new : Entries X) (was : IsPermutation old were) (keys : keys_of are ≡ keys_of were)
    (at : (q : ℕ) → table are q ≡ change q (table were q)) (now : IsPermutation are new) (distinct : IsDistinct nat_eq (keys_of old)) where
  were_keys : IsPermutation (keys_of old) (keys_of were)
  were_keys = IsPermutation-map (λ e. e.0) old were was

  all_keys : IsPermutation (keys_of old) (keys_of new)
  all_keys =
      IsPermutation-trans (keys_of old) (keys_of are) (keys_of new) (subst (IsPermutation (keys_of old)) (sym keys) were_keys)
      (IsPermutation-map (λ e. e.0) are new now)

  were_distinct : IsDistinct nat_eq (keys_of were)
  were_distinct = IsDistinct-IsPermutation nat_eq nat_eq_equiv.symm (keys_of old) (keys_of were) were_keys distinct

  are_distinct : IsDistinct nat_eq (keys_of are)
  are_distinct = subst (IsDistinct nat_eq) (sym keys) were_distinct

  now_distinct : IsDistinct nat_eq (keys_of new)
  now_distinct = IsDistinct-IsPermutation nat_eq nat_eq_equiv.symm (keys_of old) (keys_of new) all_keys distinct

  pub all_changed : AreChanged change old new
  all_changed = record {
    now = fun_ext (λ q.
        sym (table_permuted are new q now are_distinct now_distinct) ∙ at q
        ∙ ap (change q) (sym (table_permuted old were q was distinct were_distinct)));
    distinct = now_distinct;
    count = sym (length-map new (λ e. e.0)) ∙ length_permutation (keys_of old) (keys_of new) all_keys ∙ length-map old (λ e. e.0);
    keeps = λ P all. all_permuted P (keys_of old) (keys_of new) all_keys all;
  }

-- ---- some go together

-- those of the items go from the form before to the form after, and the rest stay
pub record ChangeTogether {A X : Type 0} (before after : A → ℕ × X) (items : List A) (old new : Entries X) : Type 0 where
  pub rest : Entries X
  pub was : IsPermutation old (map before items ++ rest)
  pub now : IsPermutation new (map after items ++ rest)

module _ {A X : Type 0} (before after : A → ℕ × X) (same_key : (item : A) → (after item).0 ≡ (before item).0) where
  same_keys : (items : List A) (rest : Entries X) → keys_of (map after items ++ rest) ≡ keys_of (map before items ++ rest)
  same_keys [] rest = refl
  same_keys (item ∷ items) rest = λ i. same_key item i ∷ same_keys items rest i

  pub changed_together : (change : ℕ → Option X → Option X) (items : List A) (old new : Entries X) → (together : ChangeTogether before after items old new)
      → ((q : ℕ) → table (map after items ++ together.rest) q ≡ change q (table (map before items ++ together.rest) q)) → IsDistinct nat_eq (keys_of old) → AreChanged change old new
  changed_together change items old new together at distinct =
      all_changed change old (map before items ++ together.rest) (map after items ++ together.rest) new together.was (same_keys items together.rest) at
      (IsPermutation-sym new (map after items ++ together.rest) together.now) distinct
