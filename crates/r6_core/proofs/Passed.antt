-- An entry goes from one part of a list to another.
use Rattle.std.proofs.Common.{◌≡◌, ℕ, List, [], ◌∷◌, ◌++◌, length, sym, ap, subst, ◌∙◌, Some, IsPermutation, arith, append_assoc, length-append}
use Rattle.std.specs.Prelude.{nat_eq}
use Rattle.std.specs.List.{IsDistinct, AllByRecursion}
use Rattle.std.specs.Map.{keys_of}
use Rattle.std.proofs.lemmas.List.Sorted.{IsPermutation-append_comm, IsPermutation-append_left}
use Rattle.r6_world.specs.Tables.{put}
use Rattle.r6_frames.proofs.Lists.{Entries, table, moved, own, apart, all_parts, all_with}

pub record Passed {X : Type 0} (old new : Entries X) (k : ℕ) (r r' : X) : Type 1 where
  pub was : table old k ≡ Some r
  pub now : table new ≡ put (table old) k (Some r')
  pub distinct : IsDistinct nat_eq (keys_of new)
  pub count : length new ≡ length old
  pub keeps : (P : ℕ → Type 0) → AllByRecursion P (keys_of old) → AllByRecursion P (keys_of new)

pub passed : {X : Type 0} (xs ys xs' ys' : Entries X) (k : ℕ) (r r' : X) (old new : Entries X)
    → old ≡ xs ++ (k, r) ∷ ys → new ≡ xs' ++ (k, r') ∷ ys' → xs ++ ys ≡ xs' ++ ys'
    → IsDistinct nat_eq (keys_of old) → Passed old new k r r'
passed xs ys xs' ys' k r r' old new is becomes same distinct =
    let h = subst (λ es. IsDistinct nat_eq (keys_of es)) is distinct in
    let both = moved xs ys k r r' xs' ys' h same in
    record {
      was = ap (λ es. table es k) is ∙ own xs k r ys (apart xs k r ys h);
      now = ap (λ es. table es) becomes ∙ both.0 ∙ ap (λ es. put (table es) k (Some r')) (sym is);
      distinct = subst (λ es. IsDistinct nat_eq (keys_of es)) (sym becomes) both.1;
      count =
          let from = ap length is ∙ length-append xs ((k, r) ∷ ys) in
          let to = ap length becomes ∙ length-append xs' ((k, r') ∷ ys') in
          let less = sym (length-append xs ys) ∙ ap length same ∙ length-append xs' ys' in
          omega (arith, from, to, less);
      keeps = λ P all.
          let parts = all_parts P xs k r ys (subst (λ es. AllByRecursion P (keys_of es)) is all) in
          subst (λ es. AllByRecursion P (keys_of es)) (sym becomes) (all_with P xs' k r' ys' parts.0 (subst (λ es. AllByRecursion P (keys_of es)) same parts.1));
    }

pub all_last : {X : Type 0} (Fact : X → Type 0) (xs ys : List X) → AllByRecursion Fact (xs ++ ys) → AllByRecursion Fact ys
all_last Fact [] ys all = all
all_last Fact (x ∷ xs) ys all = all_last Fact xs ys all.1

-- one among the others
pub all-middle : {X : Type 0} (Fact : X → Type 0) (xs : List X) (y : X) (ys : List X) → AllByRecursion Fact (xs ++ y ∷ ys) → Fact y × AllByRecursion Fact (xs ++ ys)
all-middle Fact [] y ys all = all
all-middle Fact (x ∷ xs) y ys all = let rest = all-middle Fact xs y ys all.1 in (rest.0, (all.0, rest.1))

-- those of the middle come first
pub to_front : {X : Type 0} (before middle behind : List X) → IsPermutation (before ++ (middle ++ behind)) (middle ++ (before ++ behind))
to_front before middle behind =
    subst (λ xs. IsPermutation xs (middle ++ (before ++ behind))) (append_assoc before middle behind)
    (subst (IsPermutation ((before ++ middle) ++ behind)) (append_assoc middle before behind)
    (IsPermutation-append_left behind (before ++ middle) (middle ++ before) (IsPermutation-append_comm before middle)))
