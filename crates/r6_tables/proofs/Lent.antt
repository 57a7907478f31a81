-- What a place leaves, whose entry was lent.
use Rattle.std.proofs.Common.{◌≡◌, ℕ, length, get_or, set, sym, ap, ◌∙◌, Option, Some, None, is_some, true, subst, refl, arith}
use Rattle.std.specs.FinMap.{insert}
use Rattle.std.proofs.lemmas.List.{set-get_or}
use Rattle.r6_tables.specs.Places.{Places, live, value_at, with_value, IsRising, IsAt}
use Rattle.r6_tables.proofs.Numbered.{entries_in, entries_in-replaced}
use Rattle.r6_tables.proofs.Places.{count, number-at, value-at, with_value-at, rising-with_value, length-with_value}

one_counted : {X : Type 0} (o : Option X) → is_some o ≡ true → count o ≡ 1
one_counted None none = absurd (cc)
one_counted (Some v) some = refl

module _ {X : Type 0} (n high : ℕ) (places : Places X) (i : ℕ) (place : ℕ × Option X) (rising : IsRising 0 high places) (at : IsAt n places i) (here : place ≡ get_or places i place) where
  exchanged : (v : X) → set places i (place.0, Some v) ≡ with_value n (Some v) places
  exchanged v =
      ap (λ m. set places i (m, Some v)) (ap (λ p. p.0) here ∙ number-at n places i place at)
      ∙ with_value-at n 0 high (Some v) places i rising at

  pub lent_value : place.1 ≡ value_at n places
  lent_value = ap (λ p. p.1) here ∙ sym (value-at n 0 high places i place rising at)

  -- with another entry in its place
  pub lent_rising : (v : X) → IsRising 0 high (set places i (place.0, Some v))
  lent_rising v = subst (IsRising 0 high) (sym (exchanged v)) (rising-with_value n 0 high (Some v) places rising)

  pub lent_counted : (v : X) → is_some (value_at n places) ≡ true → length (live (set places i (place.0, Some v))) ≡ length (live places)
  lent_counted v some =
      let one = one_counted (value_at n places) some in
      let same_many = length-with_value n (Some v) places i at in
      let same = ap (λ places. length (live places)) (exchanged v) in
      omega (arith, one, same_many, same)

  pub lent_entries : (v : X) → entries_in (set places i (place.0, Some v)) ≡ insert (entries_in places) n v
  lent_entries v = ap entries_in (exchanged v) ∙ entries_in-replaced n high v places i rising at

  -- and with its own
  pub lent_unchanged : set places i (place.0, place.1) ≡ places
  lent_unchanged = ap (set places i) here ∙ set-get_or places i place
