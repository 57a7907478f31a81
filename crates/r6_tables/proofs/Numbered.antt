-- The entries that places stand for, as a map by number.
use Rattle.std.proofs.Common.{◌≡◌, ℕ, Bool, true, false, cond, [], ◌∷◌, ◌++◌, length, refl, sym, ap, ◌∙◌, Option, Some, None, is_some, arith}
use Rattle.std.proofs.lemmas.Bool.{eqb-true}
use Rattle.std.specs.Prelude.{nat_eq}
use Rattle.std.specs.Cmp.{nat_cmp_total, unsigned_tied}
use Rattle.std.specs.Ordering.{nat_cmp, eq_by_cmp}
use Rattle.std.specs.FinMap.{FinMap, get, len, insert, remove, from_entries, get-insert, get-remove, same_map, nat_cmp-IsAntisymmetric}
use Rattle.r6_tables.specs.Places.{Places, live, value_at, with_value, IsRising, IsAt, IsAbsent}
use Rattle.r6_tables.proofs.Entries.{get-lookup, len-distinct, map-pushed}
use Rattle.r6_tables.proofs.Places.{lookup-live, value-absent, absent_from, distinct-live, live-pushed, value-with_value, rising-with_value}

abbrev pub entries_in : {X : Type 0} → Places X → FinMap nat_cmp X
entries_in places = from_entries (live places)

pub get-entries_in : {X : Type 0} (n high : ℕ) (places : Places X) → IsRising 0 high places → get (entries_in places) n ≡ value_at n places
get-entries_in n high places rising = get-lookup (live places) n ∙ lookup-live n 0 high places rising

pub len-entries_in : {X : Type 0} (high : ℕ) (places : Places X) → IsRising 0 high places → len (entries_in places) ≡ length (live places)
len-entries_in high places rising = len-distinct (live places) (distinct-live 0 high places rising)

pub get-absent : {X : Type 0} (n high : ℕ) (places : Places X) → IsRising 0 high places → IsAbsent n places → get (entries_in places) n ≡ None
get-absent n high places rising absent = get-entries_in n high places rising ∙ value-absent n places absent

-- an entry that comes gets the next number
pub entries_in-pushed : {X : Type 0} (next : ℕ) (v : X) (places : Places X) → IsRising 0 next places → entries_in (places ++ (next, Some v) ∷ []) ≡ insert (entries_in places) next v
entries_in-pushed next v places rising =
    ap (λ es. from_entries es) (live-pushed next v places)
    ∙ map-pushed next v (live places) (get-absent next next places rising (absent_from next 0 next places (omega arith) rising))

-- an entry that goes
pub entries_in-taken : {X : Type 0} (n high : ℕ) (places : Places X) (i : ℕ) → IsRising 0 high places → IsAt n places i → entries_in (with_value n None places) ≡ remove (entries_in places) n
entries_in-taken {X} n high places i rising at =
    same_map nat_cmp_total nat_cmp-IsAntisymmetric _ _ (λ q.
    get-entries_in q high (with_value n None places) (rising-with_value n 0 high None places rising)
    ∙ value-with_value q n None places i at
    ∙ ap (λ (b : Bool). cond b None (value_at q places)) (sym (unsigned_tied q n))
    ∙ ap (λ (o : Option X). cond (eq_by_cmp nat_cmp q n) None o) (sym (get-entries_in q high places rising))
    ∙ sym (get-remove nat_cmp_total (entries_in places) n q))

-- an entry that is replaced
pub entries_in-replaced : {X : Type 0} (n high : ℕ) (v : X) (places : Places X) (i : ℕ) → IsRising 0 high places → IsAt n places i → entries_in (with_value n (Some v) places) ≡ insert (entries_in places) n v
entries_in-replaced {X} n high v places i rising at =
    same_map nat_cmp_total nat_cmp-IsAntisymmetric _ _ (λ q.
    get-entries_in q high (with_value n (Some v) places) (rising-with_value n 0 high (Some v) places rising)
    ∙ value-with_value q n (Some v) places i at
    ∙ ap (λ (b : Bool). cond b (Some v) (value_at q places)) (sym (unsigned_tied q n))
    ∙ ap (λ (o : Option X). cond (eq_by_cmp nat_cmp q n) (Some v) o) (sym (get-entries_in q high places rising))
    ∙ sym (get-insert nat_cmp_total (entries_in places) n v q))

pub remove-absent : {X : Type 0} (m : FinMap nat_cmp X) (n : ℕ) → get m n ≡ None → remove m n ≡ m
remove-absent {X} m n none =
    same_map nat_cmp_total nat_cmp-IsAntisymmetric _ _ (λ q.
    get-remove nat_cmp_total m n q
    ∙ ap (λ (b : Bool). cond b None (get m q)) (unsigned_tied q n)
    ∙ elim (nat_eq q n) as (λ b. nat_eq q n ≡ b → cond b None (get m q) ≡ get m q) [
      | true ↦ λ e. sym (ap (get m) (eqb-true q n e) ∙ none)
      | false ↦ λ e. refl
    ] refl)

pub none_of : {X : Type 0} (o : Option X) → is_some o ≡ false → o ≡ None
none_of None no_value = refl
none_of (Some v) no_value = absurd (cc)
