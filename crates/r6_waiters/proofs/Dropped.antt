-- What is left once the places before the first entry are gone.
use Rattle.std.proofs.Common.{◌≡◌, ℕ, zero, suc, ◌+◌, ◌<◌, Bool, false, List, [], ◌∷◌, length, drop, refl, sym, ap, subst, ◌∙◌, Option, Some, None, is_some, arith}
use Rattle.std.specs.Prelude.{◌==◌, ◌&&◌}
use Rattle.std.proofs.lemmas.List.{get_or-drop}
use Rattle.r6_waiters.specs.Keys.{class_in, class_at, AreClassed}
use Rattle.r6_waiters.specs.Sets.{Places, place_at, is_there, is_marked, waiting, IsMarked}
use Rattle.r6_waiters.proofs.Lines.{waiting-same}

place-dropped : {X : Type 0} (places : Places X) (n i : ℕ) → place_at (drop n places) i ≡ place_at places (n + i)
place-dropped places n i = get_or-drop n places i (0, None)

pub waiting-dropped : {X : Type 0} (f g : ℕ → ℕ) (n : ℕ) (places : Places X) → ((i : ℕ) → i < n → is_there places i ≡ false) → ((i : ℕ) → g i ≡ f (n + i))
    → waiting g (drop n places) ≡ waiting f places
waiting-dropped f g zero places empty same = waiting-same g f places (λ i there. same i ∙ ap f (omega arith))
waiting-dropped f g (suc n) [] empty same = refl
waiting-dropped f g (suc n) ((m, None) ∷ places) empty same =
    waiting-dropped (λ i. f (suc i)) g n places (λ i below. empty (suc i) (omega arith)) (λ i. same i ∙ ap f (omega arith))
waiting-dropped f g (suc n) ((m, Some v) ∷ places) empty same = absurd (cc (empty 0 (omega arith)))

pub marked-dropped : {X : Type 0} (sets down : List (List ℕ)) (n : ℕ) (places : Places X) (f : ℕ → ℕ) → IsMarked sets places f → length down ≡ length sets
    → ((c i : ℕ) → is_marked down c i ≡ is_marked sets c (n + i)) → IsMarked down (drop n places) (λ i. f (n + i))
marked-dropped {X} sets down n places f marked long marks =
    record {
      marks = λ c i. marks c i ∙ marked.marks c (n + i) ∙ ap (λ (b : Bool). b && (f (n + i) == c)) (sym (there i));
      within = λ i is. subst (λ (k : ℕ). f (n + i) < k) (sym long) (marked.within (n + i) (sym (there i) ∙ is));
    }
  where
    there : (i : ℕ) → is_there (drop n places) i ≡ is_there places (n + i)
    there i = ap (λ (place : ℕ × Option X). is_some place.1) (place-dropped places n i)

pub classed-dropped : {X : Type 0} (key_of : X → Option ℕ) (keyed down : List (List ℕ)) (n : ℕ) (places : Places X) → AreClassed key_of keyed places → length down ≡ length keyed
    → ((c i : ℕ) → is_marked down c i ≡ is_marked keyed c (n + i)) → AreClassed key_of down (drop n places)
classed-dropped {X} key_of keyed down n places classed long marks =
    record {
      many = long ∙ classed.many;
      marked = record {
        marks = λ c i. moved.marks c i ∙ ap (λ (k : ℕ). is_there (drop n places) i && (k == c)) (sym (class i));
        within = λ i is. subst (λ (k : ℕ). k < length down) (sym (class i)) (moved.within i is);
      };
    }
  where
    moved : IsMarked down (drop n places) (λ i. class_at key_of places (n + i))
    moved = marked-dropped keyed down n places (λ i. class_at key_of places i) classed.marked long marks

    class : (i : ℕ) → class_at key_of (drop n places) i ≡ class_at key_of places (n + i)
    class i = ap (λ (place : ℕ × Option X). class_in key_of place.1) (place-dropped places n i)
