-- Lists of commands, by their tokens.
use Rattle.std.proofs.Common.{◌≡◌, ℕ, zero, suc, ◌<◌, List, [], ◌∷◌, ◌++◌, append_assoc, append-nil, inl, inr, refl, sym, ap, ◌∙◌, arith, Option, Some, None}
use Rattle.std.specs.Prelude.{◌%◌}
use Rattle.std.proofs.lemmas.Bool.{cases_eq}
use Rattle.r6_world.specs.Tables.{put}
use Rattle.r6_world.proofs.Tables.{put-same, put-other}
use Rattle.r6_world.specs.declared.values.Command.{Command}
use Rattle.r6_engine.specs.remote.Lines.{joined, under}
use Rattle.r6_engine.specs.remote.Remotes.{AreOf, AreDistinct}

-- ---- the command of a token

pub not-both : {A : Type 0} (o : Option A) (a : A) → o ≡ None → o ≡ Some a → ⊥
not-both o a e h = cc

pub under-first : (c : Command) (commands : List Command) (token : ℕ) → token ≡ c.token → under token (c ∷ commands) ≡ Some c
under-first c commands token e = put-same (λ t. under t commands) c.token (Some c) token e

pub under-rest : (c : Command) (commands : List Command) (token : ℕ) → (token ≡ c.token → ⊥) → under token (c ∷ commands) ≡ under token commands
under-rest c commands token ne = put-other (λ t. under t commands) c.token (Some c) token ne

-- a token that is not there is not that of the first command
pub not-first : (c : Command) (commands : List Command) (token : ℕ) → under token (c ∷ commands) ≡ None → token ≡ c.token → ⊥
not-first c commands token none e = not-both (under token (c ∷ commands)) c none (under-first c commands token e)

pub not-rest : (c : Command) (commands : List Command) (token : ℕ) → under token (c ∷ commands) ≡ None → under token commands ≡ None
not-rest c commands token none = sym (under-rest c commands token (not-first c commands token none)) ∙ none

pub under-front : (token : ℕ) (front back : List Command) → under token (front ++ back) ≡ None → under token front ≡ None
under-front token [] back none = refl
under-front token (c ∷ front) back none =
    under-rest c front token (not-first c (front ++ back) token none) ∙ under-front token front back (not-rest c (front ++ back) token none)

-- one command more among others
pub under-among : (token : ℕ) (front : List Command) (c : Command) (back : List Command) → under c.token front ≡ None
    → under token (front ++ c ∷ back) ≡ put (λ t. under t (front ++ back)) c.token (Some c) token
under-among token [] c back none = refl
under-among token (d ∷ front) c back none =
    let apart : c.token ≡ d.token → ⊥ = not-first d front c.token none in
    let others : ℕ → Option Command = λ t. under t (d ∷ front ++ back) in
    elim (cases_eq token d.token) [
      | inl e ↦
          under-first d (front ++ c ∷ back) token e ∙ sym (under-first d (front ++ back) token e)
          ∙ sym (put-other others c.token (Some c) token (λ e'. apart (sym e' ∙ e)))
      | inr ne ↦
          under-rest d (front ++ c ∷ back) token ne ∙ under-among token front c back (not-rest d front c.token none)
          ∙ elim (cases_eq token c.token) [
            | inl e' ↦
                put-same (λ t. under t (front ++ back)) c.token (Some c) token e' ∙ sym (put-same others c.token (Some c) token e')
            | inr ne' ↦
                put-other (λ t. under t (front ++ back)) c.token (Some c) token ne' ∙ sym (under-rest d (front ++ back) token ne)
                ∙ sym (put-other others c.token (Some c) token ne')
          ]
    ]

-- ---- no token twice

pub distinct-with : (front : List Command) (c : Command) (back : List Command) → under c.token (front ++ back) ≡ None
    → AreDistinct (front ++ back) → AreDistinct (front ++ c ∷ back)
distinct-with [] c back none x = (none, x)
distinct-with (d ∷ front) c back none x =
    let apart : c.token ≡ d.token → ⊥ = not-first d (front ++ back) c.token none in
    let rest : under c.token (front ++ back) ≡ None = not-rest d (front ++ back) c.token none in (
      under-among d.token front c back (under-front c.token front back rest)
          ∙ put-other (λ t. under t (front ++ back)) c.token (Some c) d.token (λ e. apart (sym e)) ∙ x.0,
      distinct-with front c back rest x.1,
    )

pub distinct-without : (front : List Command) (c : Command) (back : List Command) → AreDistinct (front ++ c ∷ back)
    → (under c.token (front ++ back) ≡ None) × AreDistinct (front ++ back)
distinct-without [] c back x = x
distinct-without (d ∷ front) c back x =
    let rest : (under c.token (front ++ back) ≡ None) × AreDistinct (front ++ back) = distinct-without front c back x.1 in
    let among : (t : ℕ) → under t (front ++ c ∷ back) ≡ put (λ u. under u (front ++ back)) c.token (Some c) t =
    λ t. under-among t front c back (under-front c.token front back rest.0) in
    let apart : c.token ≡ d.token → ⊥ =
    λ e. not-both (under d.token (front ++ c ∷ back)) c x.0
    (among d.token ∙ put-same (λ u. under u (front ++ back)) c.token (Some c) d.token (sym e)) in (
      under-rest d (front ++ back) c.token apart ∙ rest.0,
      (
        sym (put-other (λ u. under u (front ++ back)) c.token (Some c) d.token (λ e. apart (sym e))) ∙ sym (among d.token) ∙ x.0,
        rest.1,
      ),
    )

-- ---- what is true of the generation of each command that is out

abbrev pub AreBelow : (generation : ℕ) → List Command → Type 0
AreBelow generation [] = Unit {0}
AreBelow generation (c ∷ commands) = (c.generation < generation) × AreBelow generation commands

pub all-below : (generation : ℕ) (commands : List Command) → AreDistinct commands
    → ((token : ℕ) (c : Command) → under token commands ≡ Some c → c.generation < generation) → AreBelow generation commands
all-below generation [] x below = tt
all-below generation (c ∷ commands) x below = (
  below c.token c (under-first c commands c.token refl),
  all-below generation commands x.1 (λ token d is.
      below token d (under-rest c commands token (λ e. not-both (under token commands) d (ap (λ t. under t commands) e ∙ x.0) is) ∙ is)),
)

pub below-back : (generation : ℕ) (front back : List Command) → AreBelow generation (front ++ back) → AreBelow generation back
below-back generation [] back x = x
below-back generation (c ∷ front) back x = below-back generation front back x.1

pub below-front : (generation : ℕ) (front back : List Command) → AreBelow generation (front ++ back) → AreBelow generation front
below-front generation [] back x = tt
below-front generation (c ∷ front) back x = (x.0, below-front generation front back x.1)

-- ---- of which slots they are

pub are_of-append : (workers worker : ℕ) (xs : List Command) (c : Command) → AreOf workers worker xs → c.slot % workers ≡ worker
    → AreOf workers worker (xs ++ c ∷ [])
are_of-append workers worker [] c x is = (is, tt)
are_of-append workers worker (d ∷ xs) c x is = (x.0, are_of-append workers worker xs c x.1 is)

-- ---- those of all workers

pub joined-same : {A : Type 0} (n : ℕ) (u v : ℕ → List A) → ((j : ℕ) → j < n → v j ≡ u j) → joined n v ≡ joined n u
joined-same zero u v same = refl
joined-same (suc n) u v same =
    ap (λ y. y ++ v n) (joined-same n u v (λ j below. same j (omega arith))) ∙ ap (λ y. joined n u ++ y) (same n (omega arith))

-- where those of one worker stand among them, and others in their place
pub record Stand {A : Type 0} (n k : ℕ) (u v : ℕ → List A) : Type 0 where
  pub before : List A
  pub after : List A
  pub was : joined n u ≡ before ++ (u k ++ after)
  pub is : joined n v ≡ before ++ (v k ++ after)

pub joined-at : {A : Type 0} (n k : ℕ) (u v : ℕ → List A) → k < n → ((j : ℕ) → (j ≡ k → ⊥) → v j ≡ u j) → Stand n k u v
joined-at zero k u v below same = absurd (omega arith)
joined-at (suc n) k u v below same = elim (cases_eq k n) [
  | inl e ↦ record {
    before = joined n u;
    after = [];
    was = ap (λ j. joined n u ++ u j) (sym e) ∙ ap (λ y. joined n u ++ y) (sym (append-nil (u k)));
    is = ap (λ y. y ++ v n) (joined-same n u v (λ j low. same j (λ e'. omega (arith, low, e, e'))))
        ∙ ap (λ j. joined n u ++ v j) (sym e) ∙ ap (λ y. joined n u ++ y) (sym (append-nil (v k)));
  }
  | inr ne ↦
      let rest : Stand n k u v = joined-at n k u v (omega arith) same in
      record {
        before = rest.before;
        after = rest.after ++ u n;
        was = ap (λ y. y ++ u n) rest.was ∙ append_assoc rest.before (u k ++ rest.after) (u n)
            ∙ ap (λ y. rest.before ++ y) (append_assoc (u k) rest.after (u n));
        is = ap (λ y. joined n v ++ y) (same n (λ e. ne (sym e))) ∙ ap (λ y. y ++ u n) rest.is
            ∙ append_assoc rest.before (v k ++ rest.after) (u n) ∙ ap (λ y. rest.before ++ y) (append_assoc (v k) rest.after (u n));
      }
]
