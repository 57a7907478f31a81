-- A ledger and the replies tell one history.
use Rattle.std.proofs.Common.{◌≡◌, ℕ, ◌+◌, ◌≤◌, List, [], ◌∷◌, refl, sym, ap, ◌∙◌, arith}
use Rattle.r6_world.specs.PlainArray.{Op, Reply}
use Rattle.r6_course.specs.Courses.{Mark, Asked, Replied}
use Rattle.r6_shard.specs.Histories.{asked_in, replied_in, answered_before}

head : {A : Type 0} (x y : A) (xs ys : List A) → x ∷ xs ≡ y ∷ ys → x ≡ y
head x y xs ys e = cc

others : {A : Type 0} (x y : A) (xs ys : List A) → x ∷ xs ≡ y ∷ ys → xs ≡ ys
others x y xs ys e = cc

-- so many replies at least were taken before each request
at-least : (count : ℕ) (history : List Mark) (first : ℕ) (later : List ℕ) → answered_before count history ≡ first ∷ later → count ≤ first
at-least count [] first later e = cc
at-least count (Asked id op ∷ history) first later e =
    let same = head count first (answered_before count history) later e in omega (arith, same)
at-least count (Replied id reply ∷ history) first later e =
    let up = at-least (count + 1) history first later e in omega (arith, up)

not-first : (count : ℕ) (history : List Mark) (later : List ℕ) → answered_before (count + 1) history ≡ count ∷ later → ⊥
not-first count history later e = let up = at-least (count + 1) history count later e in absurd (omega (arith, up))

pub one-history : (count : ℕ) (a b : List Mark) → asked_in a ≡ asked_in b → replied_in a ≡ replied_in b
    → answered_before count a ≡ answered_before count b → a ≡ b
one-history count [] [] asked replied before = refl
one-history count [] (Asked id op ∷ b) asked replied before = cc
one-history count [] (Replied id reply ∷ b) asked replied before = cc
one-history count (Asked id op ∷ a) [] asked replied before = cc
one-history count (Replied id reply ∷ a) [] asked replied before = cc
one-history count (Asked id op ∷ a) (Asked i o ∷ b) asked replied before =
    ap (λ (x : ℕ × Op). Asked x.0 x.1 ∷ a) (head (id, op) (i, o) (asked_in a) (asked_in b) asked)
    ∙ ap (λ xs. Asked i o ∷ xs)
    (one-history count a b (others (id, op) (i, o) (asked_in a) (asked_in b) asked) replied
    (others count count (answered_before count a) (answered_before count b) before))
one-history count (Replied id reply ∷ a) (Replied i r ∷ b) asked replied before =
    ap (λ (x : ℕ × Reply). Replied x.0 x.1 ∷ a) (head (id, reply) (i, r) (replied_in a) (replied_in b) replied)
    ∙ ap (λ xs. Replied i r ∷ xs)
    (one-history (count + 1) a b asked (others (id, reply) (i, r) (replied_in a) (replied_in b) replied) before)
one-history count (Asked id op ∷ a) (Replied i r ∷ b) asked replied before =
    absurd (not-first count b (answered_before count a) (sym before))
one-history count (Replied id reply ∷ a) (Asked i o ∷ b) asked replied before =
    absurd (not-first count a (answered_before count b) before)
