-- What is known of the events once more was said.
use Rattle.std.proofs.Common.{◌≡◌, ◌∙◌, ℕ, ◌+◌, ◌<◌, List, [], ◌∷◌, ◌++◌, length, map, take, get_or, refl, ap, sym, append-nil}
use Rattle.std.specs.List.{flat_map}
use Rattle.std.proofs.lemmas.Grind.{flat_map-append}
use Rattle.std.proofs.lemmas.List.{length-set, map_push, take_more}
use Rattle.r6_engine.specs.declared.reply.EventReply.{EventReply}
use Rattle.r6_engine.specs.Replies.{Said, with_all, with_one}

pub with_both : (table : List EventReply) (said more : List Said) → with_all table (said ++ more) ≡ with_all (with_all table said) more
with_both table [] more = refl
with_both table (s ∷ said) more = with_both (with_one table s) said more

-- one thing more was said
pub one_more : {X : Type 0} (f : X → Said) (table now new : List EventReply) (xs : List X) (x : X) → now ≡ with_all table (map f xs)
    → new ≡ with_one now (f x) → new ≡ with_all table (map f (xs ++ x ∷ []))
one_more f table now new xs x before after =
    after ∙ ap (λ known. with_one known (f x)) before ∙ sym (with_both table (map f xs) (f x ∷ []))
    ∙ ap (with_all table) (sym (map_push f xs x))

pub said_is : (table new : List EventReply) (event : ℕ) (said is : EventReply) → new ≡ with_one table (event, said) → said ≡ is
    → new ≡ with_one table (event, is)
said_is table new event said is added same = added ∙ ap (λ (o : EventReply). with_one table (event, o)) same

-- and the next of a slice
pub next_more : {X : Type 0} (f : X → Said) (table now new : List EventReply) (xs : List X) (i : ℕ) (d : X) → i < length xs
    → now ≡ with_all table (map f (take i xs)) → new ≡ with_one now (f (get_or xs i d)) → new ≡ with_all table (map f (take (i + 1) xs))
next_more f table now new xs i d within before after =
    one_more f table now new (take i xs) (get_or xs i d) before after
    ∙ ap (λ all. with_all table (map f all)) (sym (take_more xs i d within))

-- all that one more has said
pub all_more : {X : Type 0} (f : X → List Said) (table now new : List EventReply) (xs : List X) (x : X) → now ≡ with_all table (flat_map f xs)
    → new ≡ with_all now (f x) → new ≡ with_all table (flat_map f (xs ++ x ∷ []))
all_more f table now new xs x before after =
    after ∙ ap (λ known. with_all known (f x)) before ∙ sym (with_both table (flat_map f xs) (f x))
    ∙ ap (λ more. with_all table (flat_map f xs ++ more)) (sym (append-nil (f x)))
    ∙ ap (with_all table) (sym (flat_map-append f xs (x ∷ [])))

-- three kinds of things, one after the other
pub three_kinds : (table one two three : List EventReply) (first second third : List Said) → one ≡ with_all table first
    → two ≡ with_all one second → three ≡ with_all two third → three ≡ with_all table (first ++ (second ++ third))
three_kinds table one two three first second third is-one is-two is-three =
    is-three ∙ ap (λ known. with_all known third) (is-two ∙ ap (λ known. with_all known second) is-one)
    ∙ sym (with_both (with_all table first) second third) ∙ sym (with_both table first (second ++ third))

pub unchanged : {X : Type 0} (xs : List X) → map (λ x. x) xs ≡ xs
unchanged [] = refl
unchanged (x ∷ xs) = ap (λ ys. x ∷ ys) (unchanged xs)

-- there are as many events as before
pub as_many : (table : List EventReply) (said : List Said) → length (with_all table said) ≡ length table
as_many table [] = refl
as_many table (s ∷ said) = as_many (with_one table s) said ∙ length-set table s.0 _
