-- Requests with their events.
use Rattle.std.proofs.Common.{◌≡◌, ℕ, ◌+◌, ◌<◌, ◌≤◌, zero, suc, List, [], ◌∷◌, ◌++◌, length, get_or, take, refl, sym, ap, ◌∙◌, arith}
use Rattle.std.proofs.Math.Seq.{take-append-add}
use Rattle.r6_world.specs.declared.values.Op.{Op}
use Rattle.r6_world.specs.Values.{op_of}
use Rattle.r6_shard.specs.declared.ledger.Asked.{Asked}
use Rattle.r6_shard.specs.Replying.{noted_of}
use Rattle.r6_shard.specs.Together.{all_asked}

-- ---- as many as there are requests

pub none-asked : (answered : ℕ) (events : List ℕ) → all_asked answered events [] ≡ []
none-asked answered [] = refl
none-asked answered (event ∷ events) = refl

pub as-many-asked : (answered : ℕ) (events : List ℕ) (ops : List Op) → length ops ≤ length events → length (all_asked answered events ops) ≡ length ops
as-many-asked answered [] [] many = refl
as-many-asked answered [] (o ∷ ops) many = absurd (omega (arith, many))
as-many-asked answered (event ∷ events) [] many = refl
as-many-asked answered (event ∷ events) (o ∷ ops) many = ap suc (as-many-asked answered events ops (omega (arith, many)))

-- one more, with its event
pub one-asked : (answered : ℕ) (events : List ℕ) (ops : List Op) (place : ℕ) (o : Op) → place < length ops → length ops ≤ length events → o ≡ get_or ops place o
    → all_asked answered events (take (suc place) ops)
    ≡ all_asked answered events (take place ops) ++ noted_of (get_or events place 0) (op_of o) answered ∷ []
one-asked answered events [] place o below many is = absurd (omega (arith, below))
one-asked answered [] (p ∷ ops) place o below many is = absurd (omega (arith, many))
one-asked answered (event ∷ events) (p ∷ ops) zero o below many is =
    ap (λ (q : Op). noted_of event (op_of q) answered ∷ all_asked answered events []) (sym is)
    ∙ ap (λ xs. noted_of event (op_of o) answered ∷ xs) (none-asked answered events)
one-asked answered (event ∷ events) (p ∷ ops) (suc place) o below many is =
    ap (λ xs. noted_of event (op_of p) answered ∷ xs)
    (one-asked answered events ops place o (omega (arith, below)) (omega (arith, many)) is)

-- those of the first ones
pub first-asked : (answered : ℕ) (events : List ℕ) (taken left : List Op) → take (length taken) (all_asked answered events (taken ++ left)) ≡ all_asked answered events taken
first-asked answered [] [] left = refl
first-asked answered [] (o ∷ taken) left = refl
first-asked answered (event ∷ events) [] left = refl
first-asked answered (event ∷ events) (o ∷ taken) left = ap (λ xs. noted_of event (op_of o) answered ∷ xs) (first-asked answered events taken left)

-- they stand behind those of before
pub cut-asked : (asked : List Asked) (answered : ℕ) (events : List ℕ) (ops taken left : List Op) (count : ℕ) → count ≡ length taken → ops ≡ taken ++ left
    → take (length asked + count) (asked ++ all_asked answered events ops) ≡ asked ++ all_asked answered events taken
cut-asked asked answered events ops taken left count many split =
    ap (λ (xs : List Op). take (length asked + count) (asked ++ all_asked answered events xs)) split
    ∙ ap (λ k. take (length asked + k) (asked ++ all_asked answered events (taken ++ left))) many
    ∙ take-append-add asked (all_asked answered events (taken ++ left)) (length taken)
    ∙ ap (λ xs. asked ++ xs) (first-asked answered events taken left)

-- only as many events count
pub front-asked : (answered : ℕ) (front back : List ℕ) (taken : List Op) → length front ≡ length taken → all_asked answered (front ++ back) taken ≡ all_asked answered front taken
front-asked answered [] back [] same = none-asked answered back
front-asked answered [] back (o ∷ taken) same = absurd (omega (arith, same))
front-asked answered (event ∷ front) back [] same = refl
front-asked answered (event ∷ front) back (o ∷ taken) same =
    ap (λ xs. noted_of event (op_of o) answered ∷ xs) (front-asked answered front back taken (omega (arith, same)))

-- as many of a list as were taken
pub noted : (asked mid new : List Asked) (before count n m : ℕ) (events : List ℕ) (ops taken left : List Op) → before ≡ length asked → n ≡ m
    → mid ≡ asked ++ all_asked n events ops → new ≡ take (before + count) mid → count ≡ length taken → ops ≡ taken ++ left
    → new ≡ asked ++ all_asked m events taken
noted asked mid new before count n m events ops taken left is same all cut many split =
    cut ∙ ap (take (before + count)) all ∙ ap (λ k. take (k + count) (asked ++ all_asked n events ops)) is
    ∙ cut-asked asked n events ops taken left count many split ∙ ap (λ k. asked ++ all_asked k events taken) same
