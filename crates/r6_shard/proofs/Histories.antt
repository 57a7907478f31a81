-- A history that grows by a mark.
use Rattle.std.proofs.Common.{◌≡◌, ℕ, ◌+◌, List, [], ◌∷◌, ◌++◌, length, refl, ap, ◌∙◌, arith}
use Rattle.r6_world.specs.PlainArray.{Op, Reply}
use Rattle.r6_course.specs.Courses.{Mark, Asked, Replied}
use Rattle.r6_shard.specs.Histories.{asked_in, replied_in, answered_before, numbered}

-- ---- a request is handed in

pub asked-more : (history : List Mark) (id : ℕ) (op : Op) → asked_in (history ++ Asked id op ∷ []) ≡ asked_in history ++ (id, op) ∷ []
asked-more [] id op = refl
asked-more (Asked i o ∷ history) id op = ap (λ xs. (i, o) ∷ xs) (asked-more history id op)
asked-more (Replied i r ∷ history) id op = asked-more history id op

pub replied-same : (history : List Mark) (id : ℕ) (op : Op) → replied_in (history ++ Asked id op ∷ []) ≡ replied_in history
replied-same [] id op = refl
replied-same (Asked i o ∷ history) id op = replied-same history id op
replied-same (Replied i r ∷ history) id op = ap (λ xs. (i, r) ∷ xs) (replied-same history id op)

pub before-more : (replies : ℕ) (history : List Mark) (id : ℕ) (op : Op)
    → answered_before replies (history ++ Asked id op ∷ []) ≡ answered_before replies history ++ (replies + length (replied_in history)) ∷ []
before-more replies [] id op = ap (λ k. k ∷ []) (omega arith)
before-more replies (Asked i o ∷ history) id op = ap (λ xs. replies ∷ xs) (before-more replies history id op)
before-more replies (Replied i r ∷ history) id op =
    before-more (replies + 1) history id op ∙ ap (λ k. answered_before (replies + 1) history ++ k ∷ []) (omega arith)

pub numbered-more : (first : ℕ) (ops : List Op) (op : Op) → numbered first (ops ++ op ∷ []) ≡ numbered first ops ++ (first + length ops, op) ∷ []
numbered-more first [] op = ap (λ (k : ℕ). (k, op) ∷ []) (omega arith)
numbered-more first (o ∷ ops) op =
    ap (λ xs. (first, o) ∷ xs) (numbered-more (first + 1) ops op ∙ ap (λ (k : ℕ). numbered (first + 1) ops ++ (k, op) ∷ []) (omega arith))

-- ---- a reply is taken

pub asked-same : (history : List Mark) (id : ℕ) (reply : Reply) → asked_in (history ++ Replied id reply ∷ []) ≡ asked_in history
asked-same [] id reply = refl
asked-same (Asked i o ∷ history) id reply = ap (λ xs. (i, o) ∷ xs) (asked-same history id reply)
asked-same (Replied i r ∷ history) id reply = asked-same history id reply

pub replied-more : (history : List Mark) (id : ℕ) (reply : Reply)
    → replied_in (history ++ Replied id reply ∷ []) ≡ replied_in history ++ (id, reply) ∷ []
replied-more [] id reply = refl
replied-more (Asked i o ∷ history) id reply = replied-more history id reply
replied-more (Replied i r ∷ history) id reply = ap (λ xs. (i, r) ∷ xs) (replied-more history id reply)

pub before-same : (replies : ℕ) (history : List Mark) (id : ℕ) (reply : Reply)
    → answered_before replies (history ++ Replied id reply ∷ []) ≡ answered_before replies history
before-same replies [] id reply = refl
before-same replies (Asked i o ∷ history) id reply = ap (λ xs. replies ∷ xs) (before-same replies history id reply)
before-same replies (Replied i r ∷ history) id reply = before-same (replies + 1) history id reply
