-- What steps of a shard keep, of what its thread relies on.
use Rattle.std.proofs.Common.{◌≡◌, ◌≢◌, ℕ, ◌+◌, ◌<◌, List, [], ◌∷◌, length, inl, inr, refl, sym, ap, subst, ◌∙◌, arith, Option, Some, None}
use Rattle.std.proofs.lemmas.Bool.{cases_Bool}
use Rattle.r6_world.specs.PlainArray.{Op}
use Rattle.r6_world.specs.Layouts.{Layout}
use Rattle.r6_world.specs.Tasks.{serves, Outcome}
use Rattle.r6_world.specs.ShardStates.{Shard, Stage, Held, Request, Command}
use Rattle.r6_world.specs.Changes.{Accept, Start, Lose, Move, Adopt, See_failed, Finish, Release, Hand_reply, after, staged, finished, released, failed_request, Read_direct, Give_direct, Set_back, Give_over, slots_in_error, read_on}
use Rattle.r6_world.specs.Steps.{Event, Submit, Submit_all, Deliver, Take_command, No_command, Scans, Step, Through, entered}
use Rattle.r6_world.specs.Tables.{put}
use Rattle.r6_world.proofs.Tables.{put-cases, not_both, Some-inj}
use Rattle.r6_world.proofs.Acts.Requests.{held_now-served, held_now-other}
use Rattle.r6_world.proofs.Changes.{IsSubmission, Keeps, step-kept, through-scans, lost-kept}
use Rattle.r6_shard.specs.Kept.{AreNumbered}
use Rattle.r6_shard.specs.Answering.{IsGone}

-- ---- numbers of requests

same-op : (before request : Request) → Some before ≡ Some request → before.op ≡ request.op
same-op before request e = ap (λ (r : Request). r.op) (Some-inj before request e)

-- what is there was there, and asked for the same
staged-was : {A : Type 0} (o : Option Request) (stage : Stage) (request : Request) → staged o stage ≡ Some request
    → ((before : Request) → o ≡ Some before → before.op ≡ request.op → A) → A
staged-was None stage request e k = absurd (not_both None request refl e)
staged-was (Some before) stage request e k = k before refl (same-op _ request e)

failed-was : {A : Type 0} (o : Option Request) (request : Request) → failed_request o ≡ Some request
    → ((before : Request) → o ≡ Some before → before.op ≡ request.op → A) → A
failed-was None request e k = absurd (not_both None request refl e)
failed-was (Some before) request e k = k before refl (same-op _ request e)

finished-was : {A : Type 0} (f : ℕ) (outcome : Outcome) (o : Option Request) (request : Request) → finished f outcome o ≡ Some request
    → ((before : Request) → o ≡ Some before → before.op ≡ request.op → A) → A
finished-was f outcome None request e k = absurd (not_both None request refl e)
finished-was f outcome (Some before) request e k = k before refl (same-op _ request e)

released-was : {A : Type 0} (o : Option Request) (request : Request) → released o ≡ Some request
    → ((before : Request) → o ≡ Some before → before.op ≡ request.op → A) → A
released-was None request e k = absurd (not_both None request refl e)
released-was (Some before) request e k = k before refl (same-op _ request e)

read-was : {A : Type 0} (command : ℕ → Option Command) (o : Option Request) (request : Request) → read_on command o ≡ Some request
    → ((before : Request) → o ≡ Some before → before.op ≡ request.op → A) → A
read-was command None request e k = absurd (not_both None request refl e)
read-was command (Some before) request e k = k before refl (same-op _ request e)

-- events by which no command is taken nor comes back
abbrev pub IsBeside : Event → Type 0
IsBeside (Take_command token c) = ⊥
IsBeside (Deliver token completion receipt) = ⊥
IsBeside event = record {}

-- requests that are accepted one after another have the next numbers
abbrev pub Each : (ℕ → Op → Type 0) → (first : ℕ) → List Op → Type 0
Each Q first [] = Unit {0}
Each Q first (op ∷ ops) = Q first op × Each Q (first + 1) ops

module _ (l : Layout) (n : ℕ) where
  -- each request that is there has such a number, and asks for such a thing
  abbrev pub Only : (ℕ → Op → Type 0) → Shard → Type 0
  Only Q s = (id : ℕ) (request : Request) → s.request id ≡ Some request → Q id request.op

  still : (Q : ℕ → Op → Type 0) (s : Shard) → Only Q s → (id : ℕ) (request before : Request) → s.request id ≡ Some before → before.op ≡ request.op → Q id request.op
  still Q s x id request before was same = subst (Q id) same (x id before was)

  put-still : (Q : ℕ → Op → Type 0) (s : Shard) → Only Q s → (i : ℕ) (was is : Request) → s.request i ≡ Some was → was.op ≡ is.op
      → (id : ℕ) (request : Request) → put s.request i (Some is) id ≡ Some request → Q id request.op
  put-still Q s x i was is there same id request e = elim (put-cases s.request i (Some is) id (Some request) e) [
    | inl p ↦ still Q s x id request was (ap s.request p.0 ∙ there) (same ∙ same-op is request p.1)
    | inr p ↦ x id request p.1
  ]

  only-kept : (Q : ℕ → Op → Type 0) (event : Event) → (IsSubmission event → ⊥) → Keeps l n (Only Q) event
  only-kept Q event none s (Accept op) within a x = absurd (none within)
  only-kept Q event none s (Start f row task) within a x = λ id request e. elim (cases_Bool (serves task id)) [
    | inl yes' ↦ staged-was (s.request id) (Held f) request (sym (held_now-served s.request task f id yes') ∙ e) (still Q s x id request)
    | inr no' ↦ x id request (sym (held_now-other s.request task f id no') ∙ e)
  ]
  only-kept Q event none s (Read_direct buffer i block g) within a x = put-still Q s x i _ _ a.1 refl
  only-kept Q event none s (Give_direct t c i block b) within a x = put-still Q s x i _ _ a.2 refl
  only-kept Q event none s (Set_back t c i block) within a x = put-still Q s x i _ _ a.2 refl
  only-kept Q event none s (Give_over f h) within a x =
      lost-kept l (Only Q) (λ s slot x id request e. read-was _ (s.request id) request e (still Q s x id request)) (slots_in_error l h) s x
  only-kept Q event none s (Lose t c) within a x = λ id request e. read-was _ (s.request id) request e (still Q s x id request)
  only-kept Q event none s (Move f h slot g) within a x = λ id request e. read-was _ (s.request id) request e (still Q s x id request)
  only-kept Q event none s (Adopt slot status) within a x = λ id request e. read-was _ (s.request id) request e (still Q s x id request)
  only-kept Q event none s See_failed within a x = λ id request e. failed-was (s.request id) request e (still Q s x id request)
  only-kept Q event none s (Finish f h outcome) within a x = λ id request e. finished-was f outcome (s.request id) request e (still Q s x id request)
  only-kept Q event none s Release within a x = λ id request e. released-was (s.request id) request e (still Q s x id request)
  only-kept Q event none s (Hand_reply i op reply) within a x = λ id request e.
      elim (put-cases s.request i None id (Some request) e) [ inl p ↦ absurd (not_both None request refl p.1) | inr p ↦ x id request p.1 ]
  only-kept Q event none s change within a x = x

  accepted-kept : (count : ℕ) (event : Event) → (IsSubmission event → ⊥) → Keeps l n (λ s. s.accepted ≡ count) event
  accepted-kept count event none s (Accept op) within a x = absurd (none within)
  accepted-kept count event none s (Give_over f h) within a x =
      lost-kept l (λ s. s.accepted ≡ count) (λ s slot x. x) (slots_in_error l h) s x
  accepted-kept count event none s change within a x = x

  numbered-kept : (count : ℕ) (event : Event) → (IsSubmission event → ⊥)
      → Keeps l n (λ s. AreNumbered s count) event
  numbered-kept count event none s change within a x = (
    accepted-kept count event none s change within a x.0,
    only-kept (λ id op. id < count) event none s change within a x.1,
  )

  pub still-numbered : (event : Event) → (IsSubmission event → ⊥) → (old new : Shard) (count : ℕ)
      → Step l n old event new → AreNumbered old count → AreNumbered new count
  still-numbered event none old new count step x = step-kept l n (λ s. AreNumbered s count) event (numbered-kept count event none) old new step x

  not-submitted : IsSubmission No_command → ⊥
  not-submitted is = is

  -- a request that is accepted has the next number, and so have those that are accepted after it
  one-numbered : (s : Shard) (op : Op) (count : ℕ) → AreNumbered s count → AreNumbered (after l s (Accept op)) (count + 1)
  one-numbered s op count x = (
    ap (λ y. y + 1) x.0,
    λ id request e. elim (put-cases s.request s.accepted _ id (Some request) e) [
      | inl p ↦ let same = p.0 in let is = x.0 in omega arith
      | inr p ↦ let below = x.1 id request p.1 in omega arith
    ],
  )

  all-numbered : (ops : List Op) (s : Shard) (count : ℕ) → AreNumbered s count → AreNumbered (entered l s ops) (count + length ops)
  all-numbered [] s count x = subst (AreNumbered s) (let none : List Op = [] in let same : count ≡ count + length none = omega arith in same) x
  all-numbered (op ∷ ops) s count x =
      subst (AreNumbered (entered l s (op ∷ ops))) (let same : count + 1 + length ops ≡ count + length (op ∷ ops) = omega arith in same)
      (all-numbered ops (after l s (Accept op)) (count + 1) (one-numbered s op count x))

  scanned-numbered : (count : ℕ) (mid new : Shard) → Through l n Scans mid new → AreNumbered mid count → AreNumbered new count
  scanned-numbered count mid new scans x =
      through-scans l n (λ s. AreNumbered s count) No_command (numbered-kept count No_command not-submitted) mid new scans x

  pub one-more : (old new : Shard) (op : Op) (id count : ℕ) → Step l n old (Submit op id) new → AreNumbered old count
      → (id ≡ count) × AreNumbered new (count + 1)
  one-more old new op id count step x =
      (step.0 ∙ x.0, scanned-numbered (count + 1) (after l old (Accept op)) new step.2 (one-numbered old op count x))

  pub all-more : (old new : Shard) (ops : List Op) (first count : ℕ) → Step l n old (Submit_all ops first) new → AreNumbered old count
      → (first ≡ count) × AreNumbered new (count + length ops)
  all-more old new ops first count step x =
      (step.0 ∙ x.0, scanned-numbered (count + length ops) (entered l old ops) new step.2 (all-numbered ops old count x))

  pub only-on : (Q : ℕ → Op → Type 0) (event : Event) → (IsSubmission event → ⊥) → (old new : Shard) → Step l n old event new → Only Q old → Only Q new
  only-on Q event none old new step x = step-kept l n (Only Q) event (only-kept Q event none) old new step x

  only-scanned : (Q : ℕ → Op → Type 0) (mid new : Shard) → Through l n Scans mid new → Only Q mid → Only Q new
  only-scanned Q mid new scans x = through-scans l n (Only Q) No_command (only-kept Q No_command not-submitted) mid new scans x

  one-only : (Q : ℕ → Op → Type 0) (s : Shard) (op : Op) → Only Q s → Q s.accepted op → Only Q (after l s (Accept op))
  one-only Q s op x own id request e = elim (put-cases s.request s.accepted _ id (Some request) e) [
    | inl p ↦ subst (λ k. Q k request.op) (sym p.0) (subst (Q s.accepted) (same-op _ request p.1) own)
    | inr p ↦ x id request p.1
  ]

  all-only : (Q : ℕ → Op → Type 0) (ops : List Op) (s : Shard) → Only Q s → Each Q s.accepted ops → Only Q (entered l s ops)
  all-only Q [] s x each = x
  all-only Q (op ∷ ops) s x each = all-only Q ops (after l s (Accept op)) (one-only Q s op x each.0) each.1

  pub only-submitting : (Q : ℕ → Op → Type 0) (old new : Shard) (op : Op) (id : ℕ) → Step l n old (Submit op id) new → Only Q old → Q old.accepted op → Only Q new
  only-submitting Q old new op id step x own = only-scanned Q (after l old (Accept op)) new step.2 (one-only Q old op x own)

  pub only-together : (Q : ℕ → Op → Type 0) (old new : Shard) (ops : List Op) (first : ℕ) → Step l n old (Submit_all ops first) new → Only Q old → Each Q old.accepted ops
      → Only Q new
  only-together Q old new ops first step x each = only-scanned Q (entered l old ops) new step.2 (all-only Q ops old x each)

  -- a request whose reply was taken is there no more
  pub still-gone : (event : Event) → (IsSubmission event → ⊥) → (old new : Shard) → Step l n old event new
      → (number : ℕ) → IsGone old number → IsGone new number
  still-gone event none old new step number x request e =
      only-on (λ id op. id ≢ number) event none old new step
      (λ id r there same. x r (ap old.request (sym same) ∙ there)) number request e refl

  -- nor is it there once others are accepted
  one-gone : (s : Shard) (op : Op) (number : ℕ) → number < s.accepted → IsGone s number → IsGone (after l s (Accept op)) number
  one-gone s op number below x request e = elim (put-cases s.request s.accepted _ number (Some request) e) [
    | inl p ↦ let at = p.0 in omega (arith, at, below)
    | inr p ↦ x request p.1
  ]

  all-gone : (ops : List Op) (s : Shard) (number : ℕ) → number < s.accepted → IsGone s number → IsGone (entered l s ops) number
  all-gone [] s number below x = x
  all-gone (op ∷ ops) s number below x =
      all-gone ops (after l s (Accept op)) number (omega (arith, below)) (one-gone s op number below x)

  scanned-gone : (number : ℕ) (mid new : Shard) → Through l n Scans mid new → IsGone mid number → IsGone new number
  scanned-gone number mid new scans x request e =
      only-scanned (λ k op. k ≢ number) mid new scans
      (λ k r there same. x r (ap mid.request (sym same) ∙ there)) number request e refl

  pub still-gone-submitting : (old new : Shard) (op : Op) (id number : ℕ) → number < old.accepted → Step l n old (Submit op id) new
      → IsGone old number → IsGone new number
  still-gone-submitting old new op id number below step x =
      scanned-gone number (after l old (Accept op)) new step.2 (one-gone old op number below x)

  pub still-gone-together : (old new : Shard) (ops : List Op) (first number : ℕ) → number < old.accepted → Step l n old (Submit_all ops first) new
      → IsGone old number → IsGone new number
  still-gone-together old new ops first number below step x =
      scanned-gone number (entered l old ops) new step.2 (all-gone ops old number below x)
