-- The request of an event that was answered stands in the order.
use Rattle.std.proofs.Common.{◌≡◌, ◌≢◌, ℕ, ◌+◌, ◌<◌, ◌≤◌, ◌==◌, zero, suc, List, [], ◌∷◌, Bool, true, cond, count_by, All, inl, inr, refl, sym, ap, subst, ◌∙◌, arith, Option, Some, None, option_and_then, option_map, slice_get}
use Rattle.std.specs.List.{cons_option, filter_map}
use Rattle.std.proofs.lemmas.Bool.{cases_Bool, eqb-true}
use Rattle.std.proofs.lemmas.List.Sums.{sum_by-cons}
use Rattle.std.proofs.lemmas.Option.{get_or_from_slice_get, none-some, slice_get_within}
use Rattle.r6_layout.specs.Shape.{Shape, IsShape}
use Rattle.r6_layout.specs.Layout.{row_of}
use Rattle.r6_layout.proofs.Places.{row_of-lt}
use Rattle.r6_layout.proofs.Shards.{shard_of-lt}
use Rattle.r6_world.specs.PlainArray as world
use Rattle.r6_world.specs.PlainArray.{ArrayFailed}
use Rattle.r6_world.specs.declared.values.Op.{Op}
use Rattle.r6_world.specs.declared.values.Reply.{Reply}
use Rattle.r6_world.specs.Values.{op_of, reply_of}
use Rattle.r6_world.proofs.Tables.{Some-inj}
use Rattle.r6_course.specs.Courses.{Mark, Asked, Replied}
use Rattle.r6_course.specs.Ledgers.{IsIn, entry}
use Rattle.r6_shard.specs.declared.ledger.Asked.{Asked as Accepted}
use Rattle.r6_shard.specs.Histories.{asked_in, replied_in, numbered}
use Rattle.r6_engine.specs.lists.Events.{Event, Request}
use Rattle.r6_engine.specs.declared.ledger.Ledger.{Ledger}
use Rattle.r6_engine.specs.declared.ledger.LedgerEntry.{LedgerEntry}
use Rattle.r6_engine.specs.declared.reply.EventReply.{EventReply}
use Rattle.r6_engine.specs.declared.reply.EventReply.TheVariants as reply
use Rattle.r6_engine.specs.Answered.{AreReplies, block_in, entries_for, shard_with}
use Rattle.r6_engine.specs.Explained.{op_in, ops_in, reply_in, reply_to}
use Rattle.r6_engine.specs.Refusals.{WasRight, WereRight}
use Rattle.r6_engine.specs.ServedShards.{AnswersEach, IsEntryOf}
use Rattle.r6_order.specs.Orders.{ArrayHistory, of_shard, LeadsAll}
use Rattle.r6_order.specs.Served.{IsHistoryOf, StandsFor}
use Rattle.r6_order.proofs.Locality.{in-of, of-in}

-- ---- lists

-- what is found for one of a list
found-in : {A B : Type 0} (f : A → Option B) (xs : List A) (k : ℕ) (x : A) (y : B) → slice_get xs k ≡ Some x → f x ≡ Some y → IsIn y (filter_map f xs)
found-in f [] k x y at is = absurd (none-some x at)
found-in f (z ∷ xs) zero x y at is =
    subst (λ o. IsIn y (cons_option o (filter_map f xs))) (sym (ap f (Some-inj z x at) ∙ is)) (inl refl)
found-in f (z ∷ xs) (suc k) x y at is = later (f z) (found-in f xs k x y at is)
  where
    later : (o : Option _) → IsIn y (filter_map f xs) → IsIn y (cons_option o (filter_map f xs))
    later None i = i
    later (Some w) i = inr i

-- where something is found for each, it is at its place
found-at : {A B : Type 0} (f : A → Option B) (xs : List A) → ((j : ℕ) (x : A) → slice_get xs j ≡ Some x → (y : B) × (f x ≡ Some y))
    → (k : ℕ) (x : A) (y : B) → slice_get xs k ≡ Some x → f x ≡ Some y → slice_get (filter_map f xs) k ≡ Some y
found-at f [] all k x y at is = absurd (none-some x at)
found-at f (z ∷ xs) all zero x y at is =
    ap (λ o. slice_get (cons_option o (filter_map f xs)) 0) (ap f (Some-inj z x at) ∙ is)
found-at f (z ∷ xs) all (suc k) x y at is =
    let here = all 0 z refl in
    ap (λ o. slice_get (cons_option o (filter_map f xs)) (suc k)) here.1
    ∙ found-at f xs (λ j w there. all (suc j) w there) k x y at is

abbrev one-if : Bool → ℕ
one-if b = cond b 1 0

-- where some are counted, one of them stands somewhere
counted-there : {A : Type 0} (p : A → Bool) (xs : List A) → 1 ≤ count_by p xs → (k : ℕ) × (x : A) × (slice_get xs k ≡ Some x) × (p x ≡ true)
counted-there p [] some = absurd (omega (arith, some))
counted-there p (x ∷ xs) some = elim (cases_Bool (p x)) [
  | inl yes' ↦ (0, x, refl, yes')
  | inr no' ↦
      let both = sum_by-cons (λ y. one-if (p y)) x xs in
      let here : one-if (p x) ≡ 0 = ap one-if no' in
      let later = counted-there p xs (omega (arith, both, here, some)) in (suc later.0, later.1, later.2, later.3)
]

-- ---- histories

replied-there : (history : List Mark) (id : ℕ) (reply : world.Reply) → IsIn (id, reply) (replied_in history) → IsIn (Replied id reply) history
replied-there [] id reply i = absurd i
replied-there (Asked j op ∷ history) id reply i = inr (replied-there history id reply i)
replied-there (Replied j other ∷ history) id reply i = elim i [
  | inl same ↦ inl (ap (λ (x : ℕ × world.Reply). Replied x.0 x.1) same)
  | inr later ↦ inr (replied-there history id reply later)
]

asked-there : (history : List Mark) (id : ℕ) (op : world.Op) → IsIn (Asked id op) history → IsIn (id, op) (asked_in history)
asked-there [] id op i = absurd i
asked-there (Asked j other ∷ history) id op i = elim i [
  | inl same ↦ inl (parts id j op other same)
  | inr later ↦ inr (asked-there history id op later)
]
  where
    parts : (a b : ℕ) (x y : world.Op) → Asked a x ≡ Asked b y → ◌≡◌ {A = ℕ × world.Op} (a, x) (b, y)
    parts a b x y e = let n : a ≡ b = cc in let o : x ≡ y = cc in λ k. (n k, o k)
asked-there (Replied j reply ∷ history) id op i = elim i [
  | inl same ↦ absurd (another id j op reply same)
  | inr later ↦ asked-there history id op later
]
  where
    another : (a b : ℕ) (x : world.Op) (r : world.Reply) → Asked a x ≡ Replied b r → ⊥
    another a b x r e = cc

numbered-op : (first : ℕ) (ops : List world.Op) (id : ℕ) (op : world.Op) → IsIn (id, op) (numbered first ops)
    → (k : ℕ) × (id ≡ first + k) × (slice_get ops k ≡ Some op)
numbered-op first [] id op i = absurd i
numbered-op first (o ∷ ops) id op i = elim i [
  | inl same ↦
      let number : id ≡ first = ap (λ (x : ℕ × world.Op). x.0) same in
      (0, omega (arith, number), ap (λ (x : ℕ × world.Op). Some x.1) (sym same))
  | inr later ↦
      let p = numbered-op (first + 1) ops id op later in
      let number = p.1 in (suc p.0, omega (arith, number), p.2)
]

-- ---- the request of an event

all-at : {A : Type 0} (P : A → Type 0) (xs : List A) (k : ℕ) (x : A) → All P xs → slice_get xs k ≡ Some x → P x
all-at P xs k x all at = subst P (get_or_from_slice_get xs k x x at) (all k x (slice_get_within xs k x at))

ops-at : (block : ℕ) (events : List Event) (requests : List Accepted) → WereRight block events requests
    → (id : ℕ) (a : Accepted) (o : Op) → slice_get requests id ≡ Some a → slice_get events a.event ≡ Some (Request o)
    → slice_get (ops_in events requests) id ≡ Some (op_of o)
ops-at block events requests right id a o at is =
    found-at (λ (b : Accepted). option_and_then op_in (slice_get events b.event)) requests
    (λ j x there.
    let was = all-at (WasRight block events) requests j x right there in
    (op_of was.0, ap (option_and_then op_in) was.1))
    id a (op_of o) at (ap (option_and_then op_in) is)

reply-at : (replies : List EventReply) (e : LedgerEntry) (event : ℕ) (answer : Reply) → e.event ≡ event
    → slice_get replies event ≡ Some (reply.Replied answer) → reply_to replies e ≡ Some (e.id.0, reply_of answer)
reply-at replies e event answer is said =
    ap (λ w. option_map (λ y. (e.id.0, y)) (option_and_then reply_in w)) (ap (slice_get replies) is ∙ said)

same-op : (ops : List world.Op) (k id : ℕ) (op other : world.Op) → id ≡ 0 + k → slice_get ops k ≡ Some op → slice_get ops id ≡ Some other → op ≡ other
same-op ops k id op other place at is =
    let same : k ≡ id = omega (arith, place) in Some-inj op other (sym at ∙ ap (slice_get ops) same ∙ is)

-- an entry of the ledger for an event that it has once, with its request
pub record HasEntry (ledger : Ledger) (event : ℕ) : Type 0 where
  at : ℕ
  e : LedgerEntry
  there : slice_get ledger.entries.items at ≡ Some e
  event_is : e.event ≡ event
  asked : Accepted
  request : slice_get ledger.requests.items e.id.0 ≡ Some asked
  asked_is : asked.event ≡ event

has-entry : (ledger : Ledger) (event : ℕ) → entries_for event ledger ≡ 1 → AnswersEach ledger.requests.items ledger.entries.items → HasEntry ledger event
has-entry ledger event one entries =
    let found = counted-there (λ (e : LedgerEntry). e.event == event) ledger.entries.items (omega (arith, one)) in
    let same = eqb-true found.1.event event found.3 in
    let asked = all-at (IsEntryOf ledger.requests.items) ledger.entries.items found.0 found.1 entries.each found.2 in
    record { at = found.0; e = found.1; there = found.2; event_is = same; asked = asked.0; request = asked.1; asked_is = asked.2 ∙ same }

module _ (shape : Shape) (lawful : IsShape shape) (events : List Event) (replies : List EventReply) (all : List Ledger) (ledgers : ℕ → Ledger)
    (are : (n : ℕ) → n < shape.shards → slice_get all n ≡ Some (ledgers n))
    (right : (n : ℕ) → n < shape.shards → WereRight shape.block events (ledgers n).requests.items)
    (entries : (n : ℕ) → n < shape.shards → AnswersEach (ledgers n).requests.items (ledgers n).entries.items)
    (answered : AreReplies shape events all replies)
    (history : ArrayHistory) (told : IsHistoryOf shape events replies ledgers history) (a b : world.Array) (leads : LeadsAll a history b)
  where
    -- the request of an entry stands in the order
    entry-stands : (n : ℕ) → n < shape.shards → (event : ℕ) (o : Op) (answer : Reply) → slice_get events event ≡ Some (Request o)
        → slice_get replies event ≡ Some (reply.Replied answer) → reply_of answer ≢ ArrayFailed → (x : HasEntry (ledgers n) event)
        → IsIn (n, entry x.e.id.0 (op_of o) (reply_of answer)) leads.order
    entry-stands n below event o answer is said ne x =
        let id = x.e.id.0 in
        let its = reply_of answer in
        let tells = told.tells n below in
        let mark = replied-there (of_shard n history) id its
        (subst (IsIn (id, its)) (sym tells.replied)
        (found-in (reply_to replies) (ledgers n).entries.items x.at x.e (id, its) x.there (reply-at replies x.e event answer x.event_is said))) in
        let stands = leads.replied n id its (in-of n (Replied id its) history mark) ne in
        let asked = of-in n (Asked id stands.0) history (leads.asked n (entry id stands.0 its) stands.1) in
        let number = numbered-op 0 (ops_in events (ledgers n).requests.items) id stands.0
        (subst (IsIn (id, stands.0)) tells.asked (asked-there (of_shard n history) id stands.0 asked)) in
        let op-is = same-op (ops_in events (ledgers n).requests.items) number.0 id stands.0 (op_of o) number.1 number.2
        (ops-at shape.block events (ledgers n).requests.items (right n below) id x.asked o x.request (ap (slice_get events) x.asked_is ∙ is)) in
        subst (λ op. IsIn (n, entry id op its) leads.order) op-is stands.1

    pub stands-for : (event : ℕ) (o : Op) (answer : Reply) → slice_get events event ≡ Some (Request o)
        → slice_get replies event ≡ Some (reply.Replied answer) → reply_of answer ≢ ArrayFailed → StandsFor shape ledgers leads.order event o answer
    stands-for event o answer is said ne =
        let n = shard_with shape (block_in o) in
        let r = answered.each event (Request o) (reply.Replied answer) is said in
        let below : n < shape.shards = shard_of-lt shape (row_of shape (block_in o)) lawful (row_of-lt shape (block_in o) lawful r.0.0) in
        let same : r.1.ledger ≡ ledgers n = Some-inj r.1.ledger (ledgers n) (sym r.1.own ∙ are n below) in
        let x = has-entry (ledgers n) event (subst (λ (y : Ledger). entries_for event y ≡ 1) same r.1.one) (entries n below) in
        record {
          id = x.e.id.0;
          asked = x.asked;
          request = x.request;
          event_is = x.asked_is;
          stands = entry-stands n below event o answer is said ne x;
        }
