-- What was put into the queues, as events are handed out.
use Rattle.std.proofs.Common.{◌≡◌, ◌≢◌, ℕ, zero, suc, ◌+◌, ◌-◌, ◌<◌, nat_lt, if◌then◌else◌, List, [], ◌∷◌, length, ◌++◌, take, filter_map, Option, Some, None, true, false, option_map, option_and_then, slice_get, get_or, set, inl, inr, sym, subst, ◌∙◌, ap, arith}
use Rattle.std.specs.List.{range_with_len, cons_option}
use Rattle.std.proofs.lemmas.Option.{slice_get_within}
use Rattle.std.proofs.lemmas.List.{append-nil, map-append, get_or-set_same, get_or-set_other, length-set}
use Rattle.std.proofs.lemmas.List.Elements.{filter_map-append}
use Rattle.std.proofs.lemmas.Bool.Decides.{nat_tests}
use Rattle.std.proofs.lemmas.Bool.{cases_eq, lt-ltb}
use Rattle.std.proofs.Math.Seq.{take-append_seam}
use Rattle.r6_layout.specs.Shape.{Shape}
use Rattle.r6_engine.specs.declared.lists.item.Item.{Item}
use Rattle.r6_engine.specs.declared.lists.producer.Producer.{Producer}
use Rattle.r6_engine.specs.declared.lists.queue.Queue.{Queue}
use Rattle.r6_engine.specs.lists.Events.{Event, Duty, duty_of, Task, task, task_at, tasks_of, waits_before, numbers_of}
use Rattle.r6_engine.specs.lists.Queues.{IsNext, IsProducerIn, has_ended, put_by}
use Rattle.r6_engine.specs.feed.Feeds.{tasks_before, HasPut, AreAt}

-- ---- the tasks of a shard, event by event

pub range_more : (a n : ℕ) → range_with_len a (suc n) ≡ range_with_len a n ++ (a + n) ∷ []
range_more a zero =
    let here : a ≡ a + zero = search arith in
    ap (λ k. k ∷ []) here
range_more a (suc n) =
    let next : a + 1 + n ≡ a + suc n = search arith in
    ap (λ ks. a ∷ ks) (range_more (a + 1) n ∙ ap (λ k. range_with_len (a + 1) n ++ k ∷ []) next)

range-split : (a m n : ℕ) → range_with_len a (m + n) ≡ range_with_len a m ++ range_with_len (a + m) n
range-split a zero n =
    let none : zero + n ≡ n = search arith in
    let here : a ≡ a + zero = search arith in
    ap (range_with_len a) none ∙ ap (λ b. range_with_len b n) here
range-split a (suc m) n =
    let more : suc m + n ≡ suc (m + n) = search arith in
    let next : a + 1 + m ≡ a + suc m = search arith in
    ap (range_with_len a) more
    ∙ ap (λ ks. a ∷ ks) (range-split (a + 1) m n ∙ ap (λ b. range_with_len (a + 1) m ++ range_with_len b n) next)

-- the event of a number, and what a shard is handed of it
pub task_is : (shape : Shape) (shard : ℕ) (events : List Event) (number : ℕ) (event : Event) (duty : Option Duty)
    → slice_get events number ≡ Some event → duty_of shape shard event ≡ duty
    → task_at shape shard events number ≡ option_map (task number (waits_before events number)) duty
task_is shape shard events number event duty at is =
    ap (λ e. option_map (task number (waits_before events number)) (option_and_then (duty_of shape shard) e)) at
    ∙ ap (option_map (task number (waits_before events number))) is

pub duty_is : (shape : Shape) (shard : ℕ) (events : List Event) (number : ℕ) (event : Event) (duty : Duty)
    → slice_get events number ≡ Some event → duty_of shape shard event ≡ Some duty
    → task_at shape shard events number ≡ Some (task number (waits_before events number) duty)
duty_is shape shard events number event duty at is = task_is shape shard events number event (Some duty) at is

-- one event more
pub tasks_more : (shape : Shape) (shard : ℕ) (events : List Event) (number : ℕ)
    → tasks_before shape shard events (number + 1)
    ≡ tasks_before shape shard events number ++ cons_option (task_at shape shard events number) []
tasks_more shape shard events number =
    let more : number + 1 ≡ suc number = search arith in
    let here : 0 + number ≡ number = search arith in
    ap (tasks_before shape shard events) more
    ∙ ap (filter_map (task_at shape shard events)) (range_more 0 number)
    ∙ filter_map-append (task_at shape shard events) (range_with_len 0 number) ((0 + number) ∷ [])
    ∙ ap (λ n. tasks_before shape shard events number ++ filter_map (task_at shape shard events) (n ∷ [])) here

abbrev tasks_after : Shape → (shard : ℕ) → List Event → (number : ℕ) → List Task
tasks_after shape shard events number = filter_map (task_at shape shard events) (range_with_len number (length events - number))

tasks_split : (shape : Shape) (shard : ℕ) (events : List Event) (number : ℕ) (t : Task) → number < length events
    → task_at shape shard events number ≡ Some t
    → tasks_of shape shard events ≡ tasks_before shape shard events number ++ t ∷ tasks_after shape shard events (number + 1)
tasks_split shape shard events number t within due =
    let whole : length events ≡ number + (length events - number) = omega (arith, within) in
    let from : 0 + number ≡ number = search arith in
    let next : length events - number ≡ suc (length events - (number + 1)) = omega (arith, within) in
    let f = task_at shape shard events in
    ap (λ n. filter_map f (range_with_len 0 n)) whole
    ∙ ap (filter_map f) (range-split 0 number (length events - number))
    ∙ filter_map-append f (range_with_len 0 number) (range_with_len (0 + number) (length events - number))
    ∙ ap (λ n. tasks_before shape shard events number ++ filter_map f (range_with_len n (length events - number))) from
    ∙ ap (λ n. tasks_before shape shard events number ++ filter_map f (range_with_len number n)) next
    ∙ ap (λ o. tasks_before shape shard events number ++ cons_option o (tasks_after shape shard events (number + 1))) due

-- ---- what is true of each producer, by its shard and by how many events it is behind

-- the shards below this one were handed their parts of the event
abbrev pub next_below : (shard number : ℕ) → ℕ → ℕ
next_below shard number s = if nat_lt s shard then number + 1 else number

pub below_one : (shard number : ℕ) → next_below shard number shard ≡ number
below_one shard number =
    let not : nat_lt shard shard ≡ false = grind (arith, nat_tests) in
    ap (λ b. if b then number + 1 else number) not

pub none_below : (number other : ℕ) → next_below 0 number other ≡ number
none_below number other =
    let not : nat_lt other 0 ≡ false = grind (arith, nat_tests) in
    ap (λ b. if b then number + 1 else number) not

pub below_all : (shard number other : ℕ) → other < shard → next_below shard number other ≡ number + 1
below_all shard number other below = ap (λ b. if b then number + 1 else number) (lt-ltb other shard below)

below_next : (shard number : ℕ) → next_below (shard + 1) number shard ≡ number + 1
below_next shard number =
    let yes : nat_lt shard (shard + 1) ≡ true = grind (arith, nat_tests) in
    ap (λ b. if b then number + 1 else number) yes

below_other : (shard number other : ℕ) → other ≢ shard → next_below shard number other ≡ next_below (shard + 1) number other
below_other shard number other not =
    let same : nat_lt other shard ≡ nat_lt other (shard + 1) = grind (arith, nat_tests, not) in
    ap (λ b. if b then number + 1 else number) same

module _ {P : Type 0} (Q : (shard number : ℕ) → P → Type 0) where
  abbrev pub Each : List P → (from : ℕ → ℕ) → Type 0
  Each producers from = (shard : ℕ) (p : P) → shard < length producers → Q shard (from shard) (get_or producers shard p)

  pub each-set : (producers : List P) (from next : ℕ → ℕ) (shard : ℕ) (p' : P) → Each producers from → shard < length producers
      → Q shard (next shard) p' → ((other : ℕ) (p : P) → other ≢ shard → Q other (from other) p → Q other (next other) p)
      → Each (set producers shard p') next
  each-set producers from next shard p' each below now others other d in-set =
      let long : length (set producers shard p') ≡ length producers = length-set producers shard p' in
      elim (cases_eq other shard) [
        | inl same ↦
            subst (λ k. Q k (next k) (get_or (set producers shard p') k d)) (sym same)
            (subst (Q shard (next shard)) (sym (get_or-set_same producers shard p' d below)) now)
        | inr not ↦
            subst (Q other (next other)) (sym (get_or-set_other producers shard other p' d not))
            (others other _ not (each other d (omega (arith, long, in-set))))
      ]

  pub each-first : (producers : List P) (number : ℕ) → Each producers (λ s. number) → Each producers (next_below 0 number)
  each-first producers number each shard p below = subst (λ n. Q shard n (get_or producers shard p)) (sym (none_below number shard)) (each shard p below)

  -- the producer whose turn it is
  pub its-turn : (producers : List P) (shard number : ℕ) (p : P) → Each producers (next_below shard number) → shard < length producers
      → p ≡ get_or producers shard p → Q shard number p
  its-turn producers shard number p each below is =
      subst (λ n. Q shard n p) (below_one shard number) (subst (Q shard (next_below shard number shard)) (sym is) (each shard p below))

  pub each-next : (producers : List P) (shard number : ℕ) (p' : P) → Each producers (next_below shard number) → shard < length producers
      → Q shard (number + 1) p' → Each (set producers shard p') (next_below (shard + 1) number)
  each-next producers shard number p' each below now =
      each-set producers (next_below shard number) (next_below (shard + 1) number) shard p' each below
      (subst (λ n. Q shard n p') (sym (below_next shard number)) now)
      (λ other p not q. subst (λ n. Q other n p) (below_other shard number other not) q)

  pub each-last : (producers : List P) (shards number : ℕ) → length producers ≡ shards → Each producers (next_below shards number)
      → Each producers (λ s. number + 1)
  each-last producers shards number many each shard p below =
      subst (λ n. Q shard n (get_or producers shard p)) (below_all shards number shard (omega (arith, below, many))) (each shard p below)

-- ---- what each put in

pub among : {P : Type 0} (shard : ℕ) (shape : Shape) (producers : List P) → length producers ≡ shape.shards
    → shard < shape.shards → shard < length producers
among shard shape producers long below = omega (arith, long, below)

pub among_parts : (shard yielded parts shards producers : ℕ) → shard ≡ yielded → yielded < parts → parts ≡ shards
    → producers ≡ shards → shard < producers
among_parts shard yielded parts shards producers is turn whole all = omega (arith, is, turn, whole, all)

module _ {L D : Type 0} {l : _} {d : _} (shape : Shape) (events : List Event) (queues : List (Queue L D l d)) where
  pub at-shard : (number : ℕ) (producers : List (Producer L D l d)) (shard : ℕ) (p : Producer L D l d) → AreAt shape events queues number producers
      → shard < length producers → p ≡ get_or producers shard p → HasPut shape events queues shard number p
  at-shard number producers shard p at below is = subst (HasPut shape events queues shard number) (sym is) (at.each shard p below)

  -- the shard has no part of the event
  pub put-none : (shard number : ℕ) (p : Producer L D l d) → task_at shape shard events number ≡ None
      → HasPut shape events queues shard number p → HasPut shape events queues shard (number + 1) p
  put-none shard number p none has =
      let same : tasks_before shape shard events (number + 1) ≡ tasks_before shape shard events number =
      tasks_more shape shard events number
      ∙ ap (λ o. tasks_before shape shard events number ++ cons_option o []) none
      ∙ append-nil (tasks_before shape shard events number) in
      record { at = has.at; of_shard = has.of_shard; put = has.put ∙ ap numbers_of (sym same); open_yet = has.open_yet }

  -- it has one, which is the next to be put in
  pub is-next : (shard number : ℕ) (event : Event) (duty : Duty) (p : Producer L D l d) (item : Item L D l d)
      → HasPut shape events queues shard number p → slice_get events number ≡ Some event → duty_of shape shard event ≡ Some duty
      → item.shard ≡ shard → item.number ≡ number → IsNext shape events p item
  is-next shard number event duty p item has at due own is =
      let within = slice_get_within events number event at in
      let t = duty_is shape shard events number event duty at due in
      let rest = numbers_of (tasks_after shape shard events (number + 1)) in
      let all : numbers_of (tasks_of shape shard events) ≡ put_by p ++ number ∷ rest =
      ap numbers_of (tasks_split shape shard events number (task number (waits_before events number) duty) within t)
      ∙ map-append (λ (t : Task). t.number) (tasks_before shape shard events number)
      (task number (waits_before events number) duty ∷ tasks_after shape shard events (number + 1))
      ∙ ap (λ ns. ns ++ number ∷ rest) (sym has.put) in (
        own ∙ sym has.of_shard,
        rest,
        ap (λ s. numbers_of (tasks_of shape s events)) has.of_shard ∙ all ∙ ap (λ n. put_by p ++ n ∷ rest) (sym is),
      )

  pub put-one : (shard number : ℕ) (event : Event) (duty : Duty) (p p' : Producer L D l d) (put : ℕ)
      → HasPut shape events queues shard number p → slice_get events number ≡ Some event → duty_of shape shard event ≡ Some duty
      → put ≡ number → IsProducerIn shape events queues p' → put_by p' ≡ put_by p ++ put ∷ []
      → (p'.shard ≡ p.shard) × (has_ended p' ≡ false) → HasPut shape events queues shard (number + 1) p'
  put-one shard number event duty p p' put has at due is in-queue more same =
      let one = task number (waits_before events number) duty in
      let longer : tasks_before shape shard events (number + 1) ≡ tasks_before shape shard events number ++ one ∷ [] =
      tasks_more shape shard events number
      ∙ ap (λ o. tasks_before shape shard events number ++ cons_option o []) (duty_is shape shard events number event duty at due) in
      record {
        at = in-queue;
        of_shard = same.0 ∙ has.of_shard;
        put = more
            ∙ ap (λ n. put_by p ++ n ∷ []) is
            ∙ ap (λ ns. ns ++ number ∷ []) has.put
            ∙ sym (map-append (λ (t : Task). t.number) (tasks_before shape shard events number) (one ∷ []))
            ∙ ap numbers_of (sym longer);
        open_yet = same.1;
      }

  -- an event of which no shard is handed anything
  pub skipped : (number : ℕ) (event : Event) (producers : List (Producer L D l d)) → AreAt shape events queues number producers
      → slice_get events number ≡ Some event → ((shard : ℕ) → duty_of shape shard event ≡ None)
      → AreAt shape events queues (number + 1) producers
  skipped number event producers was at none = record {
    shards = was.shards;
    each = λ shard p below. put-none shard number _ (task_is shape shard events number event None at (none shard)) (was.each shard p below);
  }

  -- an event of which one shard is handed a part
  pub handed_one : (number : ℕ) (event : Event) (duty : Duty) (producers : List (Producer L D l d)) (shard : ℕ) (p' : Producer L D l d)
      → AreAt shape events queues number producers → slice_get events number ≡ Some event
      → ((other : ℕ) → other ≢ shard → duty_of shape other event ≡ None) → shard < length producers
      → HasPut shape events queues shard (number + 1) p' → AreAt shape events queues (number + 1) (set producers shard p')
  handed_one number event duty producers shard p' was at none below now = record {
    shards = length-set producers shard p' ∙ was.shards;
    each = each-set (HasPut shape events queues) producers (λ s. number) (λ s. number + 1) shard p' was.each below now
        (λ other p not has. put-none other number p (task_is shape other events number event None at (none other not)) has);
  }

  -- as the front of a list that is as long
  pub at_front : (number : ℕ) (producers rest : List (Producer L D l d)) (len : ℕ) → len ≡ shape.shards
      → AreAt shape events queues number producers → AreAt shape events queues number (take len (producers ++ rest))
  at_front number producers rest len many at =
      let front : take len (producers ++ rest) ≡ producers =
      ap (λ n. take n (producers ++ rest)) (many ∙ sym at.shards) ∙ take-append_seam producers rest in
      subst (AreAt shape events queues number) (sym front) at

  -- ---- the end

  -- at first all is put in, then the end
  abbrev pub IsEnding : (shard number : ℕ) → Producer L D l d → Type 0
  IsEnding shard zero p = HasPut shape events queues shard (length events) p
  IsEnding shard (suc number) p = has_ended p ≡ true
