-- What was answered stands among the replies, at its event.
use Rattle.std.proofs.Common.{◌≡◌, ◌∙◌, ℕ, ◌+◌, ◌<◌, nat_lt, List, length, map, inl, inr, true, Bool, refl, sym, ap, arith, Option, Some, None, option_map, option_and_then, slice_get, if◌then◌else◌}
use Rattle.std.specs.List.{range_with_len}
use Rattle.std.proofs.lemmas.Bool.{cases_eq, cases_lt}
use Rattle.std.proofs.lemmas.Bool.Decides.{nat_tests}
use Rattle.std.proofs.lemmas.Option.{slice_get-map, slice_get_within}
use Rattle.r6_layout.specs.Shape.{Shape, blocks}
use Rattle.r6_world.specs.PlainArray.{block_of}
use Rattle.r6_world.specs.Values.{op_of}
use Rattle.r6_engine.specs.lists.Events.{Event, Request, Bring, Fail, Check, Repair, Wait, Serves, duty_of}
use Rattle.r6_shard.specs.declared.ledger.Entry.{Entry}
use Rattle.r6_shard.specs.declared.performs.Performs.{Ghosts}
use Rattle.r6_engine.specs.declared.feed.answer.EventAnswer.{EventAnswer}
use Rattle.r6_engine.specs.feed.Feeds.{asked_before, asked_in, asking_at, asking_of}
use Rattle.r6_engine.specs.feed.Feeds as feeds
use Rattle.r6_engine.specs.declared.runner.runner.Runner.{Runner}
use Rattle.r6_engine.specs.declared.reply.EventReply.{EventReply}
use Rattle.r6_engine.specs.declared.reply.EventReply.TheVariants.{Waited, Replied}
use Rattle.r6_engine.specs.Answered.{block_in, shard_with}
use Rattle.r6_engine.specs.Refusals.{WasRight, WereRight}
use Rattle.r6_engine.specs.Replies.{replies_of, reply_of_answer, said_of_answer, said_of_entry}
use Rattle.r6_engine.proofs.Answered.{at, at-event, entry-replies, no-block, often, other-block, picked-at, silent, stands-mapped, table-long, thread}
use Rattle.r6_engine.proofs.EachShard.{all_at, here_at}
use Rattle.r6_engine.proofs.Known.{is_of, is-of, known, one-known, some-times, times}
use Rattle.r6_engine.proofs.Numbered.{weigh}
use Rattle.r6_engine.proofs.Replied.{HasAsked, IsLinked}
use Rattle.r6_engine.proofs.Says.{HasSaid, answer-number, asks_of, no-shard, scrubs_of}

-- no shard has a part of what the calling thread answers
quiet : (shape : Shape) (ev : Event) (asking : feeds.Asking) → asking_of shape ev ≡ Some asking → (k : ℕ)
    → asks_of (duty_of shape k ev) + scrubs_of (duty_of shape k ev) ≡ 0
quiet shape (Request o) asking is k = elim (cases_lt (block_of (op_of o)) (blocks shape)) [
  | inl below ↦
      let within : nat_lt (block_of (op_of o)) (blocks shape) ≡ true = grind (arith, nat_tests) in
      let none : None ≡ Some asking = sym (ap (λ (b : Bool). if b then None else Some feeds.NoBlock) within) ∙ is in cc
  | inr past ↦
      ap (λ (b : Bool). asks_of (if b then Some (Serves o) else None) + scrubs_of (if b then Some (Serves o) else None))
      (no-block shape k (block_of (op_of o)) past)
]
quiet shape (Bring how slot part) asking is k = refl
quiet shape (Fail slot) asking is k = refl
quiet shape Check asking is k = cc
quiet shape Repair asking is k = cc
quiet shape Wait asking is k = cc

module _ {P D : Type 0} {g : Ghosts P} (shape : Shape) (events : List Event) (runners : List (Runner P D g)) (answers : List EventAnswer)
    (said : (shard : ℕ) (r : Runner P D g) → slice_get runners shard ≡ Some r → HasSaid shape shard events r)
    (asked : map asked_in answers ≡ asked_before shape events (length events)) where
  stands-at : (event : ℕ) (answer : EventReply) → event < length events → at shape events runners answers said asked event ≡ answer
      → slice_get (replies_of (length events) runners answers) event ≡ Some answer
  stands-at event answer below is =
      let long = table-long shape events runners answers said asked in
      here_at (replies_of (length events) runners answers) event Waited (omega (arith, below, long)) ∙ ap Some is

  -- what a shard answered
  pub entry-stands : (k : ℕ) (r : Runner P D g) → slice_get runners k ≡ Some r → IsLinked r.shard.asked.items r.shard.entries.items
      → WereRight shape.block events r.shard.asked.items → (i : ℕ) (e : Entry) → slice_get r.shard.entries.items i ≡ Some e
      → slice_get (replies_of (length events) runners answers) e.event ≡ Some (Replied e.reply)
  entry-stands k r there linked right i e stands =
      let asked-it = all_at (HasAsked r.shard.asked.items) r.shard.entries.items i e linked stands in
      let was = all_at (WasRight shape.block events) r.shard.asked.items e.id.0 asked-it.0 right asked-it.1 in
      let o = was.0 in
      let is : slice_get events e.event ≡ Some (Request o) = ap (slice_get events) (sym asked-it.2) ∙ was.1 in
      let sum = (often shape events runners answers said asked e.event k r (Request o) is there).requests in
      let some = some-times e.event (map said_of_entry r.shard.entries.items) i (Replied e.reply)
      (stands-mapped said_of_entry r.shard.entries.items i e stands) in
      stands-at e.event (Replied e.reply) (slice_get_within events e.event (Request o) is)
      (elim (cases_lt (block_in o) (blocks shape)) [
        | inl below ↦ elim (cases_eq k (shard_with shape (block_in o))) [
          | inl same ↦
              entry-replies shape events runners answers said asked e.event o is below r
              (ap (slice_get runners) (sym same) ∙ there) i e stands refl
          | inr ne ↦
              let none : asks_of (duty_of shape k (Request o)) ≡ 0 =
              ap (λ (b : Bool). asks_of (if b then Some (Serves o) else None)) (other-block shape k (block_in o) ne) in
              absurd (omega (arith, sum, some, none))
        ]
        | inr past ↦
            let none : asks_of (duty_of shape k (Request o)) ≡ 0 =
            ap (λ (b : Bool). asks_of (if b then Some (Serves o) else None)) (no-block shape k (block_in o) past) in
            absurd (omega (arith, sum, some, none))
      ])

  -- what the calling thread answered
  pub answer-stands : (i : ℕ) (a : EventAnswer) → slice_get answers i ≡ Some a
      → slice_get (replies_of (length events) runners answers) a.event ≡ Some (reply_of_answer a.outcome)
  answer-stands i a stands =
      let there : slice_get (asked_before shape events (length events)) i ≡ Some (asked_in a) =
      ap (λ all. slice_get all i) (sym asked) ∙ slice_get-map asked_in answers i ∙ ap (option_map asked_in) stands in
      let picked = picked-at (asking_at shape events) (range_with_len 0 (length events)) i (asked_in a) there in
      let number : a.event ≡ picked.0 = answer-number shape events picked.0 (asked_in a) picked.1 in
      by-event (slice_get events a.event) refl (ap (asking_at shape events) number ∙ picked.1)
    where
      told : List (ℕ × EventReply)
      told = map said_of_answer answers

      by-asking : (ev : Event) → slice_get events a.event ≡ Some ev → (o : Option feeds.Asking) → asking_of shape ev ≡ o
          → option_map (λ asking. (a.event, asking)) o ≡ Some (asked_in a)
          → slice_get (replies_of (length events) runners answers) a.event ≡ Some (reply_of_answer a.outcome)
      by-asking ev is None asks mine = cc
      by-asking ev is (Some asking) asks mine =
          let one : times a.event told ≡ 1 =
          thread shape events runners answers said asked a.event ev is
          ∙ ap (λ o. weigh (λ (q : ℕ × feeds.Asking). is_of a.event q.0) (option_map (λ asking. (a.event, asking)) o)) asks
          ∙ is-of a.event a.event refl in
          stands-at a.event (reply_of_answer a.outcome) (slice_get_within events a.event ev is)
          (at-event shape events runners answers said asked a.event (slice_get_within events a.event ev is)
          ∙ ap (λ r. known a.event r told)
          (no-shard a.event Waited runners (silent shape events runners answers said asked a.event ev is (quiet shape ev asking asks)))
          ∙ one-known a.event Waited (reply_of_answer a.outcome) told i one (stands-mapped said_of_answer answers i a stands))

      by-event : (o : Option Event) → slice_get events a.event ≡ o
          → option_map (λ asking. (a.event, asking)) (option_and_then (asking_of shape) o) ≡ Some (asked_in a)
          → slice_get (replies_of (length events) runners answers) a.event ≡ Some (reply_of_answer a.outcome)
      by-event None is mine = cc
      by-event (Some ev) is mine = by-asking ev is (asking_of shape ev) refl mine
