-- What each event was answered, from how often something was said of it.
use Rattle.std.proofs.Common.{◌≡◌, ◌≢◌, ◌∙◌, ℕ, ◌+◌, ◌<◌, ◌≤◌, ◌==◌, ◌&&◌, ◌⊎◌, nat_lt, List, [], ◌∷◌, ◌++◌, length, map, replicate, zero, suc, Bool, true, false, inl, inr, refl, sym, ap, subst, arith, Option, Some, None, option_map, option_and_then, slice_get, slice_index_or, if◌then◌else◌}
use Rattle.std.specs.List.{cons_option, range_with_len, filter_map}
use Rattle.std.proofs.lemmas.Bool.{cases_lt, eq-eqb, ne_eqb}
use Rattle.std.proofs.lemmas.Bool.Decides.{nat_tests}
use Rattle.std.proofs.lemmas.List.{get_or-replicate, length-replicate}
use Rattle.std.proofs.lemmas.List.Sums.{sum_by-append}
use Rattle.std.proofs.lemmas.Option.{none-some, slice_get-map, slice_get_within}
use Rattle.r6_core.specs.declared.refusal.Refusal.{Refusal}
use Rattle.r6_layout.specs.Shape.{Shape, blocks}
use Rattle.r6_world.specs.declared.values.Op.{Op}
use Rattle.r6_engine.specs.lists.Events.{Event, Request, Serves, is_block_of, duty_of}
use Rattle.r6_shard.specs.declared.ledger.Entry.{Entry}
use Rattle.r6_shard.specs.declared.performs.Performs.{Ghosts}
use Rattle.r6_engine.specs.declared.feed.answer.EventAnswer.{EventAnswer}
use Rattle.r6_engine.specs.feed.Feeds.{asked_before, asked_in, asking_at, asking_of}
use Rattle.r6_engine.specs.feed.Feeds as feeds
use Rattle.r6_engine.specs.declared.runner.scrub.ScrubDone.{ScrubDone}
use Rattle.r6_engine.specs.declared.runner.runner.Runner.{Runner}
use Rattle.r6_engine.specs.declared.reply.EventReply.{EventReply}
use Rattle.r6_engine.specs.declared.reply.EventReply.TheVariants as reply
use Rattle.r6_engine.specs.declared.reply.EventReply.TheVariants.{Waited, Replied, Refused}
use Rattle.r6_engine.specs.Answered.{block_in, shard_with}
use Rattle.r6_engine.specs.Found.{found_in}
use Rattle.r6_engine.specs.Replies.{Said, known_with, replies_of, reply_of_answer, said_by, said_by_all, said_of_answer, said_of_entry, said_of_scrub, said_of_refusal, with_all}
use Rattle.r6_engine.proofs.EachShard.{mapped_at, some_same}
use Rattle.r6_engine.proofs.Known.{found-time, is_of, is-of, known, known-at, known-both, none-known, one-known, some-times, times}
use Rattle.r6_engine.proofs.Numbered.{weigh}
use Rattle.r6_engine.proofs.Saying.{as_many}
use Rattle.r6_engine.proofs.Says.{HasSaid, answer-number, SaysOften, asks_of, no-shard, one-shard, scrubs_of, says-often, thread-says}

-- ---- which shard has a request

and-false : (a : Bool) → (a && false) ≡ false
and-false true = refl
and-false false = refl

pub own-block : (shape : Shape) (block : ℕ) → block < blocks shape → is_block_of shape (shard_with shape block) block ≡ true
own-block shape block below =
    let within : nat_lt block (blocks shape) ≡ true = grind (arith, nat_tests) in
    ap (λ b. b && (shard_with shape block == shard_with shape block)) within ∙ eq-eqb (shard_with shape block) (shard_with shape block) refl

pub other-block : (shape : Shape) (shard block : ℕ) → shard ≢ shard_with shape block → is_block_of shape shard block ≡ false
other-block shape shard block ne =
    ap (λ b. nat_lt block (blocks shape) && b) (ne_eqb (shard_with shape block) shard (λ same. ne (sym same))) ∙ and-false (nat_lt block (blocks shape))

pub no-block : (shape : Shape) (shard block : ℕ) → blocks shape ≤ block → is_block_of shape shard block ≡ false
no-block shape shard block past =
    let out : nat_lt block (blocks shape) ≡ false = grind (arith, nat_tests) in
    ap (λ b. b && (shard_with shape block == shard)) out

-- what stands among those that are picked was picked of some number
picked-cons : {A : Type 0} (n : ℕ) (pick : ℕ → Option A) (o : Option A) (rest : List A)
    → ((k : ℕ) (a : A) → slice_get rest k ≡ Some a → (n : ℕ) × (pick n ≡ Some a)) → pick n ≡ o
    → (k : ℕ) (a : A) → slice_get (cons_option o rest) k ≡ Some a → (n : ℕ) × (pick n ≡ Some a)
picked-cons n pick None rest later is k a stands = later k a stands
picked-cons n pick (Some b) rest later is zero a stands = (n, is ∙ stands)
picked-cons n pick (Some b) rest later is (suc k) a stands = later k a stands

pub picked-at : {A : Type 0} (pick : ℕ → Option A) (numbers : List ℕ) (k : ℕ) (a : A) → slice_get (filter_map pick numbers) k ≡ Some a
    → (n : ℕ) × (pick n ≡ Some a)
picked-at pick [] k a stands = absurd (none-some a stands)
picked-at pick (n ∷ numbers) k a stands =
    picked-cons n pick (pick n) (filter_map pick numbers) (picked-at pick numbers) refl k a stands

-- ---- a table of what was said

pub stands-mapped : {X : Type 0} (g : X → Said) (xs : List X) (k : ℕ) (x : X) → slice_get xs k ≡ Some x → slice_get (map g xs) k ≡ Some (g x)
stands-mapped g xs k x at = slice_get-map g xs k ∙ ap (option_map g) at

both-none : (event : ℕ) (xs ys : List Said) → times event xs ≡ 0 → times event ys ≡ 0 → times event (xs ++ ys) ≡ 0
both-none event xs ys none none' =
    let both = sum_by-append (λ (s : Said). is_of event s.0) xs ys in omega (arith, both, none, none')

-- a shard refused the request of this event
pub record IsRefusal {P D : Type 0} {g : Ghosts P} (event : ℕ) (r : Runner P D g) (answer : EventReply) : Type 0 where
  pub k : ℕ
  pub refused : ℕ × Refusal
  pub stands : slice_get r.refused.items k ≡ Some refused
  pub event_is : refused.0 ≡ event
  pub none : times event (map said_of_entry r.shard.entries.items) ≡ 0
  pub reply : answer ≡ Refused refused.1

-- or answered it
pub record IsEntry {P D : Type 0} {g : Ghosts P} (event : ℕ) (r : Runner P D g) (answer : EventReply) : Type 0 where
  pub k : ℕ
  pub entry : Entry
  pub stands : slice_get r.shard.entries.items k ≡ Some entry
  pub event_is : entry.event ≡ event
  pub one : times event (map said_of_entry r.shard.entries.items) ≡ 1
  pub reply : answer ≡ Replied entry.reply

abbrev pub IsRefusedOrAnswered : {P D : Type 0} {g : Ghosts P} → (event : ℕ) → Runner P D g → EventReply → Type 0
IsRefusedOrAnswered event r answer = IsRefusal event r answer ⊎ IsEntry event r answer

module _ {P D : Type 0} {g : Ghosts P} (shape : Shape) (events : List Event) (runners : List (Runner P D g)) (answers : List EventAnswer)
    (said : (shard : ℕ) (r : Runner P D g) → slice_get runners shard ≡ Some r → HasSaid shape shard events r)
    (asked : map asked_in answers ≡ asked_before shape events (length events)) where
  abbrev pub table : List EventReply
  table = replies_of (length events) runners answers

  abbrev pub at : ℕ → EventReply
  at event = slice_index_or table event Waited

  pub table-long : length table ≡ length events
  table-long =
      as_many (with_all (replicate (length events) Waited) (said_by_all runners)) (map said_of_answer answers)
      ∙ as_many (replicate (length events) Waited) (said_by_all runners) ∙ length-replicate (length events) Waited

  pub at-event : (event : ℕ) → event < length events
      → at event ≡ known event (known event Waited (said_by_all runners)) (map said_of_answer answers)
  at-event event below =
      let fresh = replicate (length events) Waited in
      let long : length fresh ≡ length events = length-replicate (length events) Waited in
      let more : length (with_all fresh (said_by_all runners)) ≡ length fresh = as_many fresh (said_by_all runners) in
      known-at (with_all fresh (said_by_all runners)) (map said_of_answer answers) event (omega (arith, long, more, below))
      ∙ ap (λ r. known event r (map said_of_answer answers))
      (known-at fresh (said_by_all runners) event (omega (arith, long, below))
      ∙ ap (λ r. known event r (said_by_all runners)) (get_or-replicate (length events) event Waited Waited below))

  pub often : (event k : ℕ) (r : Runner P D g) (asked_event : Event) → slice_get events event ≡ Some asked_event → slice_get runners k ≡ Some r
      → SaysOften event (duty_of shape k asked_event) r
  often event k r ev is there =
      subst (λ o. SaysOften event o r) (ap (option_and_then (duty_of shape k)) is)
      (says-often shape k events r event (slice_get_within events event ev is) (said k r there))

  pub thread : (event : ℕ) (ev : Event) → slice_get events event ≡ Some ev
      → times event (map said_of_answer answers)
      ≡ weigh (λ (q : ℕ × feeds.Asking). is_of event q.0) (option_map (λ asking. (event, asking)) (asking_of shape ev))
  thread event ev is =
      thread-says shape events answers event (slice_get_within events event ev is) asked
      ∙ ap (λ o. weigh (λ (q : ℕ × feeds.Asking). is_of event q.0) (option_map (λ asking. (event, asking)) (option_and_then (asking_of shape) o))) is

  -- ---- a request for a block of the array

  module _ (event : ℕ) (o : Op) (is : slice_get events event ≡ Some (Request o)) (within : block_in o < blocks shape) where
    others-silent : (k : ℕ) (other : Runner P D g) → slice_get runners k ≡ Some other → k ≢ shard_with shape (block_in o)
        → times event (said_by other) ≡ 0
    others-silent k other there ne =
        (often event k other (Request o) is there).all
        ∙ ap (λ b. asks_of (if b then Some (Serves o) else None) + scrubs_of (if b then Some (Serves o) else None)) (other-block shape k (block_in o) ne)

    pub own-often : (r : Runner P D g) → slice_get runners (shard_with shape (block_in o)) ≡ Some r → SaysOften event (Some (Serves o)) r
    own-often r there =
        subst (λ b. SaysOften event (if b then Some (Serves o) else None) r) (own-block shape (block_in o) within)
        (often event (shard_with shape (block_in o)) r (Request o) is there)

    thread-silent : times event (map said_of_answer answers) ≡ 0
    thread-silent =
        let below : nat_lt (block_in o) (blocks shape) ≡ true = grind (arith, nat_tests) in
        thread event (Request o) is
        ∙ ap (λ b. weigh (λ (q : ℕ × feeds.Asking). is_of event q.0) (option_map (λ asking. (event, asking)) (if b then None else Some feeds.NoBlock))) below

    -- what its shard said of it alone counts
    by-shard : (r : Runner P D g) → slice_get runners (shard_with shape (block_in o)) ≡ Some r
        → at event ≡ known event Waited (said_by r)
    by-shard r there =
        at-event event (slice_get_within events event (Request o) is)
        ∙ none-known event (known event Waited (said_by_all runners)) (map said_of_answer answers) thread-silent
        ∙ one-shard event Waited runners (shard_with shape (block_in o)) r there others-silent

    -- an entry of it tells its reply
    pub entry-replies : (r : Runner P D g) → slice_get runners (shard_with shape (block_in o)) ≡ Some r → (k : ℕ) (e : Entry)
        → slice_get r.shard.entries.items k ≡ Some e → e.event ≡ event → at event ≡ Replied e.reply
    entry-replies r there k e stands same =
        let refused = map said_of_refusal r.refused.items in
        let passed = map said_of_scrub r.scrubs_done.items in
        let entries = map said_of_entry r.shard.entries.items in
        let x = own-often r there in
        let place : slice_get entries k ≡ Some (event, Replied e.reply) =
        stands-mapped said_of_entry r.shard.entries.items k e stands ∙ ap (λ n. Some (n, Replied e.reply)) same in
        let some = some-times event entries k (Replied e.reply) place in
        let sum = x.requests in
        let none : times event refused ≡ 0 = omega (arith, some, sum) in
        let one : times event entries ≡ 1 = omega (arith, some, sum) in
        by-shard r there
        ∙ known-both event Waited refused (passed ++ entries)
        ∙ ap (λ y. known event y (passed ++ entries)) (none-known event Waited refused none)
        ∙ known-both event Waited passed entries
        ∙ ap (λ y. known event y entries) (none-known event Waited passed x.passes)
        ∙ one-known event Waited (Replied e.reply) entries k one place

    -- it was refused or answered, and not both
    pub request-known : (r : Runner P D g) → slice_get runners (shard_with shape (block_in o)) ≡ Some r
        → IsRefusedOrAnswered event r (at event)
    request-known r there =
        let refused = map said_of_refusal r.refused.items in
        let passed = map said_of_scrub r.scrubs_done.items in
        let entries = map said_of_entry r.shard.entries.items in
        let x = own-often r there in
        let sum = x.requests in
        elim (cases_lt 0 (times event refused)) [
          | inl some ↦
              let one : times event refused ≡ 1 = omega (arith, some, sum) in
              let none : times event entries ≡ 0 = omega (arith, some, sum) in
              let found = found-time event refused (omega (arith, one)) in
              let from = mapped_at said_of_refusal r.refused.items found.0 (event, found.1) found.2 in
              let what : found.1 ≡ Refused from.0.1 = sym (ap (λ (y : Said). y.1) from.2) in
              let rest : times event (passed ++ entries) ≡ 0 = both-none event passed entries x.passes none in
              inl (record {
                k = found.0;
                refused = from.0;
                stands = from.1;
                event_is = ap (λ (y : Said). y.0) from.2;
                none = none;
                reply = by-shard r there
                    ∙ known-both event Waited refused (passed ++ entries)
                    ∙ none-known event (known event Waited refused) (passed ++ entries) rest
                    ∙ one-known event Waited found.1 refused found.0 one found.2 ∙ what;
              })
          | inr not ↦
              let none : times event refused ≡ 0 = omega (arith, not) in
              let one : times event entries ≡ 1 = omega (arith, none, sum) in
              let found = found-time event entries (omega (arith, one)) in
              let from = mapped_at said_of_entry r.shard.entries.items found.0 (event, found.1) found.2 in
              inr (record {
                k = found.0;
                entry = from.0;
                stands = from.1;
                event_is = ap (λ (y : Said). y.0) from.2;
                one = one;
                reply = entry-replies r there found.0 from.0 from.1 (ap (λ (y : Said). y.0) from.2);
              })
        ]

  -- ---- what no shard answers

  -- the calling thread answered the event by what it asks
  pub thread-answers : (event : ℕ) (ev : Event) (asking : feeds.Asking) → slice_get events event ≡ Some ev → asking_of shape ev ≡ Some asking
      → ((k : ℕ) (r : Runner P D g) → slice_get runners k ≡ Some r → times event (said_by r) ≡ 0)
      → (a : EventAnswer) × (at event ≡ reply_of_answer a.outcome) × (feeds.asking_in a.outcome ≡ asking)
  thread-answers event ev asking is asks silent =
      let said' = map said_of_answer answers in
      let one : times event said' ≡ 1 =
      thread event ev is ∙ ap (λ o. weigh (λ (q : ℕ × feeds.Asking). is_of event q.0) (option_map (λ asking. (event, asking)) o)) asks ∙ is-of event event refl in
      let found = found-time event said' (omega (arith, one)) in
      let from = mapped_at said_of_answer answers found.0 (event, found.1) found.2 in
      let a = from.0 in
      let number : a.event ≡ event = ap (λ (y : Said). y.0) from.2 in
      let there : slice_get (asked_before shape events (length events)) found.0 ≡ Some (asked_in a) =
      ap (λ all. slice_get all found.0) (sym asked) ∙ slice_get-map asked_in answers found.0 ∙ ap (option_map asked_in) from.1 in
      let picked = picked-at (asking_at shape events) (range_with_len 0 (length events)) found.0 (asked_in a) there in
      let same : picked.0 ≡ event = sym (answer-number shape events picked.0 (asked_in a) picked.1) ∙ number in
      let mine : option_map (λ asking. (event, asking)) (asking_of shape ev) ≡ Some (asked_in a) =
      ap (λ o. option_map (λ asking. (event, asking)) (option_and_then (asking_of shape) o)) (sym is)
      ∙ ap (asking_at shape events) (sym same) ∙ picked.1 in (
        a,
        at-event event (slice_get_within events event ev is)
            ∙ ap (λ r. known event r said') (no-shard event Waited runners silent)
            ∙ one-known event Waited found.1 said' found.0 one found.2
            ∙ sym (ap (λ (y : Said). y.1) from.2),
        ap (λ (y : ℕ × feeds.Asking). y.1)
            (some_same (asked_in a) (event, asking) (sym mine ∙ ap (λ o. option_map (λ asking. (event, asking)) o) asks)),
      )

  -- nobody answers a wait
  pub nobody-answers : (event : ℕ) (ev : Event) → slice_get events event ≡ Some ev → asking_of shape ev ≡ None
      → ((k : ℕ) (r : Runner P D g) → slice_get runners k ≡ Some r → times event (said_by r) ≡ 0) → at event ≡ Waited
  nobody-answers event ev is asks silent =
      let none : times event (map said_of_answer answers) ≡ 0 =
      thread event ev is ∙ ap (λ o. weigh (λ (q : ℕ × feeds.Asking). is_of event q.0) (option_map (λ asking. (event, asking)) o)) asks in
      at-event event (slice_get_within events event ev is)
      ∙ none-known event (known event Waited (said_by_all runners)) (map said_of_answer answers) none
      ∙ no-shard event Waited runners silent

  -- no shard has a part of it
  pub silent : (event : ℕ) (ev : Event) → slice_get events event ≡ Some ev
      → ((k : ℕ) → asks_of (duty_of shape k ev) + scrubs_of (duty_of shape k ev) ≡ 0)
      → (k : ℕ) (r : Runner P D g) → slice_get runners k ≡ Some r → times event (said_by r) ≡ 0
  silent event ev is none k r there = (often event k r ev is there).all ∙ none k

  -- ---- checks and repairs

  -- a shard has one pass for the event
  pub record IsPassOf (event : ℕ) (r : Runner P D g) : Type 0 where
    pub k : ℕ
    pub passed : ScrubDone
    pub stands : slice_get r.scrubs_done.items k ≡ Some passed
    pub adds : (answer : EventReply) → known event answer (said_by r) ≡ known_with answer (reply.Counted (found_in passed))

  pub one-pass : (event k : ℕ) (r : Runner P D g) (ev : Event) → slice_get events event ≡ Some ev → slice_get runners k ≡ Some r
      → asks_of (duty_of shape k ev) ≡ 0 → scrubs_of (duty_of shape k ev) ≡ 1 → IsPassOf event r
  one-pass event k r ev is there none one =
      let refused = map said_of_refusal r.refused.items in
      let passed = map said_of_scrub r.scrubs_done.items in
      let entries = map said_of_entry r.shard.entries.items in
      let x = often event k r ev is there in
      let sum = x.requests in
      let no-refused : times event refused ≡ 0 = omega (arith, sum, none) in
      let no-entries : times event entries ≡ 0 = omega (arith, sum, none) in
      let over = x.passes in
      let once : times event passed ≡ 1 = omega (arith, over, one) in
      let found = found-time event passed (omega (arith, once)) in
      let from = mapped_at said_of_scrub r.scrubs_done.items found.0 (event, found.1) found.2 in
      record {
        k = found.0;
        passed = from.0;
        stands = from.1;
        adds = λ answer.
            known-both event answer refused (passed ++ entries)
            ∙ ap (λ y. known event y (passed ++ entries)) (none-known event answer refused no-refused)
            ∙ known-both event answer passed entries
            ∙ none-known event (known event answer passed) entries no-entries
            ∙ one-known event answer found.1 passed found.0 once found.2
            ∙ ap (known_with answer) (sym (ap (λ (y : Said). y.1) from.2));
      }

  pub counted-at : (event : ℕ) (ev : Event) → slice_get events event ≡ Some ev → asking_of shape ev ≡ None
      → at event ≡ known event Waited (said_by_all runners)
  counted-at event ev is asks =
      let none : times event (map said_of_answer answers) ≡ 0 =
      thread event ev is ∙ ap (λ o. weigh (λ (q : ℕ × feeds.Asking). is_of event q.0) (option_map (λ asking. (event, asking)) o)) asks in
      at-event event (slice_get_within events event ev is)
      ∙ none-known event (known event Waited (said_by_all runners)) (map said_of_answer answers) none
