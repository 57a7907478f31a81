-- How often the shards of an array, and the calling thread, say something of an event.
use Rattle.std.proofs.Common.{◌≡◌, ◌≢◌, ◌∙◌, ℕ, ◌+◌, ◌<◌, List, [], ◌∷◌, ◌++◌, length, map, zero, suc, inl, inr, refl, sym, ap, arith, Option, Some, None, option_map, option_and_then, slice_get, sum_by}
use Rattle.std.proofs.lemmas.List.Sums.{sum_by-cons, sum_by-append}
use Rattle.std.proofs.lemmas.Option.{none-some}
use Rattle.r6_layout.specs.Shape.{Shape}
use Rattle.r6_world.specs.PlainArray as world
use Rattle.r6_core.specs.declared.refusal.Refusal.{Refusal}
use Rattle.r6_core.specs.declared.turn.Task.{Task as Scrub}
use Rattle.r6_core.specs.Shards.{CoreView}
use Rattle.r6_engine.specs.lists.Events.{Event, Duty, Serves, Takes_up, Checks, Repairs, tasks_of, numbers_of}
use Rattle.r6_shard.specs.declared.ledger.Asked.{Asked}
use Rattle.r6_shard.specs.declared.ledger.Asking.{Asking}
use Rattle.r6_shard.specs.Runs.{AreServed}
use Rattle.r6_shard.specs.declared.performs.Performs.{Ghosts}
use Rattle.r6_engine.specs.declared.feed.answer.EventAnswer.{EventAnswer}
use Rattle.r6_engine.specs.feed.Feeds.{asked_before, asked_in, asking_at, asking_of}
use Rattle.r6_engine.specs.feed.Feeds as feeds
use Rattle.r6_engine.specs.declared.runner.scrub.ScrubDone.{ScrubDone}
use Rattle.r6_engine.specs.declared.runner.runner.Runner.{Runner}
use Rattle.r6_engine.specs.runner.Tasks.{request_in, requests_in, scrub_in, scrubs_in, done_scrub}
use Rattle.r6_engine.specs.declared.reply.EventReply.{EventReply}
use Rattle.r6_engine.specs.Replies.{Said, said_by, said_by_all, said_of_answer, said_of_entry, said_of_scrub, said_of_refusal}
use Rattle.r6_engine.proofs.EachShard.{some_same}
use Rattle.r6_engine.proofs.Known.{is_of, is-of, known, known-both, none-known, times, times-map}
use Rattle.r6_engine.proofs.Numbered.{duty_at, picked-of, tasks-of, weigh}

-- ---- one shard

-- what a shard did of its tasks, once all is over
pub record HasSaid {P D : Type 0} {g : Ghosts P} (shape : Shape) (shard : ℕ) (events : List Event) (r : Runner P D g) : Type 0 where
  pub begun : List Asking
  pub ops : List world.Op
  pub requests : requests_in shape shard events (numbers_of (tasks_of shape shard events)) ≡ begun
  pub served : AreServed r.shard.core begun r.shard.asked.items ops r.refused.items
  pub passes : scrubs_in shape shard events (numbers_of (tasks_of shape shard events)) ≡ map done_scrub r.scrubs_done.items
  pub entered : (event : ℕ)
      → sum_by (λ e. is_of event e.event) r.shard.entries.items ≡ sum_by (λ a. is_of event a.event) r.shard.asked.items

served-times : (event : ℕ) (core : CoreView) (begun : List Asking) (asked : List Asked) (ops : List world.Op) (refused : List (ℕ × Refusal))
    → AreServed core begun asked ops refused
    → sum_by (λ (r : ℕ × Refusal). is_of event r.0) refused + sum_by (λ (a : Asked). is_of event a.event) asked
    ≡ sum_by (λ (g : Asking). is_of event g.event) begun
served-times event core [] asked ops refused x =
    let none = ap (sum_by (λ (r : ℕ × Refusal). is_of event r.0)) x.2 in
    let none' = ap (sum_by (λ (a : Asked). is_of event a.event)) x.0 in
    omega (arith, none, none')
served-times event core (g ∷ begun) asked ops refused x =
    let mine = sum_by-cons (λ (g : Asking). is_of event g.event) g begun in
    elim x [
      | inl p ↦
          let rest = served-times event core begun p.1 p.2 refused p.8 in
          let both = ap (sum_by (λ (a : Asked). is_of event a.event)) p.3 ∙ sum_by-cons (λ (a : Asked). is_of event a.event) p.0 p.1 in
          let same : is_of event p.0.event ≡ is_of event g.event = ap (is_of event) p.4 in
          omega (arith, rest, both, mine, same)
      | inr p ↦
          let rest = served-times event core begun asked ops p.1 p.5 in
          let both = ap (sum_by (λ (r : ℕ × Refusal). is_of event r.0)) p.2 ∙ sum_by-cons (λ (r : ℕ × Refusal). is_of event r.0) (g.event, p.0) p.1 in
          omega (arith, rest, both, mine)
    ]

-- a shard says something of an event exactly where it has a request, a check or a repair of it
abbrev pub asks_of : Option Duty → ℕ
asks_of None = 0
asks_of (Some (Serves op)) = 1
asks_of (Some (Takes_up slot telling)) = 0
asks_of (Some Checks) = 0
asks_of (Some Repairs) = 0

abbrev pub scrubs_of : Option Duty → ℕ
scrubs_of None = 0
scrubs_of (Some (Serves op)) = 0
scrubs_of (Some (Takes_up slot telling)) = 0
scrubs_of (Some Checks) = 1
scrubs_of (Some Repairs) = 1

request-number : (n : ℕ) (d : Duty) (a : Asking) → request_in n d ≡ Some a → a.event ≡ n
request-number n (Serves op) a is = sym (ap (λ (y : Asking). y.event) (some_same (record { event = n; op = op }) a is))
request-number n (Takes_up slot telling) a is = cc
request-number n Checks a is = cc
request-number n Repairs a is = cc

pass-number : (n : ℕ) (d : Duty) (a : ℕ × Scrub) → scrub_in n d ≡ Some a → a.0 ≡ n
pass-number n (Serves op) a is = cc
pass-number n (Takes_up slot telling) a is = cc
pass-number n Checks a is = sym (ap (λ (y : ℕ × Scrub). y.0) (some_same _ a is))
pass-number n Repairs a is = sym (ap (λ (y : ℕ × Scrub). y.0) (some_same _ a is))

request-weighs : (event : ℕ) (o : Option Duty) → weigh (λ (g : Asking). is_of event g.event) (option_and_then (request_in event) o) ≡ asks_of o
request-weighs event None = refl
request-weighs event (Some (Serves op)) = is-of event event refl
request-weighs event (Some (Takes_up slot telling)) = refl
request-weighs event (Some Checks) = refl
request-weighs event (Some Repairs) = refl

pass-weighs : (event : ℕ) (o : Option Duty) → weigh (λ (q : ℕ × Scrub). is_of event q.0) (option_and_then (scrub_in event) o) ≡ scrubs_of o
pass-weighs event None = refl
pass-weighs event (Some (Serves op)) = refl
pass-weighs event (Some (Takes_up slot telling)) = refl
pass-weighs event (Some Checks) = is-of event event refl
pass-weighs event (Some Repairs) = is-of event event refl

-- its refusals, its passes and its entries, each
pub record SaysOften {P D : Type 0} {g : Ghosts P} (event : ℕ) (o : Option Duty) (r : Runner P D g) : Type 0 where
  pub requests : times event (map said_of_refusal r.refused.items) + times event (map said_of_entry r.shard.entries.items) ≡ asks_of o
  pub passes : times event (map said_of_scrub r.scrubs_done.items) ≡ scrubs_of o
  pub entries : times event (map said_of_entry r.shard.entries.items) ≡ sum_by (λ a. is_of event a.event) r.shard.asked.items
  pub all : times event (said_by r) ≡ asks_of o + scrubs_of o

pass-times : (event : ℕ) (passed : List ScrubDone)
    → sum_by (λ (p : ScrubDone). is_of event p.event) passed ≡ sum_by (λ (q : ℕ × Scrub). is_of event q.0) (map done_scrub passed)
pass-times event [] = refl
pass-times event (p ∷ passed) =
    sum_by-cons (λ (p : ScrubDone). is_of event p.event) p passed ∙ ap (λ n. is_of event p.event + n) (pass-times event passed)
    ∙ sym (sum_by-cons (λ (q : ℕ × Scrub). is_of event q.0) (p.event, p.task) (map done_scrub passed))

pub says-often : {P D : Type 0} {g : Ghosts P} (shape : Shape) (shard : ℕ) (events : List Event) (r : Runner P D g) (event : ℕ) → event < length events
    → HasSaid shape shard events r → SaysOften event (duty_at shape shard events event) r
says-often shape shard events r event below x =
    let o = duty_at shape shard events event in
    let refused = map said_of_refusal r.refused.items in
    let passed = map said_of_scrub r.scrubs_done.items in
    let entries = map said_of_entry r.shard.entries.items in
    let refused-times = times-map said_of_refusal event r.refused.items in
    let entries-times = times-map said_of_entry event r.shard.entries.items in
    let entered = x.entered event in
    let served = served-times event r.shard.core x.begun r.shard.asked.items x.ops r.refused.items x.served in
    let begun = ap (sum_by (λ (g : Asking). is_of event g.event)) (sym x.requests)
    ∙ tasks-of (λ (g : Asking). g.event) request_in shape shard events event request-number below ∙ request-weighs event o in
    let asks : times event refused + times event entries ≡ asks_of o = omega (arith, refused-times, entries-times, entered, served, begun) in
    let over : times event passed ≡ scrubs_of o =
    times-map said_of_scrub event r.scrubs_done.items ∙ pass-times event r.scrubs_done.items
    ∙ ap (sum_by (λ (q : ℕ × Scrub). is_of event q.0)) (sym x.passes)
    ∙ tasks-of (λ (q : ℕ × Scrub). q.0) scrub_in shape shard events event pass-number below ∙ pass-weighs event o in
    let first = sum_by-append (λ (s : Said). is_of event s.0) refused (passed ++ entries) in
    let second = sum_by-append (λ (s : Said). is_of event s.0) passed entries in
    record {
      requests = asks;
      passes = over;
      entries = entries-times ∙ entered;
      all = omega (arith, asks, over, first, second);
    }

-- ---- all shards

-- no shard said anything of the event
pub no-shard : {P D : Type 0} {g : Ghosts P} (event : ℕ) (reply : EventReply) (runners : List (Runner P D g))
    → ((k : ℕ) (other : Runner P D g) → slice_get runners k ≡ Some other → times event (said_by other) ≡ 0)
    → known event reply (said_by_all runners) ≡ reply
no-shard event reply [] none = refl
no-shard event reply (r ∷ runners) none =
    known-both event reply (said_by r) (said_by_all runners)
    ∙ ap (λ y. known event y (said_by_all runners)) (none-known event reply (said_by r) (none 0 r refl))
    ∙ no-shard event reply runners (λ k other at. none (suc k) other at)

-- one alone did
pub one-shard : {P D : Type 0} {g : Ghosts P} (event : ℕ) (reply : EventReply) (runners : List (Runner P D g)) (s : ℕ) (r : Runner P D g) → slice_get runners s ≡ Some r
    → ((k : ℕ) (other : Runner P D g) → slice_get runners k ≡ Some other → k ≢ s → times event (said_by other) ≡ 0)
    → known event reply (said_by_all runners) ≡ known event reply (said_by r)
one-shard event reply [] s r at others = absurd (none-some r at)
one-shard event reply (x ∷ runners) zero r at others =
    known-both event reply (said_by x) (said_by_all runners)
    ∙ no-shard event (known event reply (said_by x)) runners (λ k other at'. others (suc k) other at' (λ same. omega (arith, same)))
    ∙ ap (λ y. known event reply (said_by y)) (some_same x r at)
one-shard event reply (x ∷ runners) (suc s) r at others =
    known-both event reply (said_by x) (said_by_all runners)
    ∙ ap (λ y. known event y (said_by_all runners)) (none-known event reply (said_by x) (others 0 x refl (λ same. omega (arith, same))))
    ∙ one-shard event reply runners s r at (λ k other at' ne. others (suc k) other at' (λ same. ne (omega (arith, same))))

-- ---- the calling thread

pub answer-number : (shape : Shape) (events : List Event) (n : ℕ) (a : ℕ × feeds.Asking) → asking_at shape events n ≡ Some a → a.0 ≡ n
answer-number shape events n a is = by (option_and_then (asking_of shape) (slice_get events n)) is
  where
    by : (o : Option feeds.Asking) → option_map (λ asking. (n, asking)) o ≡ Some a → a.0 ≡ n
    by None is' = cc
    by (Some asking) is' = sym (ap (λ (y : ℕ × feeds.Asking). y.0) (some_same (n, asking) a is'))

answer-times : (event : ℕ) (answers : List EventAnswer)
    → sum_by (λ (a : EventAnswer). is_of event a.event) answers ≡ sum_by (λ (q : ℕ × feeds.Asking). is_of event q.0) (map asked_in answers)
answer-times event [] = refl
answer-times event (a ∷ answers) =
    sum_by-cons (λ (a : EventAnswer). is_of event a.event) a answers ∙ ap (λ n. is_of event a.event + n) (answer-times event answers)
    ∙ sym (sum_by-cons (λ (q : ℕ × feeds.Asking). is_of event q.0) (asked_in a) (map asked_in answers))

-- it says something of each event that no shard answers, once
pub thread-says : (shape : Shape) (events : List Event) (answers : List EventAnswer) (event : ℕ) → event < length events
    → map asked_in answers ≡ asked_before shape events (length events)
    → times event (map said_of_answer answers) ≡ weigh (λ (q : ℕ × feeds.Asking). is_of event q.0) (asking_at shape events event)
thread-says shape events answers event below asked =
    times-map said_of_answer event answers ∙ answer-times event answers
    ∙ ap (sum_by (λ (q : ℕ × feeds.Asking). is_of event q.0)) asked
    ∙ picked-of (λ (q : ℕ × feeds.Asking). q.0) (asking_at shape events) event (length events) (answer-number shape events) below
