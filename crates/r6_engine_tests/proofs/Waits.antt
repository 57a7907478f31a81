-- How many tasks there are, and how many waits stand before one.
use Rattle.std.proofs.Common.{◌≡◌, ℕ, ◌+◌, ◌<◌, ◌≤◌, List, [], ◌∷◌, length, refl, sym, ap, subst, ◌∙◌, arith, Option, Some, None, option_and_then, Bool, true, false, slice_get, get_or, if◌then◌else◌}
use Rattle.std.specs.List.{range_with_len, filter_map, cons_option}
use Rattle.std.proofs.lemmas.List.FromFn.{length-range_with_len}
use Rattle.std.proofs.lemmas.List.{length-map}
use Rattle.std.proofs.lemmas.List.Sums.{count_by_more_no, count_by_more_yes}
use Rattle.std.proofs.Math.ListN.{get_or-map}
use Rattle.std.proofs.lemmas.Option.{slice_get_within, get_or_from_slice_get}
use Rattle.r6_layout.specs.Shape.{Shape}
use Rattle.r6_engine.specs.lists.Events.{Event, Task, task_at, tasks_of, numbers_of, is_passing, waits_before}
use Rattle.r6_engine.specs.runner.Parts.{all_parts}
use Rattle.r6_engine.specs.runner.Tasks.{part_in}
use Rattle.r6_engine_tests.specs.declared.asks.Ask.{Ask}
use Rattle.r6_engine_tests.specs.Asks.{event_of, events_of}

few_kept : {A B : Type 0} (pick : A → Option B) (items : List A) → length (filter_map pick items) ≤ length items
few_kept pick [] = omega arith
few_kept pick (item ∷ items) = one_more (pick item) (few_kept pick items)
  where
    one_more : (o : Option _) → length (filter_map pick items) ≤ length items
        → length (cons_option o (filter_map pick items)) ≤ length (item ∷ items)
    one_more None few = omega (arith, few)
    one_more (Some x) few = omega (arith, few)

-- a shard has no more tasks than there are events
pub few_works : (shape : Shape) (shard : ℕ) (events : List Event) → length (tasks_of shape shard events) ≤ length events
few_works shape shard events =
    subst (λ n. length (tasks_of shape shard events) ≤ n) (length-range_with_len 0 (length events))
    (few_kept (task_at shape shard events) (range_with_len 0 (length events)))

-- nor are more parts of new devices among them
pub few_parts : (shape : Shape) (events : List Event) (shard : ℕ)
    → length (all_parts shape events shard) ≤ length (tasks_of shape shard events)
few_parts shape events shard =
    subst (λ n. length (all_parts shape events shard) ≤ n) (length-map (tasks_of shape shard events) (λ (t : Task). t.number))
    (few_kept (λ k. option_and_then (λ (t : Task). part_in k t.duty) (task_at shape shard events k))
    (numbers_of (tasks_of shape shard events)))

-- one more stands before the next event, if what comes behind this one waits
more_here : (events : List Event) (number : ℕ) (event : Event) (b : Bool) → is_passing event ≡ b → number < length events
    → get_or events number event ≡ event
    → waits_before events (number + 1) ≡ (if b then waits_before events number + 1 else waits_before events number)
more_here events number event true is within at =
    count_by_more_yes is_passing events number event within (ap is_passing at ∙ is)
more_here events number event false is within at =
    count_by_more_no is_passing events number event within (ap is_passing at ∙ is)

few_more : (b : Bool) (waits number : ℕ) → waits ≤ number → (if b then waits + 1 else waits) ≤ number + 1
few_more true waits number few = omega (arith, few)
few_more false waits number few = omega (arith, few)

pub waits_on : (events : List Event) (asks : List Ask) (number waits next : ℕ) (ask : Ask) → events ≡ events_of asks
    → slice_get asks number ≡ Some ask → waits ≡ waits_before events number → waits ≤ number
    → next ≡ (if is_passing (event_of ask) then waits + 1 else waits)
    → (next ≡ waits_before events (number + 1)) × (next ≤ number + 1)
waits_on events asks number waits next ask is here_is same few then_is =
    let b = is_passing (event_of ask) in
    let within = slice_get_within asks number ask here_is in
    let at = get_or_from_slice_get asks number ask ask here_is in
    let long : length events ≡ length asks = ap length is ∙ length-map asks event_of in
    let here : get_or events number (event_of ask) ≡ event_of ask =
    ap (λ es. get_or es number (event_of ask)) is ∙ get_or-map event_of asks number ask ∙ ap event_of at in (
      then_is ∙ ap (λ (n : ℕ). if b then n + 1 else n) same
          ∙ sym (more_here events number (event_of ask) b refl (omega (arith, within, long)) here),
      subst (λ n. n ≤ number + 1) (sym then_is) (few_more b waits number few),
    )
