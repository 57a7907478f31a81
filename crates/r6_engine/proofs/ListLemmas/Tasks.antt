-- What a shard is handed, by number.
use Rattle.std.proofs.Common.{◌≡◌, ℕ, List, [], ◌∷◌, length, filter, if◌then◌else◌, Option, Some, None, Bool, true, false, cond, is_some, unwrap_or, option_map, option_and_then, slice_get, refl, ap}
use Rattle.std.specs.List.{range_with_len, filter_map, cons_option}
use Rattle.r6_layout.specs.Shape.{Shape}
use Rattle.r6_world.specs.PlainArray.{block_of}
use Rattle.r6_world.specs.Values.{op_of}
use Rattle.r6_engine.specs.lists.Events.{Event, Request, Bring, Fail, Check, Repair, Wait, Duty, Serves, is_block_of, duty_of, waits_before, Task, task, task_at, has_task, tasks_of, numbers_of, is_request, requests_of, asks, asks_at}

among : (number waits : ℕ) (duty : Option Duty) (tasks : List Task) (numbers : List ℕ) → numbers_of tasks ≡ numbers
    → numbers_of (cons_option (option_map (task number waits) duty) tasks)
    ≡ cond (is_some (option_map (task number waits) duty)) (number ∷ numbers) numbers
among number waits None tasks numbers same = same
among number waits (Some duty) tasks numbers same = ap (λ ns. number ∷ ns) same

-- the numbers of the tasks are those that have one
pub numbers_among : (shape : Shape) (shard : ℕ) (events : List Event) (ks : List ℕ)
    → numbers_of (filter_map (task_at shape shard events) ks) ≡ filter (has_task shape shard events) ks
numbers_among shape shard events [] = refl
numbers_among shape shard events (k ∷ ks) =
    among k (waits_before events k) (option_and_then (duty_of shape shard) (slice_get events k))
    (filter_map (task_at shape shard events) ks) (filter (has_task shape shard events) ks)
    (numbers_among shape shard events ks)

pub numbers_of_tasks : (shape : Shape) (shard : ℕ) (events : List Event)
    → numbers_of (tasks_of shape shard events) ≡ filter (has_task shape shard events) (range_with_len 0 (length events))
numbers_of_tasks shape shard events = numbers_among shape shard events (range_with_len 0 (length events))

-- ---- the requests among the tasks

kept_request : (q : ℕ → Bool) (number waits : ℕ) (duty : Duty) (tasks : List Task) → q number ≡ is_request duty
    → filter q (numbers_of tasks) ≡ numbers_of (filter (λ t. is_request t.duty) tasks)
    → filter q (number ∷ numbers_of tasks) ≡ numbers_of (filter (λ t. is_request t.duty) (task number waits duty ∷ tasks))
kept_request q number waits duty tasks asked same = by_case (q number) (is_request duty) asked
  where
    by_case : (b b' : Bool) → b ≡ b' → cond b (number ∷ filter q (numbers_of tasks)) (filter q (numbers_of tasks))
        ≡ numbers_of (cond b' (task number waits duty ∷ filter (λ t. is_request t.duty) tasks) (filter (λ t. is_request t.duty) tasks))
    by_case true true e = ap (λ ns. number ∷ ns) same
    by_case false false e = same
    by_case true false e = cc
    by_case false true e = cc

requests_at : (q : ℕ → Bool) (number waits : ℕ) (duty : Option Duty) (tasks : List Task)
    → ((d : Duty) → duty ≡ Some d → q number ≡ is_request d)
    → filter q (numbers_of tasks) ≡ numbers_of (filter (λ t. is_request t.duty) tasks)
    → filter q (numbers_of (cons_option (option_map (task number waits) duty) tasks))
    ≡ numbers_of (filter (λ t. is_request t.duty) (cons_option (option_map (task number waits) duty) tasks))
requests_at q number waits None tasks asked same = same
requests_at q number waits (Some duty) tasks asked same = kept_request q number waits duty tasks (asked duty refl) same

duty_asked : (shape : Shape) (shard : ℕ) (event : Option Event) (duty : Duty)
    → option_and_then (duty_of shape shard) event ≡ Some duty → unwrap_or (option_map asks event) false ≡ is_request duty
duty_asked shape shard None duty is = cc
duty_asked shape shard (Some (Request op)) duty is = of_shard (is_block_of shape shard (block_of (op_of op))) is
  where
    of_shard : (b : Bool) → (if b then Some (Serves op) else None) ≡ Some duty → true ≡ is_request duty
    of_shard true e = ap (λ d. unwrap_or (option_map is_request d) true) e
    of_shard false e = cc
duty_asked shape shard (Some (Bring how slot part)) duty is = ap (λ d. unwrap_or (option_map is_request d) true) is
duty_asked shape shard (Some (Fail slot)) duty is = cc
duty_asked shape shard (Some Check) duty is = ap (λ d. unwrap_or (option_map is_request d) true) is
duty_asked shape shard (Some Repair) duty is = ap (λ d. unwrap_or (option_map is_request d) true) is
duty_asked shape shard (Some Wait) duty is = cc

requests_among : (shape : Shape) (shard : ℕ) (events : List Event) (ks : List ℕ)
    → filter (asks_at events) (numbers_of (filter_map (task_at shape shard events) ks))
    ≡ numbers_of (filter (λ t. is_request t.duty) (filter_map (task_at shape shard events) ks))
requests_among shape shard events [] = refl
requests_among shape shard events (k ∷ ks) =
    requests_at (asks_at events) k (waits_before events k) (option_and_then (duty_of shape shard) (slice_get events k))
    (filter_map (task_at shape shard events) ks) (duty_asked shape shard (slice_get events k))
    (requests_among shape shard events ks)

-- the requests among a shard's numbers
pub requests_taken : (shape : Shape) (shard : ℕ) (events : List Event)
    → filter (asks_at events) (numbers_of (tasks_of shape shard events)) ≡ numbers_of (requests_of shape shard events)
requests_taken shape shard events = requests_among shape shard events (range_with_len 0 (length events))
