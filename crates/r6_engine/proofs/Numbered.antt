-- How many of the things that are picked of the events are of one event.
use Rattle.std.proofs.Common.{◌≡◌, ◌≢◌, ◌∙◌, ℕ, ◌+◌, ◌<◌, List, [], ◌∷◌, length, refl, sym, ap, arith, Option, Some, None, option_map, option_and_then, slice_get, sum_by}
use Rattle.std.specs.List.{range_with_len, filter_map, cons_option}
use Rattle.std.proofs.lemmas.List.Sums.{sum_by-cons}
use Rattle.r6_layout.specs.Shape.{Shape}
use Rattle.r6_engine.specs.lists.Events.{Event, Duty, Task, task, task_at, tasks_of, numbers_of, duty_of, waits_before}
use Rattle.r6_engine.specs.runner.Tasks.{of_tasks}
use Rattle.r6_engine.proofs.Known.{is_of, is-not_of}
use Rattle.r6_engine.proofs.Rows.{one-there}

-- the weight of what is picked, if something is
abbrev pub weigh : {A : Type 0} → (A → ℕ) → Option A → ℕ
weigh v None = 0
weigh v (Some a) = v a

sum-cons_option : {A : Type 0} (v : A → ℕ) (o : Option A) (rest : List A) → sum_by v (cons_option o rest) ≡ weigh v o + sum_by v rest
sum-cons_option v None rest = let n = sum_by v rest in omega arith
sum-cons_option v (Some a) rest = sum_by-cons v a rest

pub sum-picked : {A : Type 0} (v : A → ℕ) (pick : ℕ → Option A) (numbers : List ℕ)
    → sum_by v (filter_map pick numbers) ≡ sum_by (λ n. weigh v (pick n)) numbers
sum-picked v pick [] = refl
sum-picked v pick (n ∷ numbers) =
    sum-cons_option v (pick n) (filter_map pick numbers) ∙ ap (λ m. weigh v (pick n) + m) (sum-picked v pick numbers)
    ∙ sym (sum_by-cons (λ n. weigh v (pick n)) n numbers)

abbrev pub duty_at : Shape → (shard : ℕ) → List Event → (number : ℕ) → Option Duty
duty_at shape shard events number = option_and_then (duty_of shape shard) (slice_get events number)

-- of a task of this number
one-number : {A : Type 0} (v : A → ℕ) (pick : ℕ → Duty → Option A) (F : ℕ → Option A) (number waits : ℕ) (o : Option Duty) (tasks : List Task)
    → F number ≡ option_and_then (λ (t : Task). pick number t.duty) (option_map (task number waits) o)
    → sum_by v (filter_map F (numbers_of (cons_option (option_map (task number waits) o) tasks)))
    ≡ weigh v (option_and_then (pick number) o) + sum_by v (filter_map F (numbers_of tasks))
one-number v pick F number waits None tasks is = let n = sum_by v (filter_map F (numbers_of tasks)) in omega arith
one-number v pick F number waits (Some d) tasks is =
    sum-cons_option v (F number) (filter_map F (numbers_of tasks))
    ∙ ap (λ o. weigh v o + sum_by v (filter_map F (numbers_of tasks))) is

by-number : {A : Type 0} (v : A → ℕ) (pick : ℕ → Duty → Option A) (shape : Shape) (shard : ℕ) (events : List Event) (numbers : List ℕ)
    → sum_by v (of_tasks pick shape shard events (numbers_of (filter_map (task_at shape shard events) numbers)))
    ≡ sum_by (λ number. weigh v (option_and_then (pick number) (duty_at shape shard events number))) numbers
by-number v pick shape shard events [] = refl
by-number v pick shape shard events (number ∷ numbers) =
    one-number v pick (λ n. option_and_then (λ (t : Task). pick n t.duty) (task_at shape shard events n)) number
    (waits_before events number) (duty_at shape shard events number) (filter_map (task_at shape shard events) numbers) refl
    ∙ ap (λ n. weigh v (option_and_then (pick number) (duty_at shape shard events number)) + n) (by-number v pick shape shard events numbers)
    ∙ sym (sum_by-cons (λ n. weigh v (option_and_then (pick n) (duty_at shape shard events n))) number numbers)

-- things that are picked have the number of their event
abbrev pub HasNumber : {A : Type 0} → (key : A → ℕ) → (pick : ℕ → Option A) → Type 0
HasNumber {A = A} key pick = (n : ℕ) (a : A) → pick n ≡ Some a → key a ≡ n

other-weighs : {A : Type 0} (key : A → ℕ) (event n : ℕ) (o : Option A) → ((a : A) → o ≡ Some a → key a ≡ n) → n ≢ event
    → weigh (λ a. is_of event (key a)) o ≡ 0
other-weighs key event n None its ne = refl
other-weighs key event n (Some a) its ne = is-not_of event (key a) (λ same. ne (sym (its a refl) ∙ same))

-- so many are of one event as are picked of it
pub picked-of : {A : Type 0} (key : A → ℕ) (pick : ℕ → Option A) (event many : ℕ) → HasNumber key pick → event < many
    → sum_by (λ a. is_of event (key a)) (filter_map pick (range_with_len 0 many)) ≡ weigh (λ a. is_of event (key a)) (pick event)
picked-of key pick event many its below =
    sum-picked (λ a. is_of event (key a)) pick (range_with_len 0 many)
    ∙ one-there (λ n. weigh (λ a. is_of event (key a)) (pick n)) event 0 many
    (λ k ne. other-weighs key event k (pick k) (its k) ne) (omega arith) (omega (arith, below))

pub tasks-of : {A : Type 0} (key : A → ℕ) (pick : ℕ → Duty → Option A) (shape : Shape) (shard : ℕ) (events : List Event) (event : ℕ)
    → ((n : ℕ) (d : Duty) (a : A) → pick n d ≡ Some a → key a ≡ n) → event < length events
    → sum_by (λ a. is_of event (key a)) (of_tasks pick shape shard events (numbers_of (tasks_of shape shard events)))
    ≡ weigh (λ a. is_of event (key a)) (option_and_then (pick event) (duty_at shape shard events event))
tasks-of {A = A} key pick shape shard events event its below =
    by-number (λ a. is_of event (key a)) pick shape shard events (range_with_len 0 (length events))
    ∙ one-there (λ n. weigh (λ a. is_of event (key a)) (option_and_then (pick n) (duty_at shape shard events n))) event 0 (length events)
    (λ k ne. other-weighs key event k (option_and_then (pick k) (duty_at shape shard events k))
    (by-duty k (duty_at shape shard events k)) ne) (omega arith) (omega (arith, below))
  where
    by-duty : (k : ℕ) (o : Option Duty) (a : A) → option_and_then (pick k) o ≡ Some a → key a ≡ k
    by-duty k None a is = cc
    by-duty k (Some d) a is = its k d a is
