-- How many tasks there are.
use Rattle.std.proofs.Common.{◌≡◌, ℕ, suc, ◌+◌, ◌≤◌, List, [], ◌∷◌, ◌++◌, length, take, count_by, filter_map, Option, Some, None, Bool, true, false, is_some, option_map, slice_get, refl, sym, ◌∙◌, ap, arith}
use Rattle.std.specs.List.{range_with_len, cons_option}
use Rattle.std.proofs.lemmas.List.{append-nil, length_push, length-take}
use Rattle.std.proofs.lemmas.List.Sums.{count_by_more_no, count_by_more_yes, count_by-le-length}
use Rattle.std.proofs.lemmas.Option.{slice_get_within, get_or_from_slice_get}
use Rattle.std.proofs.lemmas.List.FromFn.{length-range_with_len}
use Rattle.r6_layout.specs.Shape.{Shape}
use Rattle.r6_engine.specs.lists.Events.{Event, Duty, duty_of, Task, task, task_at, waits_before}
use Rattle.r6_engine.specs.feed.Events.{has_part, brings_device}
use Rattle.r6_engine.specs.feed.Feeds.{tasks_before}
use Rattle.r6_engine.proofs.FeedLemmas.Putting.{task_is, tasks_more}

few_more : {B : Type 0} (o : Option B) (ys : List B) (n : ℕ) → length ys ≤ n → length (cons_option o ys) ≤ suc n
few_more None ys n few = omega (arith, few)
few_more (Some y) ys n few = omega (arith, few)

pub few_kept : {A B : Type 0} (f : A → Option B) (xs : List A) → length (filter_map f xs) ≤ length xs
few_kept f [] = search arith
few_kept f (x ∷ xs) = few_more (f x) (filter_map f xs) (length xs) (few_kept f xs)

count_by_part : (number waits : ℕ) (tasks : List Task) (duty : Option Duty) (part : Bool) (before more : ℕ)
    → is_some duty ≡ part → before ≡ length tasks → (part ≡ true → more ≡ 1) → (part ≡ false → more ≡ 0)
    → before + more ≡ length (tasks ++ cons_option (option_map (task number waits) duty) [])
count_by_part number waits tasks None false before more is was if-part if-none =
    let none = if-none refl in
    let same = ap length (append-nil tasks) in
    omega (arith, none, was, same)
count_by_part number waits tasks None true before more is was if-part if-none = cc
count_by_part number waits tasks (Some duty) true before more is was if-part if-none =
    let one = if-part refl in
    let long = length_push tasks (task number waits duty) in
    omega (arith, one, was, long)
count_by_part number waits tasks (Some duty) false before more is was if-part if-none = cc

-- one event more, of which the shard is handed a part or not
pub counted : (shape : Shape) (shard : ℕ) (events : List Event) (number : ℕ) (event : Event) (part : Bool)
    → slice_get events number ≡ Some event → part ≡ has_part shape shard event
    → (before more : ℕ) → before ≡ length (tasks_before shape shard events number)
    → (part ≡ true → more ≡ 1) → (part ≡ false → more ≡ 0)
    → before + more ≡ length (tasks_before shape shard events (number + 1))
counted shape shard events number event part at is before more was if-part if-none =
    count_by_part number (waits_before events number) (tasks_before shape shard events number) (duty_of shape shard event) part
    before more (sym is) was if-part if-none
    ∙ sym (ap length (tasks_more shape shard events number
    ∙ ap (λ o. tasks_before shape shard events number ++ cons_option o [])
    (task_is shape shard events number event (duty_of shape shard event) at refl)))

pub few_tasks : (shape : Shape) (shard : ℕ) (events : List Event) (number : ℕ)
    → length (tasks_before shape shard events number) ≤ number
few_tasks shape shard events number =
    let few = few_kept (task_at shape shard events) (range_with_len 0 number) in
    let long = length-range_with_len 0 number in
    omega (arith, few, long)

-- ---- new devices

-- one event more, which is a new device or not
pub device_counted : (events : List Event) (number : ℕ) (event : Event) (attach : Bool)
    → slice_get events number ≡ Some event → attach ≡ brings_device event
    → (before more : ℕ) → before ≡ count_by brings_device (take number events)
    → (attach ≡ true → more ≡ 1) → (attach ≡ false → more ≡ 0)
    → before + more ≡ count_by brings_device (take (number + 1) events)
device_counted events number event true at is before more was if-attach if-none =
    let one = if-attach refl in
    let counted = count_by_more_yes brings_device events number event (slice_get_within events number event at)
    (ap brings_device (get_or_from_slice_get events number event event at) ∙ sym is) in
    omega (arith, one, was, counted)
device_counted events number event false at is before more was if-attach if-none =
    let none = if-none refl in
    let counted = count_by_more_no brings_device events number event (slice_get_within events number event at)
    (ap brings_device (get_or_from_slice_get events number event event at) ∙ sym is) in
    omega (arith, none, was, counted)

pub few_devices : (events : List Event) (number : ℕ) → count_by brings_device (take number events) ≤ number
few_devices events number =
    let few = count_by-le-length brings_device (take number events) in
    let long = length-take number events in
    omega (arith, few, long)
