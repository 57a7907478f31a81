-- What the checks and repairs of all shards count together.
use Rattle.std.proofs.Common.{◌≡◌, ◌≢◌, ℕ, ◌+◌, ◌-◌, ◌≤◌, ◌<◌, ◌⊎◌, ◌==◌, List, [], ◌∷◌, All, length, map, sum_by, slice_get, zero, suc, Bool, true, false, if◌then◌else◌, inl, inr, refl, sym, ap, subst, ◌∙◌, arith, Option, Some, None, option_map, option_and_then}
use Rattle.std.specs.List.{range_with_len, filter_map, cons_option}
use Rattle.std.proofs.lemmas.List.Elements.{All-head, All-tail}
use Rattle.std.proofs.lemmas.List.Sums.{sum_by-cons}
use Rattle.std.proofs.lemmas.Bool.{cases_eq, eq-eqb, ne_eqb}
use Rattle.std.proofs.lemmas.Option.{slice_get_within, get_or_from_slice_get}
use Rattle.r6_layout.specs.Shape.{Shape, IsShape}
use Rattle.r6_layout.specs.Layout.{first_row}
use Rattle.r6_layout.proofs.Shards.{first_row_zero, first_row_last, first_row_grows}
use Rattle.r6_core.specs.declared.turn.Task.{Task as Scrub}
use Rattle.r6_core.specs.declared.turn.Task.TheVariants as scrub
use Rattle.r6_core.specs.Shards.{CoreView}
use Rattle.r6_engine.specs.lists.Events.{Event, Check, Repair, Duty, Serves, Takes_up, Checks, Repairs, Task, task, task_at, tasks_of, numbers_of, duty_of, waits_before}
use Rattle.r6_engine.specs.declared.runner.scrub.ScrubDone.{ScrubDone}
use Rattle.r6_engine.specs.declared.runner.runner.Runner.{Runner}
use Rattle.r6_engine.specs.runner.Tasks.{scrub_in, scrubs_in, done_scrub}
use Rattle.r6_engine.specs.runner.Counted.{AddUp, AreCounted, IsUsedUp, LeavesNoneOut, rows_in, rows_of_shard}
use Rattle.r6_engine.specs.Counted.{CountEachRow, MayGoOn, rows_for}
use Rattle.r6_shard.specs.declared.performs.Performs.{Ghosts}

-- ---- in one shard

-- so many rows for this event, and none for others
abbrev for_event : (event rows : ℕ) → ℕ → ℕ
for_event event rows number = if number == event then rows else 0

-- each check and repair counts each row
each-row : (core : CoreView) (event rows from to : ℕ) (passed : List ScrubDone) → (IsUsedUp core → ⊥) → All (LeavesNoneOut core) passed → AddUp rows from passed to
    → rows_for event passed ≡ sum_by (λ (q : ℕ × Scrub). for_event event rows q.0) (map done_scrub passed)
each-row core event rows from to [] more whole x = refl
each-row core event rows from to (p ∷ passed) more whole x =
    let none : p.left_out ≡ 0 = elim (All-head (LeavesNoneOut core) p passed whole) [ inl none ↦ none | inr used ↦ absurd (more used) ] in
    let adds = x.1 in
    let counts : rows_in p.after - rows_in p.before ≡ rows = omega (arith, none, adds) in
    sum_by-cons (λ (q : ScrubDone). if q.event == event then rows_in q.after - rows_in q.before else 0) p passed
    ∙ ap (λ (n : ℕ). (if p.event == event then n else 0) + rows_for event passed) counts
    ∙ ap (λ n. for_event event rows p.event + n)
    (each-row core event rows (rows_in p.after) to passed more (All-tail (LeavesNoneOut core) p passed whole) x.2)
    ∙ sym (sum_by-cons (λ (q : ℕ × Scrub). for_event event rows q.0) (p.event, p.task) (map done_scrub passed))

-- whether a shard's part of an event is a check or repair
goes_over : Option Duty → Bool
goes_over None = false
goes_over (Some (Serves op)) = false
goes_over (Some (Takes_up slot telling)) = false
goes_over (Some Checks) = true
goes_over (Some Repairs) = true

more-none : (n : ℕ) → n ≡ 0 + n
more-none n = omega arith

-- its passes are its checks and repairs
one-number : (F : ℕ → Option (ℕ × Scrub)) (w : ℕ → ℕ) (number waits : ℕ) (o : Option Duty) (tasks : List Task)
    → F number ≡ option_and_then (λ (t : Task). scrub_in number t.duty) (option_map (task number waits) o)
    → sum_by (λ (q : ℕ × Scrub). w q.0) (filter_map F (numbers_of (cons_option (option_map (task number waits) o) tasks)))
    ≡ (if goes_over o then w number else 0) + sum_by (λ (q : ℕ × Scrub). w q.0) (filter_map F (numbers_of tasks))
unfolding goes_over
one-number F w number waits None tasks is = more-none (sum_by (λ (q : ℕ × Scrub). w q.0) (filter_map F (numbers_of tasks)))
one-number F w number waits (Some (Serves op)) tasks is =
    ap (λ o. sum_by (λ (q : ℕ × Scrub). w q.0) (cons_option o (filter_map F (numbers_of tasks)))) is
    ∙ more-none (sum_by (λ (q : ℕ × Scrub). w q.0) (filter_map F (numbers_of tasks)))
one-number F w number waits (Some (Takes_up slot telling)) tasks is =
    ap (λ o. sum_by (λ (q : ℕ × Scrub). w q.0) (cons_option o (filter_map F (numbers_of tasks)))) is
    ∙ more-none (sum_by (λ (q : ℕ × Scrub). w q.0) (filter_map F (numbers_of tasks)))
one-number F w number waits (Some Checks) tasks is =
    ap (λ o. sum_by (λ (q : ℕ × Scrub). w q.0) (cons_option o (filter_map F (numbers_of tasks)))) is
    ∙ sum_by-cons (λ (q : ℕ × Scrub). w q.0) (number, scrub.Check) (filter_map F (numbers_of tasks))
one-number F w number waits (Some Repairs) tasks is =
    ap (λ o. sum_by (λ (q : ℕ × Scrub). w q.0) (cons_option o (filter_map F (numbers_of tasks)))) is
    ∙ sum_by-cons (λ (q : ℕ × Scrub). w q.0) (number, scrub.Repair) (filter_map F (numbers_of tasks))

abbrev duty_at : Shape → (shard : ℕ) → List Event → (number : ℕ) → Option Duty
duty_at shape shard events number = option_and_then (duty_of shape shard) (slice_get events number)

by-number : (shape : Shape) (shard : ℕ) (events : List Event) (w : ℕ → ℕ) (numbers : List ℕ)
    → sum_by (λ (q : ℕ × Scrub). w q.0) (scrubs_in shape shard events (numbers_of (filter_map (task_at shape shard events) numbers)))
    ≡ sum_by (λ number. if goes_over (duty_at shape shard events number) then w number else 0) numbers
by-number shape shard events w [] = refl
by-number shape shard events w (number ∷ numbers) =
    one-number (λ number. option_and_then (λ (t : Task). scrub_in number t.duty) (task_at shape shard events number)) w number
    (waits_before events number) (duty_at shape shard events number) (filter_map (task_at shape shard events) numbers) refl
    ∙ ap (λ n. (if goes_over (duty_at shape shard events number) then w number else 0) + n) (by-number shape shard events w numbers)
    ∙ sym (sum_by-cons (λ number. if goes_over (duty_at shape shard events number) then w number else 0) number numbers)

-- of numbers in a row one has a measure
none-there : (measure : ℕ → ℕ) (at from many : ℕ) → ((k : ℕ) → k ≢ at → measure k ≡ 0) → at < from → sum_by measure (range_with_len from many) ≡ 0
none-there measure at from zero others below = refl
none-there measure at from (suc many) others below =
    let here : measure from ≡ 0 = others from (λ same. omega (arith, same, below)) in
    let behind = none-there measure at (from + 1) many others (omega (arith, below)) in
    let both = sum_by-cons measure from (range_with_len (from + 1) many) in
    omega (arith, here, behind, both)

pub one-there : (measure : ℕ → ℕ) (at from many : ℕ) → ((k : ℕ) → k ≢ at → measure k ≡ 0) → from ≤ at → at < from + many
    → sum_by measure (range_with_len from many) ≡ measure at
one-there measure at from zero others first last = absurd (omega (arith, first, last))
one-there measure at from (suc many) others first last =
    let both = sum_by-cons measure from (range_with_len (from + 1) many) in
    elim (cases_eq at from) [
      | inl same ↦
          let behind = none-there measure at (from + 1) many others (omega (arith, same)) in
          let here : measure from ≡ measure at = ap measure (sym same) in omega (arith, both, behind, here)
      | inr ne ↦
          let here : measure from ≡ 0 = others from (λ same. ne (sym same)) in
          let behind = one-there measure at (from + 1) many others (omega (arith, first, ne)) (omega (arith, last)) in
          omega (arith, both, behind, here)
    ]

-- a shard counts each of its rows for a check or repair
pub shard-rows : (shape : Shape) (shard : ℕ) (events : List Event) (core : CoreView) (passed : List ScrubDone) (event : ℕ)
    → scrubs_in shape shard events (numbers_of (tasks_of shape shard events)) ≡ map done_scrub passed
    → AreCounted (rows_of_shard shape shard) core passed → MayGoOn core
    → (slice_get events event ≡ Some Check) ⊎ (slice_get events event ≡ Some Repair) → rows_for event passed ≡ rows_of_shard shape shard
unfolding goes_over
shard-rows shape shard events core passed event passes counted goes is =
    let rows = rows_of_shard shape shard in
    let all = counted goes.0 in
    let below : event < length events = elim is [ inl check ↦ slice_get_within events event Check check | inr repair ↦ slice_get_within events event Repair repair ] in
    let over : goes_over (duty_at shape shard events event) ≡ true = elim is [
      | inl check ↦ ap (λ o. goes_over (option_and_then (duty_of shape shard) o)) check
      | inr repair ↦ ap (λ o. goes_over (option_and_then (duty_of shape shard) o)) repair
    ] in
    let measure : ℕ → ℕ = λ number. if goes_over (duty_at shape shard events number) then for_event event rows number else 0 in
    each-row core event rows 0 _ passed goes.1 all.1 all.0
    ∙ ap (sum_by (λ (q : ℕ × Scrub). for_event event rows q.0)) (sym passes)
    ∙ by-number shape shard events (for_event event rows) (range_with_len 0 (length events))
    ∙ one-there measure event 0 (length events) (λ k ne. other (goes_over (duty_at shape shard events k)) event rows k ne) (omega arith) (omega (arith, below))
    ∙ ap (λ (b : Bool). if b then for_event event rows event else 0) over
    ∙ ap (λ (b : Bool). if b then rows else 0) (eq-eqb event event refl)
  where
    other : (b : Bool) (event rows k : ℕ) → k ≢ event → (if b then for_event event rows k else 0) ≡ 0
    other true event rows k ne = ap (λ (b : Bool). if b then rows else 0) (ne_eqb k event ne)
    other false event rows k ne = refl

-- ---- in all shards

at-end : (mark : ℕ → ℕ) (from : ℕ) → (0 + mark from ≡ mark (from + 0)) × (mark from ≤ mark (from + 0))
at-end mark from =
    let same : from ≡ from + 0 = omega arith in
    let here : mark from ≡ mark (from + 0) = ap mark same in
    (omega (arith, here), omega (arith, here))

-- what is between neighbours is between the first and the last
pub between : {X : Type 0} (measure : X → ℕ) (mark : ℕ → ℕ) (from : ℕ) (xs : List X) → ((k : ℕ) → mark k ≤ mark (k + 1))
    → ((k : ℕ) (x : X) → slice_get xs k ≡ Some x → measure x ≡ mark (from + k + 1) - mark (from + k))
    → (sum_by measure xs + mark from ≡ mark (from + length xs)) × (mark from ≤ mark (from + length xs))
between measure mark from [] grows each = at-end mark from
between measure mark from (x ∷ xs) grows each =
    let step : ℕ → ℕ = λ n. mark (n + 1) - mark n in
    let start : from + zero ≡ from = omega arith in
    let here : measure x ≡ step from = each zero x refl ∙ ap step start in
    let later = between measure mark (from + 1) xs grows
    (λ k y at. let next : from + suc k ≡ from + 1 + k = omega arith in each (suc k) y at ∙ ap step next) in
    let first = grows from in
    let both = sum_by-cons measure x xs in
    let last : mark (from + 1 + length xs) ≡ mark (from + length (x ∷ xs)) = ap mark (omega arith) in
    (omega (arith, here, later.0, first, both, last), omega (arith, later.1, first, last))

-- all shards together count each row of the array
pub count-each-row : {P D : Type 0} {g : Ghosts P} (shape : Shape) (events : List Event) (runners : List (Runner P D g)) → IsShape shape → length runners ≡ shape.shards
    → ((shard : ℕ) (runner : Runner P D g) → slice_get runners shard ≡ Some runner
    → (scrubs_in shape shard events (numbers_of (tasks_of shape shard events)) ≡ map done_scrub runner.scrubs_done.items)
    × AreCounted (rows_of_shard shape shard) runner.shard.core runner.scrubs_done.items)
    → CountEachRow shape events runners
count-each-row shape events runners lawful as_many each all event is =
    let mark : ℕ → ℕ = first_row shape in
    let step : ℕ → ℕ = λ n. mark (n + 1) - mark n in
    let within = between (λ runner. rows_for event runner.scrubs_done.items) mark 0 runners
    (λ k. first_row_grows shape k (k + 1) lawful (omega arith))
    (λ k runner at.
    let own = each k runner at in
    let goes : MayGoOn runner.shard.core =
    subst (λ r. MayGoOn r.shard.core) (get_or_from_slice_get runners k runner runner at) (all k runner (slice_get_within runners k runner at)) in
    let here : k ≡ 0 + k = omega arith in
    shard-rows shape k events runner.shard.core runner.scrubs_done.items event own.0 own.1 goes is ∙ ap step here) in
    let first : mark 0 ≡ 0 = first_row_zero shape in
    let many : 0 + length runners ≡ shape.shards = omega (arith, as_many) in
    let last : mark (0 + length runners) ≡ shape.rows = ap mark many ∙ first_row_last shape lawful in
    let sum = within.0 in
    omega (arith, first, last, sum)
