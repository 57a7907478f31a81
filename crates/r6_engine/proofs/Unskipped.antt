-- What the checks and repairs of a shard in service count; with a clean ledger they skip no row.
use Rattle.std.proofs.Common.{◌≡◌, ℕ, ◌+◌, ◌*◌, ◌<◌, ◌≤◌, List, [], ◌∷◌, All, length, zero, suc, inl, inr, ap, arith, option_and_then, slice_index_or, sym, ◌∙◌}
use Rattle.std.specs.List.{range_with_len}
use Rattle.std.proofs.Math.Nat.{suc-mul}
use Rattle.std.proofs.lemmas.List.{length-map}
use Rattle.std.proofs.lemmas.List.Elements.{All-head, All-tail}
use Rattle.std.proofs.lemmas.List.FromFn.{length-range_with_len}
use Rattle.std.proofs.lemmas.Nat.{mul-le}
use Rattle.r6_dev.specs.History.{Telling}
use Rattle.r6_layout.specs.Shape.{Shape, IsShape}
use Rattle.r6_layout.proofs.Shards.{first_row_grows, first_row_last}
use Rattle.r6_world.specs.Registers.{Snapshot}
use Rattle.r6_world.specs.ShardStates.{limit}
use Rattle.r6_core.specs.Shards.{CoreView, world_shard}
use Rattle.r6_engine.specs.lists.Events.{Event, Task, numbers_of, task_at, tasks_of}
use Rattle.r6_shard.specs.declared.parts.Parts.{Parts}
use Rattle.r6_shard.specs.Counted.{IsInService, counted_in}
use Rattle.r6_shard.specs.Whole.{IsClean}
use Rattle.r6_shard.specs.declared.performs.Performs.{Ghosts}
use Rattle.r6_engine.specs.declared.runner.scrub.ScrubDone.{ScrubDone}
use Rattle.r6_engine.specs.declared.runner.runner.Runner.{Runner}
use Rattle.r6_engine.specs.runner.Counted.{AddUp, IsUsedUp, LeavesNoneOut, rows_in, rows_of_shard}
use Rattle.r6_engine.specs.runner.Tasks.{scrub_in, done_scrub, scrubs_in}
use Rattle.r6_engine.specs.Serves.{HasServed}
use Rattle.r6_engine.proofs.EachShard.{all_passed}
use Rattle.r6_engine.proofs.Told.{picked-long}

-- each check or repair counts the rows of the shard, so that none is left to be skipped
none-of : (core : CoreView) (rows from to : ℕ) (passed : List ScrubDone) → AddUp rows from passed to → All (LeavesNoneOut core) passed
    → (IsUsedUp core → ⊥) → (k : ℕ) (d : ScrubDone) → k < length passed
    → let p = slice_index_or passed k d in rows_in p.after ≡ rows_in p.before + rows
none-of core rows from to [] adds none more k d below = absurd (omega (arith, below))
none-of core rows from to (p ∷ passed) adds none more zero d below =
    let left : p.left_out ≡ 0 = elim (All-head (LeavesNoneOut core) p passed none) [ inl is ↦ is | inr used ↦ absurd (more used) ] in
    let sum = adds.1 in omega (arith, left, sum)
none-of core rows from to (p ∷ passed) adds none more (suc k) d below =
    none-of core rows (rows_in p.after) to passed adds.2 (All-tail (LeavesNoneOut core) p passed none) more k d (omega (arith, below))

-- all of them count no more than so many times the rows, and with none left out just as many
no-more : (rows from to : ℕ) (passed : List ScrubDone) → AddUp rows from passed to → to ≤ from + length passed * rows
no-more rows from to [] adds = omega (arith, adds)
no-more rows from to (p ∷ passed) adds =
    let first = adds.0 in
    let counts = adds.1 in
    let rest = no-more rows (rows_in p.after) to passed adds.2 in
    let times : suc (length passed) * rows ≡ length passed * rows + rows = suc-mul (length passed) rows in
    omega (arith, first, counts, rest, times)

just : (core : CoreView) (rows from to : ℕ) (passed : List ScrubDone) → AddUp rows from passed to → All (LeavesNoneOut core) passed
    → (IsUsedUp core → ⊥) → to ≡ from + length passed * rows
just core rows from to [] adds none more = omega (arith, adds)
just core rows from to (p ∷ passed) adds none more =
    let left : p.left_out ≡ 0 = elim (All-head (LeavesNoneOut core) p passed none) [ inl is ↦ is | inr used ↦ absurd (more used) ] in
    let first = adds.0 in
    let counts = adds.1 in
    let rest = just core rows (rows_in p.after) to passed adds.2 (All-tail (LeavesNoneOut core) p passed none) more in
    let times : suc (length passed) * rows ≡ length passed * rows + rows = suc-mul (length passed) rows in
    omega (arith, left, first, counts, rest, times)

-- a shard has no more rows than the array
pub rows-within : (shape : Shape) (shard : ℕ) → IsShape shape → shard < shape.shards → rows_of_shard shape shard ≤ shape.rows
rows-within shape shard lawful below =
    let grows = first_row_grows shape (shard + 1) shape.shards lawful (omega (arith, below)) in
    let last = first_row_last shape lawful in omega (arith, grows, last)

module _ {P D : Type 0} {g : Ghosts P} (told : D → Telling) (shape : Shape) (lawful : IsShape shape) (events : List Event) (start : Snapshot) (window : ℕ)
    (own : Parts D) (shard : ℕ) (r : Runner P D g) (within : shard < shape.shards)
    (x : HasServed told shape events start window own shard r) (serves : IsInService r.shard.core)
    (few : (world_shard r.shard.core).tokens < limit) (small : length events * shape.rows < limit)
  where
    abbrev rows : ℕ
    rows = rows_of_shard shape shard

    abbrev passed : List ScrubDone
    passed = r.scrubs_done.items

    same-long : length passed ≡ length (scrubs_in shape shard events (numbers_of (tasks_of shape shard events)))
    same-long =
        sym (ap length (all_passed told shape events start window own shard r x) ∙ length-map passed done_scrub)

    -- as many checks and repairs as events at most
    as-many : length passed ≤ length events
    as-many =
        let numbers = numbers_of (tasks_of shape shard events) in
        let same = same-long in
        let picked : length (scrubs_in shape shard events numbers) ≤ length numbers =
        picked-long (λ number. option_and_then (λ (t : Task). scrub_in number t.duty) (task_at shape shard events number)) numbers in
        let tasks : length numbers ≡ length (tasks_of shape shard events) = length-map (tasks_of shape shard events) (λ (t : Task). t.number) in
        let all : length (tasks_of shape shard events) ≤ length (range_with_len 0 (length events)) =
        picked-long (task_at shape shard events) (range_with_len 0 (length events)) in
        let range = length-range_with_len 0 (length events) in
        omega (arith, same, picked, tasks, all, range)

    more-left : IsUsedUp r.shard.core → ⊥
    more-left used = elim used [
      | inl tokens ↦ omega (arith, tokens, few)
      | inr many ↦
          let sum = no-more rows 0 (counted_in r.shard.core) passed (x.counted serves).0 in
          let product = mul-le (length passed) rows (length events) shape.rows as-many (rows-within shape shard lawful within) in
          omega (arith, many, sum, product, small)
    ]

    -- each row was counted once for each check and repair
    pub counted-each : counted_in r.shard.core
        ≡ length (scrubs_in shape shard events (numbers_of (tasks_of shape shard events))) * rows_of_shard shape shard
    counted-each =
        let all = just r.shard.core rows 0 (counted_in r.shard.core) passed (x.counted serves).0 (x.counted serves).1 more-left in
        let same : length passed * rows ≡ length (scrubs_in shape shard events (numbers_of (tasks_of shape shard events))) * rows =
        ap (λ (n : ℕ). n * rows) same-long in
        omega (arith, all, same)

    pub none-skipped : IsClean r.shard.named r.shard.saw_out → (k : ℕ) (d : ScrubDone) → k < length r.scrubs_done.items
        → (slice_index_or r.scrubs_done.items k d).skipped ≡ 0
    none-skipped clean k d below =
        let whole = none-of r.shard.core rows 0 (counted_in r.shard.core) passed (x.counted serves).0 (x.counted serves).1 more-left k d below in
        let classed = x.classed k d below in
        let none = r.unskipped clean k d below in
        omega (arith, whole, classed, none)
