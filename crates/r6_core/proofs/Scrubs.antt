-- What a hold is for: requests, or a check or repair, whose row is counted.
use Rattle.std.proofs.Common.{Bool, ◌≡◌, ℕ, ◌+◌, ◌*◌, ◌≤◌, List, [], ◌∷◌, map, refl, ap, Some, arith}
use Rattle.r6_recover.specs.declared.class.RowClass.TheVariants as class
use Rattle.r6_stripe.specs.Holds.{Kind}
use Rattle.r6_world.specs.PlainArray as world
use Rattle.r6_world.specs.Tasks.{Task, ReadFor, WriteFor, Rebuild, Check, Repair}
use Rattle.r6_world.specs.ShardStates as shards
use Rattle.r6_world.specs.Changes.{counted}
use Rattle.r6_frames.specs.declared.finish.Ended.{Ended}
use Rattle.r6_frames.specs.declared.finish.Ended.TheVariants as ended
use Rattle.r6_frames.specs.declared.frames.Job.{Job}
use Rattle.r6_frames.specs.declared.frames.Job.TheVariants as job
use Rattle.r6_frames.specs.declared.frames.Scrub.TheVariants as scrub
use Rattle.r6_frames.specs.Views.{batch_in, is_scrub, requests_by, task_by}
use Rattle.r6_frames.specs.Calls.{requests_of as requests_ended, ended_task, ended_outcome}
use Rattle.r6_frames.specs.Writes.{Entry, entries_of, request_of, write_task}
use Rattle.r6_core.specs.declared.counts.Counts.{Counts}
use Rattle.r6_core.specs.Shards.{counts_of}
use Rattle.r6_core.specs.Inside.{is_turn, is_written, numbered_op, one_if, rows_found}

-- the requests of a task
abbrev pub requests_for : Task → List (ℕ × world.Op)
requests_for (ReadFor id block) = (id, world.Op.Read block) ∷ []
requests_for (WriteFor []) = []
requests_for (WriteFor (w ∷ writes)) = (w.id, world.Op.Write w.block w.new_data) ∷ requests_for (WriteFor writes)
requests_for (Rebuild slot generation) = []
requests_for Check = []
requests_for Repair = []

writes_numbered : (writes : List Entry) → requests_for (write_task writes) ≡ map numbered_op (map request_of writes)
writes_numbered [] = refl
writes_numbered (write ∷ writes) = ap (λ rs. numbered_op (request_of write) ∷ rs) (writes_numbered writes)

pub requests_of_job : (j : Job) (kind : Kind) → requests_for (task_by j kind) ≡ requests_by j kind
requests_of_job (job.Read served buffer) kind = refl
requests_of_job (job.Write served) kind = writes_numbered (entries_of served (batch_in kind))
requests_of_job (job.Scrub scrub.Check) kind = refl
requests_of_job (job.Scrub scrub.Repair) kind = refl
requests_of_job (job.Rebuild target) kind = refl

pub requests_of_end : (e : Ended) → requests_for (ended_task e) ≡ map numbered_op (requests_ended e)
requests_of_end (ended.Read served buffer) = refl
requests_of_end (ended.Wrote writes) = writes_numbered writes
requests_of_end (ended.Classed scrub.Check class) = refl
requests_of_end (ended.Classed scrub.Repair class) = refl
requests_of_end (ended.Skipped scrub.Check) = refl
requests_of_end (ended.Skipped scrub.Repair) = refl
requests_of_end (ended.Rebuilt target row) = refl
requests_of_end (ended.GivenUp target) = refl

-- whether it is a check or repair, whether it is any of what a shard does by itself, and whether it is writes
abbrev pub weights : Task → ℕ × ℕ × ℕ
weights (ReadFor id block) = (0, 0, 0)
weights (WriteFor writes) = (0, 0, 1)
weights (Rebuild slot generation) = (0, 1, 0)
weights Check = (1, 1, 0)
weights Repair = (1, 1, 0)

abbrev pub scrub_weight : Task → ℕ
scrub_weight task = (weights task).0

abbrev pub turn_weight : Task → ℕ
turn_weight task = (weights task).1

abbrev pub write_weight : Task → ℕ
write_weight task = (weights task).2

all_weigh : (row : ℕ) (j : Job) (kind : Kind)
    → (one_if is_scrub (Some (row, j)), one_if is_turn (Some (row, j)), one_if is_written (Some (row, j))) ≡ weights (task_by j kind)
all_weigh row (job.Read served buffer) kind = refl
all_weigh row (job.Write served) kind = refl
all_weigh row (job.Scrub scrub.Check) kind = refl
all_weigh row (job.Scrub scrub.Repair) kind = refl
all_weigh row (job.Rebuild target) kind = refl

-- a test of what a row is held for counts as this weight of its task
abbrev pub Weighs : (test : Job → Bool) (weight : Task → ℕ) → Type 0
Weighs test weight = (row : ℕ) (j : Job) (kind : Kind) → one_if test (Some (row, j)) ≡ weight (task_by j kind)

pub scrubs_weigh : Weighs is_scrub scrub_weight
scrubs_weigh row j kind = ap (λ (ws : ℕ × ℕ × ℕ). ws.0) (all_weigh row j kind)

pub turns_weigh : Weighs is_turn turn_weight
turns_weigh row j kind = ap (λ (ws : ℕ × ℕ × ℕ). ws.1) (all_weigh row j kind)

pub writes_weigh : Weighs is_written write_weight
writes_weigh row j kind = ap (λ (ws : ℕ × ℕ × ℕ). ws.2) (all_weigh row j kind)

-- ---- the rows that are counted

abbrev found_in : shards.Counts → ℕ
found_in k = k.consistent + k.wrong_p + k.wrong_q + k.wrong_data + k.many + k.repaired + k.rebuilt

-- so many more at most are found, and passed over
abbrev IsMore : shards.Counts → shards.Counts → Task → Type 0
IsMore old new task = (found_in new ≤ found_in old + 2 * turn_weight task) × (new.skipped ≤ old.skipped + scrub_weight task)

-- the row of a check or repair is counted twice at most
counted_rows : (k : shards.Counts) (e : Ended) → IsMore k (counted k (ended_task e) (ended_outcome e)) (ended_task e)
counted_rows k (ended.Read served buffer) = (omega arith, omega arith)
counted_rows k (ended.Wrote writes) = (omega arith, omega arith)
counted_rows k (ended.Rebuilt target row) = (omega arith, omega arith)
counted_rows k (ended.GivenUp target) = (omega arith, omega arith)
counted_rows k (ended.Skipped scrub.Check) = (omega arith, omega arith)
counted_rows k (ended.Skipped scrub.Repair) = (omega arith, omega arith)
counted_rows k (ended.Classed scrub.Check class.Consistent) = (omega arith, omega arith)
counted_rows k (ended.Classed scrub.Check class.WrongP) = (omega arith, omega arith)
counted_rows k (ended.Classed scrub.Check class.WrongQ) = (omega arith, omega arith)
counted_rows k (ended.Classed scrub.Check (class.WrongData z)) = (omega arith, omega arith)
counted_rows k (ended.Classed scrub.Check class.Many) = (omega arith, omega arith)
counted_rows k (ended.Classed scrub.Repair class.Consistent) = (omega arith, omega arith)
counted_rows k (ended.Classed scrub.Repair class.WrongP) = (omega arith, omega arith)
counted_rows k (ended.Classed scrub.Repair class.WrongQ) = (omega arith, omega arith)
counted_rows k (ended.Classed scrub.Repair (class.WrongData z)) = (omega arith, omega arith)
counted_rows k (ended.Classed scrub.Repair class.Many) = (omega arith, omega arith)

pub counted_few : (old new : Counts) (e : Ended) → counts_of new ≡ counted (counts_of old) (ended_task e) (ended_outcome e)
    → (rows_found new ≤ rows_found old + 2 * turn_weight (ended_task e)) × (new.skipped ≤ old.skipped + scrub_weight (ended_task e))
counted_few old new e is =
    let found = ap found_in is in
    let passed = ap (λ (k : shards.Counts). k.skipped) is in
    let more = counted_rows (counts_of old) e in
    let found_more = more.0 in
    let passed_more = more.1 in
    (omega (arith, found, found_more), omega (arith, passed, passed_more))
