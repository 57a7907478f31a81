-- There is a room for writes for each frame that holds no row for writes.
use Rattle.std.proofs.Common.{◌≡◌, ℕ, zero, suc, ◌+◌, ◌<◌, ◌≤◌, [], Bool, true, false, List, ◌∷◌, length, ap, ◌∙◌, refl, Option, Some, None, arith}
use Rattle.std.specs.Prelude.{option_map, if◌then◌else◌}
use Rattle.std.specs.List.{AllByRecursion}
use Rattle.r6_world.specs.Tasks.{Task, ReadFor, WriteFor, Rebuild, Check, Repair}
use Rattle.r6_frames.specs.declared.frames.Job.{Job}
use Rattle.r6_frames.specs.declared.frames.Job.TheVariants as job
use Rattle.r6_frames.specs.declared.frames.Scrub.TheVariants as scrub
use Rattle.r6_frames.specs.declared.frames.HeldRow.{HeldRow}
use Rattle.r6_frames.specs.declared.frames.FrameUse.{FrameUse}
use Rattle.r6_frames.specs.declared.frames.Frames.{Frames}
use Rattle.r6_frames.specs.Views.{held_for, hold_at, hold_of, kind_in, row_in, task_by}
use Rattle.r6_frames.specs.Calls.{IsFreeFrame, KeepsHolds, KeepsOthers, KeepsRows}
use Rattle.r6_frames.specs.Sound as held
use Rattle.r6_frames.specs.Writes.{Entry}
use Rattle.r6_core.specs.Inside.{HaveRooms, count_rows, is_written, one_if}
use Rattle.r6_core.proofs.CountedRows.{row_weight, rows_counted_but_one, rows_counted_still}

-- what a row is held for is writes, if its job is
abbrev pub is_write : Task → Bool
is_write (ReadFor id block) = false
is_write (WriteFor writes) = true
is_write (Rebuild slot generation) = false
is_write Check = false
is_write Repair = false

pub written_is : (h : HeldRow) → is_written h.job ≡ is_write (hold_of h).task
written_is h = by_job h.job
  where
    by_job : (j : Job) → is_written j ≡ is_write (task_by j (kind_in h))
    by_job (job.Read served buffer) = refl
    by_job (job.Write served) = refl
    by_job (job.Scrub scrub.Check) = refl
    by_job (job.Scrub scrub.Repair) = refl
    by_job (job.Rebuild target) = refl

-- as many rows are held for writes
pub rooms_still : (rooms : List (List Entry)) (old new : Frames) → held.IsSound old → held.IsSound new → KeepsRows old new → HaveRooms rooms old → HaveRooms rooms new
rooms_still rooms old new before sound rows is =
    record {
      many = ap (λ n. length rooms + n) (rows_counted_still is_written old new before sound rows) ∙ is.many;
      empty = is.empty;
    }

-- so where the rows are the same
pub rooms_same : (rooms : List (List Entry)) (old new : Frames) → KeepsHolds old new → HaveRooms rooms old → HaveRooms rooms new
rooms_same rooms old new holds is =
    record { many = ap (λ uses. length rooms + count_rows is_written uses) holds ∙ is.many; empty = is.empty }

-- ---- a row more is held

weight_of : (uses : List FrameUse) (frame : ℕ) (h : HeldRow) → hold_at uses frame ≡ Some h → row_weight is_written uses frame ≡ (if is_write (hold_of h).task then 1 else 0)
weight_of uses frame h at = ap (λ o. one_if is_written (option_map held_for o)) at ∙ ap (λ (b : Bool). if b then 1 else 0) (written_is h)

module _ (old new : Frames) (frame : ℕ) (before : held.IsSound old) (sound : held.IsSound new) (others : KeepsOthers old frame new) (h : HeldRow) where
  -- one begins
  module _ (none : hold_at old.uses frame ≡ None) (at : hold_at new.uses frame ≡ Some h) where
    one_more : count_rows is_written new.uses ≡ count_rows is_written old.uses + (if is_write (hold_of h).task then 1 else 0)
    one_more =
        let counted = rows_counted_but_one is_written frame old new before sound others in
        let was : row_weight is_written old.uses frame ≡ 0 = ap (λ o. one_if is_written (option_map held_for o)) none in
        let now = weight_of new.uses frame h at in
        omega (arith, counted, was, now)

    -- for something else no room is taken
    pub rooms_unwritten : (rooms : List (List Entry)) → is_write (hold_of h).task ≡ false → HaveRooms rooms old → HaveRooms rooms new
    rooms_unwritten rooms not is =
        let more = one_more ∙ ap (λ (b : Bool). count_rows is_written old.uses + (if b then 1 else 0)) not in
        let many = is.many in
        record { many = omega (arith, more, many); empty = is.empty }

    -- for writes one is
    pub rooms_written : (rooms left : List (List Entry)) → is_write (hold_of h).task ≡ true → HaveRooms rooms old → length left + 1 ≡ length rooms → AllByRecursion (λ writes. writes ≡ []) left → HaveRooms left new
    rooms_written rooms left are is fewer empty =
        let more = one_more ∙ ap (λ (b : Bool). count_rows is_written old.uses + (if b then 1 else 0)) are in
        let many = is.many in
        record { many = omega (arith, more, many, fewer); empty = empty }

-- at most all are held, and not one that is free
pub few_rows : (test : Job → Bool) (uses : List FrameUse) → count_rows test uses ≤ length uses
few_rows test [] = omega arith
few_rows test (u ∷ uses) =
    let rest = few_rows test uses in
    let one = at_most_one test (option_map held_for (row_in u)) in
    omega (arith, rest, one)
  where
    by_test : (b : Bool) → (if b then 1 else 0) ≤ 1
    by_test true = omega arith
    by_test false = omega arith

    at_most_one : (test : Job → Bool) (held : Option (ℕ × Job)) → one_if test held ≤ 1
    at_most_one test None = omega arith
    at_most_one test (Some one) = by_test (test one.1)

fewer_rows : (test : Job → Bool) (uses : List FrameUse) (frame : ℕ) → frame < length uses → hold_at uses frame ≡ None → suc (count_rows test uses) ≤ length uses
fewer_rows test [] frame below none = absurd (omega (arith, below))
fewer_rows test (u ∷ uses) zero below none =
    let first : one_if test (option_map held_for (row_in u)) ≡ 0 = ap (λ o. one_if test (option_map held_for o)) none in
    let rest = few_rows test uses in
    omega (arith, first, rest)
fewer_rows test (u ∷ uses) (suc frame) below none =
    let rest = fewer_rows test uses frame (omega (arith, below)) none in
    let one = few_rows test (u ∷ []) in
    omega (arith, rest, one)

-- while a frame is free there is a room
pub room_left : (rooms : List (List Entry)) (fs : Frames) (frame : ℕ) → held.IsSound fs → IsFreeFrame fs frame → HaveRooms rooms fs → 0 < length rooms
room_left rooms fs frame sound free is =
    let few = fewer_rows is_written fs.uses frame (omega (arith, free.0, sound.frames.count)) (ap (λ (u : FrameUse). row_in u) free.1) in
    let many = is.many in
    omega (arith, few, many, sound.frames.count)
