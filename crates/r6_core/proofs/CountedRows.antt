-- How many rows are held for what passes a test.
use Rattle.std.proofs.Common.{◌≡◌, ◌≢◌, ℕ, zero, suc, ◌+◌, ◌≤◌, Bool, List, [], ◌∷◌, length, sym, ap, ◌∙◌, refl, Option, Some, None, arith}
use Rattle.std.specs.Prelude.{option_map}
use Rattle.r6_frames.specs.declared.frames.Job.{Job}
use Rattle.r6_frames.specs.declared.frames.HeldRow.{HeldRow}
use Rattle.r6_frames.specs.declared.frames.FrameUse.{FrameUse}
use Rattle.r6_frames.specs.declared.frames.Frames.{Frames}
use Rattle.r6_frames.specs.Views.{held_for, hold_at, is_scrub, plan_in, row_in}
use Rattle.r6_frames.specs.Calls.{KeepsHeld, KeepsOthers, KeepsRows}
use Rattle.r6_frames.specs.Sound as held
use Rattle.r6_core.specs.declared.counts.Counts.{Counts}
use Rattle.r6_core.specs.Inside.{AreBounded, count_rows, is_turn, one_if}

-- what is held in a frame, as it is counted
abbrev pub row_weight : (Job → Bool) → List FrameUse → ℕ → ℕ
row_weight test held frame = one_if test (option_map held_for (hold_at held frame))

same_rows : (test : Job → Bool) (old new : List FrameUse) → length new ≡ length old
    → ((frame : ℕ) → option_map held_for (hold_at new frame) ≡ option_map held_for (hold_at old frame)) → count_rows test new ≡ count_rows test old
same_rows test [] [] long same = refl
same_rows test [] (v ∷ new) long same = absurd (omega (arith, long))
same_rows test (u ∷ old) [] long same = absurd (omega (arith, long))
same_rows test (u ∷ old) (v ∷ new) long same =
    let first = ap (one_if test) (same zero) in
    let rest = same_rows test old new (omega (arith, long)) (λ frame. same (suc frame)) in
    omega (arith, first, rest)

but_one : (test : Job → Bool) (frame : ℕ) (old new : List FrameUse) → length new ≡ length old
    → ((other : ℕ) → other ≢ frame → option_map held_for (hold_at new other) ≡ option_map held_for (hold_at old other))
    → count_rows test new + row_weight test old frame ≡ count_rows test old + row_weight test new frame
but_one test frame [] [] long same = refl
but_one test frame [] (v ∷ new) long same = absurd (omega (arith, long))
but_one test frame (u ∷ old) [] long same = absurd (omega (arith, long))
but_one test zero (u ∷ old) (v ∷ new) long same =
    let rest = same_rows test old new (omega (arith, long)) (λ other. same (suc other) (λ e. absurd (omega (arith, e)))) in
    omega (arith, rest)
but_one test (suc frame) (u ∷ old) (v ∷ new) long same =
    let first = ap (one_if test) (same zero (λ e. absurd (omega (arith, e)))) in
    let rest = but_one test frame old new (omega (arith, long)) (λ other ne. same (suc other) (λ e. ne (omega (arith, e)))) in
    omega (arith, first, rest)

as_many : (old new : Frames) → held.IsSound old → held.IsSound new → length new.uses ≡ length old.uses
as_many old new before sound = sound.frames.count ∙ sym before.frames.count

-- as many, where all rows are held for what they were
pub rows_counted_still : (test : Job → Bool) (old new : Frames) → held.IsSound old → held.IsSound new → KeepsRows old new
    → count_rows test new.uses ≡ count_rows test old.uses
rows_counted_still test old new before sound rows = same_rows test old.uses new.uses (as_many old new before sound) rows

-- of none more than before
abbrev pub NoMoreRows : Frames → Frames → Type 0
NoMoreRows old new = (test : Job → Bool) → count_rows test new.uses ≤ count_rows test old.uses

pub same_or_fewer : (old new : Frames) → held.IsSound old → held.IsSound new → KeepsRows old new → NoMoreRows old new
same_or_fewer old new before sound rows = λ test. let same = rows_counted_still test old new before sound rows in omega (arith, same)

-- and but for one frame
pub rows_counted_but_one : (test : Job → Bool) (frame : ℕ) (old new : Frames) → held.IsSound old → held.IsSound new → KeepsOthers old frame new
    → count_rows test new.uses + row_weight test old.uses frame ≡ count_rows test old.uses + row_weight test new.uses frame
rows_counted_but_one test frame old new before sound others =
    but_one test frame old.uses new.uses (as_many old new before sound) (λ other ne. ap (λ u. option_map held_for (row_in u)) (others other ne))

-- none, where no row is held
pub no_rows_counted : (test : Job → Bool) (held : List FrameUse) → ((frame : ℕ) → hold_at held frame ≡ None) → count_rows test held ≡ 0
no_rows_counted test [] none = refl
no_rows_counted test (u ∷ held) none =
    let first = ap (λ o. one_if test (option_map held_for o)) (none zero) in
    let rest = no_rows_counted test held (λ frame. none (suc frame)) in
    omega (arith, first, rest)

-- rows whose holds are as they were are held for what they were
held_for_in : (o : Option HeldRow) → option_map (λ plan. plan.0) (option_map plan_in o) ≡ option_map held_for o
held_for_in None = refl
held_for_in (Some h) = refl

pub rows_of_holds : (old new : Frames) → KeepsHeld old new → KeepsRows old new
rows_of_holds old new keeps frame =
    sym (held_for_in (hold_at new.uses frame)) ∙ ap (option_map (λ plan. plan.0)) (keeps frame) ∙ held_for_in (hold_at old.uses frame)

-- the counts stay right where no more rows are held for checks and repairs, and no token was taken back
pub counted_still : (k : Counts) (old new : Frames) → AreBounded k old → count_rows is_turn new.uses ≤ count_rows is_turn old.uses
    → count_rows is_scrub new.uses ≤ count_rows is_scrub old.uses → old.commands.next ≤ new.commands.next → AreBounded k new
counted_still k old new counted turns scrubs next = record { found = omega (arith, counted.found, turns, next); skipped = omega (arith, counted.skipped, scrubs) }

pub counted_kept : (k : Counts) (old new : Frames) → AreBounded k old → NoMoreRows old new → old.commands.next ≤ new.commands.next → AreBounded k new
counted_kept k old new counted rows next = counted_still k old new counted (rows is_turn) (rows is_scrub) next
