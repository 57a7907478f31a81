-- Every step from a full row keeps it, and leaves a full one.
use Rattle.std.proofs.Common.{inl, ℕ, List, sym, subst}
use Rattle.r6_recover.specs.Rows.{IsFull}
use Rattle.r6_stripe.specs.RowWorld.{World, Step, device_at, May, happens, left_by}
use Rattle.r6_stripe.specs.RowWorld.Step.{Begin, PutRead, PutFix, PutReadAgain, Restore, Compute, PutWrite, PutCopy, Perform, PerformCopy, Answer, AnswerCopy, Fail, Lose, Move, Drop, Change, ChangeSecond, End}
use Rattle.r6_stripe.proofs.Kept.{Kept, settled_same, answered_same}
use Rattle.r6_stripe.proofs.KeptInHold.{within_kept}
use Rattle.r6_stripe.proofs.KeptBegun.{begin_kept}
use Rattle.r6_stripe.proofs.KeptEnded.{end_kept}

module _ (row : List (List ℕ)) (world : World) (kept : Kept row world) where
  -- a step from a full row leaves a full one
  full_step : (step : Step) → IsFull world.hold.size row → May world step → IsFull (happens world step).hold.size (left_by world step row)
  full_step (Begin kind) full may = full
  full_step (PutRead i) full may = full
  full_step (PutFix i put) full may = full
  full_step (PutReadAgain i) full may = full
  full_step (Restore i block) full may = full
  full_step (Compute new) full may = full
  full_step (PutWrite i put) full may = full
  full_step (PutCopy i put) full may = full
  full_step (Perform i) full may = full
  full_step (PerformCopy i) full may = full
  full_step (AnswerCopy i) full may = subst (λ (n : ℕ). IsFull n row) (sym (settled_same world.hold i (device_at world.seconds i).command).1) full
  full_step (Move i) full may = full
  full_step (Drop i) full may = full
  full_step (ChangeSecond i block) full may = full
  full_step (Answer i) full may = subst (λ (n : ℕ). IsFull n row) (sym (answered_same world.hold i (device_at world.devices i).command).1) full
  full_step (Fail i) full may = full
  full_step (Lose i block) full may = full
  full_step (Change i block) full may = full
  full_step (End outcome) full may = subst (λ (r : List (List ℕ)). IsFull world.hold.size r) (sym kept.next_is) kept.next_full

  pub step_kept : (step : Step) → IsFull world.hold.size row → May world step → IsFull (happens world step).hold.size (left_by world step row) × Kept (left_by world step row) (happens world step)
  step_kept step full may = (full_step step full may, go step full may (full_step step full may))
    where
      go : (step : Step) → IsFull world.hold.size row → May world step → IsFull (happens world step).hold.size (left_by world step row) → Kept (left_by world step row) (happens world step)
      go (Begin kind) full may new = begin_kept row world kept kind full may.0 may.1
      go (PutRead i) full may new = within_kept row world kept (PutRead i) tt (inl new) may
      go (PutFix i put) full may new = within_kept row world kept (PutFix i put) tt (inl new) may
      go (PutReadAgain i) full may new = within_kept row world kept (PutReadAgain i) tt (inl new) may
      go (Restore i block) full may new = within_kept row world kept (Restore i block) tt (inl new) may
      go (Compute blocks) full may new = within_kept row world kept (Compute blocks) tt (inl new) may
      go (PutWrite i put) full may new = within_kept row world kept (PutWrite i put) tt (inl new) may
      go (PutCopy i put) full may new = within_kept row world kept (PutCopy i put) tt (inl new) may
      go (Perform i) full may new = within_kept row world kept (Perform i) tt (inl new) may
      go (PerformCopy i) full may new = within_kept row world kept (PerformCopy i) tt (inl new) may
      go (AnswerCopy i) full may new = within_kept row world kept (AnswerCopy i) tt (inl new) may
      go (Move i) full may new = within_kept row world kept (Move i) tt (inl new) may
      go (Drop i) full may new = within_kept row world kept (Drop i) tt (inl new) may
      go (ChangeSecond i block) full may new = within_kept row world kept (ChangeSecond i block) tt (inl new) may
      go (Answer i) full may new = within_kept row world kept (Answer i) tt (inl new) may
      go (Fail i) full may new = within_kept row world kept (Fail i) tt (inl new) may
      go (Lose i block) full may new = within_kept row world kept (Lose i block) tt (inl new) may
      go (Change i block) full may new = within_kept row world kept (Change i block) tt (inl new) may
      go (End outcome) full may new = end_kept row world kept outcome may
