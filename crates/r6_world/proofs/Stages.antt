-- What the stage of a request was, by the stage that it has.
use Rattle.std.proofs.Common.{◌≡◌, ◌==◌, ℕ, Bool, true, false, if◌then◌else◌}
use Rattle.r6_world.specs.PlainArray.{Op, Read, Write, ArrayFailed}
use Rattle.r6_world.specs.Tasks.{Outcome, Answered, Wrote, Rebuilt, GivenUp, Classed, Skipped}
use Rattle.r6_world.specs.ShardStates.{Stage, Waiting, Erred, Held, Reading, Finished, Released}
use Rattle.r6_world.specs.Changes.{outcome_reply, finished_stage, released_stage, failed_stage}

-- it is read directly: it was so before a hold ended, and before a look released it, and none is at a failure
pub finished-reading : (f : ℕ) (outcome : Outcome) (op : Op) (before : Stage) (t : ℕ) → finished_stage f outcome op before ≡ Reading t → before ≡ Reading t
finished-reading f outcome op Waiting t e = e
finished-reading f outcome op Erred t e = e
finished-reading f outcome op (Held k) t e = absurd (at (k == f) e)
  where
    at : (b : Bool) → (if b then Finished (outcome_reply outcome op) else Held k) ≡ Reading t → ⊥
    at true e = cc
    at false e = cc
finished-reading f outcome op (Reading u) t e = e
finished-reading f outcome op (Finished reply) t e = e
finished-reading f outcome op (Released reply) t e = e

pub released-reading : (before : Stage) (t : ℕ) → released_stage before ≡ Reading t → before ≡ Reading t
released-reading Waiting t e = e
released-reading Erred t e = e
released-reading (Held k) t e = e
released-reading (Reading u) t e = e
released-reading (Finished reply) t e = cc
released-reading (Released reply) t e = e

pub failed-reading : (before : Stage) (t : ℕ) → failed_stage before ≡ Reading t → ⊥
failed-reading Waiting t e = cc
failed-reading Erred t e = cc
failed-reading (Held k) t e = cc
failed-reading (Reading u) t e = cc
failed-reading (Finished reply) t e = cc
failed-reading (Released reply) t e = cc

-- no hold answers that the array has failed
pub outcome-served : (outcome : Outcome) (op : Op) → outcome_reply outcome op ≡ ArrayFailed → ⊥
outcome-served (Answered b) (Read block) e = cc
outcome-served (Answered b) (Write block new_data) e = cc
outcome-served Wrote op e = cc
outcome-served Rebuilt op e = cc
outcome-served GivenUp op e = cc
outcome-served (Classed class) op e = cc
outcome-served Skipped op e = cc
