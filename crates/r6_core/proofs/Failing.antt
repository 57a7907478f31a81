-- The first read of a position met an error: no slot is lost, and its hold goes on with the other blocks.
use Rattle.std.proofs.Common.{◌≡◌, ℕ, refl, ap, ◌∙◌, arith}
use Rattle.r6_world.specs.ShardStates.{Shard}
use Rattle.r6_world.specs.Changes.{Fail, after}
use Rattle.r6_world.specs.Steps.{GoesOn, Read_error, Taken, Through}
use Rattle.r6_frames.specs.declared.frames.Frames.{Frames}
use Rattle.r6_frames.specs.Views.{held_requests}
use Rattle.r6_frames.specs.Calls.{Fails, KeepsRows, OwesNoMore}
use Rattle.r6_frames.specs.Sound as held
use Rattle.r6_core.specs.declared.state.State.{State}
use Rattle.r6_core.specs.Shards.{layout_in, rest_of, state_of}
use Rattle.r6_core.specs.Inside.{GivesOver, HandsBack, IsSound, TakesThrough}
use Rattle.r6_core.proofs.Going.{no_rest, Goes, gone_on, goes_still, gone_state}
use Rattle.r6_core.proofs.Losing.{went_on}

pub failed_goes : (s : State) (fs : Frames) (token : ℕ) → IsSound s → held.IsSound fs → Fails s.frames token fs → held_requests fs ≡ held_requests s.frames
    → KeepsRows s.frames fs → OwesNoMore s.frames fs → Goes s fs s.calls
failed_goes s fs token sound frames fails requests rows tokens =
    let is = (fails.2 no_rest).4 in
    goes_still s fs sound frames fails.0 fails.1 (ap (λ (x : Shard). x.slot) is, ap (λ (x : Shard). x.saw_failed) is) requests fails.3 rows
    (let a = tokens.0 in let b = tokens.1 in omega (arith, a, b)) (let b = tokens.1 in omega (arith, b))

-- the hold's read failed; slots are lost for read errors, and holds go on
pub failed_takes : (s : State) (fs : Frames) (token : ℕ) (given back new : State) → Goes s fs s.calls → Fails s.frames token fs → GivesOver (gone_on s fs s.calls) given → HandsBack given back
    → Through (layout_in back) back.frames.shard GoesOn (state_of back) (state_of new) → TakesThrough s token Read_error Taken new
failed_takes s fs token given back new goes fails gives handed leads =
    let failed = fails.2 (rest_of s) in
    let change = Fail token failed.0 failed.1 in (
      change,
      (refl, failed.2),
      failed.3,
      went_on s (gone_on s fs s.calls) given back new (after (layout_in s) (state_of s) change) fails.0 fails.1 (gone_state s fs s.calls goes fails.3 ∙ failed.4) gives handed leads,
    )
