-- Runs of one core through read errors go on, call by call.
use Rattle.std.proofs.Common.{◌≡◌, ℕ, List, [], ◌∷◌, ◌++◌, refl}
use Rattle.r6_layout.specs.Shape.{IsShape}
use Rattle.r6_health.specs.Registers.{starting, without}
use Rattle.r6_layout.specs.PlainArray.{Block}
use Rattle.r6_world.specs.PlainArray.{Array, Read, Data, ArrayFailed}
use Rattle.r6_world.specs.Registers.{Snapshot, Degraded, Failed}
use Rattle.r6_world.specs.ShardStates.{LossOf}
use Rattle.r6_world.specs.Steps.{Event, Submit, Error, Read_error}
use Rattle.r6_world.specs.Worlds.{Devices}
use Rattle.r6_world.specs.Claims.{IsLawfulStart}
use Rattle.r6_world.specs.Witness.{smallest, small}
use Rattle.r6_core_runs.specs.declared.rebuilds.LostRow.{LostRow}
use Rattle.r6_core.specs.Shards.{CoreView}
use Rattle.r6_core.specs.Effects.{IsMade}
use Rattle.r6_core_runs.specs.Losses.{of_core, IsOneMade}
use Rattle.r6_core_runs.specs.Fixes.{MeetsErrors, PutsFix, ReadsFixed, LosesFixed, MeetsFailure, DeclaresThree, IsFailedBy, answered, ToFix, fix_events, three_lost, RunsThroughFix, RunsThroughFailedFix, RunsIntoFailure}
use Rattle.r6_core_runs.proofs.LossRuns.{with_block}
use Rattle.r6_core_runs.proofs.OneRuns.{read_of, write_of, looked_at, Comes, begins, does, looks, replies, meets, reads, writes, tells, finishes}
use Rattle.r6_core_runs.proofs.Alone.{IsSyncedIn, synced_still}

-- ---- commands

abbrev to_fix : {other parity lost : Block} {a b c : CoreView} → MeetsErrors a b → PutsFix other parity lost b c → ToFix lost
to_fix met put =
    record {
      direct = read_of met.direct;
      held = read_of met.again;
      other = read_of put.first;
      parity = read_of put.second;
      fix = write_of put.fix;
    }

module _ (limits : IsShape smallest) (device : Devices) (array : Array) (lawful : IsLawfulStart small (starting 0) device array) where
  -- ---- through read errors

  -- wherever a run has led
  pub errs_there : {register : Snapshot} {now : Devices} {events : List (ℕ × Event)} {a b : CoreView} → (met : MeetsErrors a b) → Comes limits device array lawful register now events a
      → Comes limits device array lawful register now
      (((events ++ (0, Submit (Read 0) 0) ∷ []) ++ of_core 0 (answered (read_of met.direct) Read_error)) ++ of_core 0 (answered (read_of met.again) Read_error)) b
  errs_there {register} {now} {events} {a} met x =
      meets limits device array lawful Read_error (λ w token. record {}) met.again
      (meets limits device array lawful Read_error (λ w token. record {}) met.direct (does limits device array lawful {old = a} (Submit (Read 0) 0) (λ w seen. record {}) met.asked x))

  meets_errors : {a b : CoreView} → IsMade smallest (starting 0) 0 a → (met : MeetsErrors a b)
      → Comes limits device array lawful (starting 0) device (of_core 0 (Submit (Read 0) 0 ∷ answered (read_of met.direct) Read_error ++ answered (read_of met.again) Read_error)) b
  meets_errors {a} made met = errs_there met (begins limits device array lawful a made)

  fixes : {a b c : CoreView} (blocks : LostRow) → device 2 0 0 ≡ blocks.other → device 3 0 0 ≡ blocks.parity → IsMade smallest (starting 0) 0 a → (met : MeetsErrors a b)
      → (put : PutsFix blocks.other blocks.parity blocks.lost b c) → Comes limits device array lawful (starting 0) (with_block device 1 0 0 blocks.lost) (of_core 0 (fix_events blocks (to_fix met put))) c
  fixes blocks on2 on3 made met put =
      writes limits device array lawful blocks.lost put.fix (reads limits device array lawful blocks.parity on3 put.second (reads limits device array lawful blocks.other on2 put.first (meets_errors made met)))

-- ---- whole runs

pub by_fix : (a b c d : CoreView) (blocks : LostRow) (block : Block) (start : Snapshot) → IsOneMade start a → MeetsErrors a b → PutsFix blocks.other blocks.parity blocks.lost b c
    → ReadsFixed start blocks.lost block c d → IsSyncedIn d → RunsThroughFix blocks block d
by_fix a b c d blocks block start made met put read in_sync = record {
  runs = λ device array lawful on2 on3. (
    to_fix met put,
    read_of read.again,
    finishes made.limits device array lawful
        (replies made.limits device array lawful read.seeing (Data block) read.replied
        (looks made.limits device array lawful (looked_at made.register_is read.known read.seeing read.looked)
        (reads made.limits device array lawful blocks.lost refl read.again (fixes made.limits device array lawful blocks on2 on3 made.here met put)))),
  );
  in_sync = synced_still read.known read.seeing d (Data block) (looked_at made.register_is read.known read.seeing read.looked) read.replied in_sync;
}

pub by_failed_fix : (a b c d : CoreView) (blocks : LostRow) (block : Block) (start register : Snapshot) → IsOneMade start a → register ≡ without (starting 0) 1 → MeetsErrors a b
    → PutsFix blocks.other blocks.parity blocks.lost b c → LosesFixed register block c d → RunsThroughFailedFix blocks block d
by_failed_fix a b c d blocks block start register made is met put lost = record {
  runs = λ device array lawful on2 on3. (
    to_fix met put,
    read_of lost.again,
    finishes made.limits device array lawful
        (replies made.limits device array lawful lost.seeing (Data block) lost.replied
        (looks made.limits device array lawful (looked_at is lost.lost lost.seeing lost.looked)
        (tells made.limits device array lawful (without (starting 0) 1) (LossOf 1 0) Degraded refl refl lost.declared
        (meets made.limits device array lawful Read_error (λ w token. record {}) lost.again (fixes made.limits device array lawful blocks on2 on3 made.here met put))))),
  );
}

pub by_failure : (a b c d e : CoreView) (start register : Snapshot) → IsOneMade start a → register ≡ three_lost → MeetsErrors a b → MeetsFailure b c → DeclaresThree c d → IsFailedBy register d e
    → RunsIntoFailure e
by_failure a b c d e start register made is met failing declared seen = record {
  runs = λ device array lawful. (
    read_of met.direct,
    read_of met.again,
    read_of failing.other,
    read_of failing.parity,
    finishes made.limits device array lawful
        (replies made.limits device array lawful seen.seeing ArrayFailed seen.replied
        (looks made.limits device array lawful (looked_at is d seen.seeing seen.looked)
        (tells made.limits device array lawful three_lost (LossOf 2 0) Failed refl refl declared.third
        (tells made.limits device array lawful (without (without (starting 0) 3) 1) (LossOf 1 0) Degraded refl refl declared.second
        (tells made.limits device array lawful (without (starting 0) 3) (LossOf 3 0) Degraded refl refl declared.first
        (meets made.limits device array lawful Error (λ w token. record {}) failing.parity
        (meets made.limits device array lawful Read_error (λ w token. record {}) failing.other (meets_errors made.limits device array lawful made.here met)))))))),
  );
}
