-- Runs of one core one of whose devices is replaced in service.
use Rattle.std.proofs.Common.{◌≡◌, ℕ, List, [], ◌∷◌, ◌++◌, refl, ap, ◌∙◌}
use Rattle.r6_health.specs.Registers.{starting, after}
use Rattle.r6_layout.specs.PlainArray.{Block}
use Rattle.r6_world.specs.PlainArray.{Array, Read, Write, Data, Done}
use Rattle.r6_world.specs.Registers.{Snapshot, Replace, DeclareLost, ReportRebuilt, Degraded, Complete, Kept}
use Rattle.r6_world.specs.Tasks.{Rebuild}
use Rattle.r6_world.specs.ShardStates.{LossOf, RebuildOf}
use Rattle.r6_world.specs.Steps.{Event, Submit, Good, Error, Turn_started, Look, Take_reply}
use Rattle.r6_world.specs.Worlds.{Devices}
use Rattle.r6_world.specs.Claims.{IsLawfulStart}
use Rattle.r6_world.specs.Witness.{smallest, small}
use Rattle.r6_layout.specs.Shape.{IsShape}
use Rattle.r6_core_runs.specs.declared.rebuilds.LostRow.{LostRow}
use Rattle.r6_core_runs.specs.declared.replacements.WrittenRow.{WrittenRow}
use Rattle.r6_core.specs.Shards.{CoreView}
use Rattle.r6_core.specs.Effects.{IsMade}
use Rattle.r6_core_runs.specs.Losses.{of_core, Tells, IsOneMade}
use Rattle.r6_core_runs.specs.Rebuilds.{TakesUp}
use Rattle.r6_core_runs.specs.Replacements.{LooksBeside, CopiesRow, RestoresRow, LosesNew, ReadsNew, ReadsOld, Turned, taken_up, replacing, replaced, without_old, rebuilt_alone, kept, WritesBoth, SeesDone, RunsThroughReplacement, RunsThroughLossOfOld, RunsThroughLossOfNew, RunsThroughWriteToBoth}
use Rattle.r6_core_runs.specs.Fixes.{answered}
use Rattle.r6_core_runs.proofs.OneRuns.{read_of, write_of, failed_of, looked_at, Comes, begins, does, looks, replies, meets, reads, writes, fails, calls_in, tells, finishes}

abbrev pub turned_by : {old new : CoreView} → TakesUp old new → Turned
turned_by t = record { slot = t.slot; generation = t.generation }

module _ (limits : IsShape smallest) (device : Devices) (array : Array) (lawful : IsLawfulStart small (starting 0) device array) where
  -- up to the turn that takes the row up
  pub takes_up : {a b c : CoreView} {start next : Snapshot} → IsMade smallest (starting 0) 0 a → start ≡ starting 0 → LooksBeside start next a b → (t : TakesUp b c)
      → Comes limits device array lawful replacing device (of_core 0 (Look replacing ∷ taken_up (turned_by t))) c
  takes_up {a} {b} made start_is beside t =
      does limits device array lawful {old = b} (Turn_started (Rebuild t.slot t.generation)) (λ w seen. record {}) t.started
      (looks limits device array lawful (looked_at (beside.replacing_is ∙ ap (λ r. after 1 r (Replace 1)) start_is) a b beside.looked)
      (calls_in limits device array lawful replacing (Replace 1) (record {}) refl (begins limits device array lawful a made)))

-- what was looked at
pub seen_as : {start next : Snapshot} {a b : CoreView} → start ≡ starting 0 → LooksBeside start next a b → next ≡ replacing
seen_as start_is beside = beside.replacing_is ∙ ap (λ r. after 1 r (Replace 1)) start_is

-- from where the register shows this, block 0 is read from the new device
module _ (limits : IsShape smallest) (device : Devices) (array : Array) (lawful : IsLawfulStart small (starting 0) device array) where
  reads_new : {register shown : Snapshot} {now : Devices} {events : List (ℕ × Event)} {a b : CoreView} {block back : Block} → register ≡ shown → now 1 1 0 ≡ block
      → (new : ReadsNew register block back a b) → Comes limits device array lawful shown now events a
      → Comes limits device array lawful shown now
      (((((events ++ (0, Look shown) ∷ []) ++ (0, Submit (Read 0) 0) ∷ []) ++ of_core 0 (answered (read_of new.read.read) (Good block))) ++ (0, Look shown) ∷ [])
      ++ (0, Take_reply 0 (Data back)) ∷ []) b
  reads_new {register} {shown} {now} {events} {a} {b} {block} {back} is stands new x =
      replies limits device array lawful new.read.seeing (Data back) new.read.replied
      (looks limits device array lawful (looked_at is new.read.reading new.read.seeing new.read.looked)
      (reads limits device array lawful block stands new.read.read
      (does limits device array lawful {old = new.knowing} (Submit (Read 0) 0) (λ w seen. record {}) new.read.asked
      (looks limits device array lawful (looked_at is a new.knowing new.saw) x))))

pub by_replacement : (a b c d e : CoreView) (block back : Block) (start next last : Snapshot) → IsOneMade start a → LooksBeside start next a b → CopiesRow block block b c
    → Tells (RebuildOf 1 1) Complete c d → last ≡ after 1 next (ReportRebuilt 0 1 1) → ReadsNew last block back d e → RunsThroughReplacement block back e
by_replacement a b c d e block back start next last made beside copies reported last_is new =
    let is : last ≡ replaced = last_is ∙ ap (λ r. after 1 r (ReportRebuilt 0 1 1)) (seen_as made.register_is beside) in
    record {
      runs = λ device array lawful on1. (
        turned_by copies.turned,
        read_of copies.read,
        write_of copies.write,
        read_of new.read.read,
        finishes made.limits device array lawful
            (reads_new made.limits device array lawful is refl new
            (tells made.limits device array lawful replaced (RebuildOf 1 1) Complete refl refl reported
            (writes made.limits device array lawful block copies.write
            (reads made.limits device array lawful block on1 copies.read
            (takes_up made.limits device array lawful made.here made.register_is beside copies.turned))))),
      );
    }

pub by_loss_of_old : (a b c d e f : CoreView) (blocks : LostRow) (back : Block) (start next lost last : Snapshot) → IsOneMade start a → LooksBeside start next a b
    → RestoresRow blocks.other blocks.parity blocks.lost b c → Tells (LossOf 1 0) Degraded c d → Tells (RebuildOf 1 1) Complete d e
    → lost ≡ after 1 next (DeclareLost 1 0) → last ≡ after 1 lost (ReportRebuilt 0 1 1) → ReadsNew last blocks.lost back e f → RunsThroughLossOfOld blocks back f
by_loss_of_old a b c d e f blocks back start next lost last made beside restores declared reported lost_is last_is new =
    let alone : lost ≡ without_old = lost_is ∙ ap (λ r. after 1 r (DeclareLost 1 0)) (seen_as made.register_is beside) in
    let is : last ≡ rebuilt_alone = last_is ∙ ap (λ r. after 1 r (ReportRebuilt 0 1 1)) alone in
    record {
      runs = λ device array lawful on2 on3. (
        turned_by restores.turned,
        read_of restores.failed,
        read_of restores.first,
        read_of restores.second,
        write_of restores.write,
        read_of new.read.read,
        finishes made.limits device array lawful
            (reads_new made.limits device array lawful is refl new
            (tells made.limits device array lawful rebuilt_alone (RebuildOf 1 1) Complete refl refl reported
            (tells made.limits device array lawful without_old (LossOf 1 0) Degraded refl refl declared
            (writes made.limits device array lawful blocks.lost restores.write
            (reads made.limits device array lawful blocks.parity on3 restores.second
            (reads made.limits device array lawful blocks.other on2 restores.first
            (meets made.limits device array lawful Error (λ w token. record {}) restores.failed
            (takes_up made.limits device array lawful made.here made.register_is beside restores.turned)))))))),
      );
    }

pub by_loss_of_new : (a b c d : CoreView) (block back : Block) (start next last : Snapshot) → IsOneMade start a → LooksBeside start next a b → LosesNew block block b c
    → last ≡ after 1 next (DeclareLost 1 1) → ReadsOld last block back c d → RunsThroughLossOfNew block back d
by_loss_of_new a b c d block back start next last made beside loses last_is old =
    let is : last ≡ kept = last_is ∙ ap (λ r. after 1 r (DeclareLost 1 1)) (seen_as made.register_is beside) in
    record {
      runs = λ device array lawful on1. (
        turned_by loses.turned,
        read_of loses.read,
        failed_of loses.failed,
        read_of old.read,
        finishes made.limits device array lawful
            (replies made.limits device array lawful old.seeing (Data back) old.replied
            (looks made.limits device array lawful (looked_at is old.reading old.seeing old.looked)
            (reads made.limits device array lawful block on1 old.read
            (does made.limits device array lawful {old = old.knowing} (Submit (Read 0) 0) (λ w seen. record {}) old.asked
            (looks made.limits device array lawful (looked_at is c old.knowing old.saw)
            (tells made.limits device array lawful kept (LossOf 1 1) Kept refl refl loses.declared
            (fails made.limits device array lawful loses.failed
            (reads made.limits device array lawful block on1 loses.read
            (takes_up made.limits device array lawful made.here made.register_is beside loses.turned))))))))),
      );
    }

pub by_write_to_both : (a b c d e f : CoreView) (block : Block) (row : WrittenRow) (start next last : Snapshot) → IsOneMade start a → LooksBeside start next a b → CopiesRow block block b c
    → Tells (RebuildOf 1 1) Complete c d → last ≡ after 1 next (ReportRebuilt 0 1 1) → WritesBoth row.new_data row d e → SeesDone last e f → RunsThroughWriteToBoth block row f
by_write_to_both a b c d e f block row start next last made beside copies reported last_is both done =
    let is : last ≡ replaced = last_is ∙ ap (λ r. after 1 r (ReportRebuilt 0 1 1)) (seen_as made.register_is beside) in
    record {
      runs = λ device array lawful on1 on2. (
        turned_by copies.turned,
        read_of copies.read,
        write_of copies.write,
        record { other = read_of both.other; first = write_of both.first; second = write_of both.second; of_p = write_of both.of_p; of_q = write_of both.of_q },
        finishes made.limits device array lawful
            (replies made.limits device array lawful done.seeing Done done.replied
            (looks made.limits device array lawful (looked_at is e done.seeing done.looked)
            (writes made.limits device array lawful row.q both.of_q
            (writes made.limits device array lawful row.p both.of_p
            (writes made.limits device array lawful row.new_data both.second
            (writes made.limits device array lawful row.new_data both.first
            (reads made.limits device array lawful row.other on2 both.other
            (does made.limits device array lawful {old = d} (Submit (Write 0 row.new_data) 0) (λ w seen. record {}) both.asked
            (tells made.limits device array lawful replaced (RebuildOf 1 1) Complete refl refl reported
            (writes made.limits device array lawful block copies.write
            (reads made.limits device array lawful block on1 copies.read
            (takes_up made.limits device array lawful made.here made.register_is beside copies.turned)))))))))))),
      );
    }
