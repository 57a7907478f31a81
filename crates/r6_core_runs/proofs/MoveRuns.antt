-- The run of one core that reads a block from the new device of a slot.
use Rattle.std.proofs.Common.{◌≡◌, refl, ap, ◌∙◌, Err}
use Rattle.r6_health.specs.Registers.{after}
use Rattle.r6_layout.specs.PlainArray.{Block}
use Rattle.r6_world.specs.PlainArray.{Data}
use Rattle.r6_world.specs.Registers.{Snapshot, DeclareLost, ReportRebuilt, Degraded, Complete, Stale}
use Rattle.r6_world.specs.ShardStates.{LossOf, RebuildOf}
use Rattle.r6_world.specs.Steps.{Error}
use Rattle.r6_core.specs.Shards.{CoreView}
use Rattle.r6_core_runs.specs.Losses.{Tells, IsOneMade}
use Rattle.r6_core_runs.specs.Fixes.{MeetsErrors}
use Rattle.r6_core_runs.specs.Replacements.{LooksBeside, CopiesRow, replaced}
use Rattle.r6_core_runs.specs.Moves.{ReadsMoved, DeclaresMoved, SeesBlock, ToMove, without_two, RunsThroughMove}
use Rattle.r6_core_runs.proofs.OneRuns.{read_of, write_of, looked_at, looks, replies, meets, reads, writes, tells, hears, finishes}
use Rattle.r6_core_runs.proofs.FixRuns.{errs_there}
use Rattle.r6_core_runs.proofs.ReplacementRuns.{turned_by, takes_up, seen_as}

abbrev to_move : {q block : Block} {a b c : CoreView} → MeetsErrors a b → ReadsMoved q block b c → ToMove
to_move met moved =
    record {
      direct = read_of met.direct;
      held = read_of met.again;
      other = read_of moved.other;
      of_p = read_of moved.of_p;
      of_q = read_of moved.of_q;
      moved = read_of moved.moved;
    }

pub by_move : (a b c d e f g h : CoreView) (block q back : Block) (start next last one two : Snapshot) → IsOneMade start a → LooksBeside start next a b → CopiesRow block block b c
    → Tells (RebuildOf 1 1) Complete c d → last ≡ after 1 next (ReportRebuilt 0 1 1) → MeetsErrors d e → ReadsMoved q block e f → DeclaresMoved f g
    → one ≡ after 1 last (DeclareLost 2 0) → two ≡ after 1 one (DeclareLost 3 0) → SeesBlock two back g h → RunsThroughMove block q back h
by_move a b c d e f g h block q back start next last one two made beside copies reported last_is met moved declared one_is two_is seen =
    let is : last ≡ replaced = last_is ∙ ap (λ r. after 1 r (ReportRebuilt 0 1 1)) (seen_as made.register_is beside) in
    let one_lost : one ≡ after 1 replaced (DeclareLost 2 0) = one_is ∙ ap (λ r. after 1 r (DeclareLost 2 0)) is in
    let two_lost : two ≡ without_two = two_is ∙ ap (λ r. after 1 r (DeclareLost 3 0)) one_lost in
    record {
      runs = λ device array lawful on1 on0. (
        turned_by copies.turned,
        read_of copies.read,
        write_of copies.write,
        to_move met moved,
        finishes made.limits device array lawful
            (replies made.limits device array lawful seen.seeing (Data back) seen.replied
            (looks made.limits device array lawful (looked_at two_lost g seen.seeing seen.looked)
            (hears made.limits device array lawful without_two (LossOf 1 0) (Err Stale) refl refl declared.of_old
            (tells made.limits device array lawful without_two (LossOf 3 0) Degraded refl refl declared.of_p
            (tells made.limits device array lawful (after 1 replaced (DeclareLost 2 0)) (LossOf 2 0) Degraded refl refl declared.other
            (reads made.limits device array lawful block refl moved.moved
            (reads made.limits device array lawful q on0 moved.of_q
            (meets made.limits device array lawful Error (λ w token. record {}) moved.of_p
            (meets made.limits device array lawful Error (λ w token. record {}) moved.other
            (errs_there made.limits device array lawful met
            (tells made.limits device array lawful replaced (RebuildOf 1 1) Complete refl refl reported
            (writes made.limits device array lawful block copies.write
            (reads made.limits device array lawful block on1 copies.read
            (takes_up made.limits device array lawful made.here made.register_is beside copies.turned)))))))))))))),
      );
    }
