use Rattle.std.proofs.Common.{◌+◌, sym, ap, subst, ◌∙◌}
use Rattle.r6_world.specs.Changes.{Skip_turn, after}
use Rattle.r6_frames.specs.Views.{scrub_task}
use Rattle.r6_core.specs.declared.state.State.{State}
use Rattle.r6_core.specs.Shards.{layout_in, state_of}
use Rattle.r6_core.specs.Inside.{IsCore, next_row}
use Rattle.r6_core.proofs.Turning.{skip_allowed, skipped_core}
use Rattle.r6_core.proofs.state.State.skip_turn.Goals as goal

pub returns-clause-core : goal.returns-clause-core
returns-clause-core c =
    subst (λ (x : State). IsCore (record x { counts = record x.counts { skipped = x.counts.skipped + 1 } })) (sym c.pass.ensures.same)
    (skipped_core c.args.self.now c.pass.new.self.check_row c.pass.new.self.repair_row c.requires.core c.requires.skipped c.pass.ensures.own)

pub returns-clause-allowed : goal.returns-clause-allowed
returns-clause-allowed c = skip_allowed c.args.self.now c.args.scrub c.requires.core.settled.sound c.requires.passed_over

pub returns-clause-skips : goal.returns-clause-skips
returns-clause-skips c =
    let s = c.args.self.now in
    ap (λ (x : State). state_of (record x { counts = record x.counts { skipped = x.counts.skipped + 1 } })) c.pass.ensures.same
    ∙ (λ i. record (after (layout_in s) (state_of s) (Skip_turn (scrub_task c.args.scrub) (next_row c.args.scrub s))) {
      check_row = c.pass.ensures.check i;
      repair_row = c.pass.ensures.repair i;
    })
