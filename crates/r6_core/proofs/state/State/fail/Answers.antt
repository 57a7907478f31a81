use Rattle.std.proofs.Common.{ap, ◌∙◌}
use Rattle.r6_frames.specs.Directs.{direct_at}
use Rattle.r6_core.specs.declared.state.State.{State}
use Rattle.r6_core.proofs.Failing.{failed_goes, failed_takes}
use Rattle.r6_core.proofs.Going.{Goes, gone_sound}
use Rattle.r6_core.proofs.Losing.{lost_again, lost_order, readable_back}
use Rattle.r6_core.proofs.state.State.fail.Goals.{After-fail}
use Rattle.r6_core.proofs.state.State.fail.Goals as goal

goes : (c : After-fail) → Goes c.args.self.now c.fail.new.self c.args.self.now.calls
goes c =
    let failed = c.fail.ensures in
    failed_goes c.args.self.now c.fail.new.self c.args.token c.requires.core.sound failed.sound failed.fails failed.requests failed.rows failed.owed

pub give_over-requires : goal.give_over-requires
give_over-requires c = gone_sound c.args.self.now c.fail.new.self c.args.self.now.calls c.requires.core.sound (goes (goal.at.give_over-requires c).After-fail)

pub read_again-requires : goal.read_again-requires
read_again-requires c = c.give_over.ensures.sound

pub settle-requires-clause-readable : goal.settle-requires-clause-readable
settle-requires-clause-readable c = readable_back c.give_over.new.self c.read_again.new.self c.give_over.ensures.readable c.read_again.ensures

pub returns-clause-takes : goal.returns-clause-takes
returns-clause-takes c =
    failed_takes c.args.self.now c.fail.new.self c.args.token c.give_over.new.self c.read_again.new.self c.settle.new.self
    (goes (goal.at.returns-clause-takes c).After-fail) c.fail.ensures.fails c.give_over.ensures c.read_again.ensures c.settle.ensures.leads

pub returns-clause-again : goal.returns-clause-again
returns-clause-again c =
    lost_again c.args.self.now c.fail.new.self c.args.self.now.calls c.give_over.new.self c.read_again.new.self c.settle.new.self c.requires.core
    (λ number. ap (λ directs. (direct_at directs number).read) c.fail.ensures.directs) c.give_over.ensures c.read_again.ensures c.settle.ensures.keeps.1

pub returns-clause-keeps : goal.returns-clause-keeps
returns-clause-keeps c =
    let keeps = c.settle.ensures.keeps in
    let back = c.read_again.ensures in
    let given = c.give_over.ensures in
    let fails = c.fail.ensures.fails in (
      (keeps.0.0 ∙ back.geometry.0 ∙ given.same.0 ∙ fails.0, keeps.0.1 ∙ back.geometry.1 ∙ given.same.1 ∙ fails.1),
      keeps.2 ∙ ap (λ (x : State). x.unanswered) back.rest ∙ ap (λ (x : State). x.unanswered) given.rest,
    )

pub returns-clause-order : goal.returns-clause-order
returns-clause-order c =
    lost_order c.args.self.now c.fail.new.self c.args.self.now.calls c.give_over.new.self c.read_again.new.self c.settle.new.self c.give_over.ensures c.read_again.ensures c.settle.ensures.order
