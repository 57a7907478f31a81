use Rattle.std.proofs.Common.{ap, ◌∙◌}
use Rattle.r6_core.specs.declared.state.State.{State}
use Rattle.r6_core.proofs.Going.{gone_sound}
use Rattle.r6_core.proofs.Losing.{loss_fits, lost_again, lost_goes, lost_order, lost_takes, readable_back}
use Rattle.r6_core.proofs.state.State.lose.Goals as goal

pub push_back-requires : goal.push_back-requires
push_back-requires c =
    let lost = c.lose-slot.ensures in
    loss_fits c.args.self.now c.lose-slot.new.self c.args.token (c.lose-slot.result).0 (c.lose-slot.result).1 c.requires.core.sound lost.loses

pub give_over-requires : goal.give_over-requires
give_over-requires c =
    let lost = c.lose-slot.ensures in
    gone_sound c.args.self.now c.lose-slot.new.self c.push_back.new.line c.requires.core.sound
    (lost_goes c.args.self.now c.lose-slot.new.self c.push_back.new.line c.args.token (c.lose-slot.result).0 (c.lose-slot.result).1 c.requires.core.sound lost.sound lost.loses lost.owed lost.requests lost.rows c.push_back.ensures)

pub read_again-requires : goal.read_again-requires
read_again-requires c = c.give_over.ensures.sound

pub settle-requires-clause-readable : goal.settle-requires-clause-readable
settle-requires-clause-readable c = readable_back c.give_over.new.self c.read_again.new.self c.give_over.ensures.readable c.read_again.ensures

pub returns-clause-takes : goal.returns-clause-takes
returns-clause-takes c =
    let lost = c.lose-slot.ensures in
    lost_takes c.args.self.now c.lose-slot.new.self c.push_back.new.line c.args.token (c.lose-slot.result).0 (c.lose-slot.result).1 c.give_over.new.self c.read_again.new.self c.settle.new.self
    (lost_goes c.args.self.now c.lose-slot.new.self c.push_back.new.line c.args.token (c.lose-slot.result).0 (c.lose-slot.result).1 c.requires.core.sound lost.sound lost.loses lost.owed lost.requests lost.rows c.push_back.ensures) c.lose-slot.ensures.loses c.push_back.ensures c.give_over.ensures c.read_again.ensures c.settle.ensures.leads

pub returns-clause-again : goal.returns-clause-again
returns-clause-again c =
    lost_again c.args.self.now c.lose-slot.new.self c.push_back.new.line c.give_over.new.self c.read_again.new.self c.settle.new.self c.requires.core c.lose-slot.ensures.readers c.give_over.ensures c.read_again.ensures c.settle.ensures.keeps.1

pub returns-clause-keeps : goal.returns-clause-keeps
returns-clause-keeps c =
    let keeps = c.settle.ensures.keeps in
    let back = c.read_again.ensures in
    let given = c.give_over.ensures in
    let loses = c.lose-slot.ensures.loses in (
      (keeps.0.0 ∙ back.geometry.0 ∙ given.same.0 ∙ loses.0, keeps.0.1 ∙ back.geometry.1 ∙ given.same.1 ∙ loses.1),
      keeps.2 ∙ ap (λ (x : State). x.unanswered) back.rest ∙ ap (λ (x : State). x.unanswered) given.rest,
    )

pub returns-clause-order : goal.returns-clause-order
returns-clause-order c =
    lost_order c.args.self.now c.lose-slot.new.self c.push_back.new.line c.give_over.new.self c.read_again.new.self c.settle.new.self c.give_over.ensures c.read_again.ensures c.settle.ensures.order
