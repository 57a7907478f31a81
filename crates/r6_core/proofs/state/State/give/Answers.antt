use Rattle.std.proofs.Common.{◌++◌, ◌∷◌, [], refl, subst, sym}
use Rattle.circular_buffer.specs.Buffer.{Buffer, buffer}
use Rattle.r6_world.specs.declared.values.Request.{Request}
use Rattle.r6_core.specs.declared.state.State.{State}
use Rattle.r6_world.specs.Steps.{Good, Taken}
use Rattle.r6_core.specs.Inside.{HasBuffer, IsSettled, Seen, TakesThrough}
use Rattle.r6_core.specs.Order.{MayFinish}
use Rattle.r6_core.proofs.Giving.{given_freed, given_order, given_settled, given_takes, room_to_give}
use Rattle.r6_core.proofs.state.State.give.Goals as goal

pub finished-requires : goal.finished-requires
finished-requires c =
    let answered = c.answer_read-request.ensures in
    record { room = room_to_give c.args.self.now c.args.token c.args.buffer c.answer_read-request.result c.answer_read-request.new.self c.requires.core.settled.sound answered.answers }

abbrev replies : (c : goal.After-finished) → Buffer Request
replies c = let s = c.args.self.now in buffer (s.replies.items ++ c.answer_read-request.result ∷ []) s.replies.capacity

pub returns-clause-settled : goal.returns-clause-settled
returns-clause-settled c =
    let done = c.answer_read-request.ensures in
    subst IsSettled (sym c.finished.ensures.same)
    (given_settled c.args.self.now c.args.token c.args.buffer c.answer_read-request.result c.answer_read-request.new.self (replies c) c.requires.core.settled done.sound done.live done.answers
    done.holds done.same done.next c.requires.size refl refl)

pub returns-clause-freed : goal.returns-clause-freed
returns-clause-freed c =
    let done = c.answer_read-request.ensures in
    subst HasBuffer (sym c.finished.ensures.same)
    (given_freed c.args.self.now c.args.token c.args.buffer c.answer_read-request.result c.answer_read-request.new.self (replies c) c.requires.core.settled done.sound done.live done.answers
    done.holds done.same done.next c.requires.size refl refl c.requires.core done.frees.0 done.frees.1)

pub returns-clause-takes : goal.returns-clause-takes
returns-clause-takes c =
    let done = c.answer_read-request.ensures in
    subst (λ (x : State). TakesThrough c.args.self.now c.args.token (Good c.args.buffer) Taken x) (sym c.finished.ensures.same)
    (given_takes c.args.self.now c.args.token c.args.buffer c.answer_read-request.result c.answer_read-request.new.self (replies c) c.requires.core.settled done.sound done.live done.answers
    done.holds done.same done.next c.requires.size refl refl)

pub returns-clause-order : goal.returns-clause-order
returns-clause-order c =
    let done = c.answer_read-request.ensures in
    subst (λ (x : State). Seen MayFinish c.args.self.now x) (sym c.finished.ensures.same)
    (given_order c.args.self.now c.args.token c.args.buffer c.answer_read-request.result c.answer_read-request.new.self (replies c) c.requires.core.settled done.sound done.live done.answers
    done.holds done.same done.next c.requires.size refl refl)
