use Rattle.std.proofs.Common.{◌≡◌, ℕ, length, sym, ap, subst, ◌∙◌, arith, length-append, rules}
use Rattle.r6_layout.specs.Shape.{Shape}
use Rattle.r6_world.specs.Changes.{after}
use Rattle.r6_world.specs.Geometries.{layout_of}
use Rattle.r6_world.specs.ShardStates.{Shard}
use Rattle.r6_world.specs.Steps.{GoOn}
use Rattle.r6_core.specs.declared.state.State.{State}
use Rattle.r6_core.specs.Order.{AreOfOneRow}
use Rattle.r6_core.specs.Inside.{StandByNumber}
use Rattle.r6_core.specs.Shards.{layout_in, state_of}
use Rattle.r6_core.proofs.Settling.{freed_sorted, settled_sorted, sorted_row_order}
use Rattle.r6_frames.specs.Reads.{IsExpected}
use Rattle.r6_frames.specs.Views.{use_at}
use Rattle.r6_core.proofs.Answering.{awaited, wanted, of_hold, driven_on, answered_takes, answered_core, answered_freed, answered_readable}
use Rattle.r6_core.proofs.state.State.answer.Goals as goal

pub finish-freed-requires-clause-sound : goal.finish-freed-requires-clause-sound
finish-freed-requires-clause-sound c =
    let answer = c.answer-frame.ensures in
    let drive = c.drive.ensures in
    driven_on c.args.self.now c.args.token c.args.buffer c.answer-frame.new.self c.drive.new.self c.requires.core.settled answer.sound answer.live answer.answers answer.requests answer.rows answer.owed
    drive.sound drive.live drive.drives drive.requests drive.rows drive.owed

-- ---- what was finished stands by number

pub sort_finished-requires-clause-released : goal.sort_finished-requires-clause-released
sort_finished-requires-clause-released c =
    let s = c.args.self.now in
    let marked = c.requires.core.settled.sound.requests.marked in
    let long : c.len-before.result ≡ length s.replies.items = search rules in
    omega (arith, c.finish-freed.ensures.released, marked, long)

pub sort_finished-requires-clause-within : goal.sort_finished-requires-clause-within
sort_finished-requires-clause-within c =
    let s = c.args.self.now in
    let more = c.finish-freed.ensures.more in
    let long : c.len-before.result ≡ length s.replies.items = search rules in
    let all = ap length more.2 ∙ length-append s.replies.items more.0 in
    omega (arith, all, long)

pub returns-clause-settled : goal.returns-clause-settled
returns-clause-settled c =
    let answer = c.answer-frame.ensures in
    let drive = c.drive.ensures in
    let finish = c.finish-freed.ensures in
    settled_sorted c.finish-freed.new.self c.sort_finished.new.self c.len-before.result
    (answered_core c.args.self.now c.args.token c.args.buffer c.answer-frame.new.self c.drive.new.self c.requires.core.settled answer.sound answer.live answer.answers answer.requests answer.rows answer.owed
    drive.sound drive.live drive.drives drive.requests drive.rows drive.owed
    c.finish-freed.new.self c.answer-frame.result answer.others drive.others finish.others finish.reads finish.sound finish.rests)
    c.sort_finished.ensures

pub returns-clause-takes : goal.returns-clause-takes
returns-clause-takes c =
    let answer = c.answer-frame.ensures in
    let drive = c.drive.ensures in
    let s = c.args.self.now in
    let takes = answered_takes c.args.self.now c.args.token c.args.buffer c.answer-frame.new.self c.drive.new.self c.requires.core.settled answer.sound answer.live answer.answers answer.requests answer.rows answer.owed
    drive.sound drive.live drive.drives drive.requests drive.rows drive.owed
    c.finish-freed.new.self c.finish-freed.ensures.leads in (
      takes.0,
      takes.1,
      takes.2,
      subst (λ (x : Shard). GoOn (layout_in s) s.frames.shard (after (layout_in s) (state_of s) takes.0) x) (sym c.sort_finished.ensures.state) takes.3,
    )

pub returns-clause-freed : goal.returns-clause-freed
returns-clause-freed c =
    let answer = c.answer-frame.ensures in
    let drive = c.drive.ensures in
    let finish = c.finish-freed.ensures in
    freed_sorted c.finish-freed.result c.finish-freed.new.self c.sort_finished.new.self c.len-before.result
    (answered_freed c.args.self.now c.args.token c.args.buffer c.answer-frame.new.self c.drive.new.self c.requires.core.settled answer.sound answer.live answer.answers answer.requests answer.rows answer.owed
    drive.sound drive.live drive.drives drive.requests drive.rows drive.owed
    c.finish-freed.new.self c.answer-frame.result c.finish-freed.result answer.others drive.others finish.others answer.directs drive.directs c.requires.core.waits drive.held finish.keeps.1 finish.keeps.0 finish.freed)
    c.sort_finished.ensures

pub returns-clause-order : goal.returns-clause-order
returns-clause-order c =
    let s = c.args.self.now in
    let more = c.finish-freed.ensures.more in
    let long : c.len-before.result ≡ length s.replies.items = search rules in
    let by = subst (λ (from : ℕ). StandByNumber c.finish-freed.new.self from c.sort_finished.new.self) long c.sort_finished.ensures in
    let row = subst (λ (shape : Shape). AreOfOneRow (layout_of shape) more.0) (c.drive.ensures.drives.0 ∙ c.answer-frame.ensures.answers.0) more.1 in
    sorted_row_order s c.finish-freed.new.self c.sort_finished.new.self more.0 c.requires.core.settled.sound c.finish-freed.ensures.released more.2 row by

-- the frame that was answered is the one that may change
pub returns-clause-others : goal.returns-clause-others
returns-clause-others c = (
  c.answer-frame.result,
  λ other ne. ap (λ (x : State). use_at x.frames.uses other) c.sort_finished.ensures.rest
      ∙ c.finish-freed.ensures.others other ne
      ∙ c.drive.ensures.others other ne
      ∙ c.answer-frame.ensures.others other ne,
)

pub answer-frame-requires-clause-awaited : goal.answer-frame-requires-clause-awaited
answer-frame-requires-clause-awaited c = (awaited c.args.self.now.frames c.args.token c.args.expected c.requires.expected)

pub answer-frame-requires-clause-wanted : goal.answer-frame-requires-clause-wanted
answer-frame-requires-clause-wanted c = wanted c.args.self.now.frames c.args.token c.args.expected c.requires.expected c.requires.wanted

pub answer-frame-requires-clause-size : goal.answer-frame-requires-clause-size
answer-frame-requires-clause-size c = c.requires.size

pub drive-requires-clause-live : goal.drive-requires-clause-live
drive-requires-clause-live c = c.answer-frame.ensures.live

pub drive-requires-clause-held : goal.drive-requires-clause-held
drive-requires-clause-held c = c.answer-frame.ensures.held

pub drive-requires-clause-readable : goal.drive-requires-clause-readable
drive-requires-clause-readable c =
    let answer = c.answer-frame.ensures in
    answered_readable c.args.self.now c.args.token c.args.buffer c.answer-frame.new.self c.requires.core.settled answer.live answer.answers c.answer-frame.result answer.readable

pub finish-freed-requires-clause-live : goal.finish-freed-requires-clause-live
finish-freed-requires-clause-live c = c.drive.ensures.live

pub finish-freed-requires-clause-held : goal.finish-freed-requires-clause-held
finish-freed-requires-clause-held c = c.drive.ensures.held

pub finish-freed-requires-clause-driven : goal.finish-freed-requires-clause-driven
finish-freed-requires-clause-driven c = c.drive.ensures.driven

pub sort_finished-requires-clause-sound : goal.sort_finished-requires-clause-sound
sort_finished-requires-clause-sound c = c.finish-freed.ensures.sound

pub answer-frame-requires-clause-hold : goal.answer-frame-requires-clause-hold
answer-frame-requires-clause-hold c = of_hold c.args.self.now.frames c.args.token c.args.expected c.requires.expected c.requires.wanted c.in_default.not-Read

-- ---- a direct read is answered

pub give-requires-clause-core : goal.give-requires-clause-core
give-requires-clause-core c = c.requires.core

pub give-requires-clause-awaited : goal.give-requires-clause-awaited
give-requires-clause-awaited c = awaited c.args.self.now.frames c.args.token c.args.expected c.requires.expected

pub give-requires-clause-wanted : goal.give-requires-clause-wanted
give-requires-clause-wanted c = wanted c.args.self.now.frames c.args.token c.args.expected c.requires.expected c.requires.wanted

pub give-requires-clause-read : goal.give-requires-clause-read
give-requires-clause-read c = (subst (IsExpected c.args.self.now.frames c.args.token) c.in-Read.is c.requires.expected).2

pub give-requires-clause-size : goal.give-requires-clause-size
give-requires-clause-size c = c.requires.size

pub returns-in-Read-clause-settled : goal.returns-in-Read-clause-settled
returns-in-Read-clause-settled c = c.give.ensures.settled

pub returns-in-Read-clause-freed : goal.returns-in-Read-clause-freed
returns-in-Read-clause-freed c = c.give.ensures.freed

pub returns-in-Read-clause-takes : goal.returns-in-Read-clause-takes
returns-in-Read-clause-takes c = c.give.ensures.takes

pub returns-in-Read-clause-keeps : goal.returns-in-Read-clause-keeps
returns-in-Read-clause-keeps c = c.give.ensures.keeps

pub returns-in-Read-clause-order : goal.returns-in-Read-clause-order
returns-in-Read-clause-order c = c.give.ensures.order

pub returns-in-Read-clause-others : goal.returns-in-Read-clause-others
returns-in-Read-clause-others c = (0, λ other ne. ap (λ held. use_at held other) c.give.ensures.holds)
