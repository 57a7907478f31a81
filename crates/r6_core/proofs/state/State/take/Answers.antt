use Rattle.r6_frames.specs.Calls.{KeepsOthers}
use Rattle.r6_frames.specs.Reads.{IsExpected}
use Rattle.r6_core.proofs.Answering.{awaited}
use Rattle.std.proofs.Common.{ℕ, List, Result, IfOk, refl, sym, ap, subst, ◌∙◌, length}
use Rattle.r6_world.specs.Steps.{Taken}
use Rattle.r6_world.specs.declared.values.DeviceFault.{DeviceFault}
use Rattle.r6_world.specs.Values.{buffer_in, completion_of}
use Rattle.r6_core.specs.Order.{FinishesBy}
use Rattle.r6_core.specs.Inside.{ReadAgainFor, Seen, TakesThrough}
use Rattle.r6_core.proofs.Completing.{sized, late_core, late_takes, finishes_none, if_ok_all, none_again}
use Rattle.r6_core.proofs.state.State.take.Goals as goal

pub returns-in-Late-clause-settled : goal.returns-in-Late-clause-settled
returns-in-Late-clause-settled c =
    let home = c.come_home.ensures in
    late_core c.args.self.now c.args.token c.come_home.new.self c.requires.core.settled home.sound home.comes home.owed home.requests home.holds

pub returns-in-Late-clause-takes : goal.returns-in-Late-clause-takes
returns-in-Late-clause-takes c =
    let home = c.come_home.ensures in
    late_takes c.args.self.now c.args.token c.come_home.new.self c.requires.core.settled home.sound home.comes home.owed home.requests home.holds c.args.completion

pub returns-in-Late-clause-order : goal.returns-in-Late-clause-order
returns-in-Late-clause-order c = finishes_none c.args.completion c.args.self.now c.come_home.new.self

pub returns-in-Late-clause-others : goal.returns-in-Late-clause-others
returns-in-Late-clause-others c =
    if_ok_all c.args.completion ((frame : ℕ) × KeepsOthers c.args.self.now.frames frame c.come_home.new.self) c.come_home.ensures.others

pub answer-requires-clause-wanted : goal.answer-requires-clause-wanted
answer-requires-clause-wanted c = c.in_default.not-Late

pub returns-in-Late-clause-again : goal.returns-in-Late-clause-again
returns-in-Late-clause-again c = none_again c.args.completion c.args.self.now (record c.args.self.now { frames = c.come_home.new.self }) c.args.token refl

pub returns-in-Ok-clause-again : goal.returns-in-Ok-clause-again
returns-in-Ok-clause-again c = none_again c.args.completion c.args.self.now c.answer.new.self c.args.token c.answer.ensures.keeps.1

pub come_home-requires-clause-awaited : goal.come_home-requires-clause-awaited
come_home-requires-clause-awaited c = awaited c.args.self.now.frames c.args.token c.args.expected c.requires.expected

pub come_home-requires-clause-abandoned : goal.come_home-requires-clause-abandoned
come_home-requires-clause-abandoned c = (subst (IsExpected c.args.self.now.frames c.args.token) c.in-Late.is c.requires.expected).1

pub come_home-requires-clause-size : goal.come_home-requires-clause-size
come_home-requires-clause-size c = ap length c.buffer_of.ensures ∙ sized c.args.completion c.args.self.now.frames.geometry.block c.requires.right.1.0

pub returns-in-Late-clause-freed : goal.returns-in-Late-clause-freed
returns-in-Late-clause-freed c = tt

pub returns-in-Late-clause-keeps : goal.returns-in-Late-clause-keeps
returns-in-Late-clause-keeps c = ((c.come_home.ensures.comes.0, c.come_home.ensures.comes.1), refl)

pub answer-requires-clause-expected : goal.answer-requires-clause-expected
answer-requires-clause-expected c = c.requires.expected

pub answer-requires-clause-core : goal.answer-requires-clause-core
answer-requires-clause-core c = c.requires.core

pub answer-requires-clause-size : goal.answer-requires-clause-size
answer-requires-clause-size c = ap length (sym (ap buffer_in c.in-Ok.is)) ∙ sized c.args.completion c.args.self.now.frames.geometry.block c.requires.right.1.0

pub returns-in-Ok-clause-settled : goal.returns-in-Ok-clause-settled
returns-in-Ok-clause-settled c = c.answer.ensures.settled

pub returns-in-Ok-clause-freed : goal.returns-in-Ok-clause-freed
returns-in-Ok-clause-freed c = c.answer.ensures.freed

pub returns-in-Ok-clause-takes : goal.returns-in-Ok-clause-takes
returns-in-Ok-clause-takes c = subst (λ (x : Result (List ℕ) DeviceFault). TakesThrough c.args.self.now c.args.token (completion_of x) Taken c.answer.new.self) (sym c.in-Ok.is) c.answer.ensures.takes

pub returns-in-Ok-clause-keeps : goal.returns-in-Ok-clause-keeps
returns-in-Ok-clause-keeps c = (c.answer.ensures.keeps.0, c.answer.ensures.keeps.2)

pub returns-in-Ok-clause-order : goal.returns-in-Ok-clause-order
returns-in-Ok-clause-order c = subst (λ (x : Result (List ℕ) DeviceFault). Seen (FinishesBy x) c.args.self.now c.answer.new.self) (sym c.in-Ok.is) c.answer.ensures.order

pub returns-in-Ok-clause-others : goal.returns-in-Ok-clause-others
returns-in-Ok-clause-others c =
    if_ok_all c.args.completion ((frame : ℕ) × KeepsOthers c.args.self.now.frames frame c.answer.new.self.frames) c.answer.ensures.others

-- ---- a fault

pub take_fault-requires-clause-core : goal.take_fault-requires-clause-core
take_fault-requires-clause-core c = c.requires.core.settled

pub take_fault-requires-clause-expected : goal.take_fault-requires-clause-expected
take_fault-requires-clause-expected c = c.requires.expected

pub take_fault-requires-clause-wanted : goal.take_fault-requires-clause-wanted
take_fault-requires-clause-wanted c = c.in_default.not-Late

pub take_fault-requires-clause-size : goal.take_fault-requires-clause-size
take_fault-requires-clause-size c = ap length (sym (ap buffer_in c.in-Err.is)) ∙ sized c.args.completion c.args.self.now.frames.geometry.block c.requires.right.1.0

pub returns-in-Err-clause-settled : goal.returns-in-Err-clause-settled
returns-in-Err-clause-settled c = c.take_fault.ensures.core

pub returns-in-Err-clause-freed : goal.returns-in-Err-clause-freed
returns-in-Err-clause-freed c = tt

pub returns-in-Err-clause-keeps : goal.returns-in-Err-clause-keeps
returns-in-Err-clause-keeps c = c.take_fault.ensures.keeps

pub returns-in-Err-clause-takes : goal.returns-in-Err-clause-takes
returns-in-Err-clause-takes c = subst (λ (x : Result (List ℕ) DeviceFault). TakesThrough c.args.self.now c.args.token (completion_of x) Taken c.take_fault.new.self) (sym c.in-Err.is) c.take_fault.ensures.takes

pub returns-in-Err-clause-again : goal.returns-in-Err-clause-again
returns-in-Err-clause-again c = subst (λ (x : Result (List ℕ) DeviceFault). ReadAgainFor x c.args.self.now c.args.token c.take_fault.new.self) (sym c.in-Err.is) c.take_fault.ensures.again

pub returns-in-Err-clause-order : goal.returns-in-Err-clause-order
returns-in-Err-clause-order c = subst (λ (x : Result (List ℕ) DeviceFault). Seen (FinishesBy x) c.args.self.now c.take_fault.new.self) (sym c.in-Err.is) c.take_fault.ensures.order

pub returns-in-Err-clause-others : goal.returns-in-Err-clause-others
returns-in-Err-clause-others c =
    subst (λ (x : Result (List ℕ) DeviceFault). IfOk x (λ _. (frame : ℕ) × KeepsOthers c.args.self.now.frames frame c.take_fault.new.self.frames)) (sym c.in-Err.is) tt
