use Rattle.std.proofs.Common.{◌≡◌, ◌∷◌, length, refl, sym, ap, ◌∙◌, arith}
use Rattle.std.specs.Prelude.{map, option_map, is_some, false, Option, Some, None}
use Rattle.circular_buffer.specs.Buffer.{Buffer}
use Rattle.r6_core.specs.Shards.{call_of}
use Rattle.r6_core.proofs.Replies.{some_popped}
use Rattle.r6_core.proofs.CallRoom.{core_with_calls}
use Rattle.r6_core.proofs.state.State.take_call.Goals as goal

is_none : {A : Type 0} (o : Option A) → is_some o ≡ false → o ≡ None
is_none None e = refl
is_none (Some x) e = absurd (cc)

pub returns-clause-step : goal.returns-clause-step
returns-clause-step c =
    let s = c.args.self.now in
    let first = some_popped s.calls.items c.in_ok-call.call (sym c.pop_front.ensures.value ∙ c.in_ok-call.was) in
    let is = first ∙ ap (λ (b : Buffer _). c.in_ok-call.call ∷ b.items) (sym c.pop_front.ensures.items) in
    let none : s.untold ≡ None = is_none s.untold (sym c.has_untold.ensures ∙ c.if-has_untold.false) in
    ((refl, refl), (map call_of c.pop_front.new.self.items, (ap (map call_of) is, ap (option_map call_of) none), refl))

pub returns-in_err-call-clause-frames : goal.returns-in_err-call-clause-frames
returns-in_err-call-clause-frames c = refl

pub returns-clause-frames : goal.returns-clause-frames
returns-clause-frames c = refl

pub returns-clause-kept : goal.returns-clause-kept
returns-clause-kept c = (((refl, refl), refl), refl)

pub returns-in_err-call-clause-kept : goal.returns-in_err-call-clause-kept
returns-in_err-call-clause-kept c = (((refl, refl), refl), refl)

pub returns-clause-core : goal.returns-clause-core
returns-clause-core c =
    let s = c.args.self.now in
    let room = c.requires.settled.sound.room in
    let first = some_popped s.calls.items c.in_ok-call.call (sym c.pop_front.ensures.value ∙ c.in_ok-call.was) in
    let is = ap length (first ∙ ap (λ (b : Buffer _). c.in_ok-call.call ∷ b.items) (sym c.pop_front.ensures.items)) in
    core_with_calls s c.pop_front.new.self (Some c.in_ok-call.call) c.requires (ap (λ (b : Buffer _). b.capacity) c.pop_front.ensures.items ∙ room.calls)
    (omega (arith, is, room.few_calls))

pub returns-then-has_untold-clause-core : goal.returns-then-has_untold-clause-core
returns-then-has_untold-clause-core c = c.requires
