use Rattle.std.proofs.Common.{◌≡◌, Bool, length, refl, sym, ap, ◌∙◌, arith, true, false}
use Rattle.std.specs.Prelude.{not}
use Rattle.r6_core.specs.Limits.{count_untold}
use Rattle.r6_core.proofs.CallRoom.{calls_fit, core_with_calls, one_untold}
use Rattle.std.specs.Prelude.{None}
use Rattle.circular_buffer.specs.Buffer.{Buffer}
use Rattle.r6_core.specs.declared.call.Call.{Call}
use Rattle.r6_core.proofs.state.State.told.Goals as goal

not_false : (b : Bool) → not b ≡ false → b ≡ true
not_false true e = refl
not_false false e = absurd (cc)

-- the call that was taken has its place still
pub unreachable-requires : goal.unreachable-requires
unreachable-requires c =
    let s = c.args.self.now in
    let fit = calls_fit s c.requires.settled.sound in
    let taken : count_untold s.untold ≡ 1 = one_untold _ s.untold c.args.call (not_false _ (sym c.ne.ensures ∙ c.if-ne.false)) in
    let none : false ≡ true = c.in_default.ensures.variant.1 (omega arith) in
    absurd (cc)

pub returns-then-ne-clause-core : goal.returns-then-ne-clause-core
returns-then-ne-clause-core c = c.requires

pub returns-then-ne-clause-step : goal.returns-then-ne-clause-step
returns-then-ne-clause-step c = tt

pub returns-then-ne-clause-known : goal.returns-then-ne-clause-known
returns-then-ne-clause-known c = tt

pub returns-then-ne-clause-kept : goal.returns-then-ne-clause-kept
returns-then-ne-clause-kept c = (((refl, refl), refl), refl)

pub returns-then-ne-clause-frames : goal.returns-then-ne-clause-frames
returns-then-ne-clause-frames c = refl

pub returns-in-Ok-clause-refused : goal.returns-in-Ok-clause-refused
returns-in-Ok-clause-refused c = tt

pub returns-else-eq-clause-refused : goal.returns-else-eq-clause-refused
returns-else-eq-clause-refused c = tt

pub returns-in-Ok-clause-frames : goal.returns-in-Ok-clause-frames
returns-in-Ok-clause-frames c = refl

pub returns-else-eq-clause-frames : goal.returns-else-eq-clause-frames
returns-else-eq-clause-frames c = refl

pub returns-in-Ok-clause-kept : goal.returns-in-Ok-clause-kept
returns-in-Ok-clause-kept c = (((refl, refl), refl), refl)

pub returns-else-eq-clause-kept : goal.returns-else-eq-clause-kept
returns-else-eq-clause-kept c = (((refl, refl), refl), refl)

pub returns-else-eq-clause-core : goal.returns-else-eq-clause-core
returns-else-eq-clause-core c =
    let room = c.requires.settled.sound.room in
    core_with_calls c.args.self.now c.args.self.now.calls None c.requires room.calls (omega (arith, room.few_calls))

pub returns-in-Ok-clause-core : goal.returns-in-Ok-clause-core
returns-in-Ok-clause-core c =
    let s = c.args.self.now in
    let room = c.requires.settled.sound.room in
    let pushed = c.in-Ok.ensures.ok in
    let taken : count_untold s.untold ≡ 1 = one_untold _ s.untold c.args.call (not_false _ (sym c.ne.ensures ∙ c.if-ne.false)) in
    let more = ap (λ (b : Buffer Call). length b.items) pushed in
    core_with_calls s c.try_push_front.new.self None c.requires (ap (λ (b : Buffer Call). b.capacity) pushed ∙ room.calls)
    (omega (arith, more, taken, room.few_calls))
