use Rattle.std.proofs.Common.{◌≡◌, ◌<◌, ◌++◌, length, sym, ap, subst, ◌∙◌, arith, length-append, inl, inr}
use Rattle.std.proofs.lemmas.List.{length-take-le, take_all}
use Rattle.std.specs.Prelude.{take}
use Rattle.circular_buffer.specs.Buffer.{buffer}
use Rattle.r6_core.specs.declared.state.State.{State}
use Rattle.r6_core.specs.Inside.{GivesOver}
use Rattle.r6_core.proofs.GivingOver.{declared, gives_none, gives_over, length-declared, losses_fit}
use Rattle.r6_core.proofs.state.State.lose_over.Goals as goal

pub returns-then-not-is_live : goal.returns-then-not-is_live
returns-then-not-is_live c = gives_none c.args.self.now c.requires.sound (λ live. absurd (cc (c.is_live.ensures.1 live, c.if-not-is_live.true)))

-- there is room for one more call
pub push_back-requires : goal.push_back-requires
push_back-requires c =
    let s = c.args.self.now in
    let gives = c.give_over-losses.ensures in
    let losses = c.give_over-losses.result.items in
    let at = c.loop-index.index in
    let fits = losses_fit s c.give_over-losses.new.self c.in-Some.frame losses c.requires.sound gives.sound gives.gives gives.owed gives.requests gives.rows in
    let below : at < length losses = omega (arith, c.loop-index-test.true, c.len-index-end.ensures.value) in
    let told = ap (λ (x : State). length x.calls.items) c.loop-index.invariant ∙ length-append s.calls.items (declared (take at losses)) in
    let few = length-declared (take at losses) ∙ length-take-le at losses (omega (arith, below)) in
    let room = ap (λ (x : State). x.calls.capacity) c.loop-index.invariant in
    omega (arith, fits, below, told, few, room)

pub returns : goal.returns
returns c =
    let s = c.args.self.now in
    let gives = c.give_over-losses.ensures in
    let losses = c.give_over-losses.result.items in
    let at = c.loop-index.index in
    let all = take_all at losses (omega (arith, c.loop-index-test.false, c.len-index-end.ensures.value)) in
    let same : c.loop-index.self ≡ record s { frames = c.give_over-losses.new.self; calls = buffer (s.calls.items ++ declared losses) s.calls.capacity } =
    c.loop-index.invariant ∙ ap (λ taken. record s { frames = c.give_over-losses.new.self; calls = buffer (s.calls.items ++ declared taken) s.calls.capacity }) all in
    subst (GivesOver s) (sym same)
    (gives_over s c.give_over-losses.new.self c.in-Some.frame losses c.requires.sound gives.sound gives.gives gives.owed gives.requests gives.rows gives.stopped gives.readers)

pub returns-in_default : goal.returns-in_default
returns-in_default c = gives_none c.args.self.now c.requires.sound (λ live frame lacks. elim lacks [ inl moves ↦ c.requires.moved live frame moves | inr loses ↦ c.in_default.ensures frame loses ])
