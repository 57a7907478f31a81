use Rattle.std.proofs.Common.{List, ap, refl, sym, subst, ◌∙◌, length, arith, ℕ}
use Rattle.r6_kernels.specs.Blocks.{IsBlock}
use Rattle.r6_world.specs.declared.values.Op.{Op}
use Rattle.r6_core.specs.Together.{HaveEntered, IsRight}
use Rattle.r6_core.proofs.Entered.{entered_settled, none_entered, one_entered}
use Rattle.r6_core.proofs.state.State.enter_all.Goals as goal

pub loop-op-init : goal.loop-op-init
loop-op-init c = (none_entered c.args.self.now c.args.ops.now.items, refl)

pub admit-requires : goal.admit-requires
admit-requires c =
    (entered_settled c.args.self.now c.args.ops.now.items c.loop-op.ops.items c.loop-op.self c.requires c.loop-op.invariant.0).sound

-- the one that is refused is the first again
pub returns-in-Err-clause-entered : goal.returns-in-Err-clause-entered
returns-in-Err-clause-entered c =
    subst (λ (left : List Op). HaveEntered c.args.self.now c.args.ops.now.items left c.loop-op.self)
    (c.in-Some.ensures.items ∙ sym c.push_front_reserved.ensures.items) c.loop-op.invariant.0

pub enter-requires-clause-settled : goal.enter-requires-clause-settled
enter-requires-clause-settled c =
    entered_settled c.args.self.now c.args.ops.now.items c.loop-op.ops.items c.loop-op.self c.requires c.loop-op.invariant.0

pub loop-op-smaller : goal.loop-op-smaller
loop-op-smaller c = let one = ap length c.in-Some.ensures.items in omega (arith, one)

pub loop-op-preserved : goal.loop-op-preserved
loop-op-preserved c =
    let s = c.args.self.now in
    let ops = c.args.ops.now.items in
    let left = c.pop_front.new.self.items in
    let mid = c.loop-op.self in
    let right : IsRight mid c.in-Some.op = (c.in_default-admit.ensures.right, subst (λ (b : List ℕ). IsBlock (length b) b) c.buffer.ensures c.assure_bytes.ensures) in
    let entered = subst (HaveEntered s ops left) (sym c.enter.ensures)
    (one_entered s ops left c.in-Some.op mid (subst (λ (items : List Op). HaveEntered s ops items mid) c.in-Some.ensures.items c.loop-op.invariant.0) right) in
    (entered, c.pop_front.ensures.capacity ∙ c.loop-op.invariant.1)

pub returns-clause-entered : goal.returns-clause-entered
returns-clause-entered c =
    subst (λ (left : List Op). HaveEntered c.args.self.now c.args.ops.now.items left c.loop-op.self) c.in_default.ensures.items c.loop-op.invariant.0

pub returns-clause-room : goal.returns-clause-room
returns-clause-room c = c.pop_front.ensures.capacity ∙ c.loop-op.invariant.1

pub returns-in-Err-clause-room : goal.returns-in-Err-clause-room
returns-in-Err-clause-room c = c.push_front_reserved.ensures.capacity ∙ c.pop_front.ensures.capacity ∙ c.loop-op.invariant.1
