use Rattle.std.proofs.Common.{◌≡◌, arith, ◌∙◌, sym, subst, Ok}
use Rattle.r6_world.specs.ShardStates.{LossOf}
use Rattle.r6_world.specs.Steps.{Take_call}
use Rattle.r6_core.specs.declared.call.Call.TheVariants as calls
use Rattle.r6_core.specs.Shards.{Step, call_of}
use Rattle.r6_core.specs.Effects.{Hears}
use Rattle.r6_core_runs.proofs.LossRuns.{of_ok}
use Rattle.r6_core_runs.proofs.losses.declare_loss.Goals as goal

pub returns : goal.returns
returns c =
    let call = c.in-DeclareLost-default-eq0 in
    let slot : call.lost ≡ c.args.slot = c.if-lost-slot.true in
    let generation : call.field-1 ≡ 0 = omega (arith, call.field-1-is) in
    let taken = subst (λ made. Step c.args.core.now (Take_call (call_of made)) c.take_call.new.self) call.is c.in_ok-lost.ensures.step in
    record {
      middle = c.take_call.new.self;
      taken = subst (λ x. Step c.args.core.now (Take_call (LossOf x 0)) c.take_call.new.self) slot
          (subst (λ x. Step c.args.core.now (Take_call (LossOf call.lost x)) c.take_call.new.self) generation taken);
      told = (of_ok c.told.result (λ done. Hears c.take_call.new.self (calls.DeclareLost c.args.slot 0) (Ok c.args.answer) c.told.new.self) c.in_ok-ok.field-0
          (sym c.ok.ensures.value ∙ c.in_ok-ok.was) c.told.ensures.heard).step;
    }
