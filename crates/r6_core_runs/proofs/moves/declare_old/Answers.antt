use Rattle.std.proofs.Common.{◌≡◌, arith, ◌∙◌, sym, subst, Err}
use Rattle.r6_world.specs.ShardStates.{LossOf}
use Rattle.r6_world.specs.Steps.{Take_call}
use Rattle.r6_core.specs.declared.call.Call.TheVariants as calls
use Rattle.r6_health.specs.declared.refusal.Refusal.TheVariants.{Stale}
use Rattle.r6_core.specs.Shards.{Step, call_of}
use Rattle.r6_core.specs.Effects.{Hears}
use Rattle.r6_core_runs.proofs.LossRuns.{of_ok}
use Rattle.r6_core_runs.proofs.moves.declare_old.Goals as goal

pub returns : goal.returns
returns c =
    let call = c.in-DeclareLost-eq1-eq0 in
    let slot : call.field-0 ≡ 1 = omega (arith, call.field-0-is) in
    let generation : call.field-1 ≡ 0 = omega (arith, call.field-1-is) in
    let taken = subst (λ made. Step c.args.core.now (Take_call (call_of made)) c.take_call.new.self) call.is c.in_ok-take_call.ensures.step in
    record {
      middle = c.take_call.new.self;
      taken = subst (λ x. Step c.args.core.now (Take_call (LossOf x 0)) c.take_call.new.self) slot
          (subst (λ x. Step c.args.core.now (Take_call (LossOf call.field-0 x)) c.take_call.new.self) generation taken);
      told = (of_ok c.told.result (λ done. Hears c.take_call.new.self (calls.DeclareLost 1 0) (Err Stale) c.told.new.self) c.in_ok-ok.field-0
          (sym c.ok.ensures.value ∙ c.in_ok-ok.was) c.told.ensures.heard).step;
    }
