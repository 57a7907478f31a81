use Rattle.std.proofs.Common.{sym, subst, arith, below_more}
use Rattle.r6_shard.specs.New.{IsNew, HasNew, HasNewHere}
use Rattle.r6_shard.proofs.readiness.has_all.Goals as goal

pub loop-slot-preserved : goal.loop-slot-preserved
loop-slot-preserved g c =
    let here = c.has_new.ensures.here c.if-not-has_new.false in
    let p = g.P.Performs.performer c.args.parts.now in
    below_more (λ other. HasNewHere p.labels c.args.snapshot.now other × HasNew p.tells c.args.snapshot.now other) c.loop-slot.slot c.loop-slot.invariant (
      λ generation new. (here generation (subst (λ y. IsNew y generation) (sym c.slot.ensures.value) new)).0,
      λ generation new. (here generation (subst (λ y. IsNew y generation) (sym c.slot.ensures.value) new)).1,
    )

pub returns-clause-here : goal.returns-clause-here
returns-clause-here g c = λ e slot below. c.loop-slot.invariant slot (omega (arith, below, c.loop-slot-test.false))
