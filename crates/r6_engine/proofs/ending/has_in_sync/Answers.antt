use Rattle.std.proofs.Common.{arith, inl, inr, subst}
use Rattle.std.proofs.lemmas.Bool.{cases_lt}
use Rattle.r6_engine.specs.Ending.{IsKept}
use Rattle.r6_engine.proofs.ending.has_in_sync.Goals as goal

pub loop-slot-preserved : goal.loop-slot-preserved
loop-slot-preserved c other less = elim (cases_lt other c.loop-slot.slot) [
  | inl low ↦ c.loop-slot.invariant other low
  | inr not ↦
      subst (λ n. IsKept n c.args.snapshot.now c.args.core.now) (omega (arith, less, not)) (c.is_kept.ensures c.if-not-is_kept.false)
]

pub returns : goal.returns
returns c = λ all slot below. let most = c.loop-slot-test.false in c.loop-slot.invariant slot (omega (arith, below, most))
