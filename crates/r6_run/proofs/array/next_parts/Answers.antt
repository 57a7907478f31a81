use Rattle.std.proofs.Common.{◌≡◌, Some, None, arith, rules}
use Rattle.r6_run.proofs.Giving.{all_given, next_is, none_given, none_next, none_there, one_given}
use Rattle.r6_run.proofs.array.next_parts.Goals as goal
use Rattle.r6_run.proofs.array.next_parts.Goals.{in-Some-Some+in_ok-push-in-Some-Some, in-Some-None, in-None}

pub loop-slot-init : goal.loop-slot-init
loop-slot-init g c = record { gives = none_given c.args.slots _ c.in_ok-parts.parts.items c.in_ok-parts.ensures.items; left = omega arith }

pub loop-slot-preserved : goal.loop-slot-preserved
loop-slot-preserved g c = elim c.match-next.branch [
  | in-Some-Some+in_ok-push-in-Some-Some w ↦
      let is : c.next.result ≡ Some (Some w.in-Some-Some.device) = search rules in
      let step = next_is c.next.result _ _ _ _ c.next.ensures.cases (Some w.in-Some-Some.device) is in
      rw w.parts-is record {
        gives = one_given c.args.slots _ c.loop-slot.slot _ _ _ c.loop-slot-test.true w.in-Some-Some.device _ c.loop-slot.invariant.gives step.0
            w.in_ok-push-in-Some-Some.ensures.items;
        left = omega (arith, step.1, c.loop-slot.invariant.left);
      }
  | in-Some-None w ↦
      let is : c.next.result ≡ Some None = search rules in
      let step = next_is c.next.result _ _ _ _ c.next.ensures.cases None is in
      rw w.parts-is record {
        gives = none_there c.args.slots _ c.loop-slot.slot _ _ _ c.loop-slot-test.true c.loop-slot.invariant.gives step.0;
        left = omega (arith, step.1, c.loop-slot.invariant.left);
      }
  | in-None w ↦
      let none = none_next c.next.result _ _ _ _ c.next.ensures.cases w.in-None.is in
      absurd (omega (arith, none, c.loop-slot.invariant.left, c.requires, c.loop-slot-test.true))
]

pub returns-clause-parts : goal.returns-clause-parts
returns-clause-parts g c = (all_given c.args.slots _ c.loop-slot.slot _ c.loop-slot.parts.items c.loop-slot.invariant.gives c.loop-slot-test.false).0

pub returns-clause-rest : goal.returns-clause-rest
returns-clause-rest g c = (all_given c.args.slots _ c.loop-slot.slot _ c.loop-slot.parts.items c.loop-slot.invariant.gives c.loop-slot-test.false).1
