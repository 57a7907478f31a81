use Rattle.std.proofs.Common.{◌≡◌, ◌++◌, vec_capacity}
use Rattle.r6_engine.specs.joining.Crews.{all_parts}
use Rattle.r6_engine.proofs.joining.back.Back.set_aside.Given as goal

abbrev pub invariant-loop-served : goal.invariant-loop-served
invariant-loop-served g l =
    (goal.iterator-loop-served g).can_next l.served-iterator × (goal.iterator-loop-served g).is_finite l.served-iterator × record {
      parts : l.self.parts ≡ l.fn.self.parts;
      others : l.self.others.items ≡ l.fn.self.others.items ++ all_parts l.yielded;
      room : vec_capacity l.self.others ≡ vec_capacity l.fn.self.others;
    }
