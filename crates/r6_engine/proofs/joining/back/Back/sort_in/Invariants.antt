use Rattle.std.proofs.Common.{◌≡◌, ◌++◌, vec_capacity}
use Rattle.r6_engine.specs.joining.Crews.{own_parts, stray_parts}
use Rattle.r6_engine.proofs.joining.back.Back.sort_in.Given as goal

abbrev pub invariant-loop-served : goal.invariant-loop-served
invariant-loop-served g l =
    (goal.iterator-loop-served g).can_next l.served-iterator × (goal.iterator-loop-served g).is_finite l.served-iterator × record {
      parts : l.self.parts.items ≡ l.fn.self.parts.items ++ own_parts l.fn.workers l.fn.worker l.yielded;
      others : l.self.others.items ≡ l.fn.self.others.items ++ stray_parts l.fn.workers l.fn.worker l.yielded;
      parts_room : vec_capacity l.self.parts ≡ vec_capacity l.fn.self.parts;
      others_room : vec_capacity l.self.others ≡ vec_capacity l.fn.self.others;
    }
