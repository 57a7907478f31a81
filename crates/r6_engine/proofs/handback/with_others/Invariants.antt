use Rattle.std.proofs.Common.{◌≡◌, ◌++◌, vec_capacity}
use Rattle.r6_engine.proofs.handback.with_others.Given as goal

abbrev pub invariant-loop-part : goal.invariant-loop-part
invariant-loop-part g l =
    (goal.iterator-loop-part g).can_next l.part-iterator × (goal.iterator-loop-part g).is_finite l.part-iterator × record {
      parts : l.back.parts.items ≡ l.fn.back.parts.items;
      others : l.back.others.items ≡ l.fn.back.others.items ++ l.yielded;
      room : vec_capacity l.back.others ≡ vec_capacity l.fn.back.others;
    }
