use Rattle.std.proofs.Common.{◌≡◌, ◌≤◌, length, map, vec_capacity}
use Rattle.r6_verify.specs.Heard.{below}
use Rattle.r6_verify.proofs.heard.with_ear.Given as goal

abbrev pub invariant-loop-part : goal.invariant-loop-part
invariant-loop-part g l =
    (goal.iterator-loop-part g).can_next l.part-iterator × (goal.iterator-loop-part g).is_finite l.part-iterator × record {
      parts : map below l.heard.items ≡ l.yielded;
      room : length l.fn.parts.items ≤ vec_capacity l.heard;
    }
