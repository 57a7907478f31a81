use Rattle.std.proofs.Common.{◌≡◌, ◌++◌, take, length}
use Rattle.r6_health.specs.Passes.{view_of}
use Rattle.r6_health.specs.Passes.{IsPassOf}
use Rattle.r6_health.specs.Uses.{failures_of}
use Rattle.r6_parts_tests.proofs.register_caller.fail_each.Given as goal

abbrev pub invariant-loop-slot : goal.invariant-loop-slot
invariant-loop-slot g l = record {
  of_register : IsPassOf l.register l.pass;
  count : length l.results.items ≡ l.slot-index;
  own : (view_of l.pass).mine ≡ (view_of l.fn.pass).mine ++ failures_of (take l.slot-index l.slots) l.results.items;
}
