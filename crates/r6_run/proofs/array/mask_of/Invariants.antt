use Rattle.std.proofs.Common.{◌≡◌, ◌-◌}
use Rattle.r6_run.specs.Arrays.{mask_from}
use Rattle.r6_run.proofs.array.mask_of.Given as goal

abbrev pub invariant-loop-passed : goal.invariant-loop-passed
invariant-loop-passed l = l.mask ≡ mask_from l.lost (l.slots - l.passed) l.passed
