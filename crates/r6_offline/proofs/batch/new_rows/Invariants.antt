use Rattle.std.proofs.Common.{◌≡◌, length}
use Rattle.r6_offline.specs.RowChecks.{AllFit}
use Rattle.r6_offline.proofs.batch.new_rows.Given as goal

abbrev pub invariant-loop : goal.invariant-loop
invariant-loop l = record { count : length l.batch.items ≡ l.counter; room : AllFit l.geometry l.batch.items }
