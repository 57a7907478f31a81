-- The rows that a check or repair classed (md(4): a check counts the rows that don't agree).
use Rattle.std.specs.Prelude.{ℕ, ◌+◌, ◌-◌}
use Rattle.r6_core.specs.declared.counts.Counts.{Counts}

-- between two counts of a shard, of whichever class
abbrev pub classed_in : (before after : Counts) → ℕ
classed_in before after =
    (after.consistent - before.consistent) + (after.wrong_p - before.wrong_p) + (after.wrong_q - before.wrong_q)
    + (after.wrong_data - before.wrong_data) + (after.many - before.many)
