use Rattle.std.proofs.Common.{◌≡◌, ◌++◌, string_bytes}
use Rattle.r6_execute.specs.Layouts.{shard_line}
use Rattle.r6_script.specs.Texts.{texts_below}
use Rattle.r6_execute.proofs.geometry.write_shards.Given as goal

abbrev pub invariant-loop-shard : goal.invariant-loop-shard
invariant-loop-shard l =
    string_bytes l.text ≡ string_bytes l.initial.text ++ texts_below (shard_line l.geometry) l.shard
