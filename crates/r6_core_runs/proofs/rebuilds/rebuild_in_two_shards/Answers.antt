use Rattle.r6_core_runs.proofs.RebuildRuns.{by_parts}
use Rattle.r6_core_runs.proofs.rebuilds.rebuild_in_two_shards.Goals as goal

pub returns : goal.returns
returns c =
    record {
      run = by_parts c.in_ok-first.first c.rebuild.new.first c.in_ok-first.second c.rebuild.new.second c.args.here c.args.there c.in_ok-block.block
          c.in_ok-first.register c.in_ok-first.ensures c.in_ok-block.ensures;
    }
