use Rattle.std.proofs.Common.{◌≡◌, ◌<◌, ◌++◌, string_bytes, subst}
use Rattle.r6_execute.specs.Layouts.{shard_line}
use Rattle.r6_script.specs.Texts.{texts_below}
use Rattle.r6_execute.proofs.Texts.{all_written, none_written, one_written}
use Rattle.r6_execute.proofs.geometry.write_shards.Goals as goal

pub loop-shard-init : goal.loop-shard-init
loop-shard-init c = none_written (shard_line c.args.geometry.now) (string_bytes c.args.text.now)

pub write_shard-requires : goal.write_shard-requires
write_shard-requires c = subst (λ shards. c.loop-shard.shard < shards) c.shards-shard-end.ensures.value c.loop-shard-test.true

pub loop-shard-preserved : goal.loop-shard-preserved
loop-shard-preserved c =
    one_written (shard_line c.args.geometry.now) (string_bytes c.args.text.now) (string_bytes c.loop-shard.text) _ c.loop-shard.shard
    c.loop-shard.invariant c.in_ok-write_shard.ensures

pub returns : goal.returns
returns c =
    let line = shard_line c.args.geometry.now in
    let begun = string_bytes c.args.text.now in
    let text = string_bytes c.loop-shard.text in
    subst (λ shards. text ≡ begun ++ texts_below line shards) c.shards-shard-end.ensures.value
    (all_written line begun text c.loop-shard.shard c.shards-shard-end.result c.loop-shard.invariant c.loop-shard-test.false c.loop-shard.auto.shard-end)
