use Rattle.std.proofs.Common.{◌<◌, ap, arith}
use Rattle.r6_world.specs.ShardStates.{limit}
use Rattle.r6_engine.specs.Ending.{tokens_of}
use Rattle.r6_engine.proofs.EachShard.{map-all}
use Rattle.r6_engine.proofs.ending.have_tokens.Goals as goal

pub returns-then-tokens-ge-MOST_TOKENS : goal.returns-then-tokens-ge-MOST_TOKENS
returns-then-tokens-ge-MOST_TOKENS g c = λ no have.
    let less = map-all tokens_of (λ given. given < limit) c.args.runners.now have c.loop-runner.runner-index c.runner-item.result c.loop-runner-test.true in
    let same = ap tokens_of c.runner-item.is in
    let given = c.tokens.ensures in
    let many = c.if-tokens-ge-MOST_TOKENS.true in
    omega (arith, less, same, given, many)
