use Rattle.std.proofs.Common.{◌≡◌, ℕ}
use Rattle.r6_shard.specs.Counted.{PassesMore, rows_of}
use Rattle.r6_shard.specs.Refusing.{Lasts}
use Rattle.r6_engine.specs.runner.Parts.{KeepsParts}
use Rattle.r6_engine.specs.runner.Runners.{ShardGoesOn}
use Rattle.r6_engine.specs.runner.Sound.{KeepsSound}
use Rattle.r6_engine.proofs.runner.runner.Runner.turn.Given as goal

abbrev pub invariant-loop-turned : goal.invariant-loop-turned
invariant-loop-turned g l = record {
  course : ShardGoesOn l.fn.self l.self;
  parts : KeepsParts l.fn.self l.self;
  sound : KeepsSound l.fn.self l.self;
  pass : l.self.shard.pass ≡ l.fn.self.shard.pass;
  more : ℕ;
  passes : PassesMore more l.fn.self.shard.core l.self.shard.core;
  lasts : Lasts l.fn.self.shard.core l.self.shard.core;
  one : rows_of l.fn.scrub.task ≡ 1 → more ≡ l.turned;
}
