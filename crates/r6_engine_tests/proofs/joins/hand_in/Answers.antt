use Rattle.std.proofs.Common.{ap, ◌∙◌}
use Rattle.r6_dev.specs.Memory.{told_by, promised_by}
use Rattle.r6_engine.specs.remote.Remotes.{performer_of}
use Rattle.r6_engine.proofs.RemoteLemmas.Commands.{not-both}
use Rattle.r6_engine_tests.proofs.joins.hand_in.Goals as goal

pub take_in-requires-clause-apart : goal.take_in-requires-clause-apart
take_in-requires-clause-apart g c token command is =
    absurd (not-both ((performer_of told_by promised_by c.args.remote.now).out token) command (c.requires.idle token) is)

pub returns-in-Ok-clause-idle : goal.returns-in-Ok-clause-idle
returns-in-Ok-clause-idle g c token = ap (λ f. f token) c.in-Ok.ensures.taken.out ∙ c.requires.idle token
