use Rattle.std.proofs.lemmas.Result.{IfOk-weaker}
use Rattle.r6_engine.proofs.running.run_all.Goals as goal

pub returns-clause-pass : goal.returns-clause-pass
returns-clause-pass g c = IfOk-weaker c.run_all.result _ _ (λ r post. post.0) c.run_all.ensures.call

pub returns-clause-answered : goal.returns-clause-answered
returns-clause-answered g c = IfOk-weaker c.run_all.result _ _ (λ r post. post.1) c.run_all.ensures.call
