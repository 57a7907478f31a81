use Rattle.r6_health.proofs.Passes.{pass_joined, pass_same}
use Rattle.r6_health.proofs.register.Register.learn.Goals as goal

pub returns-clause-pass : goal.returns-clause-pass
returns-clause-pass c = pass_joined c.args.self.now c.args.pass.now c.args.other.now c.learn.new.pass c.requires.pass c.learn.ensures.cell c.learn.ensures.joined

pub returns-clause-other : goal.returns-clause-other
returns-clause-other c = pass_same c.args.self.now c.args.other.now c.learn.new.other c.requires.other c.learn.ensures.other_cell c.learn.ensures.same
