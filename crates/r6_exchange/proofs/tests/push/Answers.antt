use Rattle.r6_exchange.proofs.Joins.{commands-more}
use Rattle.r6_exchange.proofs.tests.push.Goals as goal

pub returns : goal.returns
returns c = commands-more 1 c.args.tasks.now.items c.push_back.new.self.items c.args.command c.in_ok-push_back.ensures.items c.requires
