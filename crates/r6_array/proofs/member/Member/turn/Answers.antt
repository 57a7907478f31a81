use Rattle.r6_array.proofs.Members.{turned_member}
use Rattle.r6_array.proofs.member.Member.turn.Goals as goal

pub invariant_of-self-2 : goal.invariant_of-self-2
invariant_of-self-2 c =
    let was = c.self.inside in
    turned_member was.core c.turn.new.self was.names was.settled was.change was.taken c.args.task c.in_ok-turn.turn c.self.invariant c.in_ok-turn.ensures.turned
