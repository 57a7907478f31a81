use Rattle.std.proofs.Common.{false, sym, subst}
use Rattle.r6_array.specs.Inside.{IsMember}
use Rattle.r6_array.proofs.Members.{submitted_member}
use Rattle.r6_array.proofs.member.Member.submit.Goals as goal

pub invariant_of-self : goal.invariant_of-self
invariant_of-self c =
    let was = c.self.inside in
    subst (λ names. IsMember c.submit.new.self names false was.change was.taken) (sym c.push.ensures.entry)
    (submitted_member was.core c.submit.new.self was.names was.settled was.change was.taken c.args.op c.in-Ok.field-0.0 c.args.name c.self.invariant c.in-Ok.ensures.accepted)
