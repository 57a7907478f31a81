use Rattle.std.proofs.Common.{sym, subst}
use Rattle.r6_array.specs.Inside.{IsMember}
use Rattle.r6_array.proofs.Members.{replied_member}
use Rattle.r6_array.proofs.member.Member.take_reply.Goals as goal

pub invariant_of-self-2 : goal.invariant_of-self-2
invariant_of-self-2 c =
    let was = c.self.inside in
    let reply = c.in_ok-id.reply in
    let new = c.take_reply.new.self in
    subst (λ names. IsMember new names was.settled was.change was.taken) (sym c.in-Some.ensures.rest)
    (replied_member was.core new was.names was.settled was.change was.taken c.in_ok-id.field-0-0.0 c.in-Some.name reply c.self.invariant
    c.in_ok-id.ensures.reply (sym c.in-Some.ensures.entry))
