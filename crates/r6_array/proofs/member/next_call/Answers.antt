use Rattle.r6_array.proofs.Members.{sees_none, sees_some}
use Rattle.r6_array.proofs.member.next_call.Goals as goal

pub returns-in_err-call : goal.returns-in_err-call
returns-in_err-call c = rw c.from_residual.ensures (sees_none c.args.core.now c.take_call.new.self c.requires c.in_err-call.ensures.step c.take_call.ensures.kept)

pub returns : goal.returns
returns c =
    sees_some c.args.core.now c.take_call.new.self c.told.new.self c.in_ok-call.call c.in_ok-call.ensures.step c.in-Ok.ensures.heard.step c.take_call.ensures.kept
    c.told.ensures.kept
