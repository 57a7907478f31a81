use Rattle.std.proofs.Common.{ap, MatchOption, subst}
use Rattle.r6_core.specs.Shards.{CoreView, core_with}
use Rattle.r6_core.specs.Effects.{HandsReply, HandsNoReply}
use Rattle.r6_core.proofs.Callers.{hands_reply}
use Rattle.r6_core.proofs.shard_core.Core.take_reply.Goals as goal

pub returns-clause-reply : goal.returns-clause-reply
returns-clause-reply c =
    let done = c.take_reply.ensures in
    let new = core_with c.self.inside.window c.take_reply.new.self in
    subst (λ old. MatchOption c.take_reply.result (HandsNoReply old new) (λ r. HandsReply old (r.0).0 r.1 new)) c.self.view_is
    (hands_reply c.self.inside.window (λ id. id.0) c.take_reply.result c.self.inside.state c.take_reply.new.self done.step done.first done.buffer done.sized done.unanswered done.waiting)

pub returns-clause-window : goal.returns-clause-window
returns-clause-window c = ap (λ (core : CoreView). core.window) c.self.view_is
