use Rattle.std.proofs.Common.{sym, ap, ◌∙◌, IfSome, MatchOption, subst}
use Rattle.std.specs.Prelude.{option_copied}
use Rattle.r6_frames.specs.Calls.{IsHolder, NotHeldBy}
use Rattle.r6_core.specs.Inside.{row_for}
use Rattle.r6_core.specs.Queued.{request_in}
use Rattle.r6_core.proofs.ReadStarts.{own_op}
use Rattle.r6_core.proofs.Starting.{oldest_own}
use Rattle.r6_core.proofs.state.State.holder_for.Goals as goal

pub place-requires : goal.place-requires
place-requires c =
    let q = c.in_ok-queued.queued.now in
    own_op c.args.self.now.frames (request_in q) (oldest_own c.args.self.now c.args.cause q c.requires.settled (sym c.oldest.ensures ∙ ap option_copied c.in_ok-queued.was)).request

pub returns : goal.returns
returns c =
    let fs = c.args.self.now.frames in
    subst (λ o. IfSome o (λ q. MatchOption c.holder.result (NotHeldBy fs (row_for fs q.op)) (IsHolder fs (row_for fs q.op))))
    (sym (ap option_copied c.in_ok-queued.was) ∙ c.oldest.ensures)
    (subst (λ row. MatchOption c.holder.result (NotHeldBy fs row) (IsHolder fs row)) c.place.ensures.row c.holder.ensures)
