use Rattle.std.proofs.Common.{sym, ap, ◌∙◌}
use Rattle.std.specs.Prelude.{option_copied}
use Rattle.r6_core.specs.Inside.{anything}
use Rattle.r6_core.specs.Queued.{request_in}
use Rattle.r6_core.proofs.ReadStarts.{own_op}
use Rattle.r6_core.proofs.Starting.{oldest_own}
use Rattle.r6_core.proofs.state.State.room_for_oldest.Goals as goal

pub place-place-requires : goal.place-place-requires
place-place-requires c = let q = c.in_ok-queued.queued.now in own_op c.args.self.now.frames (request_in q) (oldest_own c.args.self.now anything q c.requires (sym c.oldest.ensures ∙ ap option_copied c.in_ok-queued.was)).request

pub room_for-requires-clause-request : goal.room_for-requires-clause-request
room_for-requires-clause-request c = let q = c.in_ok-queued.queued.now in own_op c.args.self.now.frames (request_in q) (oldest_own c.args.self.now anything q c.requires (sym c.oldest.ensures ∙ ap option_copied c.in_ok-queued.was)).request
