use Rattle.std.proofs.Common.{◌<◌, sym, subst}
use Rattle.r6_world.proofs.Geometries.{layouts}
use Rattle.r6_world.specs.PlainArray.{block_of}
use Rattle.r6_world.specs.Values.{op_of}
use Rattle.r6_core.proofs.state.State.is_for_buffer.Goals as goal

pub is_passed_on-requires-clause-row : goal.is_passed_on-requires-clause-row
is_passed_on-requires-clause-row c =
    let fs = c.args.self.now.frames in
    subst (λ row. row < fs.geometry.rows) (sym c.requires.place.row) ((layouts fs.geometry c.requires.sound.shape).placed (block_of (op_of c.args.queued.now.op)) c.requires.request.there).0
