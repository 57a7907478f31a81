use Rattle.std.proofs.Common.{sym, ap, ◌∙◌, arith}
use Rattle.std.specs.Prelude.{option_copied}
use Rattle.r6_frames.specs.Inside.{view_of}
use Rattle.r6_frames.proofs.FirstStopped.{read_slot}
use Rattle.r6_frames.proofs.frames.Frames.stopped_token.Goals as goal

pub bounds-self-inside-read : goal.bounds-self-inside-read
bounds-self-inside-read c =
    read_slot (view_of c.self.inside) c.args.number c.in_ok-read.read.now c.self.invariant.0 (sym c.read.ensures ∙ ap option_copied c.in_ok-read.was)

pub offset_bounds-self-inside-read : goal.offset_bounds-self-inside-read
offset_bounds-self-inside-read c =
    let below =
    read_slot (view_of c.self.inside) c.args.number c.in_ok-read.read.now c.self.invariant.0 (sym c.read.ensures ∙ ap option_copied c.in_ok-read.was) in
    omega arith
