use Rattle.std.proofs.Common.{refl, sym, ◌∙◌, arith}
use Rattle.r6_frames.proofs.Held.{held_within, use_held}
use Rattle.r6_frames.proofs.HeldRows.{row_found, use_found}
use Rattle.r6_frames.proofs.frames.Frames.held_row.Goals as goal

pub index-requires : goal.index-requires
index-requires c =
    let held = c.self.inside.uses in
    let of = (rw (← c.self.view_is) at c.requires) in
    omega (arith, held_within held.items c.args.frame of.0 of.1, held.ok.0)

pub unreachable-requires : goal.unreachable-requires
unreachable-requires c =
    let items = c.self.inside.uses.items in
    let of = (rw (← c.self.view_is) at c.requires) in
    let read = c.index.result.now in
    c.in_default.not-Held of.0 (sym (use_found items c.args.frame read read (held_within items c.args.frame of.0 of.1) c.index.ensures refl) ∙ use_held items c.args.frame of.0 of.1)

pub returns : goal.returns
returns c =
    rw (← c.self.view_is) (row_found c.self.inside.uses.items c.args.frame c.index.result.now c.in-Held.held (rw (← c.self.view_is) at c.requires) c.index.ensures c.in-Held.is)
