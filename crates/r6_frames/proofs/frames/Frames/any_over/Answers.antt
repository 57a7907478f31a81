use Rattle.std.proofs.Common.{◌<◌, ◌∙◌, sym, arith}
use Rattle.r6_frames.specs.Owed.{IsOver}
use Rattle.r6_bits.proofs.Words.{out_more}
use Rattle.r6_frames.proofs.FreeFrames.{out_of_use}
use Rattle.r6_frames.proofs.Held.{held_within}
use Rattle.r6_frames.proofs.frames.Frames.any_over.Goals as goal

pub loop-frame-init : goal.loop-frame-init
loop-frame-init c =
    out_of_use c.used_frames-used.result c.args.self.now.uses (λ frame. IsOver c.args.self.now frame → ⊥) c.used_frames-used.ensures.used (λ frame none over. none over.0 over.1)

pub loop-frame-smaller : goal.loop-frame-smaller
loop-frame-smaller c = c.in-Some.ensures.less

pub is_over-requires : goal.is_over-requires
is_over-requires c = omega (arith, c.in-Some.ensures.lowest.0, c.used_frames-used.ensures.sound.frames.count)

pub loop-frame-preserved : goal.loop-frame-preserved
loop-frame-preserved c =
    out_more (λ frame. IsOver c.args.self.now frame → ⊥) c.loop-frame.used c.in-Some.frame c.take_lowest.new.bits c.in-Some.ensures.left c.loop-frame.invariant
    (λ over. let both = sym c.if-is_over.false ∙ c.is_over.ensures.over.1 over in cc)

pub returns : goal.returns
returns c frame over =
    let count = c.used_frames-used.ensures.sound.frames.count in
    let inside : frame < 64 = omega (arith, held_within c.args.self.now.uses frame over.0 over.1, count) in
    c.loop-frame.invariant frame inside (c.in_default.ensures.lowest frame inside) over
