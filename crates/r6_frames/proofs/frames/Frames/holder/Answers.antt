use Rattle.std.proofs.Common.{◌<◌, ◌∙◌, sym, arith}
use Rattle.r6_frames.specs.Calls.{IsHolder}
use Rattle.r6_bits.proofs.Words.{out_more}
use Rattle.r6_frames.proofs.MarkedFrames.{unlike_rows}
use Rattle.r6_frames.proofs.Held.{held_within}
use Rattle.r6_frames.proofs.frames.Frames.holder.Goals as goal

pub loop-frame-init : goal.loop-frame-init
loop-frame-init c = unlike_rows c.args.row c.likely_frames-likely.result c.args.self.now c.likely_frames-likely.ensures.frames

pub loop-frame-smaller : goal.loop-frame-smaller
loop-frame-smaller c = c.in-Some.ensures.less

pub loop-frame-preserved : goal.loop-frame-preserved
loop-frame-preserved c =
    out_more (λ frame. IsHolder c.args.self.now c.args.row frame → ⊥) c.loop-frame.likely c.in-Some.frame c.take_lowest.new.bits c.in-Some.ensures.left c.loop-frame.invariant
    (λ holds. let both = sym c.if-holds.false ∙ c.holds.ensures.1 holds in cc)

pub returns : goal.returns
returns c frame h is same =
    let count = c.likely_frames-likely.ensures.sound.frames.count in
    let inside : frame < 64 = omega (arith, held_within c.args.self.now.uses frame h is, count) in
    c.loop-frame.invariant frame inside (c.in_default.ensures.lowest frame inside) (inside, h, is, same)
