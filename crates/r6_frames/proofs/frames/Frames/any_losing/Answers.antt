use Rattle.std.proofs.Common.{◌<◌, ◌∙◌, sym, arith}
use Rattle.r6_frames.specs.Owed.{LosesUnreadable}
use Rattle.r6_bits.proofs.Words.{out_more}
use Rattle.r6_frames.proofs.FreeFrames.{out_of_use}
use Rattle.r6_frames.proofs.Held.{held_within}
use Rattle.r6_frames.proofs.frames.Frames.any_losing.Goals as goal

pub loop-frame-init : goal.loop-frame-init
loop-frame-init c =
    out_of_use c.used_frames-used.result c.args.self.now.uses (λ frame. LosesUnreadable c.args.self.now frame → ⊥) c.used_frames-used.ensures.used (λ frame none over. none over.0 over.1)

pub loop-frame-smaller : goal.loop-frame-smaller
loop-frame-smaller c = c.in-Some.ensures.less

pub loses_unreadable-requires : goal.loses_unreadable-requires
loses_unreadable-requires c = omega (arith, c.in-Some.ensures.lowest.0, c.used_frames-used.ensures.sound.frames.count)

pub loop-frame-preserved : goal.loop-frame-preserved
loop-frame-preserved c =
    out_more (λ frame. LosesUnreadable c.args.self.now frame → ⊥) c.loop-frame.used c.in-Some.frame c.take_lowest.new.bits c.in-Some.ensures.left c.loop-frame.invariant
    (λ over. let both = sym c.if-loses_unreadable.false ∙ c.loses_unreadable.ensures.1 over in cc)

pub returns : goal.returns
returns c frame over =
    let count = c.used_frames-used.ensures.sound.frames.count in
    let inside : frame < 64 = omega (arith, held_within c.args.self.now.uses frame over.0 over.1, count) in
    c.loop-frame.invariant frame inside (c.in_default.ensures.lowest frame inside) over
