use Rattle.std.proofs.Common.{◌≡◌, ◌<◌, ◌∙◌, ℕ, Option, Some, None, true, false, sym, arith}
use Rattle.std.specs.Prelude.{MatchOption, is_some}
use Rattle.r6_frames.specs.FramesState.{FramesState}
use Rattle.r6_frames.specs.Owed.{MovesUnreadable, MovesUnreadableAt}
use Rattle.r6_bits.proofs.Words.{out_more}
use Rattle.r6_frames.proofs.FreeFrames.{out_of_use}
use Rattle.r6_frames.proofs.Held.{held_within}
use Rattle.r6_frames.proofs.frames.Frames.any_moving.Goals as goal

none_moves : (fs : FramesState) (frame : ℕ) (result : Option ℕ) → is_some result ≡ false → MatchOption result (MovesUnreadable fs frame → ⊥) (λ position. MovesUnreadableAt fs frame position) → MovesUnreadable fs frame → ⊥
none_moves fs frame None none is = is
none_moves fs frame (Some position) none is = absurd (cc)

some_moves : (fs : FramesState) (frame : ℕ) (result : Option ℕ) → is_some result ≡ true → MatchOption result (MovesUnreadable fs frame → ⊥) (λ position. MovesUnreadableAt fs frame position) → MovesUnreadable fs frame
some_moves fs frame None some is = absurd (cc)
some_moves fs frame (Some position) some is = (position, is)

pub loop-frame-init : goal.loop-frame-init
loop-frame-init c =
    out_of_use c.used_frames-used.result c.args.self.now.uses (λ frame. MovesUnreadable c.args.self.now frame → ⊥) c.used_frames-used.ensures.used (λ frame none over. none over.1.0 over.1.1)

pub loop-frame-smaller : goal.loop-frame-smaller
loop-frame-smaller c = c.in-Some.ensures.less

pub moves_unreadable-requires : goal.moves_unreadable-requires
moves_unreadable-requires c = omega (arith, c.in-Some.ensures.lowest.0, c.used_frames-used.ensures.sound.frames.count)

pub loop-frame-preserved : goal.loop-frame-preserved
loop-frame-preserved c =
    out_more (λ frame. MovesUnreadable c.args.self.now frame → ⊥) c.loop-frame.used c.in-Some.frame c.take_lowest.new.bits c.in-Some.ensures.left c.loop-frame.invariant
    (none_moves c.args.self.now c.in-Some.frame c.moves_unreadable.result (sym c.is_some.ensures ∙ c.if-is_some.false) c.moves_unreadable.ensures)

pub returns : goal.returns
returns c frame over =
    let count = c.used_frames-used.ensures.sound.frames.count in
    let inside : frame < 64 = omega (arith, held_within c.args.self.now.uses frame over.1.0 over.1.1, count) in
    c.loop-frame.invariant frame inside (c.in_default.ensures.lowest frame inside) over

pub returns-then-is_some : goal.returns-then-is_some
returns-then-is_some c = some_moves c.args.self.now c.in-Some.frame c.moves_unreadable.result (sym c.is_some.ensures ∙ c.if-is_some.true) c.moves_unreadable.ensures
