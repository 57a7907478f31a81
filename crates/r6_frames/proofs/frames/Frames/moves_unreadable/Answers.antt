use Rattle.std.proofs.Common.{◌≡◌, ℕ, Option, Some, None, sym, ap, subst, ◌∙◌}
use Rattle.r6_stripe.specs.Plans.{next}
use Rattle.r6_stripe.specs.Plans.Next.{MoveAt}
use Rattle.r6_stripe.specs.Steps.{moves_unreadable}
use Rattle.std.specs.Prelude.{MatchOption}
use Rattle.r6_frames.specs.FramesState.{FramesState}
use Rattle.r6_frames.specs.Inside.{view_of}
use Rattle.r6_frames.specs.Owed.{MovesUnreadable, MovesUnreadableAt}
use Rattle.r6_frames.specs.declared.frames.HeldRow.{HeldRow}
use Rattle.r6_frames.specs.declared.frames.FrameUse.TheVariants.{Held}
use Rattle.r6_frames.specs.Views.{hold_at, row_in}
use Rattle.r6_frames.proofs.HeldRows.{use_found}
use Rattle.r6_frames.proofs.Readable.{moves_next, next_moves}
use Rattle.r6_frames.proofs.frames.Frames.moves_unreadable.Goals as goal

moves_of : (fs : FramesState) (frame : ℕ) (h : HeldRow) (result : Option ℕ) → hold_at fs.uses frame ≡ Some h → result ≡ moves_unreadable h.hold.planned
    → MatchOption result (MovesUnreadable fs frame → ⊥) (λ position. MovesUnreadableAt fs frame position)
moves_of fs frame h None is same = λ moves.
    let one : moves.1.0 ≡ h = let both = sym moves.1.1 ∙ is in cc in
    let now = next_moves h.hold.planned moves.0 (subst (λ (x : HeldRow). next x.hold.planned ≡ Some (MoveAt moves.0)) one moves.1.2) in
    let both = same ∙ now in cc
moves_of fs frame h (Some position) is same = (h, is, moves_next h.hold.planned position (sym same))

pub returns-in-Held : goal.returns-in-Held
returns-in-Held c =
    rw (← c.self.view_is) (let held = c.self.inside.uses.items in
    let h = c.in-Held.held in
    let is : hold_at held c.args.frame ≡ Some h = ap row_in (use_found held c.args.frame c.index.result.now (Held h) (rw (← c.self.view_is) at c.requires) c.index.ensures c.in-Held.is) in
    moves_of (view_of c.self.inside) c.args.frame h c.moves_unreadable.result is c.moves_unreadable.ensures)
