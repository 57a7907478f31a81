use Rattle.std.proofs.Common.{◌≡◌, Some, sym, ap, subst, ◌∙◌}
use Rattle.r6_stripe.specs.Plans.{next}
use Rattle.r6_stripe.specs.Plans.Next.{LoseUnreadable}
use Rattle.r6_frames.specs.declared.frames.HeldRow.{HeldRow}
use Rattle.r6_frames.specs.declared.frames.FrameUse.TheVariants.{Held}
use Rattle.r6_frames.specs.Views.{hold_at, row_in}
use Rattle.r6_frames.proofs.HeldRows.{use_found}
use Rattle.r6_frames.proofs.Readable.{loses_next, next_loses}
use Rattle.r6_frames.proofs.frames.Frames.loses_unreadable.Goals as goal

pub returns-in-Held : goal.returns-in-Held
returns-in-Held c =
    rw (← c.self.view_is) (let held = c.self.inside.uses.items in
    let h = c.in-Held.held in
    let is : hold_at held c.args.frame ≡ Some h = ap row_in (use_found held c.args.frame c.index.result.now (Held h) (rw (← c.self.view_is) at c.requires) c.index.ensures c.in-Held.is) in (
      λ loses. (h, is, loses_next h.hold.planned (sym c.loses_unreadable.ensures ∙ loses)),
      λ loses.
          let both : Some loses.0 ≡ Some h = sym loses.1 ∙ is in
          let same : loses.0 ≡ h = cc in
          c.loses_unreadable.ensures ∙ next_loses h.hold.planned (subst (λ (x : HeldRow). next x.hold.planned ≡ Some LoseUnreadable) same loses.2),
    ))
