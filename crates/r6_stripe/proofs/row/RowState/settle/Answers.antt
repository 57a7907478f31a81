use Rattle.std.proofs.Common.{◌≡◌, Bool, true, false, ℕ, List, sym, ◌∙◌, subst, Some}
use Rattle.r6_stripe.specs.RowViews.{IsRowSound, row_of_state}
use Rattle.r6_stripe.specs.Seconds.{IsSecondSound, is_awaited, with_second}
use Rattle.r6_stripe.specs.Steps.{settled}
use Rattle.r6_stripe.specs.Views.{held_of}
use Rattle.r6_stripe.specs.declared.row.RowState.{RowState}
use Rattle.r6_stripe.specs.declared.second.Second.{Second}
use Rattle.r6_stripe.proofs.Alone.{cells_alone}
use Rattle.r6_stripe.proofs.BesideAnswers.{settled_sent}
use Rattle.r6_stripe.proofs.BesideLosses.{settled_alone, settled_late, sound_some}
use Rattle.r6_stripe.proofs.BesideRow.{seen_is}
use Rattle.r6_stripe.proofs.row.RowState.settle.Goals.{else-second-position-via-then-second-position+else-is_sent, else-second-position-via-else-second-position}
use Rattle.r6_stripe.proofs.row.RowState.settle.Goals as goal

pub returns-then-is_sent-clause-held : goal.returns-then-is_sent-clause-held
returns-then-is_sent-clause-held c =
    let row = c.args.self.now in
    let second = c.in-Some.second in
    settled_sent second row.spare row.spare_away (held_of row.hold) (cells_alone row.hold.places row.hold.blocks.items) (sound_some row second c.requires.sound c.in-Some.is) (sym c.is_sent.ensures ∙ c.if-is_sent.true)
    ∙ (λ k. settled (seen_is row second c.in-Some.is k) (c.if-second-position.true k))

late : (row : RowState) (second : Second) (i : ℕ) (buffer : List ℕ) → IsRowSound row → row.second ≡ Some second → row.spare_away ≡ true → (i ≡ second.position → is_awaited second ≡ false) →
    with_second row.second buffer false (held_of row.hold) ≡ settled (row_of_state row) i
late row second i buffer sound is away quiet =
    (λ k. with_second (is k) buffer false (held_of row.hold))
    ∙ settled_late (held_of row.hold) second row.spare buffer i (cells_alone row.hold.places row.hold.blocks.items) (subst (λ (b : Bool). IsSecondSound (held_of row.hold) b second) away (sound_some row second sound is)) quiet
    ∙ (λ k. settled (with_second (sym is k) row.spare (sym away k) (held_of row.hold)) i)

pub returns-else-second-position-clause-held : goal.returns-else-second-position-clause-held
returns-else-second-position-clause-held c =
    let row = c.args.self.now in
    let second = c.in-Some.second in
    late row second c.args.position c.args.buffer c.requires.sound c.in-Some.is c.requires.away
    (elim c.else-second-position.branch [
      | else-second-position-via-then-second-position+else-is_sent w ↦ λ same. sym w.is_sent.ensures ∙ w.if-is_sent.false
      | else-second-position-via-else-second-position w ↦ λ same. absurd (w.if-second-position.false (sym same))
    ])

pub returns-in_default-clause-held : goal.returns-in_default-clause-held
returns-in_default-clause-held c =
    let row = c.args.self.now in
    (λ k. with_second (c.in_default.is k) c.args.buffer false (held_of row.hold))
    ∙ settled_alone (held_of row.hold) row.spare c.args.buffer row.spare_away c.args.position (cells_alone row.hold.places row.hold.blocks.items)
    ∙ (λ k. settled (with_second (sym c.in_default.is k) row.spare row.spare_away (held_of row.hold)) c.args.position)
