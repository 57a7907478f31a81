use Rattle.std.proofs.Common.{sym, ap, subst, ◌∙◌}
use Rattle.r6_stripe.specs.Replacements.{IsReplacing, with_replacement}
use Rattle.r6_stripe.specs.RowViews.{row_of_state}
use Rattle.r6_stripe.specs.Steps.{Held, settled}
use Rattle.r6_stripe.specs.WholeViews.{whole_of_state}
use Rattle.r6_stripe.proofs.ReplacingAnswers.{apart_kept}
use Rattle.r6_stripe.proofs.ReplacingSettles.{confirm_beside, settle_other, settle_plain}
use Rattle.r6_stripe.proofs.ReplacingWhole.{seen_is, source}
use Rattle.r6_stripe.proofs.whole.WholeState.settle_of_replacement.Goals as goal

pub returns-then-replacement-position-clause-held : goal.returns-then-replacement-position-clause-held
returns-then-replacement-position-clause-held c =
    let whole = c.args.self.now in
    let r = c.args.replacement in
    let from = source whole r c.requires.sound c.requires.replacement in
    let seen = seen_is whole r c.requires.sound c.requires.replacement in
    let held = row_of_state whole.row in
    (λ k. with_replacement (c.confirm.ensures.replacement k) (c.confirm.ensures.row k))
    ∙ confirm_beside held r from.1 (sym (ap (λ (h : Held). h.second_away) seen) ∙ c.requires.away)
    ∙ (λ k. settled (sym seen k) (c.if-replacement-position.true k))

pub returns-clause-held : goal.returns-clause-held
returns-clause-held c =
    let whole = c.args.self.now in
    let r = c.args.replacement in
    let from = source whole r c.requires.sound c.requires.replacement in
    let seen = seen_is whole r c.requires.sound c.requires.replacement in
    let held = row_of_state whole.row in
    (λ k. with_replacement (c.requires.replacement k) ((c.settle.ensures.held ∙ settle_plain held r from.1 c.args.position) k))
    ∙ settle_other held r from.1 c.args.position (λ e. c.if-replacement-position.false (sym e)) (sym (ap (λ (h : Held). h.second_away) seen) ∙ c.requires.away)
    ∙ ap (λ (h : Held). settled h c.args.position) (sym seen)

pub returns-clause-sound : goal.returns-clause-sound
returns-clause-sound c =
    let whole = c.args.self.now in
    let r = c.args.replacement in
    let from = source whole r c.requires.sound c.requires.replacement in
    let held = row_of_state whole.row in
    record {
      row = c.settle.ensures.sound;
      replacement = subst (Rattle.r6_stripe.specs.WholeViews.IsSoundReplacing c.settle.new.self) (sym c.requires.replacement)
          (c.settle.ensures.alone from.0, subst (λ (h : Held). IsReplacing h r) (sym (c.settle.ensures.held ∙ settle_plain held r from.1 c.args.position)) (apart_kept held r from.1 r.written (λ e. e) (λ e. e)));
    }
