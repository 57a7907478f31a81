use Rattle.std.proofs.Common.{◌≡◌, false, ℕ, get_or, sym, ◌∙◌, ap, subst}
use Rattle.r6_stripe.specs.Checks.{IsClassed}
use Rattle.r6_stripe.specs.Places.{no_place}
use Rattle.r6_stripe.specs.RowViews.{IsRowSound, row_of_state}
use Rattle.r6_stripe.specs.Seconds.{IsSoundBeside, with_second}
use Rattle.r6_stripe.specs.Sound.{IsSound}
use Rattle.r6_stripe.specs.Steps.{Held, lost}
use Rattle.r6_stripe.specs.Views.{held_of, hold_of}
use Rattle.r6_stripe.specs.declared.row.RowState.{RowState}
use Rattle.r6_stripe.specs.declared.state.HoldState.{HoldState}
use Rattle.r6_stripe.proofs.BesideRow.{IsLosing, losing_both, losing_other}
use Rattle.r6_stripe.proofs.Checks.{classed_lost}
use Rattle.r6_stripe.proofs.row.RowState.lose_beside.Goals.{After-lose-arg-1, then-second-position, else-second-position}
use Rattle.r6_stripe.proofs.row.RowState.lose_beside.Goals as goal

-- what stands before the hold loses the position
before : (c : After-lose-arg-1) → IsLosing c.args.self.now c.if-second-position.self c.args.position
before c =
    let row = c.args.self.now in
    let second = c.args.second in
    elim c.if-second-position.branch [
      | then-second-position w ↦
          let at = w.if-second-position.true in
          losing_both row c.if-second-position.self second w.lost.result c.args.position w.get-write.result w.keep_block.new.self.spare c.requires.sound c.requires.second (sym at)
          (w.get-write.ensures.value ∙ ap (λ (i : ℕ). get_or row.hold.places i no_place) (sym at)) (ap (λ (r : RowState). r.hold) w.self-is ∙ w.keep_block.ensures.hold) (ap (λ (r : RowState). r.spare_away) w.self-is ∙ w.keep_block.ensures.away)
          (ap (λ (r : RowState). r.second) w.self-is) w.lost.ensures (ap (λ (r : RowState). r.spare) w.self-is) w.keep_block.ensures.spare
      | else-second-position w ↦ subst (λ (mid : RowState). IsLosing row mid c.args.position) (sym w.self-is) (losing_other row second c.args.position c.requires.sound c.requires.second (λ e. w.if-second-position.false (sym e)))
    ]

pub lose-requires-clause-sound : goal.lose-requires-clause-sound
lose-requires-clause-sound c = subst IsSound (sym (before c).hold) c.requires.sound.sound

-- and after it
later_held : (row mid : RowState) (n : HoldState) (i : ℕ) → IsLosing row mid i → held_of n ≡ lost (held_of mid.hold) i → held_of n ≡ lost (held_of row.hold) i
later_held row mid n i losing loses = loses ∙ ap (λ (h : HoldState). lost (held_of h) i) losing.hold

lost_held : (row mid : RowState) (n : HoldState) (i : ℕ) → IsLosing row mid i → held_of n ≡ lost (held_of mid.hold) i → with_second mid.second mid.spare mid.spare_away (held_of n) ≡ lost (row_of_state row) i
lost_held row mid n i losing loses = ap (with_second mid.second mid.spare mid.spare_away) (later_held row mid n i losing loses) ∙ losing.held

lost_sound : (row mid : RowState) (n : HoldState) (i : ℕ) → IsRowSound row → IsLosing row mid i → held_of n ≡ lost (held_of mid.hold) i → IsSound n → n.prepared ≡ false → IsRowSound (record { hold = n; second = mid.second; spare = mid.spare; spare_away = mid.spare_away })
lost_sound row mid n i sound losing loses hold_sound unprepared =
    let held = later_held row mid n i losing loses in
    record {
      sound = hold_sound;
      classed = subst (λ (h : Held). IsClassed h.planned.hold h.class) (sym held) (classed_lost (hold_of row.hold) row.hold.class i sound.classed);
      prepared = λ e. absurd (let f = sym unprepared ∙ e in cc);
      spare = λ e. losing.spare e ∙ sym (ap (λ (h : Held). h.planned.hold.size) held);
      second = subst (λ (h : Held). IsSoundBeside h mid.spare_away mid.second) (sym held) losing.second;
    }

pub returns-clause-held : goal.returns-clause-held
returns-clause-held c = lost_held c.args.self.now c.if-second-position.self c.lose.new.self c.args.position (before (goal.at.returns-clause-held c).After-lose-arg-1) c.lose.ensures.held

pub returns-clause-sound : goal.returns-clause-sound
returns-clause-sound c =
    lost_sound c.args.self.now c.if-second-position.self c.lose.new.self c.args.position c.requires.sound (before (goal.at.returns-clause-sound c).After-lose-arg-1) c.lose.ensures.held c.lose.ensures.sound c.lose.ensures.prepared
