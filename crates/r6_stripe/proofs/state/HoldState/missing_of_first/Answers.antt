use Rattle.std.proofs.Common.{◌<◌, ◌+◌, ◌-◌, Bool, ℕ, false, List, [], length, get_or, sym, ◌∙◌, ap, subst, arith}
use Rattle.r6_recover.specs.Known.{IsMissing}
use Rattle.r6_stripe.specs.Holds.{is_known}
use Rattle.r6_stripe.specs.Mending.{first_known_of}
use Rattle.r6_stripe.specs.Places.{reading_of}
use Rattle.r6_stripe.specs.declared.place.PositionState.{PositionState}
use Rattle.r6_stripe.proofs.FirstKnown.{GoesOn, flag_left, flag_taken}
use Rattle.r6_stripe.proofs.Missing.{IsSeen, missing_same, seen_known, seen_none, seen_unknown}
use Rattle.r6_stripe.proofs.state.HoldState.missing_of_first.Goals as goal
use Rattle.r6_stripe.proofs.state.HoldState.missing_of_first.Goals.{then-left-gt0+then-is_known, else-left-gt0, else-left-gt0-via-then-left-gt0+else-is_known, else-left-gt0-via-else-left-gt0}

pub loop-position-init : goal.loop-position-init
loop-position-init c =
    let places = c.args.self.now.places in
    let flags = first_known_of (length places - 2) places in
    (subst (λ (known : List Bool). IsSeen flags known 0) (sym c.none-known.ensures) (seen_none flags), subst (GoesOn flags places 0) (ap (λ n. n - 2) (sym c.len-left.ensures)) (λ k. ap (λ (j : ℕ). get_or flags j false) (omega arith)))

pub loop-position-preserved : goal.loop-position-preserved
loop-position-preserved c =
    let places = c.args.self.now.places in
    let flags = first_known_of (length places - 2) places in
    let i = c.loop-position.position in
    let was = c.loop-position.invariant in
    let below : i < length places = omega (arith, c.len-position-end.ensures, c.loop-position-test.true) in
    let few : i < 32 = omega (arith, below, c.requires.few) in
    elim c.if-left-gt0.branch [
      | then-left-gt0+then-is_known w ↦
          let known = sym (ap (λ (place : PositionState). is_known (reading_of place.read [])) w.get.ensures.value) ∙ sym w.is_known.ensures ∙ w.if-is_known.true in
          let taken = flag_taken flags places i c.loop-position.left below was.1 w.if-left-gt0.true known in (
            subst (λ (xs : List Bool). IsSeen flags xs (i + 1)) (sym (w.known-is ∙ w.insert.ensures)) (seen_known flags c.loop-position.known i few was.0 taken.0),
            subst (GoesOn flags places (i + 1)) (sym w.left-is) taken.1,
          )
      | else-left-gt0 w ↦
          let left = flag_left flags places i c.loop-position.left below was.1 (λ some. elim w.else-left-gt0.branch [
            | else-left-gt0-via-then-left-gt0+else-is_known w' ↦ sym (ap (λ (place : PositionState). is_known (reading_of place.read [])) w'.get.ensures.value) ∙ sym w'.is_known.ensures ∙ w'.if-is_known.false
            | else-left-gt0-via-else-left-gt0 w' ↦ absurd (omega (arith, some, w'.if-left-gt0.false))
          ]) in (
            subst (λ (xs : List Bool). IsSeen flags xs (i + 1)) (sym w.known-is) (seen_unknown flags c.loop-position.known i was.0 left.0),
            subst (GoesOn flags places (i + 1)) (sym w.left-is) left.1,
          )
    ]

pub returns : goal.returns
returns c =
    let places = c.args.self.now.places in
    let flags = first_known_of (length places - 2) places in
    missing_same c.loop-position.known flags (length places)
    (λ k below. c.loop-position.invariant.0.seen k (omega (arith, below, c.len-position-end.ensures, c.loop-position-test.false)))
    c.missing_among.result (subst (λ (n : ℕ). IsMissing c.loop-position.known n c.missing_among.result) (omega (arith, c.len.ensures)) c.missing_among.ensures)
