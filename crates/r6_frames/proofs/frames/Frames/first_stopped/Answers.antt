use Rattle.std.proofs.Common.{◌≡◌, ℕ, ◌+◌, ◌≤◌, length, ap, sym, ◌∙◌, subst, arith, Option, Some, None}
use Rattle.std.specs.Prelude.{MatchOption}
use Rattle.r6_frames.specs.declared.directs.DirectRead.{DirectRead}
use Rattle.r6_frames.specs.FramesState.{FramesState}
use Rattle.r6_frames.specs.Reads.{IsStoppedAt, IsFirstStopped, NoneStopped}
use Rattle.r6_frames.proofs.FirstStopped.{HasStopped, IsFirst, not_goes_on, goes_on, comes_first, comes, first_is, none_is}
use Rattle.r6_frames.proofs.frames.Frames.first_stopped.Goals.{in-Some+in-Some-first, in-Some+in_default-first-2, in-Some+in_default-first, in_default}
use Rattle.r6_frames.proofs.frames.Frames.first_stopped.Goals as goal

pub loop-number-init : goal.loop-number-init
loop-number-init c = λ other s below is. absurd (omega arith)

pub loop-number-preserved : goal.loop-number-preserved
loop-number-preserved c =
    let fs = c.args.self.now in
    let number = c.loop-number.number in
    let After : Option (ℕ × ℕ) → Type 0 = IsFirst fs (number + 1) in
    let Before : Option (ℕ × ℕ) → Type 0 = IsFirst fs number in
    let Tells : Option ℕ → Type 0 = λ token. MatchOption token ((r : DirectRead) → IsStoppedAt fs number r → ⊥) (HasStopped fs number) in
    elim c.match-stopped_token.branch [
      | in-Some+in-Some-first w ↦
          let before = subst Before w.in-Some-first.is c.loop-number.invariant in
          subst After (sym (w.first-is ∙ w.in-Some-first.is))
          (goes_on fs number w.in-Some.token w.in-Some-first.lowest w.in-Some-first.field-0-1 w.if-lowest-token.true (subst Tells w.in-Some.is c.stopped_token.ensures) before)
      | in-Some+in_default-first-2 w ↦
          let before = subst Before w.in-Some-first.is c.loop-number.invariant in
          subst After (sym w.first-is)
          (comes_first fs number w.in-Some.token w.in-Some-first.lowest w.in-Some-first.field-0-1 w.if-lowest-token.false (subst Tells w.in-Some.is c.stopped_token.ensures) before)
      | in-Some+in_default-first w ↦
          subst After (sym w.first-is) (comes fs number w.in-Some.token (subst Tells w.in-Some.is c.stopped_token.ensures) (subst Before w.in_default-first.is c.loop-number.invariant))
      | in_default w ↦ subst After (sym w.first-is) (not_goes_on fs number c.loop-number.first (subst Tells w.in_default.is c.stopped_token.ensures) c.loop-number.invariant)
    ]

-- all direct buffers were looked at
all_seen : (fs : FramesState) (number end : ℕ) → end ≡ length fs.directs → end ≤ number → number ≤ end → number ≡ length fs.directs
all_seen fs number end is above below = omega arith

pub returns-in_err-number : goal.returns-in_err-number
returns-in_err-number c =
    let fs = c.args.self.now in
    let all = all_seen fs c.loop-number.number c.len-number-end.result (c.len-number-end.ensures ∙ ap (λ (fs : FramesState). length fs.directs) c.self.view_is) c.loop-number-test.false (c.loop-number.auto.number-end) in
    let first = subst (IsFirst fs c.loop-number.number) c.in_err-number.was c.loop-number.invariant in
    let Tells : Option ℕ → Type 0 = λ number. MatchOption number (NoneStopped fs) (λ number. (r : DirectRead) × IsFirstStopped fs number r) in
    subst Tells (sym c.from_residual.ensures) (none_is fs (subst (λ n. IsFirst fs n None) all first))

pub returns : goal.returns
returns c =
    let fs = c.args.self.now in
    let all = all_seen fs c.loop-number.number c.len-number-end.result (c.len-number-end.ensures ∙ ap (λ (fs : FramesState). length fs.directs) c.self.view_is) c.loop-number-test.false (c.loop-number.auto.number-end) in
    let first = subst (IsFirst fs c.loop-number.number) c.in_ok-number.was c.loop-number.invariant in
    first_is fs c.in_ok-number.field-0-0 c.in_ok-number.number (subst (λ n. IsFirst fs n (Some (c.in_ok-number.field-0-0, c.in_ok-number.number))) all first)
