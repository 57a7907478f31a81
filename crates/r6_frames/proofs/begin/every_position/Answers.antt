use Rattle.std.proofs.Common.{◌≡◌, Bool, true, refl, ap, ◌∙◌, arith}
use Rattle.std.specs.Prelude.{if◌then◌else◌}
use Rattle.std.proofs.lemmas.Bool.{eq-eqb, ne_eqb}
use borrow.Author.Count.{below_more}
use Rattle.r6_stripe.specs.Masks.{has}
use Rattle.r6_frames.proofs.begin.every_position.Goals as goal

pub loop-position-init : goal.loop-position-init
loop-position-init c = λ position below. absurd (omega arith)

pub loop-position-preserved : goal.loop-position-preserved
loop-position-preserved c =
    let at = c.loop-position.position in
    let put : (b : Bool) → Bool = λ b. if b then true else has c.loop-position.every at in
    below_more (λ position. has c.put-every.result position ≡ true) at
    (λ position below. c.put-every.ensures position ∙ ap (λ (b : Bool). if b then true else has c.loop-position.every position) (ne_eqb position at (omega arith)) ∙ c.loop-position.invariant position below)
    (c.put-every.ensures at ∙ ap put (eq-eqb at at refl))

pub returns : goal.returns
returns c = λ position below. c.loop-position.invariant position (omega arith)
