use Rattle.std.proofs.Common.{◌-◌, length}
use Rattle.r6_stripe.specs.Mending.{first_known_of}
use Rattle.r6_stripe.proofs.FirstKnown.{GoesOn}
use Rattle.r6_stripe.proofs.Missing.{IsSeen}
use Rattle.r6_stripe.proofs.state.HoldState.missing_of_first.Given as goal

abbrev pub invariant-loop-position : goal.invariant-loop-position
invariant-loop-position l =
    let flags = first_known_of (length l.self.places - 2) l.self.places in
    IsSeen flags l.known l.position × GoesOn flags l.self.places l.position l.left
