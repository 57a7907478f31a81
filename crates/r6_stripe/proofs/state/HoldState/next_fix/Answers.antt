use Rattle.std.proofs.Common.{◌≡◌, Bool, true, false, length, refl, sym, ◌∙◌, ap, arith, None}
use Rattle.std.specs.Prelude.{if◌then◌else◌, option_map, ◌&&◌}
use Rattle.std.proofs.lemmas.Bool.{lt-leb, le-leb}
use Rattle.r6_stripe.specs.Holds.{cell_at, known_count}
use Rattle.r6_stripe.specs.Plans as plans
use Rattle.r6_stripe.specs.Plans.{can_fix, is_in_error}
use Rattle.r6_stripe.specs.Views.{hold_of}
use Rattle.r6_stripe.proofs.MaskedPlaces.{first_masked}
use Rattle.r6_stripe.proofs.Places.{in_error-blind, length-cells_of}
use Rattle.r6_stripe.proofs.Searches.{first_none}
use Rattle.r6_stripe.proofs.state.HoldState.next_fix.Goals as goal

pub returns-then-has_computed : goal.returns-then-has_computed
returns-then-has_computed c =
    let hold = hold_of c.args.self.now in
    sym (ap (λ (b : Bool). if b then None else option_map plans.Next.FixAt (plans.first_from (plans.is_next_fix hold) 0 (length hold.cells))) (sym c.has_computed.ensures ∙ c.if-has_computed.true))

pub returns-then-known_count-len : goal.returns-then-known_count-len
returns-then-known_count-len c =
    let hold = hold_of c.args.self.now in
    let wide = length-cells_of c.args.self.now.places c.args.self.now.blocks.items in
    let few : can_fix hold ≡ false = lt-leb (plans.data_count hold) (known_count hold.cells) (omega (arith, c.if-known_count-len.true, c.known_count.ensures, c.len.ensures, wide)) in
    let none = first_none (plans.is_next_fix hold) 0 (length hold.cells) (λ k from below. ap (λ (b : Bool). b && is_in_error (cell_at hold.cells k)) few) in
    sym ((λ i. if (sym c.has_computed.ensures ∙ c.if-has_computed.false) i then None else option_map plans.Next.FixAt (none i)))

pub returns : goal.returns
returns c =
    let s = c.args.self.now in
    let hold = hold_of s in
    let wide = length-cells_of s.places s.blocks.items in
    let can : can_fix hold ≡ true = le-leb (plans.data_count hold) (known_count hold.cells) (omega (arith, c.if-known_count-len.false, c.known_count.ensures, c.len.ensures, wide)) in
    let found = first_masked is_in_error in_error-blind refl s.places s.blocks.items c.in_error.result c.lowest.result c.in_error.ensures c.lowest.ensures in
    ap (option_map plans.Next.FixAt) (found ∙ ap (λ (b : Bool). plans.first_from (λ i. b && is_in_error (cell_at hold.cells i)) 0 (length hold.cells)) (sym can))
    ∙ sym (ap (λ (b : Bool). if b then None else option_map plans.Next.FixAt (plans.first_from (plans.is_next_fix hold) 0 (length hold.cells))) (sym c.has_computed.ensures ∙ c.if-has_computed.false))
