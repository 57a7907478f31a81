use Rattle.std.proofs.Common.{◌≡◌, ◌-◌, length, Bool, true, false, [], refl, sym, ◌∙◌, ap, None, Some}
use Rattle.std.specs.Prelude.{if◌then◌else◌, is_some, nat_lt, not, ◌&&◌}
use Rattle.std.specs.List.{list_any}
use Rattle.r6_stripe.specs.Holds.{Hold}
use Rattle.r6_stripe.specs.Places.{cell_of}
use Rattle.r6_stripe.specs.Plans.{Next, data_count, first_from, is_in_error, is_knowable, is_next_move, knowable_count, or_lose}
use Rattle.r6_stripe.specs.Views.{hold_of}
use Rattle.r6_stripe.proofs.Alone.{cells_alone}
use Rattle.r6_stripe.proofs.Mends.{is_loss_same}
use Rattle.r6_stripe.proofs.MaskedPlaces.{any_masked, count_masked}
use Rattle.r6_stripe.proofs.Places.{count-cells_of, in_error-blind, knowable-blind, length-cells_of}
use Rattle.r6_stripe.proofs.state.HoldState.has_too_few.Goals as goal

is_lost : (few some : Bool) (step : Next) → (few && some) ≡ is_some (if few && some then Some step else None)
is_lost true true step = refl
is_lost true false step = refl
is_lost false some step = refl

none_lost : (few : Bool) (step : Next) → false ≡ is_some (if few && false then Some step else None)
none_lost true step = refl
none_lost false step = refl

-- what it does then
abbrev step_of : Hold → Next
step_of hold = or_lose (first_from (is_next_move hold) 0 (length hold.cells))

pub returns-then-is_empty : goal.returns-then-is_empty
returns-then-is_empty c =
    let s = c.args.self.now in
    let none = any_masked is_in_error in_error-blind refl s.places s.blocks.items c.in_error.result c.is_empty.result c.in_error.ensures c.is_empty.ensures.none c.is_empty.ensures.some in
    none_lost (nat_lt (knowable_count (hold_of s).cells) (data_count (hold_of s))) (step_of (hold_of s))
    ∙ ap (λ (b : Bool). is_some (if nat_lt (knowable_count (hold_of s).cells) (data_count (hold_of s)) && b then Some (step_of (hold_of s)) else None)) (sym (none ∙ ap not c.if-is_empty.true))
    ∙ sym (is_loss_same (hold_of s) (cells_alone s.places s.blocks.items))

pub returns : goal.returns
returns c =
    let s = c.args.self.now in
    let some = any_masked is_in_error in_error-blind refl s.places s.blocks.items c.in_error.result c.is_empty.result c.in_error.ensures c.is_empty.ensures.none c.is_empty.ensures.some ∙ ap not c.if-is_empty.false in
    let known : c.count.result ≡ knowable_count (hold_of s).cells =
    c.count.ensures ∙ count_masked (λ place. is_knowable (cell_of place [])) refl s.places c.knowable.result c.knowable.ensures ∙ sym (count-cells_of is_knowable knowable-blind s.places s.blocks.items) in
    let width : c.len.result - 2 ≡ data_count (hold_of s) = ap (λ n. n - 2) (c.len.ensures ∙ sym (length-cells_of s.places s.blocks.items)) in
    (λ i. nat_lt (known i) (width i)) ∙ and_true (nat_lt (knowable_count (hold_of s).cells) (data_count (hold_of s)))
    ∙ ap (λ (b : Bool). nat_lt (knowable_count (hold_of s).cells) (data_count (hold_of s)) && b) (sym some)
    ∙ is_lost (nat_lt (knowable_count (hold_of s).cells) (data_count (hold_of s))) (list_any is_in_error (hold_of s).cells) (step_of (hold_of s))
    ∙ sym (is_loss_same (hold_of s) (cells_alone s.places s.blocks.items))
  where
    and_true : (b : Bool) → b ≡ (b && true)
    and_true true = refl
    and_true false = refl
