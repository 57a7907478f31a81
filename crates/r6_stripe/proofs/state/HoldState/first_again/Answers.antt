use Rattle.std.proofs.Common.{◌≡◌, Bool, true, false, length, refl, sym, ◌∙◌, ap, None, Option}
use Rattle.std.specs.Prelude.{if◌then◌else◌, not, option_map, ◌||◌}
use Rattle.r6_stripe.specs.Places.{is_fix_out, is_rereadable}
use Rattle.r6_stripe.specs.Plans as plans
use Rattle.r6_stripe.specs.Views.{hold_of}
use Rattle.r6_stripe.proofs.MaskedPlaces.{any_masked, first_masked}
use Rattle.r6_stripe.proofs.Places.{fix_out-blind, rereadable-blind}
use Rattle.r6_stripe.proofs.state.HoldState.first_again.Goals as goal

none_first : (a b d : Bool) (o : Option plans.Next) → b ≡ true → None ≡ (if a || b || d then None else o)
none_first true b d o e = refl
none_first false true d o e = refl
none_first false false d o e = absurd cc

none_last : (a b d : Bool) (o : Option plans.Next) → d ≡ true → None ≡ (if a || b || d then None else o)
none_last true b d o e = refl
none_last false true d o e = refl
none_last false false true o e = refl
none_last false false false o e = absurd cc

pub returns-then-has_computed : goal.returns-then-has_computed
returns-then-has_computed c = λ kind live.
    let hold = hold_of c.args.self.now in
    none_first (plans.is_idle kind) (plans.has_computed hold) (plans.has_fix_out hold) _ (sym c.has_computed.ensures ∙ c.if-has_computed.true)

pub returns-then-not-is_empty : goal.returns-then-not-is_empty
returns-then-not-is_empty c = λ kind live.
    let s = c.args.self.now in
    let hold = hold_of s in
    let fixes = any_masked is_fix_out fix_out-blind refl s.places s.blocks.items c.fix_out.result c.is_empty.result c.fix_out.ensures c.is_empty.ensures.none c.is_empty.ensures.some in
    none_last (plans.is_idle kind) (plans.has_computed hold) (plans.has_fix_out hold) _ (fixes ∙ ap not c.if-not-is_empty.true)

pub returns : goal.returns
returns c = λ kind live.
    let s = c.args.self.now in
    let hold = hold_of s in
    let computed = sym c.has_computed.ensures ∙ c.if-has_computed.false in
    let fixes = any_masked is_fix_out fix_out-blind refl s.places s.blocks.items c.fix_out.result c.is_empty.result c.fix_out.ensures c.is_empty.ensures.none c.is_empty.ensures.some ∙ ap not c.if-not-is_empty.false in
    let found = first_masked is_rereadable rereadable-blind refl s.places s.blocks.items c.rereadable.result c.lowest.result c.rereadable.ensures c.lowest.ensures in
    ap (option_map plans.Next.ReadAgainAt) found
    ∙ sym (λ i. if live i || computed i || fixes i then None else option_map plans.Next.ReadAgainAt (plans.first_from (plans.is_next_again hold) 0 (length hold.cells)))
