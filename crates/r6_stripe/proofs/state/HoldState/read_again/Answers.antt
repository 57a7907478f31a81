use Rattle.std.proofs.Common.{inl, inr, [], refl, sym, ◌∙◌, ap, subst, arith}
use Rattle.std.specs.Prelude.{option_map}
use Rattle.r6_stripe.specs.Checks.{IsClassed}
use Rattle.r6_stripe.specs.Plans as plans
use Rattle.r6_stripe.specs.Steps.{Held}
use Rattle.r6_stripe.specs.Views.{hold_of}
use Rattle.r6_stripe.proofs.Checks.{classed_asked_again}
use Rattle.r6_stripe.proofs.Mends.{again_found}
use Rattle.r6_stripe.proofs.Places.{length-cells_of}
use Rattle.r6_stripe.proofs.Steps.{again_parts}
use Rattle.r6_stripe.proofs.state.HoldState.read_again.Goals as goal

pub ask_again-buffer-requires : goal.ask_again-buffer-requires
ask_again-buffer-requires c =
    let s = c.args.self.now in
    let i = c.in-Some.position in
    let found = again_found (hold_of s) i (sym c.next_again.ensures ∙ ap (option_map plans.Next.ReadAgainAt) c.in-Some.is) in
    let parts = again_parts (hold_of s) i found.2 in
    record {
      sound = c.requires.sound;
      place = omega (arith, found.1, length-cells_of s.places s.blocks.items);
      in_sync = parts.0;
      fixed = parts.1;
      before_writes = found.0;
    }

pub returns-in-Some-clause-puts_out : goal.returns-in-Some-clause-puts_out
returns-in-Some-clause-puts_out c =
    (inr (c.requires.next ∙ sym c.next_again.ensures ∙ ap (option_map plans.Next.ReadAgainAt) c.in-Some.is, c.ask_again-buffer.ensures.held), c.ask_again-buffer.ensures.size)

pub returns-in-Some-clause-classed : goal.returns-in-Some-clause-classed
returns-in-Some-clause-classed c =
    let s = c.args.self.now in
    let i = c.in-Some.position in
    let found = again_found (hold_of s) i (sym c.next_again.ensures ∙ ap (option_map plans.Next.ReadAgainAt) c.in-Some.is) in
    subst (λ (h : Held). IsClassed h.planned.hold h.class) (sym c.ask_again-buffer.ensures.held)
    (classed_asked_again (hold_of s) s.class i found.1 (again_parts (hold_of s) i found.2).1 c.requires.classed)

pub returns-clause-puts_out : goal.returns-clause-puts_out
returns-clause-puts_out c =
    (([], tt, tt, refl), inl (c.requires.next ∙ sym c.next_again.ensures ∙ ap (option_map plans.Next.ReadAgainAt) c.in_default.is), refl, refl)
