use Rattle.std.proofs.Common.{◌≡◌, Bool, true, false, inl, inr, [], refl, sym, ◌∙◌, ap, subst, arith, Some, None, Option}
use Rattle.std.specs.Prelude.{if◌then◌else◌, is_some, option_map}
use Rattle.r6_stripe.specs.Checks.{IsClassed}
use Rattle.r6_stripe.specs.Holds.{cell_at}
use Rattle.r6_stripe.specs.Plans as plans
use Rattle.r6_stripe.specs.Plans.{Next, or_else}
use Rattle.r6_stripe.specs.Steps.{Held}
use Rattle.r6_stripe.specs.Views.{hold_of, plan_of, planned_of}
use Rattle.r6_stripe.proofs.Alone.{cells_alone}
use Rattle.r6_stripe.proofs.Checks.{classed_asked, classed_fixing}
use Rattle.r6_stripe.proofs.Fixes.{in_error}
use Rattle.r6_stripe.proofs.Mends.{fix_found, is_loss_same, loss_none, loss_some, next_mending}
use Rattle.r6_stripe.proofs.Nexts.{in_sync_is, read_found, unread_is}
use Rattle.r6_stripe.proofs.Places.{length-cells_of}
use Rattle.r6_stripe.proofs.state.HoldState.mend.Goals as goal

pub returns-then-has_too_few-clause-puts_out : goal.returns-then-has_too_few-clause-puts_out
returns-then-has_too_few-clause-puts_out c =
    let s = c.args.self.now in
    let lost = loss_some (hold_of s) (cells_alone s.places s.blocks.items) (sym (is_loss_same (hold_of c.args.self.now) (cells_alone c.args.self.now.places c.args.self.now.blocks.items)) ∙ sym c.has_too_few.ensures ∙ c.if-has_too_few.true) in
    let comes : plans.next (planned_of s) ≡ Some Next.LoseUnreadable = next_mending (planned_of s) c.requires.goes_on c.requires.mending
    ∙ ap (λ (o : Option Next). or_else o (or_else (plans.next_read (plan_of s.plan) (hold_of s)) (if plans.has_asked (hold_of s) then None else or_else (plans.next_fix (hold_of s)) (plans.next_again (hold_of s))))) lost in
    (([], tt, tt, refl), inr comes, refl, refl)

pub ask-buffer-requires : goal.ask-buffer-requires
ask-buffer-requires c =
    let s = c.args.self.now in
    let i = c.in-Some.position in
    let found = read_found (plan_of s.plan) (hold_of s) i (cells_alone s.places s.blocks.items) (ap (option_map Next.ReadAt) (sym c.in-Some.is) ∙ c.next_read.ensures) in
    record {
      sound = c.requires.sound;
      place = omega (arith, found.place, length-cells_of s.places s.blocks.items);
      goes_on = c.requires.goes_on;
      in_sync = in_sync_is (cell_at (hold_of s).cells i).standing found.in_sync;
      unread = unread_is (cell_at (hold_of s).cells i).reading found.unread;
      before_writes = found.none_computed;
      wanted = found.wanted;
      lacks = found.lacks;
    }

pub returns-in-Some-clause-puts_out : goal.returns-in-Some-clause-puts_out
returns-in-Some-clause-puts_out c =
    let s = c.args.self.now in
    let none = loss_none (plans.next_loss (hold_of s)) (sym (is_loss_same (hold_of c.args.self.now) (cells_alone c.args.self.now.places c.args.self.now.blocks.items)) ∙ sym c.has_too_few.ensures ∙ c.if-has_too_few.false) in
    let reads : plans.next_read (plan_of s.plan) (hold_of s) ≡ Some (Next.ReadAt c.in-Some.position) = sym c.next_read.ensures ∙ ap (option_map Next.ReadAt) c.in-Some.is in
    let comes : plans.next (planned_of s) ≡ Some (Next.ReadAt c.in-Some.position) = next_mending (planned_of s) c.requires.goes_on c.requires.mending
    ∙ (λ k. or_else (none k) (or_else (reads k) (if plans.has_asked (hold_of s) then None else or_else (plans.next_fix (hold_of s)) (plans.next_again (hold_of s))))) in
    (inl (comes, c.ask-buffer.ensures.held), c.ask-buffer.ensures.size)

pub returns-in-Some-clause-classed : goal.returns-in-Some-clause-classed
returns-in-Some-clause-classed c =
    let s = c.args.self.now in
    let i = c.in-Some.position in
    let found = read_found (plan_of s.plan) (hold_of s) i (cells_alone s.places s.blocks.items) (ap (option_map Next.ReadAt) (sym c.in-Some.is) ∙ c.next_read.ensures) in
    subst (λ (h : Held). IsClassed h.planned.hold h.class) (sym c.ask-buffer.ensures.held)
    (classed_asked (hold_of s) s.class i found.place (unread_is (cell_at (hold_of s).cells i).reading found.unread) c.requires.classed)

-- what comes where no read is left
after_reads : (planned : plans.Planned) → plans.gives_up planned.hold ≡ false → plans.is_mending planned.hold ≡ true → is_some (plans.next_loss planned.hold) ≡ false → plans.next_read planned.plan planned.hold ≡ None →
    plans.next planned ≡ (if plans.has_asked planned.hold then None else or_else (plans.next_fix planned.hold) (plans.next_again planned.hold))
after_reads planned goes_on mending few none =
    next_mending planned goes_on mending
    ∙ (λ k. or_else (loss_none (plans.next_loss planned.hold) few k) (or_else (none k) (if plans.has_asked planned.hold then None else or_else (plans.next_fix planned.hold) (plans.next_again planned.hold))))

pub returns-then-has_asked-clause-puts_out : goal.returns-then-has_asked-clause-puts_out
returns-then-has_asked-clause-puts_out c =
    let s = c.args.self.now in
    let comes = after_reads (planned_of s) c.requires.goes_on c.requires.mending (sym (is_loss_same (hold_of c.args.self.now) (cells_alone c.args.self.now.places c.args.self.now.blocks.items)) ∙ sym c.has_too_few.ensures ∙ c.if-has_too_few.false) (sym c.next_read.ensures ∙ ap (option_map Next.ReadAt) c.in_default.is)
    ∙ ap (λ (b : Bool). if b then None else or_else (plans.next_fix (hold_of s)) (plans.next_again (hold_of s))) (sym c.has_asked.ensures ∙ c.if-has_asked.true) in
    (([], tt, tt, refl), inl comes, refl, refl)

pub fix-buffer-requires-clause-next : goal.fix-buffer-requires-clause-next
fix-buffer-requires-clause-next c = sym c.next_fix.ensures ∙ ap (option_map Next.FixAt) c.in-Some-next_fix.is

pub returns-in-Some-next_fix-clause-puts_out : goal.returns-in-Some-next_fix-clause-puts_out
returns-in-Some-next_fix-clause-puts_out c =
    let s = c.args.self.now in
    let fixes : plans.next_fix (hold_of s) ≡ Some (Next.FixAt c.in-Some-next_fix.position) = sym c.next_fix.ensures ∙ ap (option_map Next.FixAt) c.in-Some-next_fix.is in
    let comes : plans.next (planned_of s) ≡ Some (Next.FixAt c.in-Some-next_fix.position) =
    after_reads (planned_of s) c.requires.goes_on c.requires.mending (sym (is_loss_same (hold_of c.args.self.now) (cells_alone c.args.self.now.places c.args.self.now.blocks.items)) ∙ sym c.has_too_few.ensures ∙ c.if-has_too_few.false) (sym c.next_read.ensures ∙ ap (option_map Next.ReadAt) c.in_default.is)
    ∙ (λ k. if (sym c.has_asked.ensures ∙ c.if-has_asked.false) k then None else or_else (fixes k) (plans.next_again (hold_of s))) in
    (inl ((comes, c.fix-buffer.ensures.block), c.fix-buffer.ensures.held), c.fix-buffer.ensures.size)

pub returns-in-Some-next_fix-clause-classed : goal.returns-in-Some-next_fix-clause-classed
returns-in-Some-next_fix-clause-classed c =
    let s = c.args.self.now in
    let i = c.in-Some-next_fix.position in
    let fixes : plans.next_fix (hold_of s) ≡ Some (Next.FixAt i) = sym c.next_fix.ensures ∙ ap (option_map Next.FixAt) c.in-Some-next_fix.is in
    subst (λ (h : Held). IsClassed h.planned.hold h.class) (sym c.fix-buffer.ensures.held)
    (classed_fixing (hold_of s) s.class i c.fix-buffer.result (fix_found (hold_of s) i fixes).1 (in_error s i c.requires.sound fixes).1 c.requires.classed)

pub read_again-requires-clause-next : goal.read_again-requires-clause-next
read_again-requires-clause-next c =
    let s = c.args.self.now in
    let none : plans.next_fix (hold_of s) ≡ None = sym c.next_fix.ensures ∙ ap (option_map Next.FixAt) c.in_default-next_fix.is in
    after_reads (planned_of s) c.requires.goes_on c.requires.mending (sym (is_loss_same (hold_of c.args.self.now) (cells_alone c.args.self.now.places c.args.self.now.blocks.items)) ∙ sym c.has_too_few.ensures ∙ c.if-has_too_few.false) (sym c.next_read.ensures ∙ ap (option_map Next.ReadAt) c.in_default.is)
    ∙ (λ k. if (sym c.has_asked.ensures ∙ c.if-has_asked.false) k then None else or_else (none k) (plans.next_again (hold_of s)))
