use Rattle.std.proofs.Common.{◌≡◌, Bool, true, false, refl, sym, subst, ◌∙◌}
use Rattle.r6_world.specs.Registers.{Snapshot}
use Rattle.r6_core.specs.declared.state.State.{State}
use Rattle.r6_core.specs.Shards.{core_of}
use Rattle.r6_core.specs.Order.{Agrees}
use Rattle.r6_core.specs.Inside.{GivesOverUnless}
use Rattle.r6_core.specs.Parts.{DiffersIf}
use Rattle.r6_core.proofs.Adopting.{back_again, back_keeps, back_order, back_takes, none_back, none_takes}
use Rattle.r6_core.proofs.Losing.{readable_back}
use Rattle.r6_core.proofs.state.State.adopt.Goals as goal

pub adopt_slots-requires-clause-sound : goal.adopt_slots-requires-clause-sound
adopt_slots-requires-clause-sound c = c.requires.settled.sound

-- ---- there was something else of a slot

pub give_over_unless-requires : goal.give_over_unless-requires
give_over_unless-requires c = c.adopt_slots.ensures.sound

pub read_again-requires : goal.read_again-requires
read_again-requires c = c.give_over_unless.ensures.sound

pub returns-clause-readable : goal.returns-clause-readable
returns-clause-readable c unfailed _ = readable_back c.give_over_unless.new.self c.read_again.new.self (c.give_over_unless.ensures.readable (c.failed.ensures ∙ unfailed)) c.read_again.ensures

pub returns-clause-takes : goal.returns-clause-takes
returns-clause-takes c =
    back_takes c.args.self.now c.adopt_slots.new.self c.give_over_unless.new.self c.read_again.new.self c.args.snapshot.now c.requires.settled
    c.adopt_slots.ensures
    (subst (λ (failed : Bool). GivesOverUnless failed c.adopt_slots.new.self c.give_over_unless.new.self) c.failed.ensures c.give_over_unless.ensures) c.read_again.ensures

pub returns-clause-none : goal.returns-clause-none
returns-clause-none c = λ none. let both : true ≡ false = sym c.if-not-differs.false ∙ none in absurd (cc)

pub returns-clause-again : goal.returns-clause-again
returns-clause-again c =
    back_again c.args.self.now c.adopt_slots.new.self c.give_over_unless.new.self c.read_again.new.self c.args.snapshot.now c.requires.settled
    c.adopt_slots.ensures
    (subst (λ (failed : Bool). GivesOverUnless failed c.adopt_slots.new.self c.give_over_unless.new.self) c.failed.ensures c.give_over_unless.ensures) c.read_again.ensures

pub returns-clause-keeps : goal.returns-clause-keeps
returns-clause-keeps c =
    back_keeps c.args.self.now c.adopt_slots.new.self c.give_over_unless.new.self c.read_again.new.self c.args.snapshot.now c.requires.settled
    c.adopt_slots.ensures
    (subst (λ (failed : Bool). GivesOverUnless failed c.adopt_slots.new.self c.give_over_unless.new.self) c.failed.ensures c.give_over_unless.ensures) c.read_again.ensures

pub returns-clause-order : goal.returns-clause-order
returns-clause-order c =
    back_order c.args.self.now c.adopt_slots.new.self c.give_over_unless.new.self c.read_again.new.self c.args.snapshot.now c.requires.settled
    c.adopt_slots.ensures
    (subst (λ (failed : Bool). GivesOverUnless failed c.adopt_slots.new.self c.give_over_unless.new.self) c.failed.ensures c.give_over_unless.ensures) c.read_again.ensures

-- ---- there was of none

-- the look sees what the shard has
agrees : (s : State) (seen : Snapshot) (differs : Bool) → DiffersIf differs s seen → differs ≡ false → Agrees (core_of s) seen
agrees s seen true is none = absurd (cc)
agrees s seen false is none = is

pub returns-then-not-differs-clause-takes : goal.returns-then-not-differs-clause-takes
returns-then-not-differs-clause-takes c = none_takes c.args.self.now c.args.snapshot.now (agrees c.args.self.now c.args.snapshot.now c.args.differs c.requires.differs c.if-not-differs.true)

pub returns-then-not-differs-clause-readable : goal.returns-then-not-differs-clause-readable
returns-then-not-differs-clause-readable c _ some = let both : true ≡ false = sym some ∙ c.if-not-differs.true in absurd (cc)

pub returns-then-not-differs-clause-again : goal.returns-then-not-differs-clause-again
returns-then-not-differs-clause-again c = none_back c.args.self.now

pub returns-then-not-differs-clause-keeps : goal.returns-then-not-differs-clause-keeps
returns-then-not-differs-clause-keeps c = ((refl, refl), refl)

pub returns-then-not-differs-clause-order : goal.returns-then-not-differs-clause-order
returns-then-not-differs-clause-order c = (refl, refl)
