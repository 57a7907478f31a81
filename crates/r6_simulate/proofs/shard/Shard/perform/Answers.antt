use Rattle.std.proofs.Common.{◌∙◌, Bool, ap, nat_eq, refl, subst, sym}
use Rattle.std.specs.Map.{set_value}
use Rattle.r6_simulate.specs.Devices.{MayPerform}
use Rattle.r6_simulate.proofs.Performing.{performed, unserved}
use Rattle.r6_simulate.proofs.shard.Shard.perform.Goals as goal

pub returns-then-in_flight : goal.returns-then-in_flight
returns-then-in_flight c =
    let found = c.in-Some.in_flight.now in
    performed c.args.self.now _ c.args.devices.now c.args.token found (sym c.in-Some.ensures.value) c.if-in_flight.true
    (c.get_mut.follows.holds found).0 refl refl

pub returns-else-in_flight-2 : goal.returns-else-in_flight-2
returns-else-in_flight-2 c =
    let found = c.in-Some.in_flight.now in
    let done = c.perform-in_flight.new.command in
    let not = subst (λ b. MayPerform b c.args.devices.now found.command c.perform-in_flight.new.self done) c.if-in_flight-2.false c.perform-in_flight.ensures in
    unserved c.args.self.now _ c.args.devices.now c.perform-in_flight.new.self c.args.token found done (sym c.in-Some.ensures.value)
    c.if-in_flight.false not.0 not.1 not.2
    ((c.get_mut.follows.holds _).0 ∙ ap (λ (b : Bool). set_value (nat_eq c.args.token) c.args.self.now.in_flight.entries (record { command = done; performed = b })) c.if-in_flight-2.false) refl refl
