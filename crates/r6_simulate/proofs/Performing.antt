-- The device of a command in flight performs it, if there is one that serves it.
use Rattle.std.proofs.Common.{◌≡◌, ◌∙◌, ℕ, Bool, ap, false, nat_eq, true, refl, subst, sym, slice_set, Some}
use Rattle.std.specs.Map.{set_value}
use Rattle.std.proofs.lemmas.List.{set-get_or}
use Rattle.std.proofs.lemmas.Map.Steps.{set_value_same}
use Rattle.r6_dev.specs.Memory.{Memory}
use Rattle.r6_core.specs.Shards.{CoreView}
use Rattle.r6_core.specs.declared.Command.{Command}
use Rattle.r6_simulate.specs.AtShards.{in_flight_of, IsSame, Performs, PerformsOf, Puts}
use Rattle.r6_simulate.specs.Devices.{IsAt, KeepsDevices, LacksAt, LacksDevice, MayPerform, MayPerformOn, PerformsOn, SameRows}
use Rattle.r6_simulate.specs.Devices as standing
use Rattle.r6_simulate.specs.declared.devices.Attached.{Attached}
use Rattle.r6_simulate.specs.declared.devices.Devices.{Devices}
use Rattle.r6_simulate.specs.declared.lines.EventOutcome.TheVariants.{NotPerformed, Performed, PerformedAlready}
use Rattle.r6_simulate.specs.declared.shard.InFlight.{InFlight}
use Rattle.r6_simulate.specs.declared.shard.Shard.{Shard}

-- what the device of a place does, the devices do
pub may_perform : (performed : Bool) (old new : Devices) (command done : Command) (place : ℕ) (before : Attached) (after : Memory)
    → Some place ≡ standing.place_of command.slot command.generation old.attached.items → IsAt old.attached.items place before
    → MayPerformOn performed before.device command after done
    → new.attached.items ≡ slice_set old.attached.items place (record before { device = after }) → SameRows old new
    → MayPerform performed old command new done
may_perform true old new command done place before after named there does items rows = record {
  place = place;
  named = sym named;
  before = before;
  there = there;
  after = after;
  answers = does.0;
  others = items;
  rows = rows;
  same = does.1;
  written = does.2;
}
may_perform false old new command done place before after named there does items rows = (
  subst (LacksAt old.attached.items command) named (before, there, does.0),
  (
    items ∙ ap (λ (d : Memory). slice_set old.attached.items place (record before { device = d })) does.1
        ∙ ap (slice_set old.attached.items place) there.1 ∙ set-get_or old.attached.items place before,
    rows,
  ),
  does.2,
)

-- a command that is in flight still, written back as it was found
pub same_flight : (old new : Shard) (token : ℕ) (f : InFlight) → in_flight_of old token ≡ Some f
    → new.in_flight.entries ≡ set_value (nat_eq token) old.in_flight.entries f → new.number ≡ old.number → new.core ≡ old.core → IsSame old new
same_flight old new token f found entries number core =
    (core, ((number, ap (λ (view : CoreView). view.window) core), entries ∙ set_value_same (nat_eq token) old.in_flight.entries f found))

pub performs : (old new : Shard) (devices devices' : Devices) (token : ℕ) (f : InFlight) (done : Command) → in_flight_of old token ≡ Some f
    → f.performed ≡ false → PerformsOn devices f.command devices' done → Puts old token (Some (record { command = done; performed = true })) new
    → new.number ≡ old.number → new.core ≡ old.core → Performs token old devices Performed new devices'
performs old new devices devices' token f done found yet on puts number core =
    subst (λ held. PerformsOf token held old devices Performed new devices') (sym found) (yet, done, on, puts, number, core)

-- one that was performed stays as it is
pub performed : (old new : Shard) (devices : Devices) (token : ℕ) (f : InFlight) → in_flight_of old token ≡ Some f → f.performed ≡ true
    → new.in_flight.entries ≡ set_value (nat_eq token) old.in_flight.entries f → new.number ≡ old.number → new.core ≡ old.core
    → Performs token old devices PerformedAlready new devices
performed old new devices token f found already entries number core =
    subst (λ held. PerformsOf token held old devices PerformedAlready new devices) (sym found)
    (already, same_flight old new token f found entries number core, refl)

-- and so does one that no device serves
pub unserved : (old new : Shard) (devices devices' : Devices) (token : ℕ) (f : InFlight) (done : Command) → in_flight_of old token ≡ Some f
    → f.performed ≡ false → LacksDevice devices f.command → KeepsDevices devices devices' → done ≡ f.command
    → new.in_flight.entries ≡ set_value (nat_eq token) old.in_flight.entries (record { command = done; performed = false })
    → new.number ≡ old.number → new.core ≡ old.core → Performs token old devices NotPerformed new devices'
unserved old new devices devices' token f done found yet lacks same same_command entries number core =
    let f_is : record { command = done; performed = false } ≡ f = ap (λ (c : Command). record f { command = c; performed = false }) same_command ∙ ap (λ b. record f { performed = b }) (sym yet) in
    subst (λ held. PerformsOf token held old devices NotPerformed new devices') (sym found)
    (yet, lacks, same_flight old new token f found (entries ∙ ap (set_value (nat_eq token) old.in_flight.entries) f_is) number core, same)
