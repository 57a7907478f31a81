-- A new device is there, whatever the register was before.
use Rattle.std.proofs.Common.{◌≡◌, ◌∙◌, ℕ, Result, subst}
use Rattle.r6_health.specs.declared.refusal.Refusal.{Refusal}
use Rattle.r6_script.specs.Script.{Text}
use Rattle.r6_simulate.specs.Devices.{AddsAs}
use Rattle.r6_simulate.specs.Plays.{Brings, new_byte}
use Rattle.r6_simulate.specs.declared.array.Simulation.{Simulation}
use Rattle.r6_simulate.specs.declared.devices.Devices.{Devices}

pub brings_beside : (slot : ℕ) (answer : Result ℕ Refusal) (old middle : Simulation) (text : Text) (new : Simulation)
    (text' : Text) → middle.shards.items ≡ old.shards.items → middle.geometry ≡ old.geometry → middle.blocks ≡ old.blocks
    → middle.devices ≡ old.devices → Brings slot answer middle text new text' → Brings slot answer old text new text'
brings_beside slot answer old middle text new text' shards geometry blocks devices x = record {
  printed = record {
    printed = x.printed.printed;
    shards = x.printed.shards ∙ shards;
    geometry = x.printed.geometry ∙ geometry;
    blocks = x.printed.blocks ∙ blocks;
  };
  devices = subst (λ (d : Devices). AddsAs slot answer new_byte d new.devices) devices x.devices;
}
