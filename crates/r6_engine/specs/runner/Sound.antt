-- Sound slots of a shard stay sound while its thread goes on (r6_shard).
use Rattle.std.specs.Prelude.{ℕ}
use Rattle.r6_layout.specs.Shape.{Shape}
use Rattle.r6_shard.specs.Sound as shards
use Rattle.r6_shard.specs.Sound.{StaysSound}
use Rattle.r6_shard.specs.declared.performs.Performs.{Ghosts}
use Rattle.r6_engine.specs.declared.runner.runner.Runner.{Runner}

-- a slot of this shard of an array is sound
abbrev pub IsSoundIn : {P D : Type 0} {g : Ghosts P} → Shape → (number slot : ℕ) → Runner P D g → Type 0
IsSoundIn shape number slot runner = shards.IsSoundIn shape number slot runner.shard

-- each sound slot stays sound
abbrev pub KeepsSound : {P D : Type 0} {g : Ghosts P} → (old new : Runner P D g) → Type 0
KeepsSound old new = StaysSound old.shard new.shard

-- each stays so of which the parts of new devices fail no command either
abbrev pub KeepsPromised : {P D : Type 0} {g : Ghosts P} → Shape → (Sound : (shard slot : ℕ) → Type 0)
    → (number : ℕ) → (old new : Runner P D g) → Type 0
KeepsPromised shape Sound number old new =
    (slot : ℕ) → Sound number slot → IsSoundIn shape number slot old → IsSoundIn shape number slot new
