-- Sound slots stay sound, one call behind the other.
use Rattle.std.proofs.Common.{◌≡◌, ℕ, sym, subst}
use Rattle.r6_layout.specs.Shape.{Shape}
use Rattle.r6_engine.specs.declared.runner.runner.Runner.{Runner}
use Rattle.r6_engine.specs.runner.Sound.{IsSoundIn, KeepsPromised}
use Rattle.r6_shard.specs.declared.performs.Performs.{Ghosts}

pub promised-on : {P D : Type 0} {g : Ghosts P} (shape : Shape) (Sound : ℕ → ℕ → Type 0) (number number' : ℕ)
    (old mid new : Runner P D g) → number' ≡ number → KeepsPromised shape Sound number old mid
    → KeepsPromised shape Sound number' mid new → KeepsPromised shape Sound number old new
promised-on shape Sound number number' old mid new same before now slot promise x =
    subst (λ n. IsSoundIn shape n slot new) same
    (now slot (subst (λ n. Sound n slot) (sym same) promise)
    (subst (λ n. IsSoundIn shape n slot mid) (sym same) (before slot promise x)))
