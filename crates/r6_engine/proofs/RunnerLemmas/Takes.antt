-- A shard goes on with what it takes from its list, again and again.
use Rattle.std.proofs.Common.{◌≡◌, ℕ, List, refl}
use Rattle.r6_layout.specs.Shape.{Shape}
use Rattle.r6_shard.specs.declared.performs.Performs.{Ghosts}
use Rattle.r6_engine.specs.lists.Events.{Event}
use Rattle.r6_engine.specs.declared.runner.runner.Runner.{Runner}
use Rattle.r6_engine.specs.runner.Going.{TakesNoMore, TakesOn}
use Rattle.r6_engine.specs.runner.Runners.{GoesOn}
use Rattle.r6_engine.proofs.RunnerLemmas.Done.{goes-then}
use Rattle.r6_engine.proofs.RunnerLemmas.Parts.{own-on, own-same}
use Rattle.r6_engine.proofs.RunnerLemmas.Sound.{promised-on}

module _ {P D : Type 0} {g : Ghosts P} (shape : Shape) (events : List Event) (Sound : ℕ → ℕ → Type 0) where
  -- nothing was taken
  pub takes-none : (shard : ℕ) (numbers numbers' : List ℕ) (r : Runner P D g) → GoesOn shape events shard numbers numbers' r r
      → TakesOn shape events Sound shard numbers numbers' r r
  takes-none shard numbers numbers' r course = record {
    course = course;
    counted = λ rows x. x;
    awaited = λ x. x;
    own = record { all = λ first x. x; room = refl; site = refl; here = λ slot x. x; window = refl };
    sound = λ slot promise x. x;
  }

  pub takes-then : (shard shard' : ℕ) (a b c : List ℕ) (old mid new : Runner P D g) → shard' ≡ shard
      → TakesOn shape events Sound shard a b old mid → TakesOn shape events Sound shard' b c mid new
      → TakesOn shape events Sound shard a c old new
  takes-then shard shard' a b c old mid new same x y = record {
    course = goes-then shape events shard shard' a b c old mid new same x.course y.course;
    counted = λ rows z. y.counted rows (x.counted rows z);
    awaited = λ z. y.awaited (x.awaited z);
    own = own-on old mid new x.own y.own;
    sound = promised-on shape Sound shard shard' old mid new same x.sound y.sound;
  }

  -- then nothing more was taken
  pub takes-more : (shard : ℕ) (a b : List ℕ) (old mid new : Runner P D g) → TakesOn shape events Sound shard a b old mid
      → TakesNoMore mid new → TakesOn shape events Sound shard a b old new
  takes-more shard a b old mid new x goes = record {
    course = λ geometry snapshot before z. goes.course shape events shard b geometry snapshot before (x.course geometry snapshot before z);
    counted = λ rows z. goes.counted rows (x.counted rows z);
    awaited = λ z. goes.awaited events (x.awaited z);
    own = own-on old mid new x.own (own-same mid new goes.parts);
    sound = λ slot promise z. goes.sound shape shard slot (x.sound slot promise z);
  }
