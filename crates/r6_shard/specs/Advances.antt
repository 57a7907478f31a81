-- What a shard keeps with whatever its thread does (this project's own).
use Rattle.std.specs.Prelude.{◌≡◌}
use Rattle.r6_shard.specs.declared.performs.Performs.{Ghosts}
use Rattle.r6_shard.specs.declared.shard.Shard.{Shard}
use Rattle.r6_shard.specs.Here.{StaysHere}
use Rattle.r6_shard.specs.Refusing.{Lasts}
use Rattle.r6_shard.specs.Shards.{GoesOn}
use Rattle.r6_shard.specs.Sound.{StaysSound}
use Rattle.r6_shard.specs.Whole.{Remembers}

-- whatever its course was, it has gone on; its failure lasts, and what was named or seen stays so; each sound slot stays
-- sound; its parts are of the slots and generations that they were, with room for as many, and those that it uses stay
-- here; and its commands are performed where they were
pub record Advances {P : Type 0} {g : Ghosts P} (old new : Shard P g) : Type 0 where
  pub course : GoesOn old new
  pub lasts : Lasts old.core new.core
  pub remembers : Remembers old.named old.saw_out new.named new.saw_out
  pub sound : StaysSound old new
  pub labels_stay : (g.performer new.parts).labels ≡ (g.performer old.parts).labels
  pub room_stays : (g.performer new.parts).part_room ≡ (g.performer old.parts).part_room
  pub site_stays : g.site new.parts ≡ g.site old.parts
  pub here : StaysHere old new
