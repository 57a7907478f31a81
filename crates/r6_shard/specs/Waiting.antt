-- Who performs commands in place.
use Rattle.std.specs.Prelude.{◌==◌, ℕ, Bool, true, false, if◌then◌else◌, vec_capacity, Option, Some, None}
use Rattle.r6_dev.specs.History.{Telling}
use Rattle.r6_dev.specs.Promises.{Promise}
use Rattle.r6_world.specs.declared.values.Command.{Command}
use Rattle.r6_shard.specs.declared.in_place.InPlace.{InPlace}
use Rattle.r6_shard.specs.Parts.{labels_of, part_in, promise_in}
use Rattle.r6_shard.specs.Performing.{Performer}

-- the command that waits, under its token
abbrev pub out_of : Option Command → ℕ → Option Command
out_of None token = None
out_of (Some c) token = if token == c.token then Some c else None

abbrev pub performer_of : {D : Type 0} → (D → Telling) → (D → Promise) → InPlace D → Performer
performer_of told promised here = record {
  tells = part_in told here.parts.items;
  promised = promise_in promised here.parts.items;
  steady = λ slot. true;
  labels = labels_of here.parts.items;
  part_room = vec_capacity here.parts;
  out = out_of here.waiting;
}

abbrev pub is_free_with : Option Command → Bool
is_free_with None = true
is_free_with (Some c) = false

abbrev pub is_free : {D : Type 0} → InPlace D → Bool
is_free here = is_free_with here.waiting

-- nothing more has to hold of it
abbrev pub always : {D : Type 0} → InPlace D → Type 0
always here = Unit {0}

abbrev pub always_is_prop : {D : Type 0} (here : InPlace D) → IsProp (always here)
always_is_prop here x y i = tt
