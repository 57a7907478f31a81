-- What follows for a shard whose calls a thread makes one by one, and which is given parts between them.
use Rattle.std.specs.Prelude.{◌≢◌, ℕ, List, Option, Some, None}
use Rattle.r6_dev.specs.History.{Telling}
use Rattle.r6_dev.specs.Promises.{Promise}
use Rattle.r6_layout.specs.Shape.{Shape}
use Rattle.r6_world.specs.Tables.{put_in}
use Rattle.r6_world.specs.PlainArray as world
use Rattle.r6_world.specs.Registers.{Snapshot}
use Rattle.r6_exchange.specs.declared.task.Part.{Part}
use Rattle.r6_shard.specs.declared.performs.Performs.{Ghosts}
use Rattle.r6_shard.specs.declared.shard.Shard.{Shard}
use Rattle.r6_shard.specs.Shards.{ComesFrom}
use Rattle.r6_shard.specs.Handing.{HandsIn}
use Rattle.r6_shard.specs.Runs.{HasLedgerFrom}

-- of an earlier part that tells nothing the law is silent
abbrev pub HandedLaw : {P D : Type 0} → Ghosts P → (D → Telling) → (D → Promise) → Type 0
HandedLaw {P = P} {D = D} g told promised =
    (part : Part D) (earlier : Option (Part D)) (old new : Shard P g) → HandsIn told promised part earlier old new
    → (geometry : Shape) (number : ℕ) (snapshot : Snapshot) (taken : ℕ → ℕ → Option Telling) (ops : List world.Op)
    → taken part.slot part.generation ≢ Some None
    → ComesFrom geometry number snapshot taken ops old
    → ComesFrom geometry number snapshot
    (put_in taken part.slot part.generation (Some (told part.device))) ops new

abbrev pub LedgerLaw : {P : Type 0} → Ghosts P → Type 0
LedgerLaw {P = P} g =
    (shard : Shard P g) (geometry : Shape) (number : ℕ) (snapshot : Snapshot) (taken : ℕ → ℕ → Option Telling)
    (ops : List world.Op)
    → ComesFrom geometry number snapshot taken ops shard
    → HasLedgerFrom geometry number snapshot taken ops shard
