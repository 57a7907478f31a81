-- What the shards of an array did, and the thread that handed the events out (this project's own).
use Rattle.std.specs.Prelude.{◌≡◌, ℕ, Bool, List, All, map}
use Rattle.r6_dev.specs.History.{Telling}
use Rattle.r6_dev.specs.Promises.{Promise}
use Rattle.r6_layout.specs.Shape.{Shape}
use Rattle.r6_health.specs.declared.history.View.{View}
use Rattle.r6_health.specs.Histories as history
use Rattle.r6_world.specs.Registers.{Snapshot}
use Rattle.r6_shard.specs.declared.parts.Parts.{Parts}
use Rattle.r6_shard.specs.declared.performs.Performs.{Ghosts}
use Rattle.r6_engine.specs.declared.feed.answer.EventAnswer.{EventAnswer}
use Rattle.r6_engine.specs.declared.feed.event.Event as feed
use Rattle.r6_engine.specs.feed.Events.{events_of}
use Rattle.r6_engine.specs.declared.runner.runner.Runner.{Runner}
use Rattle.r6_engine.specs.Counted.{EachSawWithPass, EachSkipsNone}
use Rattle.r6_engine.specs.Ending.{HaveInSync, IsRebuilt, tokens_of}
use Rattle.r6_engine.specs.Named.{LeaveSoundAlone}
use Rattle.r6_engine.specs.OneRuns.{HaveOneHistory}
use Rattle.r6_engine.specs.Passes.{CallAsTheyMay, IsSeen, IsShown}
use Rattle.r6_engine.specs.Serves.{HasAnswered, HaveServed}

-- The shards took their parts of the events and did them, each from its parts on, while the calling thread, whose pass
-- knew this first, failed, attached and replaced slots: these are the shards, what the thread was answered, what its
-- pass knew at last and what the register held then
pub record HasRunArray {P D : Type 0} {g : Ghosts P} (told : D → Telling) (promised : D → Promise)
    (steady : (shard slot : ℕ) → Bool) (shape : Shape) (given : List (feed.Event D)) (start : Snapshot) (window : ℕ) (first : View) (parts : List (Parts D))
    (runners : List (Runner P D g)) (answers : List EventAnswer) (last : View) (snapshot : Snapshot) : Type 0 where
  pub done : HaveServed told shape (events_of told given) start window parts runners
  pub answered : HasAnswered shape (events_of told given) first answers last
  pub held : snapshot ≡ history.held last.start last.seen
  pub legal : history.IsLegal last.start last.seen
  pub calls : CallAsTheyMay runners
  pub sound : LeaveSoundAlone promised steady shape start parts given runners
  pub unskipped : EachSkipsNone runners
  pub saw : EachSawWithPass last runners
  pub seen : All (IsSeen last) runners
  pub failure : All (IsShown snapshot) runners
  pub looked : All (λ runner. runner.shard.last ≡ snapshot) runners
  pub rebuilt : IsRebuilt snapshot (map tokens_of runners)
  pub in_sync : HaveInSync shape.slots snapshot runners
  pub history : HaveOneHistory told shape (events_of told given) start window parts snapshot runners
