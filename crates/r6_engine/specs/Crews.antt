-- The io workers of an array's shards (this project's own).
use Rattle.std.specs.Prelude.{◌≡◌, ℕ, ◌+◌, ◌≤◌, true, List, [], ◌∷◌, ◌++◌, All, count_by, length, take, vec_capacity, None, IsPermutation}
use Rattle.std.specs.List.{AllZip}
use Rattle.r6_dev.specs.History.{Telling}
use Rattle.r6_dev.specs.Promises.{Promise}
use Rattle.r6_layout.specs.Shape.{Shape}
use Rattle.r6_exchange.specs.declared.exchange.Exchange.{Exchange}
use Rattle.r6_exchange.specs.declared.task.Part.{Part}
use Rattle.r6_exchange.specs.Workers.{IsWorker}
use Rattle.r6_engine.specs.feed.Events.{brings_device}
use Rattle.r6_engine.specs.lists.Events.{Event}
use Rattle.r6_shard.specs.Parts.{labels_of, part_in, promise_in}
use Rattle.r6_shard.specs.Performing.{Performer}
use Rattle.r6_shard.specs.declared.performs.Performs.{Ghosts}
use Rattle.r6_engine.specs.declared.runner.runner.Runner.{Runner}
use Rattle.r6_engine.specs.declared.remote.remote.Remote.{Remote}
use Rattle.r6_engine.specs.remote.Remotes.{AreFresh, AreShardPasses}
use Rattle.r6_engine.specs.declared.crew.Site.{Site}
use Rattle.r6_engine.specs.declared.crew.Crew.{Crew}
use Rattle.r6_engine.specs.declared.post.Post.{Post}
use Rattle.r6_engine.specs.declared.posting.Posting.{Posting}

-- the exchanges at all sites, one after another
abbrev pub exchanges_at : {D : Type 0} → List (Site D) → List (Exchange D)
exchanges_at [] = []
exchanges_at (site ∷ sites) = site.exchanges.items ++ exchanges_at sites

-- So many workers, each at its exchange with the shard, at which nothing was sent yet
pub record IsCrew {D : Type 0} (told : D → Telling) (promised : D → Promise) (workers : ℕ) (site : Site D) (crew : Crew D)
    : Type 0 where
  pub some : 1 ≤ workers
  pub as_many : length site.exchanges.items ≡ workers
  pub ends : AreShardPasses told promised site.exchanges.items crew.ends.items
  pub fresh : AreFresh crew.room crew.ends.items
  pub each : AllZip (IsWorker told promised) site.exchanges.items crew.workers.items

-- it has room for the parts of the start, and for one of each new device
abbrev pub HasRoom : {D : Type 0} → List Event → Crew D → Type 0
HasRoom events crew = crew.room ≡ length crew.parts.parts.items + count_by brings_device events

-- each shard has its crew, at its site, with room for all of its parts
pub record HaveCrews {D : Type 0} (told : D → Telling) (promised : D → Promise) (workers : ℕ) (events : List Event)
    (sites : List (Site D)) (crews : List (Crew D)) : Type 0 where
  pub each : AllZip (IsCrew told promised workers) sites crews
  pub room : All (HasRoom events) crews

-- each shard has its crew, of which none is posted yet; there is room for the posts of all
pub record HaveRoomyCrews {D : Type 0} (told : D → Telling) (promised : D → Promise) (shape : Shape)
    (events : List Event) (posting : Posting D) (crews : List (Crew D)) : Type 0 where
  pub workers : ℕ
  pub have : HaveCrews told promised workers events posting.sites.now crews
  pub whole : length crews ≡ shape.shards
  pub unposted : posting.posts.items ≡ []
  pub room : length (exchanges_at posting.sites.now) ≤ vec_capacity posting.posts

-- Parts were taken up, and no other: what is known of the parts is what these tell and, where their slot is served to
-- the last command, promise, of two for one slot and generation the first
pub record HasTakenUp {D : Type 0} (told : D → Telling) (promised : D → Promise) (parts : List (Part D))
    (performer : Performer) : Type 0 where
  pub tells : performer.tells ≡ part_in told parts
  pub promises : (slot generation : ℕ) → performer.steady slot ≡ true
      → performer.promised slot generation ≡ promise_in promised parts slot generation
  pub labels : IsPermutation (labels_of parts) performer.labels
  pub none_out : (token : ℕ) → performer.out token ≡ None

-- the worker at this exchange
abbrev pub StandsAt : {D : Type 0} → (D → Telling) → (D → Promise) → Exchange D → Post D → Type 0
StandsAt told promised exchange post = (post.exchange.now ≡ exchange) × IsWorker told promised exchange post.worker

-- the workers of the first shards stand at their exchanges, one after another
abbrev pub ArePosted : {D : Type 0} → (D → Telling) → (D → Promise) → List (Site D) → (shards : ℕ) → List (Post D)
    → Type 0
ArePosted told promised sites shards posts =
    AllZip (StandsAt told promised) (exchanges_at (take shards sites)) posts

-- so are they, and there is room for the posts of all
pub record HavePosts {D : Type 0} (told : D → Telling) (promised : D → Promise) (shards : ℕ) (posting : Posting D)
    : Type 0 where
  pub posted : ArePosted told promised posting.sites.now shards posting.posts.items
  pub room : length (exchanges_at posting.sites.now) ≤ vec_capacity posting.posts

-- the shard meets its workers there
abbrev pub MeetsAt : {D : Type 0} {g : Ghosts (Remote D)} → Site D → Runner (Remote D) D g → Type 0
MeetsAt site runner = runner.shard.parts.exchanges.now ≡ site.exchanges.items

-- it has the room for parts that its crew has
abbrev pub HasRoomOf : {P D : Type 0} {g : Ghosts P} → Crew D → Runner P D g → Type 0
HasRoomOf {g = g} crew runner = (g.performer runner.shard.parts).part_room ≡ crew.room

-- the shard's commands are performed where they were, and there is as much room for parts as there was
abbrev pub StaysAt : {P D : Type 0} {g : Ghosts P} → (old new : Runner P D g) → Type 0
StaysAt {g = g} old new =
    (g.site new.shard.parts ≡ g.site old.shard.parts)
    × ((g.performer new.shard.parts).part_room ≡ (g.performer old.shard.parts).part_room)
