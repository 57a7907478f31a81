-- What is true of a shard's fields, and of an array's, between calls.
use Rattle.std.specs.Prelude.{◌≡◌, ℕ, ◌<◌, ◌≤◌, List, [], ◌∷◌, Bool, true, false, length, Option, Some, None, option_map, slice_get}
use Rattle.std.specs.FinMap as map
use Rattle.r6_layout.specs.Shape.{Shape, IsShape}
use Rattle.r6_tables.specs.Table.{Numbered, capacity_of, next_of, entries_of}
use Rattle.r6_world.specs.ShardStates.{Shard, Request, Command}
use Rattle.r6_core.specs.declared.call.Call.{Call}
use Rattle.r6_world.specs.Registers.{Snapshot}
use Rattle.r6_core.specs.Refusals.{ReplacesOneOf}
use Rattle.r6_core.specs.Shards.{CoreView, world_shard, call_of}
use Rattle.r6_core.specs.Refusals.{most_unanswered}
use Rattle.r6_array.specs.Arrays.{ShardView, first_of}

-- each request that isn't answered has a name
abbrev pub AreNamed : Numbered ℕ → Shard → Type 0
AreNamed names s =
    (id : ℕ) (request : Request) → s.request id ≡ Some request
    → (name : ℕ) × (map.get (entries_of names) id ≡ Some name)

-- the commands that weren't taken are those of the tokens from this one on
pub record AreTakenBelow (next : ℕ) (s : Shard) : Type 0 where
  pub within : next ≤ s.tokens
  pub untaken : (t : ℕ) → next ≤ t → t < s.tokens → (c : Command) × (s.command t ≡ Some c) × (c.taken ≡ false)
  pub taken : (t : ℕ) (c : Command) → s.command t ≡ Some c → c.taken ≡ false → next ≤ t
  pub there : (t : ℕ) (c : Command) → s.command t ≡ Some c → t < s.tokens

-- Requests are numbered by the table as by the core, and each that isn't answered has its entry there; so many tokens
-- were taken; no call is taken, and the next one is known
pub record IsMember (core : CoreView) (names : Numbered ℕ) (settled : Bool) (change : Option Call) (taken : ℕ)
    : Type 0 where
  pub capacity : capacity_of names ≡ most_unanswered
  pub numbers : next_of names ≡ (world_shard core).accepted
  pub count : map.len (entries_of names) ≡ core.unanswered
  pub room : core.unanswered ≤ most_unanswered
  pub named : AreNamed names (world_shard core)
  pub below : (id name : ℕ) → map.get (entries_of names) id ≡ Some name → id < (world_shard core).accepted
  pub taken_below : AreTakenBelow taken (world_shard core)
  pub told : (world_shard core).untold ≡ None
  pub next : option_map call_of change ≡ first_of (world_shard core).calls
  pub agreed : settled ≡ true → (world_shard core).calls ≡ []

-- one slot at most is being replaced
abbrev pub ReplacesOne : Snapshot → Type 0
ReplacesOne register = (slots : ℕ) → ReplacesOneOf slots register

-- as many shards as the shape has, and each is the core of its number
pub record IsArray (shape : Shape) (shards : List ShardView) : Type 0 where
  pub limits : IsShape shape
  pub count : length shards ≡ shape.shards
  pub own : (n : ℕ) (s : ShardView) → slice_get shards n ≡ Some s → (s.core.shape ≡ shape) × (s.core.shard ≡ n)

-- a handle's shard is the core of its number, of an array of its shape
pub record IsHandle (shape : Shape) (number : ℕ) (s : ShardView) : Type 0 where
  pub limits : IsShape shape
  pub there : number < shape.shards
  pub shape_is : s.core.shape ≡ shape
  pub number_is : s.core.shard ≡ number
