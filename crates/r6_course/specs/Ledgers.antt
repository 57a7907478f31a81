-- The ledger of a shard: the requests that it answered, as one plain array answers them, one after another, in an
-- order that keeps to the time (Herlihy and Wing, "Linearizability").
use Rattle.std.specs.Prelude.{◌≡◌, ◌≢◌, ℕ, ◌<◌, ◌⊎◌, List, [], ◌∷◌, Some, None}
use Rattle.r6_dev.specs.History.{Telling, Blocks}
use Rattle.r6_world.specs.PlainArray.{Array, Op, Reply, ArrayFailed, block_of, reply_of, array_after}
use Rattle.r6_world.specs.Layouts.{Layout, IsRowOf, content}
use Rattle.r6_world.specs.ShardStates.{InSyncFor, IsLive}
use Rattle.r6_world.specs.Claims.{IsUnwritten}
use Rattle.r6_course.specs.Courses.{Start, IsLawful, Mark, Asked, Replied, Stand, Follows}

-- a request that acted, with what it was answered there
pub record Entry : Type 0 where
  pub id : ℕ
  pub op : Op
  pub reply : Reply

-- the entry of a request with this number, which asked for this and was answered so
abbrev pub entry : ℕ → Op → Reply → Entry
entry id op reply = record { id = id; op = op; reply = reply }

-- the plain array runs over the requests, from an array to another, and answers each as it says
abbrev pub Gives : Array → List Entry → Array → Type 0
Gives a [] b = b ≡ a
Gives a (e ∷ es) b = (e.reply ≡ reply_of a e.op) × Gives (array_after a e.op) es b

-- it stands in the list, once or more often
abbrev pub IsIn : {A : Type 0} → A → List A → Type 0
IsIn x [] = ⊥
IsIn x (y ∷ ys) = (x ≡ y) ⊎ IsIn x ys

-- the one stands somewhere before the other
abbrev pub IsBefore : {A : Type 0} → A → A → List A → Type 0
IsBefore x y [] = ⊥
IsBefore x y (z ∷ zs) = ((x ≡ z) × IsIn y zs) ⊎ IsBefore x y zs

-- no request stands twice
abbrev pub AreOnce : List Entry → Type 0
AreOnce [] = record {}
AreOnce (e ∷ es) = ((other : Entry) → IsIn other es → other.id ≢ e.id) × AreOnce es

-- the order keeps to the time: a request whose reply was taken before another was handed in stands before it
abbrev pub InTime : List Mark → List Entry → Type 0
InTime history order =
    (id later : ℕ) (reply : Reply) (later_op : Op) → IsBefore (Replied id reply) (Asked later later_op) history
    → reply ≢ ArrayFailed → (e : Entry) → IsIn e order → e.id ≡ later
    → (op : Op) × IsBefore (entry id op reply) e order

-- The ledger leads from one array to another: some requests, each as it was handed in, have an order that keeps to the
-- time and in which the plain array answers each; each reply that was taken stands there, but for those that say that
-- the array has failed, whose requests may be left out
pub record Leads (a : Array) (history : List Mark) (b : Array) : Type 0 where
  pub order : List Entry
  pub gives : Gives a order b
  pub once : AreOnce order
  pub asked : (e : Entry) → IsIn e order → IsIn (Asked e.id e.op) history
  pub replied : (id : ℕ) (reply : Reply) → IsIn (Replied id reply) history → reply ≢ ArrayFailed
      → (op : Op) × IsIn (entry id op reply) order
  pub in_time : InTime history order

-- the rows of a live shard that no write holds (an idle row is one): each part in sync tells what the layout keeps of
-- the array there, P and Q
abbrev pub PartsHold : Start → Stand → Array → Type 0
PartsHold s at array =
    (row slot generation : ℕ) → slot < s.layout.slots → IsRowOf s.layout s.number row
    → IsLive s.layout at.shard → IsUnwritten at.shard row → InSyncFor (at.shard.slot slot) row generation
    → (telling : Telling) → at.part slot generation ≡ Some telling
    → (blocks : Blocks) × (telling ≡ Some blocks) × (blocks row ≡ content s.layout array row slot)

-- the blocks of other shards are as they were
abbrev pub OthersStay : Start → Array → Type 0
OthersStay s array =
    (block : ℕ) → s.layout.shard_of (s.layout.row_of block) ≢ s.number → array block ≡ s.array block

-- each number is of one request, which is handed in once and answered once at most, behind its hand-over
pub record IsWellFormed (history : List Mark) : Type 0 where
  pub asked_once : (id : ℕ) (op other : Op) → IsBefore (Asked id op) (Asked id other) history → ⊥
  pub replied_once : (id : ℕ) (reply other : Reply) → IsBefore (Replied id reply) (Replied id other) history → ⊥
  pub behind : (id : ℕ) (reply : Reply) → IsIn (Replied id reply) history
      → (op : Op) × IsBefore (Asked id op) (Replied id reply) history

-- each request that was handed in is open yet, or its reply was taken
abbrev pub NoneIsForgotten : Stand → Type 0
NoneIsForgotten at =
    (id : ℕ) (op : Op) → IsIn (Asked id op) at.history
    → (at.shard.request id ≢ None) ⊎ ((reply : Reply) × IsIn (Replied id reply) at.history)

-- each request that was handed in is for a block of the shard
abbrev pub AreOwnBlocks : Start → List Mark → Type 0
AreOwnBlocks s history =
    (id : ℕ) (op : Op) → IsIn (Asked id op) history → s.layout.shard_of (s.layout.row_of (block_of op)) ≡ s.number

-- there is one array to which the ledger leads and which the parts hold
pub record HasLedger (s : Start) (at : Stand) : Type 0 where
  pub array : Array
  pub leads : Leads s.array at.history array
  pub parts : PartsHold s at array
  pub others : OthersStay s array
  pub own : AreOwnBlocks s at.history
  pub well_formed : IsWellFormed at.history
  pub none_forgotten : NoneIsForgotten at

-- The whole law of a ledger, wherever a course has led
abbrev pub OrderLaw : Type 0
OrderLaw = (s : Start) → IsLawful s → (at : Stand) → Follows s at → HasLedger s at

-- the arrays in which the shards' ledgers end, as one: each block is that of its shard's
abbrev pub merged : Layout → (ℕ → Array) → Array
merged l arrays block = arrays (l.shard_of (l.row_of block)) block

-- The parts of each shard hold that one array
abbrev pub MergeLaw : Type 0
MergeLaw =
    (s : Start) → IsLawful s → (at : Stand) (arrays : ℕ → Array)
    → PartsHold s at (arrays s.number) → PartsHold s at (merged s.layout arrays)
