-- What the users of all shards see, in the order of time; and one order of all their requests, in which one plain array
-- answers them (Herlihy and Wing, "Linearizability", where it is shown to be a local property).
use Rattle.std.specs.Prelude.{◌≡◌, ◌≢◌, ℕ, List, [], ◌∷◌, ◌==◌, if◌then◌else◌, map}
use Rattle.r6_world.specs.PlainArray.{Array, Op, Reply, ArrayFailed, block_of}
use Rattle.r6_world.specs.Layouts.{Layout}
use Rattle.r6_course.specs.Courses.{Mark, Asked, Replied}
use Rattle.r6_course.specs.Ledgers.{Entry, entry, Gives, IsIn, IsBefore, AreOnce, Leads, IsWellFormed, merged}

-- The history of an array: the requests that were handed in and the replies that were taken in all shards, each with
-- the number of its shard, in the order of time
abbrev pub ArrayHistory : Type 0
ArrayHistory = List (ℕ × Mark)

-- what one shard has of a list of all shards, in the list's order
abbrev pub of_shard : {A : Type 0} → (shard : ℕ) → List (ℕ × A) → List A
of_shard shard [] = []
of_shard shard (x ∷ list) = if x.0 == shard then x.1 ∷ of_shard shard list else of_shard shard list

-- Each shard by itself: its ledger leads from the one array to an array of its own; its requests are for its own
-- blocks, each with a number of its own; and once it has answered that the array has failed no request of it is handed
-- in
pub record LeadsEach (l : Layout) (a : Array) (history : ArrayHistory) (arrays : ℕ → Array) : Type 0 where
  pub leads : (shard : ℕ) → Leads a (of_shard shard history) (arrays shard)
  pub well_formed : (shard : ℕ) → IsWellFormed (of_shard shard history)
  pub own : (shard id : ℕ) (op : Op) → IsIn (Asked id op) (of_shard shard history)
      → l.shard_of (l.row_of (block_of op)) ≡ shard
  pub none_after : (shard id later : ℕ) (op : Op)
      → IsBefore (Replied id ArrayFailed) (Asked later op) (of_shard shard history) → ⊥

-- All shards together: some requests, each as it was handed in and none twice, have one order in which one plain array,
-- run over them from one array to another, gives each its reply; each reply that was taken stands there, but for those
-- that say that the array has failed, whose requests may be left out; and the order keeps to the time, whichever the
-- shards and the replies: of two requests that stand there, one whose reply was taken before the other was handed in
-- stands before it
pub record LeadsAll (a : Array) (history : ArrayHistory) (b : Array) : Type 0 where
  pub order : List (ℕ × Entry)
  pub gives : Gives a (map (λ x. x.1) order) b
  pub once : (shard : ℕ) → AreOnce (of_shard shard order)
  pub asked : (shard : ℕ) (e : Entry) → IsIn (shard, e) order → IsIn (shard, Asked e.id e.op) history
  pub replied : (shard id : ℕ) (reply : Reply) → IsIn (shard, Replied id reply) history → reply ≢ ArrayFailed
      → (op : Op) × IsIn (shard, entry id op reply) order
  pub in_time : (shard other : ℕ) (earlier later : Entry) (reply : Reply) (op : Op)
      → IsBefore (shard, Replied earlier.id reply) (other, Asked later.id op) history
      → IsIn (shard, earlier) order → IsIn (other, later) order → IsBefore (shard, earlier) (other, later) order

-- Where each shard's ledger leads so, one order of all requests leads to the array that has the blocks of each shard as
-- that shard's ledger leaves them, and it has the requests of each shard in that shard's order
abbrev pub LocalLaw : Type 0
LocalLaw =
    (l : Layout) (a : Array) (history : ArrayHistory) (arrays : ℕ → Array) (x : LeadsEach l a history arrays)
    → (all : LeadsAll a history (merged l arrays)) × ((shard : ℕ) → of_shard shard all.order ≡ (x.leads shard).order)
