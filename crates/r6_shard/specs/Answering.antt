-- That each request of a shard is answered once (this project's own).
use Rattle.std.specs.Prelude.{◌≡◌, ℕ, List, All, length, map, nat_eq, Some}
use Rattle.std.specs.List.{IsDistinct, range_with_len}
use Rattle.std.specs.List.Sorted.{IsPermutation}
use Rattle.r6_world.specs.ShardStates.{Shard, Request}
use Rattle.r6_shard.specs.declared.ledger.Asked.{Asked as Accepted}
use Rattle.r6_shard.specs.declared.ledger.Entry.{Entry}
use Rattle.r6_shard.specs.Courses.{AreOf}

-- which request of the shard each entry answers, by its number
abbrev pub numbers_of : List Entry → List ℕ
numbers_of entries = map (λ e. e.id.0) entries

-- no request has this number
abbrev pub IsGone : Shard → (number : ℕ) → Type 0
IsGone s number = (request : Request) → s.request number ≡ Some request → ⊥

-- no two entries have one number, and the core has no request with the number of an entry
pub record AreOnce (s : Shard) (entries : List Entry) : Type 0 where
  pub distinct : IsDistinct nat_eq (numbers_of entries)
  pub gone : All (λ e. IsGone s e.id.0) entries

-- The entries answer these requests, each once: their numbers are those of the requests, in whatever order, and each
-- has the event and the block of its request
pub record AnswersEach (accepted : List Accepted) (entries : List Entry) : Type 0 where
  pub numbers : IsPermutation (range_with_len 0 (length accepted)) (numbers_of entries)
  pub requests : IsPermutation {X = ℕ × ℕ} (map (λ a. (a.event, a.block)) accepted)
      (map (λ e. (e.event, e.block)) entries)
  pub linked : AreOf accepted entries
