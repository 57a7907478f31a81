use Rattle.std.proofs.Common.{◌≡◌, ℕ, ◌+◌, ◌<◌, ◌≤◌, length}
use Rattle.std.specs.Prelude.{vec_capacity}
use Rattle.r6_waiters.specs.Sets.{place_at}
use Rattle.r6_waiters.proofs.front.drop_first.Given as goal

abbrev pub invariant-loop-position : goal.invariant-loop-position
invariant-loop-position g l = record { as_long : length l.places.items ≡ length l.initial.places.items; capacity : vec_capacity l.places ≡ vec_capacity l.initial.places; moved : (k : ℕ) → k < l.position → place_at l.places.items k ≡ place_at l.initial.places.items (l.count + k); behind : (k : ℕ) → l.position + l.count ≤ k → place_at l.places.items k ≡ place_at l.initial.places.items k }
