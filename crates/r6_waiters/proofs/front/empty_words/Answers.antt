use Rattle.std.proofs.Common.{ℕ, ◌*◌, ◌/◌, ◌<◌, ◌≤◌, length, arith}
use Rattle.r6_waiters.proofs.front.empty_words.Goals as goal

before : (position i : ℕ) → i < 64 * (position / 64) → i < position
before position i below = omega arith

whole_words : (position places : ℕ) → position < places → 64 * (position / 64) ≤ places
whole_words position places within = omega arith

pub returns-then-is_some-clause-empty : goal.returns-then-is_some-clause-empty
returns-then-is_some-clause-empty g c i below = c.loop-position.invariant i (before c.loop-position.position i below)

pub returns-then-is_some-clause-within : goal.returns-then-is_some-clause-within
returns-then-is_some-clause-within g c =
    whole_words c.loop-position.position (length c.args.places.now) c.loop-position-test.true
