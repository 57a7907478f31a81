-- What the fields of a line stand for.
use Rattle.std.specs.Prelude.{◌≡◌, ℕ, ◌+◌, ◌*◌, ◌<◌, ◌≤◌, ◌^◌, [], length, slice_index_or, vec_capacity, Option}
use Rattle.r6_waiters.specs.Keys.{classes, AreClassed}
use Rattle.r6_waiters.specs.Line.{Line}
use Rattle.r6_waiters.specs.Positions.{HasNone}
use Rattle.r6_waiters.specs.Sets.{waiting, cause_at, IsMarked}
use Rattle.r6_waiters.specs.declared.waiters.Waiters.TheInside.{Inside}

abbrev pub view_of : {V K : Type 0} → Inside V K → Line V
view_of line = (line.capacity, (length line.sets.items, waiting (cause_at line.sets.items) line.places.items))

-- There is room for twice the capacity, so that a sweep is due only once as many entries were taken out.
pub record IsLine {V K : Type 0} (key_of : V → Option ℕ) (line : Inside V K) : Type 0 where
  pub countable : line.capacity + line.capacity + 64 < 2 ^ 64
  pub room : vec_capacity line.places ≡ line.capacity + line.capacity
  pub wide : line.capacity + line.capacity ≤ 64 * length line.spare
  pub equal : (cause : ℕ) → cause < length line.sets.items
      → length (slice_index_or line.sets.items cause []) ≡ length line.spare
  pub as_wide : (class : ℕ) → class < classes → length (slice_index_or line.keyed.items class []) ≡ length line.spare
  pub spare : HasNone line.spare
  pub marked : IsMarked line.sets.items line.places.items (cause_at line.sets.items)
  pub classed : AreClassed key_of line.keyed.items line.places.items
  pub counted : line.len ≡ length (waiting (cause_at line.sets.items) line.places.items)
