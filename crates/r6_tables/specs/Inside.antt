-- What the fields of a table stand for.
use Rattle.std.specs.Prelude.{◌≡◌, ◌+◌, ◌<◌, ◌^◌, length, vec_capacity}
use Rattle.std.specs.FinMap.{from_entries}
use Rattle.r6_tables.specs.Table.{Numbered}
use Rattle.r6_tables.specs.Places.{live, IsRising}
use Rattle.r6_tables.specs.declared.table.Table.TheInside.{Inside}

abbrev pub view_of : {V : Type 0} → Inside V → Numbered V
view_of table = (table.capacity, (table.next, from_entries (live table.places.items)))

-- There is room for twice the capacity, so that a sweep is due only once as many entries were taken out. The room is
-- never another one: no call but the one that makes it takes memory for places.
pub record IsTable {V : Type 0} (table : Inside V) : Type 0 where
  pub countable : table.capacity + table.capacity < 2 ^ 64
  pub room : vec_capacity table.places ≡ table.capacity + table.capacity
  pub rising : IsRising 0 table.next table.places.items
  pub counted : table.len ≡ length (live table.places.items)
