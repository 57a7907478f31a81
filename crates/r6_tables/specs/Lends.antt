-- What a table ends as, where a `&mut` to one of its entries is returned.
use Rattle.std.specs.Prelude.{ℕ, Option}
use Rattle.std.specs.Borrow.{LendsIf, Fml, RattleType, MutBor}
use Rattle.std.specs.FinMap.{insert}
use Rattle.r6_tables.specs.Table.{Numbered, capacity_of, next_of, entries_of}
use Rattle.r6_tables.specs.contracts.table.Table.{the_row}

-- the number's entry is exchanged for what was left in it; without one the table stays as it is
abbrev pub LendsEntry : (V : RattleType) → MutBor (Numbered V.Denot) → ℕ → Option (MutBor V.Denot) → Fml
LendsEntry V table number entry =
    LendsIf (the_row V) V table entry (λ value. (capacity_of table.now, (next_of table.now, insert (entries_of table.now) number value))) table.now
