-- A table of numbered entries, as its callers see it (this project's own).
use Rattle.std.specs.Prelude.{ℕ}
use Rattle.std.specs.Ordering.{nat_cmp}
use Rattle.std.specs.FinMap.{FinMap}

-- how many entries it has room for, how many were pushed so far, and the entries that are there, by number
abbrev pub Numbered : Type 0 → Type 0
Numbered X = ℕ × (ℕ × FinMap nat_cmp X)

abbrev pub capacity_of : {X : Type 0} → Numbered X → ℕ
capacity_of table = table.0

abbrev pub next_of : {X : Type 0} → Numbered X → ℕ
next_of table = table.1.0

abbrev pub entries_of : {X : Type 0} → Numbered X → FinMap nat_cmp X
entries_of table = table.1.1
