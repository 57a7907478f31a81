-- The two tables of 16 products by a constant in vectors, each twice: a swizzle looks within 16 lanes.
use Rattle.std.specs.Prelude.{ℕ, ◌*◌, ◌%◌, slice_index}
use Rattle.r6_field.specs.declared.lane_tables.LaneTables.TheInside.{Inside}
use Rattle.r6_field.specs.Field.{product}
use Rattle.r6_field.specs.Lanes.{HasLanes}

-- the constant is its product by 1
abbrev pub constant_in_lanes : Inside → ℕ
constant_in_lanes tables = slice_index tables.low 1

-- one vector has the products by 0 to 15, the other those by 0, 16, .. 240, each twice
pub record AreProductsInLanes (tables : Inside) : Type 0 where
  pub low : HasLanes tables.low (λ k. product (constant_in_lanes tables) (k % 16))
  pub high : HasLanes tables.high (λ k. product (constant_in_lanes tables) (16 * (k % 16)))
