-- What is made of a shape, or why nothing is.
use Rattle.std.specs.Prelude.{◌≡◌, ◌≢◌, ◌≤◌, ◌<◌, ◌*◌, ◌⊎◌, ℕ, [], length, None, MatchOption}
use Rattle.r6_layout.specs.Shape.{Shape as LayoutShape, IsShape, blocks, shape_of}
use Rattle.r6_layout.specs.Limits.{first_fault, fault_number}
use Rattle.r6_layout.specs.Layout.{row_of, shard_of}
use Rattle.r6_health.specs.Registers.{starting}
use Rattle.r6_core.specs.Refusals.{most_unanswered}
use Rattle.r6_array.specs.News.{IsNew, AreLost, HasFault, HasNoFault}
use Rattle.r6_array.specs.Handles.{IsNewHandle}
use Rattle.r6_array.specs.HandleEffects.{HasHandleFault, HasNoHandleFault, IsNewRegister}
use Rattle.r6_array.specs.Errors.{error_number}
use Rattle.r6_array.specs.declared.error.ArrayError.{ArrayError}
use Rattle.r6_array.specs.declared.register.SharedRegister.{SharedRegister}
use Rattle.r6_array_c.specs.Blocks.{AreMadeBlocks}
use Rattle.r6_array_c.specs.declared.handle.Shape.{Shape}
use Rattle.r6_array_c.specs.declared.handle.Order.{Order}
use Rattle.r6_array_c.specs.declared.host.Host.{Host}
use Rattle.r6_array_c.specs.declared.shard_host.ShardHost.{ShardHost}

abbrev pub geometry_of : Shape → LayoutShape
geometry_of s = shape_of s.slots s.chunk s.block s.rows s.shards

-- the array of this shape, without the slots whose bits are set, and a spare buffer for each request that it takes
pub record IsMadeHost (s : Shape) (host : Host) : Type 0 where
  pub shape : IsShape (geometry_of s)
  pub right : first_fault (geometry_of s) ≡ None
  pub allowed : HasNoFault (geometry_of s) s.window s.lost
  pub array : IsNew (geometry_of s) (starting s.lost) s.window host.array
  pub blocks : AreMadeBlocks (s.shards * most_unanswered) s.block host.blocks
  pub gathered : host.gathered ≡ []
  pub asked : host.asked ≡ None

-- the register of this shape's array, without the slots whose bits are set
pub record IsMadeRegister (s : Shape) (register : SharedRegister) : Type 0 where
  pub shape : IsShape (geometry_of s)
  pub allowed : AreLost (geometry_of s) s.lost
  pub made : IsNewRegister (geometry_of s) s.lost register

-- the shard of this number at the register as it is, and a spare buffer for each request that it takes
pub record IsMadeShard (register : SharedRegister) (number window : ℕ) (host : ShardHost) : Type 0 where
  pub allowed : HasNoHandleFault register number window
  pub shard : IsNewHandle register.geometry register.snapshot number window host.shard
  pub blocks : AreMadeBlocks most_unanswered register.geometry.block host.blocks
  pub gathered : host.gathered ≡ []
  pub asked : host.asked ≡ None

-- room for a command's block, and no command
pub record IsMadeOrder (s : Shape) (order : Order) : Type 0 where
  pub shape : IsShape (geometry_of s)
  pub block : length order.parked.lent.block ≡ s.block
  pub command : order.parked.command ≡ None

-- the number of the first fault of the shape, then of the window and the lost slots; 8: there is no memory
abbrev pub IsUnmade : Shape → ℕ → Type 0
IsUnmade s number = MatchOption (first_fault (geometry_of s))
    ((fault : ArrayError) × HasFault (geometry_of s) s.window s.lost fault × (number ≡ error_number fault))
    (λ fault. number ≡ fault_number fault)

-- of room for a command the window and the lost slots aren't asked
abbrev pub IsUnmadeOrder : Shape → ℕ → Type 0
IsUnmadeOrder s number = MatchOption (first_fault (geometry_of s)) (number ≡ 8) (λ fault. number ≡ fault_number fault)

-- the number of the first fault of the shape, then of the lost slots; 8: there is no memory
abbrev pub IsUnmadeRegister : Shape → ℕ → Type 0
IsUnmadeRegister s number = MatchOption (first_fault (geometry_of s))
    (((AreLost (geometry_of s) s.lost → ⊥) × (number ≡ 7)) ⊎ (AreLost (geometry_of s) s.lost × (number ≡ 8)))
    (λ fault. number ≡ fault_number fault)

-- the number of what is wrong with the window, the shard's number or the register, in this order; 8: there is no memory
abbrev pub IsUnmadeShard : SharedRegister → (shard window : ℕ) → ℕ → Type 0
IsUnmadeShard register shard window number =
    (fault : ArrayError) × HasHandleFault register shard window fault × (number ≡ error_number fault)

-- the shard of the row in which the block stands
abbrev pub HasShard : Shape → (block shard : ℕ) → Type 0
HasShard s block shard = (first_fault (geometry_of s) ≡ None) × (block < blocks (geometry_of s))
    × (shard ≡ shard_of (geometry_of s) (row_of (geometry_of s) block))

-- no array has this shape, or there is no such block
abbrev pub HasNoShard : Shape → (block : ℕ) → Type 0
HasNoShard s block = (first_fault (geometry_of s) ≢ None) ⊎ (blocks (geometry_of s) ≤ block)
