-- What an order tells of a command.
use Rattle.std.specs.Prelude.{◌≡◌, [], Some, None}
use Rattle.r6_world.specs.declared.values.Command.{Command}
use Rattle.r6_array.specs.declared.ticket.Ticket.{Ticket}
use Rattle.r6_array_c.specs.declared.handle.Order.{Order}
use Rattle.r6_array_c.specs.Numbers.{kind_number}

-- an order has this command, its ticket and its block, whatever length it was made for, and keeps its own block aside
pub record HasCommand (was order : Order) (ticket : Ticket) (command : Command) : Type 0 where
  pub kind : order.kind ≡ kind_number command.kind
  pub slot : order.slot ≡ command.slot
  pub shard : order.shard ≡ ticket.shard
  pub row : order.row ≡ command.row
  pub generation : order.generation ≡ command.generation
  pub fault : order.fault ≡ 0
  pub block : order.parked.lent.block ≡ command.buffer
  pub ticket_is : order.parked.command ≡ Some (ticket, was.parked.lent)

-- an order has no command, and no memory but its own
pub record IsClosed (order : Order) : Type 0 where
  pub command : order.parked.command ≡ None
  pub block : order.parked.lent.block ≡ []
