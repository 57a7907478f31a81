-- What a call of the library does to the array in it: what the array's own call does, and nothing where it is refused.
use Rattle.std.specs.Prelude.{◌≡◌, ◌≢◌, ◌+◌, ℕ, Bool, length, Result, Some, None}
use Rattle.r6_layout.specs.PlainArray.{Block}
use Rattle.r6_core.specs.Refusals.{number_of}
use Rattle.r6_core.specs.declared.refusal.Refusal.{Refusal}
use Rattle.r6_core.specs.declared.turn.Task.{Task}
use Rattle.r6_core.specs.declared.turn.Turn.TheVariants.{Started, Skipped}
use Rattle.r6_health.specs.Refusals.{refusal_number}
use Rattle.r6_health.specs.declared.call.Answer.{Answer}
use Rattle.r6_health.specs.declared.call.Answer.TheVariants.{Generation}
use Rattle.r6_health.specs.declared.refusal.Refusal.{Refusal as RegisterRefusal}
use Rattle.r6_world.specs.Registers.{RegisterCall, Fail, DeclareLost, Attach, Replace, Told}
use Rattle.r6_world.specs.declared.values.Command.{Command}
use Rattle.r6_world.specs.declared.values.DeviceFault.{DeviceFault}
use Rattle.r6_world.specs.declared.values.Op.{Op}
use Rattle.r6_world.specs.declared.values.Receipt.{Receipt}
use Rattle.r6_world.specs.declared.values.Reply.{Reply}
use Rattle.r6_array.specs.Effects.{Submits, RefusesRequest, HandsOut, HandsNone, Delivers, RefusesDelivery, HandsReply, HandsNoReply, AsksFirst, NoneAsks, AgreesTo, RefusesChange, ComesFromOutside, RefusedByRegister, TurnsIn, RefusesTurnIn}
use Rattle.r6_array.specs.declared.change.Change.{Change}
use Rattle.r6_array.specs.declared.ticket.Ticket.{Ticket}
use Rattle.r6_array_c.specs.declared.handle.Order.{Order}
use Rattle.r6_array_c.specs.declared.handle.Mail.{Mail}
use Rattle.r6_array_c.specs.declared.orders.Lent.{Lent}
use Rattle.r6_array_c.specs.declared.host.Host.{Host}
use Rattle.r6_array_c.specs.Blocks.{KeepsLengths, IsAsked, spared}
use Rattle.r6_array_c.specs.Orders.{HasCommand}
use Rattle.r6_array_c.specs.Numbers.{kept_number, call_numbers, fault_of, completion_by, reply_number, reply_block, task_of, busy_now, still_in_use, no_such, not_out, nothing_now}

-- the blocks are as they were, and the change that the program was told of last is no other, nor what it has gathered
pub record KeepsRest (old new : Host) : Type 0 where
  pub blocks : new.blocks ≡ old.blocks
  pub asked : new.asked ≡ old.asked
  pub gathered : new.gathered ≡ old.gathered

-- the array takes a request, a write with what stood in the stage, and a spare buffer with it; or it refuses it, and the
-- buffer is spare again; without one it isn't asked
pub record SubmitsBy (old : Host) (block : ℕ) (is_write : Bool) (name answer : ℕ) (new : Host) : Type 0 where
  pub accepted : answer ≡ 0 → (o : Op) × IsAsked old.blocks.stage block is_write o
      × Submits old.array o name new.array × (length new.blocks.spare + 1 ≡ length old.blocks.spare)
  pub refused : answer ≢ 0 → length old.blocks.spare ≢ 0 → (o : Op) × IsAsked old.blocks.stage block is_write o
      × (refusal : Refusal) × (back : Op) × RefusesRequest old.array o refusal back new.array
      × (answer ≡ number_of refusal) × (length new.blocks.spare ≡ length old.blocks.spare)
  pub busy : length old.blocks.spare ≡ 0 → (answer ≡ busy_now) × (new ≡ old)
  pub lengths : KeepsLengths old.blocks new.blocks
  pub asked : new.asked ≡ old.asked
  pub gathered : new.gathered ≡ old.gathered

-- the array hands a command out into the order, or has none, or the order is in use
pub record HandsOutTo (old : Host) (was : Order) (answer : ℕ) (new : Host) (order : Order) : Type 0 where
  pub handed : answer ≡ 0 → (ticket : Ticket) × (command : Command) × HandsOut old.array ticket command new.array
      × HasCommand was order ticket command × (was.parked.command ≡ None)
  pub none : answer ≢ 0 → was.parked.command ≡ None → (answer ≡ nothing_now) × HandsNone old.array new.array
  pub in_use : was.parked.command ≢ None → answer ≡ still_in_use
  pub kept : answer ≢ 0 → (new.array ≡ old.array) × (order ≡ was)
  pub rest : KeepsRest old new

-- The array takes the completion of the order's command, by the fault and the block that stand there; the order has its
-- own block again. Where it is refused the order has the command and the block
pub record DeliversFrom (old : Host) (was : Order) (answer : ℕ) (new : Host) (order : Order) : Type 0 where
  pub delivered : answer ≡ 0 → (ticket : Ticket) × (own : Lent) × (was.parked.command ≡ Some (ticket, own))
      × (receipt : Receipt)
      × Delivers old.array ticket (completion_by (fault_of was.fault) was.parked.lent.block) receipt new.array
      × (order.parked.command ≡ None) × (order.parked.lent ≡ own)
  pub refused : (ticket : Ticket) (own : Lent) → answer ≢ 0 → was.parked.command ≡ Some (ticket, own)
      → (refusal : Refusal) × (back : Ticket) × (completion : Result Block DeviceFault)
      × RefusesDelivery old.array ticket (completion_by (fault_of was.fault) was.parked.lent.block) refusal back completion
      new.array
      × (answer ≡ number_of refusal)
  pub nothing : was.parked.command ≡ None → (answer ≡ not_out) × (new ≡ old) × (order.parked.command ≡ None)
  pub back : (ticket : Ticket) (own : Lent) → answer ≢ 0 → was.parked.command ≡ Some (ticket, own)
      → (order.parked.command ≡ Some (ticket, own)) × (order.parked.lent.block ≡ was.parked.lent.block)
  pub rest : KeepsRest old new

-- the array hands out a reply, or has none; the block of the last one is spare again
pub record RepliesBy (old : Host) (answer : ℕ) (new : Host) (mail : Mail) : Type 0 where
  pub replied : answer ≡ 0 → (reply : Reply) × HandsReply old.array mail.name reply new.array
      × (mail.kind ≡ reply_number reply)
      × (new.blocks
      ≡ spared (record old.blocks { answered = reply_block reply; answered_at = mail.bytes }) old.blocks.answered)
  pub none : answer ≢ 0 → (answer ≡ nothing_now) × HandsNoReply old.array new.array × (new.blocks ≡ old.blocks)
  pub lengths : KeepsLengths old.blocks new.blocks
  pub asked : new.asked ≡ old.asked
  pub gathered : new.gathered ≡ old.gathered

-- the change that is asked for, or none; the array stays as it is
pub record AsksBy (old : Host) (answer : ℕ) (new : Host) (mail : Mail) : Type 0 where
  pub asked : answer ≡ 0 → (change : Change) × AsksFirst old.array change × (new.asked ≡ Some change)
      × (mail.shard ≡ change.shard) × (mail.kind ≡ (call_numbers change.call).0)
      × (mail.slot ≡ (call_numbers change.call).1) × (mail.generation ≡ (call_numbers change.call).2)
  pub none : answer ≢ 0 → (answer ≡ nothing_now) × NoneAsks old.array × (new.asked ≡ None)
  pub same : new.array ≡ old.array
  pub blocks : new.blocks ≡ old.blocks
  pub gathered : new.gathered ≡ old.gathered

-- the change that was asked for last is made, or refused
pub record AgreesBy (old : Host) (answer : ℕ) (new : Host) : Type 0 where
  pub agreed : answer ≡ 0 → (change : Change) × (told : Told) × (old.asked ≡ Some change)
      × AgreesTo old.array change told new.array
  pub refused : (change : Change) → answer ≢ 0 → old.asked ≡ Some change
      → (refusal : Refusal) × RefusesChange old.array change refusal new.array × (answer ≡ number_of refusal)
  pub nothing : old.asked ≡ None → (answer ≡ nothing_now) × (new ≡ old)
  pub spent : new.asked ≡ None
  pub blocks : new.blocks ≡ old.blocks
  pub gathered : new.gathered ≡ old.gathered

-- a slot fails
pub record FailsBy (old : Host) (slot answer : ℕ) (new : Host) : Type 0 where
  pub failed : answer ≡ 0 → (told : Answer) × ComesFromOutside old.array (Fail slot) told new.array
  pub refused : answer ≢ 0 → (refusal : RegisterRefusal) × RefusedByRegister old.array (Fail slot) refusal new.array
      × (answer ≡ 100 + refusal_number refusal)
  pub rest : KeepsRest old new

-- A device of a slot is lost, of two that one alone; told is whether the other one has the slot in sync
pub record LosesBy (old : Host) (slot generation answer : ℕ) (new : Host) (mail : Mail) : Type 0 where
  pub lost : answer ≡ 0 → (told : Answer) × ComesFromOutside old.array (DeclareLost slot generation) told new.array
      × (mail.number ≡ kept_number told)
  pub refused : answer ≢ 0 → (refusal : RegisterRefusal)
      × RefusedByRegister old.array (DeclareLost slot generation) refusal new.array
      × (answer ≡ 100 + refusal_number refusal)
  pub rest : KeepsRest old new

-- a slot has a new device by this call, of this generation
pub record BringsBy (call : RegisterCall) (old : Host) (answer : ℕ) (new : Host) (mail : Mail) : Type 0 where
  pub brought : answer ≡ 0 → (told : Answer) × ComesFromOutside old.array call told new.array
      × ((generation : ℕ) → told ≡ Generation generation → mail.number ≡ generation)
  pub refused : answer ≢ 0 → (refusal : RegisterRefusal) × RefusedByRegister old.array call refusal new.array
      × (answer ≡ 100 + refusal_number refusal)
  pub rest : KeepsRest old new

-- a lost one, or one in sync, whose own device it is to replace
abbrev pub AttachesBy : (old : Host) (slot answer : ℕ) (new : Host) (mail : Mail) → Type 0
AttachesBy old slot answer new mail = BringsBy (Attach slot) old answer new mail

abbrev pub ReplacesBy : (old : Host) (slot answer : ℕ) (new : Host) (mail : Mail) → Type 0
ReplacesBy old slot answer new mail = BringsBy (Replace slot) old answer new mail

-- the next row of a task is held, or passed over, in a shard
pub record TurnsBy (old : Host) (shard number answer : ℕ) (new : Host) : Type 0 where
  pub started : answer ≡ 0 → (task : Task) × (task_of number ≡ Some task) × TurnsIn old.array shard task Started new.array
  pub skipped : answer ≡ nothing_now → (task : Task) × (task_of number ≡ Some task) × TurnsIn old.array shard task Skipped new.array
  pub refused : (task : Task) → answer ≢ 0 → answer ≢ nothing_now → task_of number ≡ Some task
      → (refusal : Refusal) × RefusesTurnIn old.array shard task refusal new.array × (answer ≡ number_of refusal)
  pub unknown : task_of number ≡ None → (answer ≡ no_such) × (new ≡ old)
  pub rest : KeepsRest old new
