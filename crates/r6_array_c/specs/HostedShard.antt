-- What a call of the library does to the shard in it, and to the register of all shards: what their own calls do, and
-- nothing where they are refused.
use Rattle.std.specs.Prelude.{◌≡◌, ◌≢◌, ◌+◌, ℕ, Bool, length, Result, Some, None}
use Rattle.r6_layout.specs.PlainArray.{Block}
use Rattle.r6_core.specs.Refusals.{number_of}
use Rattle.r6_core.specs.declared.refusal.Refusal.{Refusal}
use Rattle.r6_core.specs.declared.turn.Task.{Task}
use Rattle.r6_core.specs.declared.turn.Turn.TheVariants.{Started, Skipped}
use Rattle.r6_health.specs.Refusals.{refusal_number}
use Rattle.r6_health.specs.declared.call.Answer.{Answer}
use Rattle.r6_health.specs.declared.call.Answer.TheVariants.{Generation}
use Rattle.r6_health.specs.declared.refusal.Refusal.{Refusal as RegisterRefusal}
use Rattle.r6_world.specs.Registers.{RegisterCall, Fail, DeclareLost, Attach, Replace, Told}
use Rattle.r6_world.specs.declared.values.Command.{Command}
use Rattle.r6_world.specs.declared.values.DeviceFault.{DeviceFault}
use Rattle.r6_world.specs.declared.values.Op.{Op}
use Rattle.r6_world.specs.declared.values.Receipt.{Receipt}
use Rattle.r6_world.specs.declared.values.Reply.{Reply}
use Rattle.r6_array.specs.HandleEffects.{HandleTakesIn, HandleRefusesRequest, HandleHandsOut, HandleHandsNone, HandleTakesBack, HandleRefusesDelivery, AsksForNone, AsksFor, HandleAgrees, HandleRefusesChange, HandleLooks, HandleRefusesLook, HandleHandsReply, HandleHandsNoReply, HandleTurns, HandleRefusesTurn, RegisterTakes, RegisterRefuses}
use Rattle.r6_array.specs.declared.change.Change.{Change}
use Rattle.r6_array.specs.declared.register.SharedRegister.{SharedRegister}
use Rattle.r6_array.specs.declared.ticket.Ticket.{Ticket}
use Rattle.r6_array_c.specs.declared.handle.Order.{Order}
use Rattle.r6_array_c.specs.declared.handle.Mail.{Mail}
use Rattle.r6_array_c.specs.declared.orders.Lent.{Lent}
use Rattle.r6_array_c.specs.declared.shard_host.ShardHost.{ShardHost}
use Rattle.r6_array_c.specs.Blocks.{KeepsLengths, IsAsked, spared}
use Rattle.r6_array_c.specs.Orders.{HasCommand}
use Rattle.r6_array_c.specs.Numbers.{kept_number, call_numbers, fault_of, completion_by, reply_number, reply_block, task_of, busy_now, still_in_use, no_such, not_out, nothing_now}

-- the blocks are as they were, and the change that the program was told of last is no other, nor what it has gathered
pub record ShardKeepsRest (old new : ShardHost) : Type 0 where
  pub blocks : new.blocks ≡ old.blocks
  pub asked : new.asked ≡ old.asked
  pub gathered : new.gathered ≡ old.gathered

-- the shard takes a request, a write with what stood in the stage, and a spare buffer with it; or it refuses it, and the
-- buffer is spare again; without one it isn't asked
pub record ShardSubmitsBy (old : ShardHost) (block : ℕ) (is_write : Bool) (name answer : ℕ) (new : ShardHost) : Type 0 where
  pub accepted : answer ≡ 0 → (o : Op) × IsAsked old.blocks.stage block is_write o
      × HandleTakesIn old.shard o name new.shard × (length new.blocks.spare + 1 ≡ length old.blocks.spare)
  pub refused : answer ≢ 0 → length old.blocks.spare ≢ 0 → (o : Op) × IsAsked old.blocks.stage block is_write o
      × (refusal : Refusal) × (back : Op) × HandleRefusesRequest old.shard o refusal back new.shard
      × (answer ≡ number_of refusal) × (length new.blocks.spare ≡ length old.blocks.spare)
  pub busy : length old.blocks.spare ≡ 0 → (answer ≡ busy_now) × (new ≡ old)
  pub lengths : KeepsLengths old.blocks new.blocks
  pub asked : new.asked ≡ old.asked
  pub gathered : new.gathered ≡ old.gathered

-- the shard hands a command out into the order, or has none, or the order is in use
pub record ShardHandsOutTo (old : ShardHost) (was : Order) (answer : ℕ) (new : ShardHost) (order : Order) : Type 0 where
  pub handed : answer ≡ 0 → (ticket : Ticket) × (command : Command) × HandleHandsOut old.shard ticket command new.shard
      × HasCommand was order ticket command × (was.parked.command ≡ None)
  pub none : answer ≢ 0 → was.parked.command ≡ None → (answer ≡ nothing_now) × HandleHandsNone old.shard new.shard
  pub in_use : was.parked.command ≢ None → answer ≡ still_in_use
  pub kept : answer ≢ 0 → (new.shard ≡ old.shard) × (order ≡ was)
  pub rest : ShardKeepsRest old new

-- The shard takes the completion of the order's command, by the fault and the block that stand there; the order has its
-- own block again. Where it is refused the order has the command and the block
pub record ShardDeliversFrom (old : ShardHost) (was : Order) (answer : ℕ) (new : ShardHost) (order : Order) : Type 0 where
  pub delivered : answer ≡ 0 → (ticket : Ticket) × (own : Lent) × (was.parked.command ≡ Some (ticket, own))
      × (receipt : Receipt)
      × HandleTakesBack old.shard ticket (completion_by (fault_of was.fault) was.parked.lent.block) receipt new.shard
      × (order.parked.command ≡ None) × (order.parked.lent ≡ own)
  pub refused : (ticket : Ticket) (own : Lent) → answer ≢ 0 → was.parked.command ≡ Some (ticket, own)
      → (refusal : Refusal) × (back : Ticket) × (completion : Result Block DeviceFault)
      × HandleRefusesDelivery old.shard ticket (completion_by (fault_of was.fault) was.parked.lent.block) refusal back completion
      new.shard
      × (answer ≡ number_of refusal)
  pub nothing : was.parked.command ≡ None → (answer ≡ not_out) × (new ≡ old) × (order.parked.command ≡ None)
  pub back : (ticket : Ticket) (own : Lent) → answer ≢ 0 → was.parked.command ≡ Some (ticket, own)
      → (order.parked.command ≡ Some (ticket, own)) × (order.parked.lent.block ≡ was.parked.lent.block)
  pub rest : ShardKeepsRest old new

-- the shard hands out a reply, or has none; the block of the last one is spare again
pub record ShardRepliesBy (old : ShardHost) (answer : ℕ) (new : ShardHost) (mail : Mail) : Type 0 where
  pub replied : answer ≡ 0 → (reply : Reply) × HandleHandsReply old.shard mail.name reply new.shard
      × (mail.kind ≡ reply_number reply)
      × (new.blocks
      ≡ spared (record old.blocks { answered = reply_block reply; answered_at = mail.bytes }) old.blocks.answered)
  pub none : answer ≢ 0 → (answer ≡ nothing_now) × HandleHandsNoReply old.shard new.shard × (new.blocks ≡ old.blocks)
  pub lengths : KeepsLengths old.blocks new.blocks
  pub asked : new.asked ≡ old.asked
  pub gathered : new.gathered ≡ old.gathered

-- the change that the shard asks for, or none; it stays as it is
pub record ShardAsksBy (old : ShardHost) (answer : ℕ) (new : ShardHost) (mail : Mail) : Type 0 where
  pub asked : answer ≡ 0 → (change : Change) × AsksFor old.shard change × (new.asked ≡ Some change)
      × (mail.shard ≡ change.shard) × (mail.kind ≡ (call_numbers change.call).0)
      × (mail.slot ≡ (call_numbers change.call).1) × (mail.generation ≡ (call_numbers change.call).2)
  pub none : answer ≢ 0 → (answer ≡ nothing_now) × AsksForNone old.shard × (new.asked ≡ None)
  pub same : new.shard ≡ old.shard
  pub blocks : new.blocks ≡ old.blocks
  pub gathered : new.gathered ≡ old.gathered

-- the change that was asked for last is made at the register, or refused
pub record ShardAgreesBy (old : ShardHost) (was : SharedRegister) (answer : ℕ) (new : ShardHost) (register : SharedRegister)
    : Type 0 where
  pub agreed : answer ≡ 0 → (change : Change) × (told : Told) × (old.asked ≡ Some change)
      × HandleAgrees old.shard was change told new.shard register
  pub refused : (change : Change) → answer ≢ 0 → old.asked ≡ Some change
      → (refusal : Refusal) × HandleRefusesChange old.shard was change refusal new.shard register
      × (answer ≡ number_of refusal)
  pub nothing : old.asked ≡ None → (answer ≡ nothing_now) × (new ≡ old) × (register ≡ was)
  pub spent : new.asked ≡ None
  pub blocks : new.blocks ≡ old.blocks
  pub gathered : new.gathered ≡ old.gathered

-- the shard looks at the register, or is refused
pub record ShardLooksBy (old : ShardHost) (register : SharedRegister) (answer : ℕ) (new : ShardHost) : Type 0 where
  pub looked : answer ≡ 0 → HandleLooks old.shard register new.shard
  pub refused : answer ≢ 0 → (refusal : Refusal) × HandleRefusesLook old.shard register refusal new.shard
      × (answer ≡ number_of refusal)
  pub rest : ShardKeepsRest old new

-- the next row of a task is held, or passed over
pub record ShardTurnsBy (old : ShardHost) (number answer : ℕ) (new : ShardHost) : Type 0 where
  pub started : answer ≡ 0 → (task : Task) × (task_of number ≡ Some task) × HandleTurns old.shard task Started new.shard
  pub skipped : answer ≡ nothing_now → (task : Task) × (task_of number ≡ Some task) × HandleTurns old.shard task Skipped new.shard
  pub refused : (task : Task) → answer ≢ 0 → answer ≢ nothing_now → task_of number ≡ Some task
      → (refusal : Refusal) × HandleRefusesTurn old.shard task refusal new.shard × (answer ≡ number_of refusal)
  pub unknown : task_of number ≡ None → (answer ≡ no_such) × (new ≡ old)
  pub rest : ShardKeepsRest old new

-- a slot fails
pub record RegisterFailsBy (old : SharedRegister) (slot answer : ℕ) (new : SharedRegister) : Type 0 where
  pub failed : answer ≡ 0 → (told : Answer) × RegisterTakes old (Fail slot) told new
  pub refused : answer ≢ 0 → (refusal : RegisterRefusal) × RegisterRefuses old (Fail slot) refusal new
      × (answer ≡ 100 + refusal_number refusal)

-- A device of a slot is lost, of two that one alone; told is whether the other one has the slot in sync
pub record RegisterLosesBy (old : SharedRegister) (slot generation answer : ℕ) (new : SharedRegister) (mail : Mail)
    : Type 0 where
  pub lost : answer ≡ 0 → (told : Answer) × RegisterTakes old (DeclareLost slot generation) told new
      × (mail.number ≡ kept_number told)
  pub refused : answer ≢ 0 → (refusal : RegisterRefusal) × RegisterRefuses old (DeclareLost slot generation) refusal new
      × (answer ≡ 100 + refusal_number refusal)

-- a slot has a new device by this call, of this generation
pub record RegisterBringsBy (call : RegisterCall) (old : SharedRegister) (answer : ℕ) (new : SharedRegister) (mail : Mail)
    : Type 0 where
  pub brought : answer ≡ 0 → (told : Answer) × RegisterTakes old call told new
      × ((generation : ℕ) → told ≡ Generation generation → mail.number ≡ generation)
  pub refused : answer ≢ 0 → (refusal : RegisterRefusal) × RegisterRefuses old call refusal new
      × (answer ≡ 100 + refusal_number refusal)

-- a lost one, or one in sync, whose own device it is to replace
abbrev pub RegisterAttachesBy : (old : SharedRegister) (slot answer : ℕ) (new : SharedRegister) (mail : Mail) → Type 0
RegisterAttachesBy old slot answer new mail = RegisterBringsBy (Attach slot) old answer new mail

abbrev pub RegisterReplacesBy : (old : SharedRegister) (slot answer : ℕ) (new : SharedRegister) (mail : Mail) → Type 0
RegisterReplacesBy old slot answer new mail = RegisterBringsBy (Replace slot) old answer new mail
