-- A script that was run on an array of files (this project's own).
use Rattle.std.specs.Prelude.{◌≡◌, true, List, length, replicate, ◌++◌, Option}
use Rattle.std.specs.Io.KnownBytes.{Appends}
use Rattle.std.specs.List.{AllZip}
use Rattle.r6_layout.specs.Shape.{Shape}
use Rattle.r6_dev.specs.FilePart.{FilePart}
use Rattle.r6_dev.specs.Promises.{no_promise}
use Rattle.r6_dev.specs.declared.file.Access.TheVariants.{ReadWrite}
use Rattle.r6_world.specs.PlainArray as world
use Rattle.r6_world.specs.Registers.{Snapshot}
use Rattle.r6_health.specs.Histories.{start_losing}
use Rattle.r6_health.specs.Registers.{starting}
use Rattle.r6_engine.specs.Openings.{caller_of}
use Rattle.r6_world.specs.Values.{buffer_of, op_of}
use Rattle.r6_offline.specs.Files.{AreOpened, IsSlotOpened}
use Rattle.r6_offline.specs.Parts.{tells_nothing}
use Rattle.r6_settings.specs.Settings.{Values}
use Rattle.r6_shard.specs.declared.parts.Parts.{Parts}
use Rattle.r6_engine.specs.feed.Events.{events_of}
use Rattle.r6_engine.specs.declared.feed.event.Event as feed
use Rattle.r6_engine.specs.declared.feed.event.Event.TheVariants as fed
use Rattle.r6_engine.specs.declared.reply.EventReply.{EventReply}
use Rattle.r6_engine.specs.declared.served.Served.{Served}
use Rattle.r6_engine.specs.Answered.{AreReplies}
use Rattle.r6_engine.specs.ServedArrays.{HasServedArray}
use Rattle.r6_script.specs.Script.{Text}
use Rattle.r6_script.specs.declared.run_event.RunEvent.{RunEvent}
use Rattle.r6_script.specs.declared.run_event.RunEvent.TheVariants.{Read, Write, Wait, Fail, Attach, Replace, Check, Repair}
use Rattle.r6_run.specs.Lines.{lines_text, state_text}
use Rattle.r6_run.specs.Arrays.{AreGiven, mask_of}
use Rattle.r6_run.specs.Ends.{ending_of}
use Rattle.r6_run.specs.declared.ending.Ending.{Ending}

-- an array's threads are given what the script says: a write of a block of one byte; a new device with a part for each
-- shard, opened at its path for writing too
abbrev pub IsAsked : Shape → RunEvent → feed.Event FilePart → Type 0
IsAsked shape (Read block) (fed.Request op) = (op_of op ≡ world.Op.Read block) × (length (buffer_of op) ≡ shape.block)
IsAsked shape (Write block byte) (fed.Request op) = op_of op ≡ world.Op.Write block (replicate shape.block byte)
IsAsked shape Wait fed.Wait = Unit {0}
IsAsked shape (Fail slot) (fed.Fail failed) = failed ≡ slot
IsAsked shape (Attach slot path) (fed.Attach attached parts) =
    (attached ≡ slot) × (length parts.items ≡ shape.shards) × IsSlotOpened shape path.now ReadWrite parts.items
IsAsked shape (Replace slot path) (fed.Replace replaced parts) =
    (replaced ≡ slot) × (length parts.items ≡ shape.shards) × IsSlotOpened shape path.now ReadWrite parts.items
IsAsked shape Check fed.Check = Unit {0}
IsAsked shape Repair fed.Repair = Unit {0}
IsAsked shape event given = ⊥

-- the lines of a run
abbrev pub report_text : Shape → List EventReply → Snapshot → Text
report_text shape replies snapshot = lines_text 0 replies ++ state_text shape.slots snapshot

-- The script was run, on parts of which nothing is told: those of the slots that aren't lost, each in its shard and slot,
-- opened at the slot's path for writing too. What was printed is what its events were answered, and what the register
-- held at last.
pub record HasRun (values : Values) (script : List RunEvent) (old new : Option Text) (end : Ending) : Type 0 where
  pub devices : List (Option FilePart)
  pub opened : AreOpened values.shape values.devices values.lost ReadWrite devices
  pub parts : List (Parts FilePart)
  pub given : AreGiven values.shape.shards values.shape.slots devices parts
  pub events : List (feed.Event FilePart)
  pub asked : AllZip (IsAsked values.shape) script events
  pub served : Served FilePart
  pub done : HasServedArray tells_nothing (λ _. no_promise) (λ shard slot. true) values.shape events
      (starting (mask_of values.shape.slots values.lost))
      (caller_of (start_losing values.shape.slots values.shape.shards (mask_of values.shape.slots values.lost))) parts served
  pub replied : AreReplies values.shape (events_of tells_nothing events) served.ledgers.items served.replies.items
  pub printed : Appends old new (report_text values.shape served.replies.items served.snapshot)
  pub ends : end ≡ ending_of served.snapshot
