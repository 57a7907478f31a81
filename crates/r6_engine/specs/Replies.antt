-- What the events of an array were answered, from what the shards and the register said of each (this project's own).
use Rattle.std.specs.Prelude.{ℕ, Result, List, [], ◌∷◌, ◌++◌, map, replicate, flat_map, slice_index_or, slice_set}
use Rattle.r6_core.specs.declared.refusal.Refusal.{Refusal}
use Rattle.r6_health.specs.declared.refusal.Refusal.{Refusal as RegisterRefusal}
use Rattle.r6_core.specs.declared.refusal.Refusal.TheVariants.{NoSuchBlock}
use Rattle.r6_engine.specs.declared.feed.answer.EventAnswer.{EventAnswer}
use Rattle.r6_engine.specs.declared.feed.answer.AnsweredHere as told
use Rattle.r6_engine.specs.declared.feed.answer.AnsweredHere.TheVariants.{OutOfRange, Failed as Fails, Brought}
use Rattle.r6_engine.specs.declared.lists.bringing.Bringing.{Bringing}
use Rattle.r6_engine.specs.declared.lists.bringing.Bringing.TheVariants.{Attach, Replace}
use Rattle.r6_engine.specs.declared.runner.scrub.ScrubDone.{ScrubDone}
use Rattle.r6_engine.specs.declared.runner.runner.Runner.{Runner}
use Rattle.r6_shard.specs.declared.ledger.Entry.{Entry}
use Rattle.r6_shard.specs.declared.performs.Performs.{Ghosts}
use Rattle.r6_engine.specs.declared.ledger.LedgerEntry.{LedgerEntry}
use Rattle.r6_engine.specs.declared.reply.EventReply.{EventReply}
use Rattle.r6_engine.specs.declared.reply.EventReply.TheVariants.{Waited, Replied, Refused, Failed, Attached, Replaced, Counted}
use Rattle.r6_engine.specs.Found.{found_by, found_in}

-- ---- what was said, each of the event with this number

abbrev pub Said : Type 0
Said = ℕ × EventReply

abbrev pub said_of_entry : Entry → Said
said_of_entry entry = (entry.event, Replied entry.reply)

abbrev pub said_of_refusal : ℕ × Refusal → Said
said_of_refusal refused = (refused.0, Refused refused.1)

abbrev pub said_of_scrub : ScrubDone → Said
said_of_scrub scrub = (scrub.event, Counted (found_in scrub))

-- what a new device is answered
abbrev pub reply_of_device : Bringing → Result ℕ RegisterRefusal → EventReply
reply_of_device Attach answer = Attached answer
reply_of_device Replace answer = Replaced answer

-- a request for no block, and the calls at the register
abbrev pub reply_of_answer : told.AnsweredHere → EventReply
reply_of_answer OutOfRange = Refused NoSuchBlock
reply_of_answer (Fails slot answer) = Failed answer
reply_of_answer (Brought how slot answer) = reply_of_device how answer

abbrev pub said_of_answer : EventAnswer → Said
said_of_answer answer = (answer.event, reply_of_answer answer.outcome)

-- what a shard said: of the requests that it refused and of those that it answered, and of checks and repairs
abbrev pub said_by : {P D : Type 0} {g : Ghosts P} → Runner P D g → List Said
said_by runner = map said_of_refusal runner.refused.items
    ++ (map said_of_scrub runner.scrubs_done.items ++ map said_of_entry runner.shard.entries.items)

abbrev pub said_by_all : {P D : Type 0} {g : Ghosts P} → List (Runner P D g) → List Said
said_by_all runners = flat_map said_by runners

-- ---- what is known of the events by their numbers

-- what is known of an event once this was said of it too: the first answer stays, and what shards found adds up
abbrev pub known_with : EventReply → EventReply → EventReply
known_with Waited said = said
known_with (Counted one) (Counted other) = Counted (found_by one other)
known_with known said = known

abbrev pub with_one : List EventReply → Said → List EventReply
with_one replies said = slice_set replies said.0 (known_with (slice_index_or replies said.0 Waited) said.1)

abbrev pub with_all : List EventReply → List Said → List EventReply
with_all replies [] = replies
with_all replies (said ∷ more) = with_all (with_one replies said) more

-- what is known of so many events from all that was said
abbrev pub replies_of : {P D : Type 0} {g : Ghosts P} → (count : ℕ) → List (Runner P D g) → List EventAnswer → List EventReply
replies_of count runners answers =
    with_all (with_all (replicate count Waited) (said_by_all runners)) (map said_of_answer answers)

-- ---- the ledger of a shard

-- an entry, whose reply stands among the replies
abbrev pub ledger_entry : Entry → LedgerEntry
ledger_entry entry = record { event = entry.event; id = entry.id; block = entry.block }

abbrev pub ledger_entries : List Entry → List LedgerEntry
ledger_entries entries = map ledger_entry entries
