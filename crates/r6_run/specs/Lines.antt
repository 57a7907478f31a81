-- The lines of a run. The words are this project's own.
use Rattle.std.specs.Prelude.{ℕ, zero, suc, ◌+◌, ◌||◌, Bool, true, false, List, [], ◌∷◌, ◌++◌, codes, decimal, if◌then◌else◌}
use Rattle.r6_health.specs.Registers.{has_failed, state_at}
use Rattle.r6_health.specs.Slots.{is_lost, is_out}
use Rattle.r6_world.specs.Registers.{Snapshot}
use Rattle.r6_script.specs.Script.{Text}
use Rattle.r6_health.specs.Texts as register
use Rattle.r6_health.specs.Texts.{attach_answer}
use Rattle.r6_world.specs.Values.{reply_text}
use Rattle.r6_core.specs.Refusals.{refused_text}
use Rattle.r6_script.specs.Texts.{line, texts_below}
use Rattle.r6_engine.specs.declared.found.Found.{Found}
use Rattle.r6_engine.specs.declared.reply.EventReply.{EventReply}
use Rattle.r6_engine.specs.declared.reply.EventReply.TheVariants.{Waited, Replied, Refused, Failed, Attached, Replaced, Counted}

-- ---- events

-- the classes of wrong rows with one block to blame
abbrev pub classes_text : Found → Text
classes_text found = codes " wrong_p " ++ decimal found.wrong_p ++ codes " wrong_q " ++ decimal found.wrong_q
    ++ codes " wrong_data " ++ decimal found.wrong_data

abbrev pub rest_text : Found → Text
rest_text found = codes " many " ++ decimal found.many ++ codes " skipped " ++ decimal found.skipped
    ++ codes " repaired " ++ decimal found.repaired

-- what a check or repair found
abbrev pub found_text : Found → Text
found_text found = codes "consistent " ++ decimal found.consistent ++ classes_text found ++ rest_text found

-- what an event was answered; a wait is answered nothing
abbrev pub answer_text : EventReply → Text
answer_text Waited = []
answer_text (Replied reply) = reply_text reply
answer_text (Refused refusal) = refused_text refusal
answer_text (Failed answer) = register.answer_text answer
answer_text (Attached answer) = register.answer_text (attach_answer answer)
answer_text (Replaced answer) = register.answer_text (attach_answer answer)
answer_text (Counted found) = found_text found

abbrev pub event_line : (number : ℕ) → EventReply → Text
event_line number reply = decimal number ++ 32 ∷ answer_text reply ++ 10 ∷ []

-- the reply of a wait, and of no other event
abbrev pub is_wait : EventReply → Bool
is_wait Waited = true
is_wait reply = false

-- the lines of the events by their replies, numbered from this number on. A wait has none
abbrev pub lines_text : (number : ℕ) → List EventReply → Text
lines_text number [] = []
lines_text number (reply ∷ replies) =
    if is_wait reply then lines_text number replies else event_line number reply ++ lines_text (number + 1) replies

-- ---- the array

abbrev pub slot_text : Snapshot → (slot : ℕ) → Text
slot_text snapshot slot =
    if is_lost (state_at snapshot slot) then line (codes "slot" ∷ decimal slot ∷ codes "lost" ∷ []) else []

-- one of the first slots is out
abbrev pub is_degraded : (slots : ℕ) → Snapshot → Bool
is_degraded zero snapshot = false
is_degraded (suc slots) snapshot = is_degraded slots snapshot || is_out (state_at snapshot slots)

abbrev pub state_word : (slots : ℕ) → Snapshot → Text
state_word slots snapshot =
    if has_failed snapshot then codes "failed"
    else if is_degraded slots snapshot then codes "degraded"
    else codes "good"

-- the slots that are lost, and how the array is
abbrev pub state_text : (slots : ℕ) → Snapshot → Text
state_text slots snapshot =
    texts_below (slot_text snapshot) slots ++ line (codes "state" ∷ state_word slots snapshot ∷ [])
