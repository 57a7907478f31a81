use Rattle.std.proofs.Common.{◌≡◌, ◌≢◌, ◌<◌, ◌++◌, ◌==◌, ℕ, zero, suc, false, [], ◌∷◌, Option, Some, None, MatchOption, length, get_or, codes, decimal, refl, ap, ◌∙◌, lit<, arith}
use Rattle.std.proofs.lemmas.Str.Pattern.{IsSplitOnceResult, split_after, split_parts}
use denote.Ref.{Bor}
use Rattle.r6_script.specs.declared.script.Call.TheVariants.{Perform, Answer, Do, Tell, Look, Turn}
use Rattle.r6_script.specs.declared.script.Event.{Event}
use Rattle.r6_script.specs.declared.script.Event.TheVariants.{Read, Write, At, Fail, Attach, Replace}
use Rattle.r6_script.specs.Script.{IsEvent, Reads, Text, byte_word, command_word, completion_word, line_of, task_word}
use Rattle.r6_script.proofs.ScriptLemmas.{other_first, reads_same}
use Rattle.r6_script.proofs.parser.parse_event.Goals as goal

-- what is read of the text after a name is read of the line
named : (line name : Text) (cut : Bor Text × Bor Text) (answer : Option Event) → IsSplitOnceResult 32 line (Some cut) → cut.0.now ≡ name → Reads line_of IsEvent (name ++ 32 ∷ cut.1.now) answer
    → Reads line_of IsEvent line answer
named line name cut answer is same read =
    reads_same line_of IsEvent line (name ++ 32 ∷ cut.1.now) answer
    ((split_parts 32 line (Some cut) is (lit< tt)).0 ∙ ap (λ (word : Text). word ++ 32 ∷ cut.1.now) same) read

pub returns-in-read : goal.returns-in-read
returns-in-read c = named c.args.line.now (codes "read") (c.in_ok-name.name, c.in_ok-name.text) c.parse_read.result c.in_ok-name.ensures.cases c.in-read.is c.parse_read.ensures

pub returns-in-write : goal.returns-in-write
returns-in-write c = named c.args.line.now (codes "write") (c.in_ok-name.name, c.in_ok-name.text) c.parse_write.result c.in_ok-name.ensures.cases c.in-write.is c.parse_write.ensures

pub returns-in-perform : goal.returns-in-perform
returns-in-perform c = named c.args.line.now (codes "perform") (c.in_ok-name.name, c.in_ok-name.text) c.parse_perform.result c.in_ok-name.ensures.cases c.in-perform.is c.parse_perform.ensures

pub returns-in-answer : goal.returns-in-answer
returns-in-answer c = named c.args.line.now (codes "answer") (c.in_ok-name.name, c.in_ok-name.text) c.parse_answer.result c.in_ok-name.ensures.cases c.in-answer.is c.parse_answer.ensures

pub returns-in-do : goal.returns-in-do
returns-in-do c = named c.args.line.now (codes "do") (c.in_ok-name.name, c.in_ok-name.text) c.parse_do.result c.in_ok-name.ensures.cases c.in-do.is c.parse_do.ensures

pub returns-in-tell : goal.returns-in-tell
returns-in-tell c = named c.args.line.now (codes "tell") (c.in_ok-name.name, c.in_ok-name.text) c.parse_tell.result c.in_ok-name.ensures.cases c.in-tell.is c.parse_tell.ensures

pub returns-in-look : goal.returns-in-look
returns-in-look c = named c.args.line.now (codes "look") (c.in_ok-name.name, c.in_ok-name.text) c.parse_look.result c.in_ok-name.ensures.cases c.in-look.is c.parse_look.ensures

pub returns-in-turn : goal.returns-in-turn
returns-in-turn c = named c.args.line.now (codes "turn") (c.in_ok-name.name, c.in_ok-name.text) c.parse_turn.result c.in_ok-name.ensures.cases c.in-turn.is c.parse_turn.ensures

pub returns-in-fail : goal.returns-in-fail
returns-in-fail c = named c.args.line.now (codes "fail") (c.in_ok-name.name, c.in_ok-name.text) c.parse_fail.result c.in_ok-name.ensures.cases c.in-fail.is c.parse_fail.ensures

pub returns-in-attach : goal.returns-in-attach
returns-in-attach c = named c.args.line.now (codes "attach") (c.in_ok-name.name, c.in_ok-name.text) c.parse_attach.result c.in_ok-name.ensures.cases c.in-attach.is c.parse_attach.ensures

pub returns-in-replace : goal.returns-in-replace
returns-in-replace c = named c.args.line.now (codes "replace") (c.in_ok-name.name, c.in_ok-name.text) c.parse_replace.result c.in_ok-name.ensures.cases c.in-replace.is c.parse_replace.ensures

-- ---- a line that is no event's

abbrev NoSpace : Text → Type 0
NoSpace [] = Unit {0}
NoSpace (x ∷ word) = ((x == 32) ≡ false) × NoSpace word

spaceless : (word : Text) → NoSpace word → (i : ℕ) → i < length word → get_or word i 0 ≢ 32
spaceless [] none i within e = absurd (omega (arith, within))
spaceless (x ∷ word) none zero within e = other_first x 32 [] [] none.0 (ap (λ (n : ℕ). n ∷ []) e)
spaceless (x ∷ word) none (suc i) within e = spaceless word none.1 i (omega (arith, within)) e

first_word : (line name rest : Text) (r : Option (Bor Text × Bor Text)) → IsSplitOnceResult 32 line r → NoSpace name → line ≡ name ++ 32 ∷ rest → MatchOption r ⊥ (λ cut. cut.0.now ≡ name)
first_word line name rest None is none e = split_after 32 line name rest None is (lit< tt) e (spaceless name none)
first_word line name rest (Some cut) is none e = (split_after 32 line name rest (Some cut) is (lit< tt) e (spaceless name none)).0

abbrev name_of : Event → Text
name_of (Read block) = codes "read"
name_of (Write block byte) = codes "write"
name_of (At shard (Perform token)) = codes "perform"
name_of (At shard (Answer token completion)) = codes "answer"
name_of (At shard (Do token)) = codes "do"
name_of (At shard Tell) = codes "tell"
name_of (At shard Look) = codes "look"
name_of (At shard (Turn task)) = codes "turn"
name_of (Fail slot) = codes "fail"
name_of (Attach slot) = codes "attach"
name_of (Replace slot) = codes "replace"

-- an event's line is cut after its name
first_name : (line : Text) (r : Option (Bor Text × Bor Text)) → IsSplitOnceResult 32 line r → (event : Event) → line ≡ line_of event → MatchOption r ⊥ (λ cut. cut.0.now ≡ name_of event)
first_name line r is (Read block) e = first_word line (codes "read") (decimal block) r is (refl, (refl, (refl, (refl, tt)))) e
first_name line r is (Write block byte) e = first_word line (codes "write") (decimal block ++ 32 ∷ byte_word byte) r is (refl, (refl, (refl, (refl, (refl, tt))))) e
first_name line r is (At shard (Perform token)) e = first_word line (codes "perform") (command_word shard token) r is (refl, (refl, (refl, (refl, (refl, (refl, (refl, tt))))))) e
first_name line r is (At shard (Answer token completion)) e = first_word line (codes "answer") (command_word shard token ++ 32 ∷ completion_word completion) r is (refl, (refl, (refl, (refl, (refl, (refl, tt)))))) e
first_name line r is (At shard (Do token)) e = first_word line (codes "do") (command_word shard token) r is (refl, (refl, tt)) e
first_name line r is (At shard Tell) e = first_word line (codes "tell") (decimal shard) r is (refl, (refl, (refl, (refl, tt)))) e
first_name line r is (At shard Look) e = first_word line (codes "look") (decimal shard) r is (refl, (refl, (refl, (refl, tt)))) e
first_name line r is (At shard (Turn task)) e = first_word line (codes "turn") (decimal shard ++ 32 ∷ task_word task) r is (refl, (refl, (refl, (refl, tt)))) e
first_name line r is (Fail slot) e = first_word line (codes "fail") (decimal slot) r is (refl, (refl, (refl, (refl, tt)))) e
first_name line r is (Attach slot) e = first_word line (codes "attach") (decimal slot) r is (refl, (refl, (refl, (refl, (refl, (refl, tt)))))) e
first_name line r is (Replace slot) e = first_word line (codes "replace") (decimal slot) r is (refl, (refl, (refl, (refl, (refl, (refl, (refl, tt))))))) e

pub returns-in_err-name : goal.returns-in_err-name
returns-in_err-name c =
    rw c.from_residual.ensures (λ event is e. first_name c.args.line.now None c.in_err-name.ensures.cases event e)

no_name : (name : Text) → name ≢ codes "read" → name ≢ codes "write" → name ≢ codes "perform" → name ≢ codes "answer" → name ≢ codes "do" → name ≢ codes "tell" → name ≢ codes "look" → name ≢ codes "turn"
    → name ≢ codes "fail" → name ≢ codes "attach" → name ≢ codes "replace" → (event : Event) → name ≢ name_of event
no_name name read write perform answer do_ tell look turn fail attach replace (Read block) e = read e
no_name name read write perform answer do_ tell look turn fail attach replace (Write block byte) e = write e
no_name name read write perform answer do_ tell look turn fail attach replace (At shard (Perform token)) e = perform e
no_name name read write perform answer do_ tell look turn fail attach replace (At shard (Answer token completion)) e = answer e
no_name name read write perform answer do_ tell look turn fail attach replace (At shard (Do token)) e = do_ e
no_name name read write perform answer do_ tell look turn fail attach replace (At shard Tell) e = tell e
no_name name read write perform answer do_ tell look turn fail attach replace (At shard Look) e = look e
no_name name read write perform answer do_ tell look turn fail attach replace (At shard (Turn task)) e = turn e
no_name name read write perform answer do_ tell look turn fail attach replace (Fail slot) e = fail e
no_name name read write perform answer do_ tell look turn fail attach replace (Attach slot) e = attach e
no_name name read write perform answer do_ tell look turn fail attach replace (Replace slot) e = replace e

pub returns-in_default : goal.returns-in_default
returns-in_default c = λ event is e.
    no_name c.in_ok-name.name.now c.in_default.not-read c.in_default.not-write c.in_default.not-perform c.in_default.not-answer c.in_default.not-do c.in_default.not-tell c.in_default.not-look c.in_default.not-turn
    c.in_default.not-fail c.in_default.not-attach c.in_default.not-replace event
    (first_name c.args.line.now (Some (c.in_ok-name.name, c.in_ok-name.text)) c.in_ok-name.ensures.cases event e)
