-- How the lines of events are told apart, and what lines were read.
use Rattle.std.proofs.Common.{◌≡◌, ◌≢◌, ◌≤◌, ◌<◌, ◌+◌, ◌-◌, ◌++◌, ◌==◌, ℕ, true, false, List, [], ◌∷◌, Option, Some, None, Err, length, get_or, map, take, codes, decimal, refl, ap, sym, ◌∙◌, subst, arith}
use Rattle.std.proofs.lemmas.List.{map_push, take_all}
use Rattle.std.proofs.lemmas.List.Elements.{All-push}
use Rattle.std.proofs.lemmas.Bool.Decides.{nat_tests}
use Rattle.std.specs.Option.{ok_or}
use Rattle.r6_script.proofs.ScriptLemmas.{drop_same, filter_none, filter_one, last_written, other_first}
use Rattle.r6_script.specs.Script.{Text, IsByte, IsNumber, Reads, byte_word, is_passed_over, without_comments}
use Rattle.r6_script.specs.declared.script.ScriptFault.{ScriptFault}
use Rattle.r6_script.specs.declared.script.ScriptFault.TheVariants.{Line}
use Rattle.r6_script.specs.declared.run_event.RunEvent.{RunEvent}
use Rattle.r6_script.specs.declared.run_event.RunEvent.TheVariants.{Read, Write, Wait, Fail, Attach, Replace, Check, Repair}
use denote.Ref.{Bor}
use Rattle.r6_script.specs.RunScript.{ExplainsRun, IsDevice, IsRunEvent, IsRunScript, SayRun, device_text, run_line_of}

pub only_write : (text : Text) (event : RunEvent) → codes "write" ++ 32 ∷ text ≡ run_line_of event → IsRunEvent event
    → (block : ℕ) × (byte : ℕ) × IsNumber block × IsByte byte × (text ≡ decimal block ++ 32 ∷ byte_word byte)
only_write text (Read block) e is = absurd (other_first 119 114 _ _ refl e)
only_write text (Write block byte) e is = (block, byte, is.0, is.1, drop_same 6 _ _ e)
only_write text Wait e is = absurd (other_first 114 97 _ _ refl (drop_same 1 _ _ e))
only_write text (Fail slot) e is = absurd (other_first 119 102 _ _ refl e)
only_write text (Attach slot path) e is = absurd (other_first 119 97 _ _ refl e)
only_write text (Replace slot path) e is = absurd (other_first 119 114 _ _ refl e)
only_write text Check e is = absurd (other_first 119 99 _ _ refl e)
only_write text Repair e is = absurd (other_first 119 114 _ _ refl e)

pub only_attach : (text : Text) (event : RunEvent) → codes "attach" ++ 32 ∷ text ≡ run_line_of event → IsRunEvent event
    → (device : ℕ × Bor Text) × IsDevice device × (text ≡ device_text device)
only_attach text (Read block) e is = absurd (other_first 97 114 _ _ refl e)
only_attach text (Write block byte) e is = absurd (other_first 97 119 _ _ refl e)
only_attach text Wait e is = absurd (other_first 97 119 _ _ refl e)
only_attach text (Fail slot) e is = absurd (other_first 97 102 _ _ refl e)
only_attach text (Attach slot path) e is = ((slot, path), is, drop_same 7 _ _ e)
only_attach text (Replace slot path) e is = absurd (other_first 97 114 _ _ refl e)
only_attach text Check e is = absurd (other_first 97 99 _ _ refl e)
only_attach text Repair e is = absurd (other_first 97 114 _ _ refl e)

pub only_replace : (text : Text) (event : RunEvent) → codes "replace" ++ 32 ∷ text ≡ run_line_of event → IsRunEvent event
    → (device : ℕ × Bor Text) × IsDevice device × (text ≡ device_text device)
only_replace text (Read block) e is = absurd (other_first 112 97 _ _ refl (drop_same 2 _ _ e))
only_replace text (Write block byte) e is = absurd (other_first 114 119 _ _ refl e)
only_replace text Wait e is = absurd (other_first 114 119 _ _ refl e)
only_replace text (Fail slot) e is = absurd (other_first 114 102 _ _ refl e)
only_replace text (Attach slot path) e is = absurd (other_first 114 97 _ _ refl e)
only_replace text (Replace slot path) e is = ((slot, path), is, drop_same 8 _ _ e)
only_replace text Check e is = absurd (other_first 114 99 _ _ refl e)
only_replace text Repair e is = absurd (other_first 108 97 _ _ refl (drop_same 3 _ _ e))

pub is_empty : (text : Text) → true ≡ (length text == 0) → text ≡ []
is_empty [] e = refl
is_empty (byte ∷ bytes) e = let both : (length (byte ∷ bytes) == 0) ≡ true = sym e in let none : length (byte ∷ bytes) ≡ 0 = grind (arith, nat_tests) in absurd (omega (arith, none))

-- what a reader of one line gave, where an answer was made of it
pub was_read : (line : Text) (answer : Option RunEvent) (event : RunEvent) → Reads run_line_of IsRunEvent line answer → answer ≡ Some event
    → IsRunEvent event × (line ≡ run_line_of event)
was_read line answer event reads is = rw is at reads

pub was_refused : (line : Text) (answer : Option RunEvent) (refused fault : ScriptFault) → Reads run_line_of IsRunEvent line answer → Err fault ≡ ok_or answer refused
    → (fault ≡ refused) × ((event : RunEvent) → IsRunEvent event → line ≢ run_line_of event)
was_refused line None refused fault reads is = (cc, reads)
was_refused line (Some event) refused fault reads is = cc

-- ---- the lines of a text, some of which were read

pub record HasRead (lines : List Text) (count : ℕ) (events : List RunEvent) : Type 0 where
  pub say : SayRun (take count lines) events

pub none_read : (lines : List Text) (events : List RunEvent) → events ≡ [] → HasRead lines 0 events
none_read lines events none = subst (HasRead lines 0) (sym none) record { say = (λ k d within. absurd (omega (arith, within)), refl) }

-- at the end all lines were read
pub all_read : (lines : List Text) (i : ℕ) (events : List RunEvent) → HasRead lines i events → length lines ≤ i → SayRun lines events
all_read lines i events read end = subst (λ (all : List Text). SayRun all events) (take_all i lines end) read.say

module _ (lines : List Text) (i : ℕ) (line : Text) (events : List RunEvent) (read : HasRead lines i events)
    (here : (i < length lines) × (line ≡ get_or lines i line)) where
  module _ (counts : false ≡ is_passed_over line) where
    one_more : without_comments (take (i + 1) lines) ≡ map run_line_of events ++ line ∷ []
    one_more =
        filter_one lines i line here.0 (ap is_passed_over (sym here.1) ∙ sym counts)
        ∙ ap (λ (last : Text). without_comments (take i lines) ++ last ∷ []) (sym here.1)
        ∙ ap (λ (before : List Text). before ++ line ∷ []) read.say.1

    pub read_line : (event : RunEvent) (next : List RunEvent) → IsRunEvent event × (line ≡ run_line_of event) → next ≡ events ++ event ∷ []
        → HasRead lines (i + 1) next
    read_line event next said is = subst (HasRead lines (i + 1)) (sym is) record {
      say = (
        All-push IsRunEvent events event read.say.0 said.0,
        one_more ∙ ap (λ (last : Text). map run_line_of events ++ last ∷ []) said.1 ∙ sym (map_push run_line_of events event),
      );
    }

    pub explained : (fault : ScriptFault) → (fault ≡ Line (i + 1)) × ((event : RunEvent) → IsRunEvent event → line ≢ run_line_of event)
        → ExplainsRun lines fault
    explained fault why =
        let back : i + 1 - 1 ≡ i = omega arith in
        let first : IsRunScript (take (i + 1 - 1) lines) = rw back (events, read.say) in
        let last : ¬ IsRunScript (take (i + 1) lines) = λ script.
        let found = last_written run_line_of IsRunEvent script.0 (map run_line_of events) line script.1.0 (sym script.1.1 ∙ one_more) in
        why.1 found.0 found.1 found.2 in
        rw why.0 (first, last)

  pub pass_line : true ≡ is_passed_over line → HasRead lines (i + 1) events
  pass_line passed = record { say = (read.say.0, filter_none lines i line here.0 (ap is_passed_over (sym here.1) ∙ sym passed) ∙ read.say.1) }
