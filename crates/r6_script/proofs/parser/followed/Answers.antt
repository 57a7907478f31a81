use Rattle.std.proofs.Common.{◌≡◌, ◌≢◌, ◌++◌, ℕ, List, [], ◌∷◌, Option, Some, None, Result, Ok, Err, IfErr, refl, sym, ap, subst, ◌∙◌}
use Rattle.std.specs.Prelude.{map}
use Rattle.std.proofs.lemmas.List.{map-append}
use Rattle.std.proofs.lemmas.List.Elements.{All-nil, All-push}
use Rattle.std.specs.Result.{IsErrAnd}
use Rattle.r6_layout.specs.Shape.{Shape, IsShape}
use Rattle.r6_script.specs.declared.script.Event.{Event}
use Rattle.r6_script.specs.declared.script.Script.{Script}
use Rattle.r6_script.specs.declared.script.ScriptFault.{ScriptFault}
use Rattle.r6_script.specs.declared.script.ScriptFault.TheVariants.{Line, Memory}
use Rattle.r6_script.specs.Script.{Adds, CannotAdd, IsEvent, IsSaid, Text, array_line, line_of, said_of}
use Rattle.r6_script.proofs.ScriptLemmas.{cannot_add_array, cannot_add_event}
use Rattle.r6_script.proofs.parser.followed.Goals as goal

-- ---- a line that is added

adds_array : (before : Option Script) (line : Text) (shape : Shape) (items : List Event) → before ≡ None → items ≡ [] → IsShape shape × (line ≡ array_line shape) → Adds (said_of before) line (Some (shape, items))
adds_array before line shape items none empty read = rw (none, empty) ((read.0, All-nil IsEvent), ap (λ (l : Text). l ∷ []) (sym read.1))

adds_event : (before : Option Script) (script : Script) (line : Text) (event : Event) (items : List Event) → before ≡ Some script → IsSaid (said_of before) → IsEvent event × (line ≡ line_of event)
    → items ≡ script.events.items ++ event ∷ [] → Adds (said_of before) line (Some (script.geometry, items))
adds_event before script line event items some said read more =
    let was : IsSaid (said_of (Some script)) = subst (λ (b : Option Script). IsSaid (said_of b)) some said in
    rw (some, more) (
      (was.0, All-push IsEvent script.events.items event was.1 read.0),
      ap (λ (lines : List Text). array_line script.geometry ∷ lines) (map-append line_of script.events.items (event ∷ []) ∙ ap (λ (l : Text). map line_of script.events.items ++ l ∷ []) (sym read.1)),
    )

pub returns-in-Some-parse_array-clause-ok : goal.returns-in-Some-parse_array-clause-ok
returns-in-Some-parse_array-clause-ok c =
    adds_array c.args.before c.args.line.now c.in-Some-parse_array.geometry c.new.result.items c.in-None.is c.new.ensures.items c.in-Some-parse_array.ensures

pub returns-in_ok-push-in-Some-parse_event-clause-ok : goal.returns-in_ok-push-in-Some-parse_event-clause-ok
returns-in_ok-push-in-Some-parse_event-clause-ok c =
    adds_event c.args.before c.in-Some.script c.args.line.now c.in-Some-parse_event.event c.push.new.self.items c.in-Some.is c.requires c.in-Some-parse_event.ensures c.in_ok-push-in-Some-parse_event.ensures.items

-- ---- a line that is not

no_memory : (n : ℕ) → Line n ≢ Memory
no_memory n e = cc

any_fault : (r : Result Script ScriptFault) (P : ScriptFault → Type 0) → ((fault : ScriptFault) → P fault) → IfErr r P
any_fault (Ok script) P all = tt
any_fault (Err fault) P all = all fault

only_memory : (r : Result Script ScriptFault) (P : ScriptFault → Type 0) → IsErrAnd r (λ fault. fault ≡ Memory) → IfErr r (λ fault. fault ≢ Memory → P fault)
only_memory (Ok script) P is = tt
only_memory (Err fault) P is = λ no. absurd (no is)

pub returns-in-None-parse_array-clause-err : goal.returns-in-None-parse_array-clause-err
returns-in-None-parse_array-clause-err c _ = (refl, rw c.in-None.is (cannot_add_array c.args.line.now c.in-None-parse_array.ensures))

pub returns-in-None-parse_array-clause-memory : goal.returns-in-None-parse_array-clause-memory
returns-in-None-parse_array-clause-memory c e = absurd (no_memory c.args.number e)

pub returns-in-None-parse_event-clause-err : goal.returns-in-None-parse_event-clause-err
returns-in-None-parse_event-clause-err c _ =
    (refl, rw c.in-Some.is (cannot_add_event c.in-Some.script.geometry c.in-Some.script.events.items c.args.line.now c.in-None-parse_event.ensures))

pub returns-in-None-parse_event-clause-memory : goal.returns-in-None-parse_event-clause-memory
returns-in-None-parse_event-clause-memory c e = absurd (no_memory c.args.number e)

pub returns-in_err-push-in-Some-parse_event-clause-memory : goal.returns-in_err-push-in-Some-parse_event-clause-memory
returns-in_err-push-in-Some-parse_event-clause-memory c =
    any_fault c.from_residual.result _ (λ fault is. (c.in-Some-parse_event.event, c.in-Some-parse_event.ensures.1))

pub returns-in_err-push-in-Some-parse_event-clause-err : goal.returns-in_err-push-in-Some-parse_event-clause-err
returns-in_err-push-in-Some-parse_event-clause-err c =
    only_memory c.from_residual.result (λ fault. (fault ≡ Line c.args.number) × CannotAdd (said_of c.args.before) c.args.line.now) c.from_residual.ensures.1
