use Rattle.std.proofs.Common.{◌≡◌, ◌+◌, ◌∙◌, [], ◌∷◌, Err, Some, ap, refl, sym, rules, arith}
use Rattle.std.specs.Result.{result_ok}
use Rattle.std.proofs.lemmas.List.{length_push}
use Rattle.std.proofs.lemmas.Slice.{pushed}
use Rattle.r6_script.specs.Script.{lines_of}
use Rattle.r6_script.specs.declared.script.ScriptFault.TheVariants.{Line}
use Rattle.r6_script.proofs.ScriptLemmas.{next_line, no_line}
use Rattle.r6_script.proofs.RunLemmas.{all_read, explained, pass_line, read_line, was_read, was_refused}
use Rattle.r6_script.proofs.run_parser.parse_run_script.Goals as goal

pub returns-in_err-event-clause-err : goal.returns-in_err-event-clause-err
returns-in_err-event-clause-err c =
    let here = next_line {s = c.split-line-items.result} c.args.text.now c.into_iter-line-iterator.ensures.into_iter_gives
    c.split-line-items.ensures.text c.split-line-items.ensures.has_more c.split-line-items.ensures.pattern
    c.loop-line.yielded _ c.loop-line.yielded_by c.loop-line.number c.loop-line.invariant.0 _ _ c.in-Some.line c.in-Some.is c.next.ensures.steps in
    let is : c.from_residual.result ≡ Err c.in_err-event.field-0.0 = search rules in
    let why = was_refused _ c.parse_event.result (Line (c.loop-line.number + 1)) c.in_err-event.field-0.0 c.parse_event.ensures
    (sym c.in_err-event.was ∙ c.ok_or.ensures.value) in
    rw is (explained (lines_of c.args.text.now) c.loop-line.number c.in-Some.line.now c.loop-line.events.items c.loop-line.invariant.1
    here c.if-not-is_passed_over.ensures c.in_err-event.field-0.0 why)

pub loop-line-preserved-in-Continue-branch-2 : goal.loop-line-preserved-in-Continue-branch-2
loop-line-preserved-in-Continue-branch-2 c =
    let here = next_line {s = c.split-line-items.result} c.args.text.now c.into_iter-line-iterator.ensures.into_iter_gives
    c.split-line-items.ensures.text c.split-line-items.ensures.has_more c.split-line-items.ensures.pattern
    c.loop-line.yielded _ c.loop-line.yielded_by c.loop-line.number c.loop-line.invariant.0 _ _ c.in-Some.line c.in-Some.is c.next.ensures.steps in
    let is : c.parse_event.result ≡ Some c.in_ok-event.event = c.ok_or.ensures.ok_part ∙ ap result_ok c.in_ok-event.was in
    let one = length_push c.loop-line.yielded c.in-Some.line in (
      omega (arith, one, c.loop-line.invariant.0),
      read_line (lines_of c.args.text.now) c.loop-line.number c.in-Some.line.now c.loop-line.events.items c.loop-line.invariant.1
          here c.if-not-is_passed_over.ensures c.in_ok-event.event _
          (was_read _ c.parse_event.result c.in_ok-event.event c.parse_event.ensures is)
          (pushed (c.in_ok-event.event ∷ []) refl c.in_ok-push.was c.push.ensures.items),
    )

pub loop-line-preserved : goal.loop-line-preserved
loop-line-preserved c =
    let here = next_line {s = c.split-line-items.result} c.args.text.now c.into_iter-line-iterator.ensures.into_iter_gives
    c.split-line-items.ensures.text c.split-line-items.ensures.has_more c.split-line-items.ensures.pattern
    c.loop-line.yielded _ c.loop-line.yielded_by c.loop-line.number c.loop-line.invariant.0 _ _ c.in-Some.line c.in-Some.is c.next.ensures.steps in
    let one = length_push c.loop-line.yielded c.in-Some.line in (
      omega (arith, one, c.loop-line.invariant.0),
      pass_line (lines_of c.args.text.now) c.loop-line.number c.in-Some.line.now c.loop-line.events.items c.loop-line.invariant.1
          here c.if-not-is_passed_over.ensures,
    )

pub returns-clause-ok : goal.returns-clause-ok
returns-clause-ok c =
    let end = no_line {s = c.split-line-items.result} c.args.text.now c.into_iter-line-iterator.ensures.into_iter_gives
    c.split-line-items.ensures.text c.split-line-items.ensures.has_more c.split-line-items.ensures.pattern
    c.loop-line.yielded _ c.loop-line.yielded_by c.loop-line.number c.loop-line.invariant.0 _ _ c.in-None.is c.next.ensures.steps in
    all_read (lines_of c.args.text.now) c.loop-line.number c.loop-line.events.items c.loop-line.invariant.1 end
