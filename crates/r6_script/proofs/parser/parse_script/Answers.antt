use Rattle.std.proofs.Common.{◌≡◌, Err, Some, arith, rules}
use Rattle.std.proofs.lemmas.List.{length_push}
use Rattle.r6_script.specs.Script.{lines_of}
use Rattle.r6_script.proofs.ScriptLemmas.{all_read, explained, next_line, no_line, pass_line, read_line}
use Rattle.r6_script.proofs.parser.parse_script.Goals as goal

pub followed-requires : goal.followed-requires
followed-requires c = c.loop-line.invariant.1.say.0

pub returns-in_err-followed-clause-err : goal.returns-in_err-followed-clause-err
returns-in_err-followed-clause-err c =
    let here = next_line {s = c.split-line-items.result} c.args.text.now c.into_iter-line-iterator.ensures.into_iter_gives
    c.split-line-items.ensures.text c.split-line-items.ensures.has_more c.split-line-items.ensures.pattern
    c.loop-line.yielded _ c.loop-line.yielded_by c.loop-line.number c.loop-line.invariant.0 _ _ c.in-Some.line c.in-Some.is c.next.ensures.steps in
    let is : c.from_residual.result ≡ Err c.in_err-followed.field-0.0 = search rules in
    rw is (explained (lines_of c.args.text.now) c.loop-line.number c.in-Some.line.now c.loop-line.script c.loop-line.invariant.1
    here c.if-not-is_passed_over.ensures c.in_err-followed.field-0.0 c.in_err-followed.ensures.err)

pub loop-line-preserved-then-not-is_passed_over : goal.loop-line-preserved-then-not-is_passed_over
loop-line-preserved-then-not-is_passed_over c =
    let here = next_line {s = c.split-line-items.result} c.args.text.now c.into_iter-line-iterator.ensures.into_iter_gives
    c.split-line-items.ensures.text c.split-line-items.ensures.has_more c.split-line-items.ensures.pattern
    c.loop-line.yielded _ c.loop-line.yielded_by c.loop-line.number c.loop-line.invariant.0 _ _ c.in-Some.line c.in-Some.is c.next.ensures.steps in
    let one = length_push c.loop-line.yielded c.in-Some.line in (
      omega (arith, one, c.loop-line.invariant.0),
      read_line (lines_of c.args.text.now) c.loop-line.number c.in-Some.line.now c.loop-line.script c.loop-line.invariant.1
          here c.if-not-is_passed_over.ensures (Some c.in_ok-followed.field-0) c.in_ok-followed.ensures.ok,
    )

pub loop-line-preserved : goal.loop-line-preserved
loop-line-preserved c =
    let here = next_line {s = c.split-line-items.result} c.args.text.now c.into_iter-line-iterator.ensures.into_iter_gives
    c.split-line-items.ensures.text c.split-line-items.ensures.has_more c.split-line-items.ensures.pattern
    c.loop-line.yielded _ c.loop-line.yielded_by c.loop-line.number c.loop-line.invariant.0 _ _ c.in-Some.line c.in-Some.is c.next.ensures.steps in
    let one = length_push c.loop-line.yielded c.in-Some.line in (
      omega (arith, one, c.loop-line.invariant.0),
      pass_line (lines_of c.args.text.now) c.loop-line.number c.in-Some.line.now c.loop-line.script c.loop-line.invariant.1
          here c.if-not-is_passed_over.ensures,
    )

pub returns-clause-ok : goal.returns-clause-ok
returns-clause-ok c =
    let end = no_line {s = c.split-line-items.result} c.args.text.now c.into_iter-line-iterator.ensures.into_iter_gives
    c.split-line-items.ensures.text c.split-line-items.ensures.has_more c.split-line-items.ensures.pattern
    c.loop-line.yielded _ c.loop-line.yielded_by c.loop-line.number c.loop-line.invariant.0 _ _ c.in-None.is c.next.ensures.steps in
    all_read (lines_of c.args.text.now) c.loop-line.number c.loop-line.script c.loop-line.invariant.1 end
