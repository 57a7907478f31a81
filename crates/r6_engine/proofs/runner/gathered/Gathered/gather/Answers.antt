use Rattle.std.proofs.Common.{◌≡◌, ◌∙◌, ◌++◌, ◌∷◌, [], append_assoc, ap, arith, deque_len, length, rules, sym}
use Rattle.std.proofs.lemmas.List.{length-append}
use Rattle.r6_engine.specs.declared.runner.due.Due.{Due}
use Rattle.r6_engine.specs.runner.Together.{all_due}
use Rattle.r6_engine.proofs.RunnerLemmas.Together.{more-due}
use Rattle.r6_engine.proofs.runner.gathered.Gathered.gather.Goals as goal

pub loop-due-preserved : goal.loop-due-preserved
loop-due-preserved c =
    let waits = c.args.waits in
    let events = c.loop-due.self.events.items in
    let ops = c.loop-due.self.ops.items in
    let rest = c.pop_front.new.self.items in
    let A = all_due waits events ops in
    let first = c.in-Some.ensures.items ∙ ap (λ (d : Due). d ∷ rest) c.in-Ok.ensures.request in
    let many : deque_len c.loop-due.self.ops ≡ length ops = search rules in
    let more = ap length c.push_back_reserved.ensures.items ∙ length-append ops (_ ∷ []) in
    record {
      taken = c.loop-due.invariant.taken ∙ ap (λ xs. A ++ xs) first ∙ sym (append_assoc A (_ ∷ []) rest)
          ∙ ap (λ xs. xs ++ rest) (sym (more-due waits events ops c.in-Ok.event c.in-Ok.op c.loop-due.self.numbered))
          ∙ (λ i. all_due waits (sym c.push_back_reserved-in-Ok.ensures.items i) (sym c.push_back_reserved.ensures.items i) ++ rest);
      few = (let test = c.loop-due-test.true in let len = c.len.ensures in omega (arith, many, more, test, len));
      room = c.pop_front.ensures.capacity ∙ c.loop-due.invariant.room;
    }
