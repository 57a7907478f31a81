use Rattle.std.proofs.Common.{◌-◌, inl, inr, ap, arith, sym, ◌∙◌}
use Rattle.std.proofs.lemmas.Bool.{eqb-true, false≢true, leb-true}
use Rattle.r6_engine.specs.declared.runner.due.Due.{Due}
use Rattle.r6_engine.proofs.RunnerLemmas.Awaiting.{at-first, none_of, open-is}
use Rattle.r6_engine.proofs.runner.runner.Runner.may_begin.Goals as goal

pub returns-in_default-clause-none : goal.returns-in_default-clause-none
returns-in_default-clause-none g c = λ may. absurd (false≢true may)

pub returns-in_default-clause-few : goal.returns-in_default-clause-few
returns-in_default-clause-few g c = λ may. absurd (false≢true may)

pub returns-in_default-clause-follows : goal.returns-in_default-clause-follows
returns-in_default-clause-follows g c = λ may. absurd (false≢true may)

pub returns-then-is_some-clause-none : goal.returns-then-is_some-clause-none
returns-then-is_some-clause-none g c = λ may. absurd (false≢true may)

pub returns-then-is_some-clause-few : goal.returns-then-is_some-clause-few
returns-then-is_some-clause-few g c = λ may. absurd (false≢true may)

pub returns-then-is_some-clause-follows : goal.returns-then-is_some-clause-follows
returns-then-is_some-clause-follows g c = λ may. absurd (false≢true may)

pub returns-then-open-eq0-clause-none : goal.returns-then-open-eq0-clause-none
returns-then-open-eq0-clause-none g c = λ may. none_of c.args.self.now.scrub (sym c.is_some.ensures ∙ c.if-is_some.false)

pub returns-then-open-eq0-clause-few : goal.returns-then-open-eq0-clause-few
returns-then-open-eq0-clause-few g c = λ may.
    let shard = c.args.self.now.shard in
    let unanswered = open-is c.len.result c.len-2.result _ _ shard.core.unanswered (c.len.ensures ∙ shard.asked.ok.0) (c.len-2.ensures ∙ shard.entries.ok.0)
    shard.counted in
    omega (arith, unanswered, c.if-open-eq0.true)

pub returns-then-open-eq0-clause-follows : goal.returns-then-open-eq0-clause-follows
returns-then-open-eq0-clause-follows g c = λ may due at.
    let shard = c.args.self.now.shard in
    let unanswered = open-is c.len.result c.len-2.result _ _ shard.core.unanswered (c.len.ensures ∙ shard.asked.ok.0) (c.len-2.ensures ∙ shard.entries.ok.0)
    shard.counted in
    inl (omega (arith, unanswered, c.if-open-eq0.true, shard.counted))

pub returns-then-due-self-clause-none : goal.returns-then-due-self-clause-none
returns-then-due-self-clause-none g c = λ may. none_of c.args.self.now.scrub (sym c.is_some.ensures ∙ c.if-is_some.false)

pub returns-then-due-self-clause-few : goal.returns-then-due-self-clause-few
returns-then-due-self-clause-few g c = λ may.
    let shard = c.args.self.now.shard in
    let unanswered = open-is c.len.result c.len-2.result _ _ shard.core.unanswered (c.len.ensures ∙ shard.asked.ok.0) (c.len-2.ensures ∙ shard.entries.ok.0)
    shard.counted in
    let few = leb-true (c.len.result - c.len-2.result) 64 may in
    omega (arith, unanswered, few)

pub returns-then-due-self-clause-follows : goal.returns-then-due-self-clause-follows
returns-then-due-self-clause-follows g c = λ may due at.
    let front = c.in-Some.due.now in
    inr (ap (λ (d : Due). d.waits) (at-first c.args.self.now.due.items due front c.in-Some.ensures.lookup at) ∙ c.if-due-self.true)

pub returns-else-due-self-clause-none : goal.returns-else-due-self-clause-none
returns-else-due-self-clause-none g c = λ may. absurd (c.if-due-self.false (eqb-true c.in-Some.due.now.waits c.args.self.now.waits may))

pub returns-else-due-self-clause-few : goal.returns-else-due-self-clause-few
returns-else-due-self-clause-few g c = λ may. absurd (c.if-due-self.false (eqb-true c.in-Some.due.now.waits c.args.self.now.waits may))

pub returns-else-due-self-clause-follows : goal.returns-else-due-self-clause-follows
returns-else-due-self-clause-follows g c = λ may. absurd (c.if-due-self.false (eqb-true c.in-Some.due.now.waits c.args.self.now.waits may))

pub returns-in-Check : goal.returns-in-Check
returns-in-Check g c =
    let shard = c.args.self.now.shard in
    let unanswered = open-is c.len.result c.len-2.result _ _ shard.core.unanswered (c.len.ensures ∙ shard.asked.ok.0) (c.len-2.ensures ∙ shard.entries.ok.0)
    shard.counted in
    record {
      none = λ may. none_of c.args.self.now.scrub (sym c.is_some.ensures ∙ c.if-is_some.false);
      few = λ may. (let none = eqb-true (c.len.result - c.len-2.result) 0 may in omega (arith, unanswered, none));
      follows = λ may due at. inl (let none = eqb-true (c.len.result - c.len-2.result) 0 may in omega (arith, unanswered, none, shard.counted));
    }
