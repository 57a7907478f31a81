use Rattle.std.proofs.Common.{◌∙◌, refl, sym, subst, arith}
use Rattle.r6_health.specs.Histories.{held, IsLegal}
use Rattle.r6_shard.specs.Looked.{IsNumbered}
use Rattle.r6_shard.specs.Whole.{AreAllFirst}
use Rattle.r6_shard.proofs.Firsts.{first-seen}
use Rattle.r6_shard.proofs.Numbered.{attaches-later, held-numbered}
use Rattle.r6_health.specs.Passes.{view_of}
use Rattle.r6_shard.proofs.Going.{has-seen}
use Rattle.r6_shard.specs.Own.{AreOwn}
use Rattle.r6_shard.proofs.Own.{failure-later}
use Rattle.r6_shard.proofs.Whole.{saw-later}
use Rattle.r6_shard.specs.Looking.{ReplacesOne}
use Rattle.r6_shard.proofs.Replacements.{replaces-one}
use Rattle.r6_shard.proofs.shard.Shard.read.Goals as goal

pub invariant_of-self-clause-own : goal.invariant_of-self-clause-own
invariant_of-self-clause-own g c =
    let old = c.args.self.now in
    subst (AreOwn old.number old.named) (sym c.read.ensures.looks.grows.mine) old.own

pub invariant_of-self-clause-pass_name : goal.invariant_of-self-clause-pass_name
invariant_of-self-clause-pass_name g c = c.read.ensures.looks.grows.name ∙ c.args.self.now.pass_name

pub invariant_of-self-clause-no_names : goal.invariant_of-self-clause-no_names
invariant_of-self-clause-no_names g c = c.read.ensures.looks.grows.next ∙ c.args.self.now.no_names

pub invariant_of-self-clause-failure : goal.invariant_of-self-clause-failure
invariant_of-self-clause-failure g c =
    let old = c.args.self.now in
    let looks = c.read.ensures.looks in
    failure-later old.core (view_of old.pass) (view_of c.read.new.pass) old.entries.items looks.grows.same_start looks.grows.seen old.failure

pub invariant_of-self-clause-saw : goal.invariant_of-self-clause-saw
invariant_of-self-clause-saw g c =
    let old = c.args.self.now in
    let looks = c.read.ensures.looks in
    saw-later old.saw_out (view_of old.pass) (view_of c.read.new.pass) looks.grows.same_start looks.grows.seen old.saw

pub returns-clause-course : goal.returns-clause-course
returns-clause-course g c = λ s ops x.
    let old = c.args.self.now in
    has-seen s old.core (view_of old.pass) (view_of c.read.new.pass) old.last.attaches old.named (g.P.Performs.performer old.parts).out
    (g.P.Performs.performer old.parts).tells old.asked.items old.entries.items ops
    c.read.ensures.looks x

pub returns-clause-kept : goal.returns-clause-kept
returns-clause-kept g c =
    record { core = refl; parts = refl; asked = refl; entries = refl; room = refl; named = refl; last = refl; saw_out = refl }

pub invariant_of-self-clause-seen : goal.invariant_of-self-clause-seen
invariant_of-self-clause-seen g c =
    let looks = c.read.ensures.looks in
    let more = attaches-later (view_of c.args.self.now.pass) (view_of c.read.new.pass) looks.grows.same_start looks.grows.seen in
    let before = c.args.self.now.seen in
    omega arith

pub returns-clause-numbered : goal.returns-clause-numbered
returns-clause-numbered g c =
    let v = view_of c.read.new.pass in
    let r = c.args.register.now in
    subst IsNumbered (sym c.read.ensures.snapshot)
    (subst (λ s. IsNumbered (held s v.seen)) (sym c.read.ensures.pass.same_start) (held-numbered r.slots r.shards r.lost v.seen))

pub returns-clause-first : goal.returns-clause-first
returns-clause-first g c = λ were.
    let v = view_of c.read.new.pass in
    let r = c.args.register.now in
    subst AreAllFirst (sym c.read.ensures.snapshot) (first-seen r.slots r.shards r.lost v c.read.ensures.pass.same_start were)

pub returns-clause-replaces : goal.returns-clause-replaces
returns-clause-replaces g c =
    let v = view_of c.read.new.pass in
    let r = c.args.register.now in
    let same = c.read.ensures.pass.same_start in
    subst ReplacesOne (sym c.read.ensures.snapshot)
    (subst (λ s. ReplacesOne (held s v.seen)) (sym same)
    (replaces-one r.slots r.shards r.lost v.seen (subst (λ s. IsLegal s v.seen) same c.read.ensures.looks.legal)))
