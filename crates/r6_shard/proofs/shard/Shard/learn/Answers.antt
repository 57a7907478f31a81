use Rattle.std.proofs.Common.{◌≡◌, ◌≤◌, ◌∙◌, ap, sym, subst}
use Rattle.r6_health.specs.Histories.{calls_by, held}
use Rattle.r6_health.specs.Passes.{view_of}
use Rattle.r6_health.specs.declared.history.View.{View}
use Rattle.r6_shard.specs.Own.{AreOwn, SeesFailure}
use Rattle.r6_shard.specs.Courses.{HasCourse}
use Rattle.r6_shard.specs.Whole.{SawWithPass}
use Rattle.r6_shard.proofs.Learned.{failure-learned, has-learned, else-kept}
use Rattle.r6_shard.proofs.shard.Shard.learn.Goals as goal

pub invariant_of-self-clause-own : goal.invariant_of-self-clause-own
invariant_of-self-clause-own g c =
    let old = c.args.self.now in
    subst (λ v. AreOwn old.number old.named v.mine) (sym c.learn.ensures.learned) old.own

pub invariant_of-self-clause-calls : goal.invariant_of-self-clause-calls
invariant_of-self-clause-calls g c =
    subst (λ v. calls_by v.name v.seen ≡ v.mine) (sym c.learn.ensures.learned) c.args.self.now.calls

pub invariant_of-self-clause-failure : goal.invariant_of-self-clause-failure
invariant_of-self-clause-failure g c =
    let old = c.args.self.now in
    subst (λ v. SeesFailure old.core v old.entries.items) (sym c.learn.ensures.learned)
    (failure-learned old.core (view_of old.pass) (view_of c.args.pass.now) old.entries.items old.failure)

pub invariant_of-self-clause-saw : goal.invariant_of-self-clause-saw
invariant_of-self-clause-saw g c =
    let old = c.args.self.now in
    subst (SawWithPass old.saw_out) (sym c.learn.ensures.learned) old.saw

pub invariant_of-self-clause-seen : goal.invariant_of-self-clause-seen
invariant_of-self-clause-seen g c =
    let old = c.args.self.now in
    subst (λ v. old.last.attaches ≤ (held v.start v.seen).attaches) (sym c.learn.ensures.learned) old.seen

pub invariant_of-self-clause-pass_name : goal.invariant_of-self-clause-pass_name
invariant_of-self-clause-pass_name g c = ap (λ (v : View). v.name) c.learn.ensures.learned ∙ c.args.self.now.pass_name

pub invariant_of-self-clause-no_names : goal.invariant_of-self-clause-no_names
invariant_of-self-clause-no_names g c = ap (λ (v : View). v.next) c.learn.ensures.learned ∙ c.args.self.now.no_names

pub returns-clause-advances : goal.returns-clause-advances
returns-clause-advances g c =
    let old = c.args.self.now in
    let new = c.read.new.self in
    let own = g.P.Performs.performer old.parts in
    let v = view_of old.pass in
    let other = view_of c.args.pass.now in
    let learned = c.learn.ensures.learned in
    let kept = c.read.ensures.kept in
    else-kept old new
    (record {
      core = kept.core;
      parts = kept.parts;
      asked = kept.asked;
      entries = kept.entries;
      room = kept.room;
      named = kept.named;
      last = kept.last;
      saw_out = kept.saw_out;
    })
    (λ s ops x.
    c.read.ensures.course s ops
    (subst (λ y. HasCourse s old.core y old.last.attaches old.named own.out own.tells old.asked.items old.entries.items ops) (sym learned)
    (has-learned s old.core v other old.last.attaches old.named own.out own.tells old.asked.items old.entries.items ops x)))
