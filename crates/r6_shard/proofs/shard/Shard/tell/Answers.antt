use Rattle.std.proofs.Common.{◌≡◌, ◌≤◌, ◌∙◌, ap, refl, sym, subst}
use Rattle.r6_health.specs.declared.history.View.{View}
use Rattle.r6_health.specs.Histories.{calls_by, held}
use Rattle.r6_shard.specs.Own.{AreOwn, SeesFailure}
use Rattle.r6_shard.specs.Whole.{SawWithPass}
use Rattle.r6_shard.proofs.shard.Shard.tell.Goals as goal

pub invariant_of-self-clause-own : goal.invariant_of-self-clause-own
invariant_of-self-clause-own g c =
    let old = c.args.self.now in
    subst (λ v. AreOwn old.number old.named v.mine) (sym c.learn.ensures.same) old.own

pub invariant_of-self-clause-calls : goal.invariant_of-self-clause-calls
invariant_of-self-clause-calls g c =
    subst (λ v. calls_by v.name v.seen ≡ v.mine) (sym c.learn.ensures.same) c.args.self.now.calls

pub invariant_of-self-clause-failure : goal.invariant_of-self-clause-failure
invariant_of-self-clause-failure g c =
    let old = c.args.self.now in
    subst (λ v. SeesFailure old.core v old.entries.items) (sym c.learn.ensures.same) old.failure

pub invariant_of-self-clause-saw : goal.invariant_of-self-clause-saw
invariant_of-self-clause-saw g c =
    let old = c.args.self.now in
    subst (SawWithPass old.saw_out) (sym c.learn.ensures.same) old.saw

pub invariant_of-self-clause-seen : goal.invariant_of-self-clause-seen
invariant_of-self-clause-seen g c =
    let old = c.args.self.now in
    subst (λ v. old.last.attaches ≤ (held v.start v.seen).attaches) (sym c.learn.ensures.same) old.seen

pub invariant_of-self-clause-pass_name : goal.invariant_of-self-clause-pass_name
invariant_of-self-clause-pass_name g c = ap (λ (v : View). v.name) c.learn.ensures.same ∙ c.args.self.now.pass_name

pub invariant_of-self-clause-no_names : goal.invariant_of-self-clause-no_names
invariant_of-self-clause-no_names g c = ap (λ (v : View). v.next) c.learn.ensures.same ∙ c.args.self.now.no_names

pub returns-clause-kept : goal.returns-clause-kept
returns-clause-kept g c =
    record {
      rest = record { core = refl; parts = refl; asked = refl; entries = refl; room = refl; named = refl; last = refl; saw_out = refl };
      view = c.learn.ensures.same;
    }
