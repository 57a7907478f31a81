use Rattle.std.proofs.Common.{◌≡◌, ◌<◌, ◌∙◌, arith, length, refl, slice_index_or, subst, sym, get_or-set_other}
use Rattle.std.proofs.lemmas.List.Elements.{All-set}
use Rattle.std.proofs.lemmas.Slice.Zip.{AllZip-long}
use Rattle.r6_health.specs.declared.history.View.{View}
use Rattle.r6_health.specs.Passes.{IsPassOf, view_of}
use Rattle.r6_health.specs.Views.{joined, Looks}
use Rattle.r6_engine.specs.Passes.{IsKnownTo, IsSeen}
use Rattle.r6_engine.specs.runner.Learning.{KeepsAllElse}
use Rattle.r6_engine.proofs.EachShard.{all-below, below-more, zip-same, zip-set}
use Rattle.r6_engine.proofs.Passes.{known_to}
use Rattle.r6_engine.proofs.RunnerLemmas.Learning.{else-same, else-then}
use Rattle.r6_engine.proofs.ending.teach_all.Goals as goal

pub loop-k-init : goal.loop-k-init
loop-k-init g c = record {
  pass = c.requires.pass;
  same = refl;
  passes = c.requires.runners;
  kept = zip-same KeepsAllElse else-same c.args.runners.now;
  known = λ i d less. absurd (omega (arith, less));
  rest = λ i d more. refl;
}

pub learn-requires-clause-own : goal.learn-requires-clause-own
learn-requires-clause-own g c =
    let long = AllZip-long KeepsAllElse c.args.runners.now c.loop-k.runners c.loop-k.invariant.kept in
    let test = c.loop-k-test.true in
    c.loop-k.invariant.passes c.loop-k.k c.index-runners-k.result (omega (arith, long, test))

pub loop-k-preserved : goal.loop-k-preserved
loop-k-preserved g c =
    let register = c.args.register.now in
    let first = view_of c.args.pass.now in
    let firsts = c.args.runners.now in
    let olds = c.loop-k.runners in
    let k = c.loop-k.k in
    let old = c.index-runners-k.result in
    let new = c.learn.new.self in
    let before = c.loop-k.invariant in
    let now = c.learn.ensures in
    let long = AllZip-long KeepsAllElse firsts olds before.kept in
    let test = c.loop-k-test.true in
    let within : k < length olds = omega (arith, long, test) in
    let was : old ≡ slice_index_or firsts k old = c.index-runners-k.is ∙ before.rest k old (omega arith) in
    let here = slice_index_or olds k old in
    let looks = subst (λ r. Looks (joined (view_of r.shard.pass) first) (view_of new.shard.pass)) (sym c.index-runners-k.is)
    (subst (λ (v : View). Looks (joined (view_of here.shard.pass) v) (view_of new.shard.pass)) before.same now.looks) in
    record {
      pass = now.other;
      same = now.same ∙ before.same;
      passes = All-set (λ r. IsPassOf register r.shard.pass) olds k new now.own before.passes;
      kept = zip-set KeepsAllElse firsts olds k old new before.kept within c.index-runners-k.is
          (λ x y. else-then x old new y (subst (λ r. KeepsAllElse r new) (sym c.index-runners-k.is) now.kept));
      known = below-more (IsKnownTo first) firsts k old (omega (arith, within, long)) was before.known
          (known_to first old new (subst (IsSeen first) (sym was) (c.requires.seen k old (omega (arith, within, long)))) looks);
      rest = λ i d more. get_or-set_other olds k i new d (λ same. omega (arith, same, more)) ∙ before.rest i d (omega (arith, more));
    }

pub returns-clause-known : goal.returns-clause-known
returns-clause-known g c =
    let most = c.loop-k-test.false in
    all-below (IsKnownTo (view_of c.args.pass.now)) c.args.runners.now c.loop-k.k (omega (arith, most)) c.loop-k.invariant.known
