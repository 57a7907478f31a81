use Rattle.std.proofs.Common.{◌<◌, arith, length, slice_index_or, subst, sym}
use Rattle.std.proofs.lemmas.List.Elements.{All-set}
use Rattle.std.proofs.lemmas.Slice.Zip.{AllZip-long}
use Rattle.r6_health.specs.Passes.{IsPassOf, view_of}
use Rattle.r6_engine.specs.Passes.{IsHeard}
use Rattle.r6_engine.specs.runner.Learning.{KeepsAllElse}
use Rattle.r6_engine.proofs.EachShard.{all-below, below-set, zip-same, zip-set}
use Rattle.r6_engine.proofs.Passes.{heard_of, heard_on, none_back, one_back}
use Rattle.r6_engine.proofs.RunnerLemmas.Learning.{else-same, else-then}
use Rattle.r6_engine.proofs.ending.learn_from_all.Goals as goal

pub loop-k-init : goal.loop-k-init
loop-k-init g c = record {
  pass = c.requires.pass;
  passes = c.requires.runners;
  back = none_back (view_of c.args.pass.now);
  kept = zip-same KeepsAllElse else-same c.args.runners.now;
  heard = λ i d less. absurd (omega (arith, less));
}

pub tell-requires-clause-own : goal.tell-requires-clause-own
tell-requires-clause-own g c =
    let long = AllZip-long KeepsAllElse c.args.runners.now c.loop-k.runners c.loop-k.invariant.kept in
    let test = c.loop-k-test.true in
    c.loop-k.invariant.passes c.loop-k.k c.index-runners-k.result (omega (arith, long, test))

pub loop-k-preserved : goal.loop-k-preserved
loop-k-preserved g c =
    let register = c.args.register.now in
    let olds = c.loop-k.runners in
    let k = c.loop-k.k in
    let old = c.index-runners-k.result in
    let new = c.tell.new.self in
    let before = c.loop-k.invariant in
    let now = c.tell.ensures in
    let other = view_of new.shard.pass in
    let v = view_of c.loop-k.pass in
    let w = view_of c.tell.new.pass in
    let long = AllZip-long KeepsAllElse c.args.runners.now olds before.kept in
    let test = c.loop-k-test.true in
    let within : k < length olds = omega (arith, long, test) in
    record {
      pass = now.other;
      passes = All-set (λ r. IsPassOf register r.shard.pass) olds k new now.own before.passes;
      back = one_back (view_of c.args.pass.now) v other w before.back now.told;
      kept = zip-set KeepsAllElse c.args.runners.now olds k old new before.kept within c.index-runners-k.is
          (λ x y. else-then x old new y (subst (λ r. KeepsAllElse r new) (sym c.index-runners-k.is) now.kept.rest));
      heard = below-set (IsHeard register w) olds k new within
          (λ i d less. heard_on register v other w (slice_index_or olds i d) (before.heard i d less) now.told)
          (heard_of register v w new now.own now.told);
    }

pub returns-clause-heard : goal.returns-clause-heard
returns-clause-heard g c =
    let long = AllZip-long KeepsAllElse c.args.runners.now c.loop-k.runners c.loop-k.invariant.kept in
    let most = c.loop-k-test.false in
    all-below (IsHeard c.args.register.now (view_of c.loop-k.pass)) c.loop-k.runners c.loop-k.k (omega (arith, long, most)) c.loop-k.invariant.heard
