use Rattle.std.proofs.Common.{◌<◌, arith, length, subst, sym}
use Rattle.std.proofs.lemmas.List.Elements.{All-set}
use Rattle.std.proofs.lemmas.Slice.Zip.{AllZip-long}
use Rattle.r6_health.specs.Passes.{IsPassOf}
use Rattle.r6_engine.specs.runner.Going.{TakesNoMore}
use Rattle.r6_engine.specs.runner.Runners.{IsOver}
use Rattle.r6_engine.proofs.RunnerLemmas.Going.{none-same, none-then}
use Rattle.r6_engine.proofs.EachShard.{all-below, below-set, zip-same, zip-set}
use Rattle.r6_engine.proofs.ending.go_round_all.Goals as goal

pub loop-k-init : goal.loop-k-init
loop-k-init g c = record {
  passes = c.requires;
  goes = zip-same TakesNoMore none-same c.args.runners.now;
  over = λ yes i d less. absurd (omega (arith, less));
}

pub go_round-requires : goal.go_round-requires
go_round-requires g c =
    let long = AllZip-long TakesNoMore c.args.runners.now c.loop-k.runners c.loop-k.invariant.goes in
    let test = c.loop-k-test.true in
    c.loop-k.invariant.passes c.loop-k.k c.index-runners-k.result (omega (arith, long, test))

pub loop-k-preserved : goal.loop-k-preserved
loop-k-preserved g c =
    let register = c.args.register.now in
    let olds = c.loop-k.runners in
    let k = c.loop-k.k in
    let old = c.index-runners-k.result in
    let new = c.go_round.new.self in
    let before = c.loop-k.invariant in
    let now = c.go_round.ensures in
    let long = AllZip-long TakesNoMore c.args.runners.now olds before.goes in
    let test = c.loop-k-test.true in
    let within : k < length olds = omega (arith, long, test) in
    record {
      passes = All-set (λ r. IsPassOf register r.shard.pass) olds k new now.pass before.passes;
      goes = zip-set TakesNoMore c.args.runners.now olds k old new before.goes within c.index-runners-k.is
          (λ x y. none-then x old new y (subst (λ r. TakesNoMore r new) (sym c.index-runners-k.is) now.goes));
      over = λ all.
          let both = c.and-left.ensures.nothing.0 all in
          below-set IsOver olds k new within (before.over both.0) (now.over both.1);
    }

pub returns-clause-over : goal.returns-clause-over
returns-clause-over g c = λ all.
    let long = AllZip-long TakesNoMore c.args.runners.now c.loop-k.runners c.loop-k.invariant.goes in
    let most = c.loop-k-test.false in
    all-below IsOver c.loop-k.runners c.loop-k.k (omega (arith, long, most)) (c.loop-k.invariant.over all)
