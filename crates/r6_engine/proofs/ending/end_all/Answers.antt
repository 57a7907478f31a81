use Rattle.std.proofs.Common.{List}
use Rattle.std.specs.List.{AllZip}
use Rattle.r6_health.specs.Passes.{view_of}
use Rattle.r6_shard.specs.declared.performs.Performs.{Ghosts}
use Rattle.r6_engine.specs.declared.runner.runner.Runner.{Runner}
use Rattle.r6_engine.specs.runner.Going.{TakesNoMore}
use Rattle.r6_engine.specs.runner.Learning.{KeepsAllElse}
use Rattle.r6_engine.specs.runner.Runners.{IsOver}
use Rattle.r6_engine.proofs.RunnerLemmas.Going.{none-same, none-then}
use Rattle.r6_engine.proofs.EachShard.{less, still-all, zip-same, zip-then}
use Rattle.r6_engine.proofs.Passes.{back_on, none_back}
use Rattle.r6_engine.proofs.ending.end_all.Goals as goal

-- the shards went on, and after it no more changed than what their passes know
goes-still : {P D : Type 0} {g : Ghosts P} (xs ys zs : List (Runner P D g)) → AllZip TakesNoMore xs ys → AllZip KeepsAllElse ys zs
    → AllZip TakesNoMore xs zs
goes-still xs ys zs goes kept =
    zip-then TakesNoMore TakesNoMore TakesNoMore none-then xs ys zs goes (less KeepsAllElse TakesNoMore (λ a b k. k.goes) ys zs kept)

pub loop-init : goal.loop-init
loop-init g c = (
  tt,
  tt,
  record {
    pass = c.requires.pass;
    passes = c.requires.runners;
    back = none_back (view_of c.args.pass.now);
    goes = zip-same TakesNoMore none-same c.args.runners.now;
  },
)

pub loop-preserved : goal.loop-preserved
loop-preserved g c =
    let before = c.loop.invariant.2 in
    let olds = c.args.runners.now in
    let round = c.go_round_all-left.new.runners in
    let looked = c.look-snapshot.new.runners in
    let news = c.holds_still-still.new.runners in
    let first = view_of c.args.pass.now in
    let mid = view_of c.look-snapshot.new.pass in
    let last = view_of c.holds_still-still.new.pass in (
      tt,
      tt,
      record {
        pass = c.holds_still-still.ensures.pass;
        passes = c.holds_still-still.ensures.runners;
        back = back_on first mid last (back_on first (view_of c.loop.pass) mid before.back c.look-snapshot.ensures.back)
            c.holds_still-still.ensures.back;
        goes = goes-still olds looked news
            (goes-still olds round looked
            (zip-then TakesNoMore TakesNoMore TakesNoMore none-then olds c.loop.runners round before.goes c.go_round_all-left.ensures.goes)
            c.look-snapshot.ensures.kept)
            c.holds_still-still.ensures.kept;
      },
    )

pub returns-then-is_settled-clause-back : goal.returns-then-is_settled-clause-back
returns-then-is_settled-clause-back g c =
    let first = view_of c.args.pass.now in
    let mid = view_of c.look-snapshot.new.pass in
    back_on first mid (view_of c.holds_still-still.new.pass) (back_on first (view_of c.loop.pass) mid c.loop.invariant.2.back c.look-snapshot.ensures.back)
    c.holds_still-still.ensures.back

pub returns-then-is_settled-clause-snapshot : goal.returns-then-is_settled-clause-snapshot
returns-then-is_settled-clause-snapshot g c = (c.holds_still-still.ensures.still c.if-still.true, c.holds_still-still.ensures.has.legal)

pub returns-then-is_settled-clause-goes : goal.returns-then-is_settled-clause-goes
returns-then-is_settled-clause-goes g c =
    let olds = c.args.runners.now in
    let round = c.go_round_all-left.new.runners in
    let looked = c.look-snapshot.new.runners in
    goes-still olds looked c.holds_still-still.new.runners
    (goes-still olds round looked
    (zip-then TakesNoMore TakesNoMore TakesNoMore none-then olds c.loop.runners round c.loop.invariant.2.goes c.go_round_all-left.ensures.goes)
    c.look-snapshot.ensures.kept)
    c.holds_still-still.ensures.kept

pub returns-then-is_settled-clause-over : goal.returns-then-is_settled-clause-over
returns-then-is_settled-clause-over g c =
    let looked = c.look-snapshot.new.runners in
    still-all KeepsAllElse IsOver (λ x y k. k.over) looked c.holds_still-still.new.runners c.holds_still-still.ensures.kept
    (still-all KeepsAllElse IsOver (λ x y k. k.over) c.go_round_all-left.new.runners looked c.look-snapshot.ensures.kept
    (c.go_round_all-left.ensures.over (c.is_nothing.ensures.0 c.if-is_nothing.true)))

pub returns-then-is_settled-clause-passes : goal.returns-then-is_settled-clause-passes
returns-then-is_settled-clause-passes g c =
    let olds = c.args.runners.now in
    let round = c.go_round_all-left.new.runners in
    let looked = c.look-snapshot.new.runners in
    let first = view_of c.args.pass.now in
    let mid = view_of c.look-snapshot.new.pass in
    record {
      last = mid;
      between = looked;
      goes = goes-still olds round looked
          (zip-then TakesNoMore TakesNoMore TakesNoMore none-then olds c.loop.runners round c.loop.invariant.2.goes c.go_round_all-left.ensures.goes)
          c.look-snapshot.ensures.kept;
      over = still-all KeepsAllElse IsOver (λ x y k. k.over) round looked c.look-snapshot.ensures.kept
          (c.go_round_all-left.ensures.over (c.is_nothing.ensures.0 c.if-is_nothing.true));
      kept = c.holds_still-still.ensures.kept;
      back = back_on first (view_of c.loop.pass) mid c.loop.invariant.2.back c.look-snapshot.ensures.back;
      has = c.look-snapshot.ensures.has;
      known = c.holds_still-still.ensures.known;
      held = c.look-snapshot.ensures.snapshot;
    }

pub returns-then-is_settled-clause-in_sync : goal.returns-then-is_settled-clause-in_sync
returns-then-is_settled-clause-in_sync g c = c.is_settled.ensures.in_sync c.if-is_settled.true

pub returns-then-is_settled-clause-looked : goal.returns-then-is_settled-clause-looked
returns-then-is_settled-clause-looked g c = c.is_settled.ensures.looked c.if-is_settled.true

pub returns-then-is_settled-clause-rebuilt : goal.returns-then-is_settled-clause-rebuilt
returns-then-is_settled-clause-rebuilt g c = c.is_settled.ensures.rebuilt c.if-is_settled.true
