use Rattle.std.proofs.Common.{◌≤◌, ◌++◌, ◌∷◌, [], ℕ, ap, arith, length, subst, sym, ◌∙◌}
use Rattle.std.specs.List.{AllZip}
use Rattle.std.proofs.lemmas.List.{length_push}
use Rattle.std.proofs.lemmas.Slice.Zip.{AllZip-long, all_zipped_more}
use Rattle.r6_exchange.specs.Workers.{IsWorker}
use Rattle.r6_engine.specs.remote.Remotes.{AreFresh, AreShardPasses}
use Rattle.r6_engine.proofs.Crews.{ends-long, ends-more, fresh-more}
use Rattle.r6_engine.proofs.crew.hands_of.Goals as goal

pub push_reserved-requires-in-loop-number : goal.push_reserved-requires-in-loop-number
push_reserved-requires-in-loop-number g c =
    let kept = c.loop-number.invariant in
    let long = ends-long g.D.BlockDevice.told g.D.BlockDevice.promised c.loop-number.exchanges.items c.loop-number.ends.items kept.ends in
    let len = c.loop-number.ends.ok.0 in
    let test = c.loop-number-test.true in
    let many = kept.as_many in
    let room = kept.ends_room in
    omega (arith, long, len, test, many, room)

pub push_reserved-requires-in-loop-number-2 : goal.push_reserved-requires-in-loop-number-2
push_reserved-requires-in-loop-number-2 g c =
    let kept = c.loop-number.invariant in
    let long = AllZip-long (IsWorker g.D.BlockDevice.told g.D.BlockDevice.promised) c.loop-number.exchanges.items c.loop-number.workers.items kept.workers in
    let len = c.loop-number.workers.ok.0 in
    let test = c.loop-number-test.true in
    let many = kept.as_many in
    let room = kept.workers_room in
    omega (arith, long, len, test, many, room)

pub loop-number-preserved : goal.loop-number-preserved
loop-number-preserved g c =
    let told = g.D.BlockDevice.told in
    let promised = g.D.BlockDevice.promised in
    let kept = c.loop-number.invariant in
    let exchanges = c.loop-number.exchanges.items in
    let ends = c.loop-number.ends.items in
    let exchange = c.in_ok-exchange.exchange in
    let end = c.in_ok-exchange.end in
    let made = c.in_ok-exchange.ensures in
    let pushed = c.push_reserved.ensures.items in
    let long = ap length pushed ∙ length_push exchanges exchange in
    let many = kept.as_many in
    record {
      ends = subst (λ es. AreShardPasses told promised es c.push_reserved-in-loop-number.new.self.items) (sym pushed)
          (subst (AreShardPasses told promised (exchanges ++ exchange ∷ [])) (sym c.push_reserved-in-loop-number.ensures.items)
          (ends-more told promised exchanges ends exchange end kept.ends made.pass));
      fresh = subst (AreFresh c.args.room) (sym c.push_reserved-in-loop-number.ensures.items)
          (fresh-more c.args.room ends end kept.fresh made.fresh);
      workers = subst (λ es. AllZip (IsWorker told promised) es c.push_reserved-in-loop-number-2.new.self.items) (sym pushed)
          (subst (AllZip (IsWorker told promised) (exchanges ++ exchange ∷ [])) (sym c.push_reserved-in-loop-number-2.ensures.items)
          (all_zipped_more (IsWorker told promised) exchanges c.loop-number.workers.items exchange c.in_ok-exchange.worker kept.workers made.worker));
      as_many = omega (arith, long, many);
      exchanges_room = subst (λ (n : ℕ). c.args.config.now.workers ≤ n) (sym c.push_reserved.ensures.capacity) kept.exchanges_room;
      ends_room = subst (λ (n : ℕ). c.args.config.now.workers ≤ n) (sym c.push_reserved-in-loop-number.ensures.capacity) kept.ends_room;
      workers_room = subst (λ (n : ℕ). c.args.config.now.workers ≤ n) (sym c.push_reserved-in-loop-number-2.ensures.capacity) kept.workers_room;
    }

pub returns-clause-as_many : goal.returns-clause-as_many
returns-clause-as_many g c =
    let many = c.loop-number.invariant.as_many in
    let test = c.loop-number-test.false in
    let end = c.loop-number.auto.number-end in
    omega (arith, many, test, end)
