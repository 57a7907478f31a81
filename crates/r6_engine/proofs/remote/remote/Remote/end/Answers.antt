use Rattle.std.proofs.Common.{vec_capacity, ◌∙◌, arith}
use Rattle.r6_engine.specs.remote.Lines.{lines_of}
use Rattle.r6_engine.specs.remote.Remotes.{usize_max}
use Rattle.r6_engine.proofs.RemoteLemmas.Lines.{same-length}
use Rattle.r6_engine.proofs.RemoteLemmas.Kept.{ended-same}
use Rattle.r6_engine.proofs.RemoteLemmas.Calls.{end-room}
use Rattle.r6_engine.proofs.RemoteLemmas.Ending.{one-more-told, all-ended, all-answered}
use Rattle.r6_engine.proofs.remote.remote.Remote.end.Goals as goal

pub send_surely-requires-clause-within : goal.send_surely-requires-clause-within
send_surely-requires-clause-within g c =
    let r = c.loop-worker.self in
    let low = c.loop-worker-test.true in
    let until = c.loop-worker.invariant.until in
    let workers = c.loop-worker.invariant.ended.workers in
    let same = same-length g.D.BlockDevice.told g.D.BlockDevice.promised r.exchanges.now r.passes.items c.loop-worker.invariant.ends in
    omega (arith, low, until, workers, same)

pub send_surely-requires-clause-room : goal.send_surely-requires-clause-room
send_surely-requires-clause-room g c =
    let r = c.loop-worker.self in
    end-room g.D.BlockDevice.told g.D.BlockDevice.promised r.exchanges.now r.passes.items r.passes.items r.labels.items (vec_capacity r.labels) r.stop r.under_way usize_max
    c.loop-worker.worker c.loop-worker.invariant.ends

pub loop-worker-preserved : goal.loop-worker-preserved
loop-worker-preserved g c =
    let r = c.loop-worker.self in
    let told = g.D.BlockDevice.told in
    let promised = g.D.BlockDevice.promised in
    record {
      ends = c.send_surely.ensures.ends;
      ended = one-more-told (lines_of c.args.self.now.passes.items) c.loop-worker.worker (lines_of r.passes.items)
          (lines_of c.send_surely.new.passes.items) c.loop-worker.invariant.ended c.send_surely.ensures.sent;
      performer = ended-same told promised (lines_of r.passes.items) (lines_of c.send_surely.new.passes.items) c.loop-worker.worker
          r.labels.items (vec_capacity r.labels) r.stop r.held c.send_surely.ensures.sent
          ∙ c.loop-worker.invariant.performer;
      site = c.loop-worker.invariant.site;
      until = c.loop-worker.invariant.until;
    }

pub returns-clause-answered : goal.returns-clause-answered
returns-clause-answered g c none worker below =
    let first = lines_of c.args.self.now.passes.items in
    let last = lines_of c.loop-worker.self.passes.items in
    let until = c.loop-worker.invariant.until in
    let over = c.loop-worker-test.false in
    all-answered first last c.args.self.now.held (all-ended first c.loop-worker.worker last (omega (arith, until, over)) c.loop-worker.invariant.ended) none worker below
