use Rattle.std.proofs.Common.{vec_capacity, arith}
use Rattle.r6_engine.specs.remote.Remotes.{usize_max}
use Rattle.r6_engine.proofs.RemoteLemmas.Lines.{same-length}
use Rattle.r6_engine.proofs.RemoteLemmas.Calls.{counted-down, received-more, received-one}
use Rattle.r6_engine.proofs.remote.remote.Remote.receive_of.Goals as goal

pub receive-requires-clause-within : goal.receive-requires-clause-within
receive-requires-clause-within g c =
    let r = c.args.self.now in
    let same = same-length g.D.BlockDevice.told g.D.BlockDevice.promised r.exchanges.now r.passes.items c.requires.remote.ends in
    omega (arith, same)

pub returns-clause-remote : goal.returns-clause-remote
returns-clause-remote g c =
    let r = c.args.self.now in
    record {
      ends = c.in_ok-completion.ensures.ends;
      kept = received-more g.D.BlockDevice.told g.D.BlockDevice.promised r.exchanges.now r.passes.items c.receive.new.passes.items r.labels.items
          (vec_capacity r.labels) r.stop r.under_way usize_max c.args.worker c.in_ok-completion.completion r.held c.in_ok-completion.ensures.ends
          c.requires.remote.kept c.requires.within c.in_ok-completion.ensures.received c.one_less-self.result
          (counted-down r.under_way c.one_less-self.result c.one_less-self.ensures);
    }

pub returns-clause-received : goal.returns-clause-received
returns-clause-received g c =
    let r = c.args.self.now in
    received-one g.D.BlockDevice.told g.D.BlockDevice.promised r.exchanges.now r.passes.items c.receive.new.passes.items r.labels.items
    (vec_capacity r.labels) r.stop r.under_way usize_max c.args.worker c.in_ok-completion.completion r.held c.in_ok-completion.ensures.ends
    c.requires.remote.kept c.requires.within c.in_ok-completion.ensures.received
