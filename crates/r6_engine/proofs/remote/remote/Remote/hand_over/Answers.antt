use Rattle.std.proofs.Common.{vec_capacity, arith}
use Rattle.std.specs.Prelude.{◌%◌}
use Rattle.std.proofs.Math.Nat.{mod-lt}
use Rattle.r6_engine.specs.remote.Remotes.{usize_max}
use Rattle.r6_engine.proofs.RemoteLemmas.Lines.{same-length}
use Rattle.r6_engine.proofs.RemoteLemmas.Calls.{command-room, handed-over, handed-same}
use Rattle.r6_engine.proofs.remote.remote.Remote.hand_over.Goals as goal

pub send-requires-clause-within : goal.send-requires-clause-within
send-requires-clause-within g c =
    let r = c.args.self.now in
    let same = same-length g.D.BlockDevice.told g.D.BlockDevice.promised r.exchanges.now r.passes.items c.requires.remote.ends in
    let some = c.requires.remote.kept.some in
    let low = mod-lt c.args.command.slot {m = c.len.result} (omega (arith, some)) in
    omega (arith, low, same)

pub send-requires-clause-room : goal.send-requires-clause-room
send-requires-clause-room g c =
    let r = c.args.self.now in
    command-room g.D.BlockDevice.told g.D.BlockDevice.promised r.exchanges.now r.passes.items r.passes.items r.labels.items (vec_capacity r.labels) r.stop r.under_way usize_max
    (c.args.command.slot % c.len.result) c.args.command c.requires.remote.ends

pub returns-in-Ok-clause-remote : goal.returns-in-Ok-clause-remote
returns-in-Ok-clause-remote g c =
    let r = c.args.self.now in
    record {
      ends = c.in-Ok.ensures.ends;
      kept = handed-over g.D.BlockDevice.told g.D.BlockDevice.promised r.exchanges.now r.passes.items c.send.new.passes.items r.labels.items
          (vec_capacity r.labels) r.stop r.under_way usize_max c.len.result c.args.command r.held c.requires.remote.ends c.requires.remote.kept (omega arith)
          c.in-Ok.ensures.sent c.requires.empty;
    }

pub returns-in-Ok-clause-performer : goal.returns-in-Ok-clause-performer
returns-in-Ok-clause-performer g c =
    let r = c.args.self.now in
    handed-same g.D.BlockDevice.told g.D.BlockDevice.promised r.exchanges.now r.passes.items c.send.new.passes.items r.labels.items
    (vec_capacity r.labels) r.stop r.under_way usize_max c.len.result c.args.command r.held c.requires.remote.ends c.requires.remote.kept (omega arith)
    c.in-Ok.ensures.sent c.requires.empty
