use Rattle.std.proofs.Common.{◌≡◌, ℕ, Bool, List, vec_capacity, ap, arith, subst}
use Rattle.std.specs.Prelude.{◌%◌}
use Rattle.std.proofs.Math.Nat.{mod-lt}
use Rattle.r6_exchange.specs.declared.pass.ShardPass.{ShardPass}
use Rattle.r6_exchange.specs.declared.task.Part.{Part}
use Rattle.r6_exchange.specs.declared.task.WorkerTask.TheVariants.{TakeUp}
use Rattle.r6_engine.specs.remote.Lines.{Lines, lines_of, having_sent_to}
use Rattle.r6_engine.specs.remote.Remotes.{usize_max}
use Rattle.r6_engine.proofs.RemoteLemmas.Lines.{same-length}
use Rattle.r6_engine.proofs.RemoteLemmas.Calls.{part-room, taken-up, taken-in}
use Rattle.r6_engine.proofs.remote.remote.Remote.take_up.Goals as goal

pub send_surely-requires-clause-within : goal.send_surely-requires-clause-within
send_surely-requires-clause-within g c =
    let r = c.args.self.now in
    let same = same-length g.D.BlockDevice.told g.D.BlockDevice.promised r.exchanges.now r.passes.items c.requires.holds.ends in
    let some = c.requires.holds.kept.some in
    let low = mod-lt c.args.part.slot {m = c.len.result} (omega (arith, some)) in
    omega (arith, low, same)

pub send_surely-requires-clause-room : goal.send_surely-requires-clause-room
send_surely-requires-clause-room g c =
    let r = c.args.self.now in
    let some = c.requires.holds.kept.some in
    let low = mod-lt c.args.part.slot {m = c.len.result} (omega (arith, some)) in
    part-room g.D.BlockDevice.told g.D.BlockDevice.promised r.exchanges.now r.passes.items r.passes.items r.labels.items (vec_capacity r.labels) r.stop
    r.under_way usize_max (c.args.part.slot % c.len.result) c.args.part c.goes_on-steady.result r.held c.requires.holds.kept (omega arith) (omega (arith, low))

-- the task says whether its worker goes on
sent-if : (D : Type 0) (old new : List (ShardPass D)) (part : Part D) (worker : ℕ) {said wanted : Bool} → said ≡ wanted
    → lines_of new ≡ having_sent_to (lines_of old) worker (TakeUp (record { part = part; steady = said }))
    → lines_of new ≡ having_sent_to (lines_of old) worker (TakeUp (record { part = part; steady = wanted }))
sent-if D old new part worker same sent =
    subst (λ b. lines_of new ≡ having_sent_to (lines_of old) worker (TakeUp (record { part = part; steady = b }))) same sent

pub returns-clause-holds : goal.returns-clause-holds
returns-clause-holds g c =
    let r = c.args.self.now in
    record {
      ends = c.send_surely.ensures.ends;
      kept = taken-up g.D.BlockDevice.told g.D.BlockDevice.promised r.exchanges.now r.passes.items c.send_surely.new.passes.items r.labels.items
          (vec_capacity r.labels) r.stop r.under_way usize_max c.len.result c.args.part r.held c.push_reserved.new.self.items
          (vec_capacity c.push_reserved.new.self) c.requires.apart c.requires.holds.kept (omega arith)
          (sent-if g.row.D.Denot r.passes.items c.send_surely.new.passes.items c.args.part (c.args.part.slot % c.len.result) c.goes_on-steady.ensures c.send_surely.ensures.sent)
          c.push_reserved.ensures.items c.push_reserved.ensures.capacity;
    }

pub returns-clause-taken : goal.returns-clause-taken
returns-clause-taken g c =
    let r = c.args.self.now in
    taken-in g.D.BlockDevice.told g.D.BlockDevice.promised r.exchanges.now r.passes.items c.send_surely.new.passes.items r.labels.items
    (vec_capacity r.labels) r.stop r.under_way usize_max c.len.result c.args.part r.held c.push_reserved.new.self.items
    (vec_capacity c.push_reserved.new.self) c.requires.apart c.requires.holds.kept (omega arith)
    (sent-if g.row.D.Denot r.passes.items c.send_surely.new.passes.items c.args.part (c.args.part.slot % c.len.result) c.goes_on-steady.ensures c.send_surely.ensures.sent)
    c.push_reserved.ensures.items c.push_reserved.ensures.capacity

pub returns-clause-workers : goal.returns-clause-workers
returns-clause-workers g c = ap (λ (lines : Lines g.row.D.Denot). lines.workers) c.send_surely.ensures.sent
