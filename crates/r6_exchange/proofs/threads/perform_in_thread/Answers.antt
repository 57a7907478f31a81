use Rattle.std.proofs.Common.{ℕ, sym, subst, arith}
use Rattle.r6_exchange.specs.Deliveries.{HasRoom}
use Rattle.r6_exchange.specs.Exchanges.{sent_by, received_by, taken_by, given_by}
use Rattle.r6_exchange.proofs.Joins.{honest-met, held-met}
use Rattle.r6_exchange.proofs.threads.perform_in_thread.Goals as goal

pub join-shard-requires-after_bounds : goal.join-shard-requires-after_bounds
join-shard-requires-after_bounds g c κs within =
    let s = c.in_ok-exchange.ensures.shard in
    let w = c.in_ok-exchange.ensures.worker in
    let room = c.in_ok-completions.ensures.capacity in (
      (
        s.0,
        ((s.1, s.2, c.in_ok-completions.ensures.items), (subst (λ (r : ℕ). HasRoom r c.args.tasks.items) (sym s.3) c.requires.room, omega arith)),
      ),
      c.in_ok-worker.ensures.worker c.in_ok-exchange.exchange w.0 w.1 w.2,
    )

pub returns-clause-honest : goal.returns-clause-honest
returns-clause-honest g c =
    let first = c.join-shard.ensures.first in
    honest-met g.D.BlockDevice.told g.D.BlockDevice.promised c.args.tasks.items (sent_by c.join-shard.result.0.0) c.join-shard.result.0.1.items
    (received_by c.join-shard.result.0.0) first.1.0 first.1.1.0 first.0.honest

pub returns-clause-held : goal.returns-clause-held
returns-clause-held g c =
    let first = c.join-shard.ensures.first in
    let second = c.join-shard.ensures.second in
    let w = c.join-shard.result.1 in
    held-met g.D.BlockDevice.told g.D.BlockDevice.promised c.args.tasks.items (sent_by c.join-shard.result.0.0) (taken_by w.pass) second.1.0
    c.join-shard.result.0.1.items (received_by c.join-shard.result.0.0) (given_by w.pass) w.parts.items c.requires.endless
    first.1.0 first.1.1.0 c.settle.ensures.taken c.settle.ensures.received second.1.1 second.0.pass.honest second.0.holds
