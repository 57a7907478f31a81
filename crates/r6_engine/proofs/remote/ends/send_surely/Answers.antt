use Rattle.std.proofs.Common.{◌++◌, ◌∷◌, [], sym, ap, subst, ◌∙◌}
use Rattle.r6_exchange.specs.declared.task.WorkerTask.{WorkerTask}
use Rattle.r6_exchange.specs.Deliveries.{HasRoom}
use Rattle.r6_engine.specs.remote.Lines.{Lines, lines_of, having_sent_to}
use Rattle.r6_engine.proofs.remote.ends.send_surely.Goals as goal

pub send-requires-clause-room : goal.send-requires-clause-room
send-requires-clause-room g c =
    subst (λ (t : WorkerTask g.row.D.Denot). HasRoom ((lines_of c.loop.passes.items).limit c.args.worker)
    ((lines_of c.loop.passes.items).sent c.args.worker ++ t ∷ [])) (sym c.loop.invariant.2.same)
    (subst (λ (y : Lines g.row.D.Denot). HasRoom (y.limit c.args.worker) (y.sent c.args.worker ++ c.args.task ∷ []))
    (sym c.loop.invariant.2.lines) c.requires.room)

pub returns-in-Ok-clause-sent : goal.returns-in-Ok-clause-sent
returns-in-Ok-clause-sent g c =
    c.in-Ok.ensures.sent ∙ ap (λ (t : WorkerTask g.row.D.Denot). having_sent_to (lines_of c.loop.passes.items) c.args.worker t) c.loop.invariant.2.same
    ∙ ap (λ (y : Lines g.row.D.Denot). having_sent_to y c.args.worker c.args.task) c.loop.invariant.2.lines
