use Rattle.std.proofs.Common.{◌≡◌, ap, ◌∙◌}
use Rattle.r6_health.specs.declared.history.Stage.TheVariants.{Listening}
use Rattle.r6_health.specs.Passes.{view_of}
use Rattle.r6_health.specs.Views.{joined}
use Rattle.r6_health.proofs.Keeps.{listens, takes_in}
use Rattle.r6_health.proofs.cell.learn.Goals as goal

pub listen-told-requires-clause-rule : goal.listen-told-requires-clause-rule
listen-told-requires-clause-rule c = listens c.args.other.now.seat.id (view_of c.args.other.now) c.requires.other_begun

pub take_in-requires-clause-rule : goal.take_in-requires-clause-rule
take_in-requires-clause-rule c =
    let listening : (view_of c.listen-told.result).stage ≡ Listening = ap (λ v. v.stage) c.listen-told.ensures.listener in
    takes_in c.args.pass.now.seat.id (view_of c.args.pass.now) c.listen-told.result.seat.id (view_of c.listen-told.result) c.requires.begun listening

pub returns-clause-joined : goal.returns-clause-joined
returns-clause-joined c = c.take_in.ensures.joined ∙ ap (joined (view_of c.args.pass.now)) c.listen-told.ensures.listener
