use Rattle.std.proofs.Common.{◌≡◌, ◌∙◌, ◌++◌, Err, refl, ap, rules}
use Rattle.std.proofs.lemmas.List.{append-nil}
use Rattle.r6_health.specs.Passes.{view_of}
use Rattle.r6_health.specs.Views.{brought_by}
use Rattle.r6_health.specs.declared.refusal.Refusal.TheVariants.{Contended}
use Rattle.r6_engine.proofs.FeedLemmas.Told.{brought_since, came_between_bringing, no_call_yet}
use Rattle.r6_engine.specs.feed.Feeds.{call_of}
use Rattle.r6_engine.proofs.feed.calling.bring.Goals as goal

pub loop-init : goal.loop-init
loop-init g c = (tt, tt, c.requires, refl, no_call_yet c.args.register.now c.args.pass.now c.requires)

pub loop-preserved : goal.loop-preserved
loop-preserved g c =
    let before = c.loop.invariant in
    let now = c.bring_once.ensures in
    let is : c.bring_once.result ≡ Err Contended = cc in (
      tt,
      tt,
      now.pass,
      now.own ∙ ap (λ result. (view_of c.loop.pass).mine ++ brought_by (call_of c.args.how c.args.slot) result) is
          ∙ append-nil (view_of c.loop.pass).mine ∙ before.3,
      came_between_bringing (view_of c.args.pass.now) (view_of c.loop.pass) (view_of c.bring_once.new.pass)
          (call_of c.args.how c.args.slot) c.bring_once.result
          before.4 now.answered is,
    )

pub returns-in_default-clause-pass : goal.returns-in_default-clause-pass
returns-in_default-clause-pass g c = c.bring_once.ensures.pass

pub returns-in_default-clause-answered : goal.returns-in_default-clause-answered
returns-in_default-clause-answered g c =
    brought_since (view_of c.args.pass.now) (view_of c.loop.pass) (view_of c.bring_once.new.pass)
    (call_of c.args.how c.args.slot) _
    c.loop.invariant.4 (search rules)
