use Rattle.std.proofs.Common.{◌∙◌, List, false, ap, map, subst, sym}
use Rattle.std.specs.List.{AllZip}
use Rattle.std.proofs.lemmas.Bool.{false≢true}
use Rattle.std.proofs.lemmas.Result.{IfOk-weaker}
use Rattle.r6_exchange.specs.declared.exchange.Exchange.{Exchange}
use Rattle.r6_exchange.specs.Workers.{IsWorker}
use Rattle.r6_engine.specs.feed.Events.{events_of}
use Rattle.r6_engine.specs.declared.crew.Site.{Site}
use Rattle.r6_engine.specs.Crews.{HasRoomOf, MeetsAt, StandsAt, StaysAt, exchanges_at}
use Rattle.r6_engine.proofs.Crews.{same-exchanges}
use Rattle.r6_engine.proofs.EachShard.{each_of, zip-then}
use Rattle.r6_engine.proofs.serving.run_as.Goals as goal

pub begin-requires-clause-few : goal.begin-requires-clause-few
begin-requires-clause-few g c = c.requires.few

pub begin-requires-clause-limits : goal.begin-requires-clause-limits
begin-requires-clause-limits g c = c.requires.limits

pub begin-requires-clause-shape : goal.begin-requires-clause-shape
begin-requires-clause-shape g c = c.requires.shape

pub begin-requires-clause-slots : goal.begin-requires-clause-slots
begin-requires-clause-slots g c = c.requires.slots

pub begin-requires-clause-window : goal.begin-requires-clause-window
begin-requires-clause-window g c = c.requires.window

pub begin-requires-clause-events : goal.begin-requires-clause-events
begin-requires-clause-events g c = ap (events_of g.D.BlockDevice.told) c.deref.ensures.value ∙ c.requires.events

pub run_posted-requires-clause-ready : goal.run_posted-requires-clause-ready
run_posted-requires-clause-ready g c κs within =
    let told = g.D.BlockDevice.told in
    let promised = g.D.BlockDevice.promised in
    each_of (StandsAt told promised) (λ post. IsWorker told promised post.exchange.now post.worker)
    (λ e post stands. subst (λ (x : Exchange _). IsWorker told promised x post.worker) (sym stands.0) stands.1)
    (exchanges_at c.begin.new.posting.sites.now) c.begin.new.posting.posts.items c.in_ok-begun.ensures.posts

pub run_posted-requires-clause-begun : goal.run_posted-requires-clause-begun
run_posted-requires-clause-begun g c κs within = (
  c.args.config.now.lost,
  c.args.config.now.window,
  map (λ crew. crew.parts) c.args.crews.items,
  λ shard slot. false,
  c.in_ok-begun.ensures.begun (λ shard slot. false) (λ shard slot crew at goes. absurd (false≢true goes)),
)

pub returns-clause-posts : goal.returns-clause-posts
returns-clause-posts g c =
    let told = g.D.BlockDevice.told in
    let promised = g.D.BlockDevice.promised in
    let posting = c.begin.new.posting in
    IfOk-weaker c.run_posted.result _ _
    (λ r kept. (
      subst (λ (ss : List (Site _)). AllZip (StandsAt told promised) (exchanges_at ss) r.1.posts.items) c.in_ok-begun.ensures.sites
          (same-exchanges told promised (exchanges_at posting.sites.now) posting.posts.items r.1.posts.items c.in_ok-begun.ensures.posts kept.0),
      kept.1 ∙ c.in_ok-begun.ensures.sites,
    ))
    c.run_posted.ensures.posts

pub returns-clause-meets : goal.returns-clause-meets
returns-clause-meets g c =
    let takings = c.in_ok-begun.begun.takings.items in
    IfOk-weaker c.run_posted.result _ _
    (λ r stays. subst (λ (ss : List (Site _)). AllZip MeetsAt ss r.0.runners.items) c.in_ok-begun.ensures.sites
    (zip-then (λ site t. MeetsAt site t.runner) (λ t r. StaysAt t.runner r) MeetsAt (λ site t r meets stay. stay.0 ∙ meets)
    c.begin.new.posting.sites.now takings r.0.runners.items c.in_ok-begun.ensures.meets stays))
    c.run_posted.ensures.stays

pub returns-clause-roomy : goal.returns-clause-roomy
returns-clause-roomy g c =
    let takings = c.in_ok-begun.begun.takings.items in
    IfOk-weaker c.run_posted.result _ _
    (λ r stays. zip-then (λ crew t. HasRoomOf crew t.runner) (λ t r. StaysAt t.runner r) HasRoomOf (λ crew t r room stay. stay.1 ∙ room)
    c.args.crews.items takings r.0.runners.items c.in_ok-begun.ensures.roomy stays)
    c.run_posted.ensures.stays

pub returns-clause-run : goal.returns-clause-run
returns-clause-run g c steady are = c.run_posted.ensures.run _ _ _ steady (c.in_ok-begun.ensures.begun steady are)
