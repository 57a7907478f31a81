use Rattle.std.proofs.Common.{◌≡◌, length, refl, subst, sym}
use Rattle.std.specs.List.{AllZip}
use Rattle.r6_health.specs.Histories.{start_losing}
use Rattle.r6_health.specs.Registers.{starting}
use Rattle.r6_engine.specs.Openings.{caller_of}
use Rattle.r6_dev.specs.Promises.{no_promise}
use Rattle.r6_offline.specs.Parts.{tells_nothing}
use Rattle.r6_engine.specs.feed.Events.{AreWhole, events_of}
use Rattle.r6_engine.specs.declared.serving.Config.{Config}
use Rattle.r6_engine.specs.Answered.{AreReplies}
use Rattle.r6_engine.specs.ServedArrays.{HasServedArray}
use Rattle.r6_engine.specs.Stops.{is_steady}
use Rattle.r6_run.specs.Runs.{IsAsked}
use Rattle.r6_run.proofs.Given.{are_whole}
use Rattle.r6_run.proofs.Giving.{as_many_given}
use Rattle.r6_run.proofs.running.served.Goals as goal

pub serve-requires-clause-whole : goal.serve-requires-clause-whole
serve-requires-clause-whole g c lives bounds =
    subst (λ (how : Config). AreWhole how.geometry.shards c.in_ok-events.events.items) (sym c.serving_of.ensures.is)
    (are_whole c.args.config.now.geometry c.as_slice.result.now c.in_ok-events.events.items c.in_ok-events.ensures.ok)

pub serve-requires-clause-parts : goal.serve-requires-clause-parts
serve-requires-clause-parts g c lives bounds =
    let shape = c.args.config.now.geometry in
    subst (λ (how : Config). length c.in_ok-parts.parts.items ≡ how.geometry.shards) (sym c.serving_of.ensures.is)
    (as_many_given shape.shards shape.slots c.in_ok-parts.ensures.ok.0 c.in_ok-parts.parts.items c.in_ok-parts.ensures.ok.2)

pub returns-clause-ok : goal.returns-clause-ok
returns-clause-ok g c old new printed =
    let shape = c.args.config.now.geometry in
    let served = c.in_ok-serve.field-0 in
    let events = c.in_ok-events.events.items in
    record {
      devices = c.in_ok-parts.ensures.ok.0;
      opened = c.in_ok-parts.ensures.ok.1;
      parts = c.in_ok-parts.parts.items;
      given = c.in_ok-parts.ensures.ok.2;
      events = events;
      asked = subst (λ script. AllZip (IsAsked shape) script events) c.as_slice.ensures.value c.in_ok-events.ensures.ok;
      served = served;
      done = subst (λ (how : Config). HasServedArray tells_nothing (λ _. no_promise) (is_steady how.stop how.workers) how.geometry events (starting how.lost)
          (caller_of (start_losing how.geometry.slots how.geometry.shards how.lost)) c.in_ok-parts.parts.items served) c.serving_of.ensures.is
          c.in_ok-serve.ensures.served;
      replied = subst (λ (how : Config). AreReplies how.geometry (events_of tells_nothing events) served.ledgers.items served.replies.items)
          c.serving_of.ensures.is c.in_ok-serve.ensures.replies;
      printed = printed;
      ends = refl;
    }
