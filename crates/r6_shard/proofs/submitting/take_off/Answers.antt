use Rattle.std.proofs.Common.{◌∙◌, drop, ap}
use Rattle.std.proofs.lemmas.List.{drop-drop}
use Rattle.r6_shard.proofs.submitting.take_off.Goals as goal

pub loop-preserved : goal.loop-preserved
loop-preserved c =
    let all = c.args.events.now.items in
    let at = c.loop.counter in
    record {
      rest = c.pop_front.ensures.rest ∙ ap (drop 1) c.loop.invariant.rest ∙ drop-drop 1 at all;
      room = c.pop_front.ensures.capacity ∙ c.loop.invariant.room;
    }
