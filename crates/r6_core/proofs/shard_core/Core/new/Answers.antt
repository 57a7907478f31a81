use Rattle.std.proofs.Common.{refl, ap, ◌∙◌}
use Rattle.r6_frames.specs.Slots.{states_of}
use Rattle.r6_core.proofs.Fresh.{fresh_start, none_waiting, states_before}
use Rattle.r6_core.proofs.shard_core.Core.new.Goals as goal

pub returns-in-Ok : goal.returns-in-Ok
returns-in-Ok c =
    let fresh = c.in-Ok.ensures.fresh in
    record {
      made = record {
        geometry = fresh.1;
        number = fresh.2;
        start = fresh_start c.in-Ok.state c.args.geometry c.args.shard c.args.snapshot.now fresh.0 fresh.1 fresh.2
            (λ slot. ap (λ slots. states_of slots slot) fresh.3 ∙ states_before c.devices_at.result slot ∙ c.devices_at.ensures slot);
        waiting = none_waiting c.in-Ok.state fresh.0;
        replies = c.in-Ok.ensures.order;
        unanswered = c.in-Ok.ensures.unanswered;
      };
      window = refl;
    }
