use Rattle.std.proofs.Common.{◌≡◌, ◌≤◌, All, count_by, length, map, vec_capacity}
use Rattle.std.specs.List.{AllZip}
use Rattle.r6_engine.specs.feed.Events.{events_of, brings_device}
use Rattle.r6_engine.specs.Crews.{HasRoom, IsCrew}
use Rattle.r6_engine.proofs.Stops.{HaveStops}
use Rattle.r6_engine.proofs.crew.crews_of.Given as goal

abbrev pub invariant-loop-parts : goal.invariant-loop-parts
invariant-loop-parts g l =
    (goal.iterator-loop-parts g).can_next l.parts-iterator × (goal.iterator-loop-parts g).is_finite l.parts-iterator × record {
      each : AllZip (IsCrew g.D.BlockDevice.told g.D.BlockDevice.promised l.fn.config.workers) l.sites.items l.crews.items;
      parts : map (λ crew. crew.parts) l.crews.items ≡ l.yielded;
      room : All (HasRoom (events_of g.D.BlockDevice.told l.fn.events)) l.crews.items;
      stops : HaveStops l.fn.config.stop l.crews.items;
      attaches : l.attaches ≡ count_by brings_device (events_of g.D.BlockDevice.told l.fn.events);
      sites_room : length l.fn.parts.items ≤ vec_capacity l.sites;
      crews_room : length l.fn.parts.items ≤ vec_capacity l.crews;
    }
