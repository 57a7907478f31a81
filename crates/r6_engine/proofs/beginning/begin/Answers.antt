use Rattle.std.proofs.Common.{ℕ, [], ◌^◌, ◌<◌, ◌≤◌, ◌∙◌, ap, length, subst, sym, vec_capacity}
use Rattle.std.proofs.lemmas.List.{length-map}
use Rattle.std.specs.List.{AllZip}
use Rattle.r6_layout.specs.Shape.{Shape}
use Rattle.r6_world.specs.Registers.{Snapshot}
use Rattle.r6_health.specs.declared.history.View.{View}
use Rattle.r6_health.specs.Histories.{start_losing}
use Rattle.r6_health.specs.Passes.{IsPassOf, view_of}
use Rattle.r6_health.specs.Registers.{starting}
use Rattle.r6_health.specs.Views.{first_of}
use Rattle.r6_engine.specs.feed.Feeds.{AreAt}
use Rattle.r6_engine.specs.Named.{BeginsSound}
use Rattle.r6_engine.specs.NewQueues.{HaveBegun}
use Rattle.r6_engine.specs.Openings.{having_given}
use Rattle.r6_engine.specs.Serves.{Begins}
use Rattle.r6_engine.proofs.Crews.{zip-of-map}
use Rattle.r6_engine.proofs.NewQueues.{begun-none}
use Rattle.r6_engine.proofs.beginning.begin.Goals as goal

pub takings_of-requires-clause-pass : goal.takings_of-requires-clause-pass
takings_of-requires-clause-pass g c = c.in-Ok.ensures.pass

pub takings_of-requires-clause-first : goal.takings_of-requires-clause-first
takings_of-requires-clause-first g c =
    let known = c.in-Ok.ensures.first in
    record {
      slots = ap (λ (v : View). v.start.slots) known ∙ ap (λ (s : Shape). s.slots) c.requires.shape;
      shards = ap (λ (v : View). v.start.shards) known ∙ ap (λ (s : Shape). s.shards) c.requires.shape;
      began = ap (λ (v : View). v.start.snapshot) known ∙ sym c.start-start.ensures;
      view = known ∙ ap first_of (sym (ap (λ (v : View). v.start) known));
    }

pub returns-clause-begun : goal.returns-clause-begun
returns-clause-begun g c steady are =
    let told = g.D.BlockDevice.told in
    let promised = g.D.BlockDevice.promised in
    let L = g.L.Events in
    let lost = c.args.config.now.lost in
    let window = c.args.config.now.window in
    let crews = c.args.crews.items in
    let takings = c.in_ok-takings.takings.items in
    let shape = c.requires.shape in
    let first = c.in-Ok.ensures.first in
    let start = c.in-Ok.ensures.pass.same_start in
    let lines = c.in_ok-takings.ensures.lines in
    let shards = c.shards.ensures.value ∙ ap (λ (s : Shape). s.shards) shape in
    let began = c.in_ok-takings.ensures.pass.same_start ∙ sym start ∙ ap (λ (v : View). v.start) first
    ∙ ap (λ (s : Shape). start_losing s.slots s.shards lost) shape in
    record {
      pass = subst (IsPassOf c.in-Ok.register) (sym c.in_ok-feed.ensures.begins.1) c.in_ok-takings.ensures.pass;
      first = ap view_of c.in_ok-feed.ensures.begins.1 ∙ c.in_ok-takings.ensures.named.view
          ∙ ap (λ s. having_given L.shape.shards (first_of s)) began;
      none_handed = c.in_ok-feed.ensures.begins.0;
      producers = subst (λ ps. AreAt L.shape L.events c.takings_of.new.lines.queues.items 0 ps.items) (sym c.in_ok-feed.ensures.producers)
          (record { shards = lines.begun.as_many ∙ lines.count; each = lines.begun.each });
      as_many = length-map crews (λ crew. crew.parts) ∙ c.requires.crews.whole;
      begins = zip-of-map (λ crew. crew.parts) (λ p t. Begins told L.shape L.events (starting lost) window p t.consumer.shard
          t.consumer.numbers.items t.runner) crews takings
          (subst (λ start. AllZip (λ crew t. Begins told L.shape L.events start window crew.parts t.consumer.shard
          t.consumer.numbers.items t.runner) crews takings) c.start-start.ensures c.in_ok-takings.ensures.begins);
      sound = zip-of-map (λ crew. crew.parts) (λ p t. BeginsSound promised steady L.shape (starting lost) p t.consumer.shard t.runner) crews takings
          (subst (λ start. AllZip (λ crew t. BeginsSound promised steady L.shape start crew.parts t.consumer.shard t.runner) crews takings)
          c.start-start.ensures (c.in_ok-takings.ensures.sound steady are));
      numbered = c.in_ok-takings.ensures.numbered;
      passes = c.in_ok-takings.ensures.passes;
      consumers = c.in_ok-takings.ensures.consumers;
      slots = sym (ap (λ s. s.slots) start) ∙ ap (λ (v : View). v.start.slots) first ∙ ap (λ (s : Shape). s.slots) shape;
      shards = sym (ap (λ s. s.shards) start) ∙ ap (λ (v : View). v.start.shards) first ∙ ap (λ (s : Shape). s.shards) shape;
      no_runner = c.in_ok-made.ensures.runners.0;
      runners_room = subst (λ (n : ℕ). n ≤ vec_capacity c.in_ok-made.made.runners) shards c.in_ok-made.ensures.runners.1;
      queues = lines.count;
      rests = c.in_ok-made.ensures.rests ∙ ap length c.deref.ensures.value ∙ c.requires.crews.whole;
    }

pub new-requires-clause-few : goal.new-requires-clause-few
new-requires-clause-few g c = c.requires.few

pub new-requires-clause-slots : goal.new-requires-clause-slots
new-requires-clause-slots g c = subst (λ (s : Shape). c.args.config.now.lost < 2 ^ s.slots) (sym c.requires.shape) c.requires.slots

pub start-start-requires-clause-few : goal.start-start-requires-clause-few
start-start-requires-clause-few g c = c.requires.few

pub start-start-requires-clause-slots : goal.start-start-requires-clause-slots
start-start-requires-clause-slots g c = subst (λ (s : Shape). c.args.config.now.lost < 2 ^ s.slots) (sym c.requires.shape) c.requires.slots

pub takings_of-requires-clause-crews : goal.takings_of-requires-clause-crews
takings_of-requires-clause-crews g c = c.requires.crews

pub new-requires-2-clause-events : goal.new-requires-2-clause-events
new-requires-2-clause-events g c = c.requires.events

pub new-requires-2-clause-first : goal.new-requires-2-clause-first
new-requires-2-clause-first g c = ap (λ (v : View). v.mine) c.in_ok-takings.ensures.named.view

pub takings_of-requires-clause-opening : goal.takings_of-requires-clause-opening
takings_of-requires-clause-opening g c = record {
  shape_is = c.requires.shape;
  limits = c.requires.limits;
  events_are = c.requires.events;
  window = c.requires.window;
  no_attach = ap (λ (s : Snapshot). s.attaches) c.start-start.ensures;
  unfailed = ap (λ (s : Snapshot). s.failed) c.start-start.ensures;
}

pub takings_of-requires-clause-lines : goal.takings_of-requires-clause-lines
takings_of-requires-clause-lines g c =
    let made = c.in_ok-made.ensures in
    let shards = c.shards.ensures.value ∙ ap (λ (s : Shape). s.shards) c.requires.shape in
    record {
      begun = subst (λ qs. HaveBegun g.L.Events.shape g.L.Events.events qs c.in_ok-made.made.lines.producers.items) (sym made.queues.0)
          (subst (HaveBegun g.L.Events.shape g.L.Events.events []) (sym made.producers.0) (begun-none g.L.Events.shape g.L.Events.events));
      count = ap length made.queues.0;
      room = (
        subst (λ (n : ℕ). n ≤ vec_capacity c.in_ok-made.made.lines.queues) shards made.queues.1,
        subst (λ (n : ℕ). n ≤ vec_capacity c.in_ok-made.made.lines.producers) shards made.producers.1,
      );
    }
