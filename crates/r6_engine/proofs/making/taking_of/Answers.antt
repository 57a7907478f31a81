use Rattle.std.proofs.Common.{◌≡◌, ◌≤◌, ◌∙◌, ◌++◌, ℕ, [], ap, length, subst, sym}
use Rattle.std.proofs.lemmas.List.Sorted.{Contains-permutation, IsPermutation-append_left, IsPermutation-trans}
use Rattle.r6_engine.specs.lists.Events.{tasks_of}
use Rattle.r6_shard.specs.Parts.{labels_of, part_in}
use Rattle.r6_shard.proofs.Promises.{begins-sound}
use Rattle.r6_layout.specs.Shape.{Shape}
use Rattle.r6_shard.specs.Here.{BeginsHere, HasUsed}
use Rattle.r6_engine.specs.declared.runner.runner.Runner.{Runner}
use Rattle.r6_engine.specs.runner.Parts.{HasAll, all_parts, labels_in}
use Rattle.r6_engine.specs.runner.Counted.{HasCounted, rows_of_shard}
use Rattle.r6_engine.specs.runner.Runners.{HasDone}
use Rattle.r6_engine.specs.runner.Waits.{HasAwaited}
use Rattle.r6_shard.specs.Sound.{StartsSound}
use Rattle.r6_engine.specs.runner.Sound.{IsSoundIn}
use Rattle.r6_engine.proofs.making.taking_of.Goals as goal

pub returns-clause-begins : goal.returns-clause-begins
returns-clause-begins g c = λ parts taken.
    let told = g.D.BlockDevice.told in
    let shape = g.L.Events.shape in
    let events = g.L.Events.events in
    let labels = (g.P.Performs.performer c.args.performer).labels in
    let runner = c.in_ok-runner.runner in
    let done = c.in_ok-runner.ensures.begins shape events in
    let own : c.new-2.result.consumer.shard ≡ c.args.place.number = ap (λ consumer. consumer.shard) c.new-2.ensures.1 ∙ c.requires.consumer.0 in
    record {
      none_taken = ap (λ consumer. consumer.numbers.items) c.new-2.ensures.1 ∙ c.requires.consumer.1;
      place = ap (λ runner. runner.shard.core.shard) c.new-2.ensures.0 ∙ c.in_ok-runner.ensures.place ∙ sym own;
      done = subst (λ r. HasDone shape events shape c.new-2.result.consumer.shard c.args.start.now (part_in told parts.parts.items) [] r)
          (sym c.new-2.ensures.0)
          (subst (λ s. HasDone shape events s c.new-2.result.consumer.shard c.args.start.now (part_in told parts.parts.items) [] runner)
          c.requires.shape
          (subst (λ n. HasDone shape events c.args.place.geometry n c.args.start.now (part_in told parts.parts.items) [] runner) (sym own)
          (subst (λ before. HasDone shape events c.args.place.geometry c.args.place.number c.args.start.now before [] runner) taken.tells done)));
      counted = subst (λ r. HasCounted (rows_of_shard shape c.new-2.result.consumer.shard) r) (sym c.new-2.ensures.0)
          (subst (λ s. HasCounted (rows_of_shard s c.new-2.result.consumer.shard) runner) c.requires.shape
          (subst (λ n. HasCounted (rows_of_shard c.args.place.geometry n) runner) (sym own) c.in_ok-runner.ensures.counted));
      awaited = subst (HasAwaited events) (sym c.new-2.ensures.0) (c.in_ok-runner.ensures.awaited events);
      all = subst (HasAll (labels_of parts.parts.items)) (sym c.new-2.ensures.0)
          (IsPermutation-trans (labels_of parts.parts.items ++ labels_in runner.handed.items) (labels ++ labels_in runner.handed.items)
          ((g.P.Performs.performer runner.shard.parts).labels ++ labels_of runner.others.items)
          (IsPermutation-append_left (labels_in runner.handed.items) (labels_of parts.parts.items) labels taken.labels)
          c.in_ok-runner.ensures.own.all);
      here = λ slot begun. subst (λ (r : Runner _ _ _). HasUsed (g.P.Performs.performer r.shard.parts).labels slot r.shard.core) (sym c.new-2.ensures.0)
          (c.in_ok-runner.ensures.own.here slot
          (subst (λ (s : Shape). BeginsHere labels s.slots c.args.start.now slot) (sym c.requires.shape)
          (λ below sync. Contains-permutation (labels_of parts.parts.items) labels (slot, 0) taken.labels (begun below sync))));
      window_is = ap (λ (r : Runner _ _ _). r.shard.core.window) c.new-2.ensures.0 ∙ c.in_ok-runner.ensures.own.window_is;
    }

pub returns-clause-sound : goal.returns-clause-sound
returns-clause-sound g c = λ parts taken slot steady x.
    let told = g.D.BlockDevice.told in
    let promised = g.D.BlockDevice.promised in
    let shape = g.L.Events.shape in
    let start = c.args.start.now in
    let number = c.new-2.result.consumer.shard in
    let items = parts.parts.items in
    let own : number ≡ c.args.place.number = ap (λ consumer. consumer.shard) c.new-2.ensures.1 ∙ c.requires.consumer.0 in
    subst (λ r. IsSoundIn shape number slot r) (sym c.new-2.ensures.0)
    (subst (λ n. IsSoundIn shape n slot c.in_ok-runner.runner) (sym own)
    (subst (λ s. IsSoundIn s c.args.place.number slot c.in_ok-runner.runner) c.requires.shape
    (c.in_ok-runner.ensures.sound slot
    (begins-sound told promised c.args.place.geometry c.args.place.number slot start items (g.P.Performs.performer c.args.performer)
    taken.tells (λ generation. taken.promises slot generation steady) steady
    (subst (λ s. StartsSound promised s c.args.place.number start slot items) (sym c.requires.shape)
    (subst (λ n. StartsSound promised shape n start slot items) own x))))))

pub new-requires-clause-limits : goal.new-requires-clause-limits
new-requires-clause-limits g c = c.requires.limits

pub new-requires-clause-number : goal.new-requires-clause-number
new-requires-clause-number g c = c.requires.number

pub new-requires-clause-window : goal.new-requires-clause-window
new-requires-clause-window g c = c.requires.window

pub new-requires-clause-no_attach : goal.new-requires-clause-no_attach
new-requires-clause-no_attach g c = c.requires.no_attach

pub new-requires-clause-unfailed : goal.new-requires-clause-unfailed
new-requires-clause-unfailed g c = c.requires.unfailed

pub new-requires-clause-pass : goal.new-requires-clause-pass
new-requires-clause-pass g c = c.requires.pass

pub new-requires-2-clause-fresh : goal.new-requires-2-clause-fresh
new-requires-2-clause-fresh g c = (c.in_ok-runner.ensures.room.2, c.requires.consumer.1)

pub new-requires-2-clause-room : goal.new-requires-2-clause-room
new-requires-2-clause-room g c =
    let shape = g.L.Events.shape in
    let events = g.L.Events.events in
    subst (λ (n : ℕ). length (tasks_of shape c.args.consumer.shard events) ≤ n) (sym c.in_ok-runner.ensures.room.0)
    (subst (λ (n : ℕ). length (tasks_of shape n events) ≤ c.args.room.tasks) (sym c.requires.consumer.0) c.requires.room.0)

pub new-requires-2-clause-attaches : goal.new-requires-2-clause-attaches
new-requires-2-clause-attaches g c =
    let shape = g.L.Events.shape in
    let events = g.L.Events.events in
    subst (λ (n : ℕ). length (all_parts shape events c.args.consumer.shard) ≤ n) (sym c.in_ok-runner.ensures.room.1)
    (subst (λ (n : ℕ). length (all_parts shape events n) ≤ c.args.room.attaches) (sym c.requires.consumer.0) c.requires.room.1)

pub new-requires-clause-parts_room : goal.new-requires-clause-parts_room
new-requires-clause-parts_room g c = c.requires.parts_room

pub new-requires-clause-holds : goal.new-requires-clause-holds
new-requires-clause-holds g c = c.requires.holds

pub new-requires-clause-idle : goal.new-requires-clause-idle
new-requires-clause-idle g c = c.requires.idle

pub returns-clause-made : goal.returns-clause-made
returns-clause-made g c = (
  c.new-2.ensures.1,
  ap (λ runner. runner.shard.pass) c.new-2.ensures.0 ∙ c.in_ok-runner.ensures.pass,
  ap (λ (r : Runner _ _ _). r.shard.parts) c.new-2.ensures.0 ∙ c.in_ok-runner.ensures.performer,
)
