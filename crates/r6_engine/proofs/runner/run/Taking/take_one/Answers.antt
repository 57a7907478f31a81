use Rattle.std.proofs.Common.{◌≡◌, ℕ, ◌+◌, ◌≤◌, List, ◌∷◌, [], Some, take, length, ap, sym, subst, ◌++◌, ◌∙◌, arith}
use Rattle.std.proofs.lemmas.List.{length-append}
use Rattle.r6_engine.specs.lists.Events.{numbers_of, task, task_at, tasks_of}
use Rattle.r6_engine.specs.lists.Lists.{duty_in}
use Rattle.r6_engine.proofs.ListLemmas.Queues.{no-longer}
use Rattle.r6_engine.specs.runner.Parts.{HaveCome, all_parts}
use Rattle.r6_engine.specs.runner.Runners.{HasDone}
use Rattle.r6_engine.specs.runner.Sound.{IsSoundIn}
use Rattle.r6_engine.proofs.RunnerLemmas.Coming.{part-room}
use Rattle.r6_engine.proofs.RunnerLemmas.Takes.{takes-none}
use Rattle.r6_engine.proofs.runner.run.Taking.take_one.Goals as goal

pub take_up-requires-clause-room : goal.take_up-requires-clause-room
take_up-requires-clause-room g c =
    let old = c.args.self.now in
    let new = c.take.new.consumer in
    let most : length new.numbers.items ≤ length (tasks_of g.L.Events.shape new.shard g.L.Events.events) =
    no-longer g.L.Events.shape g.L.Events.events new.shard new.numbers.items new.taken in
    let more : length new.numbers.items ≡ length old.consumer.numbers.items + 1 =
    ap length c.in-Some.ensures.taken ∙ length-append old.consumer.numbers.items (c.in-Some.item.number ∷ []) in
    let same : length (tasks_of g.L.Events.shape new.shard g.L.Events.events) ≡ length (tasks_of g.L.Events.shape old.consumer.shard g.L.Events.events) =
    ap (λ (s : ℕ). length (tasks_of g.L.Events.shape s g.L.Events.events)) c.take.ensures.shard in
    omega (arith, most, more, same, old.counted, old.room)

pub take_up-requires-clause-part_room : goal.take_up-requires-clause-part_room
take_up-requires-clause-part_room g c =
    let told = g.D.BlockDevice.told in
    let shape = g.L.Events.shape in
    let events = g.L.Events.events in
    let old = c.args.self.now in
    let new = c.take.new.consumer in
    let item = c.in-Some.item in
    let at = subst (λ (s : ℕ). task_at shape s events item.number ≡ Some (task item.number item.waits (duty_in told item.work)))
    c.in-Some.ensures.of_shard item.of_event in
    let first = subst (λ (ns : List ℕ). ns ≡ take (length ns) (numbers_of (tasks_of shape old.consumer.shard events))) c.in-Some.ensures.taken
    (subst (λ (s : ℕ). new.numbers.items ≡ take (length new.numbers.items) (numbers_of (tasks_of shape s events))) c.take.ensures.shard new.taken) in
    part-room shape events old.consumer.shard told old.runner old.consumer.numbers.items item.number item.waits item.work at first
    old.attaches old.parts

pub returns-in_default-clause-took : goal.returns-in_default-clause-took
returns-in_default-clause-took g c =
    let shape = g.L.Events.shape in
    let events = g.L.Events.events in
    let old = c.args.self.now in
    takes-none shape events g.L.Events.sound old.consumer.shard old.consumer.numbers.items c.take.new.consumer.numbers.items old.runner
    (λ geometry snapshot before x. subst (λ ns. HasDone shape events geometry old.consumer.shard snapshot before ns old.runner)
    (sym c.in_default.ensures.taken) x)

pub returns-clause-took : goal.returns-clause-took
returns-clause-took g c =
    let shape = g.L.Events.shape in
    let events = g.L.Events.events in
    let old = c.args.self.now in
    let item = c.in-Some.item in
    let numbers = old.consumer.numbers.items in
    let new = c.take_up.new.self in
    let up = c.take_up.ensures in
    let same = c.in-Some.ensures.of_shard in
    record {
      course = λ geometry snapshot before x.
          subst (λ ns. HasDone shape events geometry old.consumer.shard snapshot before ns new) (sym c.in-Some.ensures.taken)
          (subst (λ (n : ℕ). HasDone shape events geometry n snapshot before (numbers ++ item.number ∷ []) new) same
          (up.course numbers geometry snapshot before
          (subst (λ (n : ℕ). HasDone shape events geometry n snapshot before numbers old.runner) (sym same) x)));
      counted = up.counted;
      awaited = up.awaited;
      own = up.own;
      sound = λ slot promise x.
          subst (λ n. IsSoundIn shape n slot new) same
          (up.sound slot (subst (λ n. g.L.Events.sound n slot) (sym same) promise)
          (subst (λ n. IsSoundIn shape n slot old.runner) (sym same) x));
    }

pub invariant_of-self : goal.invariant_of-self
invariant_of-self g c =
    let old = c.args.self.now in
    record {
      counted = old.counted ∙ sym (ap length c.in_default.ensures.taken);
      room = subst (λ (s : ℕ). length (tasks_of g.L.Events.shape s g.L.Events.events) ≤ old.runner.room) (sym c.take.ensures.shard) old.room;
      parts = subst (λ (s : ℕ). HaveCome g.L.Events.shape g.L.Events.events s c.take.new.consumer.numbers.items old.runner) (sym c.take.ensures.shard)
          (subst (λ (ns : List ℕ). HaveCome g.L.Events.shape g.L.Events.events old.consumer.shard ns old.runner)
          (sym c.in_default.ensures.taken) old.parts);
      attaches = subst (λ (s : ℕ). length (all_parts g.L.Events.shape g.L.Events.events s) ≤ old.runner.attaches) (sym c.take.ensures.shard)
          old.attaches;
    }

pub invariant_of-self-2 : goal.invariant_of-self-2
invariant_of-self-2 g c =
    let old = c.args.self.now in
    let new = c.take.new.consumer in
    let shape = g.L.Events.shape in
    let events = g.L.Events.events in
    let runner = c.take_up.new.self in
    let more : length new.numbers.items ≡ length old.consumer.numbers.items + 1 =
    ap length c.in-Some.ensures.taken ∙ length-append old.consumer.numbers.items (c.in-Some.item.number ∷ []) in
    let same : length (tasks_of g.L.Events.shape new.shard g.L.Events.events) ≡ length (tasks_of g.L.Events.shape old.consumer.shard g.L.Events.events) =
    ap (λ (s : ℕ). length (tasks_of g.L.Events.shape s g.L.Events.events)) c.take.ensures.shard in
    let rooms = c.take_up.ensures.same.room in
    let room = ap (λ (r : ℕ × ℕ). r.0) rooms in
    let of_shard = c.in-Some.ensures.of_shard in
    record {
      counted = c.take_up.ensures.count ∙ ap (λ (n : ℕ). n + 1) old.counted ∙ sym more;
      room = omega (arith, same, room, old.room);
      parts = subst (λ (s : ℕ). HaveCome shape events s new.numbers.items runner) (of_shard ∙ sym c.take.ensures.shard)
          (subst (λ (ns : List ℕ). HaveCome shape events c.in-Some.item.shard ns runner) (sym c.in-Some.ensures.taken)
          (c.take_up.ensures.parts old.consumer.numbers.items
          (subst (λ (s : ℕ). HaveCome shape events s old.consumer.numbers.items old.runner) (sym of_shard) old.parts)));
      attaches = subst (λ (s : ℕ). length (all_parts shape events s) ≤ runner.attaches) (sym c.take.ensures.shard)
          (subst (λ (r : ℕ × ℕ). length (all_parts shape events old.consumer.shard) ≤ r.1) (sym rooms) old.attaches);
    }
