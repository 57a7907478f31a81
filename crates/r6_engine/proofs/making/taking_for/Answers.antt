use Rattle.std.proofs.Common.{arith, ◌+◌, ◌≡◌, ◌∙◌, ◌<◌, ◌≤◌, ℕ, count_by, length, refl, ap, subst, sym}
use Rattle.std.proofs.lemmas.List.{length-map}
use Rattle.std.proofs.lemmas.List.Sorted.{length_permutation}
use Rattle.std.proofs.lemmas.Result.{IfOk-weaker}
use Rattle.r6_layout.specs.Shape.{Shape, IsShape}
use Rattle.r6_world.specs.Registers.{Snapshot}
use Rattle.r6_health.specs.declared.history.View.{View}
use Rattle.r6_health.specs.Passes.{IsPassOf, view_of}
use Rattle.r6_health.specs.Views.{next_name, newcomer}
use Rattle.r6_shard.specs.Beginnings.{IsFirstPass}
use Rattle.r6_shard.specs.Parts.{label_of, labels_of}
use Rattle.r6_engine.specs.lists.Events.{tasks_of}
use Rattle.r6_engine.specs.lists.Queues.{IsConsumerIn}
use Rattle.r6_engine.specs.feed.Events.{events_of, brings_device}
use Rattle.r6_engine.specs.remote.Remotes.{performer_of}
use Rattle.r6_engine.specs.Openings.{HasNamed}
use Rattle.r6_engine.proofs.NewParts.{parts-counted}
use Rattle.r6_engine.proofs.NewQueues.{one-longer}
use Rattle.r6_engine.proofs.making.taking_for.Goals as goal

pub split-pass-requires : goal.split-pass-requires
split-pass-requires g c = c.requires.pass

pub add-requires-clause-next : goal.add-requires-clause-next
add-requires-clause-next g c = sym c.requires.lines.count

pub add-requires-clause-tasks : goal.add-requires-clause-tasks
add-requires-clause-tasks g c =
    let same : c.room_for-room.result.tasks ≡ length (tasks_of g.L.Events.shape c.args.number g.L.Events.events) =
    c.room_for-room.ensures.tasks
    ∙ ap (λ (s : Shape). length (tasks_of s c.args.number (events_of g.D.BlockDevice.told c.args.opening.now.events.now))) c.requires.opening.shape_is
    ∙ ap (λ events. length (tasks_of g.L.Events.shape c.args.number events)) c.requires.opening.events_are in
    omega (arith, same)

pub add-requires-clause-begun : goal.add-requires-clause-begun
add-requires-clause-begun g c = c.requires.lines.begun

pub add-requires-clause-room : goal.add-requires-clause-room
add-requires-clause-room g c =
    let below = c.requires.number in
    let many = c.requires.lines.count in
    let room = c.requires.lines.room in
    let queues = room.0 in
    let producers = room.1 in
    (omega (arith, below, many, queues), omega (arith, below, many, producers))

pub post-requires-clause-crew : goal.post-requires-clause-crew
post-requires-clause-crew g c = c.requires.crew

pub post-requires-clause-room : goal.post-requires-clause-room
post-requires-clause-room g c = let has = c.requires.room in omega (arith, has)

pub post-requires-clause-posts : goal.post-requires-clause-posts
post-requires-clause-posts g c = c.requires.posts

pub taking_of-requires-clause-shape : goal.taking_of-requires-clause-shape
taking_of-requires-clause-shape g c = c.requires.opening.shape_is

pub taking_of-requires-clause-room : goal.taking_of-requires-clause-room
taking_of-requires-clause-room g c =
    let number = c.args.number in
    let same : c.room_for-room.result.tasks ≡ length (tasks_of g.L.Events.shape number g.L.Events.events) =
    c.room_for-room.ensures.tasks
    ∙ ap (λ (s : Shape). length (tasks_of s number (events_of g.D.BlockDevice.told c.args.opening.now.events.now))) c.requires.opening.shape_is
    ∙ ap (λ events. length (tasks_of g.L.Events.shape number events)) c.requires.opening.events_are in
    let attaches = c.room_for-room.ensures.attaches ∙ ap (count_by brings_device) c.requires.opening.events_are in
    let parts = parts-counted g.L.Events.shape g.L.Events.events number in (omega (arith, same), omega (arith, attaches, parts))

pub taking_of-requires-clause-parts_room : goal.taking_of-requires-clause-parts_room
taking_of-requires-clause-parts_room g c =
    let crew = c.args.crew in
    let has = c.requires.room in
    let attaches = c.room_for-room.ensures.attaches ∙ ap (count_by brings_device) c.requires.opening.events_are in
    let labels = length_permutation (labels_of crew.parts.parts.items) c.in_ok-remote.remote.labels.items c.in_ok-remote.ensures.taken.labels in
    let long = length-map crew.parts.parts.items label_of in
    let room = c.in_ok-remote.ensures.room in
    omega (arith, has, attaches, labels, long, room)

pub taking_of-requires-clause-consumer : goal.taking_of-requires-clause-consumer
taking_of-requires-clause-consumer g c = c.in_ok-consumer.ensures.fresh

pub taking_of-requires-clause-limits : goal.taking_of-requires-clause-limits
taking_of-requires-clause-limits g c = subst IsShape (sym c.requires.opening.shape_is) c.requires.opening.limits

pub taking_of-requires-clause-number : goal.taking_of-requires-clause-number
taking_of-requires-clause-number g c = subst (λ (s : Shape). c.args.number < s.shards) (sym c.requires.opening.shape_is) c.requires.number

pub taking_of-requires-clause-window : goal.taking_of-requires-clause-window
taking_of-requires-clause-window g c = c.requires.opening.window

pub taking_of-requires-clause-no_attach : goal.taking_of-requires-clause-no_attach
taking_of-requires-clause-no_attach g c = c.requires.opening.no_attach

pub taking_of-requires-clause-unfailed : goal.taking_of-requires-clause-unfailed
taking_of-requires-clause-unfailed g c = c.requires.opening.unfailed

-- the pass that is split from the calling thread's is that of the next shard
named-next : (shape own : Shape) (snapshot : Snapshot) (number : ℕ) (v w : View) → own ≡ shape → w ≡ newcomer v → HasNamed shape snapshot number v
    → IsFirstPass own number snapshot w
named-next shape own snapshot number v w is new first =
    subst (λ (s : Shape). IsFirstPass s number snapshot w) (sym is) (subst (IsFirstPass shape number snapshot) (sym new)
    (record {
      slots = first.slots;
      shards = first.shards;
      began = first.began;
      seen = ap (λ (u : View). u.seen) first.view;
      mine = refl;
      name = ap next_name first.view;
      next = refl;
    }))

pub taking_of-requires-clause-pass : goal.taking_of-requires-clause-pass
taking_of-requires-clause-pass g c =
    named-next g.L.Events.shape c.args.opening.now.geometry.now c.args.opening.now.start.now c.args.number (view_of c.args.first.now)
    (view_of c.split-pass.result)
    c.requires.opening.shape_is c.split-pass.ensures.newcomer c.requires.first

pub taking_of-requires-clause-holds : goal.taking_of-requires-clause-holds
taking_of-requires-clause-holds g c = c.in_ok-remote.ensures.remote

pub taking_of-requires-clause-idle : goal.taking_of-requires-clause-idle
taking_of-requires-clause-idle g c = c.in_ok-remote.ensures.taken.none_out

pub returns-clause-begins : goal.returns-clause-begins
returns-clause-begins g c =
    IfOk-weaker c.taking_of.result _ _ (λ t begins. begins c.args.crew.parts c.in_ok-remote.ensures.taken) c.taking_of.ensures.begins

pub returns-clause-sound : goal.returns-clause-sound
returns-clause-sound g c =
    IfOk-weaker c.taking_of.result _ _
    (λ t sound slot goes x. sound c.args.crew.parts c.in_ok-remote.ensures.taken slot (c.in_ok-remote.ensures.steady slot ∙ goes) x)
    c.taking_of.ensures.sound

pub returns-clause-own : goal.returns-clause-own
returns-clause-own g c =
    IfOk-weaker c.taking_of.result _ _
    (λ t made. (
      ap (λ y. y.shard) made.0 ∙ c.in_ok-consumer.ensures.fresh.0,
      subst (IsPassOf c.args.opening.now.register.now) (sym made.1) c.split-pass.ensures.new,
    ))
    c.taking_of.ensures.made

pub returns-clause-lines : goal.returns-clause-lines
returns-clause-lines g c =
    let made = c.in_ok-consumer.ensures in
    let was = c.requires.lines in
    IfOk-weaker c.taking_of.result _ _
    (λ t own. (
      record {
        begun = made.begun;
        count = one-longer _ _ made.longer ∙ ap (λ n. n + 1) was.count;
        room = (
          subst (λ (n : ℕ). g.L.Events.shape.shards ≤ n) (sym made.room.0) was.room.0,
          subst (λ (n : ℕ). g.L.Events.shape.shards ≤ n) (sym made.room.1) was.room.1,
        );
      },
      made.longer,
    ))
    c.taking_of.ensures.made

pub returns-clause-consumer : goal.returns-clause-consumer
returns-clause-consumer g c =
    IfOk-weaker c.taking_of.result _ _
    (λ t made. subst (IsConsumerIn c.add.new.self.queues.items) (sym made.0) c.in_ok-consumer.ensures.consumer) c.taking_of.ensures.made

pub returns-clause-posts : goal.returns-clause-posts
returns-clause-posts g c = IfOk-weaker c.taking_of.result _ _ (λ t made. c.in_ok-remote.ensures.posts) c.taking_of.ensures.made

pub returns-clause-meets : goal.returns-clause-meets
returns-clause-meets g c =
    IfOk-weaker c.taking_of.result _ _
    (λ t made site at. ap (λ r. r.exchanges.now) made.2 ∙ c.in_ok-remote.ensures.site site at) c.taking_of.ensures.made

pub returns-clause-roomy : goal.returns-clause-roomy
returns-clause-roomy g c =
    IfOk-weaker c.taking_of.result _ _
    (λ t made. ap (λ r. (performer_of g.D.BlockDevice.told g.D.BlockDevice.promised r).part_room) made.2 ∙ c.in_ok-remote.ensures.room)
    c.taking_of.ensures.made

pub returns-clause-sites : goal.returns-clause-sites
returns-clause-sites g c = c.in_ok-remote.ensures.sites
