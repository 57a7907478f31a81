use Rattle.std.proofs.Common.{◌≡◌, ◌∙◌, ◌++◌, ℕ, All, ap, drop, length, take, slice_index_or, subst, sym, true}
use Rattle.std.specs.List.{AllZip}
use Rattle.std.proofs.lemmas.Slice.Zip.{AllZip-long}
use Rattle.r6_health.specs.Histories.{start_losing}
use Rattle.r6_health.specs.Passes.{IsPassOf, view_of}
use Rattle.r6_health.specs.Registers.{starting}
use Rattle.r6_engine.specs.Openings.{caller_of}
use Rattle.r6_engine.specs.lists.Queues.{IsConsumerIn}
use Rattle.r6_engine.specs.feed.Feeds.{AreAt, WereTold}
use Rattle.r6_engine.specs.runner.Going.{TakesNoMore}
use Rattle.r6_engine.specs.runner.Parts.{KeepsOwn}
use Rattle.r6_engine.specs.declared.runner.runner.Runner.{Runner}
use Rattle.r6_shard.specs.declared.performs.Performs.{Ghosts}
use Rattle.r6_engine.specs.Crews.{StaysAt}
use Rattle.r6_engine.specs.runner.Sound.{KeepsPromised}
use Rattle.r6_layout.specs.Shape.{Shape}
use Rattle.r6_engine.specs.Ending.{HaveInSync}
use Rattle.r6_engine.specs.OneRuns.{HaveOneHistory}
use Rattle.r6_engine.specs.Passes.{IsKnownTo}
use Rattle.r6_engine.specs.RanArrays.{HasRunArray}
use Rattle.r6_engine.specs.Serves.{HasAnswered, HasRun, HaveServed}
use Rattle.r6_engine.proofs.EachShard.{all-again, all-map, all_at, each_of, have_served, less, numbered_still, read_again, zip-map, zip-then}
use Rattle.r6_engine.proofs.FeedLemmas.Told.{later_told}
use Rattle.r6_engine.proofs.Named.{are-promised, leave_sound_alone}
use Rattle.r6_engine.proofs.Passes.{call_as_they_may, each_saw_with_pass, is_caller, is_shown}
use Rattle.r6_engine.proofs.serving.serve_all.Goals as goal

pub run_all-requires-clause-ready : goal.run_all-requires-clause-ready
run_all-requires-clause-ready g c κs within = λ k d below.
    let begun = c.requires.begun.4 in (
      begun.passes k d below,
      subst (λ qs. IsConsumerIn qs (slice_index_or c.args.begun.takings.items k d).consumer) (sym c.deref.ensures.value) (begun.consumers k d below),
    )

pub run_all-requires-clause-producers : goal.run_all-requires-clause-producers
run_all-requires-clause-producers g c κs within =
    subst (λ qs. AreAt g.L.Events.shape g.L.Events.events qs c.args.begun.feed.number c.args.begun.feed.producers.items)
    (sym c.deref.ensures.value)
    (subst (λ (n : ℕ). AreAt g.L.Events.shape g.L.Events.events c.args.begun.rooms.queues.items n c.args.begun.feed.producers.items)
    (sym c.requires.begun.4.none_handed) c.requires.begun.4.producers)

pub settle-requires-clause-shards : goal.settle-requires-clause-shards
settle-requires-clause-shards g c =
    AllZip-long _ c.args.begun.takings.items c.in_ok-pass.ended.items c.in_ok-pass.ensures.run
    ∙ AllZip-long _ c.requires.begun.2 c.args.begun.takings.items c.requires.begun.4.begins ∙ c.requires.begun.4.as_many

pub settle-requires-clause-numbered : goal.settle-requires-clause-numbered
settle-requires-clause-numbered g c =
    numbered_still _ (λ t. t.consumer.shard) (λ old new ran. ran.1.same) c.args.begun.takings.items
    c.in_ok-pass.ended.items c.in_ok-pass.ensures.run c.requires.begun.4.numbered

pub settle-requires-clause-finished : goal.settle-requires-clause-finished
settle-requires-clause-finished g c =
    each_of _ (λ t. t.consumer.finished ≡ true) (λ old new ran. ran.1.all_taken) c.args.begun.takings.items
    c.in_ok-pass.ended.items c.in_ok-pass.ensures.run

pub run_all-requires-clause-promised : goal.run_all-requires-clause-promised
run_all-requires-clause-promised g c κs within =
    are-promised g.D.BlockDevice.promised g.L.Events.shape g.L.Events.sound c.args.events.items (λ shard slot. (c.requires.sound shard slot).0)

pub end_all-snapshot-requires-clause-pass : goal.end_all-snapshot-requires-clause-pass
end_all-snapshot-requires-clause-pass g c = c.in_ok-pass.ensures.pass

pub end_all-snapshot-requires-clause-runners : goal.end_all-snapshot-requires-clause-runners
end_all-snapshot-requires-clause-runners g c =
    subst (All (λ r. IsPassOf c.args.begun.register r.shard.pass)) (sym (c.deref_mut.ensures.value ∙ c.settle.ensures.runners))
    (all-map (λ t. t.runner) (λ r. IsPassOf c.args.begun.register r.shard.pass) c.in_ok-pass.ended.items
    (each_of _ (λ t. IsPassOf c.args.begun.register t.runner.shard.pass) (λ old new ran. ran.0) c.args.begun.takings.items
    c.in_ok-pass.ended.items c.in_ok-pass.ensures.run))

pub returns-clause-run : goal.returns-clause-run
returns-clause-run g c = λ lost window parts steady begun.
    let told = g.D.BlockDevice.told in
    let promised = g.D.BlockDevice.promised in
    let shape = g.L.Events.shape in
    let events = g.L.Events.events in
    let given = c.args.events.items in
    let start = starting lost in
    let olds = c.args.begun.takings.items in
    let news = c.in_ok-pass.ended.items in
    let ends = c.end_all-snapshot.new.runners in
    let ended = c.end_all-snapshot.ensures in
    let last = view_of c.end_all-snapshot.new.pass in
    let answers = c.in_ok-pass.answers.items in
    let begins = begun.begins in
    let numbered = begun.numbered in
    let run = less _ (λ old new. HasRun shape events old.consumer.shard old.consumer.numbers.items old.runner new.consumer.shard
    new.consumer.numbers.items new.consumer.finished new.runner) (λ old new ran. ran.1) olds news c.in_ok-pass.ensures.run in
    let goes : AllZip (λ t r. TakesNoMore t.runner r) news ends =
    zip-map (λ t. t.runner) (TakesNoMore) news ends
    (subst (λ rs. AllZip (TakesNoMore) rs ends) (c.deref_mut.ensures.value ∙ c.settle.ensures.runners) ended.goes) in
    let passes = ended.passes in
    let was-told = subst (λ v. WereTold v answers passes.last) begun.first
    (passes.back.told (view_of c.args.begun.feed.pass) answers c.in_ok-pass.ensures.answered.told) in
    let began = (later_told (caller_of (start_losing shape.slots shape.shards lost)) answers passes.last was-told).same_start in
    let went : AllZip (λ t r. TakesNoMore t.runner r) news passes.between =
    zip-map (λ t. t.runner) (TakesNoMore) news passes.between
    (subst (λ rs. AllZip (TakesNoMore) rs passes.between) (c.deref_mut.ensures.value ∙ c.settle.ensures.runners) passes.goes) in
    let calls = call_as_they_may told shape events start window (λ t. t.consumer.shard) (λ t. t.consumer.numbers.items)
    (λ t. t.consumer.finished) (λ t. t.runner) parts olds news ends begins run numbered goes in
    let same : length ends ≡ length c.settle.new.runners.items =
    AllZip-long (TakesNoMore) c.settle.new.runners.items ends
    (subst (λ rs. AllZip (TakesNoMore) rs ends) c.deref_mut.ensures.value ended.goes) in
    let whole : take c.settle.new.runners.len (ends ++ drop (length ends) c.settle.new.runners.items) ≡ ends =
    all-again ends c.settle.new.runners.items c.settle.new.runners.len same c.settle.new.runners.ok.0 in
    subst (λ rs. HasRunArray told promised steady shape given start window
    (caller_of (start_losing shape.slots shape.shards lost)) parts rs answers last c.end_all-snapshot.result) (sym whole) (record {
      done = subst (λ ev. HaveServed told shape ev start window parts ends) (sym c.requires.events)
          (have_served told shape events start window (λ t. t.consumer.shard) (λ t. t.consumer.numbers.items)
          (λ t. t.consumer.finished) (λ t. t.runner) parts olds news ends c.requires.limits begun.as_many begins run numbered
          c.settle.ensures.taken goes ended.over);
      answered = subst (λ ev. HasAnswered shape ev (caller_of (start_losing shape.slots shape.shards lost)) answers last)
          (sym c.requires.events)
          (subst (λ v. HasAnswered shape events v answers last) begun.first
          (read_again shape events (view_of c.args.begun.feed.pass) answers (view_of c.in_ok-pass.pass) last
          c.in_ok-pass.ensures.answered ended.back));
      held = ended.snapshot.0;
      legal = ended.snapshot.1;
      calls = calls;
      sound = leave_sound_alone promised steady shape g.L.Events.sound start given (λ t. t.consumer.shard) (λ t. t.runner) parts olds news ends
          begun.sound
          (less _ (λ old new. KeepsPromised shape g.L.Events.sound old.consumer.shard old.runner new.runner)
          (λ old new ran. ran.2) olds news c.in_ok-pass.ensures.run)
          numbered goes calls (λ shard slot. (c.requires.sound shard slot).1);
      unskipped = λ k d below. (slice_index_or ends k d).unskipped;
      seen = ended.seen;
      saw = each_saw_with_pass last ends ended.seen;
      failure = is_shown last c.end_all-snapshot.result ends ended.seen ended.snapshot.0;
      looked = ended.looked;
      rebuilt = ended.rebuilt;
      in_sync = subst (λ (n : ℕ). HaveInSync n c.end_all-snapshot.result ends) (c.slots-slots.ensures.value ∙ ap (λ (s : Shape). s.slots) c.requires.shape) ended.in_sync;
      history = subst (λ ev. HaveOneHistory told shape ev start window parts c.end_all-snapshot.result ends) (sym c.requires.events)
          (record {
            last = passes.last;
            caller = is_caller (start_losing shape.slots shape.shards lost) answers passes.last
                was-told
                passes.has (passes.back.mine ∙ c.in_ok-pass.ensures.answered.own);
            between = passes.between;
            served = have_served told shape events start window (λ t. t.consumer.shard) (λ t. t.consumer.numbers.items)
                (λ t. t.consumer.finished) (λ t. t.runner) parts olds news passes.between c.requires.limits begun.as_many begins run numbered
                c.settle.ensures.taken went passes.over;
            known = λ n r at. all_at (IsKnownTo passes.last) passes.between n r passes.known at;
            kept = passes.kept;
            slots = ap (λ s. s.slots) began;
            shards = ap (λ s. s.shards) began;
            legal = passes.has.legal;
            held = passes.held;
          });
    })

-- from what it was as its thread began
stays-through : {P D : Type 0} {g : Ghosts P} (old mid new : Runner P D g) → KeepsOwn old mid → TakesNoMore mid new → StaysAt old new
stays-through old mid new ran goes = (goes.parts.site ∙ ran.site, goes.parts.room ∙ ran.room)

pub returns-clause-stays : goal.returns-clause-stays
returns-clause-stays g c =
    let olds = c.args.begun.takings.items in
    let news = c.in_ok-pass.ended.items in
    let ends = c.end_all-snapshot.new.runners in
    let ended = c.end_all-snapshot.ensures in
    let goes : AllZip (λ t r. TakesNoMore t.runner r) news ends =
    zip-map (λ t. t.runner) (TakesNoMore) news ends
    (subst (λ rs. AllZip (TakesNoMore) rs ends) (c.deref_mut.ensures.value ∙ c.settle.ensures.runners) ended.goes) in
    let same : length ends ≡ length c.settle.new.runners.items =
    AllZip-long (TakesNoMore) c.settle.new.runners.items ends
    (subst (λ rs. AllZip (TakesNoMore) rs ends) c.deref_mut.ensures.value ended.goes) in
    let whole : take c.settle.new.runners.len (ends ++ drop (length ends) c.settle.new.runners.items) ≡ ends =
    all-again ends c.settle.new.runners.items c.settle.new.runners.len same c.settle.new.runners.ok.0 in
    subst (AllZip (λ t r. StaysAt t.runner r) olds) (sym whole)
    (zip-then (λ old new. KeepsOwn old.runner new.runner) (λ t r. TakesNoMore t.runner r) (λ t r. StaysAt t.runner r)
    (λ old mid new. stays-through old.runner mid.runner new) olds news ends
    (less _ (λ old new. KeepsOwn old.runner new.runner) (λ old new ran. ran.1.own) olds news c.in_ok-pass.ensures.run) goes)

pub run_all-requires-clause-begins : goal.run_all-requires-clause-begins
run_all-requires-clause-begins g c κs within = c.requires.begun.4.none_handed

pub run_all-requires-clause-pass : goal.run_all-requires-clause-pass
run_all-requires-clause-pass g c κs within = c.requires.begun.4.pass

pub settle-requires-clause-room : goal.settle-requires-clause-room
settle-requires-clause-room g c = (c.requires.begun.4.no_runner, c.requires.begun.4.runners_room)

pub run_all-requires-clause-events : goal.run_all-requires-clause-events
run_all-requires-clause-events g c κs within = c.requires.events

pub run_all-requires-clause-whole : goal.run_all-requires-clause-whole
run_all-requires-clause-whole g c κs within = c.requires.whole

pub invariant_of-station : goal.invariant_of-station
invariant_of-station g c =
    let begun = c.requires.begun.4 in
    record {
      shape = c.requires.shape;
      slots = (begun.slots, begun.shards);
      shards = ap length c.deref.ensures.value ∙ begun.queues;
      rested = ap length c.deref-2.ensures.value ∙ begun.rests;
    }
