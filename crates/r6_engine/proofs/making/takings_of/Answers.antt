use Rattle.std.proofs.Common.{arith, ◌+◌, ◌≡◌, ◌∙◌, ◌≤◌, ◌<◌, ℕ, suc, List, All, Some, get_or, length, refl, slice_get, slice_index_or, take, ap, sym, subst}
use Rattle.std.proofs.Math.Seq.{take-suc}
use Rattle.std.proofs.lemmas.List.{length_push, take_all}
use Rattle.std.proofs.lemmas.Option.{get_or_from_slice_get, slice_get_within}
use Rattle.std.specs.List.{AllZip}
use Rattle.std.proofs.lemmas.Iterator.Adapters.{YieldsList-from_vec}
use Rattle.std.proofs.lemmas.Iterator.Consumers.{YieldsList-turn, YieldsList-end}
use Rattle.std.proofs.lemmas.List.Elements.{All-push}
use Rattle.std.proofs.lemmas.Slice.Zip.{AllZip-long, all_zipped_more}
use Rattle.r6_layout.specs.Shape.{Shape}
use Rattle.r6_health.specs.declared.history.View.{View}
use Rattle.r6_health.specs.Passes.{IsPassOf, view_of}
use Rattle.r6_health.specs.Views.{giver}
use Rattle.r6_world.specs.Registers.{Snapshot}
use Rattle.r6_engine.specs.lists.Events.{Event}
use Rattle.r6_engine.specs.declared.crew.Crew.{Crew}
use Rattle.r6_engine.specs.Crews.{ArePosted, HasRoom, HasRoomOf, HavePosts, MeetsAt, StandsAt, exchanges_at}
use Rattle.r6_engine.specs.Named.{BeginsSound}
use Rattle.r6_engine.specs.NewQueues.{AreMade}
use Rattle.r6_engine.specs.Openings.{HasNamed}
use Rattle.r6_engine.specs.Serves.{Begins}
use Rattle.r6_engine.specs.lists.Queues.{IsConsumerIn}
use Rattle.r6_engine.proofs.Crews.{crew-at}
use Rattle.r6_engine.proofs.EachShard.{here_at}
use Rattle.r6_engine.proofs.NewQueues.{all-still-in}
use Rattle.r6_engine.proofs.Numbers.{fewer, one_more, unchanged}
use Rattle.r6_engine.proofs.making.takings_of.Goals as goal

-- the pass has given one name more
named-more : (shape : Shape) (snapshot : Snapshot) (count : ℕ) (v w : View) → w ≡ giver v → HasNamed shape snapshot count v
    → HasNamed shape snapshot (count + 1) w
named-more shape snapshot count v w gave has =
    subst (HasNamed shape snapshot (count + 1)) (sym gave)
    (record { slots = has.slots; shards = has.shards; began = has.began; view = ap giver has.view })

pub loop-crew-init : goal.loop-crew-init
loop-crew-init g c =
    let told = g.D.BlockDevice.told in
    let promised = g.D.BlockDevice.promised in
    let sites = c.args.posting.now.sites.now in
    let empty = c.in_ok-takings.ensures.items in
    let none = ap length empty in
    let capacity = c.in_ok-takings.ensures.capacity in
    let len = c.args.crews.ok.0 in (
      tt,
      tt,
      record {
        pass = c.requires.pass;
        named = subst (λ n. HasNamed g.L.Events.shape c.args.opening.now.start.now n (view_of c.args.first.now)) (sym none) c.requires.first;
        begins = rw empty tt;
        sound = λ steady are. rw empty tt;
        numbered = λ k d below. absurd (omega (arith, below, none));
        passes = λ k d below. absurd (omega (arith, below, none));
        room = omega (arith, len, capacity);
        lines = subst (λ n. AreMade g.L.Events.shape g.L.Events.events n c.args.lines.now) (sym none) c.requires.lines;
        consumers = λ k d below. absurd (omega (arith, below, none));
        posts = record {
          posted = subst (λ n. ArePosted told promised sites n c.args.posting.now.posts.items) (sym none)
              (rw c.requires.crews.unposted tt);
          room = c.requires.crews.room;
        };
        sites = refl;
        meets = rw empty tt;
        roomy = rw empty tt;
      },
    )

pub taking_for-requires-clause-opening : goal.taking_for-requires-clause-opening
taking_for-requires-clause-opening g c = c.requires.opening

pub taking_for-requires-clause-pass : goal.taking_for-requires-clause-pass
taking_for-requires-clause-pass g c = c.loop-crew.invariant.2.pass

pub taking_for-requires-clause-first : goal.taking_for-requires-clause-first
taking_for-requires-clause-first g c =
    subst (λ n. HasNamed g.L.Events.shape c.args.opening.now.start.now n (view_of c.loop-crew.first)) (sym (c.len-number.ensures ∙ c.loop-crew.takings.ok.0))
    c.loop-crew.invariant.2.named

pub taking_for-requires-clause-number : goal.taking_for-requires-clause-number
taking_for-requires-clause-number g c =
    let turn = YieldsList-turn
    (YieldsList-from_vec {s = c.into_iter-crew-iterator.result} c.args.crews.items c.into_iter-crew-iterator.ensures.into_iter_gives.0
    (c.into_iter-crew-iterator.ensures.into_iter_gives.1 ∙ c.args.crews.ok.0))
    c.loop-crew.yielded c.loop-crew.crew-iterator c.loop-crew.yielded_by c.next.result c.next.new.self c.in-Some.crew c.in-Some.is
    c.next.ensures.steps in
    let kept = c.loop-crew.invariant.2 in
    let below = fewer _ _ _ _ (AllZip-long _ c.loop-crew.yielded c.loop-crew.takings.items kept.begins) turn.0 c.requires.crews.whole in
    let long = c.len-number.ensures in
    let len = c.loop-crew.takings.ok.0 in
    omega (arith, below, long, len)

pub taking_for-requires-clause-lines : goal.taking_for-requires-clause-lines
taking_for-requires-clause-lines g c =
    subst (λ n. AreMade g.L.Events.shape g.L.Events.events n c.loop-crew.lines) (sym (c.len-number.ensures ∙ c.loop-crew.takings.ok.0))
    c.loop-crew.invariant.2.lines

pub taking_for-requires-clause-posts : goal.taking_for-requires-clause-posts
taking_for-requires-clause-posts g c =
    subst (λ n. HavePosts g.D.BlockDevice.told g.D.BlockDevice.promised n c.loop-crew.posting)
    (sym (c.len-number.ensures ∙ c.loop-crew.takings.ok.0)) c.loop-crew.invariant.2.posts

pub taking_for-requires-clause-crew : goal.taking_for-requires-clause-crew
taking_for-requires-clause-crew g c =
    let told = g.D.BlockDevice.told in
    let promised = g.D.BlockDevice.promised in
    let turn = YieldsList-turn
    (YieldsList-from_vec {s = c.into_iter-crew-iterator.result} c.args.crews.items c.into_iter-crew-iterator.ensures.into_iter_gives.0
    (c.into_iter-crew-iterator.ensures.into_iter_gives.1 ∙ c.args.crews.ok.0))
    c.loop-crew.yielded c.loop-crew.crew-iterator c.loop-crew.yielded_by c.next.result c.next.new.self c.in-Some.crew c.in-Some.is
    c.next.ensures.steps in
    let kept = c.loop-crew.invariant.2 in
    let sites = c.args.posting.now.sites.now in
    let long = c.len-number.ensures ∙ c.loop-crew.takings.ok.0 ∙ AllZip-long _ c.loop-crew.yielded c.loop-crew.takings.items kept.begins in
    let one = crew-at told promised c.requires.crews.workers sites c.args.crews.items (length c.loop-crew.yielded) c.in-Some.crew
    c.requires.crews.have.each turn.0 turn.1 in (
      one.0,
      c.requires.crews.workers,
      ap (λ ss. slice_get ss c.len-number.result) kept.sites ∙ ap (slice_get sites) long ∙ one.1,
      one.2,
    )

-- the crew has room for the parts of the start, and for those that may come
crew-room : {D : Type 0} (events : List Event) (crews : List (Crew D)) (k : ℕ) (crew : Crew D) → All (HasRoom events) crews → k < length crews
    → crew ≡ slice_index_or crews k crew → HasRoom events crew
crew-room events crews k crew all below is = subst (HasRoom events) (sym is) (all k crew below)

pub taking_for-requires-clause-room : goal.taking_for-requires-clause-room
taking_for-requires-clause-room g c =
    let turn = YieldsList-turn
    (YieldsList-from_vec {s = c.into_iter-crew-iterator.result} c.args.crews.items c.into_iter-crew-iterator.ensures.into_iter_gives.0
    (c.into_iter-crew-iterator.ensures.into_iter_gives.1 ∙ c.args.crews.ok.0))
    c.loop-crew.yielded c.loop-crew.crew-iterator c.loop-crew.yielded_by c.next.result c.next.new.self c.in-Some.crew c.in-Some.is
    c.next.ensures.steps in
    crew-room g.L.Events.events c.args.crews.items (length c.loop-crew.yielded) c.in-Some.crew c.requires.crews.have.room turn.0 turn.1

pub push_reserved-requires : goal.push_reserved-requires
push_reserved-requires g c =
    let turn = YieldsList-turn
    (YieldsList-from_vec {s = c.into_iter-crew-iterator.result} c.args.crews.items c.into_iter-crew-iterator.ensures.into_iter_gives.0
    (c.into_iter-crew-iterator.ensures.into_iter_gives.1 ∙ c.args.crews.ok.0))
    c.loop-crew.yielded c.loop-crew.crew-iterator c.loop-crew.yielded_by c.next.result c.next.new.self c.in-Some.crew c.in-Some.is
    c.next.ensures.steps in
    let kept = c.loop-crew.invariant.2 in
    let long = AllZip-long _ c.loop-crew.yielded c.loop-crew.takings.items kept.begins in
    omega (arith, long, turn.0, kept.room)

pub loop-crew-preserved : goal.loop-crew-preserved
loop-crew-preserved g c =
    let told = g.D.BlockDevice.told in
    let promised = g.D.BlockDevice.promised in
    let shape = g.L.Events.shape in
    let events = g.L.Events.events in
    let start = c.args.opening.now.start.now in
    let window = c.args.opening.now.window in
    let turn = YieldsList-turn
    (YieldsList-from_vec {s = c.into_iter-crew-iterator.result} c.args.crews.items c.into_iter-crew-iterator.ensures.into_iter_gives.0
    (c.into_iter-crew-iterator.ensures.into_iter_gives.1 ∙ c.args.crews.ok.0))
    c.loop-crew.yielded c.loop-crew.crew-iterator c.loop-crew.yielded_by c.next.result c.next.new.self c.in-Some.crew c.in-Some.is
    c.next.ensures.steps in
    let kept = c.loop-crew.invariant.2 in
    let made = c.in_ok-taking.ensures in
    let crew = c.in-Some.crew in
    let taking = c.in_ok-taking.taking in
    let before = c.loop-crew.takings.items in
    let sites = c.args.posting.now.sites.now in
    let long : c.len-number.result ≡ length before = c.len-number.ensures ∙ c.loop-crew.takings.ok.0 in
    let many = AllZip-long _ c.loop-crew.yielded before kept.begins in
    let one = crew-at told promised c.requires.crews.workers sites c.args.crews.items (length c.loop-crew.yielded) crew c.requires.crews.have.each
    turn.0 turn.1 in
    let there : slice_get sites (length before) ≡ Some one.0 = ap (slice_get sites) many ∙ one.1 in
    let within = slice_get_within sites (length before) one.0 there in
    let is = get_or_from_slice_get sites (length before) one.0 one.0 there in
    let pushed = c.push_reserved.ensures.items in
    let grown : length c.push_reserved.new.self.items ≡ length before + 1 = ap length pushed ∙ length_push before taking in
    let size : length c.push_reserved.new.self.items ≡ suc (length before) = omega (arith, grown) in
    let next : c.len-number.result + 1 ≡ length c.push_reserved.new.self.items = ap (λ n. n + 1) long ∙ sym grown in
    let number : taking.consumer.shard ≡ length c.loop-crew.yielded = made.own.0 ∙ long ∙ many in
    let at : slice_get c.args.crews.items (length c.loop-crew.yielded) ≡ Some crew =
    here_at c.args.crews.items (length c.loop-crew.yielded) crew turn.0 ∙ ap Some (sym turn.1) in (
      tt,
      tt,
      record {
        pass = made.pass;
        named = subst (λ n. HasNamed shape start n (view_of c.taking_for.new.first)) next
            (named-more shape start c.len-number.result (view_of c.loop-crew.first) (view_of c.taking_for.new.first) made.gave
            (subst (λ n. HasNamed shape start n (view_of c.loop-crew.first)) (sym long) kept.named));
        begins = rw pushed (all_zipped_more (λ crew t. Begins told shape events start window crew.parts t.consumer.shard t.consumer.numbers.items
            t.runner) c.loop-crew.yielded before crew taking kept.begins made.begins);
        sound = λ steady are. rw pushed (all_zipped_more (λ crew t. BeginsSound promised steady shape start crew.parts t.consumer.shard t.runner)
            c.loop-crew.yielded before crew taking (kept.sound steady are)
            (λ slot goes x. made.sound slot
            (are taking.consumer.shard slot crew (ap (slice_get c.args.crews.items) number ∙ at) goes) x));
        numbered = rw pushed (one_more (λ t. t.consumer.shard) before taking kept.numbered (made.own.0 ∙ long));
        passes = rw pushed (All-push (λ t. IsPassOf c.args.opening.now.register.now t.runner.shard.pass) before taking kept.passes made.own.1);
        room = subst (λ (room : ℕ). length c.args.crews.items ≤ room) (sym c.push_reserved.ensures.capacity) kept.room;
        lines = subst (λ n. AreMade shape events n c.taking_for.new.lines) next made.lines.0;
        consumers = rw pushed (All-push (λ t. IsConsumerIn c.taking_for.new.lines.queues.items t.consumer) before taking
            (all-still-in (λ t. t.consumer) _ _ before made.lines.1 kept.consumers) made.consumer);
        posts = subst (λ n. HavePosts told promised n c.taking_for.new.posting) next made.posts;
        sites = made.sites ∙ kept.sites;
        meets = subst (λ ss. AllZip (λ site t. MeetsAt site t.runner) ss c.push_reserved.new.self.items)
            (sym (ap (λ n. take n sites) size ∙ take-suc sites (length before) one.0 within))
            (rw pushed (all_zipped_more (λ site t. MeetsAt site t.runner) (take (length before) sites) before (get_or sites (length before) one.0) taking
            kept.meets (made.meets one.0
            (ap (λ ss. slice_get ss c.len-number.result) kept.sites ∙ ap (slice_get sites) long ∙ there)
            ∙ ap (λ s. s.exchanges.items) (sym is))));
        roomy = rw pushed (all_zipped_more (λ crew t. HasRoomOf crew t.runner) c.loop-crew.yielded before crew taking kept.roomy made.roomy);
      },
    )

pub returns-clause-begins : goal.returns-clause-begins
returns-clause-begins g c =
    let end = YieldsList-end
    (YieldsList-from_vec {s = c.into_iter-crew-iterator.result} c.args.crews.items c.into_iter-crew-iterator.ensures.into_iter_gives.0
    (c.into_iter-crew-iterator.ensures.into_iter_gives.1 ∙ c.args.crews.ok.0))
    c.loop-crew.yielded c.loop-crew.crew-iterator c.loop-crew.yielded_by c.next.result c.next.new.self c.in-None.is
    c.next.ensures.steps in
    subst (λ crews. AllZip (λ crew t. Begins g.D.BlockDevice.told g.L.Events.shape g.L.Events.events
    c.args.opening.now.start.now c.args.opening.now.window crew.parts t.consumer.shard t.consumer.numbers.items t.runner) crews
    c.loop-crew.takings.items)
    (sym (unchanged c.loop-crew.yielded) ∙ end.0) c.loop-crew.invariant.2.begins

pub returns-clause-sound : goal.returns-clause-sound
returns-clause-sound g c steady are =
    let end = YieldsList-end
    (YieldsList-from_vec {s = c.into_iter-crew-iterator.result} c.args.crews.items c.into_iter-crew-iterator.ensures.into_iter_gives.0
    (c.into_iter-crew-iterator.ensures.into_iter_gives.1 ∙ c.args.crews.ok.0))
    c.loop-crew.yielded c.loop-crew.crew-iterator c.loop-crew.yielded_by c.next.result c.next.new.self c.in-None.is
    c.next.ensures.steps in
    subst (λ crews. AllZip (λ crew t. BeginsSound g.D.BlockDevice.promised steady g.L.Events.shape
    c.args.opening.now.start.now crew.parts t.consumer.shard t.runner) crews c.loop-crew.takings.items)
    (sym (unchanged c.loop-crew.yielded) ∙ end.0) (c.loop-crew.invariant.2.sound steady are)

pub returns-clause-numbered : goal.returns-clause-numbered
returns-clause-numbered g c = c.loop-crew.invariant.2.numbered

pub returns-clause-pass : goal.returns-clause-pass
returns-clause-pass g c = c.loop-crew.invariant.2.pass

pub returns-clause-named : goal.returns-clause-named
returns-clause-named g c =
    let end = YieldsList-end
    (YieldsList-from_vec {s = c.into_iter-crew-iterator.result} c.args.crews.items c.into_iter-crew-iterator.ensures.into_iter_gives.0
    (c.into_iter-crew-iterator.ensures.into_iter_gives.1 ∙ c.args.crews.ok.0))
    c.loop-crew.yielded c.loop-crew.crew-iterator c.loop-crew.yielded_by c.next.result c.next.new.self c.in-None.is
    c.next.ensures.steps in
    let kept = c.loop-crew.invariant.2 in
    let long = AllZip-long _ c.loop-crew.yielded c.loop-crew.takings.items kept.begins in
    subst (λ n. HasNamed g.L.Events.shape c.args.opening.now.start.now n (view_of c.loop-crew.first)) (long ∙ end.1 ∙ c.requires.crews.whole) kept.named

pub returns-clause-passes : goal.returns-clause-passes
returns-clause-passes g c = c.loop-crew.invariant.2.passes

pub returns-clause-consumers : goal.returns-clause-consumers
returns-clause-consumers g c = c.loop-crew.invariant.2.consumers

pub returns-clause-sites : goal.returns-clause-sites
returns-clause-sites g c = c.loop-crew.invariant.2.sites

pub returns-clause-lines : goal.returns-clause-lines
returns-clause-lines g c =
    let end = YieldsList-end
    (YieldsList-from_vec {s = c.into_iter-crew-iterator.result} c.args.crews.items c.into_iter-crew-iterator.ensures.into_iter_gives.0
    (c.into_iter-crew-iterator.ensures.into_iter_gives.1 ∙ c.args.crews.ok.0))
    c.loop-crew.yielded c.loop-crew.crew-iterator c.loop-crew.yielded_by c.next.result c.next.new.self c.in-None.is
    c.next.ensures.steps in
    let kept = c.loop-crew.invariant.2 in
    let long = AllZip-long _ c.loop-crew.yielded c.loop-crew.takings.items kept.begins in
    subst (λ n. AreMade g.L.Events.shape g.L.Events.events n c.loop-crew.lines) (long ∙ end.1 ∙ c.requires.crews.whole) kept.lines

-- as many shards as there are crews, so as there are sites
pub returns-clause-posts : goal.returns-clause-posts
returns-clause-posts g c =
    let end = YieldsList-end
    (YieldsList-from_vec {s = c.into_iter-crew-iterator.result} c.args.crews.items c.into_iter-crew-iterator.ensures.into_iter_gives.0
    (c.into_iter-crew-iterator.ensures.into_iter_gives.1 ∙ c.args.crews.ok.0))
    c.loop-crew.yielded c.loop-crew.crew-iterator c.loop-crew.yielded_by c.next.result c.next.new.self c.in-None.is
    c.next.ensures.steps in
    let kept = c.loop-crew.invariant.2 in
    let many = AllZip-long _ c.loop-crew.yielded c.loop-crew.takings.items kept.begins in
    let all = end.1 in
    let sites = AllZip-long _ c.args.posting.now.sites.now c.args.crews.items c.requires.crews.have.each in
    let same = ap length kept.sites in
    subst (λ ss. AllZip (StandsAt g.D.BlockDevice.told g.D.BlockDevice.promised) (exchanges_at ss) c.loop-crew.posting.posts.items)
    (take_all (length c.loop-crew.takings.items) c.loop-crew.posting.sites.now (omega (arith, many, all, sites, same))) kept.posts.posted

pub returns-clause-meets : goal.returns-clause-meets
returns-clause-meets g c =
    let end = YieldsList-end
    (YieldsList-from_vec {s = c.into_iter-crew-iterator.result} c.args.crews.items c.into_iter-crew-iterator.ensures.into_iter_gives.0
    (c.into_iter-crew-iterator.ensures.into_iter_gives.1 ∙ c.args.crews.ok.0))
    c.loop-crew.yielded c.loop-crew.crew-iterator c.loop-crew.yielded_by c.next.result c.next.new.self c.in-None.is
    c.next.ensures.steps in
    let kept = c.loop-crew.invariant.2 in
    let many = AllZip-long _ c.loop-crew.yielded c.loop-crew.takings.items kept.begins in
    let all = end.1 in
    let sites = AllZip-long _ c.args.posting.now.sites.now c.args.crews.items c.requires.crews.have.each in
    subst (λ ss. AllZip (λ site t. MeetsAt site t.runner) ss c.loop-crew.takings.items)
    (take_all (length c.loop-crew.takings.items) c.args.posting.now.sites.now (omega (arith, many, all, sites)) ∙ sym kept.sites) kept.meets

pub returns-clause-roomy : goal.returns-clause-roomy
returns-clause-roomy g c =
    let end = YieldsList-end
    (YieldsList-from_vec {s = c.into_iter-crew-iterator.result} c.args.crews.items c.into_iter-crew-iterator.ensures.into_iter_gives.0
    (c.into_iter-crew-iterator.ensures.into_iter_gives.1 ∙ c.args.crews.ok.0))
    c.loop-crew.yielded c.loop-crew.crew-iterator c.loop-crew.yielded_by c.next.result c.next.new.self c.in-None.is
    c.next.ensures.steps in
    subst (λ crews. AllZip (λ crew t. HasRoomOf crew t.runner) crews c.loop-crew.takings.items)
    (sym (unchanged c.loop-crew.yielded) ∙ end.0) c.loop-crew.invariant.2.roomy
