use Rattle.std.proofs.Common.{arith, ◌≡◌, ◌<◌, ◌≤◌, ◌+◌, ◌∙◌, ◌∷◌, [], ℕ, drop, get_or, length, reverse, ap, sym, subst}
use Rattle.std.specs.List.{AllZip}
use Rattle.std.proofs.lemmas.Iterator.Adapters.{YieldsList-from_vec}
use Rattle.std.proofs.lemmas.Iterator.Consumers.{YieldsList-turn, YieldsList-end}
use Rattle.std.proofs.lemmas.List.{length-append}
use Rattle.std.proofs.lemmas.Slice.Zip.{AllZip-long, all_zipped_more}
use Rattle.r6_engine.specs.runner.Runners.{IsOver}
use Rattle.r6_engine.specs.declared.crew.Site.{Site}
use Rattle.r6_engine.specs.Crews.{MeetsAt, StandsAt, exchanges_at}
use Rattle.r6_engine.specs.Ledgers.{AreBack, FitsPage, IsLedgerOf, IsPage}
use Rattle.r6_engine.specs.Replies.{said_by, said_by_all, with_all}
use Rattle.r6_engine.proofs.Crews.{at-next, zip-at}
use Rattle.r6_engine.proofs.Numbers.{unchanged}
use Rattle.r6_engine.proofs.Popped.{last_of}
use Rattle.r6_engine.proofs.Saying.{all_more}
use Rattle.r6_engine.proofs.handback.hand_back.Goals as goal

pub turn_in-ledger-requires-clause-over : goal.turn_in-ledger-requires-clause-over
turn_in-ledger-requires-clause-over g c =
    let turn = YieldsList-turn
    (YieldsList-from_vec {s = c.into_iter-runner-iterator.result} c.args.runners.items c.into_iter-runner-iterator.ensures.into_iter_gives.0
    (c.into_iter-runner-iterator.ensures.into_iter_gives.1 ∙ c.args.runners.ok.0))
    c.loop-runner.yielded c.loop-runner.runner-iterator c.loop-runner.yielded_by c.next.result c.next.new.self c.in-Some.runner
    c.in-Some.is c.next.ensures.steps in
    let kept = c.loop-runner.invariant.2 in
    let n = length c.loop-runner.yielded in
    subst IsOver (sym turn.1) (c.requires.over n c.in-Some.runner turn.0)

pub bounds-sites-shard : goal.bounds-sites-shard
bounds-sites-shard g c =
    let turn = YieldsList-turn
    (YieldsList-from_vec {s = c.into_iter-runner-iterator.result} c.args.runners.items c.into_iter-runner-iterator.ensures.into_iter_gives.0
    (c.into_iter-runner-iterator.ensures.into_iter_gives.1 ∙ c.args.runners.ok.0))
    c.loop-runner.yielded c.loop-runner.runner-iterator c.loop-runner.yielded_by c.next.result c.next.new.self c.in-Some.runner
    c.in-Some.is c.next.ensures.steps in
    let kept = c.loop-runner.invariant.2 in
    let n = length c.loop-runner.yielded in
    let sites = c.args.posting.sites.now in
    let ledgers = AllZip-long IsLedgerOf c.loop-runner.yielded c.loop-runner.back.ledgers.items kept.ledgers in
    let len = c.loop-runner.back.ledgers.ok.0 in
    let at : c.len-shard.result ≡ n = c.len-shard.ensures ∙ omega (arith, ledgers, len) in
    let many = AllZip-long MeetsAt sites c.args.runners.items c.requires.meets in
    let turned = turn.0 in
    let below : n < length sites = omega (arith, many, turned) in
    omega (arith, at, below)

pub offset_bounds-sites-shard : goal.offset_bounds-sites-shard
offset_bounds-sites-shard g c =
    let turn = YieldsList-turn
    (YieldsList-from_vec {s = c.into_iter-runner-iterator.result} c.args.runners.items c.into_iter-runner-iterator.ensures.into_iter_gives.0
    (c.into_iter-runner-iterator.ensures.into_iter_gives.1 ∙ c.args.runners.ok.0))
    c.loop-runner.yielded c.loop-runner.runner-iterator c.loop-runner.yielded_by c.next.result c.next.new.self c.in-Some.runner
    c.in-Some.is c.next.ensures.steps in
    let kept = c.loop-runner.invariant.2 in
    let n = length c.loop-runner.yielded in
    let sites = c.args.posting.sites.now in
    let ledgers = AllZip-long IsLedgerOf c.loop-runner.yielded c.loop-runner.back.ledgers.items kept.ledgers in
    let len = c.loop-runner.back.ledgers.ok.0 in
    let at : c.len-shard.result ≡ n = c.len-shard.ensures ∙ omega (arith, ledgers, len) in
    let many = AllZip-long MeetsAt sites c.args.runners.items c.requires.meets in
    let turned = turn.0 in
    let below : n < length sites = omega (arith, many, turned) in
    omega (arith, at, below)

pub turn_in-ledger-requires-clause-fits : goal.turn_in-ledger-requires-clause-fits
turn_in-ledger-requires-clause-fits g c =
    let turn = YieldsList-turn
    (YieldsList-from_vec {s = c.into_iter-runner-iterator.result} c.args.runners.items c.into_iter-runner-iterator.ensures.into_iter_gives.0
    (c.into_iter-runner-iterator.ensures.into_iter_gives.1 ∙ c.args.runners.ok.0))
    c.loop-runner.yielded c.loop-runner.runner-iterator c.loop-runner.yielded_by c.next.result c.next.new.self c.in-Some.runner
    c.in-Some.is c.next.ensures.steps in
    let kept = c.loop-runner.invariant.2 in
    let n = length c.loop-runner.yielded in
    let sites = c.args.posting.sites.now in
    let ledgers = AllZip-long IsLedgerOf c.loop-runner.yielded c.loop-runner.back.ledgers.items kept.ledgers in
    let len = c.loop-runner.back.ledgers.ok.0 in
    let at : c.len-shard.result ≡ n = c.len-shard.ensures ∙ omega (arith, ledgers, len) in
    let many = AllZip-long MeetsAt sites c.args.runners.items c.requires.meets in
    let turned = turn.0 in
    let below : n < length sites = omega (arith, many, turned) in
    let site = c.index-sites-shard.result in
    let is : get_or sites n site ≡ site = sym (c.index-sites-shard.is ∙ ap (λ k. get_or sites k site) at) in
    let room = c.args.room in (
      (last_of (IsPage room) c.loop-runner.pages.items c.pop.new.self.items c.in-Some-pop.page c.in-Some-pop.ensures.items kept.pages).0,
      subst (FitsPage room) (sym turn.1) (c.requires.fits.1 n c.in-Some.runner turn.0),
      subst (λ (s : Site _). length s.exchanges.items ≡ room.workers) is (c.requires.fits.2 n site below),
    )

pub turn_in-ledger-requires-clause-meets : goal.turn_in-ledger-requires-clause-meets
turn_in-ledger-requires-clause-meets g c =
    let turn = YieldsList-turn
    (YieldsList-from_vec {s = c.into_iter-runner-iterator.result} c.args.runners.items c.into_iter-runner-iterator.ensures.into_iter_gives.0
    (c.into_iter-runner-iterator.ensures.into_iter_gives.1 ∙ c.args.runners.ok.0))
    c.loop-runner.yielded c.loop-runner.runner-iterator c.loop-runner.yielded_by c.next.result c.next.new.self c.in-Some.runner
    c.in-Some.is c.next.ensures.steps in
    let kept = c.loop-runner.invariant.2 in
    let n = length c.loop-runner.yielded in
    let sites = c.args.posting.sites.now in
    let ledgers = AllZip-long IsLedgerOf c.loop-runner.yielded c.loop-runner.back.ledgers.items kept.ledgers in
    let len = c.loop-runner.back.ledgers.ok.0 in
    let at : c.len-shard.result ≡ n = c.len-shard.ensures ∙ omega (arith, ledgers, len) in
    let many = AllZip-long MeetsAt sites c.args.runners.items c.requires.meets in
    let turned = turn.0 in
    let below : n < length sites = omega (arith, many, turned) in
    let site = c.index-sites-shard.result in
    let is : get_or sites n site ≡ site = sym (c.index-sites-shard.is ∙ ap (λ k. get_or sites k site) at) in
    subst (λ (s : Site _). MeetsAt s c.in-Some.runner) is
    (subst (MeetsAt (get_or sites n site)) (sym turn.1) (zip-at MeetsAt sites c.args.runners.items n site c.in-Some.runner c.requires.meets below))

pub turn_in-ledger-requires-clause-posts : goal.turn_in-ledger-requires-clause-posts
turn_in-ledger-requires-clause-posts g c =
    let turn = YieldsList-turn
    (YieldsList-from_vec {s = c.into_iter-runner-iterator.result} c.args.runners.items c.into_iter-runner-iterator.ensures.into_iter_gives.0
    (c.into_iter-runner-iterator.ensures.into_iter_gives.1 ∙ c.args.runners.ok.0))
    c.loop-runner.yielded c.loop-runner.runner-iterator c.loop-runner.yielded_by c.next.result c.next.new.self c.in-Some.runner
    c.in-Some.is c.next.ensures.steps in
    let kept = c.loop-runner.invariant.2 in
    let n = length c.loop-runner.yielded in
    let sites = c.args.posting.sites.now in
    let ledgers = AllZip-long IsLedgerOf c.loop-runner.yielded c.loop-runner.back.ledgers.items kept.ledgers in
    let len = c.loop-runner.back.ledgers.ok.0 in
    let at : c.len-shard.result ≡ n = c.len-shard.ensures ∙ omega (arith, ledgers, len) in
    let many = AllZip-long MeetsAt sites c.args.runners.items c.requires.meets in
    let turned = turn.0 in
    let below : n < length sites = omega (arith, many, turned) in
    let site = c.index-sites-shard.result in
    let is : get_or sites n site ≡ site = sym (c.index-sites-shard.is ∙ ap (λ k. get_or sites k site) at) in (
      exchanges_at (drop (n + 1) sites),
      subst (λ es. AllZip (StandsAt g.D.BlockDevice.told g.D.BlockDevice.promised) es (reverse c.loop-runner.posts.items))
          (at-next sites n site below is) kept.posts,
    )

pub push_reserved-requires : goal.push_reserved-requires
push_reserved-requires g c =
    let turn = YieldsList-turn
    (YieldsList-from_vec {s = c.into_iter-runner-iterator.result} c.args.runners.items c.into_iter-runner-iterator.ensures.into_iter_gives.0
    (c.into_iter-runner-iterator.ensures.into_iter_gives.1 ∙ c.args.runners.ok.0))
    c.loop-runner.yielded c.loop-runner.runner-iterator c.loop-runner.yielded_by c.next.result c.next.new.self c.in-Some.runner
    c.in-Some.is c.next.ensures.steps in
    let kept = c.loop-runner.invariant.2 in
    let long = AllZip-long _ c.loop-runner.yielded c.loop-runner.back.ledgers.items kept.ledgers in
    let room = kept.ledgers_room in
    let len = c.loop-runner.back.ledgers.ok.0 in
    omega (arith, long, turn.0, room, len)

pub push_reserved-requires-in-loop-runner : goal.push_reserved-requires-in-loop-runner
push_reserved-requires-in-loop-runner g c =
    let turn = YieldsList-turn
    (YieldsList-from_vec {s = c.into_iter-runner-iterator.result} c.args.runners.items c.into_iter-runner-iterator.ensures.into_iter_gives.0
    (c.into_iter-runner-iterator.ensures.into_iter_gives.1 ∙ c.args.runners.ok.0))
    c.loop-runner.yielded c.loop-runner.runner-iterator c.loop-runner.yielded_by c.next.result c.next.new.self c.in-Some.runner
    c.in-Some.is c.next.ensures.steps in
    let kept = c.loop-runner.invariant.2 in
    let long = AllZip-long _ c.loop-runner.yielded c.loop-runner.back.devices.items kept.devices in
    let room = kept.devices_room in
    let len = c.loop-runner.back.devices.ok.0 in
    omega (arith, long, turn.0, room, len)

pub loop-runner-preserved : goal.loop-runner-preserved
loop-runner-preserved g c =
    let turn = YieldsList-turn
    (YieldsList-from_vec {s = c.into_iter-runner-iterator.result} c.args.runners.items c.into_iter-runner-iterator.ensures.into_iter_gives.0
    (c.into_iter-runner-iterator.ensures.into_iter_gives.1 ∙ c.args.runners.ok.0))
    c.loop-runner.yielded c.loop-runner.runner-iterator c.loop-runner.yielded_by c.next.result c.next.new.self c.in-Some.runner
    c.in-Some.is c.next.ensures.steps in
    let kept = c.loop-runner.invariant.2 in
    let n = length c.loop-runner.yielded in
    let sites = c.args.posting.sites.now in
    let ledgers = AllZip-long IsLedgerOf c.loop-runner.yielded c.loop-runner.back.ledgers.items kept.ledgers in
    let len = c.loop-runner.back.ledgers.ok.0 in
    let at : c.len-shard.result ≡ n = c.len-shard.ensures ∙ omega (arith, ledgers, len) in
    let many = AllZip-long MeetsAt sites c.args.runners.items c.requires.meets in
    let turned = turn.0 in
    let below : n < length sites = omega (arith, many, turned) in
    let site = c.index-sites-shard.result in
    let is : get_or sites n site ≡ site = sym (c.index-sites-shard.is ∙ ap (λ k. get_or sites k site) at) in
    let before = c.loop-runner.yielded in
    let runner = c.in-Some.runner in
    let popped = c.in-Some-pop.ensures.items in
    let told = c.turn_in-ledger.ensures in
    let fewer = ap length popped ∙ length-append c.pop.new.self.items (c.in-Some-pop.page ∷ []) in
    let more = length-append before (runner ∷ []) in
    let as-many = kept.as_many in (
      tt,
      tt,
      record {
        said = all_more said_by c.args.replies.now.replies.items c.loop-runner.replies.replies.items c.turn_in-ledger.new.replies.replies.items
            before runner kept.said told.said;
        ledgers = rw c.push_reserved.ensures.items (all_zipped_more IsLedgerOf before c.loop-runner.back.ledgers.items runner
            c.turn_in-ledger.result.0 kept.ledgers told.ledger);
        devices = rw c.push_reserved-in-loop-runner.ensures.items (all_zipped_more (AreBack g.D.BlockDevice.told) before c.loop-runner.back.devices.items runner
            c.turn_in-ledger.result.1 kept.devices told.back);
        pages = (last_of (IsPage c.args.room) c.loop-runner.pages.items c.pop.new.self.items c.in-Some-pop.page popped kept.pages).1;
        posts = subst (λ k. AllZip (StandsAt g.D.BlockDevice.told g.D.BlockDevice.promised) (exchanges_at (drop k sites))
            (reverse c.turn_in-ledger.new.posts.items)) (sym more)
            (told.posts (exchanges_at (drop (n + 1) sites))
            (subst (λ es. AllZip (StandsAt g.D.BlockDevice.told g.D.BlockDevice.promised) es (reverse c.loop-runner.posts.items))
            (at-next sites n site below is) kept.posts));
        as_many = omega (arith, fewer, more, as-many);
        ledgers_room = subst (λ (room : ℕ). length c.args.runners.items ≤ room) (sym c.push_reserved.ensures.capacity) kept.ledgers_room;
        devices_room = subst (λ (room : ℕ). length c.args.runners.items ≤ room) (sym c.push_reserved-in-loop-runner.ensures.capacity) kept.devices_room;
      },
    )

pub returns-clause-said : goal.returns-clause-said
returns-clause-said g c =
    let end = YieldsList-end
    (YieldsList-from_vec {s = c.into_iter-runner-iterator.result} c.args.runners.items c.into_iter-runner-iterator.ensures.into_iter_gives.0
    (c.into_iter-runner-iterator.ensures.into_iter_gives.1 ∙ c.args.runners.ok.0))
    c.loop-runner.yielded c.loop-runner.runner-iterator c.loop-runner.yielded_by c.next.result c.next.new.self c.in-None.is
    c.next.ensures.steps in
    let kept = c.loop-runner.invariant.2 in
    kept.said ∙ ap (λ runners. with_all c.args.replies.now.replies.items (said_by_all runners)) (sym (unchanged c.loop-runner.yielded) ∙ end.0)

pub returns-clause-ledgers : goal.returns-clause-ledgers
returns-clause-ledgers g c =
    let end = YieldsList-end
    (YieldsList-from_vec {s = c.into_iter-runner-iterator.result} c.args.runners.items c.into_iter-runner-iterator.ensures.into_iter_gives.0
    (c.into_iter-runner-iterator.ensures.into_iter_gives.1 ∙ c.args.runners.ok.0))
    c.loop-runner.yielded c.loop-runner.runner-iterator c.loop-runner.yielded_by c.next.result c.next.new.self c.in-None.is
    c.next.ensures.steps in
    let kept = c.loop-runner.invariant.2 in
    subst (λ runners. AllZip IsLedgerOf runners c.loop-runner.back.ledgers.items) (sym (unchanged c.loop-runner.yielded) ∙ end.0) kept.ledgers

pub returns-clause-devices : goal.returns-clause-devices
returns-clause-devices g c =
    let end = YieldsList-end
    (YieldsList-from_vec {s = c.into_iter-runner-iterator.result} c.args.runners.items c.into_iter-runner-iterator.ensures.into_iter_gives.0
    (c.into_iter-runner-iterator.ensures.into_iter_gives.1 ∙ c.args.runners.ok.0))
    c.loop-runner.yielded c.loop-runner.runner-iterator c.loop-runner.yielded_by c.next.result c.next.new.self c.in-None.is
    c.next.ensures.steps in
    let kept = c.loop-runner.invariant.2 in
    subst (λ runners. AllZip (AreBack g.D.BlockDevice.told) runners c.loop-runner.back.devices.items) (sym (unchanged c.loop-runner.yielded) ∙ end.0) kept.devices
