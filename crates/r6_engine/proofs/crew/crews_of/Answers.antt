use Rattle.std.proofs.Common.{◌≡◌, ◌≤◌, ◌+◌, ◌++◌, ◌∷◌, [], ℕ, All, ap, arith, count_by, length, map, subst, sym, ◌∙◌}
use Rattle.std.specs.List.{AllZip}
use Rattle.std.proofs.lemmas.Iterator.Adapters.{YieldsList-from_vec}
use Rattle.std.proofs.lemmas.Iterator.Consumers.{YieldsList-turn, YieldsList-end}
use Rattle.std.proofs.lemmas.List.{length-map, map_push}
use Rattle.std.proofs.lemmas.List.Elements.{All-nil, All-push}
use Rattle.std.proofs.lemmas.Slice.Zip.{AllZip-long, all_zipped_more}
use Rattle.r6_engine.specs.feed.Events.{events_of, brings_device}
use Rattle.r6_shard.specs.declared.parts.Parts.{Parts}
use Rattle.r6_engine.specs.Crews.{HasRoom, IsCrew}
use Rattle.r6_engine.specs.declared.crew.Crew.{Crew}
use Rattle.r6_engine.specs.Stops.{stopping_in}
use Rattle.r6_engine.proofs.Numbers.{each_more, unchanged}
use Rattle.r6_engine.proofs.Stops.{HaveStops, are-steady}
use Rattle.r6_engine.proofs.crew.crews_of.Goals as goal

pub push_reserved-requires : goal.push_reserved-requires
push_reserved-requires g c =
    let turn = YieldsList-turn
    (YieldsList-from_vec {s = c.into_iter-parts-iterator.result} c.args.parts.items c.into_iter-parts-iterator.ensures.into_iter_gives.0
    (c.into_iter-parts-iterator.ensures.into_iter_gives.1 ∙ c.args.parts.ok.0))
    c.loop-parts.yielded c.loop-parts.parts-iterator c.loop-parts.yielded_by c.next.result c.next.new.self c.in-Some.parts c.in-Some.is
    c.next.ensures.steps in
    let kept = c.loop-parts.invariant.2 in
    let below = turn.0 in
    let long = AllZip-long (IsCrew g.D.BlockDevice.told g.D.BlockDevice.promised c.args.config.now.workers) c.loop-parts.sites.items c.loop-parts.crews.items kept.each in
    let many = ap length kept.parts in
    let same = length-map c.loop-parts.crews.items (λ crew. crew.parts) in
    let len = c.loop-parts.sites.ok.0 in
    let room = kept.sites_room in
    omega (arith, below, long, many, same, len, room)

pub push_reserved-requires-in-loop-parts : goal.push_reserved-requires-in-loop-parts
push_reserved-requires-in-loop-parts g c =
    let turn = YieldsList-turn
    (YieldsList-from_vec {s = c.into_iter-parts-iterator.result} c.args.parts.items c.into_iter-parts-iterator.ensures.into_iter_gives.0
    (c.into_iter-parts-iterator.ensures.into_iter_gives.1 ∙ c.args.parts.ok.0))
    c.loop-parts.yielded c.loop-parts.parts-iterator c.loop-parts.yielded_by c.next.result c.next.new.self c.in-Some.parts c.in-Some.is
    c.next.ensures.steps in
    let kept = c.loop-parts.invariant.2 in
    let below = turn.0 in
    let many = ap length kept.parts in
    let same = length-map c.loop-parts.crews.items (λ crew. crew.parts) in
    let len = c.loop-parts.crews.ok.0 in
    let room = kept.crews_room in
    omega (arith, below, many, same, len, room)

pub loop-parts-init : goal.loop-parts-init
loop-parts-init g c =
    let told = g.D.BlockDevice.told in
    let promised = g.D.BlockDevice.promised in
    let events = events_of told c.args.events.now in
    let len = c.args.parts.ok.0 in
    let sites = c.in_ok-sites.ensures.capacity in
    let crews = c.in_ok-crews.ensures.capacity in (
      tt,
      tt,
      record {
        each = subst (λ ss. AllZip (IsCrew told promised c.args.config.now.workers) ss c.in_ok-crews.crews.items) (sym c.in_ok-sites.ensures.items)
            (subst (AllZip (IsCrew told promised c.args.config.now.workers) []) (sym c.in_ok-crews.ensures.items) tt);
        parts = ap (map (λ crew. crew.parts)) c.in_ok-crews.ensures.items;
        room = subst (All (HasRoom events)) (sym c.in_ok-crews.ensures.items) (All-nil (HasRoom events));
        stops = λ k d below. absurd (let none = ap length c.in_ok-crews.ensures.items in omega (arith, below, none));
        attaches = c.count_devices-attaches.ensures;
        sites_room = omega (arith, len, sites);
        crews_room = omega (arith, len, crews);
      },
    )

pub loop-parts-preserved : goal.loop-parts-preserved
loop-parts-preserved g c =
    let told = g.D.BlockDevice.told in
    let promised = g.D.BlockDevice.promised in
    let events = events_of told c.args.events.now in
    let kept = c.loop-parts.invariant.2 in
    let sites = c.loop-parts.sites.items in
    let crews = c.loop-parts.crews.items in
    let site = c.in_ok-site.site in
    let crew = c.in_ok-site.crew in
    let made = c.in_ok-site.ensures in
    let len = c.len-in-loop-parts.ensures ∙ c.in-Some.parts.parts.ok.0 in
    let same = ap (λ (p : Parts _). length p.parts.items) made.parts.0 in
    let room = made.parts.1 in
    let sum = c.in-Some-checked_add.ensures.1 in
    let attaches = kept.attaches in
    let one : crew.room ≡ length crew.parts.parts.items + count_by brings_device events = omega (arith, room, sum, len, same, attaches) in (
      tt,
      tt,
      record {
        each = subst (λ ss. AllZip (IsCrew told promised c.args.config.now.workers) ss c.push_reserved-in-loop-parts.new.self.items) (sym c.push_reserved.ensures.items)
            (subst (AllZip (IsCrew told promised c.args.config.now.workers) (sites ++ site ∷ [])) (sym c.push_reserved-in-loop-parts.ensures.items)
            (all_zipped_more (IsCrew told promised c.args.config.now.workers) sites crews site crew kept.each made.crew));
        parts = ap (map (λ crew. crew.parts)) c.push_reserved-in-loop-parts.ensures.items ∙ map_push (λ crew. crew.parts) crews crew
            ∙ (λ i. kept.parts i ++ made.parts.0 i ∷ []);
        room = subst (All (HasRoom events)) (sym c.push_reserved-in-loop-parts.ensures.items) (All-push (HasRoom events) crews crew kept.room one);
        stops = subst (HaveStops c.args.config.now.stop) (sym c.push_reserved-in-loop-parts.ensures.items)
            (each_more (λ (x : Crew _). x.stop) (stopping_in c.args.config.now.stop) crews crew kept.stops
            (made.stop ∙ ap (stopping_in c.args.config.now.stop) (c.len-in-loop-parts-2.ensures ∙ c.loop-parts.crews.ok.0)));
        attaches = kept.attaches;
        sites_room = subst (λ (n : ℕ). length c.args.parts.items ≤ n) (sym c.push_reserved.ensures.capacity) kept.sites_room;
        crews_room = subst (λ (n : ℕ). length c.args.parts.items ≤ n) (sym c.push_reserved-in-loop-parts.ensures.capacity) kept.crews_room;
      },
    )

pub returns-clause-crews : goal.returns-clause-crews
returns-clause-crews g c = record { each = c.loop-parts.invariant.2.each; room = c.loop-parts.invariant.2.room }

pub returns-clause-parts : goal.returns-clause-parts
returns-clause-parts g c =
    let end = YieldsList-end
    (YieldsList-from_vec {s = c.into_iter-parts-iterator.result} c.args.parts.items c.into_iter-parts-iterator.ensures.into_iter_gives.0
    (c.into_iter-parts-iterator.ensures.into_iter_gives.1 ∙ c.args.parts.ok.0))
    c.loop-parts.yielded c.loop-parts.parts-iterator c.loop-parts.yielded_by c.next.result c.next.new.self c.in-None.is
    c.next.ensures.steps in
    c.loop-parts.invariant.2.parts ∙ sym (unchanged c.loop-parts.yielded) ∙ end.0

pub returns-clause-steady : goal.returns-clause-steady
returns-clause-steady g c =
    are-steady g.D.BlockDevice.told g.D.BlockDevice.promised c.args.config.now.stop c.args.config.now.workers c.loop-parts.sites.items
    c.loop-parts.crews.items c.loop-parts.invariant.2.each c.loop-parts.invariant.2.stops
