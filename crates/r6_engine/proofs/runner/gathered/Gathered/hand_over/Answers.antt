use Rattle.std.proofs.Common.{◌≡◌, ◌∙◌, [], refl, rules, subst, sym, vec_capacity}
use Rattle.r6_shard.specs.Refusing.{IsRefusedFor}
use Rattle.r6_shard.proofs.Taken.{next-refused}
use Rattle.r6_engine.proofs.RunnerLemmas.Together.{all-handed, first-handing, first-same, refused-handing, still-handing, taken-handing}
use Rattle.r6_engine.proofs.runner.gathered.Gathered.hand_over.Goals as goal

pub loop-shard-init : goal.loop-shard-init
loop-shard-init g c = record {
  handing = first-handing c.args.self.now.events.items c.args.self.now.ops.items c.args.shard.now c.args.refused.now.items;
  room = refl;
}

pub submit_all-submitted-requires : goal.submit_all-submitted-requires
submit_all-submitted-requires g c =
    let l = c.loop-shard in
    let still = still-handing c.args.self.now.events.items c.args.self.now.ops.items c.args.shard.now c.args.refused.now.items l.self.events.items l.self.ops.items l.shard l.refused.items
    (vec_capacity c.args.refused.now) l.invariant.handing (record { few = c.requires.few; room = c.requires.room; refused_room = c.requires.refused_room }) in
    record { numbered = l.self.numbered; room = still.room }

pub loop-shard-preserved : goal.loop-shard-preserved
loop-shard-preserved g c =
    let events = c.args.self.now.events.items in
    let ops = c.args.self.now.ops.items in
    let old = c.args.shard.now in
    let refused = c.args.refused.now.items in
    let l = c.loop-shard in
    let s = c.submit_all-submitted in
    let e = s.ensures in
    let still = still-handing events ops old refused l.self.events.items l.self.ops.items l.shard l.refused.items
    (vec_capacity c.args.refused.now) l.invariant.handing (record { few = c.requires.few; room = c.requires.room; refused_room = c.requires.refused_room }) in
    let taken = taken-handing events ops old refused l.self.events.items s.new.events.items l.self.ops.items s.new.ops.items l.shard s.new.self l.refused.items s.result l.invariant.handing
    l.self.numbered e.submitted (record { lasts = e.lasts; remembers = e.remembers; sound = e.sound; here = e.here; passed = e.passed }) e.events in
    let next = next-refused l.shard.core s.new.self.core l.self.ops.items s.new.ops.items s.result c.in-Some.refusal e.submitted.submits c.in-Some.is still.few in
    let first = c.in-Some-pop_first.ensures.first in
    let same = first-same next.0 first.0 next.1 c.pop_first.new.self.ops.items (sym next.2 ∙ first.1) in
    record {
      handing = refused-handing events ops old refused c.in-Some-pop_first.event c.pop_first.new.self.events.items first.0 c.pop_first.new.self.ops.items s.new.self l.refused.items
          c.push_reserved.new.self.items c.in-Some.refusal s.new.events.items s.new.ops.items taken first.2 first.1
          (subst (λ o. IsRefusedFor s.new.self.core o c.in-Some.refusal) same next.3) c.push_reserved.ensures.items;
      room = c.push_reserved.ensures.capacity ∙ l.invariant.room;
    }

pub returns-in_default-clause-handed : goal.returns-in_default-clause-handed
returns-in_default-clause-handed g c =
    let events = c.args.self.now.events.items in
    let ops = c.args.self.now.ops.items in
    let l = c.loop-shard in
    let s = c.submit_all-submitted in
    let e = s.ensures in
    let none : s.new.ops.items ≡ [] = search rules in
    all-handed events ops c.args.shard.now c.args.refused.now.items s.new.events.items s.new.ops.items s.new.self l.refused.items
    (taken-handing events ops c.args.shard.now c.args.refused.now.items l.self.events.items s.new.events.items l.self.ops.items s.new.ops.items l.shard s.new.self l.refused.items s.result
    l.invariant.handing l.self.numbered e.submitted (record { lasts = e.lasts; remembers = e.remembers; sound = e.sound; here = e.here; passed = e.passed }) e.events)
    none e.numbered
