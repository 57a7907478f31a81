use Rattle.std.proofs.Common.{◌<◌, length, sym, subst, refl}
use Rattle.r6_health.specs.Passes.{view_of}
use Rattle.r6_world.specs.Steps.{No_reply, Take_reply}
use Rattle.r6_core.specs.Order.{HasNoReply}
use Rattle.r6_world.specs.Values.{reply_of}
use Rattle.r6_core.specs.Shards.{world_shard}
use Rattle.r6_shard.specs.declared.ledger.Entry.{Entry}
use Rattle.r6_shard.specs.Courses.{AreOf, HasCourse}
use Rattle.r6_shard.proofs.Counting.{passes-none}
use Rattle.r6_shard.proofs.Keeping.{kept-plainly}
use Rattle.r6_shard.proofs.Lasting.{lasts_by}
use Rattle.r6_shard.proofs.Going.{has-gone, has-collected, is-of, linked-more}
use Rattle.r6_shard.specs.Own.{SeesFailure}
use Rattle.r6_shard.proofs.Own.{failure-on, failure-replied}
use Rattle.r6_shard.proofs.Sound.{sound-by}
use Rattle.r6_shard.proofs.Whole.{skips-by}
use Rattle.r6_shard.specs.Answering.{AreOnce}
use Rattle.r6_shard.proofs.Answering.{once-on, once-replied}
use Rattle.r6_shard.specs.Replying.{AreOfKind}
use Rattle.r6_shard.proofs.Replying.{kinds-on, kinds-replied}
use Rattle.r6_shard.proofs.Here.{here-by}
use Rattle.r6_shard.proofs.Looked.{knows-on}
use Rattle.r6_shard.proofs.shard.Shard.collect.Goals as goal

pub invariant_of-self-clause-kept : goal.invariant_of-self-clause-kept
invariant_of-self-clause-kept g c =
    let old = c.args.self.now in
    kept-plainly old.core No_reply c.take_reply.new.self (g.P.Performs.performer old.parts).out old.number old.named (length old.asked.items) (record {}) c.in_default.ensures.reply.step old.kept

pub invariant_of-self-2-clause-kept : goal.invariant_of-self-2-clause-kept
invariant_of-self-2-clause-kept g c =
    let old = c.args.self.now in
    kept-plainly old.core (Take_reply c.in-Some.id.0 (reply_of c.in-Some.reply)) c.take_reply.new.self
    (g.P.Performs.performer old.parts).out old.number old.named
    (length old.asked.items) (record {}) c.in-Some.ensures.reply.step old.kept

pub invariant_of-self-clause-failure : goal.invariant_of-self-clause-failure
invariant_of-self-clause-failure g c =
    let old = c.args.self.now in
    failure-on old.core No_reply c.take_reply.new.self (view_of old.pass) old.entries.items (record {}) c.in_default.ensures.reply.step old.failure

pub invariant_of-self-2-clause-failure : goal.invariant_of-self-2-clause-failure
invariant_of-self-2-clause-failure g c =
    let old = c.args.self.now in
    let asked = c.index-asked.result.now in
    let entry : Entry = record { event = asked.event; id = c.in-Some.id; block = asked.block; reply = c.in-Some.reply } in
    subst (SeesFailure c.take_reply.new.self (view_of old.pass)) (sym c.push_reserved.ensures.items)
    (failure-replied old.core c.take_reply.new.self (view_of old.pass) old.entries.items entry c.in-Some.ensures.reply.step old.failure)

pub returns-in_default-clause-passed : goal.returns-in_default-clause-passed
returns-in_default-clause-passed g c = passes-none c.args.self.now.core No_reply c.take_reply.new.self refl c.in_default.ensures.reply.step

pub returns-clause-passed : goal.returns-clause-passed
returns-clause-passed g c =
    passes-none c.args.self.now.core (Take_reply c.in-Some.id.0 (reply_of c.in-Some.reply)) c.take_reply.new.self refl c.in-Some.ensures.reply.step

pub invariant_of-self-clause-whole : goal.invariant_of-self-clause-whole
invariant_of-self-clause-whole g c =
    let old = c.args.self.now in
    skips-by old.named old.saw_out old.core No_reply c.take_reply.new.self (λ y. record {}) c.in_default.ensures.reply.step old.whole

pub invariant_of-self-2-clause-whole : goal.invariant_of-self-2-clause-whole
invariant_of-self-2-clause-whole g c =
    let old = c.args.self.now in
    skips-by old.named old.saw_out old.core (Take_reply c.in-Some.id.0 (reply_of c.in-Some.reply)) c.take_reply.new.self (λ y. record {})
    c.in-Some.ensures.reply.step old.whole

pub returns-in_default-clause-advances : goal.returns-in_default-clause-advances
returns-in_default-clause-advances g c =
    let old = c.args.self.now in
    let new = c.take_reply.new.self in
    let own = g.P.Performs.performer old.parts in
    let step = c.in_default.ensures.reply.step in
    record {
      course = λ s ops x.
          has-gone s old.core new (view_of old.pass) old.last.attaches old.named own.out own.tells old.asked.items old.entries.items ops No_reply (record {})
          (λ history. refl) step x;
      lasts = lasts_by old.core No_reply new c.take_reply.ensures.window step;
      remembers = λ x. x;
      sound = λ shape number slot x.
          sound-by own shape number slot old.core No_reply new old.named (record {}) step x;
      labels_stay = refl;
      room_stays = refl;
      site_stays = refl;
      here = λ slot x. here-by own.labels slot old.core No_reply new (record {}) step x;
    }

pub returns-clause-advances : goal.returns-clause-advances
returns-clause-advances g c =
    let old = c.args.self.now in
    let new = c.take_reply.new.self in
    let own = g.P.Performs.performer old.parts in
    let v = view_of old.pass in
    let step = c.in-Some.ensures.reply.step in
    let id = c.in-Some.id.0 in
    let taking = Take_reply id (reply_of c.in-Some.reply) in
    let asked = c.index-asked.result.now in
    let entry : Entry = record { event = asked.event; id = c.in-Some.id; block = asked.block; reply = c.in-Some.reply } in
    let below : id < length old.asked.items = old.kept.2.1 id _ step.1.1 in
    record {
      course = λ s ops x.
          subst (λ z. HasCourse s new v old.last.attaches old.named own.out own.tells old.asked.items z ops) (sym c.push_reserved.ensures.items)
          (has-collected s old.core new v old.last.attaches old.named own.out own.tells old.asked.items old.entries.items ops entry step
          (is-of old.asked.items id below asked (sym c.index-asked.ensures) entry refl refl refl) x);
      lasts = lasts_by old.core taking new c.take_reply.ensures.window step;
      remembers = λ x. x;
      sound = λ shape number slot x.
          sound-by own shape number slot old.core taking new old.named (record {}) step x;
      labels_stay = refl;
      room_stays = refl;
      site_stays = refl;
      here = λ slot x. here-by own.labels slot old.core taking new (record {}) step x;
    }

pub invariant_of-self-clause-knows : goal.invariant_of-self-clause-knows
invariant_of-self-clause-knows g c =
    let old = c.args.self.now in
    knows-on old.core No_reply c.take_reply.new.self old.last (record {}) c.in_default.ensures.reply.step old.knows

pub invariant_of-self-2-clause-knows : goal.invariant_of-self-2-clause-knows
invariant_of-self-2-clause-knows g c =
    let old = c.args.self.now in
    knows-on old.core (Take_reply c.in-Some.id.0 (reply_of c.in-Some.reply)) c.take_reply.new.self old.last (record {}) c.in-Some.ensures.reply.step old.knows

pub invariant_of-self-2-clause-linked : goal.invariant_of-self-2-clause-linked
invariant_of-self-2-clause-linked g c =
    let old = c.args.self.now in
    let asked = c.index-asked.result.now in
    let entry : Entry = record { event = asked.event; id = c.in-Some.id; block = asked.block; reply = c.in-Some.reply } in
    subst (AreOf old.asked.items) (sym c.push_reserved.ensures.items)
    (linked-more old.asked.items old.entries.items entry old.linked
    (is-of old.asked.items c.in-Some.id.0 (old.kept.2.1 c.in-Some.id.0 _ c.in-Some.ensures.reply.step.1.1) asked (sym c.index-asked.ensures) entry refl refl refl))

pub invariant_of-self-clause-kinds : goal.invariant_of-self-clause-kinds
invariant_of-self-clause-kinds g c =
    let old = c.args.self.now in
    kinds-on old.core No_reply c.take_reply.new.self old.asked.items old.entries.items (λ is. is) c.in_default.ensures.reply.step old.kinds

pub invariant_of-self-2-clause-kinds : goal.invariant_of-self-2-clause-kinds
invariant_of-self-2-clause-kinds g c =
    let old = c.args.self.now in
    let asked = c.index-asked.result.now in
    let entry : Entry = record { event = asked.event; id = c.in-Some.id; block = asked.block; reply = c.in-Some.reply } in
    subst (AreOfKind c.take_reply.new.self old.asked.items) (sym c.push_reserved.ensures.items)
    (kinds-replied old.core c.take_reply.new.self old.asked.items old.entries.items entry c.in-Some.ensures.reply old.kinds)

pub invariant_of-self-clause-once : goal.invariant_of-self-clause-once
invariant_of-self-clause-once g c =
    let old = c.args.self.now in
    once-on old.core No_reply c.take_reply.new.self old.entries.items (λ is. is) c.in_default.ensures.reply.step old.once

pub invariant_of-self-2-clause-once : goal.invariant_of-self-2-clause-once
invariant_of-self-2-clause-once g c =
    let old = c.args.self.now in
    let asked = c.index-asked.result.now in
    let entry : Entry = record { event = asked.event; id = c.in-Some.id; block = asked.block; reply = c.in-Some.reply } in
    subst (AreOnce (world_shard c.take_reply.new.self)) (sym c.push_reserved.ensures.items)
    (once-replied old.core c.take_reply.new.self old.entries.items entry c.in-Some.ensures.reply.step old.once)

pub returns-clause-ledger : goal.returns-clause-ledger
returns-clause-ledger g c =
    let old = c.args.self.now in
    let asked = c.index-asked.result.now in
    let entry : Entry = record { event = asked.event; id = c.in-Some.id; block = asked.block; reply = c.in-Some.reply } in (
      entry,
      is-of old.asked.items c.in-Some.id.0 (old.kept.2.1 c.in-Some.id.0 _ c.in-Some.ensures.reply.step.1.1) asked (sym c.index-asked.ensures) entry refl refl refl,
      c.in-Some.ensures.reply,
      c.push_reserved.ensures.items,
    )

pub returns-in_default-clause-ledger : goal.returns-in_default-clause-ledger
returns-in_default-clause-ledger g c =
    let reply = c.in_default.ensures.reply in
    (refl, subst HasNoReply (sym reply.same) reply.none)
