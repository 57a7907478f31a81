use Rattle.std.proofs.Common.{◌≡◌, ◌+◌, ◌++◌, ◌∷◌, [], length, vec_len, subst, sym, ap, refl, ◌∙◌, rules}
use Rattle.std.proofs.lemmas.List.{length-append}
use Rattle.r6_health.specs.Passes.{view_of}
use Rattle.r6_world.specs.Values.{op_of}
use Rattle.r6_world.specs.Steps.{Submit}
use Rattle.r6_core.specs.Shards.{CoreView, core_layout, world_shard}
use Rattle.r6_shard.specs.Kept.{IsKept}
use Rattle.r6_shard.specs.Courses.{HasCourse}
use Rattle.r6_shard.proofs.Counting.{passes-none, passes-same}
use Rattle.r6_shard.proofs.Steps.{one-more}
use Rattle.r6_shard.proofs.Keeping.{kept-submitting}
use Rattle.r6_shard.proofs.Going.{has-submitted, linked-longer}
use Rattle.r6_shard.proofs.Lasting.{lasts_by, lasts_same}
use Rattle.r6_shard.proofs.Own.{failure-on, failure-same}
use Rattle.r6_shard.proofs.Sound.{sound-by, sound-same}
use Rattle.r6_shard.proofs.Whole.{skips-by, skips-same}
use Rattle.r6_shard.proofs.Again.{shard-again}
use Rattle.r6_shard.specs.Courses.{AreOf}
use Rattle.r6_shard.proofs.Answering.{once-same, once-submitted}
use Rattle.r6_shard.proofs.Here.{here-by, here-same}
use Rattle.r6_shard.proofs.Looked.{knows-on, knows-same}
use Rattle.r6_shard.specs.Replying.{AreOfKind}
use Rattle.r6_shard.proofs.Replying.{kinds-submitted, noted}
use Rattle.r6_shard.proofs.shard.Shard.submit.Goals as goal

pub invariant_of-self-clause-kept : goal.invariant_of-self-clause-kept
invariant_of-self-clause-kept g c =
    let old = c.args.self.now in
    let out = (g.P.Performs.performer old.parts).out in
    subst (IsKept c.submit.new.self out old.number old.named)
    (sym (ap length c.push_reserved.ensures.items ∙ length-append old.asked.items (record { event = c.args.event; block = c.block-block.result; writes = c.is_write-writes.result; answered = c.len-answered.result } ∷ [])))
    (kept-submitting old.core (op_of c.args.op) c.in-Ok.id.0 c.submit.new.self out old.number old.named (length old.asked.items) c.in-Ok.ensures.accepted.step old.kept)

pub invariant_of-self-in-Err-1 : goal.invariant_of-self-in-Err-1
invariant_of-self-in-Err-1 g c =
    let old = c.args.self.now in
    let same = c.in-Err.ensures.refused.same in
    record {
      kept = subst (λ y. IsKept y (g.P.Performs.performer old.parts).out old.number old.named (length old.asked.items)) (sym same) old.kept;
      held = old.held;
      own = old.own;
      pass_name = old.pass_name;
      no_names = old.no_names;
      calls = old.calls;
      failure = failure-same old.core c.submit.new.self (view_of old.pass) old.entries.items same old.failure;
      whole = skips-same old.named old.saw_out old.core c.submit.new.self same old.whole;
      saw = old.saw;
      knows = knows-same old.core c.submit.new.self old.last same old.knows;
      seen = old.seen;
      linked = old.linked;
      once = once-same old.core c.submit.new.self old.entries.items same old.once;
      kinds = subst (λ y. AreOfKind y old.asked.items old.entries.items) (sym same) old.kinds;
      counted = ap (λ (y : CoreView). y.unanswered + length old.entries.items) same ∙ old.counted;
      within = old.within;
      asked_room = old.asked_room;
      entries_room = old.entries_room;
    }

pub invariant_of-self-clause-kinds : goal.invariant_of-self-clause-kinds
invariant_of-self-clause-kinds g c =
    let old = c.args.self.now in
    let op = c.args.op in
    subst (λ y. AreOfKind c.submit.new.self y old.entries.items)
    (sym (c.push_reserved.ensures.items
    ∙ ap (λ a. old.asked.items ++ a ∷ []) (noted c.args.event (op_of op) c.block-block.result c.is_write-writes.result c.len-answered.result c.len-answered.result
    c.block-block.ensures c.is_write-writes.ensures refl)))
    (kinds-submitted old.core (op_of op) c.in-Ok.id.0 c.submit.new.self old.asked.items old.entries.items c.args.event c.len-answered.result
    c.in-Ok.ensures.accepted.step old.kept.2 old.linked old.kinds)

pub invariant_of-self-clause-failure : goal.invariant_of-self-clause-failure
invariant_of-self-clause-failure g c =
    let old = c.args.self.now in
    failure-on old.core (Submit (op_of c.args.op) c.in-Ok.id.0) c.submit.new.self (view_of old.pass) old.entries.items (record {})
    c.in-Ok.ensures.accepted.step old.failure

pub returns-in-Ok-clause-accepted : goal.returns-in-Ok-clause-accepted
returns-in-Ok-clause-accepted g c =
    let old = c.args.self.now in
    let op = c.args.op in
    let new = c.submit.new.self in
    let id = c.in-Ok.id.0 in
    let step = c.in-Ok.ensures.accepted.step in
    let own = g.P.Performs.performer old.parts in
    let v = view_of old.pass in
    let number : id ≡ length old.asked.items =
    (one-more (core_layout old.core) old.core.shard (world_shard old.core) (world_shard new) (op_of op) id (length old.asked.items) step.1 old.kept.2).0 in
    let many : vec_len old.entries ≡ length old.entries.items = search rules in
    let asked = c.push_reserved.ensures.items
    ∙ ap (λ a. old.asked.items ++ a ∷ []) (noted c.args.event (op_of op) c.block-block.result c.is_write-writes.result c.len-answered.result (length old.entries.items)
    c.block-block.ensures c.is_write-writes.ensures (c.len-answered.ensures ∙ many)) in
    record {
      course = λ s ops x.
          subst (λ z. HasCourse s new v old.last.attaches old.named own.out own.tells z old.entries.items (ops ++ op_of op ∷ [])) (sym asked)
          (has-submitted s old.core new v old.last.attaches old.named own.out own.tells old.asked.items old.entries.items ops c.args.event (op_of op) id number step x);
      number = number;
      asked = asked;
      entries = refl;
      room = refl;
      pass = refl;
      parts = refl;
      last = refl;
    }

pub returns-in-Ok-clause-lasts : goal.returns-in-Ok-clause-lasts
returns-in-Ok-clause-lasts g c =
    lasts_by c.args.self.now.core (Submit (op_of c.args.op) c.in-Ok.id.0) c.submit.new.self c.submit.ensures.window c.in-Ok.ensures.accepted.step

pub returns-in-Err-clause-lasts : goal.returns-in-Err-clause-lasts
returns-in-Err-clause-lasts g c = lasts_same c.args.self.now.core c.submit.new.self c.in-Err.ensures.refused.same

pub returns-in-Ok-clause-passed : goal.returns-in-Ok-clause-passed
returns-in-Ok-clause-passed g c =
    passes-none c.args.self.now.core (Submit (op_of c.args.op) c.in-Ok.id.0) c.submit.new.self refl c.in-Ok.ensures.accepted.step

pub returns-in-Err-clause-passed : goal.returns-in-Err-clause-passed
returns-in-Err-clause-passed g c = passes-same c.args.self.now.core c.submit.new.self c.in-Err.ensures.refused.same

pub returns-in-Ok-clause-sound : goal.returns-in-Ok-clause-sound
returns-in-Ok-clause-sound g c = λ shape number slot x.
    let old = c.args.self.now in
    sound-by (g.P.Performs.performer old.parts) shape number slot old.core (Submit (op_of c.args.op) c.in-Ok.id.0) c.submit.new.self old.named
    (record {}) c.in-Ok.ensures.accepted.step x

pub returns-in-Err-clause-sound : goal.returns-in-Err-clause-sound
returns-in-Err-clause-sound g c = λ shape number slot x.
    let old = c.args.self.now in
    sound-same (g.P.Performs.performer old.parts) shape number slot old.core c.submit.new.self old.named c.in-Err.ensures.refused.same x

pub invariant_of-self-clause-whole : goal.invariant_of-self-clause-whole
invariant_of-self-clause-whole g c =
    let old = c.args.self.now in
    skips-by old.named old.saw_out old.core (Submit (op_of c.args.op) c.in-Ok.id.0) c.submit.new.self (λ y. record {}) c.in-Ok.ensures.accepted.step old.whole

pub returns-in-Err-clause-same : goal.returns-in-Err-clause-same
returns-in-Err-clause-same g c = shard-again c.args.self.now c.submit.new.self c.args.self.now.parts (sym c.in-Err.ensures.refused.same) refl _ _ _ _ _ _ _ _ _ _ _ _ _ _ _ _ _ _

pub invariant_of-self-clause-knows : goal.invariant_of-self-clause-knows
invariant_of-self-clause-knows g c =
    let old = c.args.self.now in
    knows-on old.core (Submit (op_of c.args.op) c.in-Ok.id.0) c.submit.new.self old.last (record {}) c.in-Ok.ensures.accepted.step old.knows

pub invariant_of-self-clause-linked : goal.invariant_of-self-clause-linked
invariant_of-self-clause-linked g c =
    let old = c.args.self.now in
    subst (λ y. AreOf y old.entries.items) (sym c.push_reserved.ensures.items) (linked-longer old.asked.items _ old.entries.items old.linked)

pub invariant_of-self-clause-once : goal.invariant_of-self-clause-once
invariant_of-self-clause-once g c =
    let old = c.args.self.now in
    once-submitted old.core (op_of c.args.op) c.in-Ok.id.0 c.submit.new.self old.asked.items old.entries.items c.in-Ok.ensures.accepted.step
    old.kept.2 old.linked old.once

pub returns-in-Ok-clause-here : goal.returns-in-Ok-clause-here
returns-in-Ok-clause-here g c = λ slot x.
    let old = c.args.self.now in
    here-by (g.P.Performs.performer old.parts).labels slot old.core (Submit (op_of c.args.op) c.in-Ok.id.0) c.submit.new.self (record {})
    c.in-Ok.ensures.accepted.step x

pub returns-in-Err-clause-here : goal.returns-in-Err-clause-here
returns-in-Err-clause-here g c = λ slot x.
    let old = c.args.self.now in
    here-same (g.P.Performs.performer old.parts).labels slot old.core c.submit.new.self c.in-Err.ensures.refused.same x
