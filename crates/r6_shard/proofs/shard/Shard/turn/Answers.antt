use Rattle.std.proofs.Common.{◌≡◌, ◌+◌, length, refl, sym, ap, subst, ◌∙◌, Ok, Err}
use Rattle.std.specs.Prelude.{IfOk}
use Rattle.r6_health.specs.Passes.{view_of}
use Rattle.r6_health.specs.Histories.{held}
use Rattle.r6_core.specs.Shards.{CoreView, world_shard}
use Rattle.r6_core.specs.Effects.{Turns, RefusesTurn}
use Rattle.r6_shard.specs.Kept.{IsKept}
use Rattle.r6_shard.specs.Courses.{HasCourse}
use Rattle.r6_core.specs.declared.turn.Turn.{Turn}
use Rattle.r6_shard.specs.Counted.{PassesMore, rows_of}
use Rattle.r6_shard.proofs.Counting.{passes-turned}
use Rattle.r6_shard.proofs.Keeping.{kept-plainly, turned}
use Rattle.r6_shard.specs.Refusing.{Lasts}
use Rattle.r6_shard.proofs.Lasting.{lasts_turned, lasts_same}
use Rattle.r6_shard.proofs.Going.{has-gone, either_way}
use Rattle.r6_shard.specs.Own.{SeesFailure}
use Rattle.r6_shard.proofs.Own.{failure-on, failure-same, plain-sees}
use Rattle.r6_shard.specs.Sound.{IsSound}
use Rattle.r6_shard.proofs.Keeping.{turned-no-look}
use Rattle.r6_shard.proofs.Sound.{sound-by, sound-same}
use Rattle.r6_shard.specs.Whole.{SkipsNone}
use Rattle.r6_shard.proofs.Whole.{skips-by, skips-same, turned-calm}
use Rattle.r6_shard.specs.Answering.{AreOnce}
use Rattle.r6_shard.specs.Here.{HasUsed}
use Rattle.r6_shard.specs.Looked.{KnowsLast}
use Rattle.r6_shard.proofs.Answering.{once-same, once-turned}
use Rattle.r6_shard.specs.Replying.{AreOfKind}
use Rattle.r6_shard.proofs.Replying.{kinds-turned}
use Rattle.r6_shard.proofs.Here.{here-same, here-turned}
use Rattle.r6_shard.proofs.Looked.{knows-same, knows-turned}
use Rattle.r6_shard.proofs.shard.Shard.turn.Goals as goal

pub invariant_of-self-clause-kept : goal.invariant_of-self-clause-kept
invariant_of-self-clause-kept g c =
    let old = c.args.self.now in
    let new = c.turn.new.self in
    let task = c.args.task in
    either_way c.turn.result (λ turn. Turns old.core task turn new) (λ refusal. RefusesTurn old.core task refusal new)
    (IsKept new (g.P.Performs.performer old.parts).out old.number old.named (length old.asked.items)) c.turn.ensures.turned c.turn.ensures.refused
    (λ turn t.
    let p = turned old.core task turn new t.taken in
    kept-plainly old.core p.0 new (g.P.Performs.performer old.parts).out old.number old.named (length old.asked.items) p.1 p.5 old.kept)
    (λ refusal refused.
    subst (λ y. IsKept y (g.P.Performs.performer old.parts).out old.number old.named (length old.asked.items)) (sym refused.same) old.kept)

pub invariant_of-self-clause-counted : goal.invariant_of-self-clause-counted
invariant_of-self-clause-counted g c =
    let old = c.args.self.now in
    let new = c.turn.new.self in
    let task = c.args.task in
    either_way c.turn.result (λ turn. Turns old.core task turn new) (λ refusal. RefusesTurn old.core task refusal new)
    (new.unanswered + length old.entries.items ≡ length old.asked.items) c.turn.ensures.turned c.turn.ensures.refused
    (λ turn t. ap (λ y. y + length old.entries.items) t.unanswered ∙ old.counted)
    (λ refusal refused. ap (λ (y : CoreView). y.unanswered + length old.entries.items) refused.same ∙ old.counted)

pub invariant_of-self-clause-failure : goal.invariant_of-self-clause-failure
invariant_of-self-clause-failure g c =
    let old = c.args.self.now in
    let new = c.turn.new.self in
    let task = c.args.task in
    let v = view_of old.pass in
    either_way c.turn.result (λ turn. Turns old.core task turn new) (λ refusal. RefusesTurn old.core task refusal new)
    (SeesFailure new v old.entries.items) c.turn.ensures.turned c.turn.ensures.refused
    (λ turn t.
    let p = turned old.core task turn new t.taken in
    failure-on old.core p.0 new v old.entries.items (plain-sees p.0 p.2) p.5 old.failure)
    (λ refusal refused. failure-same old.core new v old.entries.items refused.same old.failure)

pub returns-clause-passed : goal.returns-clause-passed
returns-clause-passed g c =
    let old = c.args.self.now.core in
    let new = c.turn.new.self in
    let task = c.args.task in
    let more = λ (turn : Turn) (t : Turns old task turn new). passes-turned old task turn new t.taken in
    elim c.turn.result as (λ r. IfOk r (λ turn. Turns old task turn new) → IfOk r (λ _. PassesMore (rows_of task) old new)) [
      | Ok turn ↦ λ t. more turn t
      | Err refusal ↦ λ t. t
    ] c.turn.ensures.turned

pub invariant_of-self-clause-whole : goal.invariant_of-self-clause-whole
invariant_of-self-clause-whole g c =
    let old = c.args.self.now in
    let new = c.turn.new.self in
    let task = c.args.task in
    either_way c.turn.result (λ turn. Turns old.core task turn new) (λ refusal. RefusesTurn old.core task refusal new)
    (SkipsNone new old.named old.saw_out) c.turn.ensures.turned c.turn.ensures.refused
    (λ turn t.
    let p = turned old.core task turn new t.taken in
    skips-by old.named old.saw_out old.core p.0 new (λ y. turned-calm old.core task turn new t.taken old.core.shape.slots) p.5 old.whole)
    (λ refusal refused. skips-same old.named old.saw_out old.core new refused.same old.whole)

pub returns-clause-advances : goal.returns-clause-advances
returns-clause-advances g c =
    let old = c.args.self.now in
    let new = c.turn.new.self in
    let task = c.args.task in
    let own = g.P.Performs.performer old.parts in
    let v = view_of old.pass in
    record {
      course = λ s ops x.
          either_way c.turn.result (λ turn. Turns old.core task turn new) (λ refusal. RefusesTurn old.core task refusal new)
          (HasCourse s new v old.last.attaches old.named own.out own.tells old.asked.items old.entries.items ops) c.turn.ensures.turned c.turn.ensures.refused
          (λ turn t.
          let p = turned old.core task turn new t.taken in
          subst (λ y. HasCourse s new v y old.named own.out own.tells old.asked.items old.entries.items ops) (p.4 old.last.attaches)
          (has-gone s old.core new v old.last.attaches old.named own.out own.tells old.asked.items old.entries.items ops p.0 (p.2 (held v.start v.seen)) p.3 p.5 x))
          (λ refusal refused. subst (λ z. HasCourse s z v old.last.attaches old.named own.out own.tells old.asked.items old.entries.items ops) (sym refused.same) x);
      lasts = either_way c.turn.result (λ turn. Turns old.core task turn new) (λ refusal. RefusesTurn old.core task refusal new)
          (Lasts old.core new) c.turn.ensures.turned c.turn.ensures.refused
          (λ turn t. lasts_turned old.core task turn new c.turn.ensures.window t.taken)
          (λ refusal refused. lasts_same old.core new refused.same);
      remembers = λ x. x;
      sound = λ shape number slot x.
          either_way c.turn.result (λ turn. Turns old.core task turn new) (λ refusal. RefusesTurn old.core task refusal new)
          (IsSound own shape number slot new old.named) c.turn.ensures.turned c.turn.ensures.refused
          (λ turn t.
          let p = turned old.core task turn new t.taken in
          sound-by own shape number slot old.core p.0 new old.named (turned-no-look old.core task turn new t.taken) p.5 x)
          (λ refusal refused. sound-same own shape number slot old.core new old.named refused.same x);
      labels_stay = refl;
      room_stays = refl;
      site_stays = refl;
      here = λ slot x.
          let labels = own.labels in
          either_way c.turn.result (λ turn. Turns old.core task turn new) (λ refusal. RefusesTurn old.core task refusal new)
          (HasUsed labels slot new) c.turn.ensures.turned c.turn.ensures.refused
          (λ turn t. here-turned labels slot old.core task turn new t.taken x)
          (λ refusal refused. here-same labels slot old.core new refused.same x);
    }

pub returns-clause-refused : goal.returns-clause-refused
returns-clause-refused g c = c.turn.ensures.refused

pub invariant_of-self-clause-knows : goal.invariant_of-self-clause-knows
invariant_of-self-clause-knows g c =
    let old = c.args.self.now in
    let new = c.turn.new.self in
    let task = c.args.task in
    either_way c.turn.result (λ turn. Turns old.core task turn new) (λ refusal. RefusesTurn old.core task refusal new)
    (KnowsLast new old.last) c.turn.ensures.turned c.turn.ensures.refused
    (λ turn t. knows-turned old.core task turn new old.last t.taken old.knows)
    (λ refusal refused. knows-same old.core new old.last refused.same old.knows)

pub invariant_of-self-clause-kinds : goal.invariant_of-self-clause-kinds
invariant_of-self-clause-kinds g c =
    let old = c.args.self.now in
    let new = c.turn.new.self in
    let task = c.args.task in
    either_way c.turn.result (λ turn. Turns old.core task turn new) (λ refusal. RefusesTurn old.core task refusal new)
    (AreOfKind new old.asked.items old.entries.items) c.turn.ensures.turned c.turn.ensures.refused
    (λ turn t. kinds-turned old.core task turn new old.asked.items old.entries.items t.taken old.kinds)
    (λ refusal refused. subst (λ y. AreOfKind y old.asked.items old.entries.items) (sym refused.same) old.kinds)

pub invariant_of-self-clause-once : goal.invariant_of-self-clause-once
invariant_of-self-clause-once g c =
    let old = c.args.self.now in
    let new = c.turn.new.self in
    let task = c.args.task in
    either_way c.turn.result (λ turn. Turns old.core task turn new) (λ refusal. RefusesTurn old.core task refusal new)
    (AreOnce (world_shard new) old.entries.items) c.turn.ensures.turned c.turn.ensures.refused
    (λ turn t. once-turned old.core task turn new old.entries.items t.taken old.once)
    (λ refusal refused. once-same old.core new old.entries.items refused.same old.once)
