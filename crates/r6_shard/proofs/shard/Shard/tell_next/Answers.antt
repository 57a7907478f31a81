use Rattle.std.proofs.Common.{length, ap, refl, sym, ◌∙◌, arith}
use Rattle.r6_shard.proofs.Numbered.{attaches-later}
use Rattle.r6_world.specs.ShardStates.{Shard}
use Rattle.r6_core.specs.Effects.{Hears, RefusesAnswer}
use Rattle.r6_shard.specs.Kept.{IsKept}
use Rattle.r6_health.specs.Passes.{view_of}
use Rattle.r6_world.specs.Worlds.{as_made}
use Rattle.r6_world.specs.Steps.{No_call, Take_call, Told}
use Rattle.r6_core.specs.Shards.{call_of, world_shard}
use Rattle.r6_shard.proofs.Counting.{passes-none}
use Rattle.r6_shard.proofs.Keeping.{kept-plainly, kept-telling}
use Rattle.r6_shard.proofs.Lasting.{lasts_by, lasts_twice}
use Rattle.r6_shard.proofs.Learned.{keeps-name, calls-after}
use Rattle.r6_shard.proofs.Going.{has-gone, has-told, either_way}
use Rattle.r6_shard.specs.Own.{SeesFailure}
use Rattle.r6_health.proofs.Tells.{seen_after}
use Rattle.r6_shard.proofs.Own.{own-told, failure-on, failure-later}
use Rattle.r6_shard.proofs.Sound.{sound-by, sound-twice}
use Rattle.r6_shard.specs.Whole.{SkipsNone}
use Rattle.r6_shard.proofs.Whole.{skips-by, saw-later}
use Rattle.r6_shard.specs.Answering.{AreOnce}
use Rattle.r6_shard.specs.Looked.{KnowsLast}
use Rattle.r6_shard.proofs.Answering.{once-on}
use Rattle.r6_shard.specs.Replying.{AreOfKind}
use Rattle.r6_shard.proofs.Replying.{kinds-on}
use Rattle.r6_shard.proofs.Here.{here-by, here-twice}
use Rattle.r6_shard.proofs.Looked.{knows-on, knows-twice}
use Rattle.r6_shard.proofs.Driving.{requests-on}
use Rattle.r6_shard.proofs.shard.Shard.tell_next.Goals as goal

pub invariant_of-self-clause-kept : goal.invariant_of-self-clause-kept
invariant_of-self-clause-kept g c =
    let old = c.args.self.now in
    kept-plainly old.core No_call c.take_call.new.self (g.P.Performs.performer old.parts).out old.number old.named (length old.asked.items) (record {}) c.in_default.ensures.step old.kept

pub invariant_of-self-2-clause-kept : goal.invariant_of-self-2-clause-kept
invariant_of-self-2-clause-kept g c =
    let old = c.args.self.now in
    let mid = c.take_call.new.self in
    let new = c.told.new.self in
    let call = c.in-Some.call in
    let answer = c.make-answer.result in
    let takes = c.in-Some.ensures.step in
    either_way c.told.result (λ _. Hears mid call answer new) (λ refusal. RefusesAnswer mid call refusal new)
    (IsKept new (g.P.Performs.performer old.parts).out old.number old.named (length old.asked.items)) c.told.ensures.heard c.told.ensures.refused
    (λ _ heard. kept-telling old.core mid new (call_of call) answer (g.P.Performs.performer old.parts).out old.number old.named (length old.asked.items) takes heard.step old.kept)
    (λ refusal refused. absurd (refused.unknown (ap (λ (y : Shard). y.untold) takes.1.2)))

pub invariant_of-self-clause-failure : goal.invariant_of-self-clause-failure
invariant_of-self-clause-failure g c =
    let old = c.args.self.now in
    failure-on old.core No_call c.take_call.new.self (view_of old.pass) old.entries.items (record {}) c.in_default.ensures.step old.failure

pub invariant_of-self-2-clause-own : goal.invariant_of-self-2-clause-own
invariant_of-self-2-clause-own g c =
    let old = c.args.self.now in
    own-told old.number old.named old.core c.take_call.new.self (call_of c.in-Some.call) c.make-answer.result (view_of old.pass).mine
    (view_of c.make-answer.new.pass).mine old.kept.5 c.in-Some.ensures.step c.make-answer.ensures.own old.own

pub invariant_of-self-2-clause-calls : goal.invariant_of-self-2-clause-calls
invariant_of-self-2-clause-calls g c =
    calls-after (view_of c.args.self.now.pass) (view_of c.make-answer.new.pass) (as_made c.args.self.now.number (call_of c.in-Some.call))
    c.make-answer.result c.make-answer.ensures.answered

pub invariant_of-self-2-clause-pass_name : goal.invariant_of-self-2-clause-pass_name
invariant_of-self-2-clause-pass_name g c =
    (keeps-name (view_of c.args.self.now.pass) (view_of c.make-answer.new.pass) (as_made c.args.self.now.number (call_of c.in-Some.call))
    c.make-answer.result c.make-answer.ensures.answered).0
    ∙ c.args.self.now.pass_name

pub invariant_of-self-2-clause-no_names : goal.invariant_of-self-2-clause-no_names
invariant_of-self-2-clause-no_names g c =
    (keeps-name (view_of c.args.self.now.pass) (view_of c.make-answer.new.pass) (as_made c.args.self.now.number (call_of c.in-Some.call))
    c.make-answer.result c.make-answer.ensures.answered).1
    ∙ c.args.self.now.no_names

pub invariant_of-self-2-clause-failure : goal.invariant_of-self-2-clause-failure
invariant_of-self-2-clause-failure g c =
    let old = c.args.self.now in
    let mid = c.take_call.new.self in
    let new = c.told.new.self in
    let call = c.in-Some.call in
    let answer = c.make-answer.result in
    let v = view_of old.pass in
    let w = view_of c.make-answer.new.pass in
    let entries = old.entries.items in
    let takes = c.in-Some.ensures.step in
    either_way c.told.result (λ _. Hears mid call answer new) (λ refusal. RefusesAnswer mid call refusal new)
    (SeesFailure new w entries) c.told.ensures.heard c.told.ensures.refused
    (λ _ heard.
    failure-later new v w entries (c.make-answer.ensures.pass.same_start ∙ sym c.requires.same_start)
    (seen_after v w (as_made old.number (call_of call)) answer c.make-answer.ensures.answered)
    (failure-on mid (Told (call_of call) answer) new v entries (record {}) heard.step
    (failure-on old.core (Take_call (call_of call)) mid v entries (record {}) takes old.failure)))
    (λ refusal refused. absurd (refused.unknown (ap (λ (y : Shard). y.untold) takes.1.2)))

pub invariant_of-self-2-clause-saw : goal.invariant_of-self-2-clause-saw
invariant_of-self-2-clause-saw g c =
    let old = c.args.self.now in
    let v = view_of old.pass in
    let w = view_of c.make-answer.new.pass in
    saw-later old.saw_out v w (c.make-answer.ensures.pass.same_start ∙ sym c.requires.same_start)
    (seen_after v w (as_made old.number (call_of c.in-Some.call)) c.make-answer.result c.make-answer.ensures.answered) old.saw

pub returns-in_default-clause-passed : goal.returns-in_default-clause-passed
returns-in_default-clause-passed g c = passes-none c.args.self.now.core No_call c.take_call.new.self refl c.in_default.ensures.step

pub returns-clause-passed : goal.returns-clause-passed
returns-clause-passed g c = λ stopped counted rows x.
    let call = call_of c.in-Some.call in
    passes-none c.take_call.new.self (Told call c.make-answer.result) c.told.new.self refl c.in-Ok.ensures.heard.step stopped counted rows
    (passes-none c.args.self.now.core (Take_call call) c.take_call.new.self refl c.in-Some.ensures.step stopped counted rows x)

pub invariant_of-self-clause-whole : goal.invariant_of-self-clause-whole
invariant_of-self-clause-whole g c =
    let old = c.args.self.now in
    skips-by old.named old.saw_out old.core No_call c.take_call.new.self (λ y. record {}) c.in_default.ensures.step old.whole

pub invariant_of-self-2-clause-whole : goal.invariant_of-self-2-clause-whole
invariant_of-self-2-clause-whole g c =
    let old = c.args.self.now in
    let mid = c.take_call.new.self in
    let new = c.told.new.self in
    let call = c.in-Some.call in
    let answer = c.make-answer.result in
    let takes = c.in-Some.ensures.step in
    either_way c.told.result (λ _. Hears mid call answer new) (λ refusal. RefusesAnswer mid call refusal new)
    (SkipsNone new old.named old.saw_out) c.told.ensures.heard c.told.ensures.refused
    (λ _ heard.
    skips-by old.named old.saw_out mid (Told (call_of call) answer) new (λ y. record {}) heard.step
    (skips-by old.named old.saw_out old.core (Take_call (call_of call)) mid (λ y. record {}) takes old.whole))
    (λ refusal refused. absurd (refused.unknown (ap (λ (y : Shard). y.untold) takes.1.2)))

pub returns-in_default-clause-advances : goal.returns-in_default-clause-advances
returns-in_default-clause-advances g c =
    let old = c.args.self.now in
    let new = c.take_call.new.self in
    let own = g.P.Performs.performer old.parts in
    let step = c.in_default.ensures.step in
    record {
      course = λ s ops x.
          has-gone s old.core new (view_of old.pass) old.last.attaches old.named own.out own.tells old.asked.items old.entries.items ops No_call (record {})
          (λ history. refl) step x;
      lasts = lasts_by old.core No_call new c.take_call.ensures.window step;
      remembers = λ x. x;
      sound = λ shape number slot x.
          sound-by own shape number slot old.core No_call new old.named (record {}) step x;
      labels_stay = refl;
      room_stays = refl;
      site_stays = refl;
      here = λ slot x. here-by own.labels slot old.core No_call new (record {}) step x;
    }

pub returns-clause-advances : goal.returns-clause-advances
returns-clause-advances g c =
    let old = c.args.self.now in
    let mid = c.take_call.new.self in
    let new = c.told.new.self in
    let own = g.P.Performs.performer old.parts in
    let call = c.in-Some.call in
    let answer = c.make-answer.result in
    let takes = c.in-Some.ensures.step in
    let hears = c.in-Ok.ensures.heard.step in
    record {
      course = λ s ops x.
          has-told s old.core mid new (view_of old.pass) (view_of c.make-answer.new.pass) old.last.attaches old.named own.out own.tells old.asked.items
          old.entries.items ops old.number call answer old.kept.0 takes hears c.make-answer.ensures.answered x;
      lasts = lasts_twice old.core (Take_call (call_of call)) mid (Told (call_of call) answer) new c.take_call.ensures.window c.told.ensures.window takes hears;
      remembers = λ x. x;
      sound = λ shape number slot x.
          sound-twice own shape number slot old.core (Take_call (call_of call)) mid
          (Told (call_of call) answer) new old.named (record {}) (record {}) takes hears x;
      labels_stay = refl;
      room_stays = refl;
      site_stays = refl;
      here = λ slot x.
          here-twice own.labels slot old.core (Take_call (call_of call)) mid (Told (call_of call) answer) new
          (record {}) (record {}) takes hears x;
    }

pub invariant_of-self-clause-knows : goal.invariant_of-self-clause-knows
invariant_of-self-clause-knows g c =
    let old = c.args.self.now in
    knows-on old.core No_call c.take_call.new.self old.last (record {}) c.in_default.ensures.step old.knows

pub invariant_of-self-2-clause-knows : goal.invariant_of-self-2-clause-knows
invariant_of-self-2-clause-knows g c =
    let old = c.args.self.now in
    let mid = c.take_call.new.self in
    let new = c.told.new.self in
    let call = c.in-Some.call in
    let answer = c.make-answer.result in
    let takes = c.in-Some.ensures.step in
    either_way c.told.result (λ _. Hears mid call answer new) (λ refusal. RefusesAnswer mid call refusal new)
    (KnowsLast new old.last) c.told.ensures.heard c.told.ensures.refused
    (λ _ heard.
    knows-twice old.core (Take_call (call_of call)) mid (Told (call_of call) answer) new old.last (record {}) (record {}) takes heard.step old.knows)
    (λ refusal refused. absurd (refused.unknown (ap (λ (y : Shard). y.untold) takes.1.2)))

pub invariant_of-self-clause-kinds : goal.invariant_of-self-clause-kinds
invariant_of-self-clause-kinds g c =
    let old = c.args.self.now in
    kinds-on old.core No_call c.take_call.new.self old.asked.items old.entries.items (λ is. is) c.in_default.ensures.step old.kinds

pub invariant_of-self-2-clause-kinds : goal.invariant_of-self-2-clause-kinds
invariant_of-self-2-clause-kinds g c =
    let old = c.args.self.now in
    let mid = c.take_call.new.self in
    let new = c.told.new.self in
    let call = c.in-Some.call in
    let answer = c.make-answer.result in
    let takes = c.in-Some.ensures.step in
    let asked = old.asked.items in
    let entries = old.entries.items in
    either_way c.told.result (λ _. Hears mid call answer new) (λ refusal. RefusesAnswer mid call refusal new)
    (AreOfKind new asked entries) c.told.ensures.heard c.told.ensures.refused
    (λ _ heard.
    kinds-on mid (Told (call_of call) answer) new asked entries (λ is. is) heard.step
    (kinds-on old.core (Take_call (call_of call)) mid asked entries (λ is. is) takes old.kinds))
    (λ refusal refused. absurd (refused.unknown (ap (λ (y : Shard). y.untold) takes.1.2)))

pub invariant_of-self-clause-once : goal.invariant_of-self-clause-once
invariant_of-self-clause-once g c =
    let old = c.args.self.now in
    once-on old.core No_call c.take_call.new.self old.entries.items (λ is. is) c.in_default.ensures.step old.once

pub invariant_of-self-2-clause-once : goal.invariant_of-self-2-clause-once
invariant_of-self-2-clause-once g c =
    let old = c.args.self.now in
    let mid = c.take_call.new.self in
    let new = c.told.new.self in
    let call = c.in-Some.call in
    let answer = c.make-answer.result in
    let takes = c.in-Some.ensures.step in
    either_way c.told.result (λ _. Hears mid call answer new) (λ refusal. RefusesAnswer mid call refusal new)
    (AreOnce (world_shard new) old.entries.items) c.told.ensures.heard c.told.ensures.refused
    (λ _ heard.
    once-on mid (Told (call_of call) answer) new old.entries.items (λ is. is) heard.step
    (once-on old.core (Take_call (call_of call)) mid old.entries.items (λ is. is) takes old.once))
    (λ refusal refused. absurd (refused.unknown (ap (λ (y : Shard). y.untold) takes.1.2)))

pub invariant_of-self-2-clause-seen : goal.invariant_of-self-2-clause-seen
invariant_of-self-2-clause-seen g c =
    let old = c.args.self.now in
    let v = view_of old.pass in
    let w = view_of c.make-answer.new.pass in
    let more = attaches-later v w (c.make-answer.ensures.pass.same_start ∙ sym c.requires.same_start)
    (seen_after v w (as_made old.number (call_of c.in-Some.call)) c.make-answer.result c.make-answer.ensures.answered) in
    let before = old.seen in
    omega arith

pub returns-in_default-clause-told : goal.returns-in_default-clause-told
returns-in_default-clause-told g c =
    record {
      shard = c.in_default.ensures.step.1.1;
      requests = c.take_call.ensures.kept;
      performer = refl;
      pass = refl;
      named = refl;
      last = refl;
      saw_out = refl;
      ledger = record { asked = refl; entries = refl; room = refl };
    }

pub returns-clause-told : goal.returns-clause-told
returns-clause-told g c =
    record {
      call = c.in-Some.call;
      answer = c.make-answer.result;
      between = c.take_call.new.self;
      handed = c.in-Some.ensures.step;
      answered = c.make-answer.ensures.answered;
      heard = c.in-Ok.ensures.heard;
      requests = requests-on c.args.self.now.core c.take_call.new.self c.told.new.self c.take_call.ensures.kept c.told.ensures.kept;
      parts = refl;
      saw_out = refl;
    }
