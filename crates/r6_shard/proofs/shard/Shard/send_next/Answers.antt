use Rattle.std.proofs.Common.{length, inl, refl, sym, ap, subst, ◌∙◌}
use Rattle.r6_health.specs.Passes.{view_of}
use Rattle.r6_world.specs.ShardStates.{Shard}
use Rattle.r6_world.specs.Steps.{No_command, Take_command}
use Rattle.r6_world.specs.Values.{world_command}
use Rattle.r6_core.specs.Shards.{world_shard}
use Rattle.r6_shard.specs.Courses.{HasCourse}
use Rattle.r6_shard.specs.Here.{HasUsed}
use Rattle.r6_shard.specs.Kept.{IsKept}
use Rattle.r6_shard.specs.Performing.{Performer}
use Rattle.r6_shard.specs.Sound.{IsSound}
use Rattle.r6_shard.proofs.Answering.{once-on}
use Rattle.r6_shard.proofs.Replying.{kinds-on}
use Rattle.r6_shard.proofs.Counting.{passes-none}
use Rattle.r6_shard.proofs.Going.{has-gone, has-taken}
use Rattle.r6_shard.proofs.Here.{here-by}
use Rattle.r6_shard.proofs.Keeping.{kept-plainly, kept-taking}
use Rattle.r6_shard.proofs.Lasting.{lasts_by}
use Rattle.r6_shard.proofs.Looked.{knows-on}
use Rattle.r6_shard.proofs.Out.{not-yet}
use Rattle.r6_shard.proofs.Own.{failure-on}
use Rattle.r6_shard.proofs.Sound.{sound-by, sound-sent}
use Rattle.r6_shard.proofs.Whole.{skips-by}
use Rattle.r6_shard.proofs.shard.Shard.send_next.Goals as goal

-- ---- none was put out

pub invariant_of-self-clause-kept : goal.invariant_of-self-clause-kept
invariant_of-self-clause-kept g c =
    let old = c.args.self.now in
    kept-plainly old.core No_command c.take_command.new.self (g.P.Performs.performer old.parts).out old.number old.named (length old.asked.items)
    (record {}) c.in_default.ensures.step old.kept

pub invariant_of-self-clause-failure : goal.invariant_of-self-clause-failure
invariant_of-self-clause-failure g c =
    let old = c.args.self.now in
    failure-on old.core No_command c.take_command.new.self (view_of old.pass) old.entries.items (record {}) c.in_default.ensures.step old.failure

pub invariant_of-self-clause-whole : goal.invariant_of-self-clause-whole
invariant_of-self-clause-whole g c =
    let old = c.args.self.now in
    skips-by old.named old.saw_out old.core No_command c.take_command.new.self (λ y. record {}) c.in_default.ensures.step old.whole

pub invariant_of-self-clause-knows : goal.invariant_of-self-clause-knows
invariant_of-self-clause-knows g c =
    let old = c.args.self.now in
    knows-on old.core No_command c.take_command.new.self old.last (record {}) c.in_default.ensures.step old.knows

pub invariant_of-self-clause-kinds : goal.invariant_of-self-clause-kinds
invariant_of-self-clause-kinds g c =
    let old = c.args.self.now in
    kinds-on old.core No_command c.take_command.new.self old.asked.items old.entries.items (λ is. is) c.in_default.ensures.step old.kinds

pub invariant_of-self-clause-once : goal.invariant_of-self-clause-once
invariant_of-self-clause-once g c =
    let old = c.args.self.now in
    once-on old.core No_command c.take_command.new.self old.entries.items (λ is. is) c.in_default.ensures.step old.once

pub returns-in_default-clause-passed : goal.returns-in_default-clause-passed
returns-in_default-clause-passed g c = passes-none c.args.self.now.core No_command c.take_command.new.self refl c.in_default.ensures.step

pub returns-in_default-clause-none : goal.returns-in_default-clause-none
returns-in_default-clause-none g c = λ e.
    let step = c.in_default.ensures.step.1 in
    (λ t d there. step.0 t d (ap (λ (s : Shard). s.command t) (sym step.1) ∙ there), refl)

pub returns-in_default-clause-advances : goal.returns-in_default-clause-advances
returns-in_default-clause-advances g c =
    let old = c.args.self.now in
    let new = c.take_command.new.self in
    let own = g.P.Performs.performer old.parts in
    let step = c.in_default.ensures.step in
    record {
      course = λ s ops x.
          has-gone s old.core new (view_of old.pass) old.last.attaches old.named own.out own.tells old.asked.items old.entries.items ops No_command
          (record {}) (λ history. refl) step x;
      lasts = lasts_by old.core No_command new c.take_command.ensures.window step;
      remembers = λ x. x;
      sound = λ shape number slot x. sound-by own shape number slot old.core No_command new old.named (record {}) step x;
      labels_stay = refl;
      room_stays = refl;
      site_stays = refl;
      here = λ slot x. here-by own.labels slot old.core No_command new (record {}) step x;
    }

-- ---- it is sent

pub send-requires-clause-new : goal.send-requires-clause-new
send-requires-clause-new g c =
    let old = c.args.self.now in
    let command = c.in-Some.command in
    let t = c.in-Some.ensures.step in
    not-yet old.core.shape old.core.shard (g.P.Performs.performer old.parts).out (world_shard old.core) old.kept.3 command.token
    (world_command t.0 t.1 t.2 command) t.3.1.0.0 refl

pub invariant_of-self-2-clause-kept : goal.invariant_of-self-2-clause-kept
invariant_of-self-2-clause-kept g c =
    let old = c.args.self.now in
    let command = c.in-Some.command in
    let t = c.in-Some.ensures.step in
    let mid = c.take_command.new.self in
    subst (λ (p : Performer). IsKept mid p.out old.number old.named (length old.asked.items)) (sym c.send.ensures.performer)
    (kept-taking old.core command t.0 t.1 t.2 mid (g.P.Performs.performer old.parts).out old.number old.named (length old.asked.items)
    t.3 c.in-Some.ensures.there old.kept)

pub invariant_of-self-2-clause-failure : goal.invariant_of-self-2-clause-failure
invariant_of-self-2-clause-failure g c =
    let old = c.args.self.now in
    let command = c.in-Some.command in
    let t = c.in-Some.ensures.step in
    failure-on old.core (Take_command command.token (world_command t.0 t.1 t.2 command)) c.take_command.new.self (view_of old.pass) old.entries.items
    (record {}) t.3 old.failure

pub invariant_of-self-2-clause-whole : goal.invariant_of-self-2-clause-whole
invariant_of-self-2-clause-whole g c =
    let old = c.args.self.now in
    let command = c.in-Some.command in
    let t = c.in-Some.ensures.step in
    skips-by old.named old.saw_out old.core (Take_command command.token (world_command t.0 t.1 t.2 command)) c.take_command.new.self (λ y. record {})
    t.3 old.whole

pub invariant_of-self-2-clause-knows : goal.invariant_of-self-2-clause-knows
invariant_of-self-2-clause-knows g c =
    let old = c.args.self.now in
    let command = c.in-Some.command in
    let t = c.in-Some.ensures.step in
    knows-on old.core (Take_command command.token (world_command t.0 t.1 t.2 command)) c.take_command.new.self old.last (record {}) t.3 old.knows

pub invariant_of-self-2-clause-kinds : goal.invariant_of-self-2-clause-kinds
invariant_of-self-2-clause-kinds g c =
    let old = c.args.self.now in
    let command = c.in-Some.command in
    let t = c.in-Some.ensures.step in
    kinds-on old.core (Take_command command.token (world_command t.0 t.1 t.2 command)) c.take_command.new.self old.asked.items old.entries.items (λ is. is)
    t.3 old.kinds

pub invariant_of-self-2-clause-once : goal.invariant_of-self-2-clause-once
invariant_of-self-2-clause-once g c =
    let old = c.args.self.now in
    let command = c.in-Some.command in
    let t = c.in-Some.ensures.step in
    once-on old.core (Take_command command.token (world_command t.0 t.1 t.2 command)) c.take_command.new.self old.entries.items (λ is. is) t.3 old.once

pub returns-clause-passed : goal.returns-clause-passed
returns-clause-passed g c =
    let command = c.in-Some.command in
    let t = c.in-Some.ensures.step in
    passes-none c.args.self.now.core (Take_command command.token (world_command t.0 t.1 t.2 command)) c.take_command.new.self refl t.3

pub returns-clause-advances : goal.returns-clause-advances
returns-clause-advances g c =
    let old = c.args.self.now in
    let mid = c.take_command.new.self in
    let own = g.P.Performs.performer old.parts in
    let command = c.in-Some.command in
    let t = c.in-Some.ensures.step in
    let event = Take_command command.token (world_command t.0 t.1 t.2 command) in
    let sent = c.send.ensures.performer in
    record {
      course = λ s ops x.
          subst (λ (p : Performer). HasCourse s mid (view_of old.pass) old.last.attaches old.named p.out p.tells old.asked.items old.entries.items ops)
          (sym sent)
          (has-taken s old.core mid (view_of old.pass) old.last.attaches old.named own.out own.tells old.asked.items old.entries.items ops command
          t.0 t.1 t.2 t.3 x);
      lasts = lasts_by old.core event mid c.take_command.ensures.window t.3;
      remembers = λ x. x;
      sound = λ shape number slot x.
          subst (λ (p : Performer). IsSound p shape number slot mid old.named) (sym sent)
          (sound-sent own command shape number slot mid old.named (sound-by own shape number slot old.core event mid old.named (record {}) t.3 x));
      labels_stay = ap (λ (p : Performer). p.labels) sent;
      room_stays = ap (λ (p : Performer). p.part_room) sent;
      site_stays = c.send.ensures.site;
      here = λ slot x.
          subst (λ (p : Performer). HasUsed p.labels slot mid) (sym sent) (here-by own.labels slot old.core event mid (record {}) t.3 x);
    }

pub returns-in_default-clause-sent : goal.returns-in_default-clause-sent
returns-in_default-clause-sent g c =
    let step = c.in_default.ensures.step.1 in (
      record {
        shard = step.1;
        requests = c.take_command.ensures.kept;
        performer = refl;
        pass = refl;
        named = refl;
        last = refl;
        saw_out = refl;
        ledger = record { asked = refl; entries = refl; room = refl };
      },
      inl (λ t d there. step.0 t d (ap (λ (s : Shard). s.command t) (sym step.1) ∙ there)),
    )

pub returns-clause-sent : goal.returns-clause-sent
returns-clause-sent g c =
    record {
      command = c.in-Some.command;
      handed = c.in-Some.ensures.step;
      first = c.in-Some.ensures.oldest;
      sent = c.send.ensures.performer;
      requests = c.take_command.ensures.kept;
      saw_out = refl;
    }
