use Rattle.std.proofs.Common.{ℕ, ◌<◌, List, length, inl, inr, refl, sym, ap, subst, arith, ◌∙◌}
use Rattle.r6_health.specs.Passes.{view_of}
use Rattle.r6_world.specs.Steps.{Deliver}
use Rattle.r6_world.specs.Values.{completion_of, receipt_of}
use Rattle.r6_shard.specs.Courses.{HasCourse}
use Rattle.r6_shard.specs.Here.{HasUsed}
use Rattle.r6_shard.specs.Kept.{IsKept, named_by}
use Rattle.r6_shard.specs.Own.{AreOwn}
use Rattle.r6_shard.specs.Performing.{Performer}
use Rattle.r6_shard.specs.Sound.{IsSound}
use Rattle.r6_shard.specs.Whole.{SkipsNone, Remembers}
use Rattle.r6_shard.proofs.Answering.{once-on}
use Rattle.r6_shard.proofs.Replying.{kinds-on}
use Rattle.r6_shard.proofs.Counting.{passes-none}
use Rattle.r6_shard.proofs.Courses.{not-refused}
use Rattle.r6_shard.proofs.Going.{has-answered, names-by, at_err}
use Rattle.r6_shard.proofs.Here.{here-by}
use Rattle.r6_shard.proofs.Keeping.{kept-receiving}
use Rattle.r6_shard.proofs.Lasting.{lasts_by, lasts_none}
use Rattle.r6_shard.proofs.Looked.{knows-on}
use Rattle.r6_shard.proofs.Own.{own-named, failure-on}
use Rattle.r6_shard.proofs.Sound.{sound-received, named-how}
use Rattle.r6_shard.proofs.Whole.{skips-received, clean-before}
use Rattle.r6_shard.proofs.shard.Shard.receive_next.Goals as goal

-- ---- none has come

pub invariant_of-self-clause-kept : goal.invariant_of-self-clause-kept
invariant_of-self-clause-kept g c =
    let old = c.args.self.now in
    subst (λ (p : Performer). IsKept old.core p.out old.number old.named (length old.asked.items)) (sym c.in_default.ensures.received) old.kept

pub returns-in_default-clause-passed : goal.returns-in_default-clause-passed
returns-in_default-clause-passed g c = λ stopped counted rows x. x

pub returns-in_default-clause-advances : goal.returns-in_default-clause-advances
returns-in_default-clause-advances g c =
    let old = c.args.self.now in
    let same = c.in_default.ensures.received in
    record {
      course = λ s ops x.
          subst (λ (p : Performer). HasCourse s old.core (view_of old.pass) old.last.attaches old.named p.out p.tells old.asked.items old.entries.items ops)
          (sym same) x;
      lasts = lasts_none old.core;
      remembers = λ x. x;
      sound = λ shape number slot x. subst (λ (p : Performer). IsSound p shape number slot old.core old.named) (sym same) x;
      labels_stay = ap (λ (p : Performer). p.labels) same;
      room_stays = ap (λ (p : Performer). p.part_room) same;
      site_stays = c.receive.ensures.site;
      here = λ slot x. subst (λ (p : Performer). HasUsed p.labels slot old.core) (sym same) x;
    }

-- ---- one has come

pub unreachable-requires : goal.unreachable-requires
unreachable-requires g c =
    let performer = g.P.Performs.performer in
    let old = c.args.self.now in
    let completion = c.in-Some.completion in
    let r = c.in-Some.ensures.received in
    let refused = at_err c.deliver.result c.in_default-deliver.field-0 _ c.in_default-deliver.is c.deliver.ensures.refused in
    not-refused old.core (performer old.parts).tells (performer c.receive.new.self).tells completion.token r.command completion.result
    c.in_default-deliver.field-0.refusal (old.kept.3.each completion.token r.command r.was_out) r.did refused.fault

pub name-requires : goal.name-requires
name-requires g c =
    let old = c.args.self.now in
    let r = c.in-Some.ensures.received in
    let out = old.kept.3.each c.in-Some.completion.token r.command r.was_out in
    let low = out.slot in let few = old.kept.1 in let same = r.slot in omega arith

pub invariant_of-self-2-clause-kept : goal.invariant_of-self-2-clause-kept
invariant_of-self-2-clause-kept g c =
    let performer = g.P.Performs.performer in
    let old = c.args.self.now in
    let new = c.deliver.new.self in
    let completion = c.in-Some.completion in
    let r = c.in-Some.ensures.received in
    let count = length old.asked.items in
    let names = c.name.ensures ∙ ap (λ k. named_by c.is_err-failed.result c.in-Ok.receipt k old.named) r.slot in
    subst (λ y. IsKept new (performer c.receive.new.self).out old.number y count) (sym names)
    (subst (λ o. IsKept new o old.number (named_by c.is_err-failed.result c.in-Ok.receipt r.command.slot old.named) count) (sym r.out)
    (kept-receiving old.core new completion.token r.command completion.result c.in-Ok.receipt (performer old.parts).out old.number old.named count
    r.was_out c.in-Ok.ensures.received.step c.is_err-failed.result c.is_err-failed.ensures.value old.kept))

pub invariant_of-self-2-clause-own : goal.invariant_of-self-2-clause-own
invariant_of-self-2-clause-own g c =
    let old = c.args.self.now in
    let r = c.in-Some.ensures.received in
    let out = old.kept.3.each c.in-Some.completion.token r.command r.was_out in
    let below : r.command.slot < length old.named = let low = out.slot in let few = old.kept.1 in let many = old.kept.6 in omega arith in
    let names = c.name.ensures ∙ ap (λ k. named_by c.is_err-failed.result c.in-Ok.receipt k old.named) r.slot in
    subst (λ y. AreOwn old.number y (view_of old.pass).mine) (sym names)
    (own-named old.number old.named c.is_err-failed.result c.in-Ok.receipt r.command.slot (view_of old.pass).mine below old.own)

pub invariant_of-self-2-clause-kinds : goal.invariant_of-self-2-clause-kinds
invariant_of-self-2-clause-kinds g c =
    let old = c.args.self.now in
    let completion = c.in-Some.completion in
    kinds-on old.core (Deliver completion.token (completion_of completion.result) (receipt_of c.in-Ok.receipt)) c.deliver.new.self
    old.asked.items old.entries.items (λ is. is) c.in-Ok.ensures.received.step old.kinds

pub invariant_of-self-2-clause-failure : goal.invariant_of-self-2-clause-failure
invariant_of-self-2-clause-failure g c =
    let old = c.args.self.now in
    let completion = c.in-Some.completion in
    failure-on old.core (Deliver completion.token (completion_of completion.result) (receipt_of c.in-Ok.receipt)) c.deliver.new.self (view_of old.pass)
    old.entries.items (record {}) c.in-Ok.ensures.received.step old.failure

pub invariant_of-self-2-clause-whole : goal.invariant_of-self-2-clause-whole
invariant_of-self-2-clause-whole g c =
    let old = c.args.self.now in
    let new = c.deliver.new.self in
    let completion = c.in-Some.completion in
    let r = c.in-Some.ensures.received in
    let out = old.kept.3.each completion.token r.command r.was_out in
    let below : r.command.slot < length old.named = let low = out.slot in let few = old.kept.1 in let many = old.kept.6 in omega arith in
    let names = c.name.ensures ∙ ap (λ k. named_by c.is_err-failed.result c.in-Ok.receipt k old.named) r.slot in
    subst (λ y. SkipsNone new y old.saw_out) (sym names)
    (skips-received old.core new completion.token completion.result c.in-Ok.receipt c.is_err-failed.result r.command.slot old.named old.saw_out
    c.in-Ok.ensures.received.step below c.is_err-failed.ensures.value old.whole)

pub invariant_of-self-2-clause-knows : goal.invariant_of-self-2-clause-knows
invariant_of-self-2-clause-knows g c =
    let old = c.args.self.now in
    let completion = c.in-Some.completion in
    knows-on old.core (Deliver completion.token (completion_of completion.result) (receipt_of c.in-Ok.receipt)) c.deliver.new.self old.last (record {})
    c.in-Ok.ensures.received.step old.knows

pub invariant_of-self-2-clause-once : goal.invariant_of-self-2-clause-once
invariant_of-self-2-clause-once g c =
    let old = c.args.self.now in
    let completion = c.in-Some.completion in
    once-on old.core (Deliver completion.token (completion_of completion.result) (receipt_of c.in-Ok.receipt)) c.deliver.new.self old.entries.items
    (λ is. is) c.in-Ok.ensures.received.step old.once

pub returns-clause-passed : goal.returns-clause-passed
returns-clause-passed g c =
    let completion = c.in-Some.completion in
    passes-none c.args.self.now.core (Deliver completion.token (completion_of completion.result) (receipt_of c.in-Ok.receipt)) c.deliver.new.self refl
    c.in-Ok.ensures.received.step

pub returns-clause-named : goal.returns-clause-named
returns-clause-named g c =
    let performer = g.P.Performs.performer in
    let old = c.args.self.now in
    let completion = c.in-Some.completion in
    let r = c.in-Some.ensures.received in
    let names = c.name.ensures ∙ ap (λ k. named_by c.is_err-failed.result c.in-Ok.receipt k old.named) r.slot in
    elim (named-how (performer old.parts).tells (performer c.receive.new.self).tells old.core c.deliver.new.self completion.token r.command
    completion.result c.in-Ok.receipt c.is_err-failed.result old.named r.did c.in-Ok.ensures.received.step c.is_err-failed.ensures.value) [
      | inl none ↦ inl (names ∙ none)
      | inr own ↦ inr (record {
        token = completion.token;
        command = r.command;
        fault = own.0;
        was_out = r.was_out;
        failed = own.1;
        taken = own.2;
        named = names ∙ own.3;
      })
    ]

pub returns-clause-advances : goal.returns-clause-advances
returns-clause-advances g c =
    let performer = g.P.Performs.performer in
    let old = c.args.self.now in
    let new = c.deliver.new.self in
    let before = performer old.parts in
    let now = performer c.receive.new.self in
    let completion = c.in-Some.completion in
    let receipt = c.in-Ok.receipt in
    let failed = c.is_err-failed in
    let r = c.in-Some.ensures.received in
    let out = old.kept.3.each completion.token r.command r.was_out in
    let delivers = c.in-Ok.ensures.received.step in
    let event = Deliver completion.token (completion_of completion.result) (receipt_of receipt) in
    let below : r.command.slot < length old.named = let low = out.slot in let few = old.kept.1 in let many = old.kept.6 in omega arith in
    let names = c.name.ensures ∙ ap (λ k. named_by failed.result receipt k old.named) r.slot in
    record {
      course = λ s ops x.
          subst (λ o. HasCourse s new (view_of old.pass) old.last.attaches c.name.new.named o now.tells old.asked.items old.entries.items ops) (sym r.out)
          (has-answered s old.core new (view_of old.pass) old.last.attaches old.named c.name.new.named before.out before.tells now.tells old.asked.items
          old.entries.items ops completion.token r.command (receipt_of receipt) completion.result r.was_out delivers r.did
          (names-by old.named c.name.new.named failed.result receipt r.command.slot completion.result failed.ensures.value names) x);
      lasts = lasts_by old.core event new c.deliver.ensures.window delivers;
      remembers = subst (λ y. Remembers old.named old.saw_out y old.saw_out) (sym names)
          (clean-before failed.result receipt r.command.slot old.named old.saw_out below);
      sound = λ shape number slot x.
          subst (IsSound now shape number slot new) (sym names)
          (sound-received before now completion r shape number slot old.core new receipt failed.result old.named out delivers failed.ensures.value x);
      labels_stay = r.labels;
      room_stays = r.part_room;
      site_stays = c.receive.ensures.site;
      here = λ slot x.
          subst (λ (y : List (ℕ × ℕ)). HasUsed y slot new) (sym r.labels) (here-by before.labels slot old.core event new (record {}) delivers x);
    }

pub returns-in_default-clause-received : goal.returns-in_default-clause-received
returns-in_default-clause-received g c =
    record {
      shard = refl;
      requests = (((refl, refl), refl), refl);
      performer = c.in_default.ensures.received;
      pass = refl;
      named = refl;
      last = refl;
      saw_out = refl;
      ledger = record { asked = refl; entries = refl; room = refl };
    }

pub returns-clause-received : goal.returns-clause-received
returns-clause-received g c =
    let completion = c.in-Some.completion in
    let receipt = c.in-Ok.receipt in
    record {
      completion = completion;
      receipt = receipt;
      came = c.in-Some.ensures.received;
      delivered = c.in-Ok.ensures.received;
      named = c.name.ensures ∙ ap (λ failed. named_by failed receipt completion.slot c.args.self.now.named) c.is_err-failed.ensures.value;
      saw_out = refl;
    }
