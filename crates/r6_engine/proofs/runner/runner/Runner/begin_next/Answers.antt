use Rattle.std.proofs.Common.{◌≤◌, ℕ, ap, arith, length, refl, subst, sym, slice_get}
use Rattle.r6_core.specs.declared.turn.Task.TheVariants as task
use Rattle.r6_engine.specs.runner.Tasks.{request_of, scrub_of}
use Rattle.r6_engine.specs.runner.Waits.{AreAwaited}
use Rattle.r6_engine.proofs.RunnerLemmas.Awaiting.{first-known, popped}
use Rattle.r6_engine.proofs.RunnerLemmas.Done.{scrub-on, served-on}
use Rattle.r6_engine.proofs.RunnerLemmas.Taken.{scrub-count, scrub-self, served-count, served-self}
use Rattle.r6_engine.proofs.runner.runner.Runner.begin_next.Goals as goal

pub returns-in-Serve-clause-course : goal.returns-in-Serve-clause-course
returns-in-Serve-clause-course g c = λ shape events number numbers geometry snapshot before x.
    let d = c.in-Some.due in
    let h = c.hand_over.ensures.served in
    served-on shape events geometry number snapshot before numbers c.args.self.now c.hand_over.new.self d c.pop_front.new.self.items
    c.in-Serve.op h.events h.ops c.in-Serve.is c.in-Some.ensures.items h.due h.hands h.scrub h.scrubs_done h.handed x

pub hand_over-requires-clause-follows : goal.hand_over-requires-clause-follows
hand_over-requires-clause-follows g c =
    c.may_begin.ensures.follows c.if-not-may_begin.false c.in-Some.due (ap (λ xs. slice_get xs 0) c.in-Some.ensures.items)

pub returns-in-Serve-clause-awaited : goal.returns-in-Serve-clause-awaited
returns-in-Serve-clause-awaited g c = λ events x.
    let old = c.args.self.now in
    let d = c.in-Some.due in
    let rest = c.pop_front.new.self.items in
    let x' = subst (AreAwaited events old.waits old.shard.asked.items) c.in-Some.ensures.items x in
    c.hand_over.ensures.awaited events (first-known events old.waits old.shard.asked.items d rest x')
    (popped events old.waits old.shard.asked.items d rest x')

pub returns-in-Check-clause-awaited : goal.returns-in-Check-clause-awaited
returns-in-Check-clause-awaited g c = λ events x.
    let old = c.args.self.now in
    let d = c.in-Some.due in
    let rest = c.pop_front.new.self.items in
    c.begin_scrub.ensures.awaited events (popped events old.waits old.shard.asked.items d rest
    (subst (AreAwaited events old.waits old.shard.asked.items) c.in-Some.ensures.items x))

pub returns-in-Repair-clause-awaited : goal.returns-in-Repair-clause-awaited
returns-in-Repair-clause-awaited g c = λ events x.
    let old = c.args.self.now in
    let d = c.in-Some.due in
    let rest = c.pop_front.new.self.items in
    c.begin_scrub-in-Repair.ensures.awaited events (popped events old.waits old.shard.asked.items d rest
    (subst (AreAwaited events old.waits old.shard.asked.items) c.in-Some.ensures.items x))

pub returns-in-Check-clause-course : goal.returns-in-Check-clause-course
returns-in-Check-clause-course g c = λ shape events number numbers geometry snapshot before x.
    let d = c.in-Some.due in
    scrub-on shape events geometry number snapshot before numbers c.args.self.now _ c.begin_scrub.new.self d
    c.pop_front.new.self.items task.Check (ap (request_of d.event) c.in-Check.is) (ap (scrub_of d.event) c.in-Check.is) c.begin_scrub.ensures.begun
    (c.may_begin.ensures.none c.if-not-may_begin.false) refl refl refl refl refl c.in-Some.ensures.items x

pub returns-in-Repair-clause-course : goal.returns-in-Repair-clause-course
returns-in-Repair-clause-course g c = λ shape events number numbers geometry snapshot before x.
    let d = c.in-Some.due in
    scrub-on shape events geometry number snapshot before numbers c.args.self.now _ c.begin_scrub-in-Repair.new.self d
    c.pop_front.new.self.items task.Repair (ap (request_of d.event) c.in-Repair.is) (ap (scrub_of d.event) c.in-Repair.is) c.begin_scrub-in-Repair.ensures.begun
    (c.may_begin.ensures.none c.if-not-may_begin.false) refl refl refl refl refl c.in-Some.ensures.items x

pub returns-in-Serve-clause-counted : goal.returns-in-Serve-clause-counted
returns-in-Serve-clause-counted g c = c.hand_over.ensures.counted

pub returns-in-Check-clause-counted : goal.returns-in-Check-clause-counted
returns-in-Check-clause-counted g c = c.begin_scrub.ensures.counted

pub returns-in-Repair-clause-counted : goal.returns-in-Repair-clause-counted
returns-in-Repair-clause-counted g c = c.begin_scrub-in-Repair.ensures.counted

pub returns-in-Serve-clause-sound : goal.returns-in-Serve-clause-sound
returns-in-Serve-clause-sound g c = c.hand_over.ensures.sound

pub returns-in-Check-clause-sound : goal.returns-in-Check-clause-sound
returns-in-Check-clause-sound g c = c.begin_scrub.ensures.sound

pub returns-in-Repair-clause-sound : goal.returns-in-Repair-clause-sound
returns-in-Repair-clause-sound g c = c.begin_scrub-in-Repair.ensures.sound

pub returns-in-Serve-clause-same : goal.returns-in-Serve-clause-same
returns-in-Serve-clause-same g c =
    let same = served-self c.in-Some.due.event c.in-Some.due.waits c.in-Serve.op _ c.hand_over.new.self c.hand_over.ensures.served in
    record { pass = same.pass; place = same.place; room = same.room }

pub returns-in-Check-clause-same : goal.returns-in-Check-clause-same
returns-in-Check-clause-same g c =
    let same = scrub-self c.in-Some.due.event task.Check _ c.begin_scrub.new.self c.begin_scrub.ensures.begun in
    record { pass = same.pass; place = same.place; room = same.room }

pub returns-in-Repair-clause-same : goal.returns-in-Repair-clause-same
returns-in-Repair-clause-same g c =
    let same = scrub-self c.in-Some.due.event task.Repair _ c.begin_scrub-in-Repair.new.self c.begin_scrub-in-Repair.ensures.begun in
    record { pass = same.pass; place = same.place; room = same.room }

pub returns-in-Serve-clause-count : goal.returns-in-Serve-clause-count
returns-in-Serve-clause-count g c =
    let more = served-count c.in-Some.due.event c.in-Some.due.waits c.in-Serve.op _ c.hand_over.new.self c.hand_over.ensures.served in
    let due = ap length c.in-Some.ensures.items in omega (arith, more, due)

pub returns-in-Check-clause-count : goal.returns-in-Check-clause-count
returns-in-Check-clause-count g c =
    let none = c.may_begin.ensures.none c.if-not-may_begin.false in
    let more = scrub-count c.in-Some.due.event task.Check _ c.begin_scrub.new.self c.begin_scrub.ensures.begun none in
    let due = ap length c.in-Some.ensures.items in omega (arith, more, due)

pub returns-in-Repair-clause-count : goal.returns-in-Repair-clause-count
returns-in-Repair-clause-count g c =
    let none = c.may_begin.ensures.none c.if-not-may_begin.false in
    let more = scrub-count c.in-Some.due.event task.Repair _ c.begin_scrub-in-Repair.new.self c.begin_scrub-in-Repair.ensures.begun none in
    let due = ap length c.in-Some.ensures.items in omega (arith, more, due)

pub invariant_of-self : goal.invariant_of-self
invariant_of-self g c =
    let old = c.args.self.now in
    let before = old.due.ok.0 in
    let rest = c.pop_front.new.self.ok.0 in
    let less = c.pop_front.ensures.len in
    record {
      unskipped = old.unskipped;
      none_gathered = old.none_gathered;
      within = omega (arith, before, rest, less, old.within);
      others_within = old.others_within;
      shard_room = old.shard_room;
      due_room = subst (λ (room : ℕ). old.room ≤ room) (sym c.pop_front.ensures.capacity) old.due_room;
      refused_room = old.refused_room;
      scrubs_room = old.scrubs_room;
      handed_room = old.handed_room;
      others_room = old.others_room;
      parts_room = old.parts_room;
    }

pub returns-in-Serve-clause-parts : goal.returns-in-Serve-clause-parts
returns-in-Serve-clause-parts g c =
    let kept = c.hand_over.ensures.parts in
    record { labels = kept.labels; room = kept.room; site = kept.site; handed = kept.handed; others = kept.others; here = kept.here; window = kept.window }

pub returns-in-Check-clause-parts : goal.returns-in-Check-clause-parts
returns-in-Check-clause-parts g c =
    let kept = c.begin_scrub.ensures.parts in
    record { labels = kept.labels; room = kept.room; site = kept.site; handed = kept.handed; others = kept.others; here = kept.here; window = kept.window }

pub returns-in-Repair-clause-parts : goal.returns-in-Repair-clause-parts
returns-in-Repair-clause-parts g c =
    let kept = c.begin_scrub-in-Repair.ensures.parts in
    record { labels = kept.labels; room = kept.room; site = kept.site; handed = kept.handed; others = kept.others; here = kept.here; window = kept.window }
