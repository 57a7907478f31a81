use Rattle.std.proofs.Common.{◌≤◌, ℕ, ap, arith, length, refl, subst, sym}
use Rattle.std.proofs.Math.Logic.{⊎_map}
use Rattle.std.proofs.lemmas.List.{length-append}
use Rattle.r6_shard.specs.Performing.{Performer}
use Rattle.r6_engine.specs.runner.Together.{all_due}
use Rattle.r6_engine.specs.runner.Waits.{AreAwaited}
use Rattle.r6_engine.proofs.RunnerLemmas.Awaiting.{served-awaited}
use Rattle.r6_engine.proofs.RunnerLemmas.Counting.{keeps-counted}
use Rattle.r6_engine.proofs.RunnerLemmas.Parts.{still-room}
use Rattle.r6_engine.proofs.RunnerLemmas.Together.{as-many-due, put-handed}
use Rattle.r6_engine.proofs.runner.runner.Runner.hand_over.Goals as goal

pub hand_over-requires-clause-room : goal.hand_over-requires-clause-room
hand_over-requires-clause-room g c =
    let old = c.args.self.now in
    let gathered = c.gather.new.self in
    let due = ap length c.gather.ensures.taken in
    let both = length-append (all_due c.args.waits gathered.events.items gathered.ops.items) c.gather.new.due.items in
    let many = as-many-due c.args.waits gathered.events.items gathered.ops.items gathered.numbered in
    let ops = ap length c.put_first.ensures.ops in
    omega (arith, due, both, many, ops, c.requires.room, old.shard_room)

pub hand_over-requires-clause-refused_room : goal.hand_over-requires-clause-refused_room
hand_over-requires-clause-refused_room g c =
    let old = c.args.self.now in
    let gathered = c.gather.new.self in
    let due = ap length c.gather.ensures.taken in
    let both = length-append (all_due c.args.waits gathered.events.items gathered.ops.items) c.gather.new.due.items in
    let many = as-many-due c.args.waits gathered.events.items gathered.ops.items gathered.numbered in
    let ops = ap length c.put_first.ensures.ops in
    omega (arith, due, both, many, ops, c.requires.room, old.refused_room)

pub returns-clause-served : goal.returns-clause-served
returns-clause-served g c =
    let old = c.args.self.now in
    let gathered = c.gather.new.self in
    record {
      events = gathered.events.items;
      ops = gathered.ops.items;
      numbered = gathered.numbered;
      due = c.gather.ensures.taken;
      all = ⊎_map (λ full. omega (arith, full, c.accepted_by-asked.ensures, c.len.ensures, old.shard.counted, c.requires.few)) (λ other. other) c.gather.ensures.all;
      hands = put-handed _ _ _ _ _ _ _ _ c.put_first.ensures.events c.put_first.ensures.ops c.hand_over.ensures.handed;
      scrub = refl;
      scrubs_done = refl;
      handed = refl;
      others = refl;
      room = refl;
      rows = refl;
    }

pub returns-clause-counted : goal.returns-clause-counted
returns-clause-counted g c =
    let old = c.args.self.now in
    let h = c.hand_over.ensures.handed in
    keeps-counted old.rows old.shard.core c.hand_over.new.shard.core old.scrub old.scrubs_done.items h.passed h.lasts

pub returns-clause-awaited : goal.returns-clause-awaited
returns-clause-awaited g c = λ events known x.
    let old = c.args.self.now in
    let gathered = c.gather.new.self in
    let last = c.waits_of_last-self.result in
    let rest = c.gather.new.due.items in
    let h = put-handed _ _ _ _ _ _ _ _ c.put_first.ensures.events c.put_first.ensures.ops c.hand_over.ensures.handed in
    let before = c.accepted_by-asked.ensures in
    let now = c.accepted_by.ensures in
    let longer = ap length h.asked_is in
    let both = length-append old.shard.asked.items h.asked in
    subst (λ asked. AreAwaited events last asked rest) (sym h.asked_is)
    (served-awaited events old.waits c.args.waits last (length old.shard.entries.items) old.shard.asked.items h.asked c.args.event gathered.events.items gathered.ops.items rest old.due.items
    gathered.numbered c.gather.ensures.taken known h.among h.answered c.requires.follows
    (λ some. c.waits_of_last-self.ensures.more (omega (arith, some, before, now, longer, both)))
    (λ none. c.waits_of_last-self.ensures.same (omega (arith, none, before, now, longer, both))) x)

pub invariant_of-self : goal.invariant_of-self
invariant_of-self g c =
    let old = c.args.self.now in
    let gathered = c.gather.new.self in
    let h = c.hand_over.ensures.handed in
    let due = ap length c.gather.ensures.taken in
    let both = length-append (all_due c.args.waits gathered.events.items gathered.ops.items) c.gather.new.due.items in
    let many = as-many-due c.args.waits gathered.events.items gathered.ops.items gathered.numbered in
    let ops = ap length c.put_first.ensures.ops in
    let asked = ap length h.asked_is in
    let more = length-append old.shard.asked.items h.asked in
    let refused = ap length h.refused_is in
    let others = length-append old.refused.items h.others in
    let count = h.count in
    let performer = ap g.P.Performs.performer h.parts in
    record {
      unskipped = λ clean. old.unskipped (h.remembers clean);
      none_gathered = c.hand_over.ensures.none;
      within = omega (arith, due, both, many, ops, asked, more, refused, others, count, c.requires.room);
      others_within = old.others_within;
      shard_room = subst (λ (room : ℕ). old.room ≤ room) (sym h.room) old.shard_room;
      due_room = subst (λ (room : ℕ). old.room ≤ room) (sym c.gather.ensures.room) old.due_room;
      refused_room = subst (λ (room : ℕ). old.room ≤ room) (sym c.hand_over.ensures.refused_room) old.refused_room;
      scrubs_room = old.scrubs_room;
      handed_room = old.handed_room;
      others_room = old.others_room;
      parts_room = still-room (g.P.Performs.performer old.shard.parts) (g.P.Performs.performer c.hand_over.new.shard.parts) old.attaches (length old.handed.items)
          (ap (λ (p : Performer). p.labels) performer) (ap (λ (p : Performer). p.part_room) performer) old.parts_room;
    }
