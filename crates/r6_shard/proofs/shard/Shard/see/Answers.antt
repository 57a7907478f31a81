use Rattle.std.proofs.Common.{◌≤◌, ◌+◌, length, refl, sym, ap, subst, ◌∙◌, arith}
use Rattle.r6_world.specs.Registers.{Snapshot}
use Rattle.r6_health.specs.Passes.{view_of}
use Rattle.r6_world.specs.Steps.{Look}
use Rattle.r6_core.specs.Shards.{CoreView}
use Rattle.r6_shard.specs.Kept.{IsKept}
use Rattle.r6_shard.proofs.Again.{shard-again}
use Rattle.r6_shard.proofs.Answering.{once-on, once-same}
use Rattle.r6_shard.proofs.Counting.{passes-none, passes-same}
use Rattle.r6_shard.proofs.Going.{has-gone}
use Rattle.r6_shard.proofs.Here.{here-looked, here-same}
use Rattle.r6_shard.proofs.Keeping.{kept-plainly}
use Rattle.r6_shard.specs.Replying.{AreOfKind}
use Rattle.r6_shard.proofs.Replying.{kinds-on}
use Rattle.r6_shard.proofs.Lasting.{lasts_by, lasts_same}
use Rattle.r6_shard.proofs.Looked.{knows-looked, knows-same}
use Rattle.r6_shard.proofs.Own.{failure-looked, failure-same}
use Rattle.r6_shard.proofs.Seeing.{untold-first}
use Rattle.r6_shard.proofs.Sound.{sound-looked, sound-same}
use Rattle.r6_shard.specs.Courses.{HasCourse}
use Rattle.r6_shard.proofs.Whole.{skips-looked, skips-same, seen-whole}
use Rattle.r6_shard.proofs.shard.Shard.see.Goals as goal

-- ---- it looked

pub invariant_of-self-clause-kept : goal.invariant_of-self-clause-kept
invariant_of-self-clause-kept g c =
    let old = c.args.self.now in
    kept-plainly old.core (Look c.args.snapshot.now) c.look.new.self (g.P.Performs.performer old.parts).out old.number old.named (length old.asked.items) (record {}) c.in-Ok.ensures.looked.step old.kept

pub invariant_of-self-clause-failure : goal.invariant_of-self-clause-failure
invariant_of-self-clause-failure g c =
    let old = c.args.self.now in
    failure-looked old.core c.args.snapshot.now c.look.new.self (view_of old.pass) old.entries.items c.requires.snapshot c.in-Ok.ensures.looked.step old.failure

pub invariant_of-self-clause-whole : goal.invariant_of-self-clause-whole
invariant_of-self-clause-whole g c =
    let old = c.args.self.now in
    let snapshot = c.args.snapshot.now in
    let few : old.core.shape.slots ≤ 32 = old.kept.1 in
    let now = c.saw_by-self.result in
    skips-looked old.core snapshot c.look.new.self old.named old.saw_out now
    (seen-whole old.saw_out now snapshot old.core.shape.slots few c.saw_by-self.ensures.none) c.in-Ok.ensures.looked.step old.whole

pub invariant_of-self-clause-saw : goal.invariant_of-self-clause-saw
invariant_of-self-clause-saw g c = λ were. c.saw_by-self.ensures.one (c.args.self.now.saw were) (c.requires.first were)

pub invariant_of-self-clause-knows : goal.invariant_of-self-clause-knows
invariant_of-self-clause-knows g c =
    let old = c.args.self.now in
    knows-looked old.core old.last c.args.snapshot.now c.look.new.self (view_of old.pass) old.entries.items c.requires.snapshot c.requires.numbered
    old.seen c.in-Ok.ensures.looked.step old.failure old.knows

pub invariant_of-self-clause-seen : goal.invariant_of-self-clause-seen
invariant_of-self-clause-seen g c =
    let same = ap (λ (y : Snapshot). y.attaches) c.requires.snapshot in omega arith

pub invariant_of-self-clause-once : goal.invariant_of-self-clause-once
invariant_of-self-clause-once g c =
    let old = c.args.self.now in
    once-on old.core (Look c.args.snapshot.now) c.look.new.self old.entries.items (λ is. is) c.in-Ok.ensures.looked.step old.once

pub invariant_of-self-clause-kinds : goal.invariant_of-self-clause-kinds
invariant_of-self-clause-kinds g c =
    let old = c.args.self.now in
    kinds-on old.core (Look c.args.snapshot.now) c.look.new.self old.asked.items old.entries.items (λ is. is) c.in-Ok.ensures.looked.step old.kinds

pub invariant_of-self-clause-counted : goal.invariant_of-self-clause-counted
invariant_of-self-clause-counted g c =
    let old = c.args.self.now in
    ap (λ y. y + length old.entries.items) c.in-Ok.ensures.looked.unanswered ∙ old.counted

pub returns-in-Ok-clause-course : goal.returns-in-Ok-clause-course
returns-in-Ok-clause-course g c = λ s ops x.
    let old = c.args.self.now in
    has-gone s old.core c.look.new.self (view_of old.pass) old.last.attaches old.named (g.P.Performs.performer old.parts).out (g.P.Performs.performer old.parts).tells
    old.asked.items old.entries.items ops
    (Look c.args.snapshot.now) c.requires.snapshot (λ history. refl) c.in-Ok.ensures.looked.step x

pub returns-in-Ok-clause-lasts : goal.returns-in-Ok-clause-lasts
returns-in-Ok-clause-lasts g c =
    lasts_by c.args.self.now.core (Look c.args.snapshot.now) c.look.new.self c.look.ensures.window c.in-Ok.ensures.looked.step

pub returns-in-Ok-clause-passed : goal.returns-in-Ok-clause-passed
returns-in-Ok-clause-passed g c =
    passes-none c.args.self.now.core (Look c.args.snapshot.now) c.look.new.self refl c.in-Ok.ensures.looked.step

pub returns-in-Ok-clause-sound : goal.returns-in-Ok-clause-sound
returns-in-Ok-clause-sound g c = λ shape number slot here x.
    let old = c.args.self.now in
    sound-looked (g.P.Performs.performer old.parts) shape number slot old.core c.args.snapshot.now c.look.new.self old.named
    here c.in-Ok.ensures.looked.step x

pub returns-in-Ok-clause-here : goal.returns-in-Ok-clause-here
returns-in-Ok-clause-here g c = λ slot has x.
    let old = c.args.self.now in
    here-looked (g.P.Performs.performer old.parts).labels slot old.core c.args.snapshot.now c.look.new.self has c.in-Ok.ensures.looked.step x

pub returns-in-Ok-clause-remembers : goal.returns-in-Ok-clause-remembers
returns-in-Ok-clause-remembers g c = λ x. (x.0, (c.saw_by-self.ensures.none x.1).0)

-- ---- it didn't

pub invariant_of-self-in-Err : goal.invariant_of-self-in-Err
invariant_of-self-in-Err g c =
    let old = c.args.self.now in
    let new = c.look.new.self in
    let same = c.in-Err.ensures.refused.same in
    record {
      kept = subst (λ y. IsKept y (g.P.Performs.performer old.parts).out old.number old.named (length old.asked.items)) (sym same) old.kept;
      held = old.held;
      own = old.own;
      pass_name = old.pass_name;
      no_names = old.no_names;
      calls = old.calls;
      failure = failure-same old.core new (view_of old.pass) old.entries.items same old.failure;
      whole = skips-same old.named old.saw_out old.core new same old.whole;
      saw = old.saw;
      knows = knows-same old.core new old.last same old.knows;
      seen = old.seen;
      linked = old.linked;
      once = once-same old.core new old.entries.items same old.once;
      kinds = subst (λ y. AreOfKind y old.asked.items old.entries.items) (sym same) old.kinds;
      counted = ap (λ (y : CoreView). y.unanswered + length old.entries.items) same ∙ old.counted;
      within = old.within;
      asked_room = old.asked_room;
      entries_room = old.entries_room;
    }

pub returns-in-Err-clause-course : goal.returns-in-Err-clause-course
returns-in-Err-clause-course g c = λ s ops x.
    let old = c.args.self.now in
    subst (λ z. HasCourse s z (view_of old.pass) old.last.attaches old.named (g.P.Performs.performer old.parts).out
    (g.P.Performs.performer old.parts).tells old.asked.items old.entries.items ops)
    (sym c.in-Err.ensures.refused.same) x

pub returns-in-Err-clause-lasts : goal.returns-in-Err-clause-lasts
returns-in-Err-clause-lasts g c = lasts_same c.args.self.now.core c.look.new.self c.in-Err.ensures.refused.same

pub returns-in-Err-clause-passed : goal.returns-in-Err-clause-passed
returns-in-Err-clause-passed g c = passes-same c.args.self.now.core c.look.new.self c.in-Err.ensures.refused.same

pub returns-in-Err-clause-sound : goal.returns-in-Err-clause-sound
returns-in-Err-clause-sound g c = λ shape number slot here x.
    let old = c.args.self.now in
    sound-same (g.P.Performs.performer old.parts) shape number slot old.core c.look.new.self old.named
    c.in-Err.ensures.refused.same x

pub returns-in-Err-clause-here : goal.returns-in-Err-clause-here
returns-in-Err-clause-here g c = λ slot has x.
    let old = c.args.self.now in
    here-same (g.P.Performs.performer old.parts).labels slot old.core c.look.new.self c.in-Err.ensures.refused.same x

pub returns-in-Err-clause-looked : goal.returns-in-Err-clause-looked
returns-in-Err-clause-looked g c =
    let old = c.args.self.now in
    (untold-first old.core c.args.snapshot.now c.in-Err.field-0 c.requires.replaces c.in-Err.ensures.refused.fault, shard-again old c.look.new.self old.parts (sym c.in-Err.ensures.refused.same) refl _ _ _ _ _ _ _ _ _ _ _ _ _ _ _ _ _ _)
