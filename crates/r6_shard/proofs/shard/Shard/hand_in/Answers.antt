use Rattle.std.proofs.Common.{◌<◌, ◌≤◌, refl, sym, subst, arith}
use Rattle.r6_health.specs.Passes.{view_of}
use Rattle.r6_core.specs.Shards.{world_shard}
use Rattle.r6_shard.proofs.Again.{shard-again}
use Rattle.r6_shard.proofs.Handed.{has-handed}
use Rattle.r6_shard.proofs.Here.{here-more, stands-here}
use Rattle.r6_shard.proofs.Out.{some-there}
use Rattle.r6_shard.proofs.Promises.{takes-sound}
use Rattle.r6_shard.specs.Courses.{HasCourse}
use Rattle.r6_shard.proofs.shard.Shard.hand_in.Goals as goal

pub take_in-requires-clause-apart : goal.take_in-requires-clause-apart
take_in-requires-clause-apart g c = λ token d was.
    let old = c.args.self.now in
    let out = old.kept.3.each token d was in
    let unseen : old.last.attaches < c.args.part.generation = omega (arith, c.if-part-attaches.false, c.attaches.ensures) in
    some-there ((world_shard old.core).command token) out.there (λ e there.
    let same = out.same e there in
    let few : e.generation ≤ old.last.attaches = (old.knows.used e.slot).1 token e there refl in
    let is = same.2 in
    omega arith)

pub returns-in-Ok-clause-handed : goal.returns-in-Ok-clause-handed
returns-in-Ok-clause-handed g c =
    let told = g.D.BlockDevice.told in
    let old = c.args.self.now in
    let before = g.P.Performs.performer old.parts in
    let new = c.take_in.new.self in
    let now = g.P.Performs.performer new in
    let part = c.args.part in
    let taken = c.in-Ok.ensures.taken in
    let unseen : old.last.attaches < part.generation = omega (arith, c.if-part-attaches.false, c.attaches.ensures) in
    record {
      unseen = unseen;
      taken = taken;
      core = refl;
      pass = refl;
      last = refl;
      named = refl;
      saw_out = refl;
      ledger = record { asked = refl; entries = refl; room = refl };
      here = λ slot x.
          here-more before.labels now.labels slot old.core
          (stands-here part c.in-Ok.earlier before.labels now.labels taken.labels slot) x;
      site = c.take_in.ensures.site;
      course = λ s device ops alike tells x.
          subst (λ out. HasCourse (record s { device = device }) old.core (view_of old.pass) old.last.attaches old.named out now.tells old.asked.items
          old.entries.items ops) (sym taken.out)
          (has-handed s device old.core (view_of old.pass) old.last.attaches old.named before.out before.tells now.tells old.asked.items old.entries.items ops
          part.slot part.generation (told part.device) unseen alike tells taken.tells taken.others x);
    }

pub returns-in-Ok-clause-sound : goal.returns-in-Ok-clause-sound
returns-in-Ok-clause-sound g c = λ shape number slot fails x.
    let old = c.args.self.now in
    takes-sound g.D.BlockDevice.told g.D.BlockDevice.promised c.args.part _ (g.P.Performs.performer old.parts)
    (g.P.Performs.performer c.take_in.new.self) shape number slot old.core old.named c.in-Ok.ensures.taken fails x

pub returns-in-Err-clause-refused : goal.returns-in-Err-clause-refused
returns-in-Err-clause-refused g c =
    let old = c.args.self.now in
    let full = c.in-Err.ensures.taken in
    let unseen : old.last.attaches < c.args.part.generation = omega (arith, c.if-part-attaches.false, c.attaches.ensures) in
    record {
      same = shard-again old old.core c.take_in.new.self refl (sym full.1) _ _ _ _ _ _ _ _ _ _ _ _ _ _ _ _ _ _;
      back = full.0;
      reason = (unseen, full.2);
    }
