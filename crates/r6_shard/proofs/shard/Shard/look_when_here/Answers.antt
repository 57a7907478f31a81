use Rattle.std.proofs.Common.{◌≤◌, inr, sym, ap, subst, ◌∙◌, arith}
use Rattle.r6_health.specs.Passes.{view_of}
use Rattle.r6_layout.specs.Shape.{Shape}
use Rattle.r6_core.specs.Shards.{CoreView}
use Rattle.r6_shard.specs.Counted.{HasPassedRows}
use Rattle.r6_shard.specs.Here.{HasUsed}
use Rattle.r6_shard.specs.Looked.{seen_by}
use Rattle.r6_shard.specs.New.{MissesPart}
use Rattle.r6_shard.specs.Refusing.{Lasts}
use Rattle.r6_shard.proofs.Learned.{else-kept}
use Rattle.r6_shard.proofs.Seeing.{saw-when-here}
use Rattle.r6_shard.proofs.shard.Shard.look_when_here.Goals as goal

pub returns-clause-passed : goal.returns-clause-passed
returns-clause-passed g c = λ stopped counted rows x.
    c.see.ensures.passed stopped counted rows (subst (HasPassedRows stopped counted rows) (sym c.read-snapshot.ensures.kept.core) x)

pub returns-clause-advances : goal.returns-clause-advances
returns-clause-advances g c =
    let performer = g.P.Performs.performer in
    let old = c.args.self.now in
    let seen = c.read-snapshot.new.self in
    let read = c.read-snapshot.ensures in
    let before = else-kept old seen read.kept read.course in
    let all = c.has_all.ensures.here c.if-not-has_all.false in
    record {
      course = λ s ops x. c.see.ensures.course s ops (read.course s ops x);
      lasts = subst (λ y. Lasts y c.see.new.self.core) read.kept.core c.see.ensures.lasts;
      remembers = λ x. before.remembers (c.see.ensures.remembers x);
      sound = λ shape number slot x.
          let few : shape.slots ≤ 32 = subst (λ (y : Shape). y.slots ≤ 32) x.shape_is old.kept.1 in
          c.see.ensures.sound shape number slot (λ below. (all slot (omega arith)).1) (before.sound shape number slot x);
      labels_stay = ap (λ p. (performer p).labels) c.see.ensures.parts ∙ before.labels_stay;
      room_stays = ap (λ p. (performer p).part_room) c.see.ensures.parts ∙ before.room_stays;
      site_stays = ap g.P.Performs.site c.see.ensures.parts ∙ before.site_stays;
      here = λ slot x.
          subst (λ p. HasUsed (performer p).labels slot c.see.new.self.core) (sym c.see.ensures.parts)
          (c.see.ensures.here slot
          (λ below. let few : old.core.shape.slots ≤ 32 = old.kept.1 in let same = ap (λ (y : CoreView). y.shape.slots) read.kept.core in
          (all slot (omega arith)).0)
          (before.here slot x));
    }

pub returns-clause-looked : goal.returns-clause-looked
returns-clause-looked g c =
    saw-when-here c.see.result c.read-snapshot.result c.args.self.now c.read-snapshot.new.self c.see.new.self
    c.read-snapshot.ensures.snapshot c.read-snapshot.ensures.kept.core c.read-snapshot.ensures.kept.last c.see.ensures.pass c.see.ensures.looked

pub returns-then-not-has_all-clause-advances : goal.returns-then-not-has_all-clause-advances
returns-then-not-has_all-clause-advances g c =
    let read = c.read-snapshot.ensures in else-kept c.args.self.now c.read-snapshot.new.self read.kept read.course

pub returns-then-not-has_all-clause-looked : goal.returns-then-not-has_all-clause-looked
returns-then-not-has_all-clause-looked g c =
    let performer = g.P.Performs.performer in
    let read = c.read-snapshot.ensures in (
      read.kept.last,
      inr (subst (λ p. MissesPart (performer p).labels (seen_by (view_of c.read-snapshot.new.self.pass))) read.kept.parts
          (subst (MissesPart (performer c.read-snapshot.new.self.parts).labels) read.snapshot (c.has_all.ensures.missing c.if-not-has_all.true))),
    )
