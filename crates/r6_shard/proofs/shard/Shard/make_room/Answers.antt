use Rattle.std.proofs.Common.{length, refl, sym, ap, subst}
use Rattle.r6_health.specs.Passes.{view_of}
use Rattle.r6_shard.specs.Courses.{HasCourse}
use Rattle.r6_shard.specs.Here.{HasUsed}
use Rattle.r6_shard.specs.Kept.{IsKept}
use Rattle.r6_shard.specs.Performing.{Performer}
use Rattle.r6_shard.specs.Sound.{IsSound}
use Rattle.r6_shard.proofs.Lasting.{lasts_none}
use Rattle.r6_shard.proofs.shard.Shard.make_room.Goals as goal

pub invariant_of-self-clause-kept : goal.invariant_of-self-clause-kept
invariant_of-self-clause-kept g c =
    let old = c.args.self.now in
    subst (λ (p : Performer). IsKept old.core p.out old.number old.named (length old.asked.items)) (sym c.make_room.ensures.performer) old.kept

pub returns-clause-advances : goal.returns-clause-advances
returns-clause-advances g c =
    let old = c.args.self.now in
    let same = c.make_room.ensures.performer in
    record {
      course = λ s ops x.
          subst (λ (p : Performer). HasCourse s old.core (view_of old.pass) old.last.attaches old.named p.out p.tells old.asked.items old.entries.items ops)
          (sym same) x;
      lasts = lasts_none old.core;
      remembers = λ x. x;
      sound = λ shape number slot x. subst (λ (p : Performer). IsSound p shape number slot old.core old.named) (sym same) x;
      labels_stay = ap (λ (p : Performer). p.labels) same;
      room_stays = ap (λ (p : Performer). p.part_room) same;
      site_stays = c.make_room.ensures.site;
      here = λ slot x. subst (λ (p : Performer). HasUsed p.labels slot old.core) (sym same) x;
    }

pub returns-clause-passed : goal.returns-clause-passed
returns-clause-passed g c = λ stopped counted rows x. x

pub returns-clause-ledger : goal.returns-clause-ledger
returns-clause-ledger g c = record { asked = refl; entries = refl; room = refl }
