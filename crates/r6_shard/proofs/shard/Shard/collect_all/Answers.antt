use Rattle.std.proofs.Common.{◌∙◌, refl, sym, subst}
use Rattle.r6_shard.specs.Counted.{HasPassedRows}
use Rattle.r6_shard.specs.Advances.{Advances}
use Rattle.r6_shard.proofs.Advances.{advances-none, advances-on}
use Rattle.r6_shard.proofs.shard.Shard.collect_all.Goals as goal
use Rattle.r6_shard.proofs.shard.Shard.collect_all.Goals.{in-None, in-Some+then-not-collect}

pub loop-init : goal.loop-init
loop-init g c = (
  tt,
  tt,
  record {
    advances = advances-none c.args.self.now;
    passed = λ stopped counted rows x. x;
    asked = refl;
    room = refl;
    pass = refl;
    last = refl;
  },
)

pub loop-preserved : goal.loop-preserved
loop-preserved g c =
    let before = c.loop.invariant.2 in
    let now = c.collect.ensures in (
      tt,
      tt,
      record {
        advances = advances-on c.args.self.now c.loop.self c.collect.new.self before.advances now.advances;
        passed = λ stopped counted rows x. now.passed stopped counted rows (before.passed stopped counted rows x);
        asked = now.asked ∙ before.asked;
        room = now.room ∙ before.room;
        pass = now.pass ∙ before.pass;
        last = now.last ∙ before.last;
      },
    )

pub returns-clause-passed : goal.returns-clause-passed
returns-clause-passed g c = λ stopped counted rows x.
    let before = c.loop.invariant.2.passed stopped counted rows x in
    elim c.match-next.branch [
      | in-None w ↦ subst (λ s. HasPassedRows stopped counted rows s.core) (sym w.self-is) before
      | in-Some+then-not-collect w ↦ subst (λ s. HasPassedRows stopped counted rows s.core) (sym w.self-is) (w.collect.ensures.passed stopped counted rows before)
    ]

pub returns-clause-advances : goal.returns-clause-advances
returns-clause-advances g c =
    let old = c.args.self.now in
    let before = c.loop.invariant.2.advances in
    elim c.match-next.branch [
      | in-None w ↦ subst (Advances old) (sym w.self-is) before
      | in-Some+then-not-collect w ↦
          subst (Advances old) (sym w.self-is)
          (advances-on old c.loop.self w.collect.new.self before w.collect.ensures.advances)
    ]
