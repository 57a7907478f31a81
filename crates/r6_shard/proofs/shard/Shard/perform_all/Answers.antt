use Rattle.std.proofs.Common.{◌∙◌, refl, sym, subst}
use Rattle.std.proofs.lemmas.Bool.{false≢true}
use Rattle.r6_shard.specs.Counted.{HasPassedRows}
use Rattle.r6_shard.specs.Advances.{Advances}
use Rattle.r6_shard.specs.Shards.{SameLedger}
use Rattle.r6_shard.proofs.Advances.{advances-none, advances-on, same-on}
use Rattle.r6_shard.specs.Driving.{SendsAll, PerformsNext}
use Rattle.r6_shard.proofs.Driving.{sends-later}
use Rattle.r6_shard.proofs.shard.Shard.perform_all.Goals as goal
use Rattle.r6_shard.proofs.shard.Shard.perform_all.Goals.{in-None, in-Some+then-not-perform_next}

pub loop-init : goal.loop-init
loop-init g c = (
  tt,
  tt,
  record {
    advances = advances-none c.args.self.now;
    passed = λ stopped counted rows x. x;
    ledger = record { asked = refl; entries = refl; room = refl };
    pass = refl;
    last = refl;
  },
)

pub loop-preserved : goal.loop-preserved
loop-preserved g c =
    let before = c.loop.invariant.2 in
    let now = c.perform_next.ensures in (
      tt,
      tt,
      record {
        advances = advances-on c.args.self.now c.loop.self c.perform_next.new.self before.advances now.advances;
        passed = λ stopped counted rows x. now.passed stopped counted rows (before.passed stopped counted rows x);
        ledger = same-on c.args.self.now c.loop.self c.perform_next.new.self before.ledger now.ledger;
        pass = now.pass ∙ before.pass;
        last = now.last ∙ before.last;
      },
    )

pub returns-clause-passed : goal.returns-clause-passed
returns-clause-passed g c = λ stopped counted rows x.
    let before = c.loop.invariant.2.passed stopped counted rows x in
    elim c.match-next.branch [
      | in-None w ↦ subst (λ s. HasPassedRows stopped counted rows s.core) (sym w.self-is) before
      | in-Some+then-not-perform_next w ↦ subst (λ s. HasPassedRows stopped counted rows s.core) (sym w.self-is) (w.perform_next.ensures.passed stopped counted rows before)
    ]

pub returns-clause-advances : goal.returns-clause-advances
returns-clause-advances g c =
    let old = c.args.self.now in
    let before = c.loop.invariant.2.advances in
    elim c.match-next.branch [
      | in-None w ↦ subst (Advances old) (sym w.self-is) before
      | in-Some+then-not-perform_next w ↦
          subst (Advances old) (sym w.self-is)
          (advances-on old c.loop.self w.perform_next.new.self before w.perform_next.ensures.advances)
    ]

pub returns-clause-ledger : goal.returns-clause-ledger
returns-clause-ledger g c =
    let before = c.loop.invariant.2.ledger in
    elim c.match-next.branch [
      | in-None w ↦ subst (SameLedger c.args.self.now) (sym w.self-is) before
      | in-Some+then-not-perform_next w ↦
          subst (SameLedger c.args.self.now) (sym w.self-is)
          (same-on c.args.self.now c.loop.self w.perform_next.new.self before w.perform_next.ensures.ledger)
    ]

pub returns-clause-sent : goal.returns-clause-sent
returns-clause-sent g c =
    let old = c.args.self.now in
    let before = c.loop.invariant.2.advances in
    elim c.match-next.branch [
      | in-None w ↦ absurd (false≢true w.in-None.ensures.steps)
      | in-Some+then-not-perform_next w ↦
          subst (SendsAll old) (sym w.self-is)
          (sends-later old c.loop.self w.perform_next.new.self before
          (subst (λ done. PerformsNext done c.loop.self w.perform_next.new.self) w.if-not-perform_next.true w.perform_next.ensures.performed))
    ]
