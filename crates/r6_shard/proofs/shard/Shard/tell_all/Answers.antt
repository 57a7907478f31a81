use Rattle.std.proofs.Common.{◌∙◌, refl, sym, subst}
use Rattle.r6_shard.specs.Counted.{HasPassedRows}
use Rattle.r6_shard.specs.Advances.{Advances}
use Rattle.r6_shard.specs.Shards.{SameLedger}
use Rattle.r6_shard.proofs.Advances.{advances-none, advances-on, same-on}
use Rattle.r6_shard.proofs.shard.Shard.tell_all.Goals as goal
use Rattle.r6_shard.proofs.shard.Shard.tell_all.Goals.{in-None, in-Some+then-not-tell_next}

pub loop-init : goal.loop-init
loop-init g c = (
  tt,
  tt,
  record {
    pass = c.requires;
    advances = advances-none c.args.self.now;
    passed = λ stopped counted rows x. x;
    ledger = record { asked = refl; entries = refl; room = refl };
    last = refl;
  },
)

pub loop-preserved : goal.loop-preserved
loop-preserved g c =
    let before = c.loop.invariant.2 in
    let now = c.tell_next.ensures in (
      tt,
      tt,
      record {
        pass = now.pass;
        advances = advances-on c.args.self.now c.loop.self c.tell_next.new.self before.advances now.advances;
        passed = λ stopped counted rows x. now.passed stopped counted rows (before.passed stopped counted rows x);
        ledger = same-on c.args.self.now c.loop.self c.tell_next.new.self before.ledger now.ledger;
        last = now.last ∙ before.last;
      },
    )

pub returns-clause-passed : goal.returns-clause-passed
returns-clause-passed g c = λ stopped counted rows x.
    let before = c.loop.invariant.2.passed stopped counted rows x in
    elim c.match-next.branch [
      | in-None w ↦ subst (λ s. HasPassedRows stopped counted rows s.core) (sym w.self-is) before
      | in-Some+then-not-tell_next w ↦ subst (λ s. HasPassedRows stopped counted rows s.core) (sym w.self-is) (w.tell_next.ensures.passed stopped counted rows before)
    ]

pub returns-clause-advances : goal.returns-clause-advances
returns-clause-advances g c =
    let old = c.args.self.now in
    let before = c.loop.invariant.2.advances in
    elim c.match-next.branch [
      | in-None w ↦ subst (Advances old) (sym w.self-is) before
      | in-Some+then-not-tell_next w ↦
          subst (Advances old) (sym w.self-is)
          (advances-on old c.loop.self w.tell_next.new.self before w.tell_next.ensures.advances)
    ]

pub returns-clause-ledger : goal.returns-clause-ledger
returns-clause-ledger g c =
    let before = c.loop.invariant.2.ledger in
    elim c.match-next.branch [
      | in-None w ↦ subst (SameLedger c.args.self.now) (sym w.self-is) before
      | in-Some+then-not-tell_next w ↦
          subst (SameLedger c.args.self.now) (sym w.self-is)
          (same-on c.args.self.now c.loop.self w.tell_next.new.self before w.tell_next.ensures.ledger)
    ]
