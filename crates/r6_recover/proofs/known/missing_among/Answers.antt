use Rattle.std.proofs.Common.{◌+◌, ◌∙◌, sym, subst}
use Rattle.r6_recover.specs.Known.{IsMissing}
use Rattle.r6_recover.proofs.MissingLaws.{IsMissing-known, IsMissing-with}
use Rattle.r6_recover.proofs.known.missing_among.Goals as goal
use Rattle.r6_recover.proofs.known.missing_among.Goals.{then-not-contains, else-not-contains}

pub loop-position-preserved : goal.loop-position-preserved
loop-position-preserved c =
    elim c.if-not-contains.branch [
      | then-not-contains w ↦
          subst (IsMissing c.args.known (c.loop-position.position + 1)) (sym (w.missing-is ∙ w.with-missing.ensures))
          (IsMissing-with c.args.known c.loop-position.position c.loop-position.missing c.loop-position.invariant (sym c.contains.ensures ∙ w.if-not-contains.true))
      | else-not-contains w ↦
          subst (IsMissing c.args.known (c.loop-position.position + 1)) (sym w.missing-is)
          (IsMissing-known c.args.known c.loop-position.position c.loop-position.missing c.loop-position.invariant (sym c.contains.ensures ∙ w.if-not-contains.false))
    ]
