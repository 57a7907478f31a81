use Rattle.std.proofs.Common.{List, ap, sym, subst, ◌∙◌}
use Rattle.r6_exchange.specs.declared.task.ServedPart.{ServedPart}
use Rattle.r6_exchange.specs.Answering.{labels_of}
use Rattle.r6_exchange.specs.Parts.{Does}
use Rattle.r6_exchange.proofs.Parts.{gone-missing, gone-stopped, does-kept}
use Rattle.r6_exchange.proofs.worker.Worker.perform.Goals as goal

pub returns-clause-does : goal.returns-clause-does
returns-clause-does g c =
    subst (λ (y : List (ServedPart g.row.D.Denot)). Does g.D.BlockDevice.told g.D.BlockDevice.promised c.args.command c.perform_at.result y c.perform_at.new.self.parts.items)
    (ap (λ v. v.items) c.goes_on-goes_on.ensures.0) c.perform_at.ensures.does

pub returns-in_default-clause-does : goal.returns-in_default-clause-does
returns-in_default-clause-does g c =
    does-kept g.D.BlockDevice.told g.D.BlockDevice.promised c.args.command c.gone.result c.args.self.now.parts.items c.goes_on-goes_on.new.self.parts.items
    (ap (λ v. v.items) c.goes_on-goes_on.ensures.0) c.gone.ensures
    (gone-missing g.D.BlockDevice.told g.D.BlockDevice.promised c.goes_on-goes_on.new.self.parts.items c.args.command
    (sym c.in_default.ensures.place))

pub returns-then-not-index-clause-does : goal.returns-then-not-index-clause-does
returns-then-not-index-clause-does g c =
    does-kept g.D.BlockDevice.told g.D.BlockDevice.promised c.args.command c.gone-then-not-index.result c.args.self.now.parts.items c.goes_on-goes_on.new.self.parts.items
    (ap (λ v. v.items) c.goes_on-goes_on.ensures.0) c.gone-then-not-index.ensures
    (gone-stopped g.D.BlockDevice.told g.D.BlockDevice.promised c.goes_on-goes_on.new.self.parts.items c.in-Some.at
    c.index.result.now c.args.command (sym c.in-Some.ensures.place) (sym c.index.ensures) c.if-not-index.true)

pub returns-clause-labels : goal.returns-clause-labels
returns-clause-labels g c = c.perform_at.ensures.labels ∙ ap (λ v. labels_of v.items) c.goes_on-goes_on.ensures.0

pub returns-in_default-clause-labels : goal.returns-in_default-clause-labels
returns-in_default-clause-labels g c = ap (λ v. labels_of v.items) c.goes_on-goes_on.ensures.0

pub returns-then-not-index-clause-labels : goal.returns-then-not-index-clause-labels
returns-then-not-index-clause-labels g c = ap (λ v. labels_of v.items) c.goes_on-goes_on.ensures.0
