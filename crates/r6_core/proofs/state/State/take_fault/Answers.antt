use Rattle.std.proofs.Common.{◌≡◌, inl, inr, refl, ap, subst, sym, ◌∙◌}
use Rattle.r6_world.specs.Steps.{Error, Taken}
use Rattle.r6_world.specs.Values.{error_of}
use Rattle.r6_world.specs.declared.values.FaultKind.{FaultKind}
use Rattle.r6_world.specs.declared.values.FaultKind.TheVariants as fault_kind
use Rattle.r6_core.specs.Inside.{TakesThrough}
use Rattle.r6_core.proofs.Losing.{lost_by_error}
use Rattle.r6_core.proofs.state.State.take_fault.Goals as goal

pub returns-in-ReadFault-clause-again : goal.returns-in-ReadFault-clause-again
returns-in-ReadFault-clause-again c = elim c.take_read_error.ensures.again [
  | inl lost ↦ (lost.0, inl lost.1, lost.2)
  | inr set ↦ (set.0, inr set.1, set.2)
]

pub returns-in-WriteFault : goal.returns-in-WriteFault
returns-in-WriteFault c =
    let lost = c.lose.ensures in
    let error = lost_by_error c.args.self.now c.args.token c.lose.new.self lost.takes in
    let takes : (kind : FaultKind) → error_of kind ≡ Error → c.args.fault.kind ≡ kind → TakesThrough c.args.self.now c.args.token (error_of c.args.fault.kind) Taken c.lose.new.self =
    λ kind of is. subst (λ completion. TakesThrough c.args.self.now c.args.token completion Taken c.lose.new.self) (sym (ap error_of is ∙ of)) error in
    record {
      core = lost.core;
      takes = elim c.in-WriteFault.is [
        | inl write ↦ takes fault_kind.WriteFault refl write
        | inr others ↦ elim others [ inl gone ↦ takes fault_kind.Gone refl gone | inr length ↦ takes fault_kind.Length refl length ]
      ];
      keeps = lost.keeps;
      again = (lost.again.0, inl lost.again.1, lost.again.2);
      order = lost.order;
    }
