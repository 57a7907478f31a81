use Rattle.std.proofs.Common.{◌++◌, ◌∷◌, ap, codes}
use Rattle.r6_script.specs.Script.{Text}
use Rattle.r6_script.proofs.RunLemmas.{only_attach}
use Rattle.r6_script.proofs.run_parser.parse_attach.Goals as goal

pub returns-in_err-slot : goal.returns-in_err-slot
returns-in_err-slot c =
    rw c.from_residual.ensures (λ event is e. let said = only_attach c.args.text.now event e is in
    c.in_err-slot.ensures said.0 said.1 said.2)

pub returns : goal.returns
returns c = (c.in_ok-slot.ensures.0, ap (λ (text : Text). codes "attach" ++ 32 ∷ text) c.in_ok-slot.ensures.1)
