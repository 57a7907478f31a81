use Rattle.std.proofs.Common.{◌++◌, ◌∷◌, ap, codes}
use Rattle.r6_script.specs.Script.{Text}
use Rattle.r6_script.proofs.run_parser.parse_fail.Goals as goal

pub returns : goal.returns
returns c = (
  c.in_ok-parse_number.ensures.0,
  ap (λ (text : Text). codes "fail" ++ 32 ∷ text) c.in_ok-parse_number.ensures.1,
)
