use Rattle.std.proofs.Common.{◌++◌}
use Rattle.std.proofs.KnownBytes.{Appends-trans}
use Rattle.std.specs.Prelude.{codes, decimal}
use Rattle.r6_run.specs.Lines.{classes_text, rest_text}
use Rattle.r6_run.proofs.Given.{both_written}
use Rattle.r6_run.proofs.lines.write_found.Goals as goal

pub returns : goal.returns
returns g c =
    let found = c.args.found.now in
    both_written c.write_rest.result _ _ _ ((codes "consistent " ++ decimal found.consistent) ++ classes_text found)
    (rest_text found)
    (Appends-trans _ _ _ (codes "consistent " ++ decimal found.consistent) (classes_text found)
    c.in_ok-write.ensures.bytes c.in_ok-write_classes.ensures)
    c.write_rest.ensures
