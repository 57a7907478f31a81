use Rattle.std.proofs.Common.{lit≤, sym, ◌∙◌}
use Rattle.r6_script.proofs.ScriptLemmas.{cut_number}
use Rattle.r6_script.proofs.RunLemmas.{is_empty}
use Rattle.r6_script.proofs.run_parser.parse_device.Goals as goal

pub returns-then-is_empty : goal.returns-then-is_empty
returns-then-is_empty c device is e =
    let found = c.in_ok-slot.ensures in
    let same = (cut_number 32 (lit≤ tt) c.in_ok-slot.slot device.0 c.in_ok-slot.path.now device.1.now found.0 is.0 (sym found.1 ∙ e)).1 in
    is.1 (sym same ∙ is_empty c.in_ok-slot.path.now c.if-is_empty.ensures)
