use Rattle.std.proofs.Common.{◌≡◌, length}
use Rattle.r6_script.specs.Script.{lines_of}
use Rattle.r6_script.proofs.ScriptLemmas.{HasRead}
use Rattle.r6_script.proofs.parser.parse_script.Given as goal

abbrev pub invariant-loop-line : goal.invariant-loop-line
invariant-loop-line l = (l.number ≡ length l.yielded) × HasRead (lines_of l.text) l.number l.script
