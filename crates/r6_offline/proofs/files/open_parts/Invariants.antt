use Rattle.std.specs.Prelude.{map, string_bytes}
use Rattle.r6_offline.proofs.FileLaws.{Opened}
use Rattle.r6_offline.proofs.files.open_parts.Given as goal

abbrev pub invariant-loop-number : goal.invariant-loop-number
invariant-loop-number g l = Opened l.geometry (map string_bytes l.paths) l.lost l.access l.number l.parts.items
