use Rattle.std.proofs.Common.{◌≡◌, ◌++◌, string_bytes}
use Rattle.r6_execute.specs.Layouts.{chunk_row_line}
use Rattle.r6_script.specs.Texts.{texts_below}
use Rattle.r6_execute.proofs.geometry.write_chunk_rows.Given as goal

abbrev pub invariant-loop-chunk_row : goal.invariant-loop-chunk_row
invariant-loop-chunk_row l =
    string_bytes l.text ≡ string_bytes l.initial.text ++ texts_below (chunk_row_line l.geometry) l.chunk_row
