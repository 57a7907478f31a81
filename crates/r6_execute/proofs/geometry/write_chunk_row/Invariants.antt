use Rattle.std.proofs.Common.{◌≡◌, ◌++◌, string_bytes}
use Rattle.r6_layout.specs.Layout.{role_at}
use Rattle.r6_execute.specs.Layouts.{role_text}
use Rattle.r6_script.specs.Texts.{texts_below}
use Rattle.r6_execute.proofs.geometry.write_chunk_row.Given as goal

abbrev pub invariant-loop-slot : goal.invariant-loop-slot
invariant-loop-slot l =
    string_bytes l.text ≡ string_bytes l.initial.text ++ texts_below (λ slot. role_text (role_at l.geometry l.row slot)) l.slot
