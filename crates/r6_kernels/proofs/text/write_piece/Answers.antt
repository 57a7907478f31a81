use Rattle.std.proofs.Common.{◌<◌, ◌∙◌}
use Rattle.std.proofs.lemmas.List.Elements.{All-from_get_or}
use Rattle.std.proofs.lemmas.Str.{IsUtf8-from_ascii}
use Rattle.r6_kernels.proofs.HexTexts.{encoded, ascii}
use Rattle.r6_kernels.proofs.text.write_piece.Goals as goal

pub unreachable-requires-in_default-from_utf8 : goal.unreachable-requires-in_default-from_utf8
unreachable-requires-in_default-from_utf8 g c =
    let all = All-from_get_or (λ byte. byte < 256) c.args.piece.now 0 (λ i h. (c.type_inv.piece i).fits) in
    let is = c.in-Ok.ensures.written ∙ encoded c.args.piece.now all in
    c.in_default-from_utf8.ensures.cases.0 (rw is (IsUtf8-from_ascii _ (ascii c.args.piece.now all)))

pub returns : goal.returns
returns g c = λ plain ok.
    let all = All-from_get_or (λ byte. byte < 256) c.args.piece.now 0 (λ i h. (c.type_inv.piece i).fits) in
    let is = c.in-Ok-from_utf8.ensures.cases.0 ∙ c.in-Ok.ensures.written ∙ encoded c.args.piece.now all in
    rw is at (c.write_str.ensures.writes plain ok)
