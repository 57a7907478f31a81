use Rattle.std.proofs.Common.{ℕ, List, [], ◌++◌, sym, ap, ◌∙◌, rules, append_assoc, append-nil}
use Rattle.std.proofs.Output.{has_written_append, has_written_of_eq}
use Rattle.std.proofs.lemmas.Grind.{flat_map-append}
use Rattle.std.proofs.lemmas.List.{nil_from_length}
use Rattle.std.specs.List.{flat_map}
use Rattle.std.specs.Slice.Iter.{chunks_rest}
use Rattle.r6_kernels.specs.Texts.{byte_word}
use Rattle.r6_kernels.proofs.text.write_bytes.Goals as goal

pub loop-piece-init : goal.loop-piece-init
loop-piece-init g c = (search rules, tt, search rules, λ plain. ([], search rules, search rules))

pub loop-piece-preserved : goal.loop-piece-preserved
loop-piece-preserved g c =
    let steps = c.in-Some.ensures.steps in
    let size = c.loop-piece.invariant.2 in (
      search rules,
      tt,
      steps.0 ∙ size,
      λ plain.
          let so_far = c.loop-piece.invariant.3 plain in (
            so_far.0 ++ flat_map byte_word c.in-Some.piece.now,
            has_written_append _ _ _ _ _ _ so_far.1 (search rules),
            append_assoc so_far.0 _ _
                ∙ ap (λ (t : List ℕ). so_far.0 ++ t)
                (sym (flat_map-append byte_word c.in-Some.piece.now (chunks_rest c.next.new.self))
                ∙ ap (flat_map byte_word) (sym steps.1.0))
                ∙ so_far.2,
          ),
    )

pub returns : goal.returns
returns g c = λ plain ok.
    let so_far = c.loop-piece.invariant.3 plain in
    let none = nil_from_length _ c.in-None.ensures.steps.1.0 in
    has_written_of_eq _ _ _ _ _ (rw (none, append-nil) at so_far.2) so_far.1
