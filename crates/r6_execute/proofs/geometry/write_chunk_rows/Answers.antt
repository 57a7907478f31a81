use Rattle.std.proofs.Common.{◌≡◌, ◌∙◌, ◌<◌, ◌/◌, ◌++◌, ap, arith, min, ℕ, string_bytes, subst}
use Rattle.r6_layout.specs.Shape.{Shape, chunk_rows}
use Rattle.r6_execute.specs.Layouts.{chunk_row_line}
use Rattle.r6_script.specs.Texts.{texts_below}
use Rattle.r6_execute.proofs.Texts.{all_written, none_written, one_written}
use Rattle.r6_execute.proofs.geometry.write_chunk_rows.Goals as goal

end_is : (shape : Shape) (end slots rows chunk : ℕ) → end ≡ min slots (rows / chunk) → slots ≡ shape.slots → rows ≡ shape.rows → chunk ≡ shape.chunk
    → end ≡ min shape.slots (chunk_rows shape)
end_is shape end slots rows chunk is of_slots of_rows of_chunk =
    is ∙ ap (λ n. min n (rows / chunk)) of_slots ∙ ap (λ n. min shape.slots (n / chunk)) of_rows ∙ ap (λ n. min shape.slots (shape.rows / n)) of_chunk

within : (shape : Shape) (chunk_row end : ℕ) → end ≡ min shape.slots (chunk_rows shape) → chunk_row < end → chunk_row < chunk_rows shape
within shape chunk_row end is below = omega (arith, is, below)

pub loop-chunk_row-init : goal.loop-chunk_row-init
loop-chunk_row-init c = none_written (chunk_row_line c.args.geometry.now) (string_bytes c.args.text.now)

pub write_chunk_row-requires : goal.write_chunk_row-requires
write_chunk_row-requires c =
    within c.args.geometry.now c.loop-chunk_row.chunk_row c.min-end.result
    (end_is c.args.geometry.now c.min-end.result _ _ _ c.min-end.ensures c.slots.ensures.value c.rows.ensures.value c.chunk.ensures.value)
    c.loop-chunk_row-test.true

pub loop-chunk_row-preserved : goal.loop-chunk_row-preserved
loop-chunk_row-preserved c =
    one_written (chunk_row_line c.args.geometry.now) (string_bytes c.args.text.now) (string_bytes c.loop-chunk_row.text) _ c.loop-chunk_row.chunk_row
    c.loop-chunk_row.invariant c.in_ok-write_chunk_row.ensures

pub returns : goal.returns
returns c =
    let line = chunk_row_line c.args.geometry.now in
    let begun = string_bytes c.args.text.now in
    let text = string_bytes c.loop-chunk_row.text in
    subst (λ rows. text ≡ begun ++ texts_below line rows)
    (end_is c.args.geometry.now c.min-end.result _ _ _ c.min-end.ensures c.slots.ensures.value c.rows.ensures.value c.chunk.ensures.value)
    (all_written line begun text c.loop-chunk_row.chunk_row c.min-end.result c.loop-chunk_row.invariant c.loop-chunk_row-test.false
    c.loop-chunk_row.auto.chunk_row-end)
