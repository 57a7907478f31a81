use Rattle.std.proofs.Common.{◌∙◌, ◌*◌, ◌+◌, ◌<◌, ◌/◌, ◌++◌, ℕ, ap, arith, string_bytes, subst, sym}
use Rattle.std.proofs.lemmas.Nat.{mul-add-lt}
use Rattle.r6_layout.specs.Layout.{role_at}
use Rattle.r6_layout.specs.Shape.{IsShape, Shape, chunk_rows}
use Rattle.r6_execute.specs.Layouts.{role_text}
use Rattle.r6_execute.proofs.Texts.{none_written, one_written}
use Rattle.r6_execute.proofs.geometry.write_chunk_row.Goals as goal

-- the first row of a chunk row
row_within : (shape : Shape) (chunk_row : ℕ) → IsShape shape → chunk_row < chunk_rows shape → chunk_row * shape.chunk < shape.rows
row_within shape chunk_row limits below =
    let some : 0 < shape.chunk = limits.chunk_allowed.0 in
    let within : chunk_row * shape.chunk + 0 < shape.chunk * (shape.rows / shape.chunk) =
    mul-add-lt chunk_row shape.chunk 0 (shape.rows / shape.chunk) below some in
    omega (arith, within, some)

pub overflow_mul-row : goal.overflow_mul-row
overflow_mul-row c =
    let shape = c.args.geometry.now in
    let row : c.args.chunk_row * c.chunk.result < shape.rows =
    subst (λ chunk. c.args.chunk_row * chunk < shape.rows) (sym c.chunk.ensures.value) (row_within shape c.args.chunk_row c.chunk.ensures.limits c.requires) in
    omega (arith, row, c.chunk.ensures.limits.rows_allowed.1)

pub loop-slot-init : goal.loop-slot-init
loop-slot-init c = none_written (λ slot. role_text (role_at c.args.geometry.now (c.args.chunk_row * c.chunk.result) slot)) _

pub role-requires-clause-row_within : goal.role-requires-clause-row_within
role-requires-clause-row_within c =
    let shape = c.args.geometry.now in
    subst (λ chunk. c.args.chunk_row * chunk < shape.rows) (sym c.chunk.ensures.value) (row_within shape c.args.chunk_row c.chunk.ensures.limits c.requires)

pub loop-slot-preserved : goal.loop-slot-preserved
loop-slot-preserved c =
    let shape = c.args.geometry.now in
    let row = c.args.chunk_row * c.chunk.result in
    let text = string_bytes c.loop-slot.text in
    one_written (λ slot. role_text (role_at shape row slot)) _ text _ c.loop-slot.slot c.loop-slot.invariant
    (c.in_ok-write_role.ensures ∙ ap (λ role. text ++ role_text role) c.role.ensures.value)
