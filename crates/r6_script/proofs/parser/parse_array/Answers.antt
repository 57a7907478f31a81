use Rattle.std.proofs.Common.{◌++◌, ◌∷◌, ap, sym, ◌∙◌, codes, decimal}
use Rattle.r6_layout.specs.Shape.{shape_of}
use Rattle.r6_script.specs.Script.{Text}
use Rattle.r6_script.proofs.ScriptLemmas.{after_array, from_chunk, from_block, from_rows, from_shards, made_array, numbers_of, peeled, stripped}
use Rattle.r6_script.proofs.parser.parse_array.Goals as goal

pub returns-in_err-chunk : goal.returns-in_err-chunk
returns-in_err-chunk c =
    rw c.from_residual-in_err-chunk.ensures (λ shape is e.
    let numbers = numbers_of shape is in
    let is_slots = after_array c.in_ok-text.text.now shape (sym (stripped (codes "array ") c.args.line.now c.in_ok-text.text.now _ c.in_ok-text.ensures.cases.1 c.in_ok-text.ensures.cases.2) ∙ e) in
    let is_chunk = (peeled c.in_ok-text.text.now c.in_ok-slots.slots shape.slots c.in_ok-slots.text.now (from_chunk shape) c.in_ok-slots.ensures.0 numbers.slots c.in_ok-slots.ensures.1 is_slots).1 in
    c.in_err-chunk.ensures shape.chunk (from_block shape) numbers.chunk is_chunk)

pub returns-in_err-block : goal.returns-in_err-block
returns-in_err-block c =
    rw c.from_residual-in_err-block.ensures (λ shape is e.
    let numbers = numbers_of shape is in
    let is_slots = after_array c.in_ok-text.text.now shape (sym (stripped (codes "array ") c.args.line.now c.in_ok-text.text.now _ c.in_ok-text.ensures.cases.1 c.in_ok-text.ensures.cases.2) ∙ e) in
    let is_chunk = (peeled c.in_ok-text.text.now c.in_ok-slots.slots shape.slots c.in_ok-slots.text.now (from_chunk shape) c.in_ok-slots.ensures.0 numbers.slots c.in_ok-slots.ensures.1 is_slots).1 in
    let is_block = (peeled c.in_ok-slots.text.now c.in_ok-chunk.chunk shape.chunk c.in_ok-chunk.text.now (from_block shape) c.in_ok-chunk.ensures.0 numbers.chunk c.in_ok-chunk.ensures.1 is_chunk).1 in
    c.in_err-block.ensures shape.block (from_rows shape) numbers.block is_block)

pub returns-in_err-rows : goal.returns-in_err-rows
returns-in_err-rows c =
    rw c.from_residual-in_err-rows.ensures (λ shape is e.
    let numbers = numbers_of shape is in
    let is_slots = after_array c.in_ok-text.text.now shape (sym (stripped (codes "array ") c.args.line.now c.in_ok-text.text.now _ c.in_ok-text.ensures.cases.1 c.in_ok-text.ensures.cases.2) ∙ e) in
    let is_chunk = (peeled c.in_ok-text.text.now c.in_ok-slots.slots shape.slots c.in_ok-slots.text.now (from_chunk shape) c.in_ok-slots.ensures.0 numbers.slots c.in_ok-slots.ensures.1 is_slots).1 in
    let is_block = (peeled c.in_ok-slots.text.now c.in_ok-chunk.chunk shape.chunk c.in_ok-chunk.text.now (from_block shape) c.in_ok-chunk.ensures.0 numbers.chunk c.in_ok-chunk.ensures.1 is_chunk).1 in
    let is_rows = (peeled c.in_ok-chunk.text.now c.in_ok-block.block shape.block c.in_ok-block.text.now (from_rows shape) c.in_ok-block.ensures.0 numbers.block c.in_ok-block.ensures.1 is_block).1 in
    c.in_err-rows.ensures shape.rows (from_shards shape) numbers.rows is_rows)

pub returns-in_err-shards : goal.returns-in_err-shards
returns-in_err-shards c =
    rw c.from_residual-in_err-shards.ensures (λ shape is e.
    let numbers = numbers_of shape is in
    let is_slots = after_array c.in_ok-text.text.now shape (sym (stripped (codes "array ") c.args.line.now c.in_ok-text.text.now _ c.in_ok-text.ensures.cases.1 c.in_ok-text.ensures.cases.2) ∙ e) in
    let is_chunk = (peeled c.in_ok-text.text.now c.in_ok-slots.slots shape.slots c.in_ok-slots.text.now (from_chunk shape) c.in_ok-slots.ensures.0 numbers.slots c.in_ok-slots.ensures.1 is_slots).1 in
    let is_block = (peeled c.in_ok-slots.text.now c.in_ok-chunk.chunk shape.chunk c.in_ok-chunk.text.now (from_block shape) c.in_ok-chunk.ensures.0 numbers.chunk c.in_ok-chunk.ensures.1 is_chunk).1 in
    let is_rows = (peeled c.in_ok-chunk.text.now c.in_ok-block.block shape.block c.in_ok-block.text.now (from_rows shape) c.in_ok-block.ensures.0 numbers.block c.in_ok-block.ensures.1 is_block).1 in
    let is_shards = (peeled c.in_ok-block.text.now c.in_ok-rows.rows shape.rows c.in_ok-rows.text.now (from_shards shape) c.in_ok-rows.ensures.0 numbers.rows c.in_ok-rows.ensures.1 is_rows).1 in
    c.in_err-shards.ensures shape.shards numbers.shards is_shards)

pub returns : goal.returns
returns c =
    let slots = c.in_ok-slots.ensures in
    let chunk = c.in_ok-chunk.ensures in
    let block = c.in_ok-block.ensures in
    let rows = c.in_ok-rows.ensures in
    let shards = c.in_ok-shards.ensures in
    let line = stripped (codes "array ") c.args.line.now c.in_ok-text.text.now _ c.in_ok-text.ensures.cases.1 c.in_ok-text.ensures.cases.2
    ∙ ap (λ (text : Text). codes "array " ++ text) (slots.1
    ∙ ap (λ (text : Text). decimal c.in_ok-slots.slots ++ 32 ∷ text) (chunk.1
    ∙ ap (λ (text : Text). decimal c.in_ok-chunk.chunk ++ 32 ∷ text) (block.1
    ∙ ap (λ (text : Text). decimal c.in_ok-block.block ++ 32 ∷ text) (rows.1
    ∙ ap (λ (text : Text). decimal c.in_ok-rows.rows ++ 32 ∷ text) shards.1)))) in
    rw c.ok.ensures.value (made_array c.args.line.now (shape_of c.in_ok-slots.slots c.in_ok-chunk.chunk c.in_ok-block.block c.in_ok-rows.rows c.in_ok-shards.shards)
    (record { slots = slots.0; chunk = chunk.0; block = block.0; rows = rows.0; shards = shards.0 }) line c.new.result c.new.ensures.made c.new.ensures.limits c.new.ensures.refused)
