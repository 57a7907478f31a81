-- A device that is written row by row.
use Rattle.std.proofs.Common.{◌≡◌, ◌∙◌, ℕ, ◌+◌, ◌-◌, ◌<◌, suc, List, [], ◌∷◌, ◌++◌, ap, sym, replicate, slice_set, append_assoc, arith}
use Rattle.std.proofs.lemmas.List.{length-replicate, replicate_more, set-append_right}
use Rattle.r6_dev.specs.Memory.{Memory}

-- the rows below this one have the byte, the others are of zeros
abbrev pub half_filled : (rows block byte row : ℕ) → Memory
half_filled rows block byte row = record {
  first = 0;
  block = block;
  blocks = replicate row (replicate block byte) ++ replicate (rows - row) (replicate block 0);
}

one_more : {A : Type 0} (done left : ℕ) (new old : A)
    → slice_set (replicate done new ++ replicate (suc left) old) done new
    ≡ replicate (done + 1) new ++ replicate left old
one_more done left new old =
    let none : done - done ≡ 0 = omega arith in
    set-append_right (replicate done new) (replicate (suc left) old) done done new (length-replicate done new)
    (omega arith)
    ∙ ap (λ place. replicate done new ++ slice_set (replicate (suc left) old) place new) none
    ∙ sym (append_assoc (replicate done new) (new ∷ []) (replicate left old))
    ∙ ap (λ items. items ++ replicate left old) (replicate_more done new)

pub fills_row : {A : Type 0} (rows row : ℕ) (new old : A) → row < rows
    → slice_set (replicate row new ++ replicate (rows - row) old) row new
    ≡ replicate (row + 1) new ++ replicate (rows - (row + 1)) old
fills_row rows row new old within =
    let left_is : rows - row ≡ suc (rows - (row + 1)) = omega (arith, within) in
    ap (λ left. slice_set (replicate row new ++ replicate left old) row new) left_is
    ∙ one_more row (rows - (row + 1)) new old

pub writes_row : (rows len byte row : ℕ) (device new : Memory) (block : List ℕ) → row < rows
    → device ≡ half_filled rows len byte row → block ≡ replicate len byte
    → new ≡ record device { blocks = slice_set device.blocks (row - device.first) block }
    → new ≡ half_filled rows len byte (row + 1)
writes_row rows len byte row device new block within was block_is now =
    let filled = replicate row (replicate len byte) ++ replicate (rows - row) (replicate len 0) in
    let place_is : row - 0 ≡ row = omega arith in
    now
    ∙ ap (λ (d : Memory). record d { blocks = slice_set d.blocks (row - d.first) block }) was
    ∙ ap (λ (b : List ℕ). record (half_filled rows len byte row) { blocks = slice_set filled (row - 0) b }) block_is
    ∙ ap (λ place. record (half_filled rows len byte row) { blocks = slice_set filled place (replicate len byte) })
    place_is
    ∙ ap (λ blocks. record (half_filled rows len byte row) { blocks = blocks })
    (fills_row rows row (replicate len byte) (replicate len 0) within)
