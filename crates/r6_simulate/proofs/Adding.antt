-- The devices of the beginning, one slot after another.
use Rattle.std.proofs.Common.{◌≡◌, ◌∙◌, ℕ, ◌+◌, List, [], ◌∷◌, ◌++◌, map, ap, sym, arith}
use Rattle.std.specs.List.{range_with_len}
use Rattle.std.proofs.lemmas.List.FromFn.{map-range_with_len_more}
use Rattle.r6_layout.specs.Shape.{Shape}
use Rattle.r6_simulate.specs.Devices.{Adds, coming, device_of, first_device}
use Rattle.r6_simulate.specs.declared.devices.Attached.{Attached}
use Rattle.r6_simulate.specs.declared.devices.Devices.{Devices}

comes_first : (shape : Shape) (devices : Devices) (slot : ℕ) → devices.rows ≡ shape.rows → devices.blocks.len ≡ shape.block
    → coming devices slot 0 0 ≡ first_device shape slot
comes_first shape devices slot rows block =
    ap (λ r. record { slot = slot; generation = 0; device = device_of r devices.blocks.len 0 }) rows
    ∙ ap (λ b. record { slot = slot; generation = 0; device = device_of shape.rows b 0 }) block

pub one_more_first : (shape : Shape) (old new : Devices) (slot : ℕ) → old.attached.items ≡ map (first_device shape) (range_with_len 0 slot)
    → old.rows ≡ shape.rows → old.blocks.len ≡ shape.block → Adds slot 0 0 old new
    → new.attached.items ≡ map (first_device shape) (range_with_len 0 (slot + 1))
one_more_first shape old new slot were rows block adds =
    adds.attached
    ∙ ap (λ (items : List Attached). items ++ coming old slot 0 0 ∷ []) were
    ∙ ap (λ (a : Attached). map (first_device shape) (range_with_len 0 slot) ++ a ∷ []) (comes_first shape old slot rows block)
    ∙ sym (map-range_with_len_more (first_device shape) 0 slot slot (omega arith))
