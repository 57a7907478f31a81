use Rattle.std.proofs.Common.{◌≡◌, ◌≢◌, ◌∙◌, ℕ, Option, Some, None, MatchOption, false, is_some, inl, inr, refl, sym, subst, arith}
use Rattle.r6_layout.specs.Limits.{first_fault, fault_number}
use Rattle.r6_layout.specs.declared.geometry.GeometryError.{GeometryError}
use Rattle.r6_layout.specs.declared.geometry.GeometryError.TheVariants as shape
use Rattle.r6_array.specs.News.{HasFault, HasNoFault}
use Rattle.r6_array.specs.Errors.{error_number}
use Rattle.r6_array.specs.declared.error.ArrayError.{ArrayError}
use Rattle.r6_array.specs.declared.error.ArrayError.TheVariants.{Window, Lost, NoMemory, NoSuchShard, Begun}
use Rattle.r6_array_c.specs.Making.{IsUnmade, IsUnmadeOrder, IsUnmadeRegister, geometry_of}
use Rattle.r6_array_c.specs.declared.handle.Shape.{Shape}

-- memory may be refused where nothing else is wrong
pub no_memory : (s : Shape) → first_fault (geometry_of s) ≡ None → HasNoFault (geometry_of s) s.window s.lost → IsUnmade s 8
no_memory s none allowed =
    subst
    (λ found. MatchOption found
    ((fault : ArrayError) × HasFault (geometry_of s) s.window s.lost fault × (8 ≡ error_number fault))
    (λ fault. 8 ≡ fault_number fault))
    (sym none) (NoMemory, allowed, refl)

-- what isn't there is none
pub none_of : {A : Type 0} (o : Option A) → is_some o ≡ false → o ≡ None
none_of None e = refl
none_of (Some x) e = absurd (cc)

-- ---- no reason has the number 0

fault_some : (fault : GeometryError) → fault_number fault ≢ 0
fault_some shape.Slots e = absurd (omega (arith, e))
fault_some shape.Chunk e = absurd (omega (arith, e))
fault_some shape.Block e = absurd (omega (arith, e))
fault_some shape.Rows e = absurd (omega (arith, e))
fault_some shape.Shards e = absurd (omega (arith, e))

error_some : (error : ArrayError) → error_number error ≢ 0
error_some Window e = absurd (omega (arith, e))
error_some Lost e = absurd (omega (arith, e))
error_some NoMemory e = absurd (omega (arith, e))
error_some NoSuchShard e = absurd (omega (arith, e))
error_some Begun e = absurd (omega (arith, e))

-- of the shape's first fault, or else of another
some_of : (fault : Option GeometryError) (Other : Type 0) (n : ℕ) → (Other → n ≢ 0)
    → MatchOption fault Other (λ f. n ≡ fault_number f) → n ≢ 0
some_of None Other n other x = other x
some_of (Some fault) Other n other x = λ e. fault_some fault (sym x ∙ e)

pub unmade_some : (s : Shape) (n : ℕ) → IsUnmade s n → n ≢ 0
unmade_some s n = some_of (first_fault (geometry_of s)) _ n (λ x e. error_some x.0 (sym x.2 ∙ e))

pub unmade_order_some : (s : Shape) (n : ℕ) → IsUnmadeOrder s n → n ≢ 0
unmade_order_some s n = some_of (first_fault (geometry_of s)) (n ≡ 8) n (λ x e. absurd (omega (arith, x, e)))

pub unmade_register_some : (s : Shape) (n : ℕ) → IsUnmadeRegister s n → n ≢ 0
unmade_register_some s n =
    some_of (first_fault (geometry_of s)) _ n (λ x e. elim x [ inl p ↦ absurd (omega (arith, p.1, e)) | inr p ↦ absurd (omega (arith, p.1, e)) ])
