-- What is true of each item of a list at its place.
use Rattle.std.proofs.Common.{ℕ, zero, suc, List, [], ◌∷◌, ◌++◌, length, subst, sym, arith}
use Rattle.r6_simulate.specs.Devices.{IsAt}

pub each_more : {A : Type 0} (P : ℕ → A → Type 0) (items : List A) (more : A) → ((place : ℕ) (item : A) → IsAt items place item → P place item)
    → P (length items) more → (place : ℕ) (item : A) → IsAt (items ++ more ∷ []) place item → P place item
each_more P [] more each last zero item there = subst (P 0) (sym there.1) last
each_more P [] more each last (suc place) item there = absurd (omega (arith, there.0))
each_more P (first ∷ items) more each last zero item there = each zero item (omega arith, there.1)
each_more P (first ∷ items) more each last (suc place) item there =
    each_more (λ p. P (suc p)) items more (λ p i at. each (suc p) i (omega (arith, at.0), at.1)) last place item (omega (arith, there.0), there.1)
