-- Which frames are free.
use Rattle.std.proofs.Common.{◌≡◌, ℕ, ◌<◌, true, false, List, refl, sym, ap, ◌∙◌, Some}
use Rattle.std.specs.Prelude.{◌==◌, not, replicate, Option, None, MatchOption}
use Rattle.std.proofs.lemmas.List.{get_or-replicate}
use Rattle.std.proofs.lemmas.Nat.Bits.{bit_at_ones}
use Rattle.r6_frames.specs.declared.frames.HeldRow.{HeldRow}
use Rattle.r6_frames.specs.declared.frames.FrameUse.{FrameUse}
use Rattle.r6_frames.specs.declared.frames.FrameUse.TheVariants.{Free, Held as HeldIn, Returning}
use Rattle.r6_frames.specs.Views.{use_at, hold_at, row_in}
use Rattle.r6_bits.specs.Words.{HasNone, IsLowest}
use Rattle.r6_frames.specs.Pool.{AreFree, AreInUse, is_free}
use Rattle.r6_bits.proofs.Words.{AllOut}

-- all are free at the start
pub all_free : AreFree 18446744073709551615 (replicate 64 Free)
all_free i inside = ap (λ (n : ℕ). n == 1) (bit_at_ones 64 i inside) ∙ sym (ap is_free (get_or-replicate {A = FrameUse} 64 i Free Free inside))

-- what is free has no other use
pub free_use : (u : FrameUse) → is_free u ≡ true → u ≡ Free
free_use Free is = refl
free_use (HeldIn h) is = absurd (cc)
free_use (Returning r other) is = absurd (cc)

-- the lowest bit is that of a frame that is free, and none is where no bit is set
pub lowest_free : (free : ℕ) (held : List FrameUse) (found : Option ℕ) → AreFree free held → MatchOption found (HasNone free) (IsLowest free)
    → MatchOption found ((frame : ℕ) → (frame < 64) × (use_at held frame ≡ Free) → ⊥) (λ frame. (frame < 64) × (use_at held frame ≡ Free))
lowest_free free held None are none = λ frame is.
    let both : false ≡ true = sym (none frame is.0) ∙ are frame is.0 ∙ ap is_free is.1 in absurd (cc)
lowest_free free held (Some frame) are is = (is.0, free_use (use_at held frame) (sym (are frame is.0) ∙ is.1))

not_used : (u : FrameUse) → not (is_free u) ≡ false → u ≡ Free
not_used Free is = refl
not_used (HeldIn h) is = absurd (cc)
not_used (Returning r other) is = absurd (cc)

-- a frame that is out of use holds no row
pub out_of_use : (used : ℕ) (held : List FrameUse) (P : ℕ → Type 0) → AreInUse used held
    → ((frame : ℕ) → ((h : HeldRow) → hold_at held frame ≡ Some h → ⊥) → P frame) → AllOut used P
out_of_use used held P are none frame inside out =
    none frame (λ h is.
    let free = not_used (use_at held frame) (sym (are frame inside) ∙ out) in
    let both : None ≡ Some h = sym (ap row_in free) ∙ is in absurd (cc))
