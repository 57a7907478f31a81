-- Which frames hold a row, found by the remainder of its number.
use Rattle.std.specs.Prelude.{◌≡◌, ℕ, ◌<◌, ◌%◌, ◌==◌, ◌&&◌, Bool, false, List, slice_index_or, if◌then◌else◌}
use Rattle.r6_frames.specs.declared.frames.FrameUse.{FrameUse}
use Rattle.r6_frames.specs.declared.frames.FrameUse.TheVariants as uses
use Rattle.r6_frames.specs.declared.holders.Holders.{Holders}
use Rattle.r6_bits.specs.Words.{is_set}
use Rattle.r6_frames.specs.Pool.{AreFree}
use Rattle.r6_frames.specs.Views.{use_at}

-- the two rows have the same remainder
abbrev pub is_like : ℕ → ℕ → Bool
is_like row other = row % 64 == other % 64

-- the frames of the rows with the remainder of this one, a bit each
abbrev pub frames_for : Holders → ℕ → ℕ
frames_for holders row = slice_index_or holders.frames (row % 64) 0

-- the same but for this frame, which holds the row or doesn't
abbrev pub IsWithFrame : Holders → (row frame : ℕ) → Bool → Holders → Type 0
IsWithFrame old row frame holds new = (other i : ℕ) → i < 64
    → is_set (frames_for new other) i ≡ (if is_like row other && (i == frame) then holds else is_set (frames_for old other) i)

-- a row like this one is held
abbrev pub holds_like : ℕ → FrameUse → Bool
holds_like row uses.Free = false
holds_like row (uses.Held h) = is_like h.row row
holds_like row (uses.Returning r second) = false

-- of each frame it is known whether it holds a row like this one
abbrev pub AreFramesFor : (row bits : ℕ) → List FrameUse → Type 0
AreFramesFor row bits held = (frame : ℕ) → frame < 64 → is_set bits frame ≡ holds_like row (use_at held frame)

abbrev pub AreHolders : Holders → List FrameUse → Type 0
AreHolders holders held = (row : ℕ) → AreFramesFor row (frames_for holders row) held

-- it is known which frames are free, and which hold a row
pub record AreMarked (free_frames : ℕ) (holders : Holders) (held : List FrameUse) : Type 0 where
  pub free : AreFree free_frames held
  pub rows : AreHolders holders held
