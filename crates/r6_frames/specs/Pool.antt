-- Which of the direct buffers, and which of the frames, are free: bit i says it of number i.
use Rattle.std.specs.Prelude.{◌≡◌, ℕ, ◌<◌, ◌≤◌, Bool, true, false, not, List, length}
use Rattle.r6_frames.specs.declared.directs.Direct.{Direct}
use Rattle.r6_frames.specs.declared.frames.FrameUse.{FrameUse}
use Rattle.r6_frames.specs.declared.frames.FrameUse.TheVariants as uses
use Rattle.r6_bits.specs.Words.{is_set}
use Rattle.r6_frames.specs.Directs.{direct_at, is_free_direct}
use Rattle.r6_frames.specs.Views.{use_at}

pub record IsPool (free : ℕ) (buffers : List Direct) : Type 0 where
  pub few : length buffers ≤ 64
  pub bits : (number : ℕ) → number < 64 → is_set free number ≡ is_free_direct (direct_at buffers number)

abbrev pub is_free : FrameUse → Bool
is_free uses.Free = true
is_free (uses.Held h) = false
is_free (uses.Returning r second) = false

abbrev pub AreFree : ℕ → List FrameUse → Type 0
AreFree free held = (frame : ℕ) → frame < 64 → is_set free frame ≡ is_free (use_at held frame)

abbrev pub AreInUse : ℕ → List FrameUse → Type 0
AreInUse used held = (frame : ℕ) → frame < 64 → is_set used frame ≡ not (is_free (use_at held frame))
