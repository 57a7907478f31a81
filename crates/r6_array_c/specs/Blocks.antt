-- The blocks that the program and the library exchange.
use Rattle.std.specs.Prelude.{◌≡◌, ◌==◌, ◌&&◌, ◌+◌, ◌<◌, ℕ, nat_lt, Bool, true, false, if◌then◌else◌, List, [], ◌∷◌, ◌++◌, length, fold, All}
use Rattle.std.specs.Ptr.{Ptr}
use Rattle.r6_layout.specs.PlainArray.{Block}
use Rattle.r6_world.specs.Values.{buffer_of}
use Rattle.r6_world.specs.declared.values.Op.{Op}
use Rattle.r6_world.specs.declared.values.Op.TheVariants as op
use Rattle.r6_array.specs.Arrays.{ShardView, ArrayView, Has}
use Rattle.r6_array.specs.Requests.{Named}

-- the blocks of an array, or of a shard, that aren't in it
pub record BlocksView : Type 0 where
  pub spare : List Block  -- the buffers for requests to come
  pub most : ℕ  -- there is room for so many of them
  pub stage : Block
  pub stage_at : Ptr  -- where it stands in memory
  pub answered : Block
  pub answered_at : Ptr

-- all have one length
pub record AreOneLength (spare : List Block) (stage answered : Block) : Type 0 where
  pub buffers : All (λ buffer. length buffer ≡ length stage) spare
  pub reply : length answered ≡ length stage

-- the blocks of the program have the length that they had, and there is room for as many spare buffers
pub record KeepsLengths (old new : BlocksView) : Type 0 where
  pub stage : length new.stage ≡ length old.stage
  pub answered : length new.answered ≡ length old.answered
  pub most : new.most ≡ old.most

-- so many spare buffers with room for no more, and all blocks of this length
pub record AreMadeBlocks (count length_of_a_block : ℕ) (blocks : BlocksView) : Type 0 where
  pub spare : length blocks.spare ≡ count
  pub most : blocks.most ≡ count
  pub buffers : All (λ buffer. length buffer ≡ length_of_a_block) blocks.spare
  pub stage : length blocks.stage ≡ length_of_a_block
  pub answered : length blocks.answered ≡ length_of_a_block

-- what a program asks for: a write carries what stood in the stage, a read a buffer of that length
abbrev pub IsAsked : (stage : Block) → (block : ℕ) → (is_write : Bool) → Op → Type 0
IsAsked stage block true o = o ≡ op.Write block stage
IsAsked stage block false o = (buffer : Block) × (length buffer ≡ length stage) × (o ≡ op.Read block buffer)

-- a request is made with a spare buffer, which has room to come back
pub record MakesRequest (old : BlocksView) (block : ℕ) (is_write : Bool) (o : Op) (new : BlocksView) : Type 0 where
  pub asked : IsAsked old.stage block is_write o
  pub spare : length new.spare + 1 ≡ length old.spare
  pub room : length new.spare < new.most
  pub lengths : KeepsLengths old new

-- a buffer is spare again, if there is room for it
abbrev pub spared : BlocksView → Block → BlocksView
spared blocks buffer =
    if nat_lt (length blocks.spare) blocks.most then record blocks { spare = blocks.spare ++ buffer ∷ [] } else blocks

-- a buffer of the stage's length is spare again, if there is room for it; any other is let go of
abbrev pub kept : BlocksView → Block → BlocksView
kept blocks buffer =
    if (length buffer == length blocks.stage) && nat_lt (length blocks.spare) blocks.most
    then record blocks { spare = blocks.spare ++ buffer ∷ [] }
    else blocks

-- so are those of requests, one after another
abbrev pub all_kept : BlocksView → List Named → BlocksView
all_kept blocks requests = fold (λ b request. kept b (buffer_of request.0)) blocks requests

-- the blocks of each shard of an array have this length
abbrev pub HaveBlocksOf : ArrayView → (bytes : ℕ) → Type 0
HaveBlocksOf a bytes = (n : ℕ) (s : ShardView) → Has a n s → s.core.shape.block ≡ bytes
