-- Requests that wait, and the requests that they are.
use Rattle.std.proofs.Common.{◌≡◌, ℕ, Bool, true, false, List, [], ◌∷◌, map, refl, sym, ap, ◌∙◌, Some, None}
use Rattle.r6_world.specs.ShardStates as shards
use Rattle.r6_world.specs.ShardStates.{Stage, Waiting, Erred}
use Rattle.r6_world.specs.declared.values.Request.{Request}
use Rattle.r6_frames.specs.declared.frames.Frames.{Frames}
use Rattle.r6_frames.specs.Calls.{entry_of}
use Rattle.r6_frames.specs.Writes.{Entry, request_of}
use Rattle.r6_core.specs.declared.queued.Queued.{Queued}
use Rattle.r6_core.specs.Queued.{request_in, unerred, waiting_stage}
use Rattle.r6_core.specs.Batches.{block_written}
use Rattle.r6_core.specs.Inside.{IsQueuedOf, waited}

-- what is true of both stages of a request that waits
pub waits_so : (Fact : Stage → Type 0) → Fact Waiting → Fact Erred → (erred : Bool) → Fact (waiting_stage erred)
waits_so Fact plain erred false = plain
waits_so Fact plain erred true = erred

-- a write met no read error
pub write_unerred : (fs : Frames) (q : Queued) (block : ℕ) → IsQueuedOf fs q → block_written q.op ≡ Some block → q.erred ≡ false
write_unerred fs q block own writes = by_bit q.erred refl
  where
    by_bit : (b : Bool) → q.erred ≡ b → b ≡ false
    by_bit false e = refl
    by_bit true e = absurd (let both : None ≡ Some block = sym (own.read e) ∙ writes in cc both)

-- so that it waits as its request does
pub as_waited : (q : Queued) → q.erred ≡ false → unerred (request_in q) ≡ q
as_waited q plain i = record { id = q.id; op = q.op; erred = sym plain i }

-- the requests of a hold's writes
pub requests_waited : (writes : List Entry) → map request_in (map waited writes) ≡ map request_of writes
requests_waited [] = refl
requests_waited (write ∷ writes) = ap (λ (rs : List Request). request_of write ∷ rs) (requests_waited writes)

-- what the frame has of them
pub entries_in : (frame : ℕ) (qs : List Queued) → map (entry_of frame) (map request_in qs) ≡ map (λ q. entry_of frame (request_in q)) qs
entries_in frame [] = refl
entries_in frame (q ∷ qs) = ap (λ (es : List (ℕ × shards.Request)). entry_of frame (request_in q) ∷ es) (entries_in frame qs)
