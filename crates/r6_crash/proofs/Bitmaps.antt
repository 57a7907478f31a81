-- A resync of the rows that a write holds.
use Rattle.std.proofs.Common.{ℕ, cond, inl, inr, refl, ap, ◌∙◌}
use Rattle.std.proofs.lemmas.Bool.{cases_Bool}
use Rattle.r6_layout.specs.PlainArray.{Block}
use Rattle.r6_world.specs.Worlds.{started}
use Rattle.r6_world.specs.Laws.{at_start}
use Rattle.r6_world.specs.Witness.{after_all}
use Rattle.r6_world.proofs.Laws.KeptClaims.{holds-at}
use Rattle.r6_crash.specs.Crashes.{none_lost, held_by, as_first, resynced, resynced_in, plain_after_all, BitmapLaw}
use Rattle.r6_crash.proofs.Starts.{starts}
use Rattle.r6_crash.proofs.Stands.{IsShardOf, kept-run}
use Rattle.r6_crash.proofs.Resync.{crash_law}

pub bitmap_law : BitmapLaw
bitmap_law l is r device array start moments may device_of whole marked unwritten r' reg =
    let w = after_all l (started l r device) moments in
    let plain = plain_after_all l (started l r device) (at_start array) moments in
    let x = kept-run l is r device array start moments may in
    let full = crash_law l is r device array start moments may device_of whole r' reg in
    starts l none_lost r' reg (as_first (resynced_in l marked (held_by device_of w.device))) plain.array full.sized
    (λ row slot below inside kept.
    let n : ℕ = l.shard_of row in
    let judged = (is.shared row below).0 in
    let made : Block = resynced l (held_by device_of w.device) slot row in
    let stays : Block = held_by device_of w.device slot row in
    elim (cases_Bool (marked row)) [
      | inl on ↦ ap (λ b. cond b made stays) on ∙ full.full_rows row slot below inside (reg.status slot inside)
      | inr off ↦
          ap (λ b. cond b made stays) off
          ∙ (holds-at l is (IsShardOf l) w w plain x n judged
          (λ failed id op reply e none. absurd (none reply e))).unwritten_rows row slot (device_of slot) inside
          (below, refl)
          (whole.live n judged) (unwritten row below off) (whole.read_from row slot below inside refl).0.0
    ])
