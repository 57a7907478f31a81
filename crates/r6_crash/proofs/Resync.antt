-- A resync of what the devices hold is a lawful start.
use Rattle.std.proofs.Common.{◌≡◌, ℕ, ◌<◌, cond, inl, inr, refl, sym, ap, ◌∙◌, subst, lt-ltb}
use Rattle.std.proofs.lemmas.Bool.{cases_lt, le-ltb}
use Rattle.r6_kernels.specs.Blocks.{IsBlock}
use Rattle.r6_recover.specs.Rows.{row_of, block_at}
use Rattle.r6_layout.specs.PlainArray.{Block}
use Rattle.r6_world.specs.PlainArray.{Array}
use Rattle.r6_world.specs.Layouts.{Layout, IsLayout, slot_of, content, full_row}
use Rattle.r6_world.specs.Registers.{Snapshot}
use Rattle.r6_world.specs.Worlds.{Devices, started}
use Rattle.r6_world.specs.Claims.{IsLawfulStart}
use Rattle.r6_world.specs.Laws.{at_start}
use Rattle.r6_world.specs.Witness.{after_all}
use Rattle.r6_world.proofs.FullRows.{first-same, row-at}
use Rattle.r6_world.proofs.Acts.Sights.{at-index}
use Rattle.r6_crash.specs.Crashes.{IsRegisterOf, none_lost, Remains, held_by, as_first, list_on, resynced, plain_after_all, CrashLaw}
use Rattle.r6_crash.proofs.Starts.{starts}
use Rattle.r6_crash.proofs.Stands.{kept-run, block-stands, device-sized}

-- arrays with the same blocks have the same rows
content-same : (l : Layout) → IsLayout l → (a b : Array) → ((block : ℕ) → block < l.blocks → a block ≡ b block)
    → (row slot : ℕ) → row < l.rows → content l a row slot ≡ content l b row slot
content-same l is a b same row slot below =
    ap (λ d. block_at (row_of l.size d) (l.position row slot))
    (first-same l.data_slots (λ i. a (l.block_at row i)) (λ i. b (l.block_at row i))
    (λ i inside. same (l.block_at row i) (is.named row i below inside).0))

module _ (l : Layout) (is : IsLayout l) (left : Remains) where
  -- what a resync puts on a slot
  resynced-row : (row slot : ℕ) → row < l.rows → slot < l.slots
      → resynced l left slot row ≡ content l (list_on l left) row slot
  resynced-row row slot below inside =
      let at : ℕ = l.position row slot in
      let stays : Block = left slot row in
      let made : Block = content l (list_on l left) row slot in
      elim (cases_lt at l.data_slots) [
        | inl low ↦
            let block : ℕ = l.block_at row at in
            let p = is.named row at below low in
            let q = is.there row slot below inside in
            ap (λ b. cond b stays made) (lt-ltb at l.data_slots low)
            ∙ sym (ap (block_at (full_row l (list_on l left) row)) (sym p.2)
            ∙ row-at l is (list_on l left) row block p.0 p.1
            ∙ ap (λ s. left s (l.row_of block))
            (ap (l.slot_at (l.row_of block)) p.2 ∙ ap (λ r. l.slot_at r at) p.1 ∙ q.1)
            ∙ ap (left slot) p.1)
        | inr high ↦ ap (λ b. cond b stays made) (le-ltb at l.data_slots high)
      ]

  pub resync-starts : (r : Snapshot) → IsRegisterOf l none_lost r
      → ((row slot : ℕ) → row < l.rows → slot < l.slots → IsBlock l.size (left slot row))
      → IsLawfulStart l r (as_first (resynced l left)) (list_on l left)
  resync-starts r reg sized =
      starts l none_lost r reg (as_first (resynced l left)) (list_on l left)
      (λ block inside.
      let p = is.placed block inside in
      sized (l.row_of block) (slot_of l block) p.0
      (at-index l is (l.shard_of (l.row_of block)) block inside (p.0, refl)).0)
      (λ row slot below inside kept. resynced-row row slot below inside)

-- a start of another list with the same blocks
start-same : (l : Layout) → IsLayout l → (r : Snapshot) (device : Devices) (a b : Array)
    → ((block : ℕ) → block < l.blocks → a block ≡ b block) → IsLawfulStart l r device a → IsLawfulStart l r device b
start-same l is r device a b same s = record {
  many_slots = s.many_slots;
  fresh = s.fresh;
  no_others = s.no_others;
  few_lost = s.few_lost;
  no_attach = s.no_attach;
  not_failed = s.not_failed;
  sized = λ block inside. subst (IsBlock l.size) (same block inside) (s.sized block inside);
  full_rows = λ row slot below inside e.
      s.full_rows row slot below inside e ∙ content-same l is a b same row slot below;
}

pub crash_law : CrashLaw
crash_law l is r device array start moments may device_of whole r' reg =
    let w = after_all l (started l r device) moments in
    let plain = plain_after_all l (started l r device) (at_start array) moments in
    let x = kept-run l is r device array start moments may in
    start-same l is r' (as_first (resynced l (held_by device_of w.device))) (list_on l (held_by device_of w.device))
    plain.array (λ block inside. block-stands l is w plain x device_of whole block inside)
    (resync-starts l is (held_by device_of w.device) r' reg
    (λ row slot below inside. device-sized l is w plain x device_of whole row slot below inside))
