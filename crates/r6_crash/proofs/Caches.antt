-- What a device held at some moment is what the plain array had then.
use Rattle.std.proofs.Common.{◌≡◌, ℕ, ◌<◌, ◌⊎◌, List, [], ◌∷◌, ◌++◌, inl, inr, refl, sym, ap, ◌∙◌, subst, Option, Some}
use Rattle.std.proofs.lemmas.Bool.{cases_eq}
use Rattle.r6_kernels.specs.Blocks.{IsBlock}
use Rattle.r6_layout.specs.PlainArray.{Block}
use Rattle.r6_world.specs.PlainArray.{Op, Read, Write, Plain, served, array_after, block_of}
use Rattle.r6_world.specs.Layouts.{Layout, IsLayout, slot_of}
use Rattle.r6_world.specs.Tables.{put}
use Rattle.r6_world.specs.ShardStates.{Request, Stage}
use Rattle.r6_world.specs.Worlds.{World, Moment, Run, next, started}
use Rattle.r6_world.specs.Claims.{IsOpen}
use Rattle.r6_world.specs.ActingPoints.{acting, forgotten, served_as, plain_after, plain_next, MayAct}
use Rattle.r6_world.specs.Laws.{AtEach, IsOfOutside, at_start}
use Rattle.r6_world.specs.Witness.{after_all}
use Rattle.r6_world.proofs.Tables.{put-same, put-other}
use Rattle.r6_world.proofs.Acts.Sights.{at-index}
use Rattle.r6_world.proofs.Laws.Kept.{Kept}
use Rattle.r6_crash.specs.Crashes.{IsWhole, list_on, plain_after_all}
use Rattle.r6_crash.specs.Caches.{StoodThere, IsOpenWrite, WasOpenWrite, CacheLaw}
use Rattle.r6_crash.proofs.Stands.{IsShardOf, run-step, kept-run, block-stands, device-sized}
use Rattle.r6_crash.proofs.Resync.{resync-starts}

-- ---- a step changes a block by an open write of it, or not at all

acted-op : (w : World) (who : ℕ × ℕ) (op : Op) (stage : Stage)
    → (w.shard who.0).request who.1 ≡ Some (record { op = op; stage = stage }) → IsOpen stage
    → (plain : Plain) (block : ℕ)
    → (array_after plain.array op block ≡ plain.array block) ⊎ IsOpenWrite w block (array_after plain.array op block)
acted-op w who (Read b) stage e yet plain block = inl refl
acted-op w who (Write b new) stage e yet plain block = elim (cases_eq block b) [
  | inl same ↦
      let is : put plain.array b new block ≡ new = put-same plain.array b new block same in
      inr (record {
        shard = who.0;
        id = who.1;
        stage = stage;
        accepted =
            e ∙ ap (λ c. Some (record { op = Write c new; stage = stage })) (sym same)
            ∙ ap (λ d. Some (record { op = Write block d; stage = stage })) (sym is);
        open_yet = yet;
      })
  | inr ne ↦ inl (put-other plain.array b new block ne)
]

acted-block : (w : World) (who : List (ℕ × ℕ)) (blocks : List ℕ) (plain : Plain) → MayAct w blocks who plain
    → (block : ℕ)
    → ((plain_after w who plain).array block ≡ plain.array block) ⊎ IsOpenWrite w block ((plain_after w who plain).array block)
acted-block w [] blocks plain may block = inl refl
acted-block w (who ∷ rest) blocks plain may block =
    let request : Request = may.0 in
    let then : Plain = served plain who.0 who.1 request.op in
    let now : Option Request = (w.shard who.0).request who.1 in
    let is : plain_after w rest (served_as plain who.0 who.1 now) ≡ plain_after w rest then =
    ap (λ o. plain_after w rest (served_as plain who.0 who.1 o)) may.1 in
    subst (λ (p : Plain). (p.array block ≡ plain.array block) ⊎ IsOpenWrite w block (p.array block)) (sym is)
    (elim (acted-block w rest (block_of request.op ∷ blocks) then may.5 block) [
      | inr yet ↦ inr yet
      | inl same ↦ elim (acted-op w who request.op request.stage may.1 may.2 plain block) [
        | inl kept ↦ inl (same ∙ kept)
        | inr yet ↦ inr (subst (IsOpenWrite w block) (sym same) yet)
      ]
    ])

-- ---- a run in two parts

pub run-parts : (l : Layout) (a b : List Moment) (w : World) → Run l IsOfOutside w (a ++ b)
    → Run l IsOfOutside w a × Run l IsOfOutside (after_all l w a) b
run-parts l [] b w may = (record {}, may)
run-parts l (m ∷ a) b w may = let p = run-parts l a b (next l w m) may.1 in ((may.0, p.0), p.1)

module _ (l : Layout) (is : IsLayout l) (device_of : ℕ → ℕ) where
  stood-block : (moments : List Moment) (w : World) (plain : Plain) → Kept l (IsShardOf l) w plain
      → Run l IsOfOutside w moments → AtEach l (IsWhole l device_of) w moments
      → (block : ℕ) → block < l.blocks → (b : Block)
      → StoodThere l device_of w moments (slot_of l block) (l.row_of block) b
      → (b ≡ plain.array block) ⊎ WasOpenWrite l w moments block b
  stood-block [] w plain x may whole block inside b was =
      inl (was ∙ block-stands l is w plain x device_of whole block inside)
  stood-block (m ∷ moments) w plain x may whole block inside b (inl now) =
      inl (now ∙ block-stands l is w plain x device_of whole.0 block inside)
  stood-block (m ∷ moments) w plain x may whole block inside b (inr later) =
      let s = run-step l is m w plain x may.0 in
      let w' = next l w m in
      let plain' = plain_next l w m plain in
      elim (stood-block moments w' plain' s.1 may.1 whole.1 block inside b later) [
        | inr yet ↦ inr (inr yet)
        | inl same ↦ elim (acted-block w (acting l w m.happening w' plain) [] (forgotten w w' plain) s.0 block) [
          | inl kept ↦ inl (same ∙ kept)
          | inr yet ↦ inr (inl (subst (IsOpenWrite w block) (sym same) yet))
        ]
      ]

  stood-sized : (moments : List Moment) (w : World) (plain : Plain) → Kept l (IsShardOf l) w plain
      → Run l IsOfOutside w moments → AtEach l (IsWhole l device_of) w moments
      → (row slot : ℕ) → row < l.rows → slot < l.slots → (b : Block) → StoodThere l device_of w moments slot row b
      → IsBlock l.size b
  stood-sized [] w plain x may whole row slot below inside b was =
      subst (IsBlock l.size) (sym was) (device-sized l is w plain x device_of whole row slot below inside)
  stood-sized (m ∷ moments) w plain x may whole row slot below inside b (inl now) =
      subst (IsBlock l.size) (sym now) (device-sized l is w plain x device_of whole.0 row slot below inside)
  stood-sized (m ∷ moments) w plain x may whole row slot below inside b (inr later) =
      stood-sized moments (next l w m) (plain_next l w m plain) (run-step l is m w plain x may.0).1 may.1 whole.1 row
      slot
      below inside b later

pub cache_law : CacheLaw
cache_law l is r device array lawful moments may before since parted device_of whole left stood r' reg =
    let start : World = started l r device in
    let parts = run-parts l before since start (subst (Run l IsOfOutside start) parted may) in
    let w = after_all l (started l r device) before in
    let plain = plain_after_all l (started l r device) (at_start array) before in
    let x = kept-run l is r device array lawful before parts.0 in
    record {
      lawful =
          resync-starts l is left r' reg
          (λ row slot below inside.
          stood-sized l is device_of since w plain x parts.1 whole row slot below inside (left slot row)
          (stood slot row inside below));
      blocks = λ block inside.
          let p = is.placed block inside in
          let at = at-index l is (l.shard_of (l.row_of block)) block inside (p.0, refl) in
          stood-block l is device_of since w plain x parts.1 whole block inside (list_on l left block)
          (stood (slot_of l block) (l.row_of block) at.0 p.0);
    }
