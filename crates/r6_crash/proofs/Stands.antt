-- What stands on the devices at any moment of a run: the plain array's blocks, on the first device of each slot in
-- sync.
use Rattle.std.proofs.Common.{◌≡◌, ℕ, zero, suc, ◌<◌, ◌⊎◌, List, [], ◌∷◌, length, Bool, true, false, if◌then◌else◌, inl, inr, refl, sym, ap, ◌∙◌, subst, arith, Option, Some, None}
use Rattle.std.proofs.lemmas.Bool.{cases_eq}
use Rattle.r6_kernels.specs.Blocks.{IsBlock}
use Rattle.r6_recover.specs.Rows.{IsFull, block_at}
use Rattle.r6_stripe.specs.Holds.{Hold as Course, cell_at, after}
use Rattle.r6_stripe.specs.Holds.Standing.{InSync}
use Rattle.r6_stripe.specs.RowWorld.{Command as RowCommand, is_rewritten, run, current}
use Rattle.r6_stripe.proofs.Law.{start_kept, run_kept}
use Rattle.r6_layout.specs.PlainArray.{Block}
use Rattle.r6_world.specs.PlainArray.{Plain, Array}
use Rattle.r6_world.specs.Layouts.{Layout, IsLayout, IsRowOf, slot_of, full_row}
use Rattle.r6_world.specs.Registers.{Snapshot}
use Rattle.r6_world.specs.Tasks.{Hold}
use Rattle.r6_world.specs.ShardStates.{SlotState, Synced, Missing, Building, Doubled, Paired, InSyncFor, Command, generation_in, frames, found}
use Rattle.r6_world.specs.Worlds.{World, Devices, Moment, Possible, Run, next, started}
use Rattle.r6_world.specs.ActingPoints.{acting, forgotten, plain_next, MayAct}
use Rattle.r6_world.specs.Claims.{IsLawfulStart}
use Rattle.r6_world.specs.Laws.{IsOfOutside, at_start}
use Rattle.r6_world.specs.Witness.{after_all}
use Rattle.r6_world.proofs.Tables.{not_both, Some-inj}
use Rattle.r6_world.proofs.Uses.{stands_on}
use Rattle.r6_world.proofs.Cells.{found-stands, not-out-within}
use Rattle.r6_world.proofs.Rows.Twice as Laws
use Rattle.r6_world.proofs.Rows.Twice.{SeenTwice}
use Rattle.r6_world.proofs.Rows.SeenRows.{Rows, block_seen, in_sync_is_not_out, stands-in}
use Rattle.r6_world.proofs.Acts.Sights.{at-index}
use Rattle.r6_world.proofs.Register.Everywhere.{possible-in}
use Rattle.r6_world.proofs.Laws.Kept.{Kept}
use Rattle.r6_world.proofs.Laws.Starts.{kept-start}
use Rattle.r6_world.proofs.Laws.Stepping.{one_step}
use Rattle.r6_crash.specs.Crashes.{IsReadFrom, IsWhole, plain_after_all}

abbrev pub IsShardOf : Layout → ℕ → Type 0
IsShardOf l n = n < l.shards

-- ---- what every step keeps holds at the end of a run

-- a step of a run that may be taken: who acts by it may, and what is kept holds after it
pub run-step : (l : Layout) → IsLayout l → (m : Moment) (w : World) (plain : Plain) → Kept l (IsShardOf l) w plain
    → Possible l IsOfOutside w m.happening
    → MayAct w [] (acting l w m.happening (next l w m) plain) (forgotten w (next l w m) plain)
    × Kept l (IsShardOf l) (next l w m) (plain_next l w m plain)
run-step l is m w plain x may =
    one_step l is (IsShardOf l) IsOfOutside m.happening m.noise w plain x (possible-in l IsOfOutside w m.happening may)
    may

pub kept-all : (l : Layout) → IsLayout l → (moments : List Moment) (w : World) (plain : Plain)
    → Kept l (IsShardOf l) w plain → Run l IsOfOutside w moments
    → Kept l (IsShardOf l) (after_all l w moments) (plain_after_all l w plain moments)
kept-all l is [] w plain x may = x
kept-all l is (m ∷ moments) w plain x may =
    kept-all l is moments (next l w m) (plain_next l w m plain)
    (run-step l is m w plain x may.0).1 may.1

pub kept-run : (l : Layout) → IsLayout l → (r : Snapshot) (device : Devices) (array : Array)
    → IsLawfulStart l r device array → (moments : List Moment) → Run l IsOfOutside (started l r device) moments
    → Kept l (IsShardOf l) (after_all l (started l r device) moments)
    (plain_after_all l (started l r device) (at_start array) moments)
kept-run l is r device array start moments may =
    kept-all l is moments (started l r device) (at_start array) (kept-start l is (IsShardOf l) r device array start) may

-- ---- a first device in sync

pub first-sync : (state : SlotState) (row g : ℕ) → InSyncFor state row g → stands_on false state row ≡ InSync
first-sync (Synced current) row g s = refl
first-sync Missing row g s = absurd s
first-sync (Building current built) row g s = ap Rattle.r6_world.specs.ShardStates.in_sync_if s.1
first-sync (Doubled old new built) row g s = refl
first-sync (Paired old new) row g s = refl

-- ---- the blocks of a row, held or not, are of the size

-- the row after a hold is full as the one before
pub after-kept : (hold : Course) (block : Bool → ℕ → Block) (out : Bool → ℕ → RowCommand) (row : List Block)
    → SeenTwice hold block out row
    → IsFull hold.size (after hold row) × (length (after hold row) ≡ length hold.cells)
    × (length row ≡ length hold.cells)
after-kept hold block out row x =
    let kept = (run_kept x.steps x.start x.first x.full (start_kept x.start x.first x.at_rest x.full) x.may).1 in
    let last : Course = (run x.start x.steps).hold in
    let Is : Course → List Block → Type 0 =
    (λ h r. IsFull h.size (after h r) × (length (after h r) ≡ length h.cells) × (length r ≡ length h.cells)) in
    subst (λ (h : Course). Is h row) x.hold_is
    (subst (Is last) x.row_is
    (subst (IsFull last.size) (sym kept.next_is) kept.next_full, ap length kept.next_is ∙ kept.next_wide, kept.wide))

pub seen-sized : (hold : Course) (block : Bool → ℕ → Block) (out : Bool → ℕ → RowCommand) (row : List Block)
    → SeenTwice hold block out row
    → (at : ℕ) → (cell_at hold.cells at).standing ≡ InSync → IsBlock hold.size (block false at)
seen-sized hold block out row x at sync =
    let k = after-kept hold block out row x in
    let inside : at < length hold.cells = not-out-within hold.cells at (in_sync_is_not_out _ sync) in
    subst (IsBlock hold.size) (sym (Laws.held hold block out row false at x sync))
    (either (is_rewritten (cell_at hold.cells at).writing (out false at))
    (k.0.sized at [] (subst (λ n. at < n) (sym k.1) inside))
    ((Laws.full hold block out row x).sized at [] (subst (λ n. at < n) (sym k.2) inside)))
  where
    either : (b : Bool) → IsBlock hold.size (block_at (after hold row) at) → IsBlock hold.size (block_at row at)
        → IsBlock hold.size (if b then block_at (after hold row) at else block_at row at)
    either true new old = new
    either false new old = old

-- a hold of the row, among the first frames
abbrev HeldBelow : (frame : ℕ → Option Hold) → (row count : ℕ) → Type 0
HeldBelow frame row count =
    ((f : ℕ) × (h : Hold) × (frame f ≡ Some h) × (h.row ≡ row))
    ⊎ ((f : ℕ) (h : Hold) → f < count → frame f ≡ Some h → h.row ≡ row → ⊥)

pub find-hold : (frame : ℕ → Option Hold) (row count : ℕ)
    → HeldBelow frame row count
find-hold frame row zero = inr (λ f h low. absurd (omega arith))
find-hold frame row (suc n) = elim (find-hold frame row n) [
  | inl found ↦ inl found
  | inr none ↦ at (frame n) refl none
]
  where
    at : (o : Option Hold) → frame n ≡ o → ((f : ℕ) (h : Hold) → f < n → frame f ≡ Some h → h.row ≡ row → ⊥)
        → HeldBelow frame row (suc n)
    at None is none = inr (λ f h low e same. elim (cases_eq f n) [
      | inl here ↦ not_both (frame n) h is (subst (λ y. frame y ≡ Some h) here e)
      | inr ne ↦ none f h (omega arith) e same
    ])
    at (Some k) is none = elim (cases_eq k.row row) [
      | inl same ↦ inl (n, k, is, same)
      | inr ne ↦ inr (λ f h low e same. elim (cases_eq f n) [
        | inl here ↦ ne (ap (λ (y : Hold). y.row) (Some-inj _ _ (sym is ∙ subst (λ y. frame y ≡ Some h) here e)) ∙ same)
        | inr off ↦ none f h (omega arith) e same
      ])
    ]

module _ (l : Layout) (is : IsLayout l) where
  -- what stands on the first device of a slot in sync is of the size
  pub rows-sized : (n : ℕ) (device : Devices) (gave : ℕ → Option Block) (frame : ℕ → Option Hold)
      (command : ℕ → Option Command) (slots : ℕ → SlotState) (tokens : ℕ) (array : Array)
      → Rows l n device gave frame command slots tokens array → (row slot : ℕ) → IsRowOf l n row → slot < l.slots
      → stands_on false (slots slot) row ≡ InSync
      → IsBlock l.size (device slot (generation_in (slots slot)) row)
  rows-sized n device gave frame command slots tokens array r row slot there inside sync =
      let p = is.there row slot there.0 inside in
      elim (find-hold frame row frames) [
        | inr none ↦
            let y = r.idle row there (λ f h e same. none f h (r.held f h e).low e same) in
            subst (λ s. IsBlock l.size (device s (generation_in (slots s)) row)) p.1
            (seen-sized (found l slots row) (block_seen l device slots row) y.0 (full_row l array row) y.1
            (l.position row slot)
            (found-stands false l slots row (l.position row slot) p.0 ∙ ap (λ s. stands_on false (slots s) row) p.1
            ∙ sync))
        | inl q ↦
            let h : Hold = q.1 in
            let x = r.held q.0 h q.2 in
            let same : h.row ≡ row = q.3 in
            subst (λ y. IsBlock l.size (device slot (generation_in (slots slot)) y)) same
            (subst (λ s. IsBlock l.size (device s (generation_in (slots s)) h.row))
            (ap (λ y. l.slot_at y (l.position y slot)) same ∙ p.1)
            (subst (λ n. IsBlock n (block_seen l device slots h.row false (l.position h.row slot))) x.size_is
            (seen-sized h.course (block_seen l device slots h.row) x.out (full_row l array h.row) x.seen
            (l.position h.row slot)
            (stands-in h.task slot h.row false (slots slot) _ (x.stands false slot inside)
            (ap (stands_on false (slots slot)) same ∙ sync)))))
      ]

  module _ (w : World) (plain : Plain) (x : Kept l (IsShardOf l) w plain) (device_of : ℕ → ℕ)
      (whole : IsWhole l device_of w) where
    -- each device has the plain array's block
    pub block-stands : (block : ℕ) → block < l.blocks
        → w.device (slot_of l block) (device_of (slot_of l block)) (l.row_of block) ≡ plain.array block
    block-stands block inside =
        let row : ℕ = l.row_of block in
        let slot : ℕ = slot_of l block in
        let row-below = (is.placed block inside).0 in
        let n : ℕ = l.shard_of row in
        let judged : n < l.shards = (is.shared row row-below).0 in
        let slot-below : slot < l.slots = (at-index l is n block inside (row-below, refl)).0 in
        let from : IsReadFrom l (w.shard n) row slot (device_of slot) =
        whole.read_from row slot row-below slot-below refl in
        let first = from.0 in
        ap (λ g. w.device slot g row) first.1
        ∙ elim ((x.sounds n judged).ahead.blocks (whole.live n judged) false block inside (row-below, refl)
        (first-sync ((w.shard n).slot slot) row (device_of slot) first.0)) [
          | inl same ↦ same
          | inr unsure ↦ absurd (from.1 (unsure.0, unsure.1, unsure.2, unsure.3, unsure.4))
        ]

    -- of the size
    pub device-sized : (row slot : ℕ) → row < l.rows → slot < l.slots
        → IsBlock l.size (w.device slot (device_of slot) row)
    device-sized row slot row-below slot-below =
        let n : ℕ = l.shard_of row in
        let judged : n < l.shards = (is.shared row row-below).0 in
        let first = (whole.read_from row slot row-below slot-below refl).0 in
        subst (λ g. IsBlock l.size (w.device slot g row)) (sym first.1)
        (rows-sized n w.device (w.performed n) (w.shard n).frame _ (w.shard n).slot (w.shard n).tokens
        (x.sounds n judged).settled ((x.sounds n judged).rows (whole.live n judged)) row slot (row-below, refl)
        slot-below
        (first-sync ((w.shard n).slot slot) row (device_of slot) first.0))
