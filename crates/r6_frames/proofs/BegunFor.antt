-- What a row may be held for, and what its hold is in the world: requests', a scrub's, or a rebuild's.
use Rattle.std.proofs.Common.{◌≡◌, ◌≢◌, ℕ, ◌-◌, ◌<◌, Bool, false, cond, Option, List, [], ◌∷◌, map, length, refl, sym, ap, subst, ◌∙◌, inl, inr, arith}
use Rattle.std.specs.List.{All}
use Rattle.r6_layout.specs.Shape.{Shape, IsShape}
use Rattle.r6_layout.specs.Layout as layout
use Rattle.r6_stripe.specs.BatchLists.{AreDistinct}
use Rattle.r6_stripe.specs.Holds.{Cell, IsBatch, Kind, cell_at}
use Rattle.r6_stripe.specs.Holds.Standing.{InSync, Out}
use Rattle.r6_stripe.specs.Views.{kind_of_task}
use Rattle.r6_stripe.specs.declared.command.RowTask.{RowTask}
use Rattle.r6_stripe.specs.declared.command.RowTask.TheVariants as asks
use Rattle.r6_layout.specs.PlainArray.{Block}
use Rattle.r6_world.specs.Layouts.{IsRowOf}
use Rattle.r6_world.specs.Geometries.{layout_of}
use Rattle.r6_world.specs.ShardStates.{standings_of}
use Rattle.r6_world.specs.Tasks.{Task, ReadFor, kind_of}
use Rattle.r6_world.proofs.Cells.{found-long}
use Rattle.r6_world.proofs.Geometries.{layouts}
use Rattle.r6_world.specs.declared.values.Request.{Request}
use Rattle.r6_frames.specs.declared.frames.Job.{Job}
use Rattle.r6_frames.specs.declared.frames.Job.TheVariants as job
use Rattle.r6_frames.specs.declared.frames.ServedRequest.{ServedRequest}
use Rattle.r6_frames.specs.declared.frames.Scrub.{Scrub}
use Rattle.r6_frames.specs.declared.frames.Scrub.TheVariants as scrub
use Rattle.r6_frames.specs.declared.frames.FrameUse.TheVariants.{Held as HeldIn}
use Rattle.r6_frames.specs.FramesState.{FramesState}
use Rattle.r6_frames.specs.declared.rebuilt.Target.{Target}
use Rattle.r6_frames.specs.declared.rebuilt.RebuiltRows.{RebuiltRows}
use Rattle.r6_frames.specs.declared.slots.Device.{Device}
use Rattle.r6_frames.specs.declared.slots.Device.TheVariants as device
use Rattle.r6_frames.specs.Rebuilt.{is_rebuilt}
use Rattle.r6_frames.specs.Slots.{IsRebuiltOn, slot_in, state_of, states_of}
use Rattle.r6_world.specs.Values.{numbered}
use Rattle.r6_frames.specs.Views.{read_for, rebuild_task, scrub_row_task, scrub_task, task_by, row_in, requests_by, held_entry, request_at, requests_from}
use Rattle.r6_frames.specs.Calls.{entry_of, AreAllInSync, Begins, BeginsTurn, Holds, IsFreeFrame, IsNextOn, NotHeldBy}
use Rattle.r6_frames.specs.Reads.{IsReadable}
use Rattle.r6_frames.specs.Writes.{Entry, IsWriteIn, blocks_in, request_of, served_in, write_task}
use Rattle.r6_frames.specs.Uses.{IsSecondIn, begun_row}
use Rattle.r6_frames.specs.Sound.{IsSound, IsTargetAt, MayHold}
use Rattle.r6_frames.proofs.Beginning.{begun_shard, found_in, inside, kind_begun}
use Rattle.r6_frames.proofs.Devices.{rows_of_device, stands_in}
use Rattle.r6_frames.proofs.FoundRows.{found-at}
use Rattle.r6_frames.proofs.NewDevices.{next_unbuilt}
use Rattle.r6_frames.proofs.Held.{held_comes, same_requests}
use Rattle.r6_frames.proofs.Batches.{are_batch, batch_is, entries_back, entries_held, fit_row}

-- ---- what begins

-- a hold for the job begins on the row, with the second device that the row has for it
abbrev pub HoldsFor : FramesState → (frame row : ℕ) → Job → RowTask → FramesState → Type 0
HoldsFor fs frame row what task new = (second : Option ℕ) × IsSecondIn fs row what second × Holds fs frame (begun_row fs row what task second) new

-- a hold for the task begins on the row
pub begins : (fs new : FramesState) (frame row : ℕ) (what : Job) (asked : Task) (served : List Request) (task : RowTask) → IsSound fs → IsFreeFrame fs frame → MayHold fs row what task → NotHeldBy fs row
    → task_by what (kind_of_task task) ≡ asked → kind_of (layout_of fs.geometry) row asked ≡ kind_of_task task → requests_by what (kind_of_task task) ≡ map numbered served
    → HoldsFor fs frame row what task new → Begins fs frame row asked served new
begins fs new frame row what asked served task sound free may unheld task_is kind_is requests_are (second, is, holds) =
    let held = begun_row fs row what task second in
    let kind_same = kind_begun fs row what task second sound.shape sound.devices.each sound.devices.one may is in
    let entries = ap (λ k. map (held_entry frame) (requests_by what k)) kind_same ∙ ap (map (held_entry frame)) requests_are ∙ entries_held frame served in
    let came = held_comes 0 fs.uses frame frame (HeldIn held) (map (entry_of frame) served) (inside fs frame sound free) (ap row_in free.1) (omega arith) entries in
    subst (Begins fs frame row asked served) (sym holds.same) (record {
      requests = record {
        before = came.before;
        behind = came.behind;
        without = came.without;
        with = ap (requests_from 0) holds.put ∙ came.with;
        elsewhere = came.elsewhere;
      };
      shard = (refl, refl, λ rest. begun_shard fs frame row what task second holds.held holds.spare sound free may is unheld holds.put asked task_is kind_is rest, refl);
    })

-- ---- a read

-- the row of its block may be held for it
pub may_read : (fs : FramesState) (served : ServedRequest) (buffer : Block) → IsShape fs.geometry → IsReadable fs served buffer
    → MayHold fs (layout.row_of fs.geometry served.block) (job.Read served buffer) (asks.Read (layout.index_of fs.geometry served.block))
may_read fs served buffer shape right =
    let placed = (layouts fs.geometry shape).placed served.block right.there in
    let row = layout.row_of fs.geometry served.block in
    let wide = found-long (layout_of fs.geometry) (states_of fs.slots) row in
    record {
      own = (placed.0, right.own);
      job = ((right.there, refl), refl, right.sized);
      fits = omega (arith, placed.1);
      may_begin = omega (arith, wide, placed.1);
      targets = inl (λ position e. (cc));
    }

pub begins_read : (fs new : FramesState) (frame : ℕ) (served : ServedRequest) (buffer : Block) → IsSound fs → IsFreeFrame fs frame → IsReadable fs served buffer → NotHeldBy fs (layout.row_of fs.geometry served.block)
    → HoldsFor fs frame (layout.row_of fs.geometry served.block) (job.Read served buffer) (asks.Read (layout.index_of fs.geometry served.block)) new
    → Begins fs frame (layout.row_of fs.geometry served.block) (ReadFor served.id served.block) (read_for served buffer ∷ []) new
begins_read fs new frame served buffer sound free right unheld holds =
    begins fs new frame (layout.row_of fs.geometry served.block) (job.Read served buffer) (ReadFor served.id served.block) (read_for served buffer ∷ []) (asks.Read (layout.index_of fs.geometry served.block)) sound free
    (may_read fs served buffer sound.shape right) unheld refl refl refl holds

-- ---- writes

some_blocks : (writes : List Entry) → writes ≢ [] → blocks_in writes ≢ []
some_blocks [] some none = some refl
some_blocks (write ∷ writes) some none = absurd (omega (arith, ap length none))

-- the row of their blocks may be held for them
pub may_write : (fs : FramesState) (row : ℕ) (writes : List Entry) → IsShape fs.geometry → IsRowOf (layout_of fs.geometry) fs.shard row → writes ≢ [] → All (IsWriteIn fs.geometry row) writes → AreDistinct (blocks_in writes)
    → MayHold fs row (job.Write (served_in writes)) (asks.Write (record { blocks = blocks_in writes }))
may_write fs row writes shape own some all distinct =
    let wide = found-long (layout_of fs.geometry) (states_of fs.slots) row in
    record {
      own = own;
      job = (writes, refl, refl, all, distinct);
      fits = (some_blocks writes some, fit_row fs.geometry row writes shape all);
      may_begin = (some_blocks writes some, subst (λ (n : ℕ). IsBatch (n - 2) fs.geometry.block (blocks_in writes)) (sym wide) (are_batch fs.geometry row writes shape all distinct));
      targets = inl (λ position e. (cc));
    }

pub begins_writes : (fs new : FramesState) (frame row : ℕ) (writes : List Entry) → IsSound fs → IsFreeFrame fs frame → IsRowOf (layout_of fs.geometry) fs.shard row → writes ≢ [] → All (IsWriteIn fs.geometry row) writes
    → AreDistinct (blocks_in writes) → NotHeldBy fs row
    → HoldsFor fs frame row (job.Write (served_in writes)) (asks.Write (record { blocks = blocks_in writes })) new → Begins fs frame row (write_task writes) (map request_of writes) new
begins_writes fs new frame row writes sound free own some all distinct unheld holds =
    begins fs new frame row (job.Write (served_in writes)) (write_task writes) (map request_of writes) (asks.Write (record { blocks = blocks_in writes })) sound free
    (may_write fs row writes sound.shape own some all distinct) unheld
    (ap write_task (entries_back writes))
    (ap Kind.Write (batch_is fs.geometry row writes all))
    (ap (λ (ws : List Entry). map numbered (map request_of ws)) (entries_back writes))
    holds

-- ---- a scrub

all_in_sync : (fs : FramesState) (row position : ℕ) → IsShape fs.geometry → AreAllInSync fs row → row < fs.geometry.rows → position < length (found_in fs row).cells
    → (cell_at (found_in fs row).cells position).standing ≡ InSync
all_in_sync fs row position shape whole below inside =
    let wide = found-long (layout_of fs.geometry) (states_of fs.slots) row in
    let within : position < fs.geometry.slots = omega (arith, wide, inside) in
    let slot = layout.slot_at fs.geometry row position in
    ap (λ (c : Cell). c.standing) (found-at (layout_of fs.geometry) fs.slots row position within)
    ∙ stands_in (states_of fs.slots slot) row (whole slot ((layouts fs.geometry shape).back row position below within).0)

-- each row of the shard may be held for it, while every slot is in sync
pub may_scrub : (fs : FramesState) (scrub : Scrub) (row : ℕ) → IsShape fs.geometry → AreAllInSync fs row → IsRowOf (layout_of fs.geometry) fs.shard row → MayHold fs row (job.Scrub scrub) (scrub_row_task scrub)
may_scrub fs scrub.Check row shape whole own =
    record { own = own; job = refl; fits = tt; may_begin = λ position inside. all_in_sync fs row position shape whole own.0 inside; targets = inl (λ position e. (cc)) }
may_scrub fs scrub.Repair row shape whole own =
    record { own = own; job = refl; fits = tt; may_begin = λ position inside. all_in_sync fs row position shape whole own.0 inside; targets = inl (λ position e. (cc)) }

scrub_kind_is : (shape : Shape) (row : ℕ) (scrub : Scrub) → kind_of (layout_of shape) row (scrub_task scrub) ≡ kind_of_task (scrub_row_task scrub)
scrub_kind_is shape row scrub.Check = refl
scrub_kind_is shape row scrub.Repair = refl

pub begins_scrub : (fs new : FramesState) (frame : ℕ) (scrub : Scrub) (row : ℕ) → IsSound fs → IsFreeFrame fs frame → AreAllInSync fs row → IsRowOf (layout_of fs.geometry) fs.shard row → NotHeldBy fs row
    → HoldsFor fs frame row (job.Scrub scrub) (scrub_row_task scrub) new → BeginsTurn fs frame (scrub_task scrub) row new
begins_scrub fs new frame scrub row sound free whole own unheld (second, is, holds) =
    let held = begun_row fs row (job.Scrub scrub) (scrub_row_task scrub) second in
    subst (BeginsTurn fs frame (scrub_task scrub) row) (sym holds.same) (record {
      requests = ap (requests_from 0) holds.put ∙ same_requests 0 fs.uses frame frame (HeldIn held) (omega arith) (sym (ap (request_at frame) free.1));
      shard = (
        refl,
        refl,
        λ rest.
            begun_shard fs frame row (job.Scrub scrub) (scrub_row_task scrub) second holds.held holds.spare sound free (may_scrub fs scrub row sound.shape whole own) is unheld holds.put
            (scrub_task scrub) refl (scrub_kind_is fs.geometry row scrub) rest,
        refl,
      );
    })

-- ---- a rebuild

-- the row isn't rebuilt yet
pub unbuilt_on : (fs : FramesState) (target : Target) (row : ℕ) → IsSound fs → (on : IsNextOn fs target row) → is_rebuilt on.rebuilt row ≡ false
unbuilt_on fs target row sound on =
    let there = rows_of_device fs.geometry fs.shard (slot_in fs.slots target.slot).device target.generation on.rebuilt (sound.devices.each target.slot) on.device in
    ap (is_rebuilt on.rebuilt) (sym on.next.2) ∙ next_unbuilt on.rebuilt on.next.0 (omega (arith, on.next.1, there.next.count))

-- the row is the target's
target_at : (fs : FramesState) (target : Target) (row : ℕ) → IsSound fs → IsRowOf (layout_of fs.geometry) fs.shard row → target.slot < fs.geometry.slots → (on : IsNextOn fs target row)
    → IsTargetAt fs.geometry fs.slots row (job.Rebuild target) (layout.position_at fs.geometry row target.slot)
target_at fs target row sound own below on =
    record {
      target = target;
      job = refl;
      slot = ((layouts fs.geometry sound.shape).there row target.slot own.0 below).1;
      rebuilt = on.rebuilt;
      device = on.device;
      next = on.next;
      unbuilt = unbuilt_on fs target row sound on;
    }

-- no second device is in sync for the row then
unbuilt_second : (d : Device) (row generation : ℕ) (rebuilt : RebuiltRows) → IsRebuiltOn d generation rebuilt → is_rebuilt rebuilt row ≡ false → (standings_of (state_of d) row).1 ≡ Out
unbuilt_second (device.Synced current) row generation rebuilt is unbuilt = refl
unbuilt_second device.Missing row generation rebuilt is unbuilt = refl
unbuilt_second (device.Building current rows) row generation rebuilt is unbuilt = refl
unbuilt_second (device.Doubled old new rows) row generation rebuilt is unbuilt = ap (λ (b : Bool). cond b InSync Out) (ap (λ (r : RebuiltRows). is_rebuilt r row) (sym is.1) ∙ unbuilt)
unbuilt_second (device.Paired old new) row generation rebuilt is unbuilt = absurd is

pub may_rebuild : (fs : FramesState) (target : Target) (row : ℕ) → IsSound fs → IsRowOf (layout_of fs.geometry) fs.shard row → target.slot < fs.geometry.slots → IsNextOn fs target row
    → MayHold fs row (job.Rebuild target) (asks.Rebuild (layout.position_at fs.geometry row target.slot))
may_rebuild fs target row sound own below on =
    let at = target_at fs target row sound own below on in
    let place = (layouts fs.geometry sound.shape).there row target.slot own.0 below in
    let wide = found-long (layout_of fs.geometry) (states_of fs.slots) row in
    record {
      own = own;
      job = (below, refl);
      fits = place.0;
      may_begin = (
        omega (arith, wide, place.0),
        ap (λ (c : Cell). c.second) (found-at (layout_of fs.geometry) fs.slots row (layout.position_at fs.geometry row target.slot) place.0)
            ∙ ap (λ (s : ℕ). (standings_of (states_of fs.slots s) row).1) place.1
            ∙ unbuilt_second (slot_in fs.slots target.slot).device row target.generation on.rebuilt on.device (unbuilt_on fs target row sound on),
      );
      targets = inr (layout.position_at fs.geometry row target.slot, place.0, refl, at);
    }

pub begins_rebuild : (fs new : FramesState) (frame : ℕ) (target : Target) (row : ℕ) → IsSound fs → IsFreeFrame fs frame → IsRowOf (layout_of fs.geometry) fs.shard row → target.slot < fs.geometry.slots
    → IsNextOn fs target row → NotHeldBy fs row
    → HoldsFor fs frame row (job.Rebuild target) (asks.Rebuild (layout.position_at fs.geometry row target.slot)) new → BeginsTurn fs frame (rebuild_task target) row new
begins_rebuild fs new frame target row sound free own below on unheld (second, is, holds) =
    let task = asks.Rebuild (layout.position_at fs.geometry row target.slot) in
    let held = begun_row fs row (job.Rebuild target) task second in
    subst (BeginsTurn fs frame (rebuild_task target) row) (sym holds.same) (record {
      requests = ap (requests_from 0) holds.put ∙ same_requests 0 fs.uses frame frame (HeldIn held) (omega arith) (sym (ap (request_at frame) free.1));
      shard = (
        refl,
        refl,
        λ rest.
            begun_shard fs frame row (job.Rebuild target) task second holds.held holds.spare sound free (may_rebuild fs target row sound own below on) is unheld holds.put
            (rebuild_task target) refl refl rest,
        refl,
      );
    })
