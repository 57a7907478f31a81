use Rattle.std.proofs.Common.{◌≤◌, ◌≡◌, ◌≢◌, List, Option, map, ℕ, All, ◌+◌, refl, sym, ap, subst, ◌∙◌, [], ◌∷◌}
use Rattle.r6_world.specs.Geometries.{layout_of}
use Rattle.r6_world.specs.Layouts.{IsRowOf}
use Rattle.r6_world.specs.PlainArray.{block_of}
use Rattle.r6_world.specs.Tasks.{ReadFor}
use Rattle.r6_frames.specs.Owed.{owed, most_owed}
use Rattle.r6_layout.proofs.Places.{row_of-lt}
use Rattle.r6_world.specs.declared.values.Op.TheVariants as op
use Rattle.r6_frames.specs.Writes.{Entry, IsWriteIn, request_of, write_task}
use Rattle.r6_frames.proofs.Beginning.{directs_kept, others_kept, slots_kept}
use Rattle.r6_frames.proofs.BegunFor.{HoldsFor, begins_read, begins_writes, may_read, may_write}
use Rattle.r6_layout.specs.Shape.{IsShape}
use Rattle.r6_layout.specs.declared.place.Place.{Place}
use Rattle.r6_waiters.specs.Line.{Line}
use Rattle.r6_world.specs.declared.values.Op.{Op}
use Rattle.r6_world.specs.declared.values.Request.{Request}
use Rattle.r6_frames.specs.declared.frames.Frames.{Frames}
use Rattle.r6_layout.specs.Layout.{index_of, row_of}
use Rattle.r6_stripe.specs.Batches.{NewBlocks}
use Rattle.r6_stripe.specs.declared.command.RowTask.{RowTask}
use Rattle.r6_stripe.specs.declared.command.RowTask.TheVariants as asks
use Rattle.r6_frames.specs.declared.frames.Job.TheVariants as job
use Rattle.r6_frames.specs.declared.frames.ServedRequest.{ServedRequest}
use Rattle.r6_frames.specs.Sound.{MayHold}
use Rattle.r6_frames.specs.Calls.{Begins, IsPlaceOf, IsRequestOf, NotHeldBy}
use Rattle.r6_world.specs.Values.{op_of}
use Rattle.r6_core.specs.declared.state.State.{State}
use Rattle.r6_core.specs.declared.queued.Queued.{Queued}
use Rattle.r6_core.specs.Inside.{IsForAll, JoinedBy, row_for}
use Rattle.r6_core.proofs.HoldParts.{may_begin, read_rooms, writes_rooms}
use Rattle.r6_core.proofs.ReadStarts.{place_for, readable}
use Rattle.r6_core.proofs.Rooms.{room_left}
use Rattle.r6_core.proofs.state.State.begin.Goals as goal

-- ---- a read

-- where its block stands
at_place : (fs : Frames) (block : ℕ) (buffer : List ℕ) (place : Place) → IsPlaceOf fs.geometry (op.Read block buffer) place
    → ◌≡◌ {A = ℕ × RowTask} (place.row, asks.Read place.index) (row_of fs.geometry block, asks.Read (index_of fs.geometry block))
at_place fs block buffer place at i = (at.row i, asks.Read (at.index i))

pub begin-requires-clause-may : goal.begin-requires-clause-may
begin-requires-clause-may c =
    let fs = c.args.self.now.frames in
    let block = c.in-Read.block in
    let buffer = c.in-Read.buffer in
    let served : ServedRequest = record { id = c.args.request.id; block = block } in
    let at = at_place fs block buffer c.args.place (place_for fs c.args.request block buffer c.in-Read.is c.args.place c.requires.place) in
    subst (λ (x : ℕ × RowTask). MayHold fs x.0 (job.Read served buffer) x.1) (sym at)
    (may_read fs served buffer c.requires.sound.shape (readable fs c.args.request block buffer c.in-Read.is c.requires.request))

-- ---- a write, with its others

pub writes_with-writes-requires-clause-shape : goal.writes_with-writes-requires-clause-shape
writes_with-writes-requires-clause-shape c = c.requires.sound.shape

pub writes_with-writes-requires-clause-some : goal.writes_with-writes-requires-clause-some
writes_with-writes-requires-clause-some c = room_left c.args.self.now.rooms.items c.args.self.now.frames c.args.frame c.requires.sound c.requires.can.1 c.requires.rooms

pub writes_with-writes-requires-clause-rooms : goal.writes_with-writes-requires-clause-rooms
writes_with-writes-requires-clause-rooms c = c.requires.rooms.empty

pub writes_with-writes-requires-clause-request : goal.writes_with-writes-requires-clause-request
writes_with-writes-requires-clause-request c =
    subst (λ (o : Op). IsRequestOf c.args.self.now.frames (record { id = c.args.request.id; op = o })) c.in-Write.is c.requires.request

pub writes_with-writes-requires-clause-place : goal.writes_with-writes-requires-clause-place
writes_with-writes-requires-clause-place c = subst (λ (o : Op). IsPlaceOf c.args.self.now.frames.geometry o c.args.place) c.in-Write.is c.requires.place

-- its row is one of the shard's, there is a write, and all are of the row
of_row : (s : State) (request : Request) (block : ℕ) (buffer : List ℕ) (place : Place) (near : Option (List ℕ)) (writes : List Entry) (waiting : Line Queued)
    → request.op ≡ op.Write block buffer → IsShape s.frames.geometry → IsRequestOf s.frames request → IsPlaceOf s.frames.geometry request.op place
    → JoinedBy near s (record { id = request.id; op = op.Write block buffer }) writes waiting
    → IsRowOf (layout_of s.frames.geometry) s.frames.shard place.row × (writes ≢ []) × All (IsWriteIn s.frames.geometry place.row) writes
of_row s request block buffer place near writes waiting is shape own at joined =
    let fs = s.frames in
    let row : place.row ≡ row_for fs (op.Write block buffer) = at.row ∙ ap (row_for fs) is in
    let may = may_begin s block buffer request.id (subst (λ (o : Op). IsRequestOf fs (record { id = request.id; op = o })) is own) near writes waiting joined in (
      subst (IsRowOf (layout_of fs.geometry) fs.shard) (sym at.row) (row_of-lt fs.geometry (block_of (op_of request.op)) shape own.there, own.own),
      may.0,
      subst (λ (r : ℕ). All (IsWriteIn fs.geometry r) writes) (sym row) may.1,
    )

pub begin-requires-in-Write-clause-may : goal.begin-requires-in-Write-clause-may
begin-requires-in-Write-clause-may c =
    let s = c.args.self.now in
    let row = c.args.place.row in
    let writes = c.writes_with-writes.result in
    let parts = c.into_parts-served in
    let same = ap (λ (x : State). x.frames) c.writes_with-writes.ensures.rest in
    let may = of_row s c.args.request c.in-Write.block c.in-Write.buffer c.args.place c.args.near writes c.writes_with-writes.new.self.waiting c.in-Write.is c.requires.sound.shape c.requires.request c.requires.place c.writes_with-writes.ensures.writes in
    subst (λ (x : Frames). MayHold x row (job.Write parts.result.0) (asks.Write parts.result.1)) (sym same)
    (subst (λ (x : List ServedRequest × NewBlocks). MayHold s.frames row (job.Write x.0) (asks.Write x.1)) (sym (λ i. (parts.ensures.served i, parts.ensures.blocks i)))
    (may_write s.frames row writes c.requires.sound.shape may.0 may.1 may.2 parts.ensures.distinct))

-- ---- what is said of both

pub returns-in-Read : goal.returns-in-Read
returns-in-Read c =
    let s = c.args.self.now in
    let fs = s.frames in
    let r = c.args.request in
    let new = c.begin.new.self in
    let served : ServedRequest = record { id = r.id; block = c.in-Read.block } in
    let buffer = c.in-Read.buffer in
    let task = ReadFor r.id c.in-Read.block in
    let does = c.begin.ensures in
    let unheld = subst (λ (o : Op). NotHeldBy fs (row_for fs o)) c.in-Read.is c.requires.can.2 in
    let holds = subst (λ (x : ℕ × RowTask). HoldsFor fs c.args.frame x.0 (job.Read served buffer) x.1 new) (at_place fs served.block buffer c.args.place (place_for fs r served.block buffer c.in-Read.is c.args.place c.requires.place)) does.holds in
    let begins =
    subst (λ (o : Op). Begins fs c.args.frame (row_for fs o) task ((record { id = r.id; op = o }) ∷ []) new) (sym c.in-Read.is)
    (begins_read fs new c.args.frame served buffer c.requires.sound c.requires.can.1 (readable fs r served.block buffer c.in-Read.is c.requires.request) unheld holds) in
    let others = others_kept fs c.args.frame _ new does.holds.2 in
    record {
      task = task;
      served = r ∷ [];
      for = subst (λ (o : Op). IsForAll c.args.near s r o s.waiting task (r ∷ [])) (sym c.in-Read.is) (refl, refl, refl);
      begins = begins;
      sound = does.sound;
      same = slots_kept fs c.args.frame _ new does.holds.2;
      others = others;
      directs = directs_kept fs c.args.frame _ new does.holds.2;
      owed = does.owed;
      owes = does.owes;
      unmet = does.unmet;
      rooms = read_rooms fs c.args.frame (row_for fs r.op) task (r ∷ []) new c.requires.sound c.requires.can.1 begins does.sound others s.rooms.items refl c.requires.rooms;
      space = refl;
      rest = refl;
    }

pub returns-in-Write : goal.returns-in-Write
returns-in-Write c =
    let s = c.args.self.now in
    let fs = s.frames in
    let r = c.args.request in
    let new = c.begin-in-Write.new.self in
    let writes = c.writes_with-writes.result in
    let mid = c.writes_with-writes.new.self in
    let with = c.writes_with-writes.ensures in
    let does = c.begin-in-Write.ensures in
    let parts = c.into_parts-served in
    let same = ap (λ (x : State). x.frames) with.rest in
    let row = c.args.place.row in
    let may = of_row s r c.in-Write.block c.in-Write.buffer c.args.place c.args.near writes mid.waiting c.in-Write.is c.requires.sound.shape c.requires.request c.requires.place with.writes in
    let task = write_task writes in
    let served = map request_of writes in
    let unheld = subst (NotHeldBy fs) (sym c.requires.place.row) c.requires.can.2 in
    let holds =
    subst (λ (x : List ServedRequest × NewBlocks). HoldsFor fs c.args.frame row (job.Write x.0) (asks.Write x.1) new) (λ i. (parts.ensures.served i, parts.ensures.blocks i))
    (subst (λ (x : Frames). HoldsFor x c.args.frame row (job.Write parts.result.0) (asks.Write parts.result.1) new) same does.holds) in
    let begins =
    subst (λ (row : ℕ). Begins fs c.args.frame row task served new) c.requires.place.row
    (begins_writes fs new c.args.frame row writes c.requires.sound c.requires.can.1 may.0 may.1 may.2 parts.ensures.distinct unheld holds) in
    let others = others_kept fs c.args.frame _ new holds.2 in
    let joined = subst (λ (o : Op). JoinedBy c.args.near s (record { id = r.id; op = o }) writes mid.waiting) (sym c.in-Write.is) with.writes in
    record {
      task = task;
      served = served;
      for = subst (λ (o : Op). IsForAll c.args.near s r o mid.waiting task served) (sym c.in-Write.is) (writes, refl, refl, joined);
      begins = begins;
      sound = does.sound;
      same = slots_kept fs c.args.frame _ new holds.2;
      others = others;
      directs = directs_kept fs c.args.frame _ new holds.2;
      owed = subst (λ (x : Frames). owed new ≤ owed x + most_owed x.geometry.slots) same does.owed;
      owes = does.owes;
      unmet = does.unmet;
      rooms = writes_rooms fs c.args.frame (row_for fs r.op) task served new c.requires.sound c.requires.can.1 begins does.sound others s.rooms.items mid.rooms.items refl c.requires.rooms with.fewer with.rooms;
      space = with.space;
      rest = ap (λ (x : State). record x { frames = new }) with.rest;
    }
