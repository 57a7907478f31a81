use Rattle.std.proofs.Common.{refl, true, ◌≡◌, ℕ, ◌+◌, List, set, Some, None, sym, ap, subst, ◌∙◌, arith}
use Rattle.r6_layout.specs.Layout as layout
use Rattle.r6_stripe.specs.Plans.{is_in_sync}
use Rattle.r6_world.specs.ShardStates.{IsFirstFor, frames, standing_of}
use Rattle.r6_frames.specs.declared.command.Action.TheVariants as action
use Rattle.r6_frames.specs.Inside.{view_of, commands_in}
use Rattle.r6_frames.specs.Slots.{slot_in, states_of, first_of}
use Rattle.r6_frames.specs.Directs.{direct_at}
use Rattle.r6_frames.specs.Reads.{IsPassedOnIn, ReadsDirectly}
use Rattle.r6_frames.specs.Sound.{IsSound}
use Rattle.r6_frames.proofs.Pushed.{pushed}
use Rattle.r6_frames.proofs.DirectCommands.{read_sound, room_for_read}
use Rattle.r6_frames.proofs.DirectUses.{takes_direct}
use Rattle.r6_frames.proofs.Devices.{generation_there, stands_in}
use Rattle.r6_frames.proofs.SlotsInTurn as turns
use Rattle.r6_frames.proofs.DirectSteps.{free_parts, first, read_out, own_row, slot_below, reads_directly}
use Rattle.r6_frames.proofs.frames.Frames.read.Goals.{After-push}
use Rattle.r6_frames.proofs.frames.Frames.read.Goals as goal

pub push-requires-clause-room : goal.push-requires-clause-room
push-requires-clause-room c =
    let fs = view_of c.self.inside in
    let free = free_parts (direct_at fs.directs c.args.number) (rw (← c.self.view_is) at c.requires.free).1 in
    let row = layout.row_of fs.geometry c.args.served.block in
    let slot = layout.slot_at fs.geometry row (layout.index_of fs.geometry c.args.served.block) in
    let generation = c.known_first-generation.result in
    let own = own_row fs c.args.number generation c.args.served c.args.buffer free.1 c.self.invariant.0 (rw (← c.self.view_is) at c.requires.live) (rw (← c.self.view_is) at c.requires.free).0 free.2 free.0 (rw (← c.self.view_is) at c.requires.request) in
    let below = slot_below fs c.args.number generation c.args.served c.args.buffer free.1 c.self.invariant.0 (rw (← c.self.view_is) at c.requires.live) (rw (← c.self.view_is) at c.requires.free).0 free.2 free.0 (rw (← c.self.view_is) at c.requires.request) in
    let slot_is = (rw (← c.self.view_is) at c.requires.place).slot ∙ (λ i. layout.slot_at fs.geometry ((rw (← c.self.view_is) at c.requires.place).row i) ((rw (← c.self.view_is) at c.requires.place).index i)) in
    let synced = sym (λ i. is_in_sync (standing_of (states_of fs.slots (slot_is i)) ((rw (← c.self.view_is) at c.requires.place).row i))) ∙ (rw (← c.self.view_is) at c.requires.synced) in
    let has = sym (λ i. first_of (slot_in fs.slots (slot_is i)).device) ∙ c.known_first-generation.ensures in
    let room = room_for_read fs c.args.number slot generation row c.args.served c.args.buffer free.1 c.self.invariant.0 (rw (← c.self.view_is) at c.requires.live) (rw (← c.self.view_is) at c.requires.free).0 free.2 below own (rw (← c.self.view_is) at c.requires.request) refl (first fs c.args.number generation c.args.served c.args.buffer free.1 c.self.invariant.0 (rw (← c.self.view_is) at c.requires.live) (rw (← c.self.view_is) at c.requires.free).0 free.2 free.0 (rw (← c.self.view_is) at c.requires.request) synced has).0 in
    let capacity = c.self.invariant.1.command_room in
    omega arith

pub offset_bounds-self-inside-slot : goal.offset_bounds-self-inside-slot
offset_bounds-self-inside-slot c =
    let fs = view_of c.self.inside in
    let place = rw (← c.self.view_is) at c.requires.place in
    let below = turns.slot_below fs.geometry (turns.some_slots c.self.invariant.0.shape) c.args.place.row c.args.place.index in
    omega (arith, below, place.slot, c.self.invariant.0.shape.slots_allowed.1)

-- where the block stands
row_is : (c : After-push) → c.args.place.row ≡ layout.row_of c.self.inside.geometry c.args.served.block
row_is c = (rw (← c.self.view_is) at c.requires.place).row

slot_is : (c : After-push) → c.args.place.slot ≡ layout.slot_at c.self.inside.geometry (layout.row_of c.self.inside.geometry c.args.served.block) (layout.index_of c.self.inside.geometry c.args.served.block)
slot_is c = (rw (← c.self.view_is) at c.requires.place).slot ∙ (λ i. layout.slot_at c.self.inside.geometry ((rw (← c.self.view_is) at c.requires.place).row i) ((rw (← c.self.view_is) at c.requires.place).index i))

abbrev block_in : After-push → List ℕ
block_in c = (free_parts (direct_at c.self.inside.directs c.args.number) (rw (← c.self.view_is) at c.requires.free).1).1

home : (c : After-push) → (direct_at c.self.inside.directs c.args.number).buffer ≡ Some (block_in c)
home c = (free_parts (direct_at c.self.inside.directs c.args.number) (rw (← c.self.view_is) at c.requires.free).1).2

none : (c : After-push) → (direct_at c.self.inside.directs c.args.number).read ≡ None
none c = (free_parts (direct_at c.self.inside.directs c.args.number) (rw (← c.self.view_is) at c.requires.free).1).0

-- the frames that are left
left : (c : After-push)
    → read_out (view_of c.self.inside) c.args.number c.known_first-generation.result c.args.served c.args.buffer (block_in c) c.self.invariant.0 (rw (← c.self.view_is) at c.requires.live) (rw (← c.self.view_is) at c.requires.free).0 (home c) (none c) (rw (← c.self.view_is) at c.requires.request)
    ≡ record (view_of c.self.inside) { commands = commands_in c.push.new.self; directs = c.lend-lent.new.self }
left c =
    let fs = view_of c.self.inside in
    let buffer = c.lend-lent.ensures.buffer ∙ home c in
    let commands =
    ap commands_in c.push.ensures.entry
    ∙ (λ i. pushed fs.commands (record { frame = frames + c.args.number; slot = slot_is c i; generation = c.known_first-generation.result; row = row_is c i; action = action.Read; buffer = buffer i })) in
    let directs =
    c.lend-lent.ensures.lent
    ∙ (λ i. set fs.directs c.args.number (record { read = Some (record { served = c.args.served; slot = slot_is c i; generation = c.known_first-generation.result; token = c.next-token.ensures i; buffer = c.args.buffer }); buffer = None })) in
    sym (λ i. record fs { commands = commands i; directs = directs i })

synced : (c : After-push) → (let fs = view_of c.self.inside in
    let row = layout.row_of fs.geometry c.args.served.block in
    is_in_sync (standing_of (states_of fs.slots (layout.slot_at fs.geometry row (layout.index_of fs.geometry c.args.served.block))) row) ≡ true)
synced c = sym (λ i. is_in_sync (standing_of (states_of c.self.inside.slots (slot_is c i)) (row_is c i))) ∙ (rw (← c.self.view_is) at c.requires.synced)

-- the slot has the device of this generation
has_device : (c : After-push) → (let fs = view_of c.self.inside in
    first_of (slot_in fs.slots (layout.slot_at fs.geometry (layout.row_of fs.geometry c.args.served.block) (layout.index_of fs.geometry c.args.served.block))).device ≡ Some c.known_first-generation.result)
has_device c =
    let has : first_of (slot_in c.self.inside.slots c.args.place.slot).device ≡ Some c.known_first-generation.result = c.known_first-generation.ensures in
    sym (λ i. first_of (slot_in c.self.inside.slots (slot_is c i)).device) ∙ has

-- and is in sync for the row
in_sync_first : (c : After-push) → (let fs = view_of c.self.inside in
    let row = layout.row_of fs.geometry c.args.served.block in
    IsFirstFor (states_of fs.slots (layout.slot_at fs.geometry row (layout.index_of fs.geometry c.args.served.block))) row c.known_first-generation.result)
in_sync_first c =
    first (view_of c.self.inside) c.args.number c.known_first-generation.result c.args.served c.args.buffer (block_in c) c.self.invariant.0 (rw (← c.self.view_is) at c.requires.live) (rw (← c.self.view_is) at c.requires.free).0 (home c) (none c) (rw (← c.self.view_is) at c.requires.request)
    (synced c) (has_device c)

-- no hold of it has passed the block on
unpassed : (c : After-push) → (let fs = view_of c.self.inside in
    let row = layout.row_of fs.geometry c.args.served.block in
    IsPassedOnIn fs row (layout.slot_at fs.geometry row (layout.index_of fs.geometry c.args.served.block)) → ⊥)
unpassed c passed =
    (rw (← c.self.view_is) at c.requires.passed) (subst (λ (s : ℕ). IsPassedOnIn (view_of c.self.inside) c.args.place.row s) (sym (slot_is c)) (subst (λ (r : ℕ). IsPassedOnIn (view_of c.self.inside) r (layout.slot_at c.self.inside.geometry (layout.row_of c.self.inside.geometry c.args.served.block) (layout.index_of c.self.inside.geometry c.args.served.block))) (sym (row_is c)) passed))

pub returns-clause-sound : goal.returns-clause-sound
returns-clause-sound c =
    let fs = view_of c.self.inside in
    let row = layout.row_of fs.geometry c.args.served.block in
    let slot = layout.slot_at fs.geometry row (layout.index_of fs.geometry c.args.served.block) in
    let own = own_row fs c.args.number c.known_first-generation.result c.args.served c.args.buffer (block_in c) c.self.invariant.0 (rw (← c.self.view_is) at c.requires.live) (rw (← c.self.view_is) at c.requires.free).0 (home c) (none c) (rw (← c.self.view_is) at c.requires.request) in
    let below = slot_below fs c.args.number c.known_first-generation.result c.args.served c.args.buffer (block_in c) c.self.invariant.0 (rw (← c.self.view_is) at c.requires.live) (rw (← c.self.view_is) at c.requires.free).0 (home c) (none c) (rw (← c.self.view_is) at c.requires.request) in
    subst IsSound (left c)
    (read_sound fs c.args.number slot c.known_first-generation.result row c.args.served c.args.buffer (block_in c) c.self.invariant.0 (rw (← c.self.view_is) at c.requires.live) (rw (← c.self.view_is) at c.requires.free).0 (home c) below own (rw (← c.self.view_is) at c.requires.request) refl (in_sync_first c).0)

pub returns-clause-reads : goal.returns-clause-reads
returns-clause-reads c =
    rw (← c.self.view_is) (let fs = view_of c.self.inside in
    subst (ReadsDirectly fs c.args.number c.args.served) (left c)
    (reads_directly fs c.args.number c.known_first-generation.result c.args.served c.args.buffer (block_in c) c.self.invariant.0 (rw (← c.self.view_is) at c.requires.live) (rw (← c.self.view_is) at c.requires.free).0 (home c) (none c) (rw (← c.self.view_is) at c.requires.request)
    (rw (← c.self.view_is) at c.requires.numbers)
    (synced c)
    (has_device c) (unpassed c)))

pub returns-clause-taken : goal.returns-clause-taken
returns-clause-taken c =
    rw (← c.self.view_is) (let fs = view_of c.self.inside in
    let count = c.self.invariant.0.directs.count in
    let below = (rw (← c.self.view_is) at c.requires.free).0 in
    takes_direct fs (record fs { commands = commands_in c.push.new.self; directs = c.lend-lent.new.self }) c.args.number _ (omega arith) c.lend-lent.ensures.lent)

pub known_first-generation-requires : goal.known_first-generation-requires
known_first-generation-requires c none =
    let slots = c.self.inside.slots in
    let place = c.args.place in
    let there = generation_there (slot_in slots place.slot).device place.row (stands_in (states_of slots place.slot) place.row (rw (← c.self.view_is) at c.requires.synced)) in
    let both : None ≡ Some there.0 = sym none ∙ there.1 in cc

pub lend-lent-requires : goal.lend-lent-requires
lend-lent-requires c =
    let below = (rw (← c.self.view_is) at c.requires.free).0 in
    let count = c.self.invariant.0.directs.count in omega arith

pub overflow_add-number : goal.overflow_add-number
overflow_add-number c =
    let below = (rw (← c.self.view_is) at c.requires.free).0 in omega arith

pub push-requires-clause-numbers : goal.push-requires-clause-numbers
push-requires-clause-numbers c =
    let numbers = (rw (← c.self.view_is) at c.requires.numbers) in omega arith

pub invariant_of-self : goal.invariant_of-self
invariant_of-self c = (
  let fs = view_of c.self.inside in
      let row = layout.row_of fs.geometry c.args.served.block in
      let slot = layout.slot_at fs.geometry row (layout.index_of fs.geometry c.args.served.block) in
      let own = own_row fs c.args.number c.known_first-generation.result c.args.served c.args.buffer (block_in c) c.self.invariant.0 (rw (← c.self.view_is) at c.requires.live) (rw (← c.self.view_is) at c.requires.free).0 (home c) (none c) (rw (← c.self.view_is) at c.requires.request) in
      let below = slot_below fs c.args.number c.known_first-generation.result c.args.served c.args.buffer (block_in c) c.self.invariant.0 (rw (← c.self.view_is) at c.requires.live) (rw (← c.self.view_is) at c.requires.free).0 (home c) (none c) (rw (← c.self.view_is) at c.requires.request) in
      subst IsSound (left c)
      (read_sound fs c.args.number slot c.known_first-generation.result row c.args.served c.args.buffer (block_in c) c.self.invariant.0 (rw (← c.self.view_is) at c.requires.live) (rw (← c.self.view_is) at c.requires.free).0 (home c) below own (rw (← c.self.view_is) at c.requires.request) refl (in_sync_first c).0),
  let room = c.self.invariant.1 in
      record {
        buffer_room = room.buffer_room;
        shapes = room.shapes;
        command_room = ap (λ t. t.0) c.push.ensures.entry ∙ room.command_room;
        marked = room.marked;
      },
)

pub returns-clause-live : goal.returns-clause-live
returns-clause-live c = (rw (← c.self.view_is) at c.requires.live)

pub returns-clause-holds : goal.returns-clause-holds
returns-clause-holds c = rw (← c.self.view_is) refl

pub returns-clause-same : goal.returns-clause-same
returns-clause-same c = rw (← c.self.view_is) (refl, refl)

pub returns-clause-next : goal.returns-clause-next
returns-clause-next c =
    rw (← c.self.view_is) (ap (λ t. t.1.0) c.push.ensures.entry)
