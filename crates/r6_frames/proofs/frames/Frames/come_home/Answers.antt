use Rattle.std.specs.FinMap as map
use Rattle.r6_frames.specs.declared.directs.Direct.{Direct}
use Rattle.std.proofs.Common.{◌≤◌, ◌-◌, refl, inl, inr, List, length, arith, set, sym, ap, subst, ◌∙◌}
use Rattle.std.proofs.lemmas.List.{length-append, length-set, set-set}
use Rattle.std.specs.List.{All}
use Rattle.std.proofs.lemmas.List.Elements.{All-append}
use Rattle.r6_world.specs.ShardStates.{frames}
use Rattle.r6_frames.specs.Uses.{IsForRow, spared_home}
use Rattle.r6_tables.specs.Table.{Numbered}
use Rattle.r6_frames.specs.Inside.{view_of, commands_in}
use Rattle.r6_frames.specs.declared.command.Outstanding.{Outstanding}
use Rattle.r6_frames.proofs.DirectUses.{frees_direct, readers_kept}
use Rattle.r6_frames.proofs.HeldRows.{use_found}
use Rattle.r6_frames.proofs.LateBuffers.{CameHome, is_late, stopped_home, direct_home, brought, spared_shapes, awaits_buffer, has_room}
use Rattle.r6_frames.specs.declared.frames.FrameUse.{FrameUse}
use Rattle.r6_frames.specs.Holders.{AreMarked, holds_like}
use Rattle.r6_frames.proofs.MarkedFrames.{home_same, marked_put}
use Rattle.r6_frames.proofs.frames.Frames.come_home.Goals.{After-drop-buffer-inside}
use Rattle.r6_frames.proofs.frames.Frames.come_home.Goals as goal

pub position_at-position-requires-clause-row_within : goal.position_at-position-requires-clause-row_within
position_at-position-requires-clause-row_within c =
    (c.self.invariant.0.commands.lawful c.args.token c.remove-frame.result c.remove-frame.ensures.entry).1.0

pub position_at-position-requires-clause-slot_within : goal.position_at-position-requires-clause-slot_within
position_at-position-requires-clause-slot_within c =
    (c.self.invariant.0.commands.lawful c.args.token c.remove-frame.result c.remove-frame.ensures.entry).0

pub bring_home-used-requires-clause-away : goal.bring_home-used-requires-clause-away
bring_home-used-requires-clause-away c =
    let fs = view_of c.self.inside in
    let command = c.remove-frame.result in
    let late =
    is_late fs c.args.token command c.self.invariant.0 (c.self.invariant.0.live.0 c.if-self.true) (rw (← c.self.view_is) at c.requires.awaited) (rw (← c.self.view_is) at c.requires.abandoned) c.remove-frame.ensures.entry (omega (arith, c.if-frame-ge-FRAMES.false)) in
    let was = use_found fs.uses command.frame c.index_mut.result.now c.replace-used.result late.below c.index_mut.ensures.value (sym c.replace-used.ensures.value) in
    awaits_buffer fs c.args.token command c.self.invariant.0 late c.replace-used.result c.position_at-position.result c.args.buffer was c.position_at-position.ensures.value (rw (← c.self.view_is) at c.requires.size)

pub bring_home-used-requires-clause-room : goal.bring_home-used-requires-clause-room
bring_home-used-requires-clause-room c =
    let fs = view_of c.self.inside in
    let command = c.remove-frame.result in
    let late =
    is_late fs c.args.token command c.self.invariant.0 (c.self.invariant.0.live.0 c.if-self.true) (rw (← c.self.view_is) at c.requires.awaited) (rw (← c.self.view_is) at c.requires.abandoned) c.remove-frame.ensures.entry (omega (arith, c.if-frame-ge-FRAMES.false)) in
    omega (arith, has_room fs c.args.token command c.self.invariant.0 late, c.self.invariant.1.buffer_room)

came : (c : goal.After-put) → CameHome (view_of c.self.inside) c.args.token (record (view_of c.self.inside) { uses = c.put.new.uses.items; spare = length c.bring_home-used.new.spare.items; commands = commands_in c.remove-frame.new.commands })
came c =
    let fs = view_of c.self.inside in
    let command = c.remove-frame.result in
    let late =
    is_late fs c.args.token command c.self.invariant.0 (c.self.invariant.0.live.0 c.if-self.true) (rw (← c.self.view_is) at c.requires.awaited) (rw (← c.self.view_is) at c.requires.abandoned) c.remove-frame.ensures.entry (omega (arith, c.if-frame-ge-FRAMES.false)) in
    let was = use_found fs.uses command.frame c.index_mut.result.now c.replace-used.result late.below c.index_mut.ensures.value (sym c.replace-used.ensures.value) in
    let home = c.bring_home-used in
    let items =
    c.put.ensures.put ∙ set-set fs.uses command.frame c.replace-used.new.dest home.result ∙ ap (set fs.uses command.frame) home.ensures.left in
    subst (λ (t : Numbered Outstanding). CameHome fs c.args.token (record fs { uses = c.put.new.uses.items; spare = length home.new.spare.items; commands = commands_in t })) (sym c.remove-frame.ensures.rest)
    (brought fs c.args.token command c.self.invariant.0 late c.replace-used.result c.position_at-position.result c.args.buffer c.put.new.uses.items (length home.new.spare.items) was
    c.position_at-position.ensures.value items
    (ap length home.ensures.spare ∙ length-append c.self.inside.spare.items (spared_home c.replace-used.result (command.slot, command.generation) c.position_at-position.result c.args.buffer)))

pub returns-then-self-clause-sound : goal.returns-then-self-clause-sound
returns-then-self-clause-sound c = (came c).sound

pub invariant_of-self-then-self : goal.invariant_of-self-then-self
invariant_of-self-then-self c = (
  (came c).sound,
  let fs = view_of c.self.inside in
      let IsFor = IsForRow fs.geometry in
      let command = c.remove-frame.result in
      let late =
      is_late fs c.args.token command c.self.invariant.0 (c.self.invariant.0.live.0 c.if-self.true) (rw (← c.self.view_is) at c.requires.awaited) (rw (← c.self.view_is) at c.requires.abandoned) c.remove-frame.ensures.entry (omega (arith, c.if-frame-ge-FRAMES.false)) in
      let was = use_found fs.uses command.frame c.index_mut.result.now c.replace-used.result late.below c.index_mut.ensures.value (sym c.replace-used.ensures.value) in
      let home = c.bring_home-used in
      let more = spared_shapes fs c.args.token command c.self.invariant.0 late c.replace-used.result c.position_at-position.result c.args.buffer was c.position_at-position.ensures.value in
      record {
        buffer_room = subst (λ n. frames ≤ n) (sym home.ensures.room) c.self.invariant.1.buffer_room;
        shapes = subst (All IsFor) (sym home.ensures.spare)
            (All-append IsFor c.self.inside.spare.items (spared_home c.replace-used.result (command.slot, command.generation) c.position_at-position.result c.args.buffer) c.self.invariant.1.shapes more);
        command_room = ap (λ t. t.0) c.remove-frame.ensures.rest ∙ c.self.invariant.1.command_room;
        marked = subst (λ (held : List FrameUse). AreMarked c.put.new.free_frames c.self.inside.holders held) (sym (c.put.ensures.put ∙ set-set fs.uses command.frame c.replace-used.new.dest home.result))
            (marked_put c.self.inside.free_frames c.put.new.free_frames c.self.inside.holders fs.uses command.frame home.result late.below (λ row. ap (holds_like row) home.ensures.left ∙ home_same _ _ _ _ row ∙ ap (holds_like row) (sym was)) c.self.invariant.1.marked c.put.ensures.free);
      },
)

pub returns-then-self-clause-comes : goal.returns-then-self-clause-comes
returns-then-self-clause-comes c =
    rw (← c.self.view_is) ((came c).comes)

pub returns-then-self-clause-holds : goal.returns-then-self-clause-holds
returns-then-self-clause-holds c =
    rw (← c.self.view_is) ((came c).holds)

pub returns-then-self-clause-others : goal.returns-then-self-clause-others
returns-then-self-clause-others c =
    rw (← c.self.view_is) ((came c).others)

pub returns-then-self-clause-owed : goal.returns-then-self-clause-owed
returns-then-self-clause-owed c =
    rw (← c.self.view_is) (((came c).owed, (came c).next))

pub returns-then-self-clause-requests : goal.returns-then-self-clause-requests
returns-then-self-clause-requests c =
    rw (← c.self.view_is) ((came c).requests)

-- the shard has stopped
stopped : (c : After-drop-buffer-inside) → CameHome (view_of c.self.inside) c.args.token (record (view_of c.self.inside) { commands = commands_in c.remove-frame.new.commands })
stopped c =
    stopped_home (view_of c.self.inside) c.args.token c.remove-frame.result (commands_in c.remove-frame.new.commands) c.self.invariant.0 (rw (← c.self.view_is) at c.requires.awaited) (rw (← c.self.view_is) at c.requires.abandoned) c.remove-frame.ensures.entry (omega (arith, c.if-frame-ge-FRAMES.false))
    (λ live. let is = c.self.invariant.0.live.1 live in let none = c.if-self.false in absurd (cc)) (ap commands_in c.remove-frame.ensures.rest)

pub returns-else-self-clause-sound : goal.returns-else-self-clause-sound
returns-else-self-clause-sound c = (stopped c).sound

pub invariant_of-self-else-self : goal.invariant_of-self-else-self
invariant_of-self-else-self c = (
  (stopped c).sound,
  record { buffer_room = c.self.invariant.1.buffer_room; shapes = c.self.invariant.1.shapes; command_room = ap (λ t. t.0) c.remove-frame.ensures.rest ∙ c.self.invariant.1.command_room; marked = c.self.invariant.1.marked },
)

pub returns-else-self-clause-comes : goal.returns-else-self-clause-comes
returns-else-self-clause-comes c =
    rw (← c.self.view_is) ((stopped c).comes)

-- the command was that of a direct read
direct : (c : goal.After-bring_back) → CameHome (view_of c.self.inside) c.args.token
    (record (view_of c.self.inside) { commands = commands_in c.remove-frame.new.commands; directs = c.bring_back.new.self })
direct c =
    let fs = view_of c.self.inside in
    let frame = c.if-frame-ge-FRAMES.true in
    let home =
    direct_home fs c.args.token c.remove-frame.result (c.remove-frame.result.frame - 64) c.args.buffer c.self.invariant.0 (rw (← c.self.view_is) at c.requires.awaited) (rw (← c.self.view_is) at c.requires.abandoned) c.remove-frame.ensures.entry
    (omega arith) (rw (← c.self.view_is) at c.requires.size) in
    subst (λ (t : Numbered Outstanding). CameHome fs c.args.token (record fs { commands = commands_in t; directs = c.bring_back.new.self })) (sym c.remove-frame.ensures.rest)
    (subst (λ (ds : List Direct). CameHome fs c.args.token (record fs { commands = record { next = fs.commands.next; entries = map.remove fs.commands.entries c.args.token }; directs = ds })) (sym c.bring_back.ensures) home)

pub returns-then-frame-ge-FRAMES-clause-sound : goal.returns-then-frame-ge-FRAMES-clause-sound
returns-then-frame-ge-FRAMES-clause-sound c = (direct c).sound

pub returns-then-frame-ge-FRAMES-clause-comes : goal.returns-then-frame-ge-FRAMES-clause-comes
returns-then-frame-ge-FRAMES-clause-comes c =
    rw (← c.self.view_is) ((direct c).comes)

pub returns-then-frame-ge-FRAMES-clause-frees : goal.returns-then-frame-ge-FRAMES-clause-frees
returns-then-frame-ge-FRAMES-clause-frees c =
    rw (← c.self.view_is) (let fs = view_of c.self.inside in
    inr (
      refl,
      c.remove-frame.result.frame - 64,
      frees_direct fs (record fs { commands = commands_in c.remove-frame.new.commands; directs = c.bring_back.new.self }) (c.remove-frame.result.frame - 64) _ c.bring_back.ensures,
    ))

pub returns-then-frame-ge-FRAMES-clause-readers : goal.returns-then-frame-ge-FRAMES-clause-readers
returns-then-frame-ge-FRAMES-clause-readers c =
    rw (← c.self.view_is) (let fs = view_of c.self.inside in
    readers_kept fs (record fs { commands = commands_in c.remove-frame.new.commands; directs = c.bring_back.new.self }) (c.remove-frame.result.frame - 64) c.args.buffer c.bring_back.ensures)

pub returns-then-self-clause-frees : goal.returns-then-self-clause-frees
returns-then-self-clause-frees c =
    rw (← c.self.view_is) (inl ((came c).others.0, (came c).others.1, refl))

pub returns-else-self-clause-frees : goal.returns-else-self-clause-frees
returns-else-self-clause-frees c =
    rw (← c.self.view_is) (inl (0, (λ other ne. refl), refl))

pub remove-frame-requires : goal.remove-frame-requires
remove-frame-requires c = ((rw (← c.self.view_is) at c.requires.awaited).0, (rw (← c.self.view_is) at c.requires.awaited).1)

pub bring_back-requires : goal.bring_back-requires
bring_back-requires c =
    let directs = c.self.invariant.0.directs in
    let found = directs.of_direct c.args.token c.remove-frame.result c.remove-frame.ensures.entry c.if-frame-ge-FRAMES.true in
    let below = found.1.below in
    let frame = found.1.frame in
    let count = directs.count in omega arith

pub index_mut-requires : goal.index_mut-requires
index_mut-requires c =
    let below = c.if-frame-ge-FRAMES.false in
    let count = c.self.invariant.0.frames.count in omega (arith, c.self.inside.uses.ok.0)

pub put-requires-clause-there : goal.put-requires-clause-there
put-requires-clause-there c =
    let below = c.if-frame-ge-FRAMES.false in
    let count = c.self.invariant.0.frames.count in
    omega (arith, below, count, length-set c.self.inside.uses.items c.remove-frame.result.frame c.replace-used.new.dest)

pub put-requires-clause-few : goal.put-requires-clause-few
put-requires-clause-few c = c.if-frame-ge-FRAMES.false

pub invariant_of-self : goal.invariant_of-self
invariant_of-self c = (
  (direct c).sound,
  let room = c.self.invariant.1 in
      record {
        buffer_room = room.buffer_room;
        shapes = room.shapes;
        command_room = ap (λ t. t.0) c.remove-frame.ensures.rest ∙ room.command_room;
        marked = room.marked;
      },
)

pub returns-then-frame-ge-FRAMES-clause-holds : goal.returns-then-frame-ge-FRAMES-clause-holds
returns-then-frame-ge-FRAMES-clause-holds c =
    rw (← c.self.view_is) ((direct c).holds)

pub returns-then-frame-ge-FRAMES-clause-owed : goal.returns-then-frame-ge-FRAMES-clause-owed
returns-then-frame-ge-FRAMES-clause-owed c =
    rw (← c.self.view_is) (((direct c).owed, (direct c).next))

pub returns-then-self-clause-readers : goal.returns-then-self-clause-readers
returns-then-self-clause-readers c =
    rw (← c.self.view_is) (λ number. refl)

pub returns-else-self-clause-holds : goal.returns-else-self-clause-holds
returns-else-self-clause-holds c =
    rw (← c.self.view_is) ((stopped c).holds)

pub returns-else-self-clause-others : goal.returns-else-self-clause-others
returns-else-self-clause-others c =
    rw (← c.self.view_is) ((0, λ other ne. refl))

pub returns-else-self-clause-readers : goal.returns-else-self-clause-readers
returns-else-self-clause-readers c =
    rw (← c.self.view_is) (λ number. refl)

pub returns-else-self-clause-owed : goal.returns-else-self-clause-owed
returns-else-self-clause-owed c =
    rw (← c.self.view_is) (((stopped c).owed, (stopped c).next))

pub returns-else-self-clause-requests : goal.returns-else-self-clause-requests
returns-else-self-clause-requests c =
    rw (← c.self.view_is) ((stopped c).requests)
