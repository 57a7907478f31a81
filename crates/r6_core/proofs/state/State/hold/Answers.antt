use Rattle.std.proofs.Common.{◌≤◌, refl, sym, subst, ◌∙◌, arith}
use Rattle.r6_frames.specs.Slots.{count_out}
use Rattle.r6_frames.proofs.Unmet.{unmet_readable}
use Rattle.r6_core.specs.Inside.{row_of_request}
use Rattle.r6_core.proofs.HeldStarts.{begun_held, begun_tokens}
use Rattle.r6_core.proofs.Rooms.{rooms_still}
use Rattle.r6_core.proofs.state.State.hold.Goals as goal

pub drive-requires-clause-live : goal.drive-requires-clause-live
drive-requires-clause-live c =
    let begun = c.begin.ensures in
    let live = c.requires.can.0 in
    (subst (λ n. n ≤ 2) (λ i. count_out (sym begun.same.0 i) (sym begun.begins.shard.0 i).slots) live.0, begun.same.1 ∙ live.1)

pub drive-requires-clause-held : goal.drive-requires-clause-held
drive-requires-clause-held c =
    let s = c.args.self.now in
    let begun = c.begin.ensures in
    begun_held s.frames c.args.frame (row_of_request s.frames c.args.request) begun.task begun.served c.begin.new.self.frames begun.begins

pub drive-requires-clause-readable : goal.drive-requires-clause-readable
drive-requires-clause-readable c = unmet_readable c.begin.new.self.frames c.args.frame c.begin.ensures.unmet

pub drive-requires-clause-numbers : goal.drive-requires-clause-numbers
drive-requires-clause-numbers c =
    let s = c.args.self.now in
    let begun = c.begin.ensures in
    let next = begun_tokens s.frames c.args.frame (row_of_request s.frames c.args.request) begun.task begun.served c.begin.new.self.frames begun.begins in
    let owes = begun.owed in
    let few = c.requires.numbers in
    omega (arith, next, owes, few)

pub returns : goal.returns
returns c =
    let begun = c.begin.ensures in
    let does = c.drive.ensures in
    record {
      mid = c.begin.new.self;
      begins = begun;
      drives = (does.begins begun.unmet).1;
      requests = does.requests;
      sound = does.sound;
      live = does.live;
      driven = does.driven;
      others = does.others;
      rows = does.rows;
      owes = does.owed;
      goes_out = does.out begun.owes;
      directs = does.directs;
      rooms = rooms_still c.begin.new.self.rooms.items c.begin.new.self.frames c.drive.new.self begun.sound does.sound does.rows begun.rooms;
      rest = refl;
    }
