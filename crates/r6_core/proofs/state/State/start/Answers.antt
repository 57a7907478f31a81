use Rattle.std.proofs.Common.{◌≡◌, ◌∷◌, [], ◌∙◌, IfSome, Some, ap, length, sym, subst, arith}
use Rattle.std.specs.List.{AllByRecursion}
use Rattle.r6_waiters.specs.Line.{Line, entries_of, oldest_of, with_entries, without_oldest}
use Rattle.r6_world.specs.Steps.{Through, Scans}
use Rattle.r6_core.specs.declared.queued.Queued.{Queued}
use Rattle.r6_core.specs.Shards.{state_of, layout_in}
use Rattle.r6_core.specs.declared.state.State.{State}
use Rattle.r6_core.specs.declared.scan.Room.TheVariants as room
use Rattle.r6_core.specs.Inside.{CanStart, HoldsFor, IsSettled, StartsWith, free_frame, others_in}
use Rattle.r6_core.proofs.BatchStarts.{line_own}
use Rattle.r6_core.proofs.HeldFor.{direct_leaves, one_more_hold, start_leads, start_leaves, start_settled, start_starts}
use Rattle.r6_core.proofs.Lined.{values}
use Rattle.r6_core.specs.Queued.{request_in}
use Rattle.r6_core.proofs.ReadStarts.{IsReadStart, own_op, read_core, read_leads, read_like, read_started}
use Rattle.r6_core.proofs.Starting.{with_frames, first_there, first_items, first_can, first_left, first_own, longer}
use Rattle.r6_core.proofs.state.State.start.Goals as goal
use Rattle.r6_core.specs.Inside.{IsQueuedOf}

pub unreachable-requires : goal.unreachable-requires
unreachable-requires c =
    first_there c.args.self.now c.args.cause c.args.room c.requires.first (sym c.pop_oldest.ensures.value ∙ c.in_default.is)

pub place-place-requires : goal.place-place-requires
place-place-requires c =
    own_op c.args.self.now.frames (request_in c.in-Some.queued)
    (first_own c.args.self.now c.args.cause c.args.room c.requires.first c.in-Some.queued (sym c.in-Some.is ∙ c.pop_oldest.ensures.value) c.requires.settled).request

-- ---- its row is held

there : (c : goal.After-hold) → oldest_of c.args.cause (entries_of c.args.self.now.waiting) ≡ Some c.in-Some.queued
there c = sym c.pop_oldest.ensures.value ∙ c.in-Some.is

pub hold-requires-clause-sound : goal.hold-requires-clause-sound
hold-requires-clause-sound c = c.requires.settled.sound.frames

pub hold-requires-clause-rooms : goal.hold-requires-clause-rooms
hold-requires-clause-rooms c = c.requires.settled.sound.room.rooms

pub hold-requires-clause-request : goal.hold-requires-clause-request
hold-requires-clause-request c =
    (first_own c.args.self.now c.args.cause c.args.room c.requires.first c.in-Some.queued (sym c.in-Some.is ∙ c.pop_oldest.ensures.value) c.requires.settled).request

pub hold-requires-clause-waiting : goal.hold-requires-clause-waiting
hold-requires-clause-waiting c =
    let s = c.args.self.now in
    subst (λ (line : Line Queued). AllByRecursion (λ entry. IsQueuedOf s.frames entry.1) (entries_of line)) (sym c.pop_oldest.ensures.rest)
    (line_own s c.requires.settled c.args.cause c.in-Some.queued (sym c.pop_oldest.ensures.value ∙ c.in-Some.is))

pub hold-requires-clause-can : goal.hold-requires-clause-can
hold-requires-clause-can c =
    (subst (CanStart c.args.self.now.frames c.in-Some.queued) c.in-Frame.is
    (first_can c.args.self.now c.args.cause c.args.room c.requires.first c.in-Some.queued (sym c.in-Some.is ∙ c.pop_oldest.ensures.value))).1

pub hold-requires-clause-numbers : goal.hold-requires-clause-numbers
hold-requires-clause-numbers c =
    let s = c.args.self.now in
    let first = c.requires.first in
    let items = ap length (first_items s c.args.cause c.args.room first c.in-Some.queued (sym c.in-Some.is ∙ c.pop_oldest.ensures.value)) in
    let many = longer (values first.before) c.in-Some.queued (values first.behind) in
    one_more_hold s c.requires.settled.sound (omega (arith, items, many))

-- what the hold says of the line that was left
held :
    (c : goal.After-hold) → HoldsFor (Some (c.args.cause ∷ free_frame ∷ [])) c.in-Frame.frame
    (record c.args.self.now { waiting = with_entries c.args.self.now.waiting (without_oldest c.args.cause (entries_of c.args.self.now.waiting)) }) (request_in c.in-Some.queued) c.hold.new.self
held c =
    let s = c.args.self.now in
    subst (λ (line : Line Queued). HoldsFor (Some (c.args.cause ∷ free_frame ∷ [])) c.in-Frame.frame (record s { waiting = line }) (request_in c.in-Some.queued) c.hold.new.self)
    c.pop_oldest.ensures.rest c.hold.ensures

can : (c : goal.After-hold) → CanStart c.args.self.now.frames c.in-Some.queued (room.Frame c.in-Frame.frame)
can c =
    subst (CanStart c.args.self.now.frames c.in-Some.queued) c.in-Frame.is
    (first_can c.args.self.now c.args.cause c.args.room c.requires.first c.in-Some.queued (sym c.in-Some.is ∙ c.pop_oldest.ensures.value))

pub returns-in-Frame-clause-settled : goal.returns-in-Frame-clause-settled
returns-in-Frame-clause-settled c =
    start_settled c.args.self.now c.requires.settled c.args.cause c.in-Some.queued (there c) c.in-Frame.frame (can c).0 (c.args.cause ∷ free_frame ∷ []) c.hold.new.self (can c).1 (held c)

pub returns-in-Frame-clause-leads : goal.returns-in-Frame-clause-leads
returns-in-Frame-clause-leads c =
    start_leads c.args.self.now c.requires.settled c.args.cause c.in-Some.queued (there c) c.in-Frame.frame (can c).0 (c.args.cause ∷ free_frame ∷ []) c.hold.new.self (can c).1 (held c)

pub returns-in-Frame-clause-left : goal.returns-in-Frame-clause-left
returns-in-Frame-clause-left c =
    start_leaves c.args.self.now c.requires.settled c.args.cause c.in-Some.queued (there c) c.in-Frame.frame (can c).0 (c.args.cause ∷ free_frame ∷ []) c.hold.new.self (can c).1 (held c)

pub returns-in-Frame-clause-starts : goal.returns-in-Frame-clause-starts
returns-in-Frame-clause-starts c =
    let s = c.args.self.now in
    subst (λ o. IfSome o (λ request. StartsWith c.args.room c.args.cause s request c.hold.new.self)) (sym (there c))
    (subst (λ with. StartsWith with c.args.cause s c.in-Some.queued c.hold.new.self) (sym c.in-Frame.is)
    (start_starts s c.requires.settled c.args.cause c.in-Some.queued (there c) c.in-Frame.frame (can c).0 (c.args.cause ∷ free_frame ∷ []) c.hold.new.self (can c).1 (held c)))

-- ---- it is read directly

pub read-requires-clause-request : goal.read-requires-clause-request
read-requires-clause-request c =
    (first_own c.args.self.now c.args.cause c.args.room c.requires.first c.in-Some.queued (sym c.in-Some.is ∙ c.pop_oldest.ensures.value) c.requires.settled).request

pub read-requires-clause-can : goal.read-requires-clause-can
read-requires-clause-can c =
    (subst (CanStart c.args.self.now.frames c.in-Some.queued) c.in-Direct.is
    (first_can c.args.self.now c.args.cause c.args.room c.requires.first c.in-Some.queued (sym c.in-Some.is ∙ c.pop_oldest.ensures.value))).1

read_start : (c : goal.After-read) → let first = c.requires.first in
    IsReadStart c.args.self.now (values first.before) c.in-Some.queued (values first.behind) c.pop_oldest.new.self c.in-Direct.number c.read.new.self.frames
read_start c =
    let s = c.args.self.now in
    let done = c.read.ensures in
    let is = sym c.in-Some.is ∙ c.pop_oldest.ensures.value in
    record {
      left = first_left s c.args.cause c.args.room c.requires.first c.in-Some.queued is c.pop_oldest.new.self c.pop_oldest.ensures.rest;
      items = first_items s c.args.cause c.args.room c.requires.first c.in-Some.queued is;
      unerred = (subst (CanStart s.frames c.in-Some.queued) c.in-Direct.is (first_can s c.args.cause c.args.room c.requires.first c.in-Some.queued is)).0;
      can = (subst (CanStart s.frames c.in-Some.queued) c.in-Direct.is (first_can s c.args.cause c.args.room c.requires.first c.in-Some.queued is)).1;
      sound = done.sound;
      live = done.live;
      reads = done.reads;
      holds = done.holds;
      slots = done.slots;
      taken = done.taken;
      next = done.next;
    }

pub returns-in-Direct-clause-settled : goal.returns-in-Direct-clause-settled
returns-in-Direct-clause-settled c = subst IsSettled (sym c.read.ensures.same) (read_core c.args.self.now _ _ _ _ _ _ (read_start c) c.requires.settled)

pub returns-in-Direct-clause-leads : goal.returns-in-Direct-clause-leads
returns-in-Direct-clause-leads c =
    let s = c.args.self.now in
    subst (λ (x : State). Through (layout_in s) s.frames.shard Scans (state_of s) (state_of x)) (sym c.read.ensures.same)
    (read_leads s _ _ _ _ _ _ (read_start c) c.requires.settled.sound)

pub returns-in-Direct-clause-starts : goal.returns-in-Direct-clause-starts
returns-in-Direct-clause-starts c =
    let s = c.args.self.now in
    let is = sym c.in-Some.is ∙ c.pop_oldest.ensures.value in
    let new = with_frames s c.pop_oldest.new.self c.read.new.self.frames in
    subst (λ (x : State). IfSome (oldest_of c.args.cause (entries_of s.waiting)) (λ request. StartsWith c.args.room c.args.cause s request x)) (sym c.read.ensures.same)
    (subst (λ o. IfSome o (λ request. StartsWith c.args.room c.args.cause s request new)) is
    (subst (λ with. StartsWith with c.args.cause s c.in-Some.queued new) (sym c.in-Direct.is)
    (read_started s _ _ _ _ _ _ (read_start c) (others_in s c.args.cause) c.requires.settled.sound, read_like s _ _ _ _ _ _ (read_start c), (c.read.ensures.holds, c.read.ensures.taken))))

pub returns-in-Direct-clause-left : goal.returns-in-Direct-clause-left
returns-in-Direct-clause-left c =
    let s = c.args.self.now in
    let with = subst (CanStart s.frames c.in-Some.queued) c.in-Direct.is (first_can s c.args.cause c.args.room c.requires.first c.in-Some.queued (sym c.in-Some.is ∙ c.pop_oldest.ensures.value)) in
    direct_leaves s c.requires.settled c.args.cause c.in-Some.queued (sym c.pop_oldest.ensures.value ∙ c.in-Some.is) with.1.1 c.read.new.self
    (ap (λ (x : State). x.waiting) c.read.ensures.same ∙ c.pop_oldest.ensures.rest)
