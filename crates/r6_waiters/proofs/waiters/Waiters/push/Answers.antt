use Rattle.std.proofs.Common.{◌≡◌, ◌<◌, ◌+◌, ◌∙◌, ◌++◌, ◌∷◌, [], length, set, sym, ap, subst, ℕ, ◌≤◌, ◌*◌, arith}
use Rattle.std.proofs.lemmas.List.{length_push, get_or_read}
use Rattle.std.specs.Prelude.{slice_index_or}
use Rattle.r6_waiters.specs.Keys.{AreClassed}
use Rattle.r6_waiters.specs.Line.{causes_of, entries_of, with_entries, capacity_of}
use Rattle.r6_waiters.specs.Sets.{cause_at, waiting}
use Rattle.r6_waiters.proofs.Marks.{wide-again}
use Rattle.r6_waiters.proofs.Stepped.{Stepped, stepped-pushed}
use Rattle.r6_waiters.proofs.Swept.{lent_whole}
use Rattle.r6_waiters.proofs.waiters.Waiters.push.Goals as goal

stepped : (g : _) (c : goal.After-self-3-1 g)
    → Stepped c.make_room.new.sets.items (set c.make_room.new.sets.items c.args.cause c.insert.new.self) c.append.new.places.items (waiting (cause_at c.make_room.new.sets.items) c.make_room.new.places.items ++ (c.args.cause, c.args.value) ∷ [])
stepped g c =
    let sets = c.make_room.new.sets.items in
    let places = c.make_room.new.places.items in
    let cause = c.args.cause in
    let before : cause < length c.self.inside.sets.items = subst (λ v. cause < causes_of v) (sym c.self.view_is) c.requires in
    let within : cause < length sets = subst (λ n. cause < n) (sym c.make_room.ensures.sets.0) before in
    let last : c.len.result ≡ length places = c.len.ensures ∙ c.make_room.new.places.ok.0 in
    let after = stepped-pushed sets places cause c.len.result c.args.value c.insert.new.self c.index_mut.result.now c.make_room.ensures.marked within last c.index_mut.ensures.value c.insert.ensures.has c.insert.ensures.room in
    subst (λ ps. Stepped sets (set sets cause c.insert.new.self) ps (waiting (cause_at sets) places ++ (cause, c.args.value) ∷ [])) (sym c.append.ensures.items) after

-- the entries are those that waited, and the new one
waits : (g : _) (c : goal.After-self-3-1 g)
    → waiting (cause_at (set c.make_room.new.sets.items c.args.cause c.insert.new.self)) c.append.new.places.items ≡ waiting (cause_at c.self.inside.sets.items) c.self.inside.places.items ++ (c.args.cause, c.args.value) ∷ []
waits g c = (stepped g c).waits ∙ ap (λ es. es ++ (c.args.cause, c.args.value) ∷ []) c.make_room.ensures.same

pub invariant_of-self : goal.invariant_of-self
invariant_of-self g c =
    let after = stepped g c in
    let wide = wide-again c.self.inside.sets.items c.make_room.new.sets.items _ c.make_room.ensures.sets after.wide in
    let entries = waiting (cause_at c.self.inside.sets.items) c.self.inside.places.items in
    let lent : length c.append.new.keyed ≡ length c.make_room.new.keyed.items = c.append.ensures.sets.0 ∙ ap length c.deref_mut.ensures.value in
    let whole = lent_whole _ c.append.new.keyed c.make_room.new.keyed.items lent c.make_room.new.keyed.ok.0 in
    record {
      countable = c.self.invariant.countable;
      room = c.append.ensures.capacity ∙ c.make_room.ensures.capacity ∙ c.self.invariant.room;
      wide = c.self.invariant.wide;
      equal = λ cause below. wide.1 cause ∙ c.self.invariant.equal cause (subst (λ n. cause < n) wide.0 below);
      as_wide = λ class below. ap (λ l. length (slice_index_or l class [])) whole ∙ c.append.ensures.sets.1 class
          ∙ ap (λ l. length (slice_index_or l class [])) c.deref_mut.ensures.value
          ∙ c.make_room.ensures.keyed.1 class
          ∙ c.self.invariant.as_wide class below;
      spare = c.self.invariant.spare;
      marked = after.marked;
      classed = subst (λ l. AreClassed g.K.KeyOf.key_of l c.append.new.places.items) (sym whole) c.append.ensures.classed;
      counted = ap (λ n. n + 1) c.self.invariant.counted ∙ sym (ap length (waits g c) ∙ length_push entries (c.args.cause, c.args.value));
    }

pub returns-clause-last : goal.returns-clause-last
returns-clause-last g c =
    let wide = wide-again c.self.inside.sets.items c.make_room.new.sets.items _ c.make_room.ensures.sets (stepped g c).wide in
    ap (λ n. (c.self.inside.capacity, (n, waiting (cause_at (set c.make_room.new.sets.items c.args.cause c.insert.new.self)) c.append.new.places.items))) wide.0
    ∙ ap (λ es. (c.self.inside.capacity, (length c.self.inside.sets.items, es))) (waits g c)
    ∙ ap (λ v. with_entries v (entries_of v ++ (c.args.cause, c.args.value) ∷ [])) c.self.view_is

pub make_room-requires-clause-marked : goal.make_room-requires-clause-marked
make_room-requires-clause-marked g c = c.self.invariant.marked

pub make_room-requires-clause-classed : goal.make_room-requires-clause-classed
make_room-requires-clause-classed g c = c.self.invariant.classed

pub make_room-requires-clause-wide : goal.make_room-requires-clause-wide
make_room-requires-clause-wide g c cause below =
    let places = c.self.inside.places in
    omega (arith, c.self.invariant.equal cause below, c.self.invariant.wide, c.self.invariant.room, places.ok.0, places.ok.1)

pub make_room-requires-clause-as_wide : goal.make_room-requires-clause-as_wide
make_room-requires-clause-as_wide g c class below =
    let places = c.self.inside.places in
    let long = c.self.invariant.as_wide class (subst (λ n. class < n) c.self.invariant.classed.many below) in
    omega (arith, long, c.self.invariant.wide, c.self.invariant.room, places.ok.0, places.ok.1)

pub make_room-requires-clause-few : goal.make_room-requires-clause-few
make_room-requires-clause-few g c = omega (arith, c.self.invariant.counted, c.if-self.false)

pub make_room-requires-clause-within : goal.make_room-requires-clause-within
make_room-requires-clause-within g c =
    let places = c.self.inside.places in
    omega (arith, c.self.invariant.room, places.ok.0, places.ok.1)

pub index_mut-requires : goal.index_mut-requires
index_mut-requires g c =
    let before : c.args.cause < length c.self.inside.sets.items = subst (λ v. c.args.cause < causes_of v) (sym c.self.view_is) c.requires in
    omega (arith, before, c.make_room.ensures.sets.0, c.make_room.new.sets.ok.0)

pub insert-requires : goal.insert-requires
insert-requires g c =
    let sets = c.make_room.new.sets.items in
    let cause = c.args.cause in
    let before : cause < length c.self.inside.sets.items = subst (λ v. cause < causes_of v) (sym c.self.view_is) c.requires in
    let within : cause < length sets = subst (λ n. cause < n) (sym c.make_room.ensures.sets.0) before in
    let long = ap length (get_or_read sets cause c.index_mut.result.now within c.index_mut.ensures.value []) ∙ c.make_room.ensures.sets.1 cause ∙ c.self.invariant.equal cause before in
    omega (arith, long, c.len.ensures, c.make_room.new.places.ok.0, c.make_room.ensures.room, c.self.invariant.wide)

pub append-requires-clause-classed : goal.append-requires-clause-classed
append-requires-clause-classed g c = subst (λ l. AreClassed g.K.KeyOf.key_of l c.make_room.new.places.items) (sym c.deref_mut.ensures.value) c.make_room.ensures.classed

pub append-requires-clause-wide : goal.append-requires-clause-wide
append-requires-clause-wide g c =
    subst (λ l. (class : ℕ) → class < length l → length c.make_room.new.places.items + 1 ≤ 64 * length (slice_index_or l class [])) (sym c.deref_mut.ensures.value) (λ class below.
    let small = subst (λ n. class < n) (c.make_room.ensures.keyed.0 ∙ c.self.invariant.classed.many) below in
    omega (arith, c.make_room.ensures.keyed.1 class, c.self.invariant.as_wide class small, c.make_room.ensures.room, c.self.invariant.wide))

pub append-requires-clause-room : goal.append-requires-clause-room
append-requires-clause-room g c = omega (arith, c.make_room.ensures.room, c.make_room.ensures.capacity, c.self.invariant.room)

pub overflow_add-self : goal.overflow_add-self
overflow_add-self g c = omega (arith, c.if-self.false, c.self.invariant.countable)

pub returns-clause-room : goal.returns-clause-room
returns-clause-room g c = subst (λ v. length (entries_of v) < capacity_of v) c.self.view_is (omega (arith, c.self.invariant.counted, c.if-self.false))
