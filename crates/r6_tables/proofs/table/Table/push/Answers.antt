use Rattle.std.proofs.Common.{◌≡◌, ◌+◌, ◌<◌, ◌∙◌, sym, ap, subst, arith, rules, length, Some}
use Rattle.std.specs.FinMap.{len, insert, from_entries}
use Rattle.r6_tables.specs.Table.{capacity_of, next_of, entries_of}
use Rattle.r6_tables.specs.Places.{live, IsRising}
use Rattle.r6_tables.proofs.Places.{rising-pushed, length-pushed}
use Rattle.r6_tables.proofs.Numbered.{len-entries_in, entries_in, entries_in-pushed}
use Rattle.r6_tables.proofs.table.Table.push.Goals as goal

pub make_room-requires : goal.make_room-requires
make_room-requires g c =
    let size = len-entries_in c.self.inside.next c.self.inside.places.items c.self.invariant.rising in
    let same = ap (λ v. len (entries_of v)) c.self.view_is in
    let room = ap capacity_of c.self.view_is in
    omega (arith, size, same, room, c.requires.room)

-- the entries that there were are fewer than the capacity
few : (g : _) (c : goal.After-self-1 g) → c.self.inside.len < c.self.inside.capacity
few g c =
    let size = len-entries_in c.self.inside.next c.self.inside.places.items c.self.invariant.rising in
    let same = ap (λ v. len (entries_of v)) c.self.view_is in
    let room = ap capacity_of c.self.view_is in
    omega (arith, size, same, room, c.requires.room, c.self.invariant.counted)

pub overflow_add-self-2 : goal.overflow_add-self-2
overflow_add-self-2 g c = search (rules, few g c, c.self.invariant.countable)

pub invariant_of-self : goal.invariant_of-self
invariant_of-self g c =
    let old = c.self.inside.places.items in
    let places = c.make_room.new.places.items in
    let next = c.self.inside.next in
    let rising = c.make_room.ensures.rising 0 next c.self.invariant.rising in
    record {
      countable = c.self.invariant.countable;
      room = omega (arith, c.self.invariant.room, c.make_room.ensures.capacity, c.push_reserved.ensures.capacity);
      rising = subst (IsRising 0 (next + 1)) (sym c.push_reserved.ensures.items) (rising-pushed 0 next (Some c.args.value) places rising);
      counted =
          let same = ap length c.make_room.ensures.same in
          let pushed = ap (λ items. length (live items)) c.push_reserved.ensures.items ∙ length-pushed next c.args.value places in
          omega (arith, same, pushed, c.self.invariant.counted);
    }

pub returns-clause-entry : goal.returns-clause-entry
returns-clause-entry g c =
    let places = c.make_room.new.places.items in
    let next = c.self.inside.next in
    let rising = c.make_room.ensures.rising 0 next c.self.invariant.rising in
    let entries : entries_in c.push_reserved.new.self.items ≡ insert (from_entries (live c.self.inside.places.items)) next c.args.value =
    ap entries_in c.push_reserved.ensures.items
    ∙ entries_in-pushed next c.args.value places rising
    ∙ ap (λ es. insert (from_entries es) next c.args.value) c.make_room.ensures.same in
    ap (λ entries. (c.self.inside.capacity, (next + 1, entries))) entries
    ∙ ap (λ v. (capacity_of v, (next_of v + 1, insert (entries_of v) (next_of v) c.args.value))) c.self.view_is
