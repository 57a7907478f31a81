use Rattle.std.proofs.Common.{◌≡◌, ◌<◌, ◌∙◌, [], length, is_some, set, sym, ap, subst, arith}
use Rattle.std.proofs.lemmas.List.{get_or_read}
use Rattle.r6_waiters.specs.Line.{causes_of, entries_of, with_entries, oldest_of, oldest_moved}
use Rattle.r6_waiters.specs.Sets.{cause_at, waiting}
use Rattle.r6_waiters.proofs.Lines.{IsOldest, oldest-found, oldest-none, moved-none, length-moved}
use Rattle.r6_waiters.proofs.Marks.{there-within, wide-set}
use Rattle.r6_waiters.proofs.Stepped.{Stepped, oldest-in, none-in, stepped-moved}
use Rattle.r6_waiters.specs.Positions.{has}
use Rattle.r6_waiters.proofs.waiters.Waiters.move_oldest.Goals as goal

pub insert-requires : goal.insert-requires
insert-requires g c =
    let sets = c.self.inside.sets.items in
    let places = c.self.inside.places.items in
    let position = c.in-Some.position in
    let from_within : c.args.from < length sets = subst (λ v. c.args.from < causes_of v) (sym c.self.view_is) c.requires.from in
    let to_within : c.args.to < length sets = subst (λ v. c.args.to < causes_of v) (sym c.self.view_is) c.requires.to in
    let oldest = oldest-in sets places c.args.from position c.index.result.now c.self.invariant.marked from_within c.index.ensures c.in-Some.ensures in
    let mid = set sets c.args.from c.remove.new.self in
    let as_wide = wide-set sets c.remove.new.self c.index_mut.result.now c.args.from from_within c.index_mut.ensures.value c.remove.ensures.room in
    let within : c.args.to < length mid = subst (λ n. c.args.to < n) (sym as_wide.0) to_within in
    let old = c.index_mut-in-Some.result.now in
    let long : length old ≡ length c.self.inside.spare = ap length (get_or_read mid c.args.to old within c.index_mut-in-Some.ensures.value []) ∙ as_wide.1 c.args.to ∙ c.self.invariant.equal c.args.to to_within in
    let inside = there-within places position oldest.there in
    omega (arith, long, inside, c.self.inside.places.ok.0, c.self.inside.places.ok.1, c.self.invariant.room, c.self.invariant.wide)

-- the oldest entry of the cause stands at the position
oldest_at : (g : _) (c : goal.After-self-in-Some-1 g) → IsOldest (cause_at c.self.inside.sets.items) c.self.inside.places.items c.args.from c.in-Some.position
oldest_at g c =
    let sets = c.self.inside.sets.items in
    let within : c.args.from < length sets = subst (λ v. c.args.from < causes_of v) (sym c.self.view_is) c.requires.from in
    oldest-in sets c.self.inside.places.items c.args.from c.in-Some.position c.index.result.now c.self.invariant.marked within c.index.ensures c.in-Some.ensures

stepped : (g : _) (c : goal.After-self-in-Some-1 g)
    → Stepped c.self.inside.sets.items (set (set c.self.inside.sets.items c.args.from c.remove.new.self) c.args.to c.insert.new.self) c.self.inside.places.items (oldest_moved c.args.from c.args.to (waiting (cause_at c.self.inside.sets.items) c.self.inside.places.items))
stepped g c =
    let sets = c.self.inside.sets.items in
    let from_within : c.args.from < length sets = subst (λ v. c.args.from < causes_of v) (sym c.self.view_is) c.requires.from in
    let to_within : c.args.to < length sets = subst (λ v. c.args.to < causes_of v) (sym c.self.view_is) c.requires.to in
    stepped-moved sets c.self.inside.places.items c.args.from c.args.to c.in-Some.position c.remove.new.self c.index_mut.result.now c.insert.new.self c.index_mut-in-Some.result.now c.self.invariant.marked from_within to_within (oldest_at g c)
    c.index_mut.ensures.value c.remove.ensures.has c.remove.ensures.room c.index_mut-in-Some.ensures.value c.insert.ensures.has c.insert.ensures.room

pub invariant_of-self : goal.invariant_of-self
invariant_of-self g c =
    let after = stepped g c in
    record {
      countable = c.self.invariant.countable;
      room = c.self.invariant.room;
      wide = c.self.invariant.wide;
      equal = λ cause below. after.wide.1 cause ∙ c.self.invariant.equal cause (subst (λ n. cause < n) after.wide.0 below);
      as_wide = c.self.invariant.as_wide;
      spare = c.self.invariant.spare;
      marked = after.marked;
      classed = c.self.invariant.classed;
      counted = c.self.invariant.counted ∙ sym (ap length after.waits ∙ length-moved c.args.from c.args.to (waiting (cause_at c.self.inside.sets.items) c.self.inside.places.items));
    }

pub returns-in-Some-clause-found : goal.returns-in-Some-clause-found
returns-in-Some-clause-found g c =
    let oldest = oldest_at g c in
    sym (ap is_some (sym (ap (λ v. oldest_of c.args.from (entries_of v)) c.self.view_is)
    ∙ oldest-found (cause_at c.self.inside.sets.items) c.self.inside.places.items c.args.from c.in-Some.position oldest)
    ∙ oldest.there)

pub returns-in-Some-clause-moved : goal.returns-in-Some-clause-moved
returns-in-Some-clause-moved g c =
    let after = stepped g c in
    ap (λ n. (c.self.inside.capacity, (n, waiting (cause_at (set (set c.self.inside.sets.items c.args.from c.remove.new.self) c.args.to c.insert.new.self)) c.self.inside.places.items))) after.wide.0
    ∙ ap (λ es. (c.self.inside.capacity, (length c.self.inside.sets.items, es))) after.waits
    ∙ ap (λ v. with_entries v (oldest_moved c.args.from c.args.to (entries_of v))) c.self.view_is

pub returns-in-None-clause-found : goal.returns-in-None-clause-found
returns-in-None-clause-found g c =
    let sets = c.self.inside.sets.items in
    let places = c.self.inside.places.items in
    let within : c.args.from < length sets = subst (λ v. c.args.from < causes_of v) (sym c.self.view_is) c.requires.from in
    let none = none-in sets places c.args.from c.index.result.now c.self.invariant.marked within c.index.ensures c.in-None.ensures in
    sym (ap is_some (sym (ap (λ v. oldest_of c.args.from (entries_of v)) c.self.view_is) ∙ oldest-none (cause_at sets) places c.args.from none))

pub returns-in-None-clause-moved : goal.returns-in-None-clause-moved
returns-in-None-clause-moved g c =
    let sets = c.self.inside.sets.items in
    let places = c.self.inside.places.items in
    let within : c.args.from < length sets = subst (λ v. c.args.from < causes_of v) (sym c.self.view_is) c.requires.from in
    let none = none-in sets places c.args.from c.index.result.now c.self.invariant.marked within c.index.ensures c.in-None.ensures in
    let none_waits = sym (ap (λ v. oldest_of c.args.from (entries_of v)) c.self.view_is) ∙ oldest-none (cause_at sets) places c.args.from none in
    sym (ap (λ es. with_entries c.args.self.now es) (moved-none c.args.from c.args.to (entries_of c.args.self.now) none_waits))

pub index-requires : goal.index-requires
index-requires g c = subst (λ n. c.args.from < n) (sym c.self.inside.sets.ok.0) (subst (λ v. c.args.from < causes_of v) (sym c.self.view_is) c.requires.from)

pub index_mut-requires : goal.index_mut-requires
index_mut-requires g c = subst (λ n. c.args.from < n) (sym c.self.inside.sets.ok.0) (subst (λ v. c.args.from < causes_of v) (sym c.self.view_is) c.requires.from)

pub remove-requires : goal.remove-requires
remove-requires g c =
    let sets = c.self.inside.sets.items in
    let within : c.args.from < length sets = subst (λ v. c.args.from < causes_of v) (sym c.self.view_is) c.requires.from in
    let now = get_or_read sets c.args.from c.index_mut.result.now within c.index_mut.ensures.value [] in
    let read = get_or_read sets c.args.from c.index.result.now within c.index.ensures [] in
    ap (λ l. has l c.in-Some.position) (now ∙ sym read) ∙ c.in-Some.ensures.0

pub index_mut-requires-in-Some : goal.index_mut-requires-in-Some
index_mut-requires-in-Some g c = subst (λ n. c.args.to < n) (sym c.self.inside.sets.ok.0) (subst (λ v. c.args.to < causes_of v) (sym c.self.view_is) c.requires.to)
