use Rattle.std.proofs.Common.{◌≡◌, ◌<◌, ◌∙◌, [], length, get_or, set, sym, ap, subst, arith}
use Rattle.std.proofs.lemmas.List.{get_or_read}
use Rattle.r6_waiters.specs.Line.{causes_of, entries_of, with_entries, all_moved}
use Rattle.r6_waiters.specs.Positions.{HasNone}
use Rattle.r6_waiters.specs.Sets.{cause_at, waiting}
use Rattle.r6_waiters.proofs.Lines.{length-all_moved}
use Rattle.r6_waiters.proofs.Marks.{wide-set}
use Rattle.r6_waiters.proofs.Stepped.{Stepped, stepped-all_moved}
use Rattle.r6_waiters.proofs.waiters.Waiters.move_all.Goals as goal

pub take_all-requires : goal.take_all-requires
take_all-requires g c =
    let sets = c.self.inside.sets.items in
    let moved = c.swap.new.x in
    let old = c.index_mut-2.result.now in
    let from_within : c.args.from < length sets = subst (λ v. c.args.from < causes_of v) (sym c.self.view_is) c.requires.from in
    let to_within : c.args.to < length sets = subst (λ v. c.args.to < causes_of v) (sym c.self.view_is) c.requires.to in
    let is = c.swap.ensures.x_after ∙ c.index_mut.ensures.value ∙ ap (λ l. get_or sets c.args.from l) (sym c.swap.ensures.x_after) in
    let long = ap length (get_or_read sets c.args.from moved from_within is []) ∙ c.self.invariant.equal c.args.from from_within in
    let as_wide = wide-set sets c.swap.new.y moved c.args.from from_within is (ap length c.swap.ensures.y_after ∙ sym long) in
    let within : c.args.to < length (set sets c.args.from c.swap.new.y) = subst (λ n. c.args.to < n) (sym as_wide.0) to_within in
    long
    ∙ sym (ap length (get_or_read (set sets c.args.from c.swap.new.y) c.args.to old within c.index_mut-2.ensures.value []) ∙ as_wide.1 c.args.to ∙ c.self.invariant.equal c.args.to to_within)

stepped : (g : _) (c : goal.After-self-2-1 g)
    → Stepped c.self.inside.sets.items (set (set c.self.inside.sets.items c.args.from c.swap.new.y) c.args.to c.take_all.new.self) c.self.inside.places.items (all_moved c.args.from c.args.to (waiting (cause_at c.self.inside.sets.items) c.self.inside.places.items))
stepped g c =
    let sets = c.self.inside.sets.items in
    let from_within : c.args.from < length sets = subst (λ v. c.args.from < causes_of v) (sym c.self.view_is) c.requires.from in
    let to_within : c.args.to < length sets = subst (λ v. c.args.to < causes_of v) (sym c.self.view_is) c.requires.to in
    let empty = subst HasNone (sym c.swap.ensures.y_after) c.self.invariant.spare in
    let long = c.self.invariant.equal c.args.from from_within ∙ sym (ap length c.swap.ensures.y_after) in
    let is = c.swap.ensures.x_after ∙ c.index_mut.ensures.value ∙ ap (λ l. get_or sets c.args.from l) (sym c.swap.ensures.x_after) in
    stepped-all_moved sets c.self.inside.places.items c.args.from c.args.to c.swap.new.y c.swap.new.x c.take_all.new.self c.index_mut-2.result.now c.self.invariant.marked from_within to_within
    empty long is c.index_mut-2.ensures.value c.take_all.ensures.has c.take_all.ensures.room

pub invariant_of-self : goal.invariant_of-self
invariant_of-self g c =
    let after = stepped g c in
    let sets = c.self.inside.sets.items in
    let from_within : c.args.from < length sets = subst (λ v. c.args.from < causes_of v) (sym c.self.view_is) c.requires.from in
    let is = c.swap.ensures.x_after ∙ c.index_mut.ensures.value ∙ ap (λ l. get_or sets c.args.from l) (sym c.swap.ensures.x_after) in
    let spare_long : length c.take_all.new.other ≡ length c.self.inside.spare =
    c.take_all.ensures.other_room ∙ ap length (get_or_read sets c.args.from c.swap.new.x from_within is []) ∙ c.self.invariant.equal c.args.from from_within in
    record {
      countable = c.self.invariant.countable;
      room = c.self.invariant.room;
      wide = omega (arith, c.self.invariant.wide, spare_long);
      equal = λ cause below. after.wide.1 cause ∙ c.self.invariant.equal cause (subst (λ n. cause < n) after.wide.0 below) ∙ sym spare_long;
      as_wide = λ class below. c.self.invariant.as_wide class below ∙ sym spare_long;
      spare = c.take_all.ensures.none;
      marked = after.marked;
      classed = c.self.invariant.classed;
      counted = c.self.invariant.counted ∙ sym (ap length after.waits ∙ length-all_moved c.args.from c.args.to (waiting (cause_at sets) c.self.inside.places.items));
    }

pub returns : goal.returns
returns g c =
    let after = stepped g c in
    ap (λ n. (c.self.inside.capacity, (n, waiting (cause_at (set (set c.self.inside.sets.items c.args.from c.swap.new.y) c.args.to c.take_all.new.self)) c.self.inside.places.items))) after.wide.0
    ∙ ap (λ es. (c.self.inside.capacity, (length c.self.inside.sets.items, es))) after.waits
    ∙ ap (λ v. with_entries v (all_moved c.args.from c.args.to (entries_of v))) c.self.view_is

pub index_mut-requires : goal.index_mut-requires
index_mut-requires g c = subst (λ n. c.args.from < n) (sym c.self.inside.sets.ok.0) (subst (λ v. c.args.from < causes_of v) (sym c.self.view_is) c.requires.from)

pub index_mut-requires-2 : goal.index_mut-requires-2
index_mut-requires-2 g c = subst (λ n. c.args.to < n) (sym c.self.inside.sets.ok.0) (subst (λ v. c.args.to < causes_of v) (sym c.self.view_is) c.requires.to)
