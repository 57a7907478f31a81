use Rattle.std.proofs.Common.{◌≡◌, ◌<◌, ◌∙◌, None, [], length, set, sym, ap, subst, arith}
use Rattle.std.specs.Prelude.{slice_index_or}
use Rattle.r6_waiters.specs.Keys.{AreClassed}
use Rattle.r6_waiters.specs.Line.{causes_of, entries_of, with_entries, oldest_of, without_oldest}
use Rattle.r6_waiters.specs.Sets.{place_at, cause_at, waiting}
use Rattle.r6_waiters.proofs.Lines.{IsOldest, oldest-found, oldest-none, without-none, length-taken, waiting-taken}
use Rattle.r6_waiters.proofs.Stepped.{Stepped, oldest-in, none-in, stepped-taken}
use Rattle.r6_waiters.proofs.Swept.{lent_whole}
use Rattle.std.proofs.lemmas.List.{get_or_read}
use Rattle.r6_waiters.specs.Positions.{has}
use Rattle.r6_waiters.proofs.waiters.Waiters.pop_oldest.Goals as goal

-- none waits for the cause
none_waits : (g : _) (c : goal.After-from_residual g) → oldest_of c.args.cause (entries_of c.args.self.now) ≡ None
none_waits g c =
    let sets = c.self.inside.sets.items in
    let places = c.self.inside.places.items in
    let within : c.args.cause < length sets = subst (λ v. c.args.cause < causes_of v) (sym c.self.view_is) c.requires in
    let none = none-in sets places c.args.cause c.index.result.now c.self.invariant.marked within c.index.ensures c.in_err-position.ensures in
    sym (ap (λ v. oldest_of c.args.cause (entries_of v)) c.self.view_is) ∙ oldest-none (cause_at sets) places c.args.cause none

pub returns-in_err-position-clause-value : goal.returns-in_err-position-clause-value
returns-in_err-position-clause-value g c = c.from_residual.ensures ∙ sym (none_waits g c)

pub returns-in_err-position-clause-rest : goal.returns-in_err-position-clause-rest
returns-in_err-position-clause-rest g c =
    sym (ap (λ es. with_entries c.args.self.now es) (without-none c.args.cause (entries_of c.args.self.now) (none_waits g c)))

pub overflow_sub-self : goal.overflow_sub-self
overflow_sub-self g c =
    let sets = c.self.inside.sets.items in
    let places = c.self.inside.places.items in
    let position = c.in_ok-position.position in
    let within : c.args.cause < length sets = subst (λ v. c.args.cause < causes_of v) (sym c.self.view_is) c.requires in
    let oldest = oldest-in sets places c.args.cause position c.index.result.now c.self.invariant.marked within c.index.ensures c.in_ok-position.ensures in
    let fewer = length-taken (cause_at sets) places c.args.cause position 0 oldest in
    omega (arith, fewer, c.self.invariant.counted)

pub take-requires-clause-there : goal.take-requires-clause-there
take-requires-clause-there g c =
    let sets = c.self.inside.sets.items in
    let places = c.self.inside.places.items in
    let position = c.in_ok-position.position in
    let within : c.args.cause < length sets = subst (λ v. c.args.cause < causes_of v) (sym c.self.view_is) c.requires in
    let oldest = oldest-in sets places c.args.cause position c.index.result.now c.self.invariant.marked within c.index.ensures c.in_ok-position.ensures in
    oldest.there

-- the oldest entry of the cause stands at the position
oldest_at : (g : _) (c : goal.After-self-3-1 g) → IsOldest (cause_at c.self.inside.sets.items) c.self.inside.places.items c.args.cause c.in_ok-position.position
oldest_at g c =
    let sets = c.self.inside.sets.items in
    let within : c.args.cause < length sets = subst (λ v. c.args.cause < causes_of v) (sym c.self.view_is) c.requires in
    oldest-in sets c.self.inside.places.items c.args.cause c.in_ok-position.position c.index.result.now c.self.invariant.marked within c.index.ensures c.in_ok-position.ensures

stepped : (g : _) (c : goal.After-self-3-1 g)
    → Stepped c.self.inside.sets.items (set c.self.inside.sets.items c.args.cause c.remove.new.self) c.take.new.places.items (without_oldest c.args.cause (waiting (cause_at c.self.inside.sets.items) c.self.inside.places.items))
stepped g c =
    let sets = c.self.inside.sets.items in
    let places = c.self.inside.places.items in
    let words = c.remove.new.self in
    let position = c.in_ok-position.position in
    let within : c.args.cause < length sets = subst (λ v. c.args.cause < causes_of v) (sym c.self.view_is) c.requires in
    let after = stepped-taken sets places c.args.cause position (place_at places position).0 words c.index_mut.result.now c.self.invariant.marked within (oldest_at g c) c.index_mut.ensures.value c.remove.ensures.has c.remove.ensures.room in
    subst (λ ps. Stepped sets (set sets c.args.cause words) ps (without_oldest c.args.cause (waiting (cause_at sets) places))) (sym c.take.ensures.places) after

pub invariant_of-self : goal.invariant_of-self
invariant_of-self g c =
    let sets = c.self.inside.sets.items in
    let places = c.self.inside.places.items in
    let after = stepped g c in
    let fewer = length-taken (cause_at sets) places c.args.cause c.in_ok-position.position (place_at places c.in_ok-position.position).0 (oldest_at g c) in
    let lent : length c.take.new.keyed ≡ length c.self.inside.keyed.items = c.take.ensures.sets.0 ∙ ap length c.deref_mut.ensures.value in
    let whole = lent_whole _ c.take.new.keyed c.self.inside.keyed.items lent c.self.inside.keyed.ok.0 in
    record {
      countable = c.self.invariant.countable;
      room = c.take.ensures.capacity ∙ c.self.invariant.room;
      wide = c.self.invariant.wide;
      equal = λ cause below. after.wide.1 cause ∙ c.self.invariant.equal cause (subst (λ n. cause < n) after.wide.0 below);
      as_wide = λ class below. ap (λ l. length (slice_index_or l class [])) whole ∙ c.take.ensures.sets.1 class ∙ ap (λ l. length (slice_index_or l class [])) c.deref_mut.ensures.value ∙ c.self.invariant.as_wide class below;
      spare = c.self.invariant.spare;
      marked = after.marked;
      classed = subst (λ l. AreClassed g.K.KeyOf.key_of l c.take.new.places.items) (sym whole) c.take.ensures.classed;
      counted =
          let taken = ap length (waiting-taken (cause_at sets) places c.args.cause c.in_ok-position.position (place_at places c.in_ok-position.position).0 (oldest_at g c)) in
          let now = ap length after.waits in
          omega (arith, fewer, taken, now, c.self.invariant.counted);
    }

pub returns-clause-value : goal.returns-clause-value
returns-clause-value g c =
    let sets = c.self.inside.sets.items in
    c.take.ensures.value
    ∙ sym (oldest-found (cause_at sets) c.self.inside.places.items c.args.cause c.in_ok-position.position (oldest_at g c))
    ∙ ap (λ v. oldest_of c.args.cause (entries_of v)) c.self.view_is

pub returns-clause-rest : goal.returns-clause-rest
returns-clause-rest g c =
    let after = stepped g c in
    ap (λ n. (c.self.inside.capacity, (n, waiting (cause_at (set c.self.inside.sets.items c.args.cause c.remove.new.self)) c.take.new.places.items))) after.wide.0
    ∙ ap (λ es. (c.self.inside.capacity, (length c.self.inside.sets.items, es))) after.waits
    ∙ ap (λ v. with_entries v (without_oldest c.args.cause (entries_of v))) c.self.view_is

pub index-requires : goal.index-requires
index-requires g c = subst (λ n. c.args.cause < n) (sym c.self.inside.sets.ok.0) (subst (λ v. c.args.cause < causes_of v) (sym c.self.view_is) c.requires)

pub index_mut-requires : goal.index_mut-requires
index_mut-requires g c = subst (λ n. c.args.cause < n) (sym c.self.inside.sets.ok.0) (subst (λ v. c.args.cause < causes_of v) (sym c.self.view_is) c.requires)

pub remove-requires : goal.remove-requires
remove-requires g c =
    let sets = c.self.inside.sets.items in
    let within : c.args.cause < length sets = subst (λ v. c.args.cause < causes_of v) (sym c.self.view_is) c.requires in
    let now = get_or_read sets c.args.cause c.index_mut.result.now within c.index_mut.ensures.value [] in
    let read = get_or_read sets c.args.cause c.index.result.now within c.index.ensures [] in
    ap (λ l. has l c.in_ok-position.position) (now ∙ sym read) ∙ c.in_ok-position.ensures.0

pub take-requires-clause-classed : goal.take-requires-clause-classed
take-requires-clause-classed g c = subst (λ l. AreClassed g.K.KeyOf.key_of l c.self.inside.places.items) (sym c.deref_mut.ensures.value) c.self.invariant.classed
