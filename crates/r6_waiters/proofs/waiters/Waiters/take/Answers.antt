use Rattle.std.proofs.Common.{◌≡◌, ◌<◌, ◌∙◌, true, [], length, set, sym, ap, subst, refl, arith}
use Rattle.std.specs.Prelude.{slice_index_or}
use Rattle.std.proofs.lemmas.List.{get_or_read}
use Rattle.r6_waiters.specs.Keys.{AreClassed, is_keyed, HasNoneKeyed, IsFirstKeyed}
use Rattle.r6_waiters.specs.Line.{entries_of, with_entries, oldest_keyed, without_oldest_keyed}
use Rattle.r6_waiters.specs.Positions.{has}
use Rattle.r6_waiters.specs.Sets.{place_at, is_marked, cause_at, waiting}
use Rattle.r6_waiters.proofs.ByKey.{classed-within, keyed-marked, keyed-there, keyed-none, without_keyed-none, keyed-found, waiting-keyed_out, length-out}
use Rattle.r6_waiters.proofs.Marks.{there-mark}
use Rattle.r6_waiters.proofs.Stepped.{Stepped, stepped-out}
use Rattle.r6_waiters.proofs.Swept.{lent_whole}
use Rattle.r6_waiters.proofs.waiters.Waiters.take.Goals as goal

pub find-requires-clause-within : goal.find-requires-clause-within
find-requires-clause-within g c i there =
    let keyed = c.self.inside.keyed.items in
    let class = c.set_for.result in
    let inside : class < length keyed = subst (λ n. class < n) (sym c.self.invariant.classed.many) c.set_for.ensures.within in
    let read = get_or_read keyed class c.index-set.result.now inside c.index-set.ensures [] in
    subst (λ ps. i < length ps) (sym c.deref.ensures.value)
    (classed-within g.K.KeyOf.key_of keyed c.self.inside.places.items class i c.self.invariant.classed (ap (λ l. has l i) (sym read) ∙ there))

pub find-requires-clause-all : goal.find-requires-clause-all
find-requires-clause-all g c i there =
    let keyed = c.self.inside.keyed.items in
    let class = c.set_for.result in
    let inside : class < length keyed = subst (λ n. class < n) (sym c.self.invariant.classed.many) c.set_for.ensures.within in
    let read = get_or_read keyed class c.index-set.result.now inside c.index-set.ensures [] in
    let here = subst (λ ps. is_keyed g.K.KeyOf.key_of c.args.key ps i ≡ true) c.deref.ensures.value there in
    let mark = keyed-marked g.K.KeyOf.key_of keyed c.self.inside.places.items c.args.key i c.self.invariant.classed here in
    ap (λ l. has l i) read ∙ ap (λ n. is_marked keyed n i) c.set_for.ensures.class ∙ mark

none_keyed : (g : _) (c : goal.After-from_residual g) → HasNoneKeyed g.K.KeyOf.key_of c.args.key c.self.inside.places.items
none_keyed g c = subst (λ ps. HasNoneKeyed g.K.KeyOf.key_of c.args.key ps) c.deref.ensures.value c.in_err-found.ensures

pub returns-in_err-found-clause-value : goal.returns-in_err-found-clause-value
returns-in_err-found-clause-value g c =
    c.from_residual.ensures
    ∙ sym (keyed-none g.K.KeyOf.key_of c.args.key (cause_at c.self.inside.sets.items) c.self.inside.places.items (none_keyed g c))
    ∙ ap (λ v. oldest_keyed g.K.KeyOf.key_of c.args.key (entries_of v)) c.self.view_is

pub returns-in_err-found-clause-rest : goal.returns-in_err-found-clause-rest
returns-in_err-found-clause-rest g c =
    let same = ap (λ v. entries_of v) c.self.view_is in
    let none = without_keyed-none g.K.KeyOf.key_of c.args.key (cause_at c.self.inside.sets.items) c.self.inside.places.items (none_keyed g c) in
    sym (ap (λ es. with_entries c.args.self.now es) (ap (λ es. without_oldest_keyed g.K.KeyOf.key_of c.args.key es) (sym same) ∙ none ∙ same))

pub returns-in_err-cause-clause-value : goal.returns-in_err-cause-clause-value
returns-in_err-cause-clause-value g c =
    let first = subst (λ ps. IsFirstKeyed g.K.KeyOf.key_of c.args.key ps c.in_ok-found.found) c.deref.ensures.value c.in_ok-found.ensures in
    let there = keyed-there g.K.KeyOf.key_of c.args.key c.self.inside.places.items c.in_ok-found.found first.0 in
    let sets = c.self.inside.sets.items in
    let position = c.in_ok-found.found in
    let mark = there-mark sets c.self.inside.places.items (cause_at sets) c.self.invariant.marked (cause_at sets position) position there refl in
    let none = ap (λ l. is_marked l (cause_at sets position) position) (sym c.deref-2.ensures.value) ∙ c.in_err-cause.ensures (cause_at sets position) in
    absurd (cc (mark, none))

pub returns-in_err-cause-clause-rest : goal.returns-in_err-cause-clause-rest
returns-in_err-cause-clause-rest g c =
    let first = subst (λ ps. IsFirstKeyed g.K.KeyOf.key_of c.args.key ps c.in_ok-found.found) c.deref.ensures.value c.in_ok-found.ensures in
    let there = keyed-there g.K.KeyOf.key_of c.args.key c.self.inside.places.items c.in_ok-found.found first.0 in
    let sets = c.self.inside.sets.items in
    let position = c.in_ok-found.found in
    let mark = there-mark sets c.self.inside.places.items (cause_at sets) c.self.invariant.marked (cause_at sets position) position there refl in
    let none = ap (λ l. is_marked l (cause_at sets position) position) (sym c.deref-2.ensures.value) ∙ c.in_err-cause.ensures (cause_at sets position) in
    absurd (cc (mark, none))

pub overflow_sub-self : goal.overflow_sub-self
overflow_sub-self g c =
    let first = subst (λ ps. IsFirstKeyed g.K.KeyOf.key_of c.args.key ps c.in_ok-found.found) c.deref.ensures.value c.in_ok-found.ensures in
    let there = keyed-there g.K.KeyOf.key_of c.args.key c.self.inside.places.items c.in_ok-found.found first.0 in
    let fewer = length-out (cause_at c.self.inside.sets.items) c.self.inside.places.items c.in_ok-found.found 0 there in
    omega (arith, fewer, c.self.invariant.counted)

first_at : (g : _) (c : goal.After-self-3-1 g) → IsFirstKeyed g.K.KeyOf.key_of c.args.key c.self.inside.places.items c.in_ok-found.found
first_at g c = subst (λ ps. IsFirstKeyed g.K.KeyOf.key_of c.args.key ps c.in_ok-found.found) c.deref.ensures.value c.in_ok-found.ensures

stepped : (g : _) (c : goal.After-self-3-1 g)
    → Stepped c.self.inside.sets.items (set c.self.inside.sets.items c.in_ok-cause.cause c.remove.new.self) c.take.new.places.items (without_oldest_keyed g.K.KeyOf.key_of c.args.key (waiting (cause_at c.self.inside.sets.items) c.self.inside.places.items))
stepped g c =
    let sets = c.self.inside.sets.items in
    let places = c.self.inside.places.items in
    let words = c.remove.new.self in
    let cause = c.in_ok-cause.cause in
    let position = c.in_ok-found.found in
    let k = (place_at places position).0 in
    let left = without_oldest_keyed g.K.KeyOf.key_of c.args.key (waiting (cause_at sets) places) in
    let mark = subst (λ l. is_marked l cause position ≡ true) c.deref-2.ensures.value c.in_ok-cause.ensures.1 in
    let after = stepped-out sets places cause position k words c.index_mut.result.now left c.self.invariant.marked mark c.index_mut.ensures.value c.remove.ensures.has c.remove.ensures.room
    (waiting-keyed_out g.K.KeyOf.key_of c.args.key (cause_at sets) places position k (first_at g c)) in
    subst (λ ps. Stepped sets (set sets cause words) ps left) (sym c.take.ensures.places) after

pub invariant_of-self : goal.invariant_of-self
invariant_of-self g c =
    let sets = c.self.inside.sets.items in
    let places = c.self.inside.places.items in
    let after = stepped g c in
    let k = (place_at places c.in_ok-found.found).0 in
    let lent : length c.take.new.keyed ≡ length c.self.inside.keyed.items = c.take.ensures.sets.0 ∙ ap length c.deref_mut.ensures.value in
    let whole = lent_whole _ c.take.new.keyed c.self.inside.keyed.items lent c.self.inside.keyed.ok.0 in
    record {
      countable = c.self.invariant.countable;
      room = c.take.ensures.capacity ∙ c.self.invariant.room;
      wide = c.self.invariant.wide;
      equal = λ cause below. after.wide.1 cause ∙ c.self.invariant.equal cause (subst (λ n. cause < n) after.wide.0 below);
      as_wide = λ class below. ap (λ l. length (slice_index_or l class [])) whole ∙ c.take.ensures.sets.1 class ∙ ap (λ l. length (slice_index_or l class [])) c.deref_mut.ensures.value ∙ c.self.invariant.as_wide class below;
      spare = c.self.invariant.spare;
      marked = after.marked;
      classed = subst (λ l. AreClassed g.K.KeyOf.key_of l c.take.new.places.items) (sym whole) c.take.ensures.classed;
      counted =
          let fewer = length-out (cause_at sets) places c.in_ok-found.found k (keyed-there g.K.KeyOf.key_of c.args.key places c.in_ok-found.found (first_at g c).0) in
          let taken = ap length (waiting-keyed_out g.K.KeyOf.key_of c.args.key (cause_at sets) places c.in_ok-found.found k (first_at g c)) in
          let now = ap length after.waits in
          omega (arith, fewer, taken, now, c.self.invariant.counted);
    }

pub returns-clause-value : goal.returns-clause-value
returns-clause-value g c =
    c.take.ensures.value
    ∙ sym (keyed-found g.K.KeyOf.key_of c.args.key (cause_at c.self.inside.sets.items) c.self.inside.places.items c.in_ok-found.found (first_at g c))
    ∙ ap (λ v. oldest_keyed g.K.KeyOf.key_of c.args.key (entries_of v)) c.self.view_is

pub returns-clause-rest : goal.returns-clause-rest
returns-clause-rest g c =
    let after = stepped g c in
    ap (λ n. (c.self.inside.capacity, (n, waiting (cause_at (set c.self.inside.sets.items c.in_ok-cause.cause c.remove.new.self)) c.take.new.places.items))) after.wide.0
    ∙ ap (λ es. (c.self.inside.capacity, (length c.self.inside.sets.items, es))) after.waits
    ∙ ap (λ v. with_entries v (without_oldest_keyed g.K.KeyOf.key_of c.args.key (entries_of v))) c.self.view_is

pub index-set-requires : goal.index-set-requires
index-set-requires g c = subst (λ n. c.set_for.result < n) (sym (c.self.inside.keyed.ok.0 ∙ c.self.invariant.classed.many)) c.set_for.ensures.within

pub take-requires-clause-classed : goal.take-requires-clause-classed
take-requires-clause-classed g c = subst (λ l. AreClassed g.K.KeyOf.key_of l c.self.inside.places.items) (sym c.deref_mut.ensures.value) c.self.invariant.classed

pub take-requires-clause-there : goal.take-requires-clause-there
take-requires-clause-there g c =
    let first = subst (λ ps. IsFirstKeyed g.K.KeyOf.key_of c.args.key ps c.in_ok-found.found) c.deref.ensures.value c.in_ok-found.ensures in
    keyed-there g.K.KeyOf.key_of c.args.key c.self.inside.places.items c.in_ok-found.found first.0
