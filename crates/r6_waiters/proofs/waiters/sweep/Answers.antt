use Rattle.std.proofs.Common.{◌≡◌, ◌<◌, ◌∙◌, ℕ, length, sym, ap, subst, arith}
use Rattle.std.specs.Prelude.{◌==◌, ◌&&◌, nat_lt}
use Rattle.std.specs.List.{filter}
use Rattle.r6_waiters.specs.Sets.{place_at, is_marked, cause_at, waiting, IsMarked}
use Rattle.r6_waiters.proofs.Lines.{has_value}
use Rattle.r6_waiters.proofs.Marks.{marked-settled, mark-there, there-within, wide-again}
use Rattle.r6_waiters.proofs.Swept.{AreNamed, few-named, causes-swept, marked-swept, waiting-swept, length-kept, room-swept, lent_whole}
use Rattle.r6_waiters.proofs.waiters.sweep.Goals as goal

pub mark-requires-clause-causes : goal.mark-requires-clause-causes
mark-requires-clause-causes g c =
    let sets = c.args.sets.now in
    let places = c.args.places.now.items in
    let named = c.name_causes.new.places in
    let lent = c.deref_mut.ensures.value in
    let long : length named ≡ length places = c.name_causes.auto.places ∙ ap length lent in
    let are : AreNamed sets places named = record { as_long = long; values = λ i. c.name_causes.ensures.values i ∙ ap (λ ps. (place_at ps i).1) lent; causes = c.name_causes.ensures.named } in
    let kept = c.deref.ensures.value ∙ c.drop_empty.ensures.kept ∙ ap (λ ps. filter has_value ps) (lent_whole _ named places long c.args.places.now.ok.0) in
    subst (λ ps. (i : ℕ) → i < length ps → (place_at ps i).0 < length c.name_causes.new.sets) (sym kept)
    (λ i inside. subst (λ n. (place_at (filter has_value named) i).0 < n) (sym c.name_causes.ensures.sets.0) (causes-swept sets places named c.requires.marked are i inside))

pub mark-requires-clause-wide : goal.mark-requires-clause-wide
mark-requires-clause-wide g c =
    let sets = c.args.sets.now in
    let places = c.args.places.now.items in
    let named = c.name_causes.new.places in
    let lent = c.deref_mut.ensures.value in
    let long : length named ≡ length places = c.name_causes.auto.places ∙ ap length lent in
    let kept = c.deref.ensures.value ∙ c.drop_empty.ensures.kept ∙ ap (λ ps. filter has_value ps) (lent_whole _ named places long c.args.places.now.ok.0) in
    let few = length-kept named in
    room-swept sets c.name_causes.new.sets (length places) (length c.deref.result.now) c.requires.wide (omega (arith, ap length kept, few, long)) c.name_causes.ensures.sets

-- the places as they were named, and the entries that were kept
are : (g : _) (c : goal.After-sets-2-1 g) → AreNamed c.args.sets.now c.args.places.now.items c.name_causes.new.places
are g c =
    let lent = c.deref_mut.ensures.value in
    record {
      as_long = c.name_causes.auto.places ∙ ap length lent;
      values = λ i. c.name_causes.ensures.values i ∙ ap (λ ps. (place_at ps i).1) lent;
      causes = c.name_causes.ensures.named;
    }

kept : (g : _) (c : goal.After-sets-2-1 g) → c.drop_empty.new.places.items ≡ filter has_value c.name_causes.new.places
kept g c = c.drop_empty.ensures.kept ∙ ap (λ ps. filter has_value ps) (lent_whole _ c.name_causes.new.places c.args.places.now.items (are g c).as_long c.args.places.now.ok.0)

marked : (g : _) (c : goal.After-sets-2-1 g) → IsMarked c.mark.new.sets (filter has_value c.name_causes.new.places) (λ i. (place_at (filter has_value c.name_causes.new.places) i).0)
marked g c =
    let after = c.mark.new.sets in
    let long = c.mark.ensures.sets.0 ∙ c.name_causes.ensures.sets.0 in
    let marks = subst (λ ps. (cause i : ℕ) → is_marked after cause i ≡ (nat_lt i (length ps) && ((place_at ps i).0 == cause))) (c.deref.ensures.value ∙ kept g c) c.mark.ensures.marks in
    marked-swept c.args.sets.now after c.args.places.now.items c.name_causes.new.places c.requires.marked (are g c) long marks

pub returns-clause-marked : goal.returns-clause-marked
returns-clause-marked g c =
    let named = c.name_causes.new.places in
    let after = c.mark.new.sets in
    subst (λ ps. IsMarked after ps (cause_at after)) (sym (kept g c))
    (marked-settled after (filter has_value named) (λ i. (place_at (filter has_value named) i).0) (marked g c))

pub returns-clause-same : goal.returns-clause-same
returns-clause-same g c =
    ap (λ ps. waiting (cause_at c.mark.new.sets) ps) (kept g c)
    ∙ waiting-swept c.args.sets.now c.mark.new.sets c.args.places.now.items c.name_causes.new.places c.requires.marked (are g c) (marked g c)

pub returns-clause-few : goal.returns-clause-few
returns-clause-few g c =
    ap length (kept g c) ∙ few-named c.args.sets.now c.args.places.now.items c.name_causes.new.places c.requires.marked (are g c)

pub name_causes-requires-clause-within : goal.name_causes-requires-clause-within
name_causes-requires-clause-within g c cause i mark =
    let sets = c.args.sets.now in
    let places = c.args.places.now.items in
    subst (λ ps. i < length ps) (sym c.deref_mut.ensures.value) (there-within places i (mark-there sets places (cause_at sets) c.requires.marked cause i mark).0)

pub name_causes-requires-clause-once : goal.name_causes-requires-clause-once
name_causes-requires-clause-once g c a b i first second =
    let sets = c.args.sets.now in
    let there = mark-there sets c.args.places.now.items (cause_at sets) c.requires.marked in
    sym (there a i first).1 ∙ (there b i second).1

pub mark-requires-clause-none : goal.mark-requires-clause-none
mark-requires-clause-none g c = c.name_causes.ensures.none

pub returns-clause-sets : goal.returns-clause-sets
returns-clause-sets g c = wide-again c.args.sets.now c.name_causes.new.sets c.mark.new.sets c.name_causes.ensures.sets c.mark.ensures.sets
