use Rattle.std.proofs.Common.{◌+◌, ◌*◌, ◌∙◌, ℕ, refl, sym, ap, subst, length, arith}
use Rattle.r6_waiters.specs.Sets.{cause_at, waiting, IsMarked}
use Rattle.r6_waiters.proofs.Dropped.{waiting-dropped, marked-dropped, classed-dropped}
use Rattle.r6_waiters.proofs.Marks.{marked-settled, waiting-settled}
use Rattle.std.proofs.lemmas.List.{length-drop}
use Rattle.r6_waiters.specs.Keys.{AreClassed}
use Rattle.r6_waiters.proofs.Rooms.{room-less}
use Rattle.r6_waiters.proofs.front.drop_front.Goals as goal

-- each position that is left tells the cause that it told before
moved : (g : _) (c : goal.After-keyed-1 g) → IsMarked c.move_all_down.new.sets c.drop_first.new.places.items (λ i. cause_at c.args.sets.now (64 * c.args.words + i))
moved g c =
    let sets = c.args.sets.now in
    let down = c.move_all_down.new.sets in
    subst (λ ps. IsMarked down ps (λ i. cause_at sets (64 * c.args.words + i))) (sym c.drop_first.ensures.rest)
    (marked-dropped sets down (64 * c.args.words) c.args.places.now.items (cause_at sets) c.requires.marked c.move_all_down.ensures.sets.0 c.move_all_down.ensures.marks)

pub returns-clause-marked : goal.returns-clause-marked
returns-clause-marked g c = marked-settled c.move_all_down.new.sets c.drop_first.new.places.items (λ i. cause_at c.args.sets.now (64 * c.args.words + i)) (moved g c)

pub returns-clause-same : goal.returns-clause-same
returns-clause-same g c =
    let sets = c.args.sets.now in
    let now : ℕ → ℕ = λ i. cause_at sets (64 * c.args.words + i) in
    waiting-settled c.move_all_down.new.sets c.drop_first.new.places.items now (moved g c)
    ∙ ap (λ ps. waiting now ps) c.drop_first.ensures.rest
    ∙ waiting-dropped (cause_at sets) now (64 * c.args.words) c.args.places.now.items c.requires.empty (λ i. refl)

pub move_all_down-requires : goal.move_all_down-requires
move_all_down-requires g c = room-less c.args.sets.now (length c.args.places.now.items) (64 * c.args.words) c.requires.wide c.requires.within

pub move_all_down-requires-2 : goal.move_all_down-requires-2
move_all_down-requires-2 g c = room-less c.args.keyed.now (length c.args.places.now.items) (64 * c.args.words) c.requires.as_wide c.requires.within

pub returns-clause-classed : goal.returns-clause-classed
returns-clause-classed g c =
    let key_of = g.K.KeyOf.key_of in
    let down = c.move_all_down-2.new.sets in
    subst (λ ps. AreClassed key_of down ps) (sym c.drop_first.ensures.rest)
    (classed-dropped key_of c.args.keyed.now down (64 * c.args.words) c.args.places.now.items c.requires.classed c.move_all_down-2.ensures.sets.0 c.move_all_down-2.ensures.marks)

pub returns-clause-fewer : goal.returns-clause-fewer
returns-clause-fewer g c = omega (arith, ap length c.drop_first.ensures.rest, length-drop (64 * c.args.words) c.args.places.now.items, c.requires.within)

pub returns-clause-sets : goal.returns-clause-sets
returns-clause-sets g c = c.move_all_down.ensures.sets

pub returns-clause-keyed : goal.returns-clause-keyed
returns-clause-keyed g c = c.move_all_down-2.ensures.sets
