use Rattle.std.proofs.Common.{◌≡◌, ◌<◌, ◌∙◌, ℕ, None, length, ap, subst, refl, arith}
use Rattle.std.proofs.lemmas.List.{get_or_read}
use Rattle.r6_waiters.proofs.ByKey.{AreMarkedBelow, marked_below-more, classed-made}
use Rattle.r6_waiters.proofs.Marks.{wide-again}
use Rattle.r6_waiters.proofs.Rooms.{none-below}
use Rattle.r6_waiters.specs.Sets.{is_there}
use Rattle.r6_waiters.specs.Keys.{class_at}
use Rattle.std.specs.Prelude.{◌==◌, ◌&&◌}
use Rattle.r6_waiters.proofs.keyed.mark_keys.Goals as goal

pub loop-position-preserved : goal.loop-position-preserved
loop-position-preserved g c =
    let keyed = c.loop-position.keyed in
    let places = c.args.places.now in
    let position = c.loop-position.position in
    let place = c.index-places-position.result in
    let inside : position < length places = c.loop-position-test.true in
    let value = ap (λ p. p.1) (get_or_read places position place inside c.index-places-position.is (0, None)) in
    record {
      sets = wide-again c.clear_all.new.sets keyed c.mark_key.new.keyed c.loop-position.invariant.sets c.mark_key.ensures.sets;
      marks = marked_below-more g.K.KeyOf.key_of keyed c.mark_key.new.keyed places position place.1 value c.loop-position.invariant.marks c.mark_key.ensures.marks;
    }

pub returns-clause-classed : goal.returns-clause-classed
returns-clause-classed g c =
    let all : c.loop-position.position ≡ length c.args.places.now = omega (arith, c.loop-position-test.false, c.loop-position.auto.position-end) in
    classed-made g.K.KeyOf.key_of c.loop-position.keyed c.args.places.now (c.loop-position.invariant.sets.0 ∙ c.clear_all.ensures.sets.0 ∙ c.requires.many)
    (subst (λ (n : ℕ). AreMarkedBelow g.K.KeyOf.key_of c.loop-position.keyed c.args.places.now n) all c.loop-position.invariant.marks)

pub loop-position-init : goal.loop-position-init
loop-position-init g c =
    record {
      sets = (refl, λ class. refl);
      marks = λ class i. c.clear_all.ensures.none class i ∙ none-below (is_there c.args.places.now i && (class_at g.K.KeyOf.key_of c.args.places.now i == class)) i;
    }

pub mark_key-requires-clause-many : goal.mark_key-requires-clause-many
mark_key-requires-clause-many g c = c.loop-position.invariant.sets.0 ∙ c.clear_all.ensures.sets.0 ∙ c.requires.many

pub mark_key-requires-clause-wide : goal.mark_key-requires-clause-wide
mark_key-requires-clause-wide g c class within =
    let wide = wide-again c.args.keyed.now c.clear_all.new.sets c.loop-position.keyed c.clear_all.ensures.sets c.loop-position.invariant.sets in
    let enough = c.requires.wide class (subst (λ n. class < n) wide.0 within) in
    omega (arith, enough, wide.1 class, c.loop-position-test.true)

pub returns-clause-sets : goal.returns-clause-sets
returns-clause-sets g c = wide-again c.args.keyed.now c.clear_all.new.sets c.loop-position.keyed c.clear_all.ensures.sets c.loop-position.invariant.sets
