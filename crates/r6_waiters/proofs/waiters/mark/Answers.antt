use Rattle.std.proofs.Common.{◌≡◌, ◌<◌, ◌∙◌, ℕ, length, get_or, ap, arith, refl}
use Rattle.std.specs.Prelude.{◌==◌, ◌&&◌, nat_lt}
use Rattle.r6_waiters.specs.Sets.{place_at}
use Rattle.r6_waiters.proofs.Marks.{wide-set, wide-again, marks-more}
use Rattle.r6_waiters.proofs.Rooms.{room-in, cause-within, none-below}
use Rattle.r6_waiters.proofs.waiters.mark.Goals as goal

pub loop-position-preserved : goal.loop-position-preserved
loop-position-preserved g c =
    let sets = c.loop-position.sets in
    let places = c.args.places.now in
    let position = c.loop-position.position in
    let place = c.index-places-position.result in
    let at = c.index-places-position.is in
    let inside : position < length places = c.loop-position-test.true in
    let within = cause-within places sets place position (length c.args.sets.now) c.requires.causes inside at c.loop-position.invariant.sets.0 in
    let old = get_or sets place.0 c.index-sets-place.result in
    let is = ap (λ l. get_or sets place.0 l) c.index-sets-place.is in
    let words = c.insert.new.self in
    record {
      sets = wide-again c.args.sets.now sets _ c.loop-position.invariant.sets (wide-set sets words old place.0 within is c.insert.ensures.room);
      marks = marks-more sets words old places place position inside at within is c.insert.ensures.has c.loop-position.invariant.marks;
    }

pub returns-clause-marks : goal.returns-clause-marks
returns-clause-marks g c cause i =
    let all : c.loop-position.position ≡ length c.args.places.now = omega (arith, c.loop-position-test.false, c.loop-position.auto.position-end) in
    c.loop-position.invariant.marks cause i ∙ ap (λ (n : ℕ). nat_lt i n && ((place_at c.args.places.now i).0 == cause)) all

pub loop-position-init : goal.loop-position-init
loop-position-init g c =
    record { sets = (refl, λ cause. refl); marks = λ cause i. c.requires.none cause i ∙ none-below ((place_at c.args.places.now i).0 == cause) i }

pub bounds-sets-place : goal.bounds-sets-place
bounds-sets-place g c =
    cause-within c.args.places.now c.loop-position.sets c.index-places-position.result c.loop-position.position (length c.args.sets.now) c.requires.causes c.loop-position-test.true c.index-places-position.is c.loop-position.invariant.sets.0

pub insert-requires : goal.insert-requires
insert-requires g c =
    let sets = c.loop-position.sets in
    let places = c.args.places.now in
    let place = c.index-places-position.result in
    let within = cause-within places sets place c.loop-position.position (length c.args.sets.now) c.requires.causes c.loop-position-test.true c.index-places-position.is c.loop-position.invariant.sets.0 in
    room-in c.args.sets.now sets (get_or sets place.0 c.index-sets-place.result) place.0 (length places) c.loop-position.position c.requires.wide c.loop-position.invariant.sets within (ap (λ l. get_or sets place.0 l) c.index-sets-place.is) c.loop-position-test.true

pub returns-clause-sets : goal.returns-clause-sets
returns-clause-sets g c = c.loop-position.invariant.sets

pub offset_bounds-sets-place : goal.offset_bounds-sets-place
offset_bounds-sets-place g c =
    let within = cause-within c.args.places.now c.loop-position.sets c.index-places-position.result c.loop-position.position (length c.args.sets.now) c.requires.causes c.loop-position-test.true c.index-places-position.is c.loop-position.invariant.sets.0 in
    omega (arith, within)
