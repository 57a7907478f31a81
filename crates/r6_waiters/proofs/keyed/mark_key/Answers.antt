use Rattle.std.proofs.Common.{◌+◌, ◌<◌, ◌∙◌, ℕ, Option, is_some, true, get_or, refl, sym, ap, subst, arith}
use Rattle.std.specs.Prelude.{◌==◌, ◌&&◌, if◌then◌else◌}
use Rattle.r6_waiters.specs.Keys.{class_of, class_in}
use Rattle.r6_waiters.specs.Sets.{is_marked}
use Rattle.r6_waiters.proofs.Marks.{marked-into, wide-set}
use Rattle.r6_waiters.proofs.Rooms.{room-in}
use Rattle.r6_waiters.proofs.keyed.mark_key.Goals as goal

pub bounds-keyed-class : goal.bounds-keyed-class
bounds-keyed-class g c = subst (λ n. c.set_for-class.result < n) (sym c.requires.many) c.set_for-class.ensures.within

pub insert-requires : goal.insert-requires
insert-requires g c =
    let keyed = c.args.keyed.now in
    let class = c.set_for-class.result in
    let within = subst (λ n. class < n) (sym c.requires.many) c.set_for-class.ensures.within in
    room-in keyed keyed (get_or keyed class c.index-keyed-class.result) class (c.args.position + 1) c.args.position c.requires.wide (refl, λ other. refl) within (ap (λ l. get_or keyed class l) c.index-keyed-class.is) (omega arith)

pub returns-in-Some-clause-sets : goal.returns-in-Some-clause-sets
returns-in-Some-clause-sets g c =
    let keyed = c.args.keyed.now in
    let class = c.set_for-class.result in
    let within = subst (λ n. class < n) (sym c.requires.many) c.set_for-class.ensures.within in
    wide-set keyed c.insert.new.self (get_or keyed class c.index-keyed-class.result) class within (ap (λ l. get_or keyed class l) c.index-keyed-class.is) c.insert.ensures.room

pub offset_bounds-keyed-class : goal.offset_bounds-keyed-class
offset_bounds-keyed-class g c = omega (arith, c.set_for-class.ensures.within)

pub returns-in-Some-clause-marks : goal.returns-in-Some-clause-marks
returns-in-Some-clause-marks g c class i =
    let keyed = c.args.keyed.now in
    let into = c.set_for-class.result in
    let position = c.args.position in
    let within = subst (λ n. into < n) (sym c.requires.many) c.set_for-class.ensures.within in
    let key_of = g.K.KeyOf.key_of in
    let read = ap (λ l. get_or keyed into l) c.index-keyed-class.is in
    let class_is = c.set_for-class.ensures.class ∙ ap (λ k. class_of k) c.key.ensures in
    marked-into keyed c.insert.new.self (get_or keyed into c.index-keyed-class.result) into position within read
    c.insert.ensures.has class i
    ∙ ap (λ (k : ℕ). if (i == position) && (k == class) then true else is_marked keyed class i) class_is
    ∙ ap (λ (o : Option _). if (i == position) && (is_some o && (class_in key_of o == class)) then true
    else is_marked keyed class i) (sym c.in-Some.is)
