use Rattle.std.proofs.Common.{◌≡◌, ℕ, true, false, [], length, get_or, set, refl, sym, ◌∙◌, ap, subst, arith}
use Rattle.std.proofs.lemmas.List.{length-set, get_or-set_other, map-set}
use Rattle.r6_recover.specs.Restores.{AreLongButMissing, MayMiss}
use Rattle.r6_recover.specs.Rows.{block_at}
use Rattle.r6_stripe.specs.Holds.{Cell, Reading}
use Rattle.r6_stripe.specs.Places.{cells_of, no_place}
use Rattle.r6_stripe.specs.Recovery.{RestoresAt}
use Rattle.r6_stripe.specs.Sound.{IsInCourse}
use Rattle.r6_stripe.specs.Views.{kind_of, plan_of}
use Rattle.r6_stripe.specs.declared.place.PositionState.{PositionState}
use Rattle.r6_stripe.specs.declared.place.ReadState.TheVariants as read
use Rattle.r6_stripe.proofs.Events.{mend_course, put_cell}
use Rattle.r6_stripe.proofs.Fixes.{among, below, long, may, met, of_first, own_long, set_beside, sum_long, unlent, unwritten, unwritten_cell}
use Rattle.r6_stripe.proofs.Leaves.{leaves}
use Rattle.r6_stripe.proofs.Places.{any_default, changed, here}
use Rattle.r6_stripe.proofs.States.{there}
use Rattle.r6_stripe.proofs.state.HoldState.fix.Goals as goal
use Rattle.r6_stripe.proofs.state.HoldState.fix.Goals.{After-restore_at, After-self-1}

pub restore_at-requires : goal.restore_at-requires
restore_at-requires c =
    let s = c.args.self.now in
    let r = c.requires in
    let i = c.args.position in
    let m = c.missing_of_first-missing.result in
    let missing = c.missing_of_first-missing.ensures in
    let sum = sum_long s i r.sound r.next in
    record {
      within = omega (arith, below s i r.sound r.next, r.sound.wide);
      many = omega (arith, r.sound.four_or_more, r.sound.wide);
      few = omega (arith, r.sound.at_most, r.sound.wide);
      missing = subst (λ (k : ℕ). MayMiss k m) (sym r.sound.wide) (may s i r.sound r.next m missing);
      among = among s i r.sound r.next m missing;
      long = subst (λ (k : ℕ). AreLongButMissing k m s.blocks.items) (sym sum) (long s i r.sound r.next m missing);
      own = own_long s i r.sound r.next ∙ sym sum;
      same = r.sound.weighted ∙ sym sum;
    }

restored : (c : After-restore_at) → RestoresAt c.missing_of_first-missing.result c.args.position c.args.self.now.len c.args.self.now.blocks.items c.restore_at.new.blocks.items
restored c =
    let s = c.args.self.now in
    subst (λ (k : ℕ). RestoresAt c.missing_of_first-missing.result c.args.position k s.blocks.items c.restore_at.new.blocks.items) (sum_long s c.args.position c.requires.sound c.requires.next) c.restore_at.ensures.restored

pub put_read-requires : goal.put_read-requires
put_read-requires c = below c.args.self.now c.args.position c.requires.sound c.requires.next

pub index_mut-requires : goal.index_mut-requires
index_mut-requires c =
    let s = c.args.self.now in
    let at = (goal.at.index_mut-requires c).After-restore_at in
    omega (arith, (restored at).count, c.requires.sound.wide, below s c.args.position c.requires.sound c.requires.next)

pub returns-clause-held : goal.returns-clause-held
returns-clause-held c =
    let s = c.args.self.now in
    let i = c.args.position in
    let r = c.requires in
    let inside = below s i r.sound r.next in
    let old = get_or s.places i no_place in
    let is = any_default s.places i no_place old inside in
    let new : PositionState = record { state = old.state; read = read.Fixing; write = old.write; away = true } in
    let at = here s.places s.blocks.items i old inside is in
    let done = restored (goal.at.returns-clause-held c).After-restore_at in
    let same : set c.restore_at.new.blocks.items i [] ≡ set s.blocks.items i [] = set_beside s.blocks.items c.restore_at.new.blocks.items i [] done.count done.beside in
    let cells = ap (cells_of (set s.places i new)) same
    ∙ changed s.places s.blocks.items i old new [] (λ (cell : Cell). record cell { reading = Reading.Fixing }) inside r.sound.wide is
    (put_cell old read.Fixing true (get_or s.blocks.items i []) [] (unwritten_cell s i r.sound r.next)) in
    rw (c.put_read.ensures, c.replace.ensures.after, c.empty.ensures)
    (λ k. record { planned = record { plan = plan_of s.plan; hold = record { size = s.len; kind = kind_of s.task; cells = cells k; cut_short = s.cut_short; met_error = s.met_error } }; away = map-set (λ (place : PositionState). place.away) s.places i new k; class = s.class; second_away = false })

taken : (c : After-self-1) → c.replace.result ≡ block_at c.restore_at.new.blocks.items c.args.position
taken c =
    let s = c.args.self.now in
    let i = c.args.position in
    let done = restored (goal.at.returns-clause-size c).After-restore_at in
    c.replace.ensures.value ∙ c.index_mut.ensures.value ∙ any_default c.restore_at.new.blocks.items i c.index_mut.result.now [] (omega (arith, done.count, c.requires.sound.wide, below s i c.requires.sound c.requires.next))

pub returns-clause-block : goal.returns-clause-block
returns-clause-block c = λ row first.
    let s = c.args.self.now in
    let i = c.args.position in
    of_first s i c.requires.sound c.requires.next c.missing_of_first-missing.result c.missing_of_first-missing.ensures c.restore_at.new.blocks.items (restored (goal.at.returns-clause-block c).After-restore_at) row first
    ∙ sym (taken c)

pub returns-clause-size : goal.returns-clause-size
returns-clause-size c = ap length (taken c) ∙ (restored (goal.at.returns-clause-size c).After-restore_at).long

pub returns-clause-sound : goal.returns-clause-sound
returns-clause-sound c =
    let s = c.args.self.now in
    let i = c.args.position in
    let r = c.requires in
    let inside = below s i r.sound r.next in
    let old = get_or s.places i no_place in
    let done = restored (goal.at.returns-clause-sound c).After-restore_at in
    let P : ℕ → PositionState → Type 0 = IsInCourse s.plan s.task (length s.places) r.sound.computed in
    let course = mend_course s.plan s.task (length s.places) r.sound.computed i old read.Fixing (met s i r.sound r.next) refl (there P s.places i old inside (any_default s.places i no_place old inside) r.sound.course) in
    let sum = sum_long s i r.sound r.next in
    rw c.put_read.ensures
    (leaves s i read.Fixing r.sound inside (unlent s i r.sound r.next) _ c.restore_at.new.sum c.restore_at.new.weighted
    (length-set c.restore_at.new.blocks.items i c.replace.new.dest ∙ done.count)
    (λ j other. get_or-set_other c.restore_at.new.blocks.items i j c.replace.new.dest [] other ∙ done.beside j other)
    (c.restore_at.ensures.sum_length ∙ sum) (c.restore_at.ensures.weighted_length ∙ sum) (unwritten s i r.sound r.next) refl course)
