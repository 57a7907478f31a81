use Rattle.std.proofs.Common.{◌≡◌, inl, true, false, [], length, get_or, refl, sym, ◌∙◌, ap, arith}
use Rattle.std.proofs.lemmas.List.{get_or-set_other, get_or-set_same, length-set, map-set}
use Rattle.r6_stripe.specs.Holds.{Cell, Reading}
use Rattle.r6_stripe.specs.Places.{no_place, standing_of, writing_of}
use Rattle.r6_stripe.specs.Seconds.{anew}
use Rattle.r6_stripe.specs.Sound.{IsInCourse}
use Rattle.r6_stripe.specs.Views.{kind_of, plan_of}
use Rattle.r6_stripe.specs.declared.place.PositionState.{PositionState}
use Rattle.r6_stripe.specs.declared.place.ReadState.{ReadState}
use Rattle.r6_stripe.specs.declared.place.ReadState.TheVariants as read
use Rattle.r6_stripe.specs.declared.place.WriteState.TheVariants as write
use Rattle.r6_stripe.proofs.Handed.{anew_course, none_asked}
use Rattle.r6_stripe.proofs.Places.{any_default, changed}
use Rattle.r6_stripe.proofs.States.{there}
use Rattle.r6_stripe.proofs.Events.{put_cell}
use Rattle.r6_stripe.proofs.Leaves.{leaves, unlent_asked}
use Rattle.std.proofs.Common.{subst}
use Rattle.std.specs.Prelude.{not}
use Rattle.r6_stripe.specs.Plans.{is_out}
use Rattle.r6_stripe.specs.declared.place.Standing.{Standing}
use Rattle.r6_stripe.proofs.state.HoldState.ask_anew.Goals as goal

pub returns-clause-held : goal.returns-clause-held
returns-clause-held c =
    let s = c.args.self.now in
    let i = c.args.position in
    let old : PositionState = get_or s.places i no_place in
    let is = any_default s.places i no_place old c.requires.place in
    let new : PositionState = record { state = old.state; read = read.Asked; write = old.write; away = true } in
    let unwritten : old.write ≡ write.Unwritten = none_asked s c.requires.sound i c.requires.place c.requires.in_sync c.requires.asked i c.requires.place in
    let cells = changed s.places s.blocks.items i old new [] (λ (cell : Cell). record cell { reading = Reading.Asked }) c.requires.place c.requires.sound.wide is
    (put_cell old read.Asked true (get_or s.blocks.items i []) [] (ap (λ w. writing_of w (get_or s.blocks.items i [])) unwritten)) in
    rw (c.put_read.ensures, c.replace.ensures.after, c.empty.ensures)
    (λ k. record { planned = record { plan = plan_of s.plan; hold = record { size = s.len; kind = kind_of s.task; cells = cells k; cut_short = s.cut_short; met_error = s.met_error } }; away = map-set (λ (place : PositionState). place.away) s.places i new k; class = s.class; second_away = false })

pub returns-clause-places : goal.returns-clause-places
returns-clause-places c =
    let s = c.args.self.now in
    let i = c.args.position in
    let old : PositionState = get_or s.places i no_place in
    let new : PositionState = record { state = old.state; read = read.Asked; write = old.write; away = true } in
    rw c.put_read.ensures (get_or-set_same s.places i new no_place c.requires.place ∙ (λ k. record new { read = sym c.requires.asked k }))

pub returns-clause-size : goal.returns-clause-size
returns-clause-size c =
    let s = c.args.self.now in
    let i = c.args.position in
    let same : c.replace.result ≡ get_or s.blocks.items i [] = c.replace.ensures.value ∙ c.index_mut.ensures.value ∙ any_default s.blocks.items i c.index_mut.result.now [] (omega (arith, c.requires.sound.wide, c.requires.place)) in
    ap length same ∙ c.requires.sound.at_home i c.requires.place (inl c.requires.home)

pub returns-clause-sound : goal.returns-clause-sound
returns-clause-sound c =
    let s = c.args.self.now in
    let i = c.args.position in
    let old : PositionState = get_or s.places i no_place in
    let is = any_default s.places i no_place old c.requires.place in
    let new : PositionState = record { state = old.state; read = read.Asked; write = old.write; away = true } in
    let course : IsInCourse s.plan s.task (length s.places) c.requires.sound.computed i new =
    subst (λ (r : ReadState). IsInCourse s.plan s.task (length s.places) c.requires.sound.computed i (record { state = old.state; read = r; write = old.write; away = true })) (ap anew c.requires.asked)
    (anew_course old old.write true c.requires.in_sync (λ e. e) (λ e. e) s.plan s.task (length s.places) c.requires.sound.computed i
    (there (IsInCourse s.plan s.task (length s.places) c.requires.sound.computed) s.places i old c.requires.place is c.requires.sound.course)) in
    let unlent = unlent_asked s c.requires.sound i c.requires.place (ap (λ (t : Standing). not (is_out (standing_of t))) c.requires.in_sync) c.requires.asked in
    rw c.put_read.ensures
    (leaves s i read.Asked c.requires.sound c.requires.place unlent _ s.sum s.weighted (length-set s.blocks.items i c.replace.new.dest)
    (λ j other. get_or-set_other s.blocks.items i j c.replace.new.dest [] other) (c.requires.sound.sum unlent) c.requires.sound.weighted (none_asked s c.requires.sound i c.requires.place c.requires.in_sync c.requires.asked) refl course)
