use Rattle.std.proofs.Common.{◌≡◌, inl, true, false, [], length, get_or, refl, sym, ◌∙◌, ap, arith}
use Rattle.std.proofs.lemmas.List.{length-set, get_or-set_other, map-set}
use Rattle.r6_stripe.specs.Holds.{Cell, Reading}
use Rattle.r6_stripe.specs.Places.{no_place}
use Rattle.r6_stripe.specs.Sound.{IsPlaceSound}
use Rattle.r6_stripe.specs.Views.{hold_of, plan_of, kind_of}
use Rattle.r6_stripe.specs.declared.place.PositionState.{PositionState}
use Rattle.r6_stripe.specs.declared.place.ReadState.TheVariants as read
use Rattle.r6_stripe.proofs.Places.{changed, here, any_default}
use Rattle.r6_stripe.proofs.States.{there, unread_home}
use Rattle.r6_stripe.proofs.Events.{put_cell}
use Rattle.r6_stripe.proofs.Rests.{none_written}
use Rattle.r6_stripe.proofs.Steps.{unwritten_all}
use Rattle.r6_stripe.proofs.Leaves.{leaves}
use Rattle.r6_stripe.proofs.Sources.{no_course, unlent_places}
use Rattle.r6_stripe.proofs.state.HoldState.ask_source.Goals as goal

pub returns-clause-held : goal.returns-clause-held
returns-clause-held c =
    let s = c.args.self.now in
    let i = c.args.position in
    let old = get_or s.places i no_place in
    let new : PositionState = record { state = old.state; read = read.Asked; write = old.write; away = true } in
    let at = here s.places s.blocks.items i old c.requires.place (any_default s.places i no_place old c.requires.place) in
    let cells = changed s.places s.blocks.items i old new [] (λ (cell : Cell). record cell { reading = Reading.Asked }) c.requires.place c.requires.sound.wide (any_default s.places i no_place old c.requires.place)
    (put_cell old read.Asked true (get_or s.blocks.items i []) [] (ap (λ (cell : Cell). cell.writing) (sym at) ∙ (unwritten_all (hold_of s) c.requires.before_writes i).0)) in
    rw (c.ask.ensures, c.replace.ensures.after, c.empty.ensures)
    (λ k. record { planned = record { plan = plan_of s.plan; hold = record { size = s.len; kind = kind_of s.task; cells = cells k; cut_short = s.cut_short; met_error = s.met_error } }; away = map-set (λ (place : PositionState). place.away) s.places i new k; class = s.class; second_away = false })

pub returns-clause-size : goal.returns-clause-size
returns-clause-size c =
    let s = c.args.self.now in
    let i = c.args.position in
    let old = get_or s.places i no_place in
    let at = here s.places s.blocks.items i old c.requires.place (any_default s.places i no_place old c.requires.place) in
    let settled : IsPlaceSound old = there (λ k place. IsPlaceSound place) s.places i old c.requires.place (any_default s.places i no_place old c.requires.place) c.requires.sound.settled in
    let home = unread_home old (get_or s.blocks.items i []) settled (ap (λ (cell : Cell). cell.reading) (sym at) ∙ c.requires.unread) (ap (λ (cell : Cell). cell.writing) (sym at) ∙ (unwritten_all (hold_of s) c.requires.before_writes i).0) in
    let is : get_or s.places i no_place ≡ old = refl in
    let same : c.replace.result ≡ get_or s.blocks.items i [] = c.replace.ensures.value ∙ c.index_mut.ensures.value ∙ any_default s.blocks.items i c.index_mut.result.now [] (omega (arith, c.requires.sound.wide, c.requires.place)) in
    ap length same ∙ c.requires.sound.at_home i c.requires.place (inl (ap (λ (p : PositionState). p.away) is ∙ home))

pub returns-clause-sound : goal.returns-clause-sound
returns-clause-sound c =
    let s = c.args.self.now in
    let i = c.args.position in
    let old = get_or s.places i no_place in
    let new : PositionState = record { state = old.state; read = read.Asked; write = old.write; away = true } in
    let unlent = unlent_places s c.requires.unlent in
    rw c.ask.ensures
    (leaves s i read.Asked c.requires.sound c.requires.place unlent _ s.sum s.weighted (length-set s.blocks.items i c.replace.new.dest)
    (λ j other. get_or-set_other s.blocks.items i j c.replace.new.dest [] other) (c.requires.sound.sum unlent) c.requires.sound.weighted (none_written s c.requires.before_writes) refl
    (no_course s.plan s.task (length s.places) c.requires.sound.computed i new c.requires.untasked))
