use Rattle.std.proofs.Common.{◌≡◌, inl, ℕ, false, [], List, get_or, set, refl, sym, ◌∙◌, ap}
use Rattle.std.proofs.lemmas.List.{get_or-set_same, map-set}
use Rattle.r6_stripe.specs.Holds.{Standing, no_cell}
use Rattle.r6_stripe.specs.Places.{cells_of, no_place, reading_of, standing_of, writing_of}
use Rattle.r6_stripe.specs.Seconds.{anew}
use Rattle.r6_stripe.specs.Sound.{IsPlaceSound}
use Rattle.r6_stripe.specs.Views.{kind_of, plan_of}
use Rattle.r6_stripe.specs.declared.place.PositionState.{PositionState}
use Rattle.r6_stripe.proofs.Handed.{handed_sound}
use Rattle.r6_stripe.proofs.Places.{any_default, cells_of-set_place}
use Rattle.r6_stripe.proofs.States.{home_not_lent, home_set_place, there}
use Rattle.r6_stripe.proofs.state.HoldState.stay_over.Goals as goal

pub returns-clause-held : goal.returns-clause-held
returns-clause-held c =
    let s = c.args.self.now in
    let i = c.args.position in
    let old : PositionState = get_or s.places i no_place in
    let new : PositionState = record { state = old.state; read = anew old.read; write = old.write; away = false } in
    let reads : c.anew.result ≡ anew old.read = c.anew.ensures ∙ ap (λ (p : PositionState). anew p.read) c.get-place.ensures.value in
    let block : List ℕ = get_or s.blocks.items i [] in
    let cells = cells_of-set_place s.places s.blocks.items i new
    ∙ ap (λ (t : Standing). set (cells_of s.places s.blocks.items) i (record no_cell { standing = t; reading = reading_of (anew old.read) block; writing = writing_of old.write block })) (ap standing_of c.requires.in_sync) in
    rw (c.put_read.ensures, reads)
    (λ k. record { planned = record { plan = plan_of s.plan; hold = record { size = s.len; kind = kind_of s.task; cells = cells k; cut_short = s.cut_short; met_error = s.met_error } }; away = map-set (λ (place : PositionState). place.away) s.places i new k; class = s.class; second_away = false })

pub returns-clause-places : goal.returns-clause-places
returns-clause-places c =
    let s = c.args.self.now in
    let i = c.args.position in
    let old : PositionState = get_or s.places i no_place in
    let new : PositionState = record { state = old.state; read = anew old.read; write = old.write; away = false } in
    let reads : c.anew.result ≡ anew old.read = c.anew.ensures ∙ ap (λ (p : PositionState). anew p.read) c.get-place.ensures.value in
    rw (c.put_read.ensures, reads) (get_or-set_same s.places i new no_place c.requires.place ∙ (λ k. record new { away = sym c.requires.home k }))

pub returns-clause-sound : goal.returns-clause-sound
returns-clause-sound c =
    let s = c.args.self.now in
    let i = c.args.position in
    let old : PositionState = get_or s.places i no_place in
    let is = any_default s.places i no_place old c.requires.place in
    let new : PositionState = record { state = old.state; read = anew old.read; write = old.write; away = false } in
    let settled : IsPlaceSound old = there (λ k place. IsPlaceSound place) s.places i old c.requires.place is c.requires.sound.settled in
    let reads : c.anew.result ≡ anew old.read = c.anew.ensures ∙ ap (λ (p : PositionState). anew p.read) c.get-place.ensures.value in
    rw (c.put_read.ensures, reads)
    (handed_sound s i old.write false c.requires.sound c.requires.place c.requires.in_sync (λ e. e) (λ e. e) (λ e. absurd cc) settled.one_block s.blocks refl
    (home_set_place s.len s.places s.blocks.items i old new is (λ h. inl c.requires.home) c.requires.sound.at_home) (home_not_lent new refl))
