use Rattle.std.proofs.Common.{◌≡◌, inl, inr, ℕ, false, [], List, length, get_or, set, sym, ◌∙◌, ap, arith}
use Rattle.std.proofs.lemmas.List.{get_or-set_same, length-set, map-set}
use Rattle.r6_stripe.specs.Holds.{Reading, Standing, no_cell}
use Rattle.r6_stripe.specs.Places.{cells_of, no_place, reading_of, standing_of, writing_of}
use Rattle.r6_stripe.specs.Seconds.{anew}
use Rattle.r6_stripe.specs.Views.{kind_of, plan_of}
use Rattle.r6_stripe.specs.declared.place.PositionState.{PositionState}
use Rattle.r6_stripe.proofs.Handed.{handed_sound, unknown_anew}
use Rattle.r6_stripe.proofs.Places.{any_default, cells_of-set}
use Rattle.r6_stripe.proofs.States.{home_set, not_lent}
use Rattle.r6_stripe.proofs.state.HoldState.swap_over.Goals as goal
use Rattle.r6_stripe.proofs.Events.{same_reading}

pub returns-clause-held : goal.returns-clause-held
returns-clause-held c =
    let s = c.args.self.now in
    let i = c.args.position in
    let old : PositionState = get_or s.places i no_place in
    let new : PositionState = record { state = old.state; read = anew old.read; write = c.args.owed; away = c.args.away } in
    let reads : c.anew.result ≡ anew old.read = c.anew.ensures ∙ ap (λ (p : PositionState). anew p.read) c.get-place.ensures.value in
    let cells = cells_of-set s.places s.blocks.items i new c.swap.new.x (omega (arith, c.requires.sound.wide, c.requires.place))
    ∙ ap (λ (b : List ℕ). set (cells_of s.places s.blocks.items) i (record no_cell { standing = standing_of old.state; reading = reading_of (anew old.read) b; writing = writing_of c.args.owed b })) c.swap.ensures.x_after
    ∙ ap (λ (t : Standing). set (cells_of s.places s.blocks.items) i (record no_cell { standing = t; reading = reading_of (anew old.read) c.args.spare.now; writing = writing_of c.args.owed c.args.spare.now })) (ap standing_of c.requires.in_sync)
    ∙ ap (λ (r : Reading). set (cells_of s.places s.blocks.items) i (record no_cell { standing = Standing.InSync; reading = r; writing = writing_of c.args.owed c.args.spare.now })) (same_reading (anew old.read) c.args.spare.now [] (unknown_anew old.read c.requires.unknown)) in
    rw (c.set.ensures, reads, c.get-place.ensures.value)
    (λ k. record { planned = record { plan = plan_of s.plan; hold = record { size = s.len; kind = kind_of s.task; cells = cells k; cut_short = s.cut_short; met_error = s.met_error } }; away = map-set (λ (place : PositionState). place.away) s.places i new k; class = s.class; second_away = false })

pub returns-clause-places : goal.returns-clause-places
returns-clause-places c =
    let s = c.args.self.now in
    let i = c.args.position in
    let old : PositionState = get_or s.places i no_place in
    let new : PositionState = record { state = old.state; read = anew old.read; write = c.args.owed; away = c.args.away } in
    let reads : c.anew.result ≡ anew old.read = c.anew.ensures ∙ ap (λ (p : PositionState). anew p.read) c.get-place.ensures.value in
    rw (c.set.ensures, reads, c.get-place.ensures.value) (get_or-set_same s.places i new no_place c.requires.place)

pub returns-clause-spare : goal.returns-clause-spare
returns-clause-spare c =
    let s = c.args.self.now in
    let i = c.args.position in
    c.swap.ensures.y_after ∙ c.index_mut.ensures.value ∙ any_default s.blocks.items i _ [] (omega (arith, c.requires.place, c.requires.sound.wide))

pub returns-clause-sound : goal.returns-clause-sound
returns-clause-sound c =
    let s = c.args.self.now in
    let i = c.args.position in
    let old : PositionState = get_or s.places i no_place in
    let new : PositionState = record { state = old.state; read = anew old.read; write = c.args.owed; away = c.args.away } in
    let reads : c.anew.result ≡ anew old.read = c.anew.ensures ∙ ap (λ (p : PositionState). anew p.read) c.get-place.ensures.value in
    let unlent = not_lent new (unknown_anew old.read c.requires.unknown) in
    rw (c.set.ensures, reads, c.get-place.ensures.value)
    (handed_sound s i c.args.owed c.args.away c.requires.sound c.requires.place c.requires.in_sync c.requires.unwritten c.requires.written c.requires.left (λ e. c.requires.unknown) _
    (length-set s.blocks.items i c.swap.new.x)
    (home_set s.len s.places s.blocks.items i new c.swap.new.x c.requires.sound.wide c.requires.sound.at_home
    (λ has. elim has [ inl home ↦ ap length c.swap.ensures.x_after ∙ c.requires.size home | inr lent ↦ absurd (let e = sym unlent ∙ lent in cc) ])) unlent)
