use Rattle.std.proofs.Common.{◌≡◌, ℕ, false, [], length, get_or, set, refl, sym, ◌∙◌, ap, subst, arith}
use Rattle.std.proofs.lemmas.List.{length-set, map-set}
use Rattle.r6_stripe.specs.Places.{is_lent, no_place, target_place}
use Rattle.r6_stripe.specs.Sound.{Each, IsPlaceSound, IsTask}
use Rattle.r6_stripe.specs.Views.{kind_of, plan_of}
use Rattle.r6_stripe.specs.declared.place.PositionState.{PositionState}
use Rattle.r6_stripe.proofs.Places.{any_default, cells_of-set}
use Rattle.r6_stripe.proofs.Rests.{rests_set}
use Rattle.r6_stripe.proofs.Sources.{no_course, no_target, unlent_places}
use Rattle.r6_stripe.proofs.States.{Each-set, home_set}
use Rattle.r6_stripe.proofs.state.HoldState.turn.Goals as goal

pub returns-clause-held : goal.returns-clause-held
returns-clause-held c =
    let s = c.args.self.now in
    let i = c.args.position in
    let cells = cells_of-set s.places s.blocks.items i target_place c.swap.new.x (omega (arith, c.requires.sound.wide, c.requires.place)) in
    rw c.set.ensures
    (λ k. record { planned = record { plan = plan_of s.plan; hold = record { size = s.len; kind = kind_of s.task; cells = cells k; cut_short = s.cut_short; met_error = s.met_error } }; away = map-set (λ (place : PositionState). place.away) s.places i target_place k; class = s.class; second_away = false })

pub returns-clause-other : goal.returns-clause-other
returns-clause-other c =
    let s = c.args.self.now in
    let i = c.args.position in
    c.swap.ensures.y_after ∙ c.index_mut.ensures.value ∙ any_default s.blocks.items i _ [] (omega (arith, c.requires.place, c.requires.sound.wide))

pub returns-clause-sound : goal.returns-clause-sound
returns-clause-sound c =
    let s = c.args.self.now in
    let i = c.args.position in
    let sound = c.requires.sound in
    let old : PositionState = get_or s.places i no_place in
    let here = any_default s.places i no_place old c.requires.place in
    let count = length-set s.places i target_place in
    let before : Each (λ position place. is_lent place ≡ false) s.places = unlent_places s c.requires.unlent in
    let unlent : Each (λ position place. is_lent place ≡ false) (set s.places i target_place) = Each-set (λ position place. is_lent place ≡ false) s.places i target_place before refl in
    rw c.set.ensures
    (record {
      four_or_more = omega (arith, sound.four_or_more, count);
      at_most = omega (arith, sound.at_most, count);
      wide = length-set s.blocks.items i c.swap.new.x ∙ sound.wide ∙ sym count;
      sum = λ none. sound.sum before;
      weighted = sound.weighted;
      fits = subst (λ (n : ℕ). IsTask n s.len s.task) (sym count) sound.fits;
      at_home = home_set s.len s.places s.blocks.items i target_place c.swap.new.x sound.wide sound.at_home (λ has. ap length c.swap.ensures.x_after ∙ c.requires.size);
      settled = Each-set (λ k place. IsPlaceSound place) s.places i target_place sound.settled (record { away = λ e. absurd cc; one_block = λ e f. cc; replaced = λ e. absurd cc });
      cut = sound.cut;
      targets = λ k below. no_target s.task k (get_or (set s.places i target_place) k no_place) c.requires.untasked;
      lends = λ k below lent. absurd (let e = sym (unlent k below) ∙ lent in cc);
      lends_last = λ k below lent. absurd (let e = sym (unlent k below) ∙ lent in cc);
      rests = rests_set s.places i old target_place c.requires.place here (λ h e. h refl) (λ over live. (λ e. cc, refl)) sound.rests;
      computed = sound.computed;
      renewed = λ repairs computed. absurd (let e = sym c.requires.untasked ∙ repairs in cc);
      course = λ k below. no_course s.plan s.task (length (set s.places i target_place)) sound.computed k (get_or (set s.places i target_place) k no_place) c.requires.untasked;
    })
