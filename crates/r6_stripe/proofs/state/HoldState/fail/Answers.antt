use Rattle.std.proofs.Common.{◌≡◌, ◌<◌, ℕ, true, false, [], length, get_or, set, refl, sym, ◌∙◌, ap, subst, arith}
use Rattle.std.proofs.lemmas.Bool.{and_parts}
use Rattle.std.proofs.lemmas.List.{length-set, map-set}
use Rattle.std.specs.Prelude.{not}
use Rattle.r6_stripe.specs.Holds.{Cell, Reading, cell_at}
use Rattle.r6_stripe.specs.Places.{is_lent, no_place, standing_of}
use Rattle.r6_stripe.specs.Plans as plans
use Rattle.r6_stripe.specs.Sound.{Each, IsInCourse, IsPlaceSound, IsTargetOf, IsTask}
use Rattle.r6_stripe.specs.Views.{hold_of, kind_of}
use Rattle.r6_stripe.specs.declared.place.PositionState.{PositionState}
use Rattle.r6_stripe.specs.declared.place.ReadState.TheVariants as read
use Rattle.r6_stripe.specs.declared.plan.Plan.{Plan}
use Rattle.r6_stripe.proofs.Places.{any_default, changed, here}
use Rattle.r6_stripe.proofs.States.{Each-set, Each-set_other, asked_only, home_set, there}
use Rattle.r6_stripe.proofs.Checks.{renewed_set}
use Rattle.r6_stripe.proofs.Events.{TurnsTo, fail_cell, fail_course, fail_settled, stays_course, turns_after_error}
use Rattle.r6_stripe.proofs.Rests.{rests_set}
use Rattle.r6_stripe.proofs.Leaves.{unlent_asked}
use Rattle.r6_stripe.proofs.state.HoldState.fail.Goals as goal

pub returns-clause-held : goal.returns-clause-held
returns-clause-held c =
    let s = c.args.self.now in
    let i = c.args.position in
    let old = get_or s.places i no_place in
    let is = any_default s.places i no_place old c.requires.place in
    let new : PositionState = record { state = old.state; read = read.Unreadable; write = old.write; away = false } in
    let at = here s.places s.blocks.items i old c.requires.place is in
    let settled : IsPlaceSound old = there (λ k place. IsPlaceSound place) s.places i old c.requires.place is c.requires.sound.settled in
    let parts = and_parts (not (plans.is_out (cell_at (hold_of s).cells i).standing)) (plans.is_asked (cell_at (hold_of s).cells i).reading) c.requires.asked in
    let asked = asked_only old.read (get_or s.blocks.items i []) (ap (λ (cell : Cell). plans.is_asked cell.reading) (sym at) ∙ parts.1) in
    let cells = changed s.places s.blocks.items i old new c.args.buffer (λ (cell : Cell). record cell { reading = Reading.Unreadable }) c.requires.place c.requires.sound.wide is (fail_cell old (get_or s.blocks.items i []) c.args.buffer settled c.requires.away asked) in
    rw c.put_read.ensures
    (λ k. record { planned = record { plan = c.plan_after_error-self.ensures k; hold = record { size = s.len; kind = kind_of s.task; cells = cells k; cut_short = s.cut_short; met_error = true } }; away = map-set (λ (place : PositionState). place.away) s.places i new k; class = s.class; second_away = false })

pub returns-clause-sound : goal.returns-clause-sound
returns-clause-sound c =
    let s = c.args.self.now in
    let i = c.args.position in
    let old = get_or s.places i no_place in
    let is = any_default s.places i no_place old c.requires.place in
    let new : PositionState = record { state = old.state; read = read.Unreadable; write = old.write; away = false } in
    let at = here s.places s.blocks.items i old c.requires.place is in
    let parts = and_parts (not (plans.is_out (cell_at (hold_of s).cells i).standing)) (plans.is_asked (cell_at (hold_of s).cells i).reading) c.requires.asked in
    let asked = asked_only old.read (get_or s.blocks.items i []) (ap (λ (cell : Cell). plans.is_asked cell.reading) (sym at) ∙ parts.1) in
    let live = ap (λ (cell : Cell). not (plans.is_out cell.standing)) (sym at) ∙ parts.0 in
    let unlent = unlent_asked s c.requires.sound i c.requires.place live asked in
    let later_unlent : Each (λ position place. is_lent place ≡ false) (set s.places i new) = Each-set (λ position place. is_lent place ≡ false) s.places i new unlent refl in
    let count = length-set s.places i new in
    let q : Plan = c.plan_after_error-self.result in
    let P : ℕ → PositionState → Type 0 = IsInCourse s.plan s.task (length s.places) c.requires.sound.computed in
    let Q : ℕ → PositionState → Type 0 = IsInCourse q s.task (length s.places) c.requires.sound.computed in
    let before : P i old = there P s.places i old c.requires.place is c.requires.sound.course in
    let turns : TurnsTo s.plan q s.task i = turns_after_error s.plan q s.task (length s.places) c.requires.sound.computed i old asked c.plan_after_error-self.ensures before in
    let each : (j : ℕ) → j < length s.places → (j ≡ i → ⊥) → Q j (get_or s.places j no_place) = λ j below other.
    stays_course s.plan q s.task (length s.places) c.requires.sound.computed i j (get_or s.places j no_place) other turns (c.requires.sound.course j below) in
    let course : Q i new = fail_course s.plan q s.task (length s.places) c.requires.sound.computed i old asked c.plan_after_error-self.ensures turns before in
    rw c.put_read.ensures (record {
      four_or_more = omega (arith, c.requires.sound.four_or_more, count);
      at_most = omega (arith, c.requires.sound.at_most, count);
      wide = length-set s.blocks.items i c.args.buffer ∙ c.requires.sound.wide ∙ sym count;
      sum = λ none. c.requires.sound.sum unlent;
      weighted = c.requires.sound.weighted;
      fits = subst (λ (n : ℕ). IsTask n s.len s.task) (sym count) c.requires.sound.fits;
      at_home = home_set s.len s.places s.blocks.items i new c.args.buffer c.requires.sound.wide c.requires.sound.at_home (λ e. c.requires.size);
      settled = Each-set (λ k place. IsPlaceSound place) s.places i new c.requires.sound.settled (fail_settled old);
      lends = λ k below lent. absurd (let e = sym (later_unlent k below) ∙ lent in cc);
      lends_last = λ k below lent. absurd (let e = sym (later_unlent k below) ∙ lent in cc);
      cut = c.requires.sound.cut;
      targets = Each-set (IsTargetOf s.task) s.places i new c.requires.sound.targets (there (IsTargetOf s.task) s.places i old c.requires.place is c.requires.sound.targets);
      rests = rests_set s.places i old new c.requires.place is (λ w. w) (λ over. absurd ((over (λ out. let e = sym (ap (λ t. not (plans.is_out (standing_of t))) out) ∙ live in cc)).0 asked)) c.requires.sound.rests;
      computed = c.requires.sound.computed;
      renewed = λ repairs computed. renewed_set s.class s.places i old new is (λ e. e) c.requires.place (c.requires.sound.renewed repairs computed);
      course = subst (λ (n : ℕ). Each (IsInCourse q s.task n c.requires.sound.computed) (set s.places i new)) (sym count) (Each-set_other Q s.places i new each course);
    })
