use Rattle.std.proofs.Common.{◌≡◌, ◌≤◌, false, List, length, get_or, map, refl, sym, ◌∙◌, ap, subst, arith, None}
use Rattle.r6_stripe.specs.Holds.{resting}
use Rattle.r6_stripe.specs.Masks.{flags_of}
use Rattle.r6_stripe.specs.Places.{cells_of, away_of, is_lent, fresh_place, no_place}
use Rattle.r6_stripe.specs.Plans as plans
use Rattle.r6_stripe.specs.Sound.{Each, IsPlaceSound, RestsOnceNew}
use Rattle.r6_stripe.specs.Steps.{alone_if}
use Rattle.r6_stripe.specs.Views.{begun_places}
use Rattle.r6_stripe.specs.declared.place.PositionState.{PositionState}
use Rattle.r6_stripe.specs.declared.command.RowTask.TheVariants as task
use Rattle.r6_stripe.specs.declared.plan.Plan.TheVariants as plan
use Rattle.r6_stripe.proofs.Begins.{fresh_cells, fresh_away, begun_settled, begun_unlent, begun_unwritten, length-begun}
use Rattle.r6_stripe.proofs.BegunMasks.{length-flags_of}
use Rattle.r6_stripe.proofs.Rests.{rests_unwritten}
use Rattle.r6_stripe.proofs.Sources.{no_course, no_target}
use Rattle.r6_stripe.proofs.state.HoldState.begin_source.Goals as goal

pub begun-self-requires : goal.begun-self-requires
begun-self-requires c =
    let s = c.args.self.now in
    record {
      few = subst (λ n. n ≤ 32) (sym c.len.ensures) c.requires.home.at_most;
      task = (s.len, tt);
    }

pub returns-clause-sound : goal.returns-clause-sound
returns-clause-sound c =
    let s = c.args.self.now in
    let in_sync = flags_of (length s.places) c.args.in_sync in
    let new = c.begun-self.result in
    let e : new ≡ map fresh_place in_sync = c.begun-self.ensures ∙ ap (λ n. begun_places task.Check (flags_of n c.args.in_sync)) c.len.ensures in
    let count : length new ≡ length s.places = ap length e ∙ length-begun task.Check in_sync ∙ length-flags_of (length s.places) c.args.in_sync in
    record {
      four_or_more = omega (arith, c.requires.home.four_or_more, count);
      at_most = omega (arith, c.requires.home.at_most, count);
      wide = c.requires.home.wide ∙ sym count;
      sum = λ none. c.requires.home.sum;
      weighted = c.requires.home.weighted;
      fits = tt;
      at_home = λ j below home. c.requires.home.long j (omega (arith, below, count));
      settled = subst (λ (xs : List PositionState). Each (λ position place. IsPlaceSound place) xs) (sym e) (begun_settled task.Check in_sync);
      cut = tt;
      targets = λ j below. no_target None j (get_or new j no_place) refl;
      lends = λ j below lent. tt;
      lends_last = λ j below lent. absurd (let e = sym (subst (λ (xs : List PositionState). Each (λ position place. is_lent place ≡ false) xs) (sym e) (begun_unlent task.Check in_sync) j below) ∙ lent in cc);
      rests = subst RestsOnceNew (sym e) (rests_unwritten (begun_places task.Check in_sync) (begun_unwritten task.Check in_sync));
      computed = false;
      renewed = λ repairs computed. absurd cc;
      course = λ j below. no_course plan.One None (length new) false j (get_or new j no_place) refl;
    }

pub returns-clause-held : goal.returns-clause-held
returns-clause-held c =
    let s = c.args.self.now in
    let in_sync = flags_of (length s.places) c.args.in_sync in
    let e : c.begun-self.result ≡ map fresh_place in_sync = c.begun-self.ensures ∙ ap (λ n. begun_places task.Check (flags_of n c.args.in_sync)) c.len.ensures in
    let cells = ap (λ (xs : List PositionState). cells_of xs s.blocks.items) e ∙ fresh_cells in_sync s.blocks.items in
    let away = ap away_of e ∙ fresh_away in_sync in
    (λ k. record { planned = record { hold = record (resting s.len (map alone_if in_sync)) { cells = cells k }; plan = plans.Plan.One }; away = away k; class = None; second_away = false })
