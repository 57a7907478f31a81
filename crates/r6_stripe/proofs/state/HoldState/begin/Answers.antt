use Rattle.std.proofs.Common.{◌≡◌, ◌≤◌, ℕ, true, false, List, length, map, sym, ◌∙◌, ap, subst, arith, Some, None}
use Rattle.r6_stripe.specs.Holds.{Hold, Cell, cell_at}
use Rattle.r6_stripe.specs.Places.{cells_of, away_of, is_lent}
use Rattle.r6_stripe.specs.Sound.{Each, IsInCourse, IsTask, IsPlaceSound, IsTargetOf, MayLend, RestsOnceNew}
use Rattle.r6_stripe.specs.declared.place.PositionState.{PositionState}
use Rattle.r6_stripe.specs.declared.command.RowTask.{RowTask}
use Rattle.r6_stripe.specs.declared.mask.Mask.{Mask}
use Rattle.r6_stripe.specs.declared.plan.Plan.TheVariants as plan
use Rattle.r6_stripe.specs.Holds.{Standing, resting, begun}
use Rattle.r6_stripe.specs.Masks.{flags_of}
use Rattle.r6_stripe.specs.Plans.{first_plan, is_in_sync, parities_in_sync}
use Rattle.r6_stripe.specs.Steps.{alone_if, but_target}
use Rattle.r6_stripe.specs.Views.{begun_places, kind_of_task, plan_of}
use Rattle.r6_stripe.proofs.BegunMasks.{length-flags_of}
use Rattle.r6_stripe.proofs.Checks.{begun_whole, begun_unclassed}
use Rattle.r6_stripe.proofs.Rests.{rests_unwritten}
use Rattle.r6_stripe.proofs.Begins.{begun_cells, begun_target, begun_away, begun_settled, begun_course, begun_lends, begun_unlent, begun_unwritten, begun_targets, length-begun, LacksParities, lacks_parities, LacksIts, lacks_its}
use Rattle.r6_stripe.proofs.state.HoldState.begin.Goals as goal

-- the row is as wide as it was
wide : (task : RowTask) (mask : Mask) (new : List PositionState) (n count : ℕ) → new ≡ begun_places task (flags_of n mask) → n ≡ count → length new ≡ count
wide task mask new n count is same = ap length is ∙ length-begun task (flags_of n mask) ∙ length-flags_of n mask ∙ same

pub begun-self-requires : goal.begun-self-requires
begun-self-requires c =
    let s = c.args.self.now in
    record {
      few = subst (λ n. n ≤ 32) (sym c.len.ensures) c.requires.home.at_most;
      task = (s.len, subst (λ (n : ℕ). IsTask n s.len (Some c.args.task)) (sym c.len.ensures) c.requires.task);
    }

pub first_plan-self-requires-clause-target : goal.first_plan-self-requires-clause-target
first_plan-self-requires-clause-target c = λ target is.
    subst (λ (ps : List PositionState). is_in_sync (cell_at (cells_of ps c.args.self.now.blocks.items) target).standing ≡ false) (sym c.begun-self.ensures)
    (begun_target c.args.task (flags_of _ c.args.in_sync) c.args.self.now.blocks.items target is)

pub first_plan-self-requires-clause-count : goal.first_plan-self-requires-clause-count
first_plan-self-requires-clause-count c =
    let same = wide c.args.task c.args.in_sync c.begun-self.result _ _ c.begun-self.ensures c.len.ensures in
    omega (arith, c.requires.home.four_or_more, same)

pub first_plan-self-requires-clause-fits : goal.first_plan-self-requires-clause-fits
first_plan-self-requires-clause-fits c =
    subst (λ (n : ℕ). IsTask n c.args.self.now.len (Some c.args.task)) (sym (wide c.args.task c.args.in_sync c.begun-self.result _ _ c.begun-self.ensures c.len.ensures)) c.requires.task

pub returns-clause-sound : goal.returns-clause-sound
returns-clause-sound c =
    let s = c.args.self.now in
    let in_sync = flags_of (length s.places) c.args.in_sync in
    let positions : length in_sync ≡ length s.places = length-flags_of (length s.places) c.args.in_sync in
    let task = c.args.task in
    let new = c.begun-self.result in
    let q = c.first_plan-self.result in
    let e : new ≡ begun_places task in_sync = c.begun-self.ensures ∙ ap (λ n. begun_places task (flags_of n c.args.in_sync)) c.len.ensures in
    let count : length new ≡ length s.places = ap length e ∙ length-begun task in_sync ∙ positions in
    let wide : length (begun_places task in_sync) ≡ length in_sync = length-begun task in_sync in
    let lacks : LacksParities q (length (begun_places task in_sync)) in_sync =
    subst (λ (n : ℕ). LacksParities q n in_sync) (sym wide)
    (lacks_parities q s.len task in_sync s.blocks.items c.first_plan-self.ensures.suits (omega (arith, c.requires.home.four_or_more, count, ap length e, wide))
    (subst (λ (xs : List PositionState). q ≡ plan.Overwrite → parities_in_sync (record { size = s.len; kind = kind_of_task task; cells = cells_of xs s.blocks.items; cut_short = false; met_error = false }) ≡ 0) e c.first_plan-self.ensures.overwrites)) in
    let its : LacksIts q (Some task) in_sync =
    lacks_its q s.len task in_sync s.blocks.items
    (subst (λ (xs : List PositionState). plan_of q ≡ first_plan (record { size = s.len; kind = kind_of_task task; cells = cells_of xs s.blocks.items; cut_short = false; met_error = false }) (kind_of_task task)) e c.first_plan-self.ensures.plan)
    (subst (λ (n : ℕ). IsTask n s.len (Some task)) (sym positions) c.requires.task) in
    record {
      four_or_more = omega (arith, c.requires.home.four_or_more, count);
      at_most = omega (arith, c.requires.home.at_most, count);
      wide = c.requires.home.wide ∙ sym count;
      sum = λ none. c.requires.home.sum;
      weighted = c.requires.home.weighted;
      fits = subst (λ (n : ℕ). IsTask n s.len (Some task)) (sym count) c.requires.task;
      at_home = λ j below home. c.requires.home.long j (omega (arith, below, count));
      settled = subst (λ (xs : List PositionState). Each (λ position place. IsPlaceSound place) xs) (sym e) (begun_settled task in_sync);
      lends = subst (λ (xs : List PositionState). Each (λ position place. is_lent place ≡ true → MayLend (Some task) position) xs) (sym e) (begun_lends (Some task) task in_sync);
      lends_last = λ j below lent. absurd (let e = sym (subst (λ (xs : List PositionState). Each (λ position place. is_lent place ≡ false) xs) (sym e) (begun_unlent task in_sync) j below) ∙ lent in cc);
      targets = subst (λ (xs : List PositionState). Each (IsTargetOf (Some task)) xs) (sym e) (begun_targets task in_sync);
      cut = begun_whole task;
      rests = subst RestsOnceNew (sym e) (rests_unwritten (begun_places task in_sync) (begun_unwritten task in_sync));
      computed = false;
      renewed = λ repairs computed. absurd cc;
      course = subst (λ (xs : List PositionState). Each (IsInCourse q (Some task) (length xs) false) xs) (sym e) (begun_course q task (length (begun_places task in_sync)) in_sync c.first_plan-self.ensures.suits lacks its);
    }

pub returns-clause-classed : goal.returns-clause-classed
returns-clause-classed c =
    let s = c.args.self.now in
    let in_sync = flags_of (length s.places) c.args.in_sync in
    let positions : length in_sync ≡ length s.places = length-flags_of (length s.places) c.args.in_sync in
    let task = c.args.task in
    let e : c.begun-self.result ≡ begun_places task in_sync = c.begun-self.ensures ∙ ap (λ n. begun_places task (flags_of n c.args.in_sync)) c.len.ensures in
    begun_unclassed s.len task in_sync c.begun-self.result s.blocks.items e (omega (arith, c.requires.home.four_or_more, ap length e, positions, length-begun task in_sync))

pub returns-clause-held : goal.returns-clause-held
returns-clause-held c =
    let s = c.args.self.now in
    let in_sync = flags_of (length s.places) c.args.in_sync in
    let blocks = s.blocks.items in
    let kind = kind_of_task c.args.task in
    let e : c.begun-self.result ≡ begun_places c.args.task in_sync = c.begun-self.ensures ∙ ap (λ n. begun_places c.args.task (flags_of n c.args.in_sync)) c.len.ensures in
    let standings : List (Standing × Standing) = map alone_if (but_target kind in_sync) in
    let hold : ◌≡◌ {A = Hold} (record { size = s.len; kind = kind; cells = cells_of c.begun-self.result blocks; cut_short = false; met_error = false }) (begun (resting s.len standings) kind) =
    ap (λ (xs : List PositionState). record { size = s.len; kind = kind; cells = cells_of xs blocks; cut_short = false; met_error = false }) e
    ∙ ap (λ (cells : List Cell). record { size = s.len; kind = kind; cells = cells; cut_short = false; met_error = false }) (begun_cells c.args.task in_sync blocks) in
    let first = c.first_plan-self.ensures.plan ∙ ap (λ (h : Hold). first_plan h kind) hold in
    let away = ap away_of e ∙ begun_away c.args.task in_sync in
    (λ k. record { planned = record { hold = hold k; plan = first k }; away = away k; class = None; second_away = false })
