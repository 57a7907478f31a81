use Rattle.std.proofs.Common.{◌≡◌, ◌≢◌, ◌<◌, ℕ, Option, List, length, true, false, Some, None, refl, sym, ap, ◌∙◌, arith}
use Rattle.std.specs.Prelude.{is_some}
use Rattle.r6_stripe.specs.Holds.{Cell, Doubling, cell_at}
use Rattle.r6_stripe.specs.PassedOn.{PassesOn}
use Rattle.r6_stripe.specs.Seconds.{is_passed}
use Rattle.r6_frames.specs.declared.frames.FrameUse.TheVariants.{Held}
use Rattle.r6_frames.specs.declared.frames.HeldRow.{HeldRow}
use Rattle.r6_frames.specs.FramesState.{FramesState}
use Rattle.r6_frames.specs.Views.{hold_at, row_in}
use Rattle.r6_frames.specs.Reads.{PassesNone, PassesOne}
use Rattle.r6_frames.specs.Inside.{view_of}
use Rattle.r6_frames.specs.Sound.{IsSound}
use Rattle.r6_frames.proofs.HeldRows.{use_found}
use Rattle.r6_frames.proofs.frames.Frames.has_passed_on.Goals as goal

passed_is : (d : Doubling) → is_passed d ≡ true → d ≡ Doubling.Passed
passed_is Doubling.Single is = absurd (cc)
passed_is Doubling.Doubled is = absurd (cc)
passed_is Doubling.Passed is = refl

-- what the hold says of its positions
one_passed : (cells : List Cell) (o : Option ℕ) → PassesOn cells o → is_some o ≡ true → (position : ℕ) × ((cell_at cells position).doubling ≡ Doubling.Passed)
one_passed cells None is some = absurd (cc)
one_passed cells (Some position) is some = (position, passed_is (cell_at cells position).doubling is)

none_passed : (cells : List Cell) (o : Option ℕ) → PassesOn cells o → is_some o ≡ false → (position : ℕ) → (cell_at cells position).doubling ≢ Doubling.Passed
none_passed cells None is none position passed = let both : true ≡ false = sym (ap is_passed passed) ∙ is position in cc
none_passed cells (Some other) is none position passed = cc

passes_one : (fs : FramesState) (frame : ℕ) (h : HeldRow) → hold_at fs.uses frame ≡ Some h → (position : ℕ) × ((cell_at h.hold.planned.hold.cells position).doubling ≡ Doubling.Passed) → PassesOne fs frame
passes_one fs frame h is one = (h, is, one.0, one.1)

passes_none : (fs : FramesState) (frame : ℕ) (h : HeldRow) → hold_at fs.uses frame ≡ Some h → ((position : ℕ) → (cell_at h.hold.planned.hold.cells position).doubling ≢ Doubling.Passed) → PassesNone fs frame
passes_none fs frame h is none other is_other position passed =
    let both : Some other ≡ Some h = sym is_other ∙ is in
    let same : other ≡ h = cc in
    none position (ap (λ (x : HeldRow). (cell_at x.hold.planned.hold.cells position).doubling) (sym same) ∙ passed)

pub returns-in-Held-clause-one : goal.returns-in-Held-clause-one
returns-in-Held-clause-one c some =
    let fs : FramesState = view_of c.self.inside in
    let sound : IsSound fs = c.self.invariant.0 in
    let below : c.args.frame < length fs.uses = omega (arith, c.requires, sound.frames.count) in
    let h = c.in-Held.held in
    let is : hold_at fs.uses c.args.frame ≡ Some h = ap row_in (use_found fs.uses c.args.frame c.index.result.now (Held h) below c.index.ensures c.in-Held.is) in
    rw (← c.self.view_is) (passes_one fs c.args.frame h is (one_passed h.hold.planned.hold.cells c.passed_on.result c.passed_on.ensures (sym c.is_some.ensures ∙ some)))

pub returns-in-Held-clause-none : goal.returns-in-Held-clause-none
returns-in-Held-clause-none c none =
    let fs : FramesState = view_of c.self.inside in
    let sound : IsSound fs = c.self.invariant.0 in
    let below : c.args.frame < length fs.uses = omega (arith, c.requires, sound.frames.count) in
    let h = c.in-Held.held in
    let is : hold_at fs.uses c.args.frame ≡ Some h = ap row_in (use_found fs.uses c.args.frame c.index.result.now (Held h) below c.index.ensures c.in-Held.is) in
    rw (← c.self.view_is) (passes_none fs c.args.frame h is (none_passed h.hold.planned.hold.cells c.passed_on.result c.passed_on.ensures (sym c.is_some.ensures ∙ none)))
