use Rattle.std.proofs.Common.{◌≡◌, ℕ, Option, Some, None, inl, inr, refl, sym, ◌∙◌, ap, subst}
use Rattle.std.proofs.lemmas.Bool.{false≢true}
use Rattle.r6_recover.specs.declared.class.RowClass.{RowClass}
use Rattle.r6_stripe.specs.Checks.{IsEnd}
use Rattle.r6_stripe.specs.Holds.{Hold, Kind, Outcome, Owes}
use Rattle.r6_stripe.specs.Plans.{outcome_of}
use Rattle.r6_stripe.specs.Steps.{Held}
use Rattle.r6_stripe.specs.declared.command.Outcome.{Outcome as End}
use Rattle.r6_stripe.specs.declared.command.Outcome.TheVariants as end
use Rattle.r6_world.specs.Tasks.{end_of}
use Rattle.r6_frames.specs.declared.finish.Ended.{Ended}
use Rattle.r6_frames.specs.declared.frames.HeldRow.{HeldRow}
use Rattle.r6_frames.specs.declared.frames.Job.{Job}
use Rattle.r6_frames.specs.declared.frames.Job.TheVariants as job
use Rattle.r6_frames.specs.declared.frames.Scrub.{Scrub}
use Rattle.r6_frames.specs.declared.frames.Scrub.TheVariants as scrubs
use Rattle.r6_frames.specs.declared.rebuilt.Target.{Target}
use Rattle.r6_frames.specs.Calls.{IsEndedOf, IsTold, SaysClass, TellsEnd, ended_by, ended_outcome, rebuild_ended}
use Rattle.r6_frames.specs.Sound.{IsJob}
use Rattle.r6_frames.specs.Views.{is_request, kind_in, scrub_kind}
use Rattle.r6_frames.proofs.finish.leave.Goals as goal

-- ---- a scrub

scrub_kept : (h : HeldRow) (scrub : Scrub) (e : Option End) → h.job ≡ job.Scrub scrub → IsEndedOf h (ended_by scrub e)
scrub_kept h scrub None is = is
scrub_kept h scrub (Some end.Done) is = is
scrub_kept h scrub (Some end.Rebuilt) is = is
scrub_kept h scrub (Some (end.Classed class)) is = is
scrub_kept h scrub (Some end.GivenUp) is = is

-- the outcome is the one that the scrub ends with
abbrev SaysEnd : Option RowClass → Outcome → Ended → Type 0
SaysEnd class outcome e = (end_of (ended_outcome e) ≡ outcome) × SaysClass class e

scrub_says : (hold : Hold) (scrub : Scrub) (o : Outcome) (class : Option RowClass) (e : End) → Owes hold (scrub_kind scrub) o
    → IsEnd o class e → SaysEnd class o (ended_by scrub (Some e))
scrub_says hold scrubs.Check (Outcome.Data block) class e owes is = absurd owes
scrub_says hold scrubs.Check Outcome.Done class e owes is = absurd owes
scrub_says hold scrubs.Check Outcome.Rebuilt class e owes is = absurd owes
scrub_says hold scrubs.Check Outcome.Classed class e owes is =
    subst (λ (e : End). SaysEnd class Outcome.Classed (ended_by scrubs.Check (Some e))) (sym is.2) (refl, is.1)
scrub_says hold scrubs.Check Outcome.GivenUp class e owes is =
    subst (λ (e : End). SaysEnd class Outcome.GivenUp (ended_by scrubs.Check (Some e))) (sym is) (refl, tt)
scrub_says hold scrubs.Repair (Outcome.Data block) class e owes is = absurd owes
scrub_says hold scrubs.Repair Outcome.Done class e owes is = absurd owes
scrub_says hold scrubs.Repair Outcome.Rebuilt class e owes is = absurd owes
scrub_says hold scrubs.Repair Outcome.Classed class e owes is =
    subst (λ (e : End). SaysEnd class Outcome.Classed (ended_by scrubs.Repair (Some e))) (sym is.2) (refl, is.1)
scrub_says hold scrubs.Repair Outcome.GivenUp class e owes is =
    subst (λ (e : End). SaysEnd class Outcome.GivenUp (ended_by scrubs.Repair (Some e))) (sym is) (refl, tt)

scrub_told : (h : Held) (scrub : Scrub) (e : Option End) → h.planned.hold.kind ≡ scrub_kind scrub → IsTold h e
    → TellsEnd h (ended_by scrub e)
scrub_told h scrub None kind told = λ may over. absurd (false≢true (sym told ∙ over))
scrub_told h scrub (Some e) kind told = λ may over.
    let hold = h.planned.hold in
    let o = outcome_of hold hold.kind in
    scrub_says hold scrub o h.class e (subst (λ (k : Kind). Owes hold k o) kind may.owes_nothing) told

scrubs_kind : (c : goal.After-leave_scrub) → c.args.held.hold.planned.hold.kind ≡ scrub_kind c.in-Scrub.scrub
scrubs_kind c =
    subst (λ (what : Job). IsJob c.requires.0 c.args.held.row what (kind_in c.args.held)) c.in-Scrub.is c.requires.3.job

pub returns-in-Scrub-clause-owner : goal.returns-in-Scrub-clause-owner
returns-in-Scrub-clause-owner c =
    let e = c.leave_scrub.ensures.end in
    subst (IsEndedOf c.args.held) (sym e.1) (scrub_kept c.args.held c.in-Scrub.scrub e.0 c.in-Scrub.is)

pub returns-in-Scrub-clause-told : goal.returns-in-Scrub-clause-told
returns-in-Scrub-clause-told c =
    let e = c.leave_scrub.ensures.end in
    subst (TellsEnd c.args.held.hold) (sym e.1) (scrub_told c.args.held.hold c.in-Scrub.scrub e.0 (scrubs_kind c) e.2)

-- ---- a rebuild

rebuild_kept : (h : HeldRow) (target : Target) (e : Option End) → h.job ≡ job.Rebuild target
    → IsEndedOf h (rebuild_ended target h.row e)
rebuild_kept h target None is = is
rebuild_kept h target (Some end.Done) is = is
rebuild_kept h target (Some end.Rebuilt) is = (is, refl)
rebuild_kept h target (Some (end.Classed class)) is = is
rebuild_kept h target (Some end.GivenUp) is = is

rebuild_says : (hold : Hold) (position row : ℕ) (target : Target) (o : Outcome) (class : Option RowClass) (e : End)
    → Owes hold (Kind.Rebuild position) o → IsEnd o class e → SaysEnd class o (rebuild_ended target row (Some e))
rebuild_says hold position row target (Outcome.Data block) class e owes is = absurd owes
rebuild_says hold position row target Outcome.Done class e owes is = absurd owes
rebuild_says hold position row target Outcome.Rebuilt class e owes is =
    subst (λ (e : End). SaysEnd class Outcome.Rebuilt (rebuild_ended target row (Some e))) (sym is) (refl, tt)
rebuild_says hold position row target Outcome.Classed class e owes is = absurd owes
rebuild_says hold position row target Outcome.GivenUp class e owes is =
    subst (λ (e : End). SaysEnd class Outcome.GivenUp (rebuild_ended target row (Some e))) (sym is) (refl, tt)

rebuild_told : (h : Held) (position row : ℕ) (target : Target) (e : Option End) → h.planned.hold.kind ≡ Kind.Rebuild position
    → IsTold h e → TellsEnd h (rebuild_ended target row e)
rebuild_told h position row target None kind told = λ may over. absurd (false≢true (sym told ∙ over))
rebuild_told h position row target (Some e) kind told = λ may over.
    let hold = h.planned.hold in
    let o = outcome_of hold hold.kind in
    rebuild_says hold position row target o h.class e (subst (λ (k : Kind). Owes hold k o) kind may.owes_nothing) told

pub returns-in-Rebuild-clause-owner : goal.returns-in-Rebuild-clause-owner
returns-in-Rebuild-clause-owner c =
    let e = c.leave_rebuild.ensures.end in
    subst (IsEndedOf c.args.held) (sym e.1) (rebuild_kept c.args.held c.in-Rebuild.target e.0 c.in-Rebuild.is)

pub returns-in-Rebuild-clause-told : goal.returns-in-Rebuild-clause-told
returns-in-Rebuild-clause-told c =
    let held = c.args.held in
    let e = c.leave_rebuild.ensures.end in
    let rebuilds = subst (λ (what : Job). IsJob c.requires.0 held.row what (kind_in held)) c.in-Rebuild.is c.requires.3.job in
    subst (TellsEnd held.hold) (sym e.1) (rebuild_told held.hold _ held.row c.in-Rebuild.target e.0 rebuilds.1 e.2)

pub leave_scrub-requires : goal.leave_scrub-requires
leave_scrub-requires c =
    subst (λ (what : Job). IsJob c.requires.0 c.args.held.row what (kind_in c.args.held)) c.in-Scrub.is c.requires.3.job

pub leave_rebuild-requires : goal.leave_rebuild-requires
leave_rebuild-requires c =
    let held = c.args.held in
    (_, (subst (λ (what : Job). IsJob c.requires.0 held.row what (kind_in held)) c.in-Rebuild.is c.requires.3.job).1)

pub returns-in-Scrub-clause-hold : goal.returns-in-Scrub-clause-hold
returns-in-Scrub-clause-hold c = c.leave_scrub.ensures.hold

pub returns-in-Rebuild-clause-hold : goal.returns-in-Rebuild-clause-hold
returns-in-Rebuild-clause-hold c = c.leave_rebuild.ensures.hold

pub returns-in-Read-clause-owner : goal.returns-in-Read-clause-owner
returns-in-Read-clause-owner c = c.leave_request.ensures.owner

pub returns-in-Read-clause-told : goal.returns-in-Read-clause-told
returns-in-Read-clause-told c = c.leave_request.ensures.told

pub returns-in-Read-clause-hold : goal.returns-in-Read-clause-hold
returns-in-Read-clause-hold c = c.leave_request.ensures.hold

pub leave_request-requires-clause-held : goal.leave_request-requires-clause-held
leave_request-requires-clause-held c = c.requires

pub leave_request-requires-clause-request : goal.leave_request-requires-clause-request
leave_request-requires-clause-request c =
    elim c.in-Read.is [ inl read ↦ ap is_request read.2 | inr write ↦ ap is_request write.1 ]
