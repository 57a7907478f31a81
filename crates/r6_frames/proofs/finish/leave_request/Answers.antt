use Rattle.r6_stripe.specs.BatchLists.{AreDistinct}
use Rattle.std.proofs.Common.{◌≡◌, List, sym, ◌∙◌, ap, subst}
use Rattle.r6_stripe.specs.Holds.{Kind, Owes, Outcome, Reading, cell_at}
use Rattle.r6_stripe.specs.Plans.{known_block, outcome_of}
use Rattle.r6_stripe.specs.Steps.{Held}
use Rattle.r6_stripe.specs.Views.{kind_of_task}
use Rattle.r6_frames.specs.declared.frames.Job.{Job}
use Rattle.r6_frames.specs.declared.finish.Ended.TheVariants as ended
use Rattle.r6_frames.specs.Calls.{IsEndedOf}
use Rattle.r6_frames.specs.Sound.{IsJob}
use Rattle.r6_frames.specs.Views.{kind_in}
use Rattle.r6_frames.specs.Writes.{Entry, blocks_in}
use Rattle.r6_frames.proofs.Batches.{back_side_by_side, ended_writes}
use Rattle.r6_frames.proofs.finish.leave_request.Goals.{In-Some-Write-Write}
use Rattle.r6_frames.proofs.finish.leave_request.Goals as goal

pub returns-in-Some-Read-Read-clause-told : goal.returns-in-Some-Read-Read-clause-told
returns-in-Some-Read-Read-clause-told c = λ may over.
    let hold = c.args.held.hold.planned.hold in
    let i = c.in-Some-Read-Read.index in
    let closed = c.in-Some-Read-Read.ensures.closed in
    let reads : hold.kind ≡ Kind.Read i = sym c.in-Some-Read-Read.ensures.task ∙ ap kind_of_task c.in-Some-Read-Read.batch-1-is in
    let block = known_block (cell_at hold.cells i).reading in
    let known : (cell_at hold.cells i).reading ≡ Reading.Known block = subst (λ (kind : Kind). Owes hold kind (outcome_of hold kind)) reads may.owes_nothing in (
      ap Outcome.Data (c.with_block-buffer.ensures.block block (ap (λ (h : Held). (cell_at h.planned.hold.cells i).reading) closed ∙ known))
          ∙ sym (ap (outcome_of hold) reads),
      tt,
    )

-- the batch is that of the hold
batch_is : (c : In-Some-Write-Write) → Kind.Write c.in-Some-Write-Write.batch.blocks ≡ kind_in c.args.held
batch_is c = search

pub returns-in-Some-Write-Write-clause-owner : goal.returns-in-Some-Write-Write-clause-owner
returns-in-Some-Write-Write-clause-owner c =
    let w = c.in-Some-Write-Write in
    let held = c.requires.held.3 in
    let same = batch_is (goal.at.returns-in-Some-Write-Write-clause-owner c).In-Some-Write-Write in
    let mine = subst (λ (what : Job). IsJob c.requires.held.0 c.args.held.row what (kind_in c.args.held)) w.is-1 held.job in
    let side = back_side_by_side c.requires.held.0 c.args.held.row w.served (kind_in c.args.held) w.batch.blocks mine same in
    subst (λ (writes : List Entry). IsEndedOf c.args.held (ended.Wrote writes)) (sym c.from_parts-writes.ensures) (ended_writes c.args.held w.served w.batch.blocks side w.is-1 same)

pub with_block-buffer-requires-clause-size : goal.with_block-buffer-requires-clause-size
with_block-buffer-requires-clause-size c =
    let held = c.requires.held.3 in
    let job = subst (λ (what : Job). IsJob c.requires.held.0 c.args.held.row what (kind_in c.args.held)) c.in-Some-Read-Read.is-1 held.job in
    job.2.length_is ∙ sym held.size ∙ ap (λ (h : Held). h.planned.hold.size) (sym c.take_task.ensures.closed)

pub returns-in-Some-Read-Read-clause-owner : goal.returns-in-Some-Read-Read-clause-owner
returns-in-Some-Read-Read-clause-owner c =
    let held = c.requires.held.3 in
    let job = subst (λ (what : Job). IsJob c.requires.held.0 c.args.held.row what (kind_in c.args.held)) c.in-Some-Read-Read.is-1 held.job in
    (c.in-Some-Read-Read.buffer, c.in-Some-Read-Read.is-1, c.with_block-buffer.ensures.size ∙ job.2.length_is ∙ sym held.size)

pub returns-in-Some-Read-Read-clause-hold : goal.returns-in-Some-Read-Read-clause-hold
returns-in-Some-Read-Read-clause-hold c = c.take_task.ensures.closed

pub returns-in-Some-Write-Write-clause-told : goal.returns-in-Some-Write-Write-clause-told
returns-in-Some-Write-Write-clause-told c = λ may over.
    let same = batch_is (goal.at.returns-in-Some-Write-Write-clause-told c).In-Some-Write-Write in (ap (outcome_of c.args.held.hold.planned.hold) same, tt)

pub returns-in-Some-Write-Write-clause-hold : goal.returns-in-Some-Write-Write-clause-hold
returns-in-Some-Write-Write-clause-hold c = c.take_task.ensures.closed

pub from_parts-writes-requires : goal.from_parts-writes-requires
from_parts-writes-requires c =
    let w = c.in-Some-Write-Write in
    let held = c.requires.held.3 in
    let same = batch_is (goal.at.from_parts-writes-requires c).In-Some-Write-Write in
    let mine = subst (λ (what : Job). IsJob c.requires.held.0 c.args.held.row what (kind_in c.args.held)) w.is-1 held.job in
    let both : Kind.Write w.batch.blocks ≡ Kind.Write (blocks_in mine.0) = same ∙ mine.2 in
    let blocks : w.batch.blocks ≡ blocks_in mine.0 = cc in
    record {
      side_by_side = back_side_by_side c.requires.held.0 c.args.held.row w.served (kind_in c.args.held) w.batch.blocks mine same;
      distinct = subst AreDistinct (sym blocks) mine.4;
    }
