use Rattle.std.proofs.Common.{ap, subst, ◌∙◌, IfOk}
use Rattle.r6_offline.specs.Lent.{IsSound, promises_of}
use Rattle.r6_offline.specs.Parts.{parts_of}
use Rattle.r6_offline.specs.Reports.{IsReport}
use Rattle.r6_verify.specs.Heard.{promised_below, told_below}
use Rattle.r6_verify.proofs.HeardLaws.{promised-below, told-below}
use Rattle.r6_verify.proofs.verify.verify_heard.Goals as goal

pub returns-clause-report : goal.returns-clause-report
returns-clause-report g c =
    let told = g.D.BlockDevice.told in
    subst (λ parts. IfOk c.verify_shards.result (IsReport c.args.geometry.now parts))
    (ap (λ l. parts_of (told_below told) l) c.as_mut_slice.ensures.value ∙ told-below told c.in_ok-heard.heard.items
    ∙ ap (parts_of told) c.in_ok-heard.ensures.below)
    c.verify_shards.ensures.report

pub returns-clause-sound : goal.returns-clause-sound
returns-clause-sound g c =
    let promised = g.D.BlockDevice.promised in
    subst (λ promises. IfOk c.verify_shards.result (λ report. IsSound c.args.geometry.now promises report.fault))
    (ap (λ l. promises_of (promised_below promised) l) c.as_mut_slice.ensures.value ∙ promised-below promised c.in_ok-heard.heard.items
    ∙ ap (promises_of promised) c.in_ok-heard.ensures.below)
    c.verify_shards.ensures.sound
