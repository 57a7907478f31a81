use Rattle.std.proofs.Common.{Bool, if◌then◌else◌, ap, ◌∙◌}
use Rattle.std.specs.Prelude.{codes}
use Rattle.r6_health.specs.Registers.{has_failed}
use Rattle.r6_run.proofs.lines.state_word.Goals as goal

pub returns-then-is_degraded : goal.returns-then-is_degraded
returns-then-is_degraded c =
    ap (λ (failed : Bool). if failed then codes "failed" else codes "degraded") c.if-failed.ensures
    ∙ ap (λ (degraded : Bool). if has_failed c.args.snapshot.now then codes "failed" else if degraded then codes "degraded" else codes "good")
    c.if-is_degraded.ensures
