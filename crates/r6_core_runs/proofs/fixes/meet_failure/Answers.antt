use Rattle.r6_core.proofs.Callers.{if_some}
use Rattle.r6_core_runs.proofs.fixes.meet_failure.Goals as goal

pub returns : goal.returns
returns c =
    if_some c.fail_read-2.result _ _
    (λ done parity. record { half = c.fail_read.new.core; other = c.in_ok-fail_read.ensures; parity = parity })
    c.fail_read-2.ensures
