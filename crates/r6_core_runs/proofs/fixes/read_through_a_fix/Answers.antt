use Rattle.std.proofs.Common.{◌≡◌, ℕ, arith, ◌∙◌, sym, ap, Some}
use Rattle.r6_core_runs.proofs.FixRuns.{by_fix}
use Rattle.r6_core_runs.proofs.fixes.read_through_a_fix.Goals as goal

pub returns-in-Some-eq0 : goal.returns-in-Some-eq0
returns-in-Some-eq0 c =
    let first : c.in-Some-eq0.field-0 ≡ 0 = omega (arith, c.in-Some-eq0.field-0-is) in
    record {
      run = by_fix c.in_ok-core.core c.meet_errors.new.core c.put_fix.new.core c.read_fixed.new.core c.args.blocks c.in_ok-block.block c.in_ok-core.register
          c.in_ok-core.ensures c.in_ok-meet_errors.ensures c.in_ok-put_fix.ensures c.in_ok-block.ensures
          (sym c.in_sync.ensures ∙ c.in-Some-eq0.is ∙ ap (λ (g : ℕ). Some g) first);
    }
