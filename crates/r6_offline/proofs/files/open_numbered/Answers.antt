use Rattle.std.proofs.Common.{◌≡◌, ◌%◌, ◌<◌, false, rules, arith, subst}
use Rattle.std.proofs.Math.Nat.{mod-lt}
use Rattle.r6_offline.specs.Parts.{is_lost}
use Rattle.r6_offline.proofs.FileLaws.{opening_of}
use Rattle.r6_offline.proofs.files.open_numbered.Goals as goal

pub returns-in-Err-clause-err : goal.returns-in-Err-clause-err
returns-in-Err-clause-err g c =
    let slots = c.slots.result in
    let some : 0 < slots = omega (arith, c.slots.ensures.value, c.slots.ensures.limits.slots_allowed.0) in
    let below : c.args.number % slots < c.args.geometry.now.slots =
    subst (λ n. c.args.number % slots < n) c.slots.ensures.value (mod-lt c.args.number some) in
    let other : is_lost c.args.lost.now (c.args.number % slots) ≡ false = search rules in
    opening_of c.args.geometry.now.slots (c.args.number % slots) c.args.lost.now c.in-Err.error below other c.in-Err.ensures.err
