use Rattle.std.proofs.Common.{Bool, true, false, count_ones, ◌≡◌, ◌≤◌, ◌<◌, ◌-◌, ◌^◌, arith, subst, sym}
use mir.Val.{bool_byte}
use Rattle.r6_run.specs.Arrays.{mask_from}
use Rattle.r6_run.proofs.Masks.{mask_few, mask_fits, mask_whole, mask_within}
use Rattle.r6_run.proofs.array.mask_of.Goals as goal

a_bit : (bit : Bool) → bool_byte bit ≤ 1
a_bit true = omega arith
a_bit false = omega arith

pub overflow_mul-mask : goal.overflow_mul-mask
overflow_mul-mask c =
    let fits = mask_fits c.args.lost.now (c.args.slots - c.loop-passed.passed) c.loop-passed.passed (omega (arith, c.requires.slots, c.loop-passed-test.true)) in
    let is : c.loop-passed.mask ≡ mask_from c.args.lost.now (c.args.slots - c.loop-passed.passed) c.loop-passed.passed = c.loop-passed.invariant in
    omega (arith, fits, is)

pub overflow_add-mask : goal.overflow_add-mask
overflow_add-mask c =
    let fits = mask_fits c.args.lost.now (c.args.slots - c.loop-passed.passed) c.loop-passed.passed (omega (arith, c.requires.slots, c.loop-passed-test.true)) in
    let is : c.loop-passed.mask ≡ mask_from c.args.lost.now (c.args.slots - c.loop-passed.passed) c.loop-passed.passed = c.loop-passed.invariant in
    let bit : c.from.result ≤ 1 = subst (λ worth. worth ≤ 1) (sym c.from.ensures) (a_bit c.is_lost.result) in
    omega (arith, fits, is, bit)

pub returns-clause-within : goal.returns-clause-within
returns-clause-within c =
    let is = mask_whole c.args.lost.now c.args.slots c.loop-passed.passed c.loop-passed.mask c.loop-passed-test.false c.loop-passed.auto.passed-end c.loop-passed.invariant in
    subst (λ mask. mask < 2 ^ c.args.slots) (sym is) (mask_within c.args.lost.now 0 c.args.slots)

pub returns-clause-few : goal.returns-clause-few
returns-clause-few c =
    let is = mask_whole c.args.lost.now c.args.slots c.loop-passed.passed c.loop-passed.mask c.loop-passed-test.false c.loop-passed.auto.passed-end c.loop-passed.invariant in
    subst (λ mask. count_ones mask ≤ 2) (sym is) (mask_few c.args.lost.now c.args.slots c.requires.lost.0)
