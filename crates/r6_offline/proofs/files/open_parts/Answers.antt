use Rattle.std.proofs.Common.{◌≡◌, ℕ, ◌*◌, map, subst, arith}
use Rattle.std.specs.Prelude.{string_bytes}
use Rattle.std.proofs.lemmas.List.{length-map}
use Rattle.std.proofs.lemmas.Result.{err_from_is_err_and}
use Rattle.r6_offline.proofs.FileLaws.{Opened, opened_all, opened_next, opened_none, those_opened}
use Rattle.r6_offline.proofs.files.open_parts.Goals as goal

pub loop-number-init : goal.loop-number-init
loop-number-init g c = opened_none c.args.geometry.now (map string_bytes c.args.paths.now) c.args.lost.now c.args.access c.new-parts.result.items c.new-parts.ensures.items

pub open_numbered-requires : goal.open_numbered-requires
open_numbered-requires g c = omega (arith, c.loop-number-test.true, c.part_count-count.ensures.value)

pub returns-in_err-open_numbered : goal.returns-in_err-open_numbered
returns-in_err-open_numbered g c =
    let p = err_from_is_err_and c.from_residual.result c.from_residual.ensures.1 in
    record { parts = rw p.1 tt; absent = rw p.1 tt; opened = rw p.1 tt; err = rw (p.1, p.2) c.in_err-open_numbered.ensures.err }

pub returns-in_err-push : goal.returns-in_err-push
returns-in_err-push g c =
    let p = err_from_is_err_and c.from_residual-in_err-push.result c.from_residual-in_err-push.ensures.1 in
    record { parts = rw p.1 tt; absent = rw p.1 tt; opened = rw p.1 tt; err = rw (p.1, p.2) tt }

pub loop-number-preserved : goal.loop-number-preserved
loop-number-preserved g c =
    let long_paths = length-map c.args.paths.now string_bytes in
    rw c.in_ok-push.ensures.items
    (opened_next c.args.geometry.now (map string_bytes c.args.paths.now) c.args.lost.now c.args.access c.loop-number.number c.loop-number.parts.items
    c.in_ok-open_numbered.field-0 c.loop-number.invariant c.in_ok-open_numbered.ensures.opened
    (λ kept. omega (arith, long_paths, c.in_ok-open_numbered.ensures.has_path kept)))

pub returns-clause-opened : goal.returns-clause-opened
returns-clause-opened g c =
    let shape = c.args.geometry.now in
    let paths = map string_bytes c.args.paths.now in
    let parts = c.loop-number.parts.items in
    let all : c.loop-number.number ≡ shape.shards * shape.slots =
    omega (arith, c.loop-number-test.false, c.loop-number.auto.number-end, c.part_count-count.ensures.value) in
    opened_all shape paths c.args.lost.now c.args.access parts c.part_count-count.ensures.limits
    (subst (λ (n : ℕ). Opened shape paths c.args.lost.now c.args.access n parts) all c.loop-number.invariant)

pub returns-clause-absent : goal.returns-clause-absent
returns-clause-absent g c =
    let shape = c.args.geometry.now in
    let paths = map string_bytes c.args.paths.now in
    let parts = c.loop-number.parts.items in
    let all : c.loop-number.number ≡ shape.shards * shape.slots =
    omega (arith, c.loop-number-test.false, c.loop-number.auto.number-end, c.part_count-count.ensures.value) in
    those_opened shape paths c.args.lost.now c.args.access parts
    (opened_all shape paths c.args.lost.now c.args.access parts c.part_count-count.ensures.limits
    (subst (λ (n : ℕ). Opened shape paths c.args.lost.now c.args.access n parts) all c.loop-number.invariant))
