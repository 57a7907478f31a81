use Rattle.std.proofs.Common.{◌≡◌, Err, map, string_bytes}
use Rattle.toml.specs.View.{table_view}
use Rattle.r6_layout.specs.Shape.{shape_of}
use Rattle.r6_settings.specs.Settings.{IsMemoryOr, decided}
use Rattle.r6_settings.proofs.Deciding.{all_pass, geometry_fails, lost_fail, numbers_fail, paths_fail, same_shape, told_on}
use Rattle.r6_settings.proofs.config.decide.Goals as goal

pub returns-in_err-slots-clause-err : goal.returns-in_err-slots-clause-err
returns-in_err-slots-clause-err c =
    let document = table_view c.args.table.now in
    let fault = c.in_err-slots.field-0.0 in
    told_on (IsMemoryOr (λ fault. decided c.args.with_devices document ≡ Err fault)) c.from_residual.result fault
    (λ _. numbers_fail c.args.with_devices document fault c.in_err-slots.ensures.err)
    c.from_residual.ensures.1

pub returns-in_err-lost-clause-err : goal.returns-in_err-lost-clause-err
returns-in_err-lost-clause-err c =
    let document = table_view c.args.table.now in
    told_on (IsMemoryOr (λ fault. decided c.args.with_devices document ≡ Err fault)) c.from_residual-in_err-lost.result c.in_err-lost.field-0.0
    (lost_fail c.args.with_devices document c.in_err-lost.field-0.0 c.in_ok-slots.ensures.passed c.in_err-lost.ensures.err)
    c.from_residual-in_err-lost.ensures.1

pub returns-in_err-devices-clause-err : goal.returns-in_err-devices-clause-err
returns-in_err-devices-clause-err c =
    let document = table_view c.args.table.now in
    told_on (IsMemoryOr (λ fault. decided c.args.with_devices document ≡ Err fault)) c.from_residual-in_err-devices.result c.in_err-devices.field-0.0
    (paths_fail c.args.with_devices document c.in_ok-lost.lost.items c.in_err-devices.field-0.0 c.in_ok-slots.ensures.passed c.in_ok-lost.ensures.ok
    c.in_err-devices.ensures.err)
    c.from_residual-in_err-devices.ensures.1

pub returns-in-Ok-clause-ok : goal.returns-in-Ok-clause-ok
returns-in-Ok-clause-ok c =
    let document = table_view c.args.table.now in
    let numbers = c.in_ok-slots.field-0 in
    let same = same_shape document numbers.slots numbers.chunk numbers.block numbers.rows numbers.shards c.from.result c.from-2.result
    c.from.ensures c.from-2.ensures c.in_ok-slots.ensures.shape in
    all_pass c.args.with_devices document
    (record {
      shape = c.in-Ok.geometry;
      window = numbers.window;
      workers = numbers.workers;
      lost = c.in_ok-lost.lost.items;
      devices = map string_bytes c.in_ok-devices.devices.items;
    })
    (shape_of numbers.slots c.from.result numbers.block c.from-2.result numbers.shards)
    c.in_ok-slots.ensures.passed c.in_ok-slots.ensures.window c.in_ok-slots.ensures.workers c.in_ok-lost.ensures.ok c.in_ok-devices.ensures.ok
    same c.in-Ok.ensures.made c.in-Ok.ensures.fault

pub returns-in-Err-clause-err : goal.returns-in-Err-clause-err
returns-in-Err-clause-err c _ =
    let document = table_view c.args.table.now in
    let numbers = c.in_ok-slots.field-0 in
    let same = same_shape document numbers.slots numbers.chunk numbers.block numbers.rows numbers.shards c.from.result c.from-2.result
    c.from.ensures c.from-2.ensures c.in_ok-slots.ensures.shape in
    geometry_fails c.args.with_devices document c.in_ok-lost.lost.items (map string_bytes c.in_ok-devices.devices.items)
    (shape_of numbers.slots c.from.result numbers.block c.from-2.result numbers.shards) c.in-Err.limit
    c.in_ok-slots.ensures.passed c.in_ok-lost.ensures.ok c.in_ok-devices.ensures.ok same c.in-Err.ensures.fault
