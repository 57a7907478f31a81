use Rattle.std.proofs.Common.{◌≡◌, Some, rules}
use Rattle.r6_core.specs.declared.turn.Task.TheVariants.{Rebuild, Check, Repair}
use Rattle.r6_array_c.proofs.Questions.{row_of_task, row_of_shard}
use Rattle.r6_array_c.proofs.asked.row_of.Goals as goal

pub returns-in-Some-Rebuild : goal.returns-in-Some-Rebuild
returns-in-Some-Rebuild c =
    let same : c.args.task ≡ Some Rebuild = search rules in
    row_of_task c.args.host.now.array c.args.shard c.args.slot (Some Rebuild) c.args.task c.row_to_rebuild.result same c.row_to_rebuild.ensures

pub returns-in-Some-Check : goal.returns-in-Some-Check
returns-in-Some-Check c =
    let same : c.args.task ≡ Some Check = search rules in
    row_of_task c.args.host.now.array c.args.shard c.args.slot (Some Check) c.args.task c.row_to_check.result same
    (row_of_shard c.args.host.now.array c.args.shard c.args.slot (Some Check) c.row_to_check.result c.row_to_check.ensures)

pub returns-in-Some-Repair : goal.returns-in-Some-Repair
returns-in-Some-Repair c =
    let same : c.args.task ≡ Some Repair = search rules in
    row_of_task c.args.host.now.array c.args.shard c.args.slot (Some Repair) c.args.task c.row_to_repair.result same
    (row_of_shard c.args.host.now.array c.args.shard c.args.slot (Some Repair) c.row_to_repair.result c.row_to_repair.ensures)
