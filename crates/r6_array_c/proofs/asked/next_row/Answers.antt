use Rattle.r6_array_c.specs.Numbers.{task_of}
use Rattle.r6_array_c.proofs.Questions.{tells_row}
use Rattle.r6_array_c.proofs.asked.next_row.Goals as goal

pub returns-in-Some-clause-tells : goal.returns-in-Some-clause-tells
returns-in-Some-clause-tells c =
    let mail = c.args.mail.now in
    tells_row c.args.host.now.array mail.shard_asked mail.slot_asked (task_of mail.task) c.task_of.result c.tell.result c.tell.new.self c.in-Some.row
    c.task_of.ensures c.in-Some.ensures c.tell.ensures.told
