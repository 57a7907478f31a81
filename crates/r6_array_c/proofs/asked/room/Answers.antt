use Rattle.r6_array_c.proofs.Questions.{tells_room}
use Rattle.r6_array_c.proofs.asked.room.Goals as goal

pub returns-in-Some-clause-tells : goal.returns-in-Some-clause-tells
returns-in-Some-clause-tells c =
    tells_room c.args.host.now.array c.args.mail.now.block_asked c.tell.result c.tell.new.self c.in-Some.room c.in-Some.ensures c.tell.ensures.told
