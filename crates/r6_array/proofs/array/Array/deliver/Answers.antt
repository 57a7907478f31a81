use Rattle.std.proofs.Common.{◌<◌, length, refl, arith}
use Rattle.std.proofs.lemmas.Option.{slice_get_read}
use Rattle.r6_array.specs.Arrays.{ArrayView, Has}
use Rattle.r6_array.proofs.Calls.{array_with}
use Rattle.r6_array.proofs.Completions.{delivers, refuses_delivery}
use Rattle.r6_array.proofs.array.Array.deliver.Goals as goal

pub invariant_of-self : goal.invariant_of-self
invariant_of-self c =
    let was = c.self.inside in
    let a : ArrayView = record { shape = was.geometry; register = was.register; shards = was.members.items; at_work = was.at_work } in
    let below : c.args.ticket.shard < length was.members.items = omega arith in
    let has : Has a c.args.ticket.shard c.index_mut.result.now = slice_get_read was.members.items (length was.members.items) c.args.ticket.shard c.index_mut.result.now refl below c.index_mut.ensures.value in
    (array_with a c.args.ticket.shard c.index_mut.result.now c.deliver.new.self c.self.invariant.0 has c.deliver.ensures.shard, c.self.invariant.1)

pub returns-in-Ok-clause-received : goal.returns-in-Ok-clause-received
returns-in-Ok-clause-received c =
    let was = c.self.inside in
    let a : ArrayView = record { shape = was.geometry; register = was.register; shards = was.members.items; at_work = was.at_work } in
    let below : c.args.ticket.shard < length was.members.items = omega arith in
    let has : Has a c.args.ticket.shard c.index_mut.result.now = slice_get_read was.members.items (length was.members.items) c.args.ticket.shard c.index_mut.result.now refl below c.index_mut.ensures.value in
    rw (← c.self.view_is) (delivers a c.args.ticket c.args.completion c.in-Ok.receipt c.index_mut.result.now c.deliver.new.self c.come_home.new.self c.self.invariant.0 has c.in-Ok.ensures.received c.come_home.ensures)

pub returns-in-Err-clause-refused : goal.returns-in-Err-clause-refused
returns-in-Err-clause-refused c =
    let was = c.self.inside in
    let a : ArrayView = record { shape = was.geometry; register = was.register; shards = was.members.items; at_work = was.at_work } in
    let below : c.args.ticket.shard < length was.members.items = omega arith in
    let has : Has a c.args.ticket.shard c.index_mut.result.now = slice_get_read was.members.items (length was.members.items) c.args.ticket.shard c.index_mut.result.now refl below c.index_mut.ensures.value in
    let r = c.in-Err.ensures.refused in
    rw (← c.self.view_is) (refuses_delivery a c.args.ticket c.args.completion c.in-Err.refused.refusal c.in-Err.refused.back c.index_mut.result.now c.deliver.new.self c.self.invariant.0 has r.0 r.1)
