use Rattle.std.proofs.Common.{◌<◌, length, refl, arith, inr}
use Rattle.std.proofs.lemmas.Option.{slice_get_read}
use Rattle.r6_array.specs.Arrays.{ArrayView, Has}
use Rattle.r6_array.proofs.Calls.{array_with, if_ok, if_err, with_same}
use Rattle.r6_array.proofs.Completions.{turns_in}
use Rattle.r6_array.proofs.array.Array.turn.Goals as goal

pub invariant_of-self : goal.invariant_of-self
invariant_of-self c =
    let was = c.self.inside in
    let a : ArrayView = record { shape = was.geometry; register = was.register; shards = was.members.items; at_work = was.at_work } in
    let below : c.args.shard < length was.members.items = omega arith in
    let has : Has a c.args.shard c.index_mut.result.now = slice_get_read was.members.items (length was.members.items) c.args.shard c.index_mut.result.now refl below c.index_mut.ensures.value in
    (array_with a c.args.shard c.index_mut.result.now c.turn.new.self c.self.invariant.0 has c.turn.ensures.shard, c.self.invariant.1)

pub returns-clause-turned : goal.returns-clause-turned
returns-clause-turned c =
    let was = c.self.inside in
    let a : ArrayView = record { shape = was.geometry; register = was.register; shards = was.members.items; at_work = was.at_work } in
    let below : c.args.shard < length was.members.items = omega arith in
    let has : Has a c.args.shard c.index_mut.result.now = slice_get_read was.members.items (length was.members.items) c.args.shard c.index_mut.result.now refl below c.index_mut.ensures.value in
    rw (← c.self.view_is) (if_ok c.turn.result _ _ (λ turn x. turns_in a c.args.shard c.index_mut.result.now c.turn.new.self c.args.task turn c.self.invariant.0 has x) c.turn.ensures.turned)

pub returns-clause-refused : goal.returns-clause-refused
returns-clause-refused c =
    let was = c.self.inside in
    let a : ArrayView = record { shape = was.geometry; register = was.register; shards = was.members.items; at_work = was.at_work } in
    let below : c.args.shard < length was.members.items = omega arith in
    let has : Has a c.args.shard c.index_mut.result.now = slice_get_read was.members.items (length was.members.items) c.args.shard c.index_mut.result.now refl below c.index_mut.ensures.value in
    rw (← c.self.view_is) (if_err c.turn.result _ _
    (λ refusal x. record { same = with_same a c.args.shard c.index_mut.result.now c.turn.new.self has x.0; fault = inr (c.index_mut.result.now, has, x.1) }) c.turn.ensures.refused)
