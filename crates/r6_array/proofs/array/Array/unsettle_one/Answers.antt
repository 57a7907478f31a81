use Rattle.std.proofs.Common.{◌<◌, sym, ap, length, refl, subst}
use Rattle.std.proofs.lemmas.Option.{slice_get_read}
use Rattle.r6_array.specs.Arrays.{ArrayView, ShardView, Has}
use Rattle.r6_array.proofs.Calls.{array_with}
use Rattle.r6_array.proofs.array.Array.unsettle_one.Goals as goal

pub invariant_of-self : goal.invariant_of-self
invariant_of-self c =
    let was = c.self.inside in
    let a : ArrayView = record { shape = was.geometry; register = was.register; shards = was.members.items; at_work = was.at_work } in
    let below : c.args.shard < length was.members.items = subst (λ (v : ArrayView). c.args.shard < length v.shards) (sym c.self.view_is) c.requires in
    let has : Has a c.args.shard c.index_mut.result.now = slice_get_read was.members.items (length was.members.items) c.args.shard c.index_mut.result.now refl below c.index_mut.ensures.value in
    (array_with a c.args.shard c.index_mut.result.now c.unsettle.new.self c.self.invariant.0 has (ap (λ (v : ShardView). v.core.shape) c.unsettle.ensures, ap (λ (v : ShardView). v.core.shard) c.unsettle.ensures), c.self.invariant.1)

pub returns : goal.returns
returns c =
    let was = c.self.inside in
    let a : ArrayView = record { shape = was.geometry; register = was.register; shards = was.members.items; at_work = was.at_work } in
    let below : c.args.shard < length was.members.items = subst (λ (v : ArrayView). c.args.shard < length v.shards) (sym c.self.view_is) c.requires in
    let has : Has a c.args.shard c.index_mut.result.now = slice_get_read was.members.items (length was.members.items) c.args.shard c.index_mut.result.now refl below c.index_mut.ensures.value in
    rw (← c.self.view_is) (record { was = c.index_mut.result.now; there = has; new_is = ap (Rattle.r6_array.specs.Arrays.with_shard a c.args.shard) c.unsettle.ensures })
