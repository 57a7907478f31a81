use Rattle.std.proofs.Common.{◌<◌, sym, length, refl, subst}
use Rattle.std.proofs.lemmas.Option.{slice_get_read}
use Rattle.r6_array.specs.Arrays.{ArrayView, Has}
use Rattle.r6_array.proofs.Calls.{array_with}
use Rattle.r6_array.proofs.Completions.{looks_of}
use Rattle.r6_array.proofs.array.Array.look.Goals as goal

pub invariant_of-self : goal.invariant_of-self
invariant_of-self c =
    let was = c.self.inside in
    let a : ArrayView = record { shape = was.geometry; register = was.register; shards = was.members.items; at_work = was.at_work } in
    let below : c.args.shard < length was.members.items = subst (λ (v : ArrayView). c.args.shard < length v.shards) (sym c.self.view_is) c.requires in
    let has : Has a c.args.shard c.index_mut.result.now = slice_get_read was.members.items (length was.members.items) c.args.shard c.index_mut.result.now refl below c.index_mut.ensures.value in
    (array_with a c.args.shard c.index_mut.result.now c.look.new.self c.self.invariant.0 has c.look.ensures.shard, c.self.invariant.1)

pub returns : goal.returns
returns c =
    let was = c.self.inside in
    let a : ArrayView = record { shape = was.geometry; register = was.register; shards = was.members.items; at_work = was.at_work } in
    let below : c.args.shard < length was.members.items = subst (λ (v : ArrayView). c.args.shard < length v.shards) (sym c.self.view_is) c.requires in
    let has : Has a c.args.shard c.index_mut.result.now = slice_get_read was.members.items (length was.members.items) c.args.shard c.index_mut.result.now refl below c.index_mut.ensures.value in
    let e = c.look.ensures in
    rw (← c.self.view_is) (looks_of a c.args.shard c.index_mut.result.now c.look.new.self c.look.result c.self.invariant.0 has e.looked e.settled e.told e.untold)

pub look-requires : goal.look-requires
look-requires c = c.self.invariant.1
