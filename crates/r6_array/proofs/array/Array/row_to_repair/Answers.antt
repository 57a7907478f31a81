use Rattle.std.proofs.Common.{◌≡◌, ◌<◌, length, refl, arith}
use Rattle.std.proofs.lemmas.Option.{slice_get_read}
use Rattle.r6_array.specs.Arrays.{ArrayView, Has}
use Rattle.r6_array.proofs.array.Array.row_to_repair.Goals as goal

pub returns : goal.returns
returns c =
    let was = c.self.inside in
    let a : ArrayView = record { shape = was.geometry; register = was.register; shards = was.members.items; at_work = was.at_work } in
    let below : c.args.shard < length was.members.items = omega arith in
    let has : Has a c.args.shard c.index.result.now = slice_get_read was.members.items (length was.members.items) c.args.shard c.index.result.now refl below c.index.ensures in
    rw (← c.self.view_is) (c.index.result.now, has, c.row_to_repair.ensures)
