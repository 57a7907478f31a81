use Rattle.std.proofs.Common.{◌≡◌, ◌∙◌, sym, ap, subst}
use Rattle.std.proofs.lemmas.Option.{slice_get_read}
use Rattle.r6_layout.specs.Layout.{shard_of}
use Rattle.r6_array.specs.Arrays.{ArrayView, Has}
use Rattle.r6_array.specs.Effects.{shard_of_block}
use Rattle.r6_array.proofs.array.Array.room.Goals as goal

pub returns : goal.returns
returns c =
    let was = c.self.inside in
    let a : ArrayView = record { shape = was.geometry; register = was.register; shards = was.members.items; at_work = was.at_work } in
    let place = c.in_ok-place.place in
    let has : Has a place.shard c.index.result.now = slice_get_read was.members.items was.geometry.shards place.shard c.index.result.now (sym c.self.invariant.0.count)
    c.in_ok-place.ensures.place.owned.is_shard c.index.ensures in
    let own : place.shard ≡ shard_of_block was.geometry c.args.block = c.in_ok-place.ensures.shard ∙ ap (shard_of was.geometry) c.in_ok-place.ensures.row in
    rw (← c.self.view_is) (c.index.result.now, subst (λ n. Has a n c.index.result.now) own has, c.room.ensures)
