use Rattle.std.proofs.Common.{◌≡◌, ◌∙◌, sym, ap}
use Rattle.std.proofs.lemmas.Option.{slice_get_read}
use Rattle.r6_layout.specs.Layout.{shard_of}
use Rattle.r6_array.specs.Arrays.{ArrayView, Has}
use Rattle.r6_array.specs.Effects.{shard_of_block}
use Rattle.r6_array.proofs.Calls.{array_with}
use Rattle.r6_array.proofs.Together.{submits_list, submits_to}
use Rattle.r6_array.proofs.array.Array.submit_all.Goals as goal

abbrev array_of : goal.After-self-1 → ArrayView
array_of c = let was = c.self.inside in record { shape = was.geometry; register = was.register; shards = was.members.items; at_work = was.at_work }

has : (c : goal.After-self-1) → Has (array_of c) c.in-Some-place.place.shard c.index_mut.result.now
has c =
    slice_get_read c.self.inside.members.items c.self.inside.geometry.shards c.in-Some-place.place.shard c.index_mut.result.now (sym c.self.invariant.0.count)
    c.in-Some-place.ensures.place.owned.is_shard c.index_mut.ensures.value

own : (c : goal.After-self-1) → shard_of_block c.self.inside.geometry c.in-Some.first ≡ c.in-Some-place.place.shard
own c =
    let shape = c.self.inside.geometry in
    sym (c.in-Some-place.ensures.shard ∙ ap (shard_of shape) c.in-Some-place.ensures.row)

pub invariant_of-self : goal.invariant_of-self
invariant_of-self c =
    (array_with (array_of c) c.in-Some-place.place.shard c.index_mut.result.now c.submit_all-submitted.new.self c.self.invariant.0 (has c) c.submit_all-submitted.ensures.shard, c.self.invariant.1)

pub returns : goal.returns
returns c =
    let s = c.submit_all-submitted in
    rw (← c.self.view_is) (submits_list (array_of c) c.args.requests.now s.new.requests _ _ c.in-Some.first c.in-Some.ensures c.in-Some-place.ensures.within c.in-Some-place.place.shard (own c)
    (submits_to (array_of c) c.in-Some-place.place.shard c.index_mut.result.now s.new.self c.args.requests.now s.new.requests s.result c.self.invariant.0 (has c) s.ensures.taken))
