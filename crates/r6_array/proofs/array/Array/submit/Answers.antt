use Rattle.std.proofs.Common.{◌≡◌, ◌∙◌, sym, ap, subst}
use Rattle.std.proofs.lemmas.Option.{slice_get_read}
use Rattle.r6_layout.specs.Layout.{shard_of, row_of}
use Rattle.r6_array.specs.Arrays.{ArrayView, Has}
use Rattle.r6_array.specs.Effects.{shard_of_block, block_asked, RefusesRequest}
use Rattle.r6_array.proofs.Calls.{array_with, submits, refuses, if_ok, if_err, with_same}
use Rattle.r6_array.proofs.array.Array.submit.Goals as goal

abbrev array_of : goal.After-self-1 → ArrayView
array_of c = let was = c.self.inside in record { shape = was.geometry; register = was.register; shards = was.members.items; at_work = was.at_work }

has : (c : goal.After-self-1) → Has (array_of c) c.in-Some.place.shard c.index_mut.result.now
has c =
    slice_get_read c.self.inside.members.items c.self.inside.geometry.shards c.in-Some.place.shard c.index_mut.result.now (sym c.self.invariant.0.count)
    c.in-Some.ensures.place.owned.is_shard c.index_mut.ensures.value

own : (c : goal.After-self-1) → shard_of_block c.self.inside.geometry (block_asked c.args.op) ≡ c.in-Some.place.shard
own c =
    let shape = c.self.inside.geometry in
    sym (c.in-Some.ensures.shard ∙ ap (shard_of shape) (c.in-Some.ensures.row ∙ ap (row_of shape) c.block.ensures))

pub invariant_of-self : goal.invariant_of-self
invariant_of-self c =
    (array_with (array_of c) c.in-Some.place.shard c.index_mut.result.now c.submit.new.self c.self.invariant.0 (has c) c.submit.ensures.shard, c.self.invariant.1)

pub returns-clause-accepted : goal.returns-clause-accepted
returns-clause-accepted c = rw (← c.self.view_is) (if_ok c.submit.result _ _
    (λ x taken. submits (array_of c) c.args.op c.args.name c.in-Some.place.shard c.index_mut.result.now c.submit.new.self c.self.invariant.0 (own c) (has c) taken)
    c.submit.ensures.accepted)

pub returns-clause-refused : goal.returns-clause-refused
returns-clause-refused c = rw (← c.self.view_is) (if_err c.submit.result _ _
    (λ r refused. subst (RefusesRequest (array_of c) c.args.op r.refusal r.back)
    (sym (with_same (array_of c) c.in-Some.place.shard c.index_mut.result.now c.submit.new.self (has c) refused.0))
    (refuses (array_of c) c.args.op r.refusal r.back c.in-Some.place.shard c.index_mut.result.now c.self.invariant.0 (own c) (has c) refused.1))
    c.submit.ensures.refused)
