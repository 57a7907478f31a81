use Rattle.std.proofs.Common.{◌≡◌, ◌<◌, ◌∙◌, Some, sym, ap, length, refl, arith, subst, rules}
use Rattle.std.proofs.lemmas.Option.{slice_get_read}
use Rattle.r6_world.proofs.Tables.{Some-inj, None-not_Some}
use Rattle.r6_core.specs.declared.call.Call.{Call}
use Rattle.r6_core.specs.Shards.{world_shard, call_of}
use Rattle.r6_array.specs.Arrays.{ArrayView, ShardView, Has, first_of}
use Rattle.r6_array.proofs.Calls.{same_shard}
use Rattle.r6_array.proofs.Members.{same_as}
use Rattle.r6_array.proofs.array.Array.asks_for.Goals as goal

pub returns-in-Some-clause-yes : goal.returns-in-Some-clause-yes
returns-in-Some-clause-yes c = λ h.
    let was = c.self.inside in
    let a : ArrayView = record { shape = was.geometry; register = was.register; shards = was.members.items; at_work = was.at_work } in
    let below : c.args.change.shard < length was.members.items = omega arith in
    let has : Has a c.args.change.shard c.index.result.now = slice_get_read was.members.items (length was.members.items) c.args.change.shard c.index.result.now refl below c.index.ensures in
    let there : Has c.args.self.now c.args.change.shard c.index.result.now = subst (λ (v : ArrayView). Has v c.args.change.shard c.index.result.now) c.self.view_is has in
    let e : c.in-Some.call ≡ c.args.change.call = search rules in
    (c.index.result.now, there, sym c.in-Some.ensures ∙ ap (λ (call : Call). Some (call_of call)) e)

pub returns-in-Some-clause-no : goal.returns-in-Some-clause-no
returns-in-Some-clause-no c = λ h x.
    let was = c.self.inside in
    let a : ArrayView = record { shape = was.geometry; register = was.register; shards = was.members.items; at_work = was.at_work } in
    let below : c.args.change.shard < length was.members.items = omega arith in
    let has : Has a c.args.change.shard c.index.result.now = slice_get_read was.members.items (length was.members.items) c.args.change.shard c.index.result.now refl below c.index.ensures in
    let there : Has c.args.self.now c.args.change.shard c.index.result.now = subst (λ (v : ArrayView). Has v c.args.change.shard c.index.result.now) c.self.view_is has in
    let same = same_shard c.args.self.now c.args.change.shard c.index.result.now x.0 there x.1 in
    let first = c.in-Some.ensures ∙ ap (λ (v : ShardView). first_of (world_shard v.core).calls) (sym same) ∙ x.2 in
    let e : c.in-Some.call ≡ c.args.change.call = same_as c.in-Some.call c.args.change.call (Some-inj (call_of c.in-Some.call) (call_of c.args.change.call) first) in
    let ne : c.in-Some.call ≡ c.args.change.call → ⊥ = search rules in
    ne e

pub returns-in-None-clause-no : goal.returns-in-None-clause-no
returns-in-None-clause-no c = λ h x.
    let was = c.self.inside in
    let a : ArrayView = record { shape = was.geometry; register = was.register; shards = was.members.items; at_work = was.at_work } in
    let below : c.args.change.shard < length was.members.items = omega arith in
    let has : Has a c.args.change.shard c.index.result.now = slice_get_read was.members.items (length was.members.items) c.args.change.shard c.index.result.now refl below c.index.ensures in
    let there : Has c.args.self.now c.args.change.shard c.index.result.now = subst (λ (v : ArrayView). Has v c.args.change.shard c.index.result.now) c.self.view_is has in
    let same = same_shard c.args.self.now c.args.change.shard c.index.result.now x.0 there x.1 in
    None-not_Some (call_of c.args.change.call) (c.in-None.ensures ∙ ap (λ (v : ShardView). first_of (world_shard v.core).calls) (sym same) ∙ x.2)
