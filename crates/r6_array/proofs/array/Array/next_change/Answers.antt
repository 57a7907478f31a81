use Rattle.std.proofs.Common.{◌≡◌, ◌<◌, ◌∙◌, List, [], sym, ap, length, refl, arith, subst, inl, inr}
use Rattle.std.proofs.lemmas.Bool.{cases_eq}
use Rattle.std.proofs.lemmas.Option.{slice_get_read, slice_get_within}
use Rattle.r6_core.specs.Shards.{world_shard}
use Rattle.r6_array.specs.Arrays.{ArrayView, ShardView, Has}
use Rattle.r6_array.proofs.Calls.{same_shard}
use Rattle.r6_array.proofs.Members.{first_none}
use Rattle.r6_array.proofs.array.Array.next_change.Goals as goal

pub loop-shard-preserved : goal.loop-shard-preserved
loop-shard-preserved c = λ n s near e.
    let was = c.self.inside in
    let a : ArrayView = record { shape = was.geometry; register = was.register; shards = was.members.items; at_work = was.at_work } in
    let k = c.loop-shard.shard in
    let below : k < length was.members.items = omega arith in
    let has : Has a k c.index.result.now = slice_get_read was.members.items (length was.members.items) k c.index.result.now refl below c.index.ensures in
    elim (cases_eq n k) [
      | inl same ↦
          let there : Has a k s = subst (λ i. Has a i s) same (subst (λ (v : ArrayView). Has v n s) (sym c.self.view_is) e) in
          ap (λ (v : ShardView). (world_shard v.core).calls) (same_shard a k c.index.result.now s has there) ∙ first_none (world_shard c.index.result.now.core).calls (sym c.in_default.ensures)
      | inr ne ↦ c.loop-shard.invariant n s (omega arith) e
    ]

pub returns-in-Some : goal.returns-in-Some
returns-in-Some c =
    let was = c.self.inside in
    let a : ArrayView = record { shape = was.geometry; register = was.register; shards = was.members.items; at_work = was.at_work } in
    let k = c.loop-shard.shard in
    let below : k < length was.members.items = omega arith in
    let has : Has a k c.index.result.now = slice_get_read was.members.items (length was.members.items) k c.index.result.now refl below c.index.ensures in
    record { next = (c.index.result.now, subst (λ (v : ArrayView). Has v k c.index.result.now) c.self.view_is has, sym c.in-Some.ensures); lower = c.loop-shard.invariant }

pub returns : goal.returns
returns c = λ n s e.
    let within = slice_get_within c.args.self.now.shards n s e in
    let all = ap (λ (v : ArrayView). length v.shards) c.self.view_is in
    c.loop-shard.invariant n s (omega (arith, within, all)) e
