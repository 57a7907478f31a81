use Rattle.std.proofs.Common.{◌≡◌, ◌<◌, ℕ, length, refl, sym, subst, ◌∙◌, arith, MatchOption, Option, Some, None}
use Rattle.std.proofs.lemmas.Option.{slice_get_read}
use Rattle.r6_world.proofs.Tables.{Some-inj}
use Rattle.r6_core.specs.Progress.{IsFirstUnbuilt, IsNotRebuilt}
use Rattle.r6_array.specs.Arrays.{ArrayView, ShardView, Has}
use Rattle.r6_array.proofs.array.Array.row_to_rebuild.Goals as goal

of_shard : (a : ArrayView) (shard slot : ℕ) (s : ShardView) → Has a shard s → (row : Option ℕ) → MatchOption row (IsNotRebuilt s.core slot) (IsFirstUnbuilt s.core slot)
    → MatchOption row ((t : ShardView) → Has a shard t → IsNotRebuilt t.core slot) (λ row. (t : ShardView) × Has a shard t × IsFirstUnbuilt t.core slot row)
of_shard a shard slot s has None none = λ t there. subst (λ (x : ShardView). IsNotRebuilt x.core slot) (Some-inj s t (sym has ∙ there)) none
of_shard a shard slot s has (Some row) is = (s, has, is)

pub returns : goal.returns
returns c =
    let was = c.self.inside in
    let a : ArrayView = record { shape = was.geometry; register = was.register; shards = was.members.items; at_work = was.at_work } in
    let below : c.args.shard < length was.members.items = omega arith in
    let has : Has a c.args.shard c.index.result.now = slice_get_read was.members.items (length was.members.items) c.args.shard c.index.result.now refl below c.index.ensures in
    rw (← c.self.view_is) (of_shard a c.args.shard c.args.slot c.index.result.now has c.row_to_rebuild.result c.row_to_rebuild.ensures)
