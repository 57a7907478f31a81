use Rattle.std.proofs.Common.{◌≡◌, ◌<◌, ◌≤◌, sym, ap, length, refl, subst, arith, set}
use Rattle.std.proofs.lemmas.Option.{slice_get_read}
use Rattle.r6_array.specs.Arrays.{ArrayView, Has}
use Rattle.r6_array.proofs.Calls.{array_with, hands_out, none_of_shard}
use Rattle.r6_array.proofs.array.Array.command_of.Goals as goal

pub returns-in_err-command : goal.returns-in_err-command
returns-in_err-command c =
    let was = c.self.inside in
    let a : ArrayView = record { shape = was.geometry; register = was.register; shards = was.members.items; at_work = was.at_work } in
    let below : c.args.shard < length was.members.items = subst (λ (v : ArrayView). c.args.shard < length v.shards) (sym c.self.view_is) c.requires in
    let has : Has a c.args.shard c.index_mut.result.now = slice_get_read was.members.items (length was.members.items) c.args.shard c.index_mut.result.now refl below c.index_mut.ensures.value in
    let none = c.in_err-command.ensures.taken in
    rw (c.from_residual.ensures, ← c.self.view_is) (none_of_shard a c.args.shard c.index_mut.result.now c.take_command.new.self has none.0 none.1)

pub bounds-self-inside-slot : goal.bounds-self-inside-slot
bounds-self-inside-slot c =
    let was = c.self.inside in
    let a : ArrayView = record { shape = was.geometry; register = was.register; shards = was.members.items; at_work = was.at_work } in
    let below : c.args.shard < length was.members.items = subst (λ (v : ArrayView). c.args.shard < length v.shards) (sym c.self.view_is) c.requires in
    let has : Has a c.args.shard c.index_mut.result.now = slice_get_read was.members.items (length was.members.items) c.args.shard c.index_mut.result.now refl below c.index_mut.ensures.value in
    let slot : c.in_ok-command.command.slot < c.index_mut.result.now.core.shape.slots = c.in_ok-command.ensures.taken.sized.slot in
    let shape : c.index_mut.result.now.core.shape ≡ was.geometry = (c.self.invariant.0.own c.args.shard c.index_mut.result.now has).0 in
    let few : was.geometry.slots ≤ 32 = c.self.invariant.0.limits.slots_allowed.1 in
    let same : c.index_mut.result.now.core.shape.slots ≡ was.geometry.slots = ap (λ (s : Rattle.r6_layout.specs.Shape.Shape). s.slots) shape in
    omega arith

pub invariant_of-self-2 : goal.invariant_of-self-2
invariant_of-self-2 c =
    let was = c.self.inside in
    let a : ArrayView = record { shape = was.geometry; register = was.register; shards = was.members.items; at_work = was.at_work } in
    let below : c.args.shard < length was.members.items = subst (λ (v : ArrayView). c.args.shard < length v.shards) (sym c.self.view_is) c.requires in
    let has : Has a c.args.shard c.index_mut.result.now = slice_get_read was.members.items (length was.members.items) c.args.shard c.index_mut.result.now refl below c.index_mut.ensures.value in
    (array_with a c.args.shard c.index_mut.result.now c.take_command.new.self c.self.invariant.0 has c.take_command.ensures.shard, c.self.invariant.1)

pub returns : goal.returns
returns c =
    let was = c.self.inside in
    let a : ArrayView = record { shape = was.geometry; register = was.register; shards = was.members.items; at_work = was.at_work } in
    let below : c.args.shard < length was.members.items = subst (λ (v : ArrayView). c.args.shard < length v.shards) (sym c.self.view_is) c.requires in
    let has : Has a c.args.shard c.index_mut.result.now = slice_get_read was.members.items (length was.members.items) c.args.shard c.index_mut.result.now refl below c.index_mut.ensures.value in
    rw (← c.self.view_is) (hands_out a c.args.shard c.index_mut.result.now c.take_command.new.self c.in_ok-command.command _ _ c.self.invariant.0 has c.in_ok-command.ensures.taken refl
    (ap (λ n. set was.at_work c.in_ok-command.command.slot n) c.saturating_add.ensures))
