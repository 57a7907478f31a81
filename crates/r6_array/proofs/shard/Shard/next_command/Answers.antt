use Rattle.std.proofs.Common.{◌≡◌, ◌<◌, ◌≤◌, ap, refl, arith, set}
use Rattle.r6_layout.specs.Shape.{Shape}
use Rattle.r6_array.proofs.HandleCalls.{still, handle, hands_out}
use Rattle.r6_array.proofs.shard.Shard.next_command.Goals as goal

pub bounds-self-inside-slot : goal.bounds-self-inside-slot
bounds-self-inside-slot c =
    let was = c.self.inside in
    let slot : c.in_ok-command.command.slot < was.member.core.shape.slots = c.in_ok-command.ensures.taken.sized.slot in
    let few : was.geometry.slots ≤ 32 = c.self.invariant.limits.slots_allowed.1 in
    let same : was.member.core.shape.slots ≡ was.geometry.slots = ap (λ (s : Shape). s.slots) c.self.invariant.shape_is in
    omega arith

pub invariant_of-self-2 : goal.invariant_of-self-2
invariant_of-self-2 c =
    let was = c.self.inside in
    still was.geometry was.number was.member c.take_command.new.self c.self.invariant c.take_command.ensures.shard

pub returns : goal.returns
returns c =
    let was = c.self.inside in
    rw (← c.self.view_is) (hands_out was.geometry was.number was.member c.take_command.new.self was.at_work _ _ c.in_ok-command.command c.self.invariant c.in_ok-command.ensures.taken refl
    (ap (λ n. set was.at_work c.in_ok-command.command.slot n) c.saturating_add.ensures))
