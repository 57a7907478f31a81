use Rattle.r6_array.proofs.Members.{new_member}
use Rattle.r6_array.proofs.member.Member.new.Goals as goal

pub invariant_of-result : goal.invariant_of-result
invariant_of-result c =
    new_member c.args.geometry c.args.register.now c.args.shard c.in-Ok.core c.in-Ok-with_capacity.names c.in-Ok.ensures.made c.in-Ok-with_capacity.ensures
