use Rattle.std.proofs.Common.{◌∙◌, refl}
use Rattle.r6_world.specs.Values.{completion_of, receipt_of}
use Rattle.r6_core.specs.Shards.{core_layout, world_shard}
use Rattle.r6_array.proofs.Events.{delivered}
use Rattle.r6_array.proofs.Members.{delivered_member}
use Rattle.r6_array.proofs.member.Member.deliver.Goals as goal

pub next_call-self-inside-requires : goal.next_call-self-inside-requires
next_call-self-inside-requires c =
    let core = c.self.inside.core in
    (delivered (core_layout core) core.shard (world_shard core) c.args.token (completion_of c.args.completion) (receipt_of c.in-Ok.receipt) (world_shard c.deliver.new.self)
    c.in-Ok.ensures.received.step.1).untold
    ∙ c.self.invariant.told

pub invariant_of-self : goal.invariant_of-self
invariant_of-self c =
    let was = c.self.inside in
    delivered_member was.core c.deliver.new.self c.next_call-self-inside.new.core was.names was.settled was.change c.next_call-self-inside.result was.taken c.args.token c.args.completion
    c.in-Ok.receipt c.self.invariant c.in-Ok.ensures.received c.next_call-self-inside.ensures

pub returns-in-Ok-clause-received : goal.returns-in-Ok-clause-received
returns-in-Ok-clause-received c = rw (← c.self.view_is) (record {
  core = c.deliver.new.self;
  receives = c.in-Ok.ensures.received;
  sees = c.next_call-self-inside.ensures.0;
  names = refl;
  settled = refl;
})
