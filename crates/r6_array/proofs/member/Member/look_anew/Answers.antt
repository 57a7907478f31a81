use Rattle.std.proofs.Common.{◌∙◌, refl, ap}
use Rattle.std.proofs.lemmas.Result.{err_from_is_err_and}
use Rattle.r6_tables.specs.Table.{entries_of}
use Rattle.r6_core.specs.Shards.{CoreView, core_layout, world_shard}
use Rattle.r6_array.specs.Arrays.{ShardView}
use Rattle.r6_array.proofs.Events.{looked}
use Rattle.r6_array.proofs.Members.{looked_member, settled_so}
use Rattle.r6_array.proofs.Replacing.{untold-only}
use Rattle.r6_array.proofs.member.Member.look_anew.Goals as goal

pub next_call-self-inside-requires : goal.next_call-self-inside-requires
next_call-self-inside-requires c =
    let core = c.self.inside.core in
    (looked (core_layout core) core.shard (world_shard core) c.args.register.now (world_shard c.look.new.self) c.in_ok-look.ensures.looked.step.1).untold
    ∙ c.self.invariant.told

pub invariant_of-self-2 : goal.invariant_of-self-2
invariant_of-self-2 c =
    let was = c.self.inside in
    looked_member was.core c.look.new.self c.next_call-self-inside.new.core was.names was.settled c.is_none-self-inside.result was.change c.next_call-self-inside.result was.taken
    c.args.register.now c.self.invariant c.in_ok-look.ensures.looked c.next_call-self-inside.ensures c.is_none-self-inside.ensures

pub returns-in_err-look-clause-refused : goal.returns-in_err-look-clause-refused
returns-in_err-look-clause-refused c =
    let was = c.self.inside in
    let refused = c.in_err-look.ensures.refused in
    let why = untold-only was.core c.args.register.now c.in_err-look.field-0.0 c.requires refused.fault in
    let p = err_from_is_err_and c.from_residual.result c.from_residual.ensures.1 in
    let of : CoreView → ShardView = λ core. record { core = core; names = entries_of was.names; settled = was.settled } in
    rw (p.1, p.2, ← c.self.view_is) (ap of refused.same, why.0, why.1)

pub returns-clause-looked : goal.returns-clause-looked
returns-clause-looked c = rw (← c.self.view_is) (record {
  core = c.look.new.self;
  looks = c.in_ok-look.ensures.looked;
  sees = c.next_call-self-inside.ensures.0;
  names = refl;
  settled = settled_so c.next_call-self-inside.result c.next_call-self-inside.ensures.0.change c.is_none-self-inside.result c.is_none-self-inside.ensures
      c.next_call-self-inside.ensures.1;
})
