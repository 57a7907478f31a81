use Rattle.r6_tables.specs.Table.{entries_of}
use Rattle.std.proofs.Common.{false, ◌≡◌, ◌∙◌, refl, ap, subst}
use Rattle.r6_core.specs.declared.call.Call.{Call}
use Rattle.r6_array.specs.Arrays.{ShardView, first_of}
use Rattle.r6_array.specs.Members.{Agrees}
use Rattle.r6_core.specs.Shards.{world_shard}
use Rattle.r6_array.proofs.Members.{agreed_member, same_call, trans_kept}
use Rattle.r6_array.proofs.member.Member.agree.Goals as goal

pub invariant_of-self : goal.invariant_of-self
invariant_of-self c =
    let was = c.self.inside in
    agreed_member was.core c.take_call.new.self c.told.new.self c.next_call-self-inside.new.core was.names was.settled was.change c.next_call-self-inside.result was.taken c.in-Some.call
    c.made-answer.result.0 c.self.invariant c.in-Some.ensures.step c.in-Ok.ensures.heard.step (c.told.ensures.kept.0.1 ∙ c.take_call.ensures.kept.0.1) c.next_call-self-inside.ensures

pub returns-clause-agreed : goal.returns-clause-agreed
returns-clause-agreed c =
    let new : ShardView = record { core = c.next_call-self-inside.new.core; names = entries_of c.self.inside.names; settled = false } in
    let next = ap (λ (s : ShardView). first_of (world_shard s.core).calls) c.self.view_is ∙ c.requires.next in
    let is : c.in-Some.call ≡ c.args.call = same_call c.self.inside.core c.take_call.new.self c.in-Some.call c.args.call c.in-Some.ensures.step next in
    subst (λ (call : Call). Agrees c.args.geometry.now c.args.shard c.args.self.now c.args.register.now call c.made-answer.result.0 c.made-answer.result.1 new) is
    (rw (← c.self.view_is) (record {
      middle = c.take_call.new.self;
      core = c.told.new.self;
      taken = c.in-Some.ensures.step;
      told = c.in-Ok.ensures.heard.step;
      answer_is = c.made-answer.ensures.answer;
      register_is = c.made-answer.ensures.register;
      sees = c.next_call-self-inside.ensures.0;
      kept = trans_kept c.self.inside.core c.told.new.self c.next_call-self-inside.new.core
          (trans_kept c.self.inside.core c.take_call.new.self c.told.new.self c.take_call.ensures.kept c.told.ensures.kept) c.next_call-self-inside.ensures.0.kept;
      names = refl;
      settled = refl;
    }))
