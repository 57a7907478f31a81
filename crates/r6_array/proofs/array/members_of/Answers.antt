use Rattle.std.proofs.Common.{◌≡◌, ◌∙◌, sym, ap, subst, length, Some, inl, inr, ◌+◌, length-append}
use Rattle.std.specs.Prelude.{slice_get}
use Rattle.r6_array.specs.Arrays.{ShardView}
use Rattle.r6_array.specs.Members.{IsNewMember}
use Rattle.r6_array.proofs.Calls.{pushed-cases}
use Rattle.r6_array.proofs.array.members_of.Goals as goal

pub loop-shard-preserved : goal.loop-shard-preserved
loop-shard-preserved c =
    let was = c.loop-shard.members.items in
    let member = c.in_ok-member.member in
    let items = c.in-Ok.ensures.items in
    record {
      count = ap length items ∙ length-append was _ ∙ ap (λ n. n + 1) c.loop-shard.invariant.count;
      made = λ n s e. elim (pushed-cases was member n s (ap (λ xs. slice_get xs n) (sym items) ∙ e)) [
        | inl old ↦ c.loop-shard.invariant.made n s old
        | inr new ↦ subst (λ (v : ShardView). IsNewMember c.args.geometry.now c.args.register.now n c.args.window v) (sym new.1)
            (subst (λ k. IsNewMember c.args.geometry.now c.args.register.now k c.args.window member) (sym (new.0 ∙ c.loop-shard.invariant.count)) c.in_ok-member.ensures.made)
      ];
    }
