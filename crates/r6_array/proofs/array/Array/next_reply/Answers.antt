use Rattle.std.proofs.Common.{◌≡◌, ◌∙◌, sym, ap, length, length-set, refl, subst, arith, add-one}
use Rattle.r6_array.specs.Arrays.{ArrayView}
use Rattle.r6_array.specs.Effects.{PassesOver, No_shard, One_more}
use Rattle.r6_array.proofs.Replies.{none_looked, looks_on, hands_reply}
use Rattle.r6_array.proofs.array.Array.next_reply.Goals as goal

pub loop-shard-init : goal.loop-shard-init
loop-shard-init c =
    let e = ap (λ (v : ArrayView). length v.shards) c.self.view_is in
    record { passes = No_shard c.args.self.now; looked = none_looked c.args.self.now; count = refl; end = omega (arith, e, c.len-shard-end.ensures) }

pub loop-shard-preserved : goal.loop-shard-preserved
loop-shard-preserved c =
    let k = c.loop-shard.shard in
    let none = c.in_default.ensures in
    record {
      passes = subst (λ m. PassesOver c.args.self.now m c.reply_of.new.self) (sym (add-one k)) (One_more c.args.self.now c.loop-shard.self c.reply_of.new.self k c.loop-shard.invariant.passes none);
      looked = looks_on c.args.self.now c.loop-shard.self c.reply_of.new.self k none.settled c.loop-shard.invariant.looked none.looks;
      count = ap (λ (v : ArrayView). length v.shards) none.looks.new_is ∙ length-set c.loop-shard.self.shards k none.looks.now ∙ c.loop-shard.invariant.count;
      end = c.loop-shard.invariant.end;
    }

pub returns-in-Some : goal.returns-in-Some
returns-in-Some c =
    hands_reply c.args.self.now c.loop-shard.self c.reply_of.new.self c.loop-shard.shard c.in-Some.found.0 c.in-Some.found.1
    c.loop-shard.invariant.passes c.loop-shard.invariant.looked c.in-Some.ensures
