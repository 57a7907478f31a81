use Rattle.std.proofs.Common.{refl, rules}
use Rattle.r6_simulate.proofs.PutOut.{puts_reply}
use Rattle.r6_simulate.proofs.shard.Shard.put_out_replies.Goals as goal

pub loop-id-preserved-in_ok-write_reply : goal.loop-id-preserved-in_ok-write_reply
loop-id-preserved-in_ok-write_reply c =
    puts_reply _ _ _ _ _ _ (c.in-Some.id, c.in-Some.reply) c.loop-id.invariant (search rules) ((refl, c.in-Some.ensures.window), refl)
    (search rules)

pub loop-id-preserved-in_ok-write_reply-2 : goal.loop-id-preserved-in_ok-write_reply-2
loop-id-preserved-in_ok-write_reply-2 c =
    puts_reply _ _ _ _ _ _ (c.in-Some.id, c.in-Some.reply) c.loop-id.invariant (search rules) ((refl, c.in-Some.ensures.window), refl)
    (search rules)

pub loop-id-preserved : goal.loop-id-preserved
loop-id-preserved c =
    puts_reply _ _ _ _ _ _ (c.in-Some.id, c.in-Some.reply) c.loop-id.invariant (search rules) ((refl, c.in-Some.ensures.window), refl)
    (search rules)

pub returns : goal.returns
returns c =
    record {
      last = c.loop-id.self;
      takes = c.loop-id.invariant;
      ends = c.in_default.ensures.reply;
      kept = ((refl, c.in_default.ensures.window), refl);
    }
