use Rattle.std.proofs.Common.{◌≡◌, ◌++◌, rules, string_bytes, subst}
use Rattle.r6_simulate.specs.AtShards.{PutsReplies}
use Rattle.r6_simulate.specs.Lines.{outcome_text}
use Rattle.r6_simulate.proofs.Passing.{on_ok}
use Rattle.r6_simulate.proofs.shard.Shard.report.Goals as goal

pub returns : goal.returns
returns c =
    let written : string_bytes c.write.new.self ≡ string_bytes c.args.line.now ++ outcome_text c.args.outcome = search rules in
    on_ok c.put_out_commands.result _ _
    (λ commands. record {
      middle = c.put_out_replies.new.self;
      middle_text = string_bytes c.put_out_replies.new.line;
      replies = subst (λ text. PutsReplies c.args.self.now text c.put_out_replies.new.self (string_bytes c.put_out_replies.new.line)) written c.in_ok-put_out_replies.ensures;
      commands = commands;
    })
    c.put_out_commands.ensures
