use Rattle.std.proofs.Common.{lit≤, sym, ◌∙◌}
use Rattle.r6_script.specs.Script.{task_word}
use Rattle.r6_script.proofs.ScriptLemmas.{cut_number, only_turn}
use Rattle.r6_script.proofs.parser.parse_turn.Goals as goal

pub returns-in_err-parse_task : goal.returns-in_err-parse_task
returns-in_err-parse_task c =
    let found = c.in_ok-shard.ensures in
    rw c.from_residual-in_err-parse_task.ensures (λ event is e. let said = only_turn c.args.text.now event e is in
    c.in_err-parse_task.ensures said.1 tt
    (cut_number 32 (lit≤ tt) c.in_ok-shard.shard said.0 c.in_ok-shard.word.now (task_word said.1) found.0 said.2 (sym found.1 ∙ said.3)).1)
