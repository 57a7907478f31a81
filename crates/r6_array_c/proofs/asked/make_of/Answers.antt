use Rattle.std.proofs.Common.{◌≡◌, rules, arith, subst, sym}
use Rattle.std.proofs.lemmas.Grind.{common_steps}
use Rattle.r6_array_c.specs.Questions.{Answers}
use Rattle.r6_array_c.proofs.Questions.{answers_staged}
use Rattle.r6_array_c.proofs.asked.make_of.Goals as goal
use Rattle.r6_array_c.proofs.asked.make_of.Goals.{in-1, in-21, in-22, in-23, in-4, in-5, in-6, in-7, in-24, in-8, in-20, in-9, in_default}

-- src/asked.rt:49:1
pub returns : goal.returns
returns c =
    elim c.match-mail.branch [
      | in-1 w ↦ grind (arith, common_steps)
      | in-21 w ↦ grind (arith, common_steps)
      | in-22 w ↦ grind (arith, common_steps)
      | in-23 w ↦ grind (arith, common_steps)
      | in-4 w ↦ grind (arith, common_steps)
      | in-5 w ↦ grind (arith, common_steps)
      | in-6 w ↦ grind (arith, common_steps)
      | in-7 w ↦ grind (arith, common_steps)
      | in-24 w ↦ grind (arith, common_steps)
      | in-8 w ↦ grind (arith, common_steps)
      | in-20 w ↦ grind (arith, common_steps)
      | in-9 w ↦ grind (arith, common_steps)
      | in_default w ↦ record {
        submit = grind (arith, common_steps);
        gather = grind (arith, common_steps);
        submit_all = grind (arith, common_steps);
        release = grind (arith, common_steps);
        reply = grind (arith, common_steps);
        change = grind (arith, common_steps);
        agree = grind (arith, common_steps);
        fail = grind (arith, common_steps);
        lose = grind (arith, common_steps);
        attach = grind (arith, common_steps);
        replace = grind (arith, common_steps);
        turn = grind (arith, common_steps);
        question = λ _. (
          let same : c.match-mail.mail ≡ w.ask-answer.new.mail = search rules in
              subst (λ m. Answers c.args.mail.now c.args.host.now.array c.match-mail.answer (record m { stage = c.stage_at-mail.result })) (sym same)
              (answers_staged c.args.mail.now c.args.host.now.array c.match-mail.answer w.ask-answer.new.mail c.stage_at-mail.result (search rules)),
          search rules,
        );
        kept = search rules;
        stage = search rules;
      }
    ]
