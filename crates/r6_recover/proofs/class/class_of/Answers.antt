use Rattle.std.proofs.Common.{sym, ◌∙◌, true≢false}
use Rattle.r6_recover.specs.Classes.{IsZero, q_difference}
use Rattle.r6_recover.proofs.class.class_of.Goals as goal

pub returns-then-is_q_right : goal.returns-then-is_q_right
returns-then-is_q_right c =
    let zero_q : IsZero (q_difference c.args.blocks.now) = c.is_q_right.ensures.0 c.if-is_q_right.true in
    (λ zero_p. true≢false (sym (c.has_right_parities.ensures.1 (zero_p, zero_q)) ∙ c.if-has_right_parities.false), zero_q)
