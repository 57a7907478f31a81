use Rattle.std.proofs.Common.{◌+◌, ◌-◌, ◌<◌, ℕ, List, length, ◌∙◌, ap, arith}
use Rattle.r6_recover.proofs.RestoreLaws.{Restores-set_two}
use Rattle.r6_recover.proofs.in_place.restore_with_p.Goals as goal

pub returns-clause-restores : goal.returns-clause-restores
returns-clause-restores c =
    let blocks : List (List ℕ) = c.args.blocks.now in
    let within : c.args.x + 2 < length blocks = c.requires.within in
    Restores-set_two (length blocks - 2) (length c.args.sum.now) c.args.x (length blocks - 2) blocks c.swap.new.x c.swap-2.new.x c.requires.long
    (ap length c.swap.ensures.x_after ∙ c.restore_with_p_into.ensures.same_length)
    (ap length c.swap-2.ensures.x_after ∙ c.restore_with_p_into.ensures.p_length ∙ c.requires.same)
    (omega arith) (omega arith)
    (λ full is agree. c.swap.ensures.x_after ∙ c.restore_with_p_into.ensures.target full is agree)
    (λ full is agree. c.swap-2.ensures.x_after ∙ c.restore_with_p_into.ensures.p full is agree)
