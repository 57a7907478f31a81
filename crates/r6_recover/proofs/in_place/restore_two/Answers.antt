use Rattle.std.proofs.Common.{◌+◌, ◌-◌, ◌<◌, ℕ, List, length, ◌∙◌, ap, arith}
use Rattle.r6_recover.proofs.RestoreLaws.{Restores-set_two}
use Rattle.r6_recover.proofs.in_place.restore_two.Goals as goal

pub returns-clause-restores : goal.returns-clause-restores
returns-clause-restores c =
    let blocks : List (List ℕ) = c.args.blocks.now in
    let within : c.args.y + 2 < length blocks = c.requires.within in
    Restores-set_two (length blocks - 2) (length c.args.sum.now) c.args.x c.args.y blocks c.swap.new.x c.swap-2.new.x c.requires.long
    (ap length c.swap.ensures.x_after ∙ c.restore_two_into.ensures.first_length)
    (ap length c.swap-2.ensures.x_after ∙ c.restore_two_into.ensures.second_length ∙ c.requires.same)
    c.requires.before (omega arith)
    (λ full is agree. c.swap.ensures.x_after ∙ c.restore_two_into.ensures.first full is agree)
    (λ full is agree. c.swap-2.ensures.x_after ∙ c.restore_two_into.ensures.second full is agree)
