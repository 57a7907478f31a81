use Rattle.std.proofs.Common.{◌≡◌, ◌+◌, ◌-◌, ℕ, List, length, ◌∙◌, ap, arith}
use Rattle.r6_recover.proofs.RestoreLaws.{RestoresBlock-set, value_of_p}
use Rattle.r6_recover.proofs.in_place.restore_p.Goals as goal

pub returns-clause-restores : goal.returns-clause-restores
returns-clause-restores c =
    let blocks : List (List ℕ) = c.args.blocks.now in
    let m : ℕ = length blocks - 2 in
    let len : ℕ = length c.args.sum.now in
    let least = c.requires.count in
    let count : length blocks ≡ m + 2 = omega arith in
    RestoresBlock-set m len m (m + 1) blocks c.swap.new.x c.requires.long
    (ap length c.swap.ensures.x_after ∙ c.parity.ensures.p_length)
    (omega arith)
    (λ full is agree. c.swap.ensures.x_after ∙ c.parity.ensures.p ∙ value_of_p m len blocks full count is agree)
