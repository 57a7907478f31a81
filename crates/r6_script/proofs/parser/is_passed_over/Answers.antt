use Rattle.std.proofs.Common.{◌≡◌, ◌==◌, Bool, false, [], ◌∷◌, length, get_or, lit<}
use Rattle.r6_script.specs.Script.{Text, is_passed_over}
use Rattle.r6_script.proofs.parser.is_passed_over.Goals as goal

by_first : (line : Text) (answer : Bool) → false ≡ (length line == 0) → answer ≡ (get_or line 0 0 == 35)
    → answer ≡ is_passed_over line
by_first [] answer some is = absurd (cc some)
by_first (byte ∷ bytes) answer some is = is

pub returns-else-is_empty : goal.returns-else-is_empty
returns-else-is_empty c =
    by_first c.args.line.now c.starts_with.result c.if-is_empty.ensures
    (c.starts_with.ensures.byte (lit< tt) (lit< tt) (λ w o h. h))
