use Rattle.std.proofs.Common.{◌≡◌, [], ◌∷◌, ◌++◌, rules, string_bytes, subst}
use Rattle.std.specs.Io.KnownBytes.{Appends}
use Rattle.r6_simulate.specs.Plays.{Plays}
use Rattle.r6_simulate.proofs.Passing.{on_ok}
use Rattle.r6_simulate.proofs.simulation.play_and_print.Goals as goal

pub returns : goal.returns
returns g c =
    let cleared : string_bytes c.clear.new.self ≡ [] = search rules in
    let ended : c.as_str.result.now ≡ string_bytes c.play.new.line ++ 10 ∷ [] = search rules in
    on_ok c.print.result _ _
    (λ writes. record {
      line = string_bytes c.play.new.line;
      plays = subst (λ text. Plays c.args.event c.args.simulation.now text c.play.new.self (string_bytes c.play.new.line)) cleared c.in_ok-play.ensures;
      writes = subst (λ text. Appends (g.W.Write.contents c.args.out.now) (g.W.Write.contents c.print.new.out) text) ended writes;
    })
    c.print.ensures.written
