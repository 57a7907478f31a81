use Rattle.std.proofs.Common.{◌∙◌, ap, sym, subst}
use Rattle.std.specs.Io.KnownBytes.{Keeps}
use Rattle.r6_script.specs.Script.{Said, said_of}
use Rattle.r6_execute.specs.Commands.{Plays}
use Rattle.r6_execute.proofs.Played.{played_kept}
use Rattle.r6_execute.proofs.commands.play.Goals as goal
use Rattle.r6_execute.proofs.commands.play.Goals.{in-Some+in_ok-simulate-in-Some, in-None}

pub returns-clause-ok : goal.returns-clause-ok
returns-clause-ok g c =
    let PlaysAs : Said → Type 0 = λ said. Plays said (g.W.Write.contents c.args.out.now) (g.W.Write.contents c.finish.new.out) c.match-branch-2.ending in (
      said_of c.in_ok-script.field-0,
      c.in_ok-script.ensures.ok,
      elim c.match-branch-2.branch [
        | in-Some+in_ok-simulate-in-Some w ↦
            subst PlaysAs (sym (ap said_of w.in-Some.is)) (
              w.in_ok-simulate-in-Some.field-0,
              w.ending-is ∙ w.from-ending.ensures,
              played_kept _ _ _ _ _ _ w.in_ok-simulate-in-Some.ensures (subst (λ out. Keeps (g.W.Write.contents out) (g.W.Write.contents c.finish.new.out)) w.out-is c.finish.ensures.kept),
            )
        | in-None w ↦
            subst PlaysAs (sym (ap said_of w.in-None.is)) (
              w.ending-is,
              subst (λ out. Keeps (g.W.Write.contents out) (g.W.Write.contents c.finish.new.out)) w.out-is c.finish.ensures.kept,
            )
      ],
    )
