use Rattle.std.proofs.Common.{◌∙◌, subst}
use Rattle.std.proofs.lemmas.Result.{on_ok_weaker}
use Rattle.std.specs.Io.KnownBytes.{Appends}
use Rattle.r6_settings.specs.Settings.{values_of}
use Rattle.r6_execute.specs.Commands.{HasPrinted}
use Rattle.r6_execute.proofs.commands.print_geometry.Goals as goal

pub returns-clause-ok : goal.returns-clause-ok
returns-clause-ok g c =
    let text = g.S.Read.remaining c.args.settings.now in
    let old = g.W.Write.contents c.args.out.now in
    let new = g.W.Write.contents c.print.new.out in
    let told : Appends old new c.as_str.result.now → HasPrinted text old new = λ appends. (
      values_of c.in_ok-config.config,
      c.in_ok-config.ensures.ok,
      subst (Appends old new) (c.as_str.ensures.value ∙ c.in_ok-text.ensures) appends,
    ) in
    on_ok_weaker c.print.result told c.print.ensures.written
