use Rattle.std.proofs.Common.{ap, sym}
use Rattle.r6_settings.specs.Keys.{name_of}
use Rattle.r6_settings.proofs.key.Key.name.Goals as goal

pub returns-in-Window : goal.returns-in-Window
returns-in-Window c = sym (ap name_of c.in-Window.is)
