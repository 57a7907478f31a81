use Rattle.std.proofs.Common.{ap, sym}
use Rattle.r6_offline.specs.Errors.{number_of}
use Rattle.r6_offline.proofs.error.EngineError.number.Goals as goal

pub returns-in-ThreadRefused : goal.returns-in-ThreadRefused
returns-in-ThreadRefused c = ap number_of (sym c.in-ThreadRefused.is)
