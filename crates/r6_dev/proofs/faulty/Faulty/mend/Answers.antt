use Rattle.std.proofs.Common.{rules}
use Rattle.std.proofs.lemmas.Fn.{filter_same}
use Rattle.r6_dev.proofs.faulty.Faulty.mend.Goals as goal

pub returns-clause-mended : goal.returns-clause-mended
returns-clause-mended g c = filter_same _ _ _ (λ x b f' k. search rules) _ _ c.retain.ensures.filtered
