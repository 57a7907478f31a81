use Rattle.std.proofs.Common.{rules}
use Rattle.std.proofs.lemmas.Fn.{filter_same}
use Rattle.r6_waiters.proofs.Lines.{has_value}
use Rattle.r6_waiters.proofs.waiters.drop_empty.Goals as goal

pub returns-clause-kept : goal.returns-clause-kept
returns-clause-kept g c = filter_same _ has_value _ (λ x b f' k. search rules) _ _ c.retain.ensures.filtered
