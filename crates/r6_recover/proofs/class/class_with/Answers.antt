use Rattle.std.proofs.Common.{length}
use Rattle.r6_recover.proofs.DifferenceLaws.{as_first}
use Rattle.r6_recover.proofs.class.class_with.Goals as goal

pub has_right_parities-is_full-requires-clause-long : goal.has_right_parities-is_full-requires-clause-long
has_right_parities-is_full-requires-clause-long c = as_first (length c.args.p.now) c.args.blocks.now c.requires.count c.requires.long
