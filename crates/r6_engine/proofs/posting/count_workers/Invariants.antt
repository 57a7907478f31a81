use Rattle.std.proofs.Common.{◌≡◌, length, take}
use Rattle.r6_engine.specs.Crews.{exchanges_at}
use Rattle.r6_engine.proofs.posting.count_workers.Given as goal

abbrev pub invariant-loop-site : goal.invariant-loop-site
invariant-loop-site g l = l.count ≡ length (exchanges_at (take l.site-index l.fn.sites))
