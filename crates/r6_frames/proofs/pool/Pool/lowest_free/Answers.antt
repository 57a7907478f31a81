use Rattle.std.proofs.Common.{◌≡◌, ◌<◌, ℕ, List, false, true, subst}
use Rattle.std.specs.Prelude.{MatchOption}
use Rattle.r6_frames.specs.declared.directs.Direct.{Direct}
use Rattle.r6_frames.specs.Directs.{direct_at, is_free_direct}
use Rattle.r6_frames.proofs.Pooled.{lowest_pooled}
use Rattle.r6_frames.proofs.pool.Pool.lowest_free.Goals as goal

pub returns : goal.returns
returns c =
    subst (λ (v : List Direct). MatchOption c.lowest.result ((number : ℕ) → is_free_direct (direct_at v number) ≡ false) (λ number. (number < 64) × (is_free_direct (direct_at v number) ≡ true)))
    c.self.view_is (lowest_pooled c.self.inside.free c.self.inside.buffers.items c.lowest.result c.self.invariant c.lowest.ensures)
