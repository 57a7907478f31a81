use Rattle.std.proofs.Common.{◌≡◌, ℕ, subst, sym}
use Rattle.r6_world.specs.Changes.{Release, after}
use Rattle.r6_core.specs.Shards.{state_of, layout_in}
use Rattle.r6_core.specs.Inside.{IsSettled, ReleasesFinished, Seen}
use Rattle.r6_core.proofs.Releasing.{all_released, released_order, released_settled}
use Rattle.r6_core.proofs.state.State.release.Goals as goal

pub returns-clause-core : goal.returns-clause-core
returns-clause-core c =
    let s = c.args.self.now in
    subst (λ (n : ℕ). IsSettled (record s { released = n })) (sym c.len-self.ensures.len) (released_settled s c.requires.core)

pub returns-clause-released : goal.returns-clause-released
returns-clause-released c =
    let s = c.args.self.now in
    subst (λ (n : ℕ). state_of (record s { released = n }) ≡ after (layout_in s) (state_of s) Release) (sym c.len-self.ensures.len) (all_released s c.requires.unfailed)

pub returns-clause-order : goal.returns-clause-order
returns-clause-order c =
    let s = c.args.self.now in
    subst (λ (n : ℕ). Seen ReleasesFinished s (record s { released = n })) (sym c.len-self.ensures.len) (released_order s)
