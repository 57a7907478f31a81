-- A shard whose ledger is clean is in service.
use Rattle.std.proofs.Common.{◌≡◌, Bool, List, false, sym, ap, refl, ◌∙◌, arith}
use Rattle.std.proofs.lemmas.Bool.{false≢true}
use Rattle.r6_world.specs.ShardStates.{is_away}
use Rattle.r6_world.proofs.Tables.{count-le}
use Rattle.r6_world.proofs.Laws.Counts.{none-held}
use Rattle.r6_core.specs.Shards.{CoreView, core_layout, world_shard}
use Rattle.r6_shard.specs.Counted.{IsInService}
use Rattle.r6_shard.specs.Whole.{IsClean, SkipsNone}

-- one that names no slot, saw none that wasn't in sync, and didn't see that the array failed
pub clean-serves : (core : CoreView) (named : List Bool) (saw_out : Bool) → SkipsNone core named saw_out → IsClean named saw_out
    → (world_shard core).saw_failed ≡ false → IsInService core
clean-serves core named saw_out whole clean unfailed =
    let l = core_layout core in
    let s = world_shard core in
    let few = count-le l.slots (λ d. is_away (s.slot d)) (λ d. false)
    (λ d below out. absurd (false≢true (sym (ap is_away ((whole clean).in_sync d below)) ∙ out))) in
    let none = none-held (λ d. false) l.slots (λ d. refl) in (omega (arith, few, none), unfailed)
