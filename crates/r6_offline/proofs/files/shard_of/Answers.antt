use Rattle.std.proofs.Common.{ℕ, ◌*◌, ◌<◌, sym, subst, arith}
use Rattle.std.proofs.lemmas.Nat.{div_below}
use Rattle.r6_offline.proofs.files.shard_of.Goals as goal

pub returns-clause-within : goal.returns-clause-within
returns-clause-within c =
    let shape = c.args.geometry.now in
    let number = c.args.number in
    let slots : ℕ = c.slots.result in
    let some : 0 < slots = omega (arith, c.slots.ensures.value, c.slots.ensures.limits.slots_allowed.0) in
    div_below number slots shape.shards some (subst (λ (n : ℕ). number < shape.shards * n) (sym c.slots.ensures.value) c.requires)
