use Rattle.std.proofs.Common.{◌∙◌, ℕ, List, ◌+◌, ◌∷◌, [], ap, length, length-append, refl, subst, sym}
use Rattle.r6_core.specs.Effects.{IsMade}
use Rattle.r6_simulate.specs.Beginnings.{IsFirstShard}
use Rattle.r6_simulate.specs.Devices.{IsAt}
use Rattle.r6_simulate.specs.declared.shard.Shard.{Shard}
use Rattle.r6_simulate.proofs.Places.{each_more}
use Rattle.r6_simulate.proofs.array.shards_of.Goals as goal

pub loop-number-preserved : goal.loop-number-preserved
loop-number-preserved c =
    let i = c.loop-number.invariant in
    let n = c.loop-number.number in
    let shards : List Shard = c.loop-number.shards.items in
    let more : Shard = record { number = n; core = c.in-Ok.core; in_flight = c.new-in-Ok.result } in
    let first : IsFirstShard c.args.geometry n more = record {
      number_is = refl;
      core = subst (λ snapshot. IsMade c.args.geometry snapshot n c.in-Ok.core) c.start-snapshot.ensures
          c.in-Ok.ensures.made;
      window = c.in-Ok.ensures.window;
      in_flight = c.new-in-Ok.ensures.empty;
    } in
    let pushed = c.in_ok-push-in-Ok.ensures.items in
    record {
      count = ap (λ (items : List Shard). length items) pushed ∙ length-append shards (more ∷ []) ∙ ap (λ k. k + 1) i.count;
      each = subst (λ (items : List Shard). (place : ℕ) (shard : Shard) → IsAt items place shard → IsFirstShard c.args.geometry place shard)
          (sym pushed)
          (each_more (IsFirstShard c.args.geometry) shards more i.each (subst (λ k. IsFirstShard c.args.geometry k more) (sym i.count) first));
    }
