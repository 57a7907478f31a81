use Rattle.std.proofs.Common.{◌≡◌, ℕ, ◌+◌, ◌∷◌, [], ◌≤◌, length, sym, ap, subst, ◌∙◌, arith, zero-add}
use Rattle.std.proofs.lemmas.List.{length-append}
use Rattle.r6_offline.specs.Rows.{Fits}
use Rattle.r6_offline.specs.ShardChecks.{IsShardCheck}
use Rattle.r6_offline.specs.Stretches.{FitsRows}
use Rattle.r6_offline.proofs.ShardLaws.{checks_push}
use Rattle.r6_offline.proofs.shard_check.checks_of.Goals as goal

pub loop-shard-preserved : goal.loop-shard-preserved
loop-shard-preserved g c =
    let shape = c.args.geometry.now in
    let so_far = c.loop-shard.invariant in
    let checks = c.loop-shard.checks.items in
    let check = c.in_ok-new.field-0 in
    let made = c.in_ok-new.ensures in
    let pushed = c.push_reserved.ensures.items in
    let long = length-append checks (check ∷ []) in
    let shard : 0 + length checks ≡ c.loop-shard.shard = zero-add (length checks) ∙ so_far.count in
    record {
      count = rw pushed (omega (arith, long, so_far.count));
      each = rw pushed (checks_push shape 0 checks check so_far.each
          (subst (λ (s : ℕ). IsShardCheck shape s check) (sym shard) (record {
            first = made.rows.0 ∙ c.shard_rows-rows.ensures.start;
            end = made.rows.1 ∙ c.shard_rows-rows.ensures.end;
            room = subst (λ it. Fits it check.check.reader) c.requires made.room;
            stretch = subst (λ it. FitsRows it check.stretch) c.requires made.stretch;
            places = made.parts ∙ ap (λ it. it.slots) c.requires;
          })));
      room = subst (λ (n : ℕ). shape.shards ≤ n) (sym c.push_reserved.ensures.capacity) so_far.room;
    }
