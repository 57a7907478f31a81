use Rattle.std.proofs.Common.{◌≡◌, ◌<◌, ◌≤◌, ℕ, length, Some}
use Rattle.std.specs.Prelude.{slice_get}
use Rattle.r6_array.specs.Arrays.{ShardView}
use Rattle.r6_array.specs.Members.{IsNewMember}
use Rattle.r6_array.proofs.array.members_of.Given as goal

abbrev pub invariant-loop-shard : goal.invariant-loop-shard
invariant-loop-shard l = record {
  count : length l.members.items ≡ l.shard;
  made : (n : ℕ) (s : ShardView) → slice_get l.members.items n ≡ Some s → IsNewMember l.geometry l.register n l.window s;
}
