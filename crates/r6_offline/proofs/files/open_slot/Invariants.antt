use Rattle.std.proofs.Common.{◌≡◌, ◌≤◌, length, vec_capacity}
use Rattle.r6_offline.proofs.FileLaws.{SlotOpened}
use Rattle.r6_offline.proofs.files.open_slot.Given as goal

abbrev pub invariant-loop-shard : goal.invariant-loop-shard
invariant-loop-shard g l = record {
  count : length l.parts.items ≡ l.shard;
  room : l.shards ≤ vec_capacity l.parts;
  opened : SlotOpened l.geometry l.path l.access l.shard l.parts.items;
}
