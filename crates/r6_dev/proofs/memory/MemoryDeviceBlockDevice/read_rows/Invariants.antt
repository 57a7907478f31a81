use Rattle.r6_dev.proofs.Together.{FirstTogether}
use Rattle.r6_dev.proofs.memory.MemoryDeviceBlockDevice.read_rows.Given as goal

abbrev pub invariant-loop-index : goal.invariant-loop-index
invariant-loop-index l = FirstTogether l.first l.self-inside.block l.index l.self-inside.blocks.items l.bytes
