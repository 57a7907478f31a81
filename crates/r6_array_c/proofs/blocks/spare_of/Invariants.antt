use Rattle.std.proofs.Common.{◌≡◌, length, vec_capacity}
use Rattle.std.specs.Prelude.{All}
use Rattle.r6_array_c.proofs.blocks.spare_of.Given as goal

abbrev pub invariant-loop : goal.invariant-loop
invariant-loop l =
    record {
      count : length l.spare.items ≡ l.counter;
      room : vec_capacity l.spare ≡ l.count;
      buffers : All (λ buffer. length buffer ≡ l.bytes) l.spare.items;
    }
