use Rattle.std.proofs.Common.{◌≡◌, ◌≢◌, ◌<◌, ℕ}
use Rattle.r6_field.specs.Field.{power, generator}
use Rattle.r6_kernels.specs.Blocks.{scale}
use Rattle.r6_recover.proofs.class.wrong_block.Given as goal

abbrev pub invariant-loop-index : goal.invariant-loop-index
invariant-loop-index l = record {
  others : (k : ℕ) → k < l.index → l.fn.q ≢ scale (power generator k) l.p;
  kept : l.q ≡ l.fn.q;
}
