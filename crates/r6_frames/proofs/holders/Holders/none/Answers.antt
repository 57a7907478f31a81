use Rattle.std.proofs.Common.{◌%◌, ◌<◌, ℕ, ap, ◌∙◌, arith}
use Rattle.std.specs.Prelude.{◌==◌}
use Rattle.std.proofs.lemmas.List.{get_or-replicate}
use Rattle.std.proofs.lemmas.Nat.Bits.{bit_at-zero}
use Rattle.r6_bits.specs.Words.{is_set}
use Rattle.r6_frames.proofs.holders.Holders.none.Goals as goal

pub returns : goal.returns
returns c row i inside =
    let below : row % 64 < 64 = omega arith in
    ap (λ bits. is_set bits i) (get_or-replicate {A = ℕ} 64 (row % 64) 0 0 below) ∙ ap (λ n. n == 1) (bit_at-zero i)
