use Rattle.std.proofs.Common.{ℕ, ◌*◌, List, ◌∙◌, ap, arith, get_or, bit_xor, Fits, w8}
use Rattle.std.proofs.lemmas.Simd.{Each1-get_or}
use Rattle.r6_field.specs.Field.{product}
use Rattle.r6_field.proofs.Halves.{product_of_halves}
use Rattle.r6_field.proofs.lane_tables.LaneTables.mul_lanes.Goals as goal

pub returns : goal.returns
returns c =
    let bytes : List ℕ = c.args.bytes in
    let constant : ℕ = get_or c.self.inside.low 1 0 in
    let lower = c.at_lower_halves.ensures (product constant) c.self.invariant.low in
    let upper = c.at_upper_halves.ensures (λ n. product constant (16 * n)) c.self.invariant.high in
    record {
      long = c.sum.ensures.long;
      each = λ k h.
          c.sum.ensures.each k h
          ∙ (λ i. bit_xor (lower.each k h i) (upper.each k h i))
          ∙ product_of_halves constant (get_or bytes k 0) (Each1-get_or (Fits w8) bytes k 0 (omega (arith, c.fits-bytes.0)) c.fits-bytes.1).fits
          ∙ ap (λ (a : ℕ). product a (get_or bytes k 0)) c.self.view_is;
    }
