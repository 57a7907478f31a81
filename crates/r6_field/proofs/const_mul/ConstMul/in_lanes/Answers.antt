use Rattle.std.proofs.Common.{◌≡◌, ℕ, ◌*◌, ◌%◌, ◌∙◌, sym, ap, arith, get_or}
use Rattle.r6_field.specs.Field.{product}
use Rattle.r6_field.proofs.const_mul.ConstMul.in_lanes.Goals as goal

pub returns : goal.returns
returns c = c.twice.ensures.each 1 (omega arith) ∙ c.self.view_is

pub invariant_of-result : goal.invariant_of-result
invariant_of-result c =
    let is : get_or c.twice.result 1 0 ≡ get_or c.self.inside.low 1 0 = c.twice.ensures.each 1 (omega arith) in
    record {
      low = record {
        long = c.twice.ensures.long;
        each = λ k l. c.twice.ensures.each k l ∙ c.self.invariant.low (k % 16) (omega arith) ∙ ap (λ (a : ℕ). product a (k % 16)) (sym is);
      };
      high = record {
        long = c.twice-2.ensures.long;
        each = λ k l. c.twice-2.ensures.each k l ∙ c.self.invariant.high (k % 16) (omega arith) ∙ ap (λ (a : ℕ). product a (16 * (k % 16))) (sym is);
      };
    }
