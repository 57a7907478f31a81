use Rattle.std.proofs.Common.{length, sym, ap, subst, arith}
use Rattle.r6_tables.specs.Places.{live, IsRising}
use Rattle.r6_tables.proofs.table.Table.with_capacity.Goals as goal

pub invariant_of-result : goal.invariant_of-result
invariant_of-result g c =
    let none = c.in_ok-with_capacity.ensures.items in
    record {
      countable = c.requires.countable;
      room = c.in_ok-with_capacity.ensures.exact;
      rising = subst (IsRising 0 0) (sym none) (omega arith);
      counted = sym (ap (λ places. length (live places)) none);
    }
