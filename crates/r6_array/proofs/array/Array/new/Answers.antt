use Rattle.std.proofs.Common.{rules, sym, refl, subst}
use Rattle.r6_world.specs.Registers.{Snapshot}
use Rattle.r6_array.specs.News.{AreNew}
use Rattle.r6_array.specs.Inside.{ReplacesOne}
use Rattle.r6_array.proofs.Replacing.{replaces-at-first}
use Rattle.r6_array.proofs.array.Array.new.Goals as goal

pub returns-clause-made : goal.returns-clause-made
returns-clause-made c = record {
  shape_is = refl;
  register_is = c.start-register.ensures;
  shards = subst (λ (r : Snapshot). AreNew c.args.geometry r c.args.window c.in_ok-members.members.items) c.start-register.ensures c.in_ok-members.ensures.made;
  idle = refl;
}

pub invariant_of-result : goal.invariant_of-result
invariant_of-result c = (search rules, subst ReplacesOne (sym c.start-register.ensures) (replaces-at-first c.args.lost))
