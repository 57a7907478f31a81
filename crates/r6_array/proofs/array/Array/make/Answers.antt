use Rattle.std.proofs.Common.{◌≡◌, ◌∙◌, sym, subst}
use Rattle.std.proofs.lemmas.Option.{get_or_from_slice_get}
use Rattle.r6_array.specs.Arrays.{ShardView, ArrayView, Has}
use Rattle.r6_array.specs.Members.{Agrees}
use Rattle.r6_array.specs.Effects.{IsNextChange}
use Rattle.r6_array.proofs.Calls.{array_with}
use Rattle.r6_array.proofs.Changes.{agreed_to}
use Rattle.r6_array.proofs.Replacing.{replaces-agreed}
use Rattle.r6_array.proofs.array.Array.make.Goals as goal

pub invariant_of-self : goal.invariant_of-self
invariant_of-self c =
    let was = c.self.inside in
    let a : ArrayView = record { shape = was.geometry; register = was.register; shards = was.members.items; at_work = was.at_work } in
    let next : IsNextChange a c.args.change = subst (λ v. IsNextChange v c.args.change) (sym c.self.view_is) c.requires in
    let is : c.index_mut.result.now ≡ next.0 = c.index_mut.ensures.value ∙ get_or_from_slice_get was.members.items c.args.change.shard next.0 c.index_mut.result.now next.1 in
    let has = subst (Has a c.args.change.shard) (sym is) next.1 in (
      array_with a c.args.change.shard c.index_mut.result.now c.agree-answer.new.self c.self.invariant.0 has c.agree-answer.ensures.shard,
      replaces-agreed was.geometry c.args.change.shard c.index_mut.result.now was.register c.args.change.call c.agree-answer.result.0 c.agree-answer.result.1
          c.agree-answer.new.self c.agree-answer.ensures.agreed c.self.invariant.1,
    )

pub returns : goal.returns
returns c =
    let was = c.self.inside in
    let a : ArrayView = record { shape = was.geometry; register = was.register; shards = was.members.items; at_work = was.at_work } in
    let next : IsNextChange a c.args.change = subst (λ v. IsNextChange v c.args.change) (sym c.self.view_is) c.requires in
    let is : c.index_mut.result.now ≡ next.0 = c.index_mut.ensures.value ∙ get_or_from_slice_get was.members.items c.args.change.shard next.0 c.index_mut.result.now next.1 in
    let answer = c.agree-answer.result.0 in
    let register = c.agree-answer.result.1 in
    rw (← c.self.view_is) (agreed_to a c.args.change answer register c.agree-answer.new.self c.unsettle_by.new.self c.self.invariant.0 next
    (subst (λ (s : ShardView). Agrees was.geometry c.args.change.shard s was.register c.args.change.call answer register c.agree-answer.new.self) is c.agree-answer.ensures.agreed)
    c.unsettle_by.ensures)
