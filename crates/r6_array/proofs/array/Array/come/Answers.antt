use Rattle.std.proofs.Common.{◌≡◌, sym, subst, Ok}
use Rattle.r6_health.specs.Registers.{answer, after}
use Rattle.r6_world.specs.Geometries.{layout_of}
use Rattle.r6_world.specs.Registers.{answer_to, register_after}
use Rattle.r6_array.specs.Arrays.{ArrayView}
use Rattle.r6_array.specs.Inside.{ReplacesOne}
use Rattle.r6_array.proofs.Changes.{comes_from}
use Rattle.r6_array.proofs.Replacing.{replaces-after}
use Rattle.r6_array.proofs.array.Array.come.Goals as goal

pub invariant_of-self : goal.invariant_of-self
invariant_of-self c =
    let was = c.self.inside in (
      c.self.invariant.0,
      subst ReplacesOne (sym c.in-Ok.ensures.1) (replaces-after _ _ was.register c.args.call c.in-Ok.answer c.in-Ok.ensures.0 c.self.invariant.1),
    )

pub returns-in-Ok-clause-taken : goal.returns-in-Ok-clause-taken
returns-in-Ok-clause-taken c =
    let was = c.self.inside in
    let a : ArrayView = record { shape = was.geometry; register = was.register; shards = was.members.items; at_work = was.at_work } in
    let is : answer_to (layout_of was.geometry) was.register c.args.call ≡ Ok c.in-Ok.answer =
    subst (λ n. answer n was.geometry.shards was.register c.args.call ≡ Ok c.in-Ok.answer) c.slots.ensures.value
    (subst (λ m. answer c.slots.result m was.register c.args.call ≡ Ok c.in-Ok.answer) c.shards.ensures.value c.in-Ok.ensures.0) in
    let next : c.in-Ok.register ≡ register_after (layout_of was.geometry) was.register c.args.call (Ok c.in-Ok.answer) =
    subst (λ m. c.in-Ok.register ≡ after m was.register c.args.call) c.shards.ensures.value c.in-Ok.ensures.1 in
    rw (← c.self.view_is) (comes_from a c.args.call c.in-Ok.answer c.in-Ok.register c.unsettle.new.self c.requires is next c.unsettle.ensures)
