-- What stands in a list is as it was promised.
use Rattle.std.proofs.Common.{◌≡◌, ℕ, sym, subst, ◌∙◌}
use Rattle.r6_dev.specs.Promises.{Promise, FailsNone}
use Rattle.r6_layout.specs.Shape.{Shape}
use Rattle.r6_world.specs.Geometries.{layout_of}
use Rattle.r6_world.specs.Layouts.{IsRowOf}
use Rattle.r6_world.specs.declared.values.Op.{Op}
use Rattle.r6_world.specs.declared.values.Op.TheVariants as op
use Rattle.r6_engine.specs.declared.lists.work.EventPart.{EventPart}
use Rattle.r6_engine.specs.declared.lists.work.EventPart.TheVariants as work
use Rattle.r6_engine.specs.lists.Lists.{IsAsPromised}
use Rattle.r6_engine.specs.feed.Events.{work_for, work_of_scrub}
use Rattle.r6_engine.specs.declared.feed.handing.ScrubKind.{ScrubKind}
use Rattle.r6_engine.specs.declared.feed.handing.ScrubKind.TheVariants as scrub

module _ {D : Type 0} (promised : D → Promise) (shape : Shape) (Sound : ℕ → ℕ → Type 0) (shard : ℕ) where
  -- a request is no part of a device, and no check or repair is
  pub request-promised : (o : Op) (w : EventPart D) → w ≡ work_for o → IsAsPromised promised shape Sound shard w
  request-promised (op.Read block buffer) w is slot generation part e s = absurd (none (sym is ∙ e))
    where
      none : work.Read block buffer ≡ work.TakeUp slot generation part → ⊥
      none f = cc
  request-promised (op.Write block buffer) w is slot generation part e s = absurd (none (sym is ∙ e))
    where
      none : work.Write block buffer ≡ work.TakeUp slot generation part → ⊥
      none f = cc

  pub pass-promised : (p : ScrubKind) (w : EventPart D) → w ≡ work_of_scrub p → IsAsPromised promised shape Sound shard w
  pass-promised scrub.Check w is slot generation part e s = absurd (none (sym is ∙ e))
    where
      none : work.Check ≡ work.TakeUp slot generation part → ⊥
      none f = cc
  pass-promised scrub.Repair w is slot generation part e s = absurd (none (sym is ∙ e))
    where
      none : work.Repair ≡ work.TakeUp slot generation part → ⊥
      none f = cc

  -- a part is what was promised of it
  pub part-promised : (slot generation : ℕ) (part : D)
      → (Sound shard slot → FailsNone (promised part) (IsRowOf (layout_of shape) shard) shape.block)
      → IsAsPromised promised shape Sound shard (work.TakeUp slot generation part)
  part-promised slot generation part fails slot' generation' part' e s =
      let same-slot : slot ≡ slot' = cc in
      let same-part : part ≡ part' = cc in
      subst (λ y. FailsNone (promised y) (IsRowOf (layout_of shape) shard) shape.block) same-part
      (fails (subst (Sound shard) (sym same-slot) s))
