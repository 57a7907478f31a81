use Rattle.std.proofs.Common.{◌≡◌, ◌∷◌, ◌∙◌, List, ℕ, false, length, sym, ap, subst, arith}
use Rattle.r6_stripe.specs.Batches.{NewBlocks}
use Rattle.r6_stripe.specs.BatchLists.{AreDistinct}
use Rattle.r6_stripe.specs.Plans.{names}
use Rattle.r6_frames.specs.declared.frames.ServedRequest.{ServedRequest}
use Rattle.r6_frames.specs.Writes.{Entry, entries_of}
use Rattle.r6_frames.proofs.Batches.{blocks_as}
use Rattle.r6_frames.proofs.writes.Writes.put.Goals as goal

pub put-requires-clause-new : goal.put-requires-clause-new
put-requires-clause-new c =
    ap (λ (blocks : List (ℕ × List ℕ)). names blocks c.args.index) (blocks_as c.self.inside.served c.self.inside.batch.blocks c.args.self.now c.self.invariant.side_by_side c.self.view_is)
    ∙ c.requires.new

pub invariant_of-self : goal.invariant_of-self
invariant_of-self c =
    let new : names c.self.inside.batch.blocks c.args.index ≡ false =
    ap (λ (blocks : List (ℕ × List ℕ)). names blocks c.args.index) (blocks_as c.self.inside.served c.self.inside.batch.blocks c.args.self.now c.self.invariant.side_by_side c.self.view_is)
    ∙ c.requires.new in
    record {
      side_by_side = omega (arith, ap length c.push.ensures, ap (λ (v : NewBlocks). length v.blocks) c.put.ensures.added, c.self.invariant.side_by_side);
      distinct = subst (λ (v : NewBlocks). AreDistinct v.blocks) (sym c.put.ensures.added) (new, c.self.invariant.distinct);
    }

pub returns : goal.returns
returns c =
    let write : Entry = record { served = c.args.served; index = c.args.index; new_data = c.args.buffer } in
    ap (λ (served : List ServedRequest). entries_of served c.put.new.self.blocks) c.push.ensures
    ∙ ap (λ (batch : NewBlocks). entries_of (c.args.served ∷ c.self.inside.served) batch.blocks) c.put.ensures.added
    ∙ ap (λ (rest : List Entry). write ∷ rest) c.self.view_is
