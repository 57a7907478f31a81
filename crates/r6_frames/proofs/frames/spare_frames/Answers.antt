use Rattle.std.proofs.Common.{[], ◌∷◌, ◌++◌, List, length, ap, ◌∙◌, arith}
use Rattle.std.proofs.lemmas.List.{length-replicate, replicate_more}
use Rattle.r6_stripe.specs.Frames.{Shape}
use Rattle.r6_frames.proofs.frames.spare_frames.Goals as goal

pub push_reserved-requires : goal.push_reserved-requires
push_reserved-requires c =
    let mine : Shape = record { count = c.args.slots; size = c.args.block } in
    let spare = ap length c.loop.invariant.spare ∙ length-replicate c.loop.counter mine in
    let room = c.loop.invariant.room in
    omega arith

pub loop-preserved : goal.loop-preserved
loop-preserved c =
    let mine : Shape = record { count = c.args.slots; size = c.args.block } in
    record {
      spare = c.push_reserved.ensures.items ∙ ap (λ (frame : Shape). c.loop.spare.items ++ frame ∷ []) c.in_ok-new.ensures
          ∙ ap (λ (spare : List Shape). spare ++ mine ∷ []) c.loop.invariant.spare ∙ replicate_more c.loop.counter mine;
      room = let room = c.loop.invariant.room in let same = c.push_reserved.ensures.capacity in omega arith;
    }
