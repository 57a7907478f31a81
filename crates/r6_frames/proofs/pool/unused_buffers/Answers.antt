use Rattle.std.proofs.Common.{[], ◌∷◌, ◌++◌, List, length, Some, None, ap, ◌∙◌, arith}
use Rattle.std.proofs.lemmas.List.{length-replicate, replicate_more}
use Rattle.r6_frames.specs.declared.directs.Direct.{Direct}
use Rattle.r6_frames.specs.Directs.{unused}
use Rattle.r6_frames.proofs.pool.unused_buffers.Goals as goal

pub push_reserved-requires : goal.push_reserved-requires
push_reserved-requires c =
    let made = ap length c.loop.invariant.made ∙ length-replicate {A = Direct} c.loop.counter (unused c.args.block) in
    let room = c.loop.invariant.room in
    omega arith

pub loop-preserved : goal.loop-preserved
loop-preserved c =
    record {
      made = c.push_reserved.ensures.items ∙ ap (λ (buffer : List _). c.loop.buffers.items ++ record { read = None; buffer = Some buffer } ∷ []) c.in_ok-buffer.ensures
          ∙ ap (λ (made : List Direct). made ++ unused c.args.block ∷ []) c.loop.invariant.made ∙ replicate_more c.loop.counter (unused c.args.block);
      room = let room = c.loop.invariant.room in let same = c.push_reserved.ensures.capacity in omega arith;
    }
