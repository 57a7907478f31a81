use Rattle.std.proofs.Common.{[], ◌∷◌, ◌++◌, List, length, ap, ◌∙◌, arith}
use Rattle.std.proofs.lemmas.List.{length-replicate, replicate_more}
use Rattle.r6_frames.specs.Writes.{Entry}
use Rattle.r6_core.proofs.state.new_rooms.Goals as goal

pub push_reserved-requires : goal.push_reserved-requires
push_reserved-requires c =
    let made = ap length c.loop.invariant.made ∙ length-replicate {A = List Entry} c.loop.counter [] in
    let room = c.loop.invariant.room in
    omega arith

pub loop-preserved : goal.loop-preserved
loop-preserved c =
    record {
      made = c.push_reserved.ensures.items ∙ ap (λ (writes : List Entry). c.loop.rooms.items ++ writes ∷ []) c.in_ok-new.ensures
          ∙ ap (λ (made : List (List Entry)). made ++ [] ∷ []) c.loop.invariant.made ∙ replicate_more c.loop.counter [];
      room = let room = c.loop.invariant.room in let same = c.push_reserved.ensures.capacity in omega arith;
    }
