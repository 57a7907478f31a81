use Rattle.std.proofs.Common.{◌≡◌, [], ◌∷◌, ◌++◌, length, ap, ◌∙◌, arith}
use Rattle.std.proofs.lemmas.List.{length-replicate, replicate_more}
use Rattle.r6_frames.specs.declared.frames.FrameUse.TheVariants.{Free}
use Rattle.r6_frames.specs.Uses.{none_held}
use Rattle.r6_frames.proofs.frames.free_frames.Goals as goal

pub push_reserved-requires : goal.push_reserved-requires
push_reserved-requires c =
    let filled = ap length c.loop.invariant.uses ∙ length-replicate c.loop.counter Free in
    let room = c.loop.invariant.room in
    omega arith

pub loop-preserved : goal.loop-preserved
loop-preserved c = record {
  uses = c.push_reserved.ensures.items ∙ ap (λ uses. uses ++ Free ∷ []) c.loop.invariant.uses ∙ replicate_more c.loop.counter Free;
  room = let room = c.loop.invariant.room in let same = c.push_reserved.ensures.capacity in omega arith;
}

pub returns : goal.returns
returns c =
    let all : c.loop.counter ≡ 64 = omega (arith, c.loop.auto.counter-end, c.loop-test.false) in
    c.loop.invariant.uses ∙ ap none_held all
