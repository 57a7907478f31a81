use Rattle.std.proofs.Common.{◌*◌, ◌∙◌, ap, refl, subst}
use Rattle.r6_layout.specs.Shape.{IsShape}
use Rattle.r6_health.specs.Registers.{starting}
use Rattle.r6_array.specs.News.{IsNew, HasNoFault}
use Rattle.r6_array_c.specs.Blocks.{AreMadeBlocks}
use Rattle.r6_array_c.proofs.made.host.Goals as goal

pub returns-clause-made : goal.returns-clause-made
returns-clause-made c =
    let shape = c.args.shape.now in
    let made = c.in_ok-geometry.ensures.made in
    let blocks = c.in_ok-blocks.ensures.made in record {
      shape = subst IsShape made.0 made.1;
      right = c.in_ok-geometry.ensures.right;
      allowed = subst (λ g. HasNoFault g shape.window shape.lost) made.0 c.in-Ok.ensures.right;
      array = subst (λ g. IsNew g (starting shape.lost) shape.window c.in-Ok.array) made.0 c.in-Ok.ensures.made;
      blocks = subst
          (λ n. AreMadeBlocks n shape.block c.in_ok-blocks.blocks)
          (ap (λ n. n * 256) c.shards.ensures.value ∙ ap (λ g. g.shards * 256) made.0)
          (subst (λ g. AreMadeBlocks (c.shards.result * 256) g.block c.in_ok-blocks.blocks) made.0 blocks);
      gathered = c.in_ok-gathered.ensures.made;
      asked = refl;
    }
