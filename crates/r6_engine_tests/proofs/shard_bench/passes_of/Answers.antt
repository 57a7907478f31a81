use Rattle.std.proofs.Common.{◌≡◌, ◌∙◌, ◌+◌, ◌++◌, ◌∷◌, [], is_ok, if◌then◌else◌, ap, length, subst, sym}
use Rattle.std.proofs.lemmas.List.{length_push}
use Rattle.r6_health.specs.Histories.{start_losing}
use Rattle.r6_health.specs.Passes.{view_of}
use Rattle.r6_health.specs.Views.{first_of, giver}
use Rattle.r6_engine.specs.Openings.{having_given}
use Rattle.r6_engine_tests.specs.Passes.{AreFirst}
use Rattle.r6_engine_tests.proofs.Passes.{next_first, one_more}
use Rattle.r6_engine_tests.proofs.shard_bench.passes_of.Goals as goal

pub loop-preserved : goal.loop-preserved
loop-preserved g c =
    let register = c.args.register.now in
    let shape = c.args.geometry.now in
    let kept = c.loop.invariant in
    let before = c.loop.passes.items in
    let pass = c.split.result in
    let pushed : c.push.new.self.items ≡ before ++ pass ∷ [] =
    subst (λ r. c.push.new.self.items ≡ (if is_ok r then before ++ pass ∷ [] else before)) c.expect.ensures c.push.ensures.items in
    let grown : length c.push.new.self.items ≡ length before + 1 = ap length pushed ∙ length_push before pass in (
      c.split.ensures.pass,
      c.split.ensures.gave ∙ ap giver kept.1
          ∙ ap (λ n. having_given n (first_of (start_losing shape.slots shape.shards 0))) (sym grown),
      subst (AreFirst register shape) (sym pushed)
          (one_more register shape before pass kept.2
          (c.split.ensures.new, next_first shape (length before) (view_of c.loop.first) (view_of pass) kept.1 c.split.ensures.newcomer)),
      grown ∙ ap (λ n. n + 1) kept.3,
    )
