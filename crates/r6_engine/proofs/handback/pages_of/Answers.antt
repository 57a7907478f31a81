use Rattle.std.proofs.Common.{◌≤◌, All, ℕ, ap, arith, length, subst, sym, ◌∙◌}
use Rattle.std.proofs.lemmas.List.{length_push}
use Rattle.std.proofs.lemmas.List.Elements.{All-push}
use Rattle.r6_engine.specs.Ledgers.{IsPage}
use Rattle.r6_engine.proofs.handback.pages_of.Goals as goal

pub loop-preserved : goal.loop-preserved
loop-preserved g c =
    let pages = c.loop.pages.items in
    let page = c.in_ok-new.field-0 in
    let pushed = c.push_reserved.ensures.items in
    let long = ap length pushed ∙ length_push pages page in
    let many = c.loop.invariant.0 in (
      omega (arith, long, many),
      subst (λ (n : ℕ). c.args.shards ≤ n) (sym c.push_reserved.ensures.capacity) c.loop.invariant.1,
      subst (All (IsPage c.args.room)) (sym pushed) (All-push (IsPage c.args.room) pages page c.loop.invariant.2 c.in_ok-new.ensures),
    )
