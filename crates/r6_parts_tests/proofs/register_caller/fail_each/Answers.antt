use Rattle.std.proofs.Common.{◌++◌, ◌∷◌, [], ℕ, List, length, length-append, take, get_or, append_assoc, ap, sym, ◌∙◌, arith}
use Rattle.std.proofs.lemmas.List.{take_more, length-take-le}
use Rattle.r6_health.specs.Passes.{view_of}
use Rattle.r6_health.specs.declared.call.Call.TheVariants.{Fail}
use Rattle.r6_health.specs.declared.history.OwnCall.{OwnCall}
use Rattle.r6_health.specs.Views.{made_by}
use Rattle.r6_health.specs.Uses.{failures_of}
use Rattle.r6_health.proofs.Failures.{failures_of-push}
use Rattle.r6_parts_tests.proofs.register_caller.fail_each.Goals as goal

pub loop-slot-preserved : goal.loop-slot-preserved
loop-slot-preserved g c =
    let i : ℕ = c.loop-slot.slot-index in
    let slots : List ℕ = c.args.slots.now in
    let slot : ℕ = get_or slots i 0 in
    let front : List OwnCall = (view_of c.args.pass.now).mine in
    let count = c.loop-slot.invariant.count in
    let more = take_more slots i 0 c.loop-slot-test.true in
    record {
      of_register = c.fail-result.ensures.pass;
      count = (let e = ap length c.in_ok-push.ensures.items ∙ length-append c.loop-slot.results.items (c.fail-result.result ∷ []) in omega arith);
      own = c.fail-result.ensures.own
          ∙ (ap (λ (l : List OwnCall). l ++ made_by (Fail slot) c.fail-result.result) c.loop-slot.invariant.own
          ∙ (append_assoc front (failures_of (take i slots) c.loop-slot.results.items) (made_by (Fail slot) c.fail-result.result)
          ∙ ap (λ (l : List OwnCall). front ++ l)
          (sym (failures_of-push (take i slots) c.loop-slot.results.items slot c.fail-result.result (let inside = c.loop-slot-test.true in let n = length-take-le i slots (omega arith) in omega arith))
          ∙ (λ k. failures_of (sym more k) (sym c.in_ok-push.ensures.items k)))));
    }
