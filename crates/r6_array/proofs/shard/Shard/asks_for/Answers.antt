use Rattle.std.proofs.Common.{◌≡◌, ◌∙◌, Some, None, sym, ap, subst, arith, rules}
use Rattle.r6_world.proofs.Tables.{Some-inj, None-not_Some}
use Rattle.r6_core.specs.declared.call.Call.{Call}
use Rattle.r6_core.specs.Shards.{world_shard, call_of}
use Rattle.r6_array.specs.Arrays.{first_of}
use Rattle.r6_array.specs.Handles.{HandleView, core_in, number_of}
use Rattle.r6_array.proofs.Members.{same_as}
use Rattle.r6_array.proofs.shard.Shard.asks_for.Goals as goal

pub returns-in-Some-clause-yes : goal.returns-in-Some-clause-yes
returns-in-Some-clause-yes c = λ h.
    let first : first_of (world_shard (core_in c.args.self.now)).calls ≡ Some (call_of c.in-Some.call) =
    subst (λ (v : HandleView). first_of (world_shard (core_in v)).calls ≡ Some (call_of c.in-Some.call)) c.self.view_is (sym c.in-Some.ensures) in
    let own : c.args.change.shard ≡ c.number.result = omega arith in
    let e : c.in-Some.call ≡ c.args.change.call = search rules in
    (own ∙ c.number.ensures, first ∙ ap (λ (call : Call). Some (call_of call)) e)

pub returns-in-Some-clause-no : goal.returns-in-Some-clause-no
returns-in-Some-clause-no c = λ h x.
    let first : first_of (world_shard (core_in c.args.self.now)).calls ≡ Some (call_of c.in-Some.call) =
    subst (λ (v : HandleView). first_of (world_shard (core_in v)).calls ≡ Some (call_of c.in-Some.call)) c.self.view_is (sym c.in-Some.ensures) in
    let e : c.in-Some.call ≡ c.args.change.call = same_as c.in-Some.call c.args.change.call (Some-inj (call_of c.in-Some.call) (call_of c.args.change.call) (sym first ∙ x.1)) in
    let ne : c.in-Some.call ≡ c.args.change.call → ⊥ = search rules in
    ne e

pub returns-in-None-clause-no : goal.returns-in-None-clause-no
returns-in-None-clause-no c = λ h x.
    let none : None ≡ first_of (world_shard (core_in c.args.self.now)).calls =
    subst (λ (v : HandleView). None ≡ first_of (world_shard (core_in v)).calls) c.self.view_is c.in-None.ensures in
    None-not_Some (call_of c.args.change.call) (none ∙ x.1)
