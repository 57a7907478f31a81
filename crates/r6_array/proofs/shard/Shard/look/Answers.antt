use Rattle.std.proofs.Common.{◌≡◌, ◌∙◌, inl, inr, sym, ap, rules}
use Rattle.r6_array.specs.Handles.{HandleView, core_in}
use Rattle.r6_array.proofs.Calls.{if_ok, if_err}
use Rattle.r6_array.proofs.HandleCalls.{still, handle, looks}
use Rattle.r6_array.proofs.shard.Shard.look.Goals as goal

pub invariant_of-self : goal.invariant_of-self
invariant_of-self c =
    let was = c.self.inside in
    still was.geometry was.number was.member c.look_anew.new.self c.self.invariant c.look_anew.ensures.shard

pub returns-clause-looked : goal.returns-clause-looked
returns-clause-looked c =
    let was = c.self.inside in
    rw (← c.self.view_is) (if_ok c.look_anew.result _ _ (λ x looked. looks was.geometry was.number was.member c.look_anew.new.self was.at_work c.args.register.now c.self.invariant looked)
    c.look_anew.ensures.looked)

pub returns-clause-refused : goal.returns-clause-refused
returns-clause-refused c =
    let was = c.self.inside in
    let mine : c.args.register.now.geometry ≡ c.geometry.result = search rules in
    let same : c.args.register.now.geometry ≡ was.member.core.shape = mine ∙ c.geometry.ensures ∙ sym (ap (λ (v : HandleView). (core_in v).shape) c.self.view_is) in
    rw (← c.self.view_is) (if_err c.look_anew.result _ _
    (λ refusal x. record { same = ap (λ s. handle s was.at_work) x.0; fault = inr (λ ne. ne same, inl (x.1, x.2)) }) c.look_anew.ensures.refused)

pub look_anew-requires : goal.look_anew-requires
look_anew-requires c = c.args.register.now.replaces
