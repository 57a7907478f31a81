use Rattle.std.proofs.Common.{◌∙◌, sym, ap, subst, refl}
use Rattle.r6_world.proofs.Tables.{None-not_Some}
use Rattle.r6_array.specs.Arrays.{first_of}
use Rattle.r6_array.specs.Handles.{HandleView}
use Rattle.r6_array.specs.HandleEffects.{AsksForNone}
use Rattle.r6_array.proofs.Completions.{match_option}
use Rattle.r6_array.proofs.HandleCalls.{still, handle, hands_reply}
use Rattle.r6_array.proofs.shard.Shard.next_reply.Goals as goal

pub returns-in-Some : goal.returns-in-Some
returns-in-Some c = record { same = refl; none = λ told. absurd (None-not_Some _ (sym (ap first_of told) ∙ c.in-Some.ensures.1)) }

pub invariant_of-self : goal.invariant_of-self
invariant_of-self c =
    let was = c.self.inside in
    still was.geometry was.number was.member c.take_reply.new.self c.self.invariant c.take_reply.ensures.shard

pub returns-in-None : goal.returns-in-None
returns-in-None c =
    let was = c.self.inside in
    let told = subst (λ (v : HandleView). AsksForNone v) (sym c.self.view_is) c.in-None.ensures in
    rw (← c.self.view_is) (match_option c.take_reply.result _ _ _ _ (λ none. record { same = ap (λ s. handle s was.at_work) none.0; none = λ asks. none.1 })
    (λ r back. hands_reply was.geometry was.number was.member c.take_reply.new.self was.at_work r.0 r.1 c.self.invariant told back) c.take_reply.ensures.reply)
