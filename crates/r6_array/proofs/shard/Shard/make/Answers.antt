use Rattle.std.proofs.Common.{◌∙◌, sym, ap, subst, refl}
use Rattle.r6_array.specs.Handles.{HandleView, core_in}
use Rattle.r6_array.specs.HandleEffects.{AsksFor}
use Rattle.r6_array.proofs.HandleCalls.{still, agrees}
use Rattle.r6_array.proofs.Replacing.{replaces-agreed}
use Rattle.r6_array.proofs.shard.Shard.make.Goals as goal

pub invariant_of-self : goal.invariant_of-self
invariant_of-self c =
    let was = c.self.inside in
    still was.geometry was.number was.member c.agree-answer.new.self c.self.invariant c.agree-answer.ensures.shard

pub invariant_of-register : goal.invariant_of-register
invariant_of-register c =
    let was = c.self.inside in
    let register = c.args.register.now in
    record {
      replaces = replaces-agreed was.geometry was.number was.member register.snapshot c.args.change.call c.agree-answer.result.0 c.agree-answer.result.1
          c.agree-answer.new.self c.agree-answer.ensures.agreed register.replaces;
    }

pub returns : goal.returns
returns c =
    let was = c.self.inside in
    let asked = subst (λ (v : HandleView). AsksFor v c.args.change) (sym c.self.view_is) c.requires.asked in
    let same = c.requires.shape ∙ sym (ap (λ (v : HandleView). (core_in v).shape) c.self.view_is) in
    rw (← c.self.view_is) (agrees was.geometry was.number was.member c.agree-answer.new.self was.at_work _ _ c.args.change c.agree-answer.result.0 c.self.invariant same refl asked c.agree-answer.ensures.agreed)
