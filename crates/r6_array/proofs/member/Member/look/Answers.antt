use Rattle.std.proofs.Common.{◌∙◌, inl, inr, sym, ap}
use Rattle.r6_array.specs.Arrays.{ShardView}
use Rattle.r6_array.proofs.Members.{untold_of}
use Rattle.r6_array.proofs.member.Member.look.Goals as goal

pub returns-in-Err-clause-looked : goal.returns-in-Err-clause-looked
returns-in-Err-clause-looked c = inl (record { same = c.in-Err.ensures.refused.0; why = inr c.in-Err.ensures.refused.2 })

pub returns-clause-looked : goal.returns-clause-looked
returns-clause-looked c = inr (ap (λ (s : ShardView). s.settled) (sym c.self.view_is) ∙ c.if-self.false, c.in-Ok.ensures.looked)
