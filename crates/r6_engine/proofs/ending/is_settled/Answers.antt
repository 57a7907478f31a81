use Rattle.std.proofs.Common.{◌∙◌, sym}
use Rattle.std.proofs.lemmas.Bool.{false≢true}
use Rattle.r6_engine.proofs.ending.is_settled.Goals as goal
use Rattle.r6_engine.proofs.ending.is_settled.Goals.{then-have_looked_at, else-have_looked_at}

pub returns-then-is_rebuilt-clause-looked : goal.returns-then-is_rebuilt-clause-looked
returns-then-is_rebuilt-clause-looked g c = λ yes. elim c.if-have_looked_at.branch [
  | then-have_looked_at w ↦ c.have_looked_at.ensures w.if-have_looked_at.true
  | else-have_looked_at w ↦ absurd (false≢true (sym w.if-have_looked_at.false ∙ sym w.value-is ∙ c.if-is_rebuilt.true))
]

pub returns-then-is_rebuilt-clause-rebuilt : goal.returns-then-is_rebuilt-clause-rebuilt
returns-then-is_rebuilt-clause-rebuilt g c = λ yes. elim c.if-have_looked_at.branch [
  | then-have_looked_at w ↦ w.is_rebuilt.ensures (sym w.value-is ∙ c.if-is_rebuilt.true)
  | else-have_looked_at w ↦ absurd (false≢true (sym w.if-have_looked_at.false ∙ sym w.value-is ∙ c.if-is_rebuilt.true))
]
