use Rattle.r6_core.proofs.look.beside.Goals as goal

pub returns-then-old-new-clause-new : goal.returns-then-old-new-clause-new
returns-then-old-new-clause-new c = c.alone.ensures.new c.args.first_row
