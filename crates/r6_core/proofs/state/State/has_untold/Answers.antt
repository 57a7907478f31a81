use Rattle.r6_core.proofs.state.State.has_untold.Goals as goal

pub returns : goal.returns
returns c = c.is_some.ensures
