use Rattle.std.proofs.Common.{sym, ap, ◌∙◌}
use Rattle.r6_world.specs.Changes.{adopted}
use Rattle.r6_frames.specs.Slots.{state_of}
use Rattle.r6_core.proofs.look.adopted.Goals as goal

pub returns-in-InSync-clause-new : goal.returns-in-InSync-clause-new
returns-in-InSync-clause-new c = c.alone.ensures.new c.args.first_row

pub returns-in-Replacing-clause-state : goal.returns-in-Replacing-clause-state
returns-in-Replacing-clause-state c = c.beside.ensures.state c.in-Replacing.field-2 ∙ ap (adopted (state_of c.args.device)) (sym c.in-Replacing.is)
