use Rattle.std.proofs.Common.{◌≡◌, ◌∙◌, sym, ap, subst}
use Rattle.std.proofs.lemmas.Bool.{not-false}
use lib.Pointwise.{bytes_decides}
use Rattle.r6_world.specs.ShardStates.{Store}
use Rattle.r6_world.specs.Steps.{Deliver, Good, Taken}
use Rattle.r6_world.specs.Values.{world_command, given_transfer}
use Rattle.r6_core.proofs.Callers.{if_some}
use Rattle.r6_core.specs.Shards.{Step}
use Rattle.r6_core_runs.proofs.rebuilds.confirm_write.Goals as goal

pub returns : goal.returns
returns c =
    let step = c.in_ok-command.ensures.step in
    let command = c.in_ok-command.command in
    let equal : c.as_slice.result.now ≡ c.as_slice-2.result.now = (bytes_decides _ _).0 (not-false _ (sym c.ne.ensures ∙ c.if-ne.false)) in
    let same : command.buffer ≡ c.args.block.now = sym c.as_slice.ensures ∙ equal ∙ c.as_slice-2.ensures in
    if_some c.complete.result _ _
    (λ done delivered. record {
      token = command.token;
      command = world_command step.0 step.1 step.2 command;
      middle = c.take_command.new.self;
      taken = step.3;
      delivered = subst (λ b. Step c.take_command.new.self (Deliver command.token (Good b) Taken) c.complete.new.core) same delivered;
      is_write = ap (λ kind. given_transfer kind command.buffer) c.in-Write.is ∙ ap (λ b. Store b) same;
      of_slot = c.if-command-slot.false;
      of_generation = c.if-command-generation.false;
      of_row = c.if-command-row.false;
    }) c.complete.ensures
