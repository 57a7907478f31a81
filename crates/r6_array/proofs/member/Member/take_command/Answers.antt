use Rattle.std.proofs.Common.{◌∙◌, sym, ap}
use Rattle.r6_world.specs.Values.{world_command}
use Rattle.r6_array.proofs.Members.{handed_member}
use Rattle.r6_array.proofs.member.Member.take_command.Goals as goal

pub invariant_of-self : goal.invariant_of-self
invariant_of-self c =
    let was = c.self.inside in
    let step = c.in-Some.ensures.step in
    let command = c.in-Some.command in
    handed_member was.core c.take_command.new.self was.names was.settled was.change was.taken command.token (world_command step.0 step.1 step.2 command) c.self.invariant step.3
    c.in-Some.ensures.oldest c.take_command.ensures.kept

pub returns-clause-taken : goal.returns-clause-taken
returns-clause-taken c = rw (← c.self.view_is) (record {
  frame = c.in-Some.ensures.step.0;
  abandoned = c.in-Some.ensures.step.1;
  copy = c.in-Some.ensures.step.2;
  step = c.in-Some.ensures.step.3;
  oldest = c.in-Some.ensures.oldest;
  sized = c.in-Some.ensures.there;
  kept = c.take_command.ensures.kept;
  names = Rattle.std.proofs.Common.refl;
  settled = Rattle.std.proofs.Common.refl;
})
