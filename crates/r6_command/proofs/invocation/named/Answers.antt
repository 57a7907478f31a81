use Rattle.std.proofs.Common.{refl}
use Rattle.r6_command.proofs.invocation.named.Goals as goal

pub returns-in-geometry : goal.returns-in-geometry
returns-in-geometry c = rw (c.in_ok-first.was, c.in-geometry.is) refl

pub returns-in-create : goal.returns-in-create
returns-in-create c = rw (c.in_ok-first.was, c.in-create.is) refl

pub returns-in-verify : goal.returns-in-verify
returns-in-verify c = rw (c.in_ok-first.was, c.in-verify.is) refl

pub returns-in-simulate : goal.returns-in-simulate
returns-in-simulate c = rw (c.in_ok-first.was, c.in-simulate.is) refl

pub returns-in_ok-script-in-run : goal.returns-in_ok-script-in-run
returns-in_ok-script-in-run c = rw (c.in_ok-first.was, c.in-run.is, c.in_ok-script-in-run.was) refl
