use Rattle.r6_simulate.proofs.array.Simulation.play.Goals as goal

pub returns-in-At : goal.returns-in-At
returns-in-At g c = rw c.in-At.is (c.play_call.ensures)

pub returns-in-Fail : goal.returns-in-Fail
returns-in-Fail g c = rw c.in-Fail.is (c.play_fail.ensures)

pub returns-in-Attach : goal.returns-in-Attach
returns-in-Attach g c = rw c.in-Attach.is (c.play_attach.ensures)

pub returns-in-Replace : goal.returns-in-Replace
returns-in-Replace g c = rw c.in-Replace.is (c.play_replace.ensures)

pub returns-in_ok-buffer-in-Read : goal.returns-in_ok-buffer-in-Read
returns-in_ok-buffer-in-Read g c = rw c.in-Read.is (rw c.in_ok-buffer-in-Read.ensures at c.play_request.ensures)

pub returns-in_ok-buffer-in-Write : goal.returns-in_ok-buffer-in-Write
returns-in_ok-buffer-in-Write g c = rw c.in-Write.is (rw c.in_ok-buffer-in-Write.ensures at c.play_request-in-Write.ensures)
