use Rattle.r6_frames.proofs.drive.parts.Goals as goal

pub returns-in-Write : goal.returns-in-Write
returns-in-Write c = c.in-Write.is
