use Rattle.r6_merge.proofs.Courses as courses
use Rattle.r6_merge.proofs.courses_law.Goals as goal

pub returns : goal.returns
returns c = courses.courses_law
