use Rattle.r6_recover.proofs.UniqueClassLaws.{same_class, IsFull-consistent, Consistent-full}
use Rattle.r6_recover.proofs.laws.class_law.Goals as goal

pub returns-clause-unique : goal.returns-clause-unique
returns-clause-unique c = λ m len row few count all. same_class m len row count all few

pub returns-clause-consistent : goal.returns-clause-consistent
returns-clause-consistent c = λ m len row count all. (IsFull-consistent m len row count all, Consistent-full m len row count all)
