-- A file that a command reads: closed at first, and then open, or one that couldn't be opened.
use Rattle.std.specs.Prelude.{◌≡◌, ℕ, IsErrAnd, Result}
use Rattle.std.specs.IoError.{error_kind}
use Rattle.std.specs.declared.io.Error.{Error}
use Rattle.r6_execute.specs.declared.source.Source.{Source}
use Rattle.r6_execute.specs.declared.source.Source.TheVariants.{Closed, Open, Refused}

-- a closed file is opened or refused, and the others stay
abbrev pub Opens : (old new : Source) → Type 0
Opens (Closed rt path) (Closed others other) = ⊥
Opens (Closed rt path) new = Unit {0}
Opens old new = new ≡ old

-- a read leaves an open file open; where the opening was refused, each read is, for the same reason
abbrev pub Reads : (old new : Source) → Result ℕ Error → Type 0
Reads (Closed rt path) (Closed others other) answer = ⊥
Reads (Closed rt path) (Open file) answer = Unit {0}
Reads (Closed rt path) (Refused kind) answer = IsErrAnd answer (λ error. error_kind error ≡ kind)
Reads (Open file) (Open after) answer = Unit {0}
Reads (Open file) new answer = ⊥
Reads (Refused kind) new answer = (new ≡ Refused kind) × IsErrAnd answer (λ error. error_kind error ≡ kind)
