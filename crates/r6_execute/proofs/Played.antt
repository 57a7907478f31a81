-- A script that was played, while its writer keeps what it holds.
use Rattle.std.proofs.Common.{List, ℕ, Option, refl}
use Rattle.std.specs.Io.KnownBytes.{Keeps}
use Rattle.r6_layout.specs.Shape.{Shape}
use Rattle.r6_script.specs.declared.script.Event.{Event}
use Rattle.r6_simulate.specs.Plays.{HasPlayed}
use Rattle.r6_simulate.specs.declared.simulation.Ending.{Ending}
use Rattle.r6_execute.proofs.Writes.{appends_kept}

pub played_kept : (shape : Shape) (events : List Event) (end : Ending) (old mid new : Option (List ℕ)) → HasPlayed shape events old end mid
    → Keeps mid new → HasPlayed shape events old end new
played_kept shape events end old mid new played kept = record {
  first = played.first;
  begins = played.begins;
  last = played.last;
  lines = played.lines;
  course = played.course;
  ends = played.ends;
  writes = appends_kept old mid new _ _ refl played.writes kept;
}
