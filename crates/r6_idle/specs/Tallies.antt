-- Wakes that are given and taken (this project's own).
use Rattle.std.specs.Prelude.{ℕ, ◌+◌, ◌≤◌, Bool, true, false, List, sum_by}
use Rattle.r6_idle.specs.declared.tally.Tally.{Tally}

-- one that has neither given a wake nor taken one
abbrev pub nothing : Tally
nothing = record { given = 0; taken = 0 }

abbrev pub having_given : Tally → Tally
having_given v = record v { given = v.given + 1 }

abbrev pub having_taken : Tally → Tally
having_taken v = record v { taken = v.taken + 1 }

abbrev pub given_by : Tally → ℕ
given_by v = v.given

abbrev pub taken_by : Tally → ℕ
taken_by v = v.taken

-- the wake that the next sleep finds, if one is there
abbrev pub waiting : (token : Bool) → ℕ
waiting true = 1
waiting false = 0

-- the wakes that were taken, and the one that is there, are no more than were given
abbrev pub IsBalanced : (token : Bool) → (all : List Tally) → Type 0
IsBalanced token all = sum_by taken_by all + waiting token ≤ sum_by given_by all
