-- That the checks and repairs of a shard skip no row (md(4): a check reads every row; what it skips is this project's
-- own).
use Rattle.std.specs.Prelude.{◌≡◌, Bool, List, All}
use Rattle.r6_shard.specs.Whole.{IsClean}
use Rattle.r6_engine.specs.declared.runner.scrub.ScrubDone.{ScrubDone}

-- unless the shard's ledger names a slot, or says that it saw one that wasn't in sync, each check and repair was over
-- with no row skipped by then
abbrev pub SkipNone : (named : List Bool) → (saw_out : Bool) → List ScrubDone → Type 0
SkipNone named saw_out passed = IsClean named saw_out → All (λ p. p.after.skipped ≡ 0) passed
