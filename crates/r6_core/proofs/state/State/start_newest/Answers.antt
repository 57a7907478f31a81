use Rattle.r6_core.specs.Shards.{waiting_of}
use Rattle.r6_frames.specs.Views.{AreLive}
use Rattle.r6_core.proofs.Scanned.{all_wait, none_starts}
use Rattle.r6_core.proofs.state.State.start_newest.Goals as goal

pub start_unknown-requires-clause-live : goal.start_unknown-requires-clause-live
start_unknown-requires-clause-live c = c.is_live.ensures.0 c.if-is_live.true

-- in a shard that has stopped none can start
stopped : (c : goal.Else-is_live) → AreLive c.args.self.now.frames → ⊥
stopped c = λ live. absurd (cc (c.is_live.ensures.1 live, c.if-is_live.false))

pub returns-else-is_live-clause-core : goal.returns-else-is_live-clause-core
returns-else-is_live-clause-core c = record { settled = c.requires.settled; waits = λ live. absurd (stopped c live) }

pub returns-else-is_live-clause-turns : goal.returns-else-is_live-clause-turns
returns-else-is_live-clause-turns c =
    let s = c.args.self.now in
    all_wait s c.requires.settled (none_starts s.frames (waiting_of s) (stopped c))
