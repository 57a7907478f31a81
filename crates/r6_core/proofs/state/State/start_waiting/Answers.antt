use Rattle.std.proofs.Common.{subst, arith}
use Rattle.r6_waiters.specs.Line.{entries_of}
use Rattle.r6_core.specs.Inside.{HasFreed, Waits}
use Rattle.r6_core.specs.Shards.{waiting_of}
use Rattle.r6_core.proofs.Scanned.{all_wait, none_starts}
use Rattle.r6_core.proofs.Lined.{all_of_empty}
use Rattle.r6_core.proofs.Waking.{all_cannot, none_can}
use Rattle.r6_core.proofs.state.State.start_waiting.Goals as goal

-- none waits
pub returns-then-is_empty-clause-core : goal.returns-then-is_empty-clause-core
returns-then-is_empty-clause-core c =
    let s = c.args.self.now in
    record { settled = c.requires.settled; waits = λ _. all_of_empty (Waits s.frames) (entries_of s.waiting) (c.is_empty.ensures.0 c.if-is_empty.true) }

pub returns-then-is_empty-clause-turns : goal.returns-then-is_empty-clause-turns
returns-then-is_empty-clause-turns c =
    let s = c.args.self.now in
    all_wait s c.requires.settled
    (all_cannot s.frames (entries_of s.waiting) (λ _. all_of_empty (Waits s.frames) (entries_of s.waiting) (c.is_empty.ensures.0 c.if-is_empty.true)))

-- the shard has stopped, or something became free
pub returns-then-not-is_live-clause-turns : goal.returns-then-not-is_live-clause-turns
returns-then-not-is_live-clause-turns c =
    let s = c.args.self.now in
    all_wait s c.requires.settled (none_starts s.frames (waiting_of s) (λ live. absurd (cc (c.is_live.ensures.1 live, c.if-not-is_live.true))))

pub returns-in-Nothing-clause-turns : goal.returns-in-Nothing-clause-turns
returns-in-Nothing-clause-turns c =
    let s = c.args.self.now in
    all_wait s c.requires.settled (none_can s (subst (λ freed. HasFreed freed s) c.in-Nothing.is c.requires.freed))

pub start_behind-requires-clause-settled : goal.start_behind-requires-clause-settled
start_behind-requires-clause-settled c = c.requires.settled

pub start_behind-requires-clause-live : goal.start_behind-requires-clause-live
start_behind-requires-clause-live c = c.is_live.ensures.0 c.if-not-is_live.false

pub start_read-requires-clause-settled : goal.start_read-requires-clause-settled
start_read-requires-clause-settled c = c.requires.settled

pub start_read-requires-clause-live : goal.start_read-requires-clause-live
start_read-requires-clause-live c = c.is_live.ensures.0 c.if-not-is_live.false

pub start_all-requires-clause-settled : goal.start_all-requires-clause-settled
start_all-requires-clause-settled c = c.requires.settled

pub start_all-requires-clause-live : goal.start_all-requires-clause-live
start_all-requires-clause-live c = c.is_live.ensures.0 c.if-not-is_live.false

pub start_behind-requires-clause-let_go : goal.start_behind-requires-clause-let_go
start_behind-requires-clause-let_go c = subst (λ freed. HasFreed freed c.args.self.now) c.in-Row.is c.requires.freed

pub start_read-requires-clause-few : goal.start_read-requires-clause-few
start_read-requires-clause-few c = omega (arith, c.tokens.ensures, c.if-tokens-lt-LIMIT.true)

pub start_read-requires-clause-freed : goal.start_read-requires-clause-freed
start_read-requires-clause-freed c = subst (λ freed. HasFreed freed c.args.self.now) c.in-Buffer.is c.requires.freed

pub returns-in-Row-clause-core : goal.returns-in-Row-clause-core
returns-in-Row-clause-core c = c.start_behind.ensures.core

pub returns-in-Row-clause-leads : goal.returns-in-Row-clause-leads
returns-in-Row-clause-leads c = c.start_behind.ensures.leads

pub returns-in-Row-clause-turns : goal.returns-in-Row-clause-turns
returns-in-Row-clause-turns c = c.start_behind.ensures.turns

pub returns-in-Row-clause-only : goal.returns-in-Row-clause-only
returns-in-Row-clause-only c = c.start_behind.ensures.only

pub returns-in-Buffer-clause-core : goal.returns-in-Buffer-clause-core
returns-in-Buffer-clause-core c = c.start_read.ensures.core

pub returns-in-Buffer-clause-leads : goal.returns-in-Buffer-clause-leads
returns-in-Buffer-clause-leads c = c.start_read.ensures.leads

pub returns-in-Buffer-clause-turns : goal.returns-in-Buffer-clause-turns
returns-in-Buffer-clause-turns c = c.start_read.ensures.turns

pub returns-in-Buffer-clause-only : goal.returns-in-Buffer-clause-only
returns-in-Buffer-clause-only c = c.start_read.ensures.only

pub returns-in-Buffer-2-clause-core : goal.returns-in-Buffer-2-clause-core
returns-in-Buffer-2-clause-core c = c.start_all.ensures.core

pub returns-in-Buffer-2-clause-leads : goal.returns-in-Buffer-2-clause-leads
returns-in-Buffer-2-clause-leads c = c.start_all.ensures.leads

pub returns-in-Buffer-2-clause-turns : goal.returns-in-Buffer-2-clause-turns
returns-in-Buffer-2-clause-turns c = c.start_all.ensures.turns

pub returns-in-Buffer-2-clause-only : goal.returns-in-Buffer-2-clause-only
returns-in-Buffer-2-clause-only c = c.start_all.ensures.only
