use Rattle.std.proofs.Common.{sym, subst}
use Rattle.r6_waiters.specs.Line.{Line}
use Rattle.r6_world.specs.ShardStates.{Shard}
use Rattle.r6_world.specs.Steps.{Scans, Through}
use Rattle.r6_core.specs.declared.queued.Queued.{Queued}
use Rattle.r6_core.specs.Shards.{layout_in, state_of}
use Rattle.r6_core.specs.Inside.{IsSettled, anything}
use Rattle.r6_core.specs.Together.{AreKnownFirst}
use Rattle.r6_core.proofs.Scanned.{IsSameLine, all_gathered, none_known, same_settled, same_state, turns_from, with_line}
use Rattle.r6_core.proofs.state.State.start_all.Goals as goal

-- all are gathered
pub start_unknown-requires-clause-settled : goal.start_unknown-requires-clause-settled
start_unknown-requires-clause-settled c =
    let s = c.args.self.now in
    subst (λ (line : Line Queued). IsSettled (with_line s line)) (sym c.gather.ensures) (same_settled s _ (all_gathered s anything) c.requires.settled)

pub start_unknown-requires-clause-live : goal.start_unknown-requires-clause-live
start_unknown-requires-clause-live c = c.requires.live

pub start_unknown-requires-clause-known : goal.start_unknown-requires-clause-known
start_unknown-requires-clause-known c =
    let s = c.args.self.now in
    subst (λ (line : Line Queued). AreKnownFirst (with_line s line)) (sym c.gather.ensures) (none_known s)

pub returns-clause-core : goal.returns-clause-core
returns-clause-core c = c.start_unknown.ensures.core

pub returns-clause-leads : goal.returns-clause-leads
returns-clause-leads c =
    let s = c.args.self.now in
    let same = subst (IsSameLine s) (sym c.gather.ensures) (all_gathered s anything) in
    subst (λ (x : Shard). Through (layout_in s) s.frames.shard Scans x (state_of c.start_unknown.new.self)) (same_state s c.gather.new.self same.requests)
    c.start_unknown.ensures.leads

pub returns-clause-turns : goal.returns-clause-turns
returns-clause-turns c =
    let s = c.args.self.now in
    let same = subst (IsSameLine s) (sym c.gather.ensures) (all_gathered s anything) in
    turns_from s c.gather.new.self c.start_unknown.new.self same c.start_unknown.ensures.turns

pub returns-clause-only : goal.returns-clause-only
returns-clause-only c = c.start_unknown.ensures.only
