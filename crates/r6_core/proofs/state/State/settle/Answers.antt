use Rattle.std.proofs.Common.{◌≡◌, ℕ, length, sym, subst, arith, rules}
use Rattle.r6_world.specs.ShardStates.{Shard}
use Rattle.r6_world.specs.Steps.{Through, GoesOn}
use Rattle.r6_core.specs.Inside.{StandByNumber}
use Rattle.r6_core.specs.Shards.{layout_in, state_of}
use Rattle.r6_core.proofs.Settling.{driven_goes, settling, settling_on, fewer_left, settled, settled_sorted, settled_within, sorted_keeps, sorted_order}
use Rattle.r6_core.proofs.state.State.settle.Goals as goal

pub loop-frame-init : goal.loop-frame-init
loop-frame-init c =
    let drive = c.drive_all.ensures in
    let s = c.args.self.now in
    settling s c.drive_all.new.self (driven_goes s c.drive_all.new.self c.requires.sound (c.is_live.ensures.0 c.if-not-is_live.false) drive.sound drive.live drive.drives drive.requests drive.rows drive.owed) drive.drives c.requires.sound c.requires.reading drive.live drive.driven

pub drive_all-requires-clause-readable : goal.drive_all-requires-clause-readable
drive_all-requires-clause-readable c = c.requires.readable (c.is_live.ensures.0 c.if-not-is_live.false)

pub loop-frame-smaller : goal.loop-frame-smaller
loop-frame-smaller c =
    let done = c.finish.ensures in
    fewer_left c.args.self.now c.loop-frame.self c.finish.new.self c.in-Some.frame c.loop-frame.invariant c.in-Some.ensures
    done.sound done.live done.leads done.rests done.others done.keeps.0 done.released done.ends done.keeps.2 done.keeps.1 done.reads

pub loop-frame-preserved : goal.loop-frame-preserved
loop-frame-preserved c =
    let done = c.finish.ensures in
    settling_on c.args.self.now c.loop-frame.self c.finish.new.self c.in-Some.frame c.loop-frame.invariant c.in-Some.ensures
    done.sound done.live done.leads done.rests done.others done.keeps.0 done.released done.ends done.keeps.2 done.keeps.1 done.reads

-- ---- what was finished stands by number

pub sort_finished-requires-clause-released : goal.sort_finished-requires-clause-released
sort_finished-requires-clause-released c =
    let s = c.args.self.now in
    let inv = c.loop-frame.invariant in
    let marked = c.requires.sound.requests.marked in
    let long : c.len-first.result ≡ length s.replies.items = search rules in
    omega (arith, inv.released, marked, long)

pub sort_finished-requires-clause-within : goal.sort_finished-requires-clause-within
sort_finished-requires-clause-within c =
    let s = c.args.self.now in
    let within = settled_within s c.loop-frame.self c.loop-frame.invariant.more c.loop-frame.invariant.items in
    let long : c.len-first.result ≡ length s.replies.items = search rules in
    omega (arith, within, long)

pub returns-clause-core : goal.returns-clause-core
returns-clause-core c =
    settled_sorted c.loop-frame.self c.sort_finished.new.self c.len-first.result
    (settled c.args.self.now c.loop-frame.self c.loop-frame.invariant c.in_default.ensures) c.sort_finished.ensures

pub returns-clause-leads : goal.returns-clause-leads
returns-clause-leads c =
    let s = c.args.self.now in
    subst (λ (after : Shard). Through (layout_in s) s.frames.shard GoesOn (state_of s) after) (sym c.sort_finished.ensures.state) c.loop-frame.invariant.leads

pub returns-clause-keeps : goal.returns-clause-keeps
returns-clause-keeps c =
    let inv = c.loop-frame.invariant in
    sorted_keeps c.args.self.now c.loop-frame.self c.sort_finished.new.self c.len-first.result (inv.same, inv.waiting, inv.unanswered) c.sort_finished.ensures

pub returns-clause-order : goal.returns-clause-order
returns-clause-order c =
    let s = c.args.self.now in
    let inv = c.loop-frame.invariant in
    let long : c.len-first.result ≡ length s.replies.items = search rules in
    let by = subst (λ (from : ℕ). StandByNumber c.loop-frame.self from c.sort_finished.new.self) long c.sort_finished.ensures in
    sorted_order s c.loop-frame.self c.sort_finished.new.self inv.more c.requires.sound inv.released inv.items by
