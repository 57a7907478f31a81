use Rattle.std.proofs.Common.{ap, ◌∙◌}
use Rattle.r6_core.specs.declared.state.State.{State}
use Rattle.r6_core.proofs.SeenFailure.{failed_core, failed_order, gathered_state, marked_within, none_read_in, see_failed_order, see_failed_state, seen_in, seen_sound, stopped_in}
use Rattle.r6_core.proofs.state.State.see_failure.Goals as goal

pub read_again-requires : goal.read_again-requires
read_again-requires c =
    let seen = c.see_failure.ensures in
    seen_sound c.args.self.now c.see_failure.new.self c.requires seen.sees seen.commands seen.owed seen.requests seen.holds seen.sound

pub gather-requires-clause-stopped : goal.gather-requires-clause-stopped
gather-requires-clause-stopped c =
    let seen = c.see_failure.ensures in
    stopped_in c.args.self.now c.see_failure.new.self c.read_again.new.self seen.sees seen.requests c.read_again.ensures

pub sort_behind-requires : goal.sort_behind-requires
sort_behind-requires c = marked_within c.read_again.new.self c.gather.new.self c.read_again.ensures.sound c.gather.ensures.gathers

pub returns-clause-core : goal.returns-clause-core
returns-clause-core c =
    let s = c.args.self.now in
    let fs = c.see_failure.new.self in
    let seen = c.see_failure.ensures in
    let back = c.read_again.new.self in
    let handed = c.read_again.ensures in
    let sort = c.sort_behind.ensures in
    failed_core back c.gather.new.self c.sort_behind.new.queue handed.sound (seen_in s fs back seen.sees seen.requests handed) (none_read_in s fs back seen.sees seen.requests handed)
    c.gather.ensures.gathers sort.before sort.same sort.sorted sort.capacity

pub returns-clause-fails : goal.returns-clause-fails
returns-clause-fails c =
    let s = c.args.self.now in
    let fs = c.see_failure.new.self in
    let seen = c.see_failure.ensures in
    let back = c.read_again.new.self in
    let handed = c.read_again.ensures in
    let sort = c.sort_behind.ensures in
    see_failed_state s fs back seen.sees seen.requests handed (record c.gather.new.self { replies = c.sort_behind.new.queue })
    (gathered_state back c.gather.new.self c.sort_behind.new.queue handed.sound (seen_in s fs back seen.sees seen.requests handed) (none_read_in s fs back seen.sees seen.requests handed)
    c.gather.ensures.gathers sort.before sort.same sort.sorted sort.capacity)

pub returns-clause-order : goal.returns-clause-order
returns-clause-order c =
    let s = c.args.self.now in
    let fs = c.see_failure.new.self in
    let seen = c.see_failure.ensures in
    let back = c.read_again.new.self in
    let handed = c.read_again.ensures in
    let sort = c.sort_behind.ensures in
    see_failed_order s fs back seen.sees seen.requests handed (record c.gather.new.self { replies = c.sort_behind.new.queue })
    (failed_order back c.gather.new.self c.sort_behind.new.queue handed.sound (seen_in s fs back seen.sees seen.requests handed) (none_read_in s fs back seen.sees seen.requests handed)
    c.gather.ensures.gathers sort.before sort.same sort.sorted sort.capacity)

pub returns-clause-same : goal.returns-clause-same
returns-clause-same c =
    let handed = c.read_again.ensures in
    let sees = c.see_failure.ensures.sees in
    let gathers = c.gather.ensures.gathers in
    (gathers.shard.0 ∙ handed.geometry.0 ∙ sees.0, gathers.shard.1 ∙ handed.geometry.1 ∙ sees.1)

pub returns-clause-calls : goal.returns-clause-calls
returns-clause-calls c =
    let rest = c.read_again.ensures.rest in
    let gathers = c.gather.ensures.gathers in
    (gathers.rest.3.0 ∙ ap (λ (x : State). x.calls) rest, gathers.rest.3.1 ∙ ap (λ (x : State). x.untold) rest)

pub returns-clause-unanswered : goal.returns-clause-unanswered
returns-clause-unanswered c = c.gather.ensures.gathers.rest.1 ∙ ap (λ (x : State). x.unanswered) c.read_again.ensures.rest
