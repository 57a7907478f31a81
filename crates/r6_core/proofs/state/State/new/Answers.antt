use Rattle.std.proofs.Common.{refl}
use Rattle.r6_core.proofs.Fresh.{fresh_core}
use Rattle.r6_core.proofs.state.State.new.Goals as goal

pub returns-clause-core : goal.returns-clause-core
returns-clause-core c =
    let lists = c.in_ok-lists.ensures in
    fresh_core _ refl refl lists.line lists.replies refl lists.calls refl c.none.ensures
    c.args.geometry c.args.shard c.requires.limits c.requires.shard c.in_ok-frames.ensures.start.1 c.in_ok-frames.ensures.start.2
    c.shard_rows-first_row.ensures.start c.shard_rows-first_row.ensures.start c.in_ok-frames.ensures.sound c.in_ok-frames.ensures.start.0
    lists.empty lists.space
