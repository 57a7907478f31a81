use Rattle.std.proofs.Common.{◌≡◌, ◌++◌, ◌∷◌, [], ap, ◌∙◌, arith}
use Rattle.std.proofs.lemmas.List.{length-map}
use Rattle.r6_world.specs.ShardStates.{Reading}
use Rattle.r6_frames.specs.Directs.{read_entry}
use Rattle.r6_waiters.specs.Line.{capacity_of, causes_of, entries_of}
use Rattle.r6_core.specs.Inside.{anything}
use Rattle.r6_core.specs.Queued.{requests_in}
use Rattle.r6_core.specs.Shards.{waiting_of}
use Rattle.r6_core.proofs.Accepting.{pushed_requests}
use Rattle.r6_core.proofs.BackInLine.{fits_in_line}
use Rattle.r6_core.proofs.Lined.{SameRoom}
use Rattle.r6_core.proofs.SettingBack.{erred, set_back_again, set_back_settled, set_back_takes}
use Rattle.r6_core.proofs.state.State.set_back.Goals.{After-wait}
use Rattle.r6_core.proofs.state.State.set_back.Goals as goal

-- it waits at the end of the line
last : (c : After-wait) → requests_in c.wait.new.line ≡ waiting_of c.args.self.now ++ erred c.set_back-id.result ∷ []
last c = ap requests_in c.wait.ensures ∙ pushed_requests c.args.self.now anything (erred c.set_back-id.result)

room : (c : After-wait) → SameRoom c.args.self.now.waiting c.wait.new.line
room c = (ap capacity_of c.wait.ensures, ap causes_of c.wait.ensures)

pub wait-requires-clause-room : goal.wait-requires-clause-room
wait-requires-clause-room c =
    let s = c.args.self.now in
    let sets = c.set_back-id.ensures.sets_back in
    let fits = fits_in_line s c.set_back-id.new.self (read_entry sets.read (Reading c.args.token)) c.requires.core.sound sets.requests in
    let long = length-map (entries_of s.waiting) (λ entry. entry.1) in
    omega (arith, fits, long)

pub returns-clause-core : goal.returns-clause-core
returns-clause-core c =
    let back = c.set_back-id.ensures in
    set_back_settled c.args.self.now c.args.token c.set_back-id.result c.set_back-id.new.self c.wait.new.line c.requires.core back.sound back.live back.sets_back back.holds back.same back.next (last c) (room c)

pub returns-clause-takes : goal.returns-clause-takes
returns-clause-takes c =
    let back = c.set_back-id.ensures in
    set_back_takes c.args.self.now c.args.token c.set_back-id.result c.set_back-id.new.self c.wait.new.line c.requires.core back.sound back.live back.sets_back back.holds back.same back.next (last c) (room c)

pub returns-clause-again : goal.returns-clause-again
returns-clause-again c =
    let back = c.set_back-id.ensures in (
      erred c.set_back-id.result ∷ [],
      set_back_again c.args.self.now c.args.token c.set_back-id.result c.set_back-id.new.self c.wait.new.line c.requires.core back.sound back.live back.sets_back back.holds back.same back.next (last c) (room c),
      last c,
    )
