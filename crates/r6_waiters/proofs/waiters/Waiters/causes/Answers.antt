use Rattle.std.proofs.Common.{◌≡◌, ◌<◌, length, subst, rules}
use Rattle.r6_waiters.specs.Line.{entries_of, AreBelow}
use Rattle.r6_waiters.specs.Sets.{cause_at}
use Rattle.r6_waiters.proofs.Gathered.{waiting-below}
use Rattle.r6_waiters.proofs.waiters.Waiters.causes.Goals as goal

pub returns-clause-entries : goal.returns-clause-entries
returns-clause-entries g c =
    let sets = c.self.inside.sets.items in
    let number : length sets ≡ c.len.result = search rules in
    subst (λ v. AreBelow c.len.result (entries_of v)) c.self.view_is
    (waiting-below c.len.result (cause_at sets) c.self.inside.places.items (λ i there. subst (λ n. cause_at sets i < n) number (c.self.invariant.marked.within i there)))
