use Rattle.std.proofs.Common.{◌≡◌, ◌∙◌, ℕ, sym, ap, rules}
use Rattle.r6_waiters.specs.Line.{entries_of, with_entries, all_moved}
use Rattle.r6_waiters.proofs.Gathered.{gathered_below, gathered-none, gathered-more, gathered-all}
use Rattle.r6_waiters.proofs.waiters.Waiters.gather.Goals as goal

pub loop-from-init : goal.loop-from-init
loop-from-init g c = sym (ap (λ es. with_entries c.args.self.now es) (gathered-none c.args.cause (entries_of c.args.self.now)))

pub loop-from-preserved : goal.loop-from-preserved
loop-from-preserved g c =
    c.move_all.ensures
    ∙ ap (λ v. with_entries v (all_moved c.loop-from.from c.args.cause (entries_of v))) c.loop-from.invariant
    ∙ ap (λ es. with_entries c.args.self.now es) (gathered-more c.loop-from.from c.args.cause (entries_of c.args.self.now))

pub returns : goal.returns
returns g c =
    let all : c.loop-from.from ≡ c.causes-from-end.result = search rules in
    c.loop-from.invariant
    ∙ ap (λ (n : ℕ). with_entries c.args.self.now (gathered_below n c.args.cause (entries_of c.args.self.now))) all
    ∙ ap (λ es. with_entries c.args.self.now es) (gathered-all c.causes-from-end.result c.args.cause (entries_of c.args.self.now) c.causes-from-end.ensures.entries)
