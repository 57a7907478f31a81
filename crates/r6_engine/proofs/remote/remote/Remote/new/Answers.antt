use Rattle.std.proofs.Common.{vec_capacity, sym, subst, ap, ◌∙◌, arith, [], List, ℕ, None}
use Rattle.r6_engine.specs.remote.Lines.{lines_of}
use Rattle.r6_engine.specs.remote.Remotes.{IsKept, performer_in, usize_max}
use Rattle.r6_engine.proofs.RemoteLemmas.Lines.{same-length}
use Rattle.r6_engine.proofs.RemoteLemmas.Fresh.{fresh-kept, fresh-performer}
use Rattle.r6_engine.proofs.remote.remote.Remote.new.Goals as goal

pub returns-clause-remote : goal.returns-clause-remote
returns-clause-remote g c =
    let told = g.D.BlockDevice.told in
    let promised = g.D.BlockDevice.promised in
    let passes = c.args.passes.items in
    let many = same-length told promised c.args.exchanges.now passes c.requires.ends in
    let labels = c.in_ok-labels.ensures in
    record {
      ends = c.requires.ends;
      kept = subst (λ (y : List (ℕ × ℕ)). IsKept told promised (lines_of passes) y (vec_capacity c.in_ok-labels.labels) None 0 usize_max) (sym labels.items)
          (subst (λ y. IsKept told promised (lines_of passes) [] y None 0 usize_max) (sym labels.exact)
          (fresh-kept told promised c.args.room passes c.requires.fresh usize_max (omega (arith, many))));
    }

pub returns-clause-fresh : goal.returns-clause-fresh
returns-clause-fresh g c =
    let told = g.D.BlockDevice.told in
    let promised = g.D.BlockDevice.promised in
    let passes = c.args.passes.items in
    let labels = c.in_ok-labels.ensures in
    ap (λ (y : List (ℕ × ℕ)). performer_in told promised (lines_of passes) y (vec_capacity c.in_ok-labels.labels) c.args.stop None) labels.items
    ∙ ap (λ y. performer_in told promised (lines_of passes) [] y c.args.stop None) labels.exact
    ∙ fresh-performer told promised c.args.room passes c.requires.fresh c.args.stop
