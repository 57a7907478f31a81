use Rattle.std.proofs.Common.{◌≡◌, ◌+◌, inl, inr, sym, ap, subst, ◌∙◌, arith}
use Rattle.std.proofs.lemmas.Bool.{cases_lt}
use Rattle.r6_layout.specs.Layout.{first_row}
use Rattle.r6_frames.specs.Calls.{NotHeldBy}
use Rattle.r6_frames.specs.Rebuilt.{next_row}
use Rattle.r6_core.proofs.state.State.first_unheld.Goals.{else-row-end-via-then-row-end+else-not-is_held, else-row-end-via-else-row-end}
use Rattle.r6_core.proofs.state.State.first_unheld.Goals as goal

pub returns-then-not-is_held : goal.returns-then-not-is_held
returns-then-not-is_held c =
    let fs = c.args.self.now.frames in
    let end : c.shard_rows-end.result.end ≡ first_row fs.geometry (fs.shard + 1) = c.shard_rows-end.ensures.end ∙ (λ i. first_row (c.geometry.ensures i) (c.shard.ensures i + 1)) in
    record {
      number = c.loop-number.number;
      near = c.loop-number-test.true;
      row_is = c.next_row-row.ensures;
      unheld = (
        omega (arith, end, c.next_row-row.ensures, c.if-row-end.true),
        subst (NotHeldBy fs) c.next_row-row.ensures
            (λ frame h is at. let held = c.is_held.ensures.1 (λ free. free frame h is at) in let not = c.if-not-is_held.true in absurd (cc)),
      );
      first = c.loop-number.invariant;
    }

pub loop-number-preserved : goal.loop-number-preserved
loop-number-preserved c = λ number below free.
    let fs = c.args.self.now.frames in
    let end : c.shard_rows-end.result.end ≡ first_row fs.geometry (fs.shard + 1) = c.shard_rows-end.ensures.end ∙ (λ i. first_row (c.geometry.ensures i) (c.shard.ensures i + 1)) in
    elim (cases_lt number c.loop-number.number) [
      | inl before ↦ c.loop-number.invariant number before free
      | inr last ↦
          let here : number ≡ c.loop-number.number = omega arith in
          let row : next_row c.args.rebuilt number ≡ c.next_row-row.result = ap (next_row c.args.rebuilt) here ∙ sym c.next_row-row.ensures in
          elim c.else-row-end.branch [
            | else-row-end-via-then-row-end+else-not-is_held w ↦
                let unheld = subst (NotHeldBy fs) row free.1 in
                let is = w.if-not-is_held.false in
                w.is_held.ensures.0 is unheld
            | else-row-end-via-else-row-end w ↦ absurd (omega (arith, end, row, free.0, w.if-row-end.false))
          ]
    ]

pub returns : goal.returns
returns c = λ number below free. c.loop-number.invariant number (omega (arith, below, c.loop-number-test.false)) free
