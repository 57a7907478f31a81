use Rattle.std.proofs.Common.{◌+◌, refl, sym, subst, arith}
use Rattle.r6_frames.proofs.Marking.{IsShiftedTo, marked_is, marks, next_then, shift_none, shift_one, stays}
use Rattle.r6_frames.proofs.rebuilt.RebuiltRows.mark.Goals.{then-self-number, else-self-number}
use Rattle.r6_frames.proofs.rebuilt.RebuiltRows.mark.Goals as goal

pub loop-number-init : goal.loop-number-init
loop-number-init c =
    let next = c.requires.rows.1 in
    record { count = next.count; start = refl; shifted = λ number below. absurd (omega arith); still = λ number le. refl }

pub loop-number-preserved : goal.loop-number-preserved
loop-number-preserved c =
    let r = c.args.self.now in
    let inv = c.loop-number.invariant in
    let was : IsShiftedTo r c.args.row c.loop-number.number c.loop-number.self = record { count = inv.count; start = inv.start; shifted = inv.shifted; still = inv.still } in
    elim c.if-self-number.branch [
      | then-self-number w ↦
          let now = subst (IsShiftedTo r c.args.row (c.loop-number.number + 1)) (sym w.self-is) (shift_one r c.loop-number.self c.args.row c.loop-number.number was c.loop-number-test.true w.if-self-number.true) in
          record { count = now.count; start = now.start; shifted = now.shifted; still = now.still }
      | else-self-number w ↦
          let now = subst (IsShiftedTo r c.args.row (c.loop-number.number + 1)) (sym w.self-is) (shift_none r c.loop-number.self c.args.row c.loop-number.number was w.if-self-number.false) in
          record { count = now.count; start = now.start; shifted = now.shifted; still = now.still }
    ]

pub returns-clause-built : goal.returns-clause-built
returns-clause-built c =
    let inv = c.loop-number.invariant in
    let marked = marked_is c.args.self.now c.loop-number.self c.args.row c.loop-number.number (record { count = inv.count; start = inv.start; shifted = inv.shifted; still = inv.still }) c.loop-number-test.false in
    let rows = c.requires.rows in
    marks rows.0 c.args.self.now c.args.row _ rows.1 c.requires.next rows.2 marked

pub returns-clause-rows : goal.returns-clause-rows
returns-clause-rows c =
    let inv = c.loop-number.invariant in
    let marked = marked_is c.args.self.now c.loop-number.self c.args.row c.loop-number.number (record { count = inv.count; start = inv.start; shifted = inv.shifted; still = inv.still }) c.loop-number-test.false in
    λ end rows below. next_then end c.args.self.now c.args.row _ rows c.requires.next below marked

pub returns-clause-others : goal.returns-clause-others
returns-clause-others c =
    let inv = c.loop-number.invariant in
    let marked = marked_is c.args.self.now c.loop-number.self c.args.row c.loop-number.number (record { count = inv.count; start = inv.start; shifted = inv.shifted; still = inv.still }) c.loop-number-test.false in
    let rows = c.requires.rows in
    stays rows.0 c.args.self.now c.args.row _ rows.1 c.requires.next rows.2 marked
