use Rattle.std.proofs.Common.{sym, subst}
use Rattle.r6_core.specs.Inside.{MovesOver}
use Rattle.r6_core.proofs.GivingOver.{move_fits, moves_none, moves_over}
use Rattle.r6_core.proofs.state.State.move_over.Goals as goal

pub returns-then-not-is_live : goal.returns-then-not-is_live
returns-then-not-is_live c = moves_none c.args.self.now c.requires (λ live. absurd (cc (c.is_live.ensures.1 live, c.if-not-is_live.true)))

pub push_back-requires : goal.push_back-requires
push_back-requires c =
    let moves = c.move_over-slot.ensures in
    move_fits c.args.self.now c.move_over-slot.new.self c.in-Some.frame c.move_over-slot.result.0 c.move_over-slot.result.1 c.requires moves.sound moves.moves moves.owed moves.requests moves.rows

pub returns : goal.returns
returns c =
    let moves = c.move_over-slot.ensures in
    subst (λ calls. MovesOver c.args.self.now (record c.args.self.now { frames = c.move_over-slot.new.self; calls = calls })) (sym c.push_back.ensures)
    (moves_over c.args.self.now c.move_over-slot.new.self c.in-Some.frame c.move_over-slot.result.0 c.move_over-slot.result.1 c.requires moves.sound moves.moves moves.owed moves.requests moves.rows moves.last moves.readers)
