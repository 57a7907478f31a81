use Rattle.std.proofs.Common.{◌≡◌, ◌≤◌, ◌++◌, [], arith, false, get_or, length, refl, subst, true}
use Rattle.std.proofs.KnownBytes.{Appends-nil, Appends-trans}
use Rattle.std.specs.Io.KnownBytes.{Appends}
use Rattle.r6_engine.specs.declared.reply.EventReply.{EventReply}
use Rattle.r6_run.specs.Lines.{event_line, is_wait}
use Rattle.r6_run.proofs.Printing.{a_line, a_wait, all_printed, none_printed}
use Rattle.r6_run.proofs.lines.write_lines.Goals as goal
use Rattle.r6_run.proofs.lines.write_lines.Goals.{then-not-is_wait+in_ok-write_line, else-not-is_wait}

pub loop-reply-init : goal.loop-reply-init
loop-reply-init g c = ([], Appends-nil _, none_printed c.args.replies.now)

pub loop-reply-preserved : goal.loop-reply-preserved
loop-reply-preserved g c =
    let before = c.loop-reply.invariant in
    let replies = c.args.replies.now in
    let number = c.loop-reply.number in
    let index = c.loop-reply.reply-index in
    let reply = c.reply-item.result in
    elim c.if-not-is_wait.branch [
      | then-not-is_wait+in_ok-write_line w ↦ rw (w.out-is, w.number-is) (
        before.0 ++ event_line number (get_or replies index reply),
        Appends-trans _ _ _ _ _ before.1
            (subst (λ (r : EventReply). Appends (g.W.Write.contents c.loop-reply.out) (g.W.Write.contents w.write_line.new.out) (event_line number r)) c.reply-item.is w.in_ok-write_line.ensures),
        a_line replies before.0 number index reply c.loop-reply-test.true before.2
            (subst (λ (r : EventReply). false ≡ is_wait r) c.reply-item.is w.if-not-is_wait.ensures) _ refl,
      )
      | else-not-is_wait w ↦ rw (w.out-is, w.number-is) (
        before.0,
        before.1,
        a_wait replies before.0 number index reply c.loop-reply-test.true before.2
            (subst (λ (r : EventReply). true ≡ is_wait r) c.reply-item.is w.if-not-is_wait.ensures),
      )
    ]

pub returns : goal.returns
returns g c =
    let end : length c.args.replies.now ≤ c.loop-reply.reply-index = omega arith in
    let printed = c.loop-reply.invariant in
    subst (Appends (g.W.Write.contents c.args.out.now) (g.W.Write.contents c.loop-reply.out))
    (all_printed c.args.replies.now printed.0 c.loop-reply.number c.loop-reply.reply-index end printed.2)
    printed.1
