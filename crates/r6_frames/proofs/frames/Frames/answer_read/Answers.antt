use Rattle.std.proofs.Common.{refl, ◌≡◌, ◌-◌, List, length, set, Some, None, sym, ap, subst, ◌∙◌, arith}
use Rattle.std.proofs.lemmas.List.{length-set, set-set}
use Rattle.r6_frames.specs.declared.directs.Direct.{Direct}
use Rattle.r6_frames.specs.FramesState.{FramesState}
use Rattle.r6_frames.specs.Inside.{view_of, commands_in}
use Rattle.r6_frames.specs.Views.{outstanding}
use Rattle.r6_frames.specs.Directs.{direct_at, left_by, returned}
use Rattle.r6_frames.specs.Reads.{AnswersRead}
use Rattle.r6_frames.specs.Sound.{IsSound}
use Rattle.r6_frames.proofs.DirectReads.{direct_own}
use Rattle.r6_frames.proofs.DirectUses.{frees_direct}
use Rattle.r6_frames.proofs.DirectSteps.{read_in, answered_sound, sized_answered, answered, is_direct, within_answered, read_answered, live_answered}
use Rattle.r6_frames.proofs.frames.Frames.answer_read.Goals.{Joined-command}
use Rattle.r6_frames.proofs.frames.Frames.answer_read.Goals as goal

there : (c : Joined-command) → outstanding (view_of c.self.inside) c.args.token ≡ Some c.remove-command.result
there c = c.remove-command.ensures.entry

has : (c : Joined-command) → (direct_at c.self.inside.directs (c.remove-command.result.frame - 64)).read ≡ Some c.take_read-read.result
has c = c.take_read-read.ensures.read

-- the frames that are left
left : (c : Joined-command) → read_in (view_of c.self.inside) c.args.token (c.remove-command.result.frame - 64) c.take_read-read.result.buffer
    ≡ record (view_of c.self.inside) { commands = commands_in c.remove-command.new.commands; directs = c.bring_back.new.self }
left c =
    let fs = view_of c.self.inside in
    let number = c.remove-command.result.frame - 64 in
    let r = c.take_read-read.result in
    let none = left_by (direct_at fs.directs number) in
    let within = within_answered fs c.args.token c.remove-command.result c.self.invariant.0 (rw (← c.self.view_is) at c.requires.wanted) (rw (← c.self.view_is) at c.requires.read) (there c) in
    let directs : c.bring_back.new.self ≡ set fs.directs number (record { read = None; buffer = Some r.buffer }) =
    c.bring_back.ensures ∙ ap (λ (ds : List Direct). set ds number (returned (direct_at ds number) r.buffer)) c.take_read-read.ensures.left
    ∙ ap (λ (d : Direct). set (set fs.directs number none) number (returned d r.buffer)) (direct_own fs.directs number none within)
    ∙ set-set fs.directs number none (returned none r.buffer) in
    let commands = ap commands_in c.remove-command.ensures.rest in
    sym (λ i. record fs { commands = commands i; directs = directs i })

pub returns-clause-sound : goal.returns-clause-sound
returns-clause-sound c =
    subst IsSound (left c)
    (answered_sound (view_of c.self.inside) c.args.token c.remove-command.result c.take_read-read.result c.self.invariant.0 (rw (← c.self.view_is) at c.requires.awaited) (rw (← c.self.view_is) at c.requires.wanted) (rw (← c.self.view_is) at c.requires.read) (there c) (has c) c.take_read-read.result.buffer (sized_answered (view_of c.self.inside) c.args.token c.remove-command.result c.take_read-read.result c.self.invariant.0 (rw (← c.self.view_is) at c.requires.awaited) (rw (← c.self.view_is) at c.requires.wanted) (rw (← c.self.view_is) at c.requires.read) (there c) (has c)))

pub returns-clause-live : goal.returns-clause-live
returns-clause-live c =
    live_answered (view_of c.self.inside) c.args.token c.remove-command.result c.take_read-read.result c.self.invariant.0 (rw (← c.self.view_is) at c.requires.awaited) (rw (← c.self.view_is) at c.requires.wanted) (rw (← c.self.view_is) at c.requires.read) (there c) (has c)

pub returns-clause-answers : goal.returns-clause-answers
returns-clause-answers c =
    rw (← c.self.view_is) (let fs = view_of c.self.inside in
    let r = c.take_read-read.result in
    subst (AnswersRead fs c.args.token c.args.buffer _) (left c)
    (answered fs c.args.token c.remove-command.result r c.self.invariant.0 (rw (← c.self.view_is) at c.requires.awaited) (rw (← c.self.view_is) at c.requires.wanted) (rw (← c.self.view_is) at c.requires.read) (there c) (has c) c.args.buffer))

pub returns-clause-frees : goal.returns-clause-frees
returns-clause-frees c =
    rw (← c.self.view_is) (let fs = view_of c.self.inside in
    let number = c.remove-command.result.frame - 64 in
    let directs = ap (λ (x : FramesState). x.directs) (sym (left c)) in
    (number, frees_direct fs (record fs { commands = commands_in c.remove-command.new.commands; directs = c.bring_back.new.self }) number _ directs))

pub remove-command-requires : goal.remove-command-requires
remove-command-requires c = ((rw (← c.self.view_is) at c.requires.awaited).0, (rw (← c.self.view_is) at c.requires.awaited).1)

pub invariant_of-self : goal.invariant_of-self
invariant_of-self c = (
  subst IsSound (left c)
      (answered_sound (view_of c.self.inside) c.args.token c.remove-command.result c.take_read-read.result c.self.invariant.0 (rw (← c.self.view_is) at c.requires.awaited) (rw (← c.self.view_is) at c.requires.wanted) (rw (← c.self.view_is) at c.requires.read) (there c) (has c) c.take_read-read.result.buffer (sized_answered (view_of c.self.inside) c.args.token c.remove-command.result c.take_read-read.result c.self.invariant.0 (rw (← c.self.view_is) at c.requires.awaited) (rw (← c.self.view_is) at c.requires.wanted) (rw (← c.self.view_is) at c.requires.read) (there c) (has c))),
  record { buffer_room = c.self.invariant.1.buffer_room; shapes = c.self.invariant.1.shapes; command_room = ap (λ t. t.0) c.remove-command.ensures.rest ∙ c.self.invariant.1.command_room; marked = c.self.invariant.1.marked },
)

pub returns-clause-holds : goal.returns-clause-holds
returns-clause-holds c = rw (← c.self.view_is) refl

pub returns-clause-same : goal.returns-clause-same
returns-clause-same c = rw (← c.self.view_is) (refl, refl)

pub returns-clause-next : goal.returns-clause-next
returns-clause-next c =
    rw (← c.self.view_is) (ap (λ t. t.1.0) c.remove-command.ensures.rest)

pub overflow_sub-number : goal.overflow_sub-number
overflow_sub-number c = is_direct (view_of c.self.inside) c.args.token c.remove-command.result c.self.invariant.0 (rw (← c.self.view_is) at c.requires.wanted) (rw (← c.self.view_is) at c.requires.read) c.remove-command.ensures.entry

pub take_read-read-requires : goal.take_read-read-requires
take_read-read-requires c = read_answered (view_of c.self.inside) c.args.token c.remove-command.result c.self.invariant.0 (rw (← c.self.view_is) at c.requires.wanted) (rw (← c.self.view_is) at c.requires.read) c.remove-command.ensures.entry

pub bring_back-requires : goal.bring_back-requires
bring_back-requires c =
    let within = within_answered (view_of c.self.inside) c.args.token c.remove-command.result c.self.invariant.0 (rw (← c.self.view_is) at c.requires.wanted) (rw (← c.self.view_is) at c.requires.read) c.remove-command.ensures.entry in
    let long = ap length c.take_read-read.ensures.left ∙ length-set c.self.inside.directs (c.remove-command.result.frame - 64) _ in
    omega arith
