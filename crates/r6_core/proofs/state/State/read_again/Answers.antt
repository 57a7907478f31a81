use Rattle.std.proofs.Common.{◌∙◌, ap, sym, subst, arith}
use Rattle.r6_frames.specs.declared.frames.Frames.{Frames}
use Rattle.r6_core.specs.Inside.{HandsBack, anything}
use Rattle.std.proofs.lemmas.List.{length-map}
use Rattle.r6_core.proofs.HandedBack.{back_fits, fewer_reads, handed_back, handing_none, handing_on}
use Rattle.r6_core.proofs.state.State.read_again.Goals as goal
use Rattle.r6_waiters.specs.Line.{capacity_of, causes_of, entries_of}
use Rattle.r6_core.specs.Queued.{requests_in, unerred}
use Rattle.r6_core.proofs.Accepting.{pushed_requests}

pub loop-request-init : goal.loop-request-init
loop-request-init c = handing_none c.args.self.now c.requires

pub wait-requires-clause-room : goal.wait-requires-clause-room
wait-requires-clause-room c =
    let mid = c.loop-request.self in
    let fits = back_fits mid c.in-Some.request c.hand_back.new.self c.loop-request.invariant.sound c.in-Some.ensures.back in
    let long = length-map (entries_of mid.waiting) (λ entry. entry.1) in
    omega (arith, fits, long)

pub loop-request-preserved : goal.loop-request-preserved
loop-request-preserved c =
    let mid = c.loop-request.self in
    let back = c.in-Some.ensures in
    let pushed = c.wait.ensures in
    handing_on c.args.self.now mid c.in-Some.request c.hand_back.new.self c.wait.new.line c.loop-request.invariant back.sound back.back back.holds back.same back.commands.0 back.readers
    (ap requests_in pushed ∙ pushed_requests mid anything (unerred c.in-Some.request)) (ap capacity_of pushed, ap causes_of pushed)

pub loop-request-smaller : goal.loop-request-smaller
loop-request-smaller c =
    let mid = c.loop-request.self in
    let back = c.in-Some.ensures in
    let pushed = c.wait.ensures in
    let one = fewer_reads mid c.in-Some.request c.hand_back.new.self c.wait.new.line c.loop-request.invariant.sound back.sound back.back back.holds back.same back.commands.0
    (ap requests_in pushed ∙ pushed_requests mid anything (unerred c.in-Some.request)) (ap capacity_of pushed, ap causes_of pushed) in
    omega arith

pub returns : goal.returns
returns c =
    let s = c.args.self.now in
    let mid = c.loop-request.self in
    let none = c.in_default.ensures.back in
    subst (λ (fs : Frames). HandsBack s (record mid { frames = fs })) (sym none.1) (handed_back s mid c.loop-request.invariant none.0)
