use Rattle.r6_frames.specs.Uses.{AwaitsBuffer, IsBufferAway, IsLateFor, retired, spared, spared_home, use_home}
use Rattle.r6_frames.specs.Successors.{brought_home, is_own}
use Rattle.r6_frames.specs.declared.frames.FrameUse.TheVariants.{Held, Returning}
use Rattle.r6_frames.specs.declared.frames.FrameUse.{FrameUse}
use Rattle.r6_stripe.specs.Steps.{Held as StripeHold}
use Rattle.r6_recover.specs.declared.class.RowClass.{RowClass}
use Rattle.r6_layout.specs.PlainArray.{Block}
use Rattle.std.proofs.lemmas.List.{append-nil}
use Rattle.std.proofs.Common.{refl, ◌≡◌, ℕ, ◌++◌, sym, ap, subst, ◌∙◌, Bool, true, false, Option, Some, None}
use Rattle.std.specs.Prelude.{◌&&◌, not}
use Rattle.r6_stripe.specs.Checks.{IsClassAfter, IsClassIf}
use Rattle.r6_stripe.specs.Holds.{Hold, Kind, cell_at, all_known, wants_all, passes_over}
use Rattle.r6_stripe.specs.Plans.{is_out}
use Rattle.r6_stripe.proofs.CellsAfter.{kind_after}
use Rattle.r6_frames.proofs.LateBuffers.{brought_has}
use Rattle.r6_frames.proofs.answer.bring_home.Goals.{After-bring_to, After-bring_to-in-Returning}
use Rattle.r6_frames.proofs.answer.bring_home.Goals as goal

-- without a new class the hold has the buffer, and no more
brought_late : (own : Bool) (hold : StripeHold) (position : ℕ) (buffer : Block) (new : StripeHold) → new ≡ record (brought_home own hold position buffer) { class = new.class }
    → new.class ≡ hold.class → new ≡ brought_home own hold position buffer
brought_late true hold position buffer new is same =
    is ∙ ap (λ (class : Option RowClass). record (brought_home true hold position buffer) { class = class }) same
brought_late false hold position buffer new is same =
    is ∙ ap (λ (class : Option RowClass). record (brought_home false hold position buffer) { class = class }) same

-- a late answer leaves the class
class_late : (own : Bool) (hold : StripeHold) (position : ℕ) (old new : Option RowClass) → IsLateFor own hold position
    → (is_out (cell_at hold.planned.hold.cells position).standing ≡ true → new ≡ old) → (own ≡ false → new ≡ old) → new ≡ old
class_late true hold position old new late first apart = first late
class_late false hold position old new late first apart = apart refl

awaits_held : (c : After-bring_to) → AwaitsBuffer (Held c.in-Held.held) c.args.device c.args.position c.args.buffer
awaits_held c = subst (λ (used : FrameUse). AwaitsBuffer used c.args.device c.args.position c.args.buffer) c.in-Held.is c.requires.away

pub unreachable-requires : goal.unreachable-requires
unreachable-requires c = subst (λ (used : FrameUse). AwaitsBuffer used c.args.device c.args.position c.args.buffer) c.in-Free.is c.requires.away

pub bring_to-requires-clause-away : goal.bring_to-requires-clause-away
bring_to-requires-clause-away c =
    let h = c.in-Held.held in
    let away = subst (λ (used : FrameUse). AwaitsBuffer used c.args.device c.args.position c.args.buffer) c.in-Held.is c.requires.away in
    subst (λ (own : Bool). IsBufferAway own h.hold c.args.position) (sym c.is_own-is_own.ensures) away.0

pub bring_to-requires-clause-size : goal.bring_to-requires-clause-size
bring_to-requires-clause-size c = (subst (λ (used : FrameUse). AwaitsBuffer used c.args.device c.args.position c.args.buffer) c.in-Held.is c.requires.away).1

pub returns-in-Held-clause-left : goal.returns-in-Held-clause-left
returns-in-Held-clause-left c =
    let h = c.in-Held.held in
    let own = is_own h.successor c.args.device.0 c.args.device.1 in
    let now = c.bring_to.new.hold in
    let same = c.is_own-is_own.ensures in
    let away = awaits_held c in
    let class = class_late own h.hold c.args.position h.hold.class now.class away.2 c.bring_to.ensures.late (λ apart. c.bring_to.ensures.apart (same ∙ apart)) in
    let late = brought_late own h.hold c.args.position c.args.buffer now
    (c.bring_to.ensures.home ∙ ap (λ (o : Bool). record (brought_home o h.hold c.args.position c.args.buffer) { class = now.class }) same) class in
    ap (λ (hold : StripeHold). Held (record h { hold = hold })) late
    ∙ ap (λ (used : FrameUse). use_home used c.args.device c.args.position c.args.buffer) (sym c.in-Held.is)

pub returns-in-Held-clause-spare : goal.returns-in-Held-clause-spare
returns-in-Held-clause-spare c =
    let items = c.args.spare.now.items in
    sym (append-nil items) ∙ ap (λ (used : FrameUse). items ++ spared_home used c.args.device c.args.position c.args.buffer) (sym c.in-Held.is)

pub returns-in-Held-clause-room : goal.returns-in-Held-clause-room
returns-in-Held-clause-room c = refl

pub returns-in-Returning-clause-room : goal.returns-in-Returning-clause-room
returns-in-Returning-clause-room c = c.retire.ensures.room

pub retire-requires-clause-room : goal.retire-requires-clause-room
retire-requires-clause-room c = c.requires.room

pub bring_to-requires-in-Returning-clause-away : goal.bring_to-requires-in-Returning-clause-away
bring_to-requires-in-Returning-clause-away c =
    let away = subst (λ (used : FrameUse). AwaitsBuffer used c.args.device c.args.position c.args.buffer) c.in-Returning.is c.requires.away in
    subst (λ (own : Bool). IsBufferAway own c.in-Returning.hold c.args.position) (sym c.is_own-is_own-in-Returning.ensures) away.0

pub bring_to-requires-in-Returning-clause-size : goal.bring_to-requires-in-Returning-clause-size
bring_to-requires-in-Returning-clause-size c = (subst (λ (used : FrameUse). AwaitsBuffer used c.args.device c.args.position c.args.buffer) c.in-Returning.is c.requires.away).1

-- ---- a hold that has ended

idle_kind : (own : Bool) (hold : StripeHold) (position : ℕ) (buffer : Block) → hold.planned.hold.kind ≡ Kind.Idle
    → (brought_home own hold position buffer).planned.hold.kind ≡ Kind.Idle
idle_kind own hold position buffer idle =
    brought_has own hold position (λ p. p.hold.kind ≡ Kind.Idle) buffer idle (λ event. kind_after hold.planned.hold event ∙ idle)

-- it takes no class
idle_class : (hold : Hold) (old new : Option RowClass) → hold.kind ≡ Kind.Idle → IsClassAfter hold old new → new ≡ old
idle_class hold None new idle after =
    subst (λ (kind : Kind). IsClassIf (wants_all kind && (not (passes_over hold) && all_known hold.cells)) hold.cells new) idle after
idle_class hold (Some class) new idle after = after

class_idle : (own : Bool) (hold : Hold) (old new : Option RowClass) → hold.kind ≡ Kind.Idle → (own ≡ true → IsClassAfter hold old new) → (own ≡ false → new ≡ old) → new ≡ old
class_idle true hold old new idle after apart = idle_class hold old new idle (after refl)
class_idle false hold old new idle after apart = apart refl

awaits_last : (c : After-bring_to-in-Returning) → AwaitsBuffer (Returning c.in-Returning.hold c.in-Returning.successor) c.args.device c.args.position c.args.buffer
awaits_last c = subst (λ (used : FrameUse). AwaitsBuffer used c.args.device c.args.position c.args.buffer) c.in-Returning.is c.requires.away

abbrev its : After-bring_to-in-Returning → Bool
its c = is_own c.in-Returning.successor c.args.device.0 c.args.device.1

last : (c : After-bring_to-in-Returning) → c.bring_to-in-Returning.new.hold ≡ brought_home (its c) c.in-Returning.hold c.args.position c.args.buffer
last c =
    let hold = c.in-Returning.hold in
    let new = c.bring_to-in-Returning.new.hold in
    let done = c.bring_to-in-Returning.ensures in
    let same = c.is_own-is_own-in-Returning.ensures in
    let home : new ≡ record (brought_home (its c) hold c.args.position c.args.buffer) { class = new.class } =
    done.home ∙ ap (λ (o : Bool). record (brought_home o hold c.args.position c.args.buffer) { class = new.class }) same in
    let idle = ap (λ (x : StripeHold). x.planned.hold.kind) home ∙ idle_kind (its c) hold c.args.position c.args.buffer (awaits_last c).2 in
    brought_late (its c) hold c.args.position c.args.buffer new home
    (class_idle (its c) new.planned.hold hold.class new.class idle (λ is. done.class (same ∙ is)) (λ is. done.apart (same ∙ is)))

pub retire-requires-clause-ended : goal.retire-requires-clause-ended
retire-requires-clause-ended c =
    let at = (goal.at.retire-requires-clause-ended c).After-bring_to-in-Returning in
    ap (λ (hold : StripeHold). hold.planned.hold.kind) (last at) ∙ idle_kind (its at) c.in-Returning.hold c.args.position c.args.buffer (awaits_last at).2

pub returns-in-Returning-clause-left : goal.returns-in-Returning-clause-left
returns-in-Returning-clause-left c =
    let at = (goal.at.returns-in-Returning-clause-left c).After-bring_to-in-Returning in
    c.retire.ensures.left ∙ ap (λ (hold : StripeHold). retired hold c.in-Returning.successor) (last at)
    ∙ ap (λ (used : FrameUse). use_home used c.args.device c.args.position c.args.buffer) (sym c.in-Returning.is)

pub returns-in-Returning-clause-spare : goal.returns-in-Returning-clause-spare
returns-in-Returning-clause-spare c =
    let at = (goal.at.returns-in-Returning-clause-spare c).After-bring_to-in-Returning in
    let items = c.args.spare.now.items in
    c.retire.ensures.spare ∙ ap (λ (hold : StripeHold). items ++ spared hold) (last at)
    ∙ ap (λ (used : FrameUse). items ++ spared_home used c.args.device c.args.position c.args.buffer) (sym c.in-Returning.is)
