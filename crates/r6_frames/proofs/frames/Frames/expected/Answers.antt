use Rattle.std.proofs.Common.{◌≡◌, ◌≤◌, ◌<◌, ◌∙◌, ℕ, Option, Some, true, false, sym, ap, subst, arith}
use Rattle.std.specs.Prelude.{IfSome, option_copied}
use Rattle.std.proofs.lemmas.Bool.{false≢true}
use Rattle.r6_frames.specs.declared.command.Outstanding.{Outstanding}
use Rattle.r6_frames.specs.FramesState.{FramesState}
use Rattle.r6_frames.specs.Calls.{IsAbandoned}
use Rattle.r6_frames.specs.Inside.{view_of}
use Rattle.r6_frames.specs.Reads.{IsOfRead}
use Rattle.r6_frames.specs.Slots.{is_abandoned}
use Rattle.r6_frames.specs.Views.{outstanding}
use Rattle.r6_frames.proofs.Takings.{slot_within}
use Rattle.r6_frames.proofs.frames.Frames.expected.Goals as goal

pub bounds-self-inside-asked : goal.bounds-self-inside-asked
bounds-self-inside-asked c = slot_within (view_of c.self.inside) c.args.token c.in_ok-asked.asked.now c.self.invariant.0 (sym c.get.ensures ∙ ap option_copied c.in_ok-asked.was)

pub offset_bounds-self-inside-asked : goal.offset_bounds-self-inside-asked
offset_bounds-self-inside-asked c =
    let within = slot_within (view_of c.self.inside) c.args.token c.in_ok-asked.asked.now c.self.invariant.0 (sym c.get.ensures ∙ ap option_copied c.in_ok-asked.was) in
    omega arith

-- of a command that isn't below its slot's `since`
wanted : (fs : FramesState) (token : ℕ) (command : Outstanding) → outstanding fs token ≡ Some command → is_abandoned fs.slots token command ≡ false → IsAbandoned fs token → ⊥
wanted fs token command found is abandoned =
    false≢true (sym is ∙ subst (λ (o : Option Outstanding). IfSome o (λ one. is_abandoned fs.slots token one ≡ true)) (sym abandoned.1 ∙ found) abandoned.2)

-- of a command in a frame
held : (fs : FramesState) (token : ℕ) (command : Outstanding) → outstanding fs token ≡ Some command → command.frame < 64 → IsOfRead fs token → ⊥
held fs token command found below read =
    let beyond = subst (λ (o : Option Outstanding). IfSome o (λ one. 64 ≤ one.frame)) (sym read.1 ∙ found) read.2 in omega (arith, beyond, below)

pub returns-then-abandons : goal.returns-then-abandons
returns-then-abandons c =
    let one = c.in_ok-asked.asked.now in
    let found = sym c.get.ensures ∙ ap option_copied c.in_ok-asked.was in
    let taken = c.if-token-self.false in
    rw (← c.self.view_is) ((one, found, omega (arith, taken)), (one, found, sym c.abandons.ensures ∙ c.if-abandons.true))

pub returns-then-asked-ge-FRAMES : goal.returns-then-asked-ge-FRAMES
returns-then-asked-ge-FRAMES c =
    let one = c.in_ok-asked.asked.now in
    let found = sym c.get.ensures ∙ ap option_copied c.in_ok-asked.was in
    let taken = c.if-token-self.false in
    rw (← c.self.view_is) (
      (one, found, omega (arith, taken)),
      wanted (view_of c.self.inside) c.args.token one found (sym c.abandons.ensures ∙ c.if-abandons.false),
      (one, found, c.if-asked-ge-FRAMES.true),
    )

pub returns-else-asked-ge-FRAMES : goal.returns-else-asked-ge-FRAMES
returns-else-asked-ge-FRAMES c =
    let one = c.in_ok-asked.asked.now in
    let found = sym c.get.ensures ∙ ap option_copied c.in_ok-asked.was in
    let taken = c.if-token-self.false in
    rw (← c.self.view_is) (
      (one, found, omega (arith, taken)),
      wanted (view_of c.self.inside) c.args.token one found (sym c.abandons.ensures ∙ c.if-abandons.false),
      held (view_of c.self.inside) c.args.token one found c.if-asked-ge-FRAMES.false,
    )
