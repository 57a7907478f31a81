use Rattle.std.proofs.Common.{◌≡◌, Bool, true, false, not, refl, sym, ap, ◌∙◌}
use Rattle.std.proofs.lemmas.Bool.{not-false}
use Rattle.r6_world.specs.Changes.{adopted, differs}
use Rattle.r6_frames.specs.FramesState.{Commands}
use Rattle.r6_frames.specs.Slots.{state_of, states_of}
use Rattle.r6_core.proofs.Adopting.{adopts_taken, kept_slot}
use Rattle.r6_core.proofs.state.State.adopt_slot.Goals as goal

not_true : (b : Bool) → not b ≡ true → b ≡ false
not_true true is = absurd (cc)
not_true false is = refl

pub returns-then-is_kept : goal.returns-then-is_kept
returns-then-is_kept c =
    let now = states_of c.args.self.now.frames.slots c.args.slot in
    let here = ap state_of c.device.ensures in
    let same = sym (ap (λ s. differs s c.args.status) here) ∙ not_true (differs (state_of c.device.result.now) c.args.status) (sym c.is_kept.ensures ∙ c.if-is_kept.true) in
    (false, (refl, same, kept_slot now c.args.status same))

pub returns : goal.returns
returns c =
    let took = c.take_out.ensures in
    let here = ap state_of c.device.ensures in
    let other = sym (ap (λ s. differs s c.args.status) here) ∙ not-false (differs (state_of c.device.result.now) c.args.status) (sym c.is_kept.ensures ∙ c.if-is_kept.false) in (
      true,
      adopts_taken c.args.self.now c.args.slot c.args.status c.adopted.result c.take_out.new.self c.requires.sound c.requires.told c.requires.slot other
          (c.adopted.ensures.state ∙ ap (λ s. adopted s c.args.status) here) took.takes took.sound (ap (λ (t : Commands). t.next) took.commands.0) took.owed took.requests took.rows took.directs,
    )
