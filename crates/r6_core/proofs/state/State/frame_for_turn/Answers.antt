use Rattle.std.proofs.Common.{◌≡◌, false, true, rules, refl, sym, subst, inl, inr}
use Rattle.r6_frames.specs.Calls.{AreAllInSync, NotHeldBy}
use Rattle.r6_frames.specs.Views.{AreLive}
use Rattle.r6_core.specs.Shards.{rest_of}
use Rattle.r6_core.specs.Inside.{HasSlotOut, next_row}
use Rattle.r6_core.proofs.Turning.{held_for_turn, nothing_in_the_way, not_whole, something_to_do, whole_for_turn}
use Rattle.r6_frames.proofs.Resting.{free_frame_is, free_is}
use Rattle.r6_core.proofs.state.State.frame_for_turn.Goals as goal

pub returns-then-not-is_whole-clause-right : goal.returns-then-not-is_whole-clause-right
returns-then-not-is_whole-clause-right c =
    let s = c.args.self.now in
    let out = subst (HasSlotOut s.frames) c.next_row-row.ensures (c.is_whole.ensures.out c.if-not-is_whole.true) in
    let live : AreLive s.frames = c.is_live.ensures.0 c.if-not-is_live.false in
    (search rules, (search rules, (nothing_in_the_way s c.args.scrub (live, out), ((λ none. not_whole s c.args.scrub out none.0), tt))))

pub returns-then-not-is_whole-clause-frame : goal.returns-then-not-is_whole-clause-frame
returns-then-not-is_whole-clause-frame c =
    (c.is_live.ensures.0 c.if-not-is_live.false, subst (HasSlotOut c.args.self.now.frames) c.next_row-row.ensures (c.is_whole.ensures.out c.if-not-is_whole.true))

pub returns-then-is_held-clause-refused : goal.returns-then-is_held-clause-refused
returns-then-is_held-clause-refused c =
    let s = c.args.self.now in
    let whole = subst (AreAllInSync s.frames) c.next_row-row.ensures (c.is_whole.ensures.whole c.if-not-is_whole.false) in
    let held : NotHeldBy s.frames (next_row c.args.scrub s) → ⊥ =
    λ unheld. c.if-is_held.ensures.0 refl (subst (NotHeldBy s.frames) (sym c.next_row-row.ensures) unheld) in
    inr (search rules, inr (search rules, inl (refl, inr (held_for_turn s c.args.scrub whole held))))

pub returns-in-Some-clause-right : goal.returns-in-Some-clause-right
returns-in-Some-clause-right c =
    let s = c.args.self.now in
    let live : AreLive s.frames = c.is_live.ensures.0 c.if-not-is_live.false in
    let unheld : NotHeldBy s.frames (next_row c.args.scrub s) =
    subst (NotHeldBy s.frames) c.next_row-row.ensures (λ frame h is at. let held : false ≡ true = c.if-is_held.ensures.1 (λ free. free frame h is at) in absurd (cc)) in (
      search rules,
      (
        search rules,
        (
          something_to_do s c.args.scrub live unheld,
          ((λ none. none.1 c.in-Some.frame (free_is (rest_of s) s.frames c.in-Some.frame c.requires.settled.sound.frames live c.in-Some.ensures)), tt),
        ),
      ),
    )

pub returns-in-None-clause-refused : goal.returns-in-None-clause-refused
returns-in-None-clause-refused c =
    let s = c.args.self.now in
    let live : AreLive s.frames = c.is_live.ensures.0 c.if-not-is_live.false in
    let whole = subst (AreAllInSync s.frames) c.next_row-row.ensures (c.is_whole.ensures.whole c.if-not-is_whole.false) in
    let unheld : NotHeldBy s.frames (next_row c.args.scrub s) =
    subst (NotHeldBy s.frames) c.next_row-row.ensures (λ frame h is at. let held : false ≡ true = c.if-is_held.ensures.1 (λ free. free frame h is at) in absurd (cc)) in
    inr (
      search rules,
      inr (
        search rules,
        inr (
          something_to_do s c.args.scrub live unheld,
          inl (refl, (whole_for_turn s c.args.scrub whole, λ frame free. c.in-None.ensures frame (free_frame_is (rest_of s) s.frames frame c.requires.settled.sound.frames live free))),
        ),
      ),
    )

pub returns-then-saw_failed-clause-right : goal.returns-then-saw_failed-clause-right
returns-then-saw_failed-clause-right c = tt

pub returns-then-saw_failed-clause-frame : goal.returns-then-saw_failed-clause-frame
returns-then-saw_failed-clause-frame c = tt

pub returns-then-tokens-ge-LIMIT-clause-right : goal.returns-then-tokens-ge-LIMIT-clause-right
returns-then-tokens-ge-LIMIT-clause-right c = tt

pub returns-then-tokens-ge-LIMIT-clause-frame : goal.returns-then-tokens-ge-LIMIT-clause-frame
returns-then-tokens-ge-LIMIT-clause-frame c = tt

pub returns-then-not-is_live-clause-right : goal.returns-then-not-is_live-clause-right
returns-then-not-is_live-clause-right c = tt

pub returns-then-not-is_live-clause-frame : goal.returns-then-not-is_live-clause-frame
returns-then-not-is_live-clause-frame c = tt

pub returns-then-not-is_whole-clause-refused : goal.returns-then-not-is_whole-clause-refused
returns-then-not-is_whole-clause-refused c = tt

pub returns-then-is_held-clause-right : goal.returns-then-is_held-clause-right
returns-then-is_held-clause-right c = tt

pub returns-then-is_held-clause-frame : goal.returns-then-is_held-clause-frame
returns-then-is_held-clause-frame c = tt

pub returns-in-Some-clause-refused : goal.returns-in-Some-clause-refused
returns-in-Some-clause-refused c = tt

pub returns-in-None-clause-right : goal.returns-in-None-clause-right
returns-in-None-clause-right c = tt

pub returns-in-None-clause-frame : goal.returns-in-None-clause-frame
returns-in-None-clause-frame c = tt
