use Rattle.std.proofs.Common.{rules, refl, inl, inr}
use Rattle.r6_frames.specs.Views.{AreLive}
use Rattle.r6_core.specs.Shards.{rest_of}
use Rattle.r6_core.proofs.AtRest.{not_held_by}
use Rattle.r6_core.proofs.Rebuilding.{next_on, something_to_rebuild}
use Rattle.r6_frames.proofs.Resting.{free_frame_is, free_is}
use Rattle.r6_core.proofs.state.State.frame_for_rebuild.Goals as goal

pub returns-in-Some-free_frame-clause-right : goal.returns-in-Some-free_frame-clause-right
returns-in-Some-free_frame-clause-right c =
    let s = c.args.self.now in
    let live : AreLive s.frames = c.is_live.ensures.0 c.if-not-is_live.false in
    let frame = c.in-Some-free_frame.frame in (
      search rules,
      (
        search rules,
        (
          something_to_rebuild s c.args.window c.in-Some.target.slot c.in-Some.target.generation c.in-Some.row live c.in-Some.ensures,
          ((λ none. none frame (free_is (rest_of s) s.frames frame c.requires.core.settled.sound.frames live c.in-Some-free_frame.ensures)), tt),
        ),
      ),
    )

pub returns-in-Some-free_frame-clause-on : goal.returns-in-Some-free_frame-clause-on
returns-in-Some-free_frame-clause-on c =
    next_on c.args.self.now c.args.window c.in-Some.target.slot c.in-Some.target.generation c.in-Some.row c.requires.core.settled.sound.frames c.requires.window c.in-Some.ensures.may

pub returns-in-Some-free_frame-clause-frame : goal.returns-in-Some-free_frame-clause-frame
returns-in-Some-free_frame-clause-frame c =
    (c.is_live.ensures.0 c.if-not-is_live.false, c.in-Some-free_frame.ensures, not_held_by c.args.self.now c.in-Some.row c.in-Some.ensures.may.unheld)

pub returns-in-None-clause-refused : goal.returns-in-None-clause-refused
returns-in-None-clause-refused c =
    let s = c.args.self.now in
    let live : AreLive s.frames = c.is_live.ensures.0 c.if-not-is_live.false in
    inr (
      search rules,
      inr (
        search rules,
        inr (
          something_to_rebuild s c.args.window c.in-Some.target.slot c.in-Some.target.generation c.in-Some.row live c.in-Some.ensures,
          inl (refl, λ frame free. c.in-None.ensures frame (free_frame_is (rest_of s) s.frames frame c.requires.core.settled.sound.frames live free)),
        ),
      ),
    )
