use Rattle.std.proofs.Common.{◌≡◌, ℕ, ◌<◌, Bool, true, false, None, ◌++◌, [], refl, sym, ap, subst, ◌∙◌, arith, append-nil, inl, inr}
use Rattle.circular_buffer.specs.Buffer.{buffer}
use Rattle.r6_world.specs.Steps.{Through, GoesOn}
use Rattle.r6_frames.specs.declared.frames.Frames.{Frames}
use Rattle.r6_frames.specs.declared.finish.Ended.{Ended}
use Rattle.r6_frames.specs.Calls.{requests_of as requests_ended, Ends, MayMark}
use Rattle.r6_frames.specs.Views.{hold_at, use_at, AreLive}
use Rattle.r6_core.specs.declared.state.State.{State}
use Rattle.r6_core.specs.Shards.{layout_in, state_of}
use Rattle.r6_world.specs.ShardStates as shards
use Rattle.r6_frames.specs.Calls.{KeepsDirects}
use Rattle.r6_frames.specs.Reads.{PassesNone, PassesOne}
use Rattle.r6_core.specs.declared.scan.Freed.{Freed}
use Rattle.r6_core.specs.Inside.{HasEnded, IsRestedFrame, IsSound, freed_with}
use Rattle.r6_frames.specs.Directs.{read_requests}
use Rattle.r6_frames.specs.Slots.{states_of}
use Rattle.r6_core.proofs.Delivering.{ends_still, freed, none_rested, ended_requests, one_ends, one_row_ended, ended_sound, place_to_end, rebuild_ended, room_to_end}
use Rattle.r6_core.proofs.MarkedRows.{marked_ends, marked_frames, marked_leads, marked_others, marked_reads, marked_rests, marked_sound, report_fits}
use Rattle.r6_core.proofs.Throughs.{through_none}
use Rattle.r6_core.proofs.state.State.finish.Goals as goal
use Rattle.r6_frames.proofs.Held.{held_within}
use Rattle.r6_frames.proofs.SoundAfter.{over_not}

-- ---- a command of the hold is out yet

pub has_out-requires : goal.has_out-requires
has_out-requires c =
    let s = c.args.self.now in
    let held = c.requires.held in
    let below = held_within s.frames.uses c.args.frame held.0 held.1 in
    let count = c.requires.sound.frames.frames.count in
    omega arith

pub returns-then-has_out : goal.returns-then-has_out
returns-then-has_out c =
    let s = c.args.self.now in
    let goes_on = over_not s.frames c.args.frame (c.has_out.ensures.0 c.if-has_out.true) in
    record {
      sound = c.requires.sound;
      live = c.requires.live;
      leads = through_none (layout_in s) s.frames.shard GoesOn (state_of s) (state_of s) refl;
      rests = (c.requires.driven, goes_on);
      others = λ other ne. refl;
      keeps = ((refl, refl), refl, refl);
      more = ([], (0, tt), sym (append-nil s.replies.items));
      reads = refl;
      released = refl;
      ends = λ h is over. absurd (goes_on over);
      freed = refl;
    }

-- ---- a row is rebuilt

pub mark_rebuilt-requires-clause-room : goal.mark_rebuilt-requires-clause-room
mark_rebuilt-requires-clause-room c =
    let done = c.in-Some-Rebuilt.ensures in
    report_fits c.args.self.now c.args.frame c.in-Some-Rebuilt.target c.in-Some-Rebuilt.row c.finish.new.self c.requires.held.0 c.requires.sound c.requires.live (subst (λ (e : Ended). Ends c.args.self.now.frames c.args.frame e c.finish.new.self) c.in-Some-Rebuilt.field-0-is done.ends) c.requires.held.1
    done.sound done.others done.owed.0 done.owed.1 (subst (MayMark c.finish.new.self) c.in-Some-Rebuilt.field-0-is done.marks)

pub returns-in-Some-Rebuilt-clause-sound : goal.returns-in-Some-Rebuilt-clause-sound
returns-in-Some-Rebuilt-clause-sound c =
    let done = c.in-Some-Rebuilt.ensures in
    let mark = c.mark_rebuilt.ensures in
    marked_sound c.args.self.now c.args.frame c.in-Some-Rebuilt.target c.in-Some-Rebuilt.row c.finish.new.self c.requires.held.0 c.requires.sound c.requires.live (subst (λ (e : Ended). Ends c.args.self.now.frames c.args.frame e c.finish.new.self) c.in-Some-Rebuilt.field-0-is done.ends) c.requires.held.1
    done.sound done.others done.owed.0 done.owed.1 (subst (MayMark c.finish.new.self) c.in-Some-Rebuilt.field-0-is done.marks) c.mark_rebuilt.new.self mark.sound mark.holds mark.commands mark.same mark.marked

pub returns-in-Some-Rebuilt-clause-leads : goal.returns-in-Some-Rebuilt-clause-leads
returns-in-Some-Rebuilt-clause-leads c =
    let done = c.in-Some-Rebuilt.ensures in
    let mark = c.mark_rebuilt.ensures in
    marked_leads c.args.self.now c.args.frame c.in-Some-Rebuilt.target c.in-Some-Rebuilt.row c.finish.new.self c.requires.held.0 c.requires.sound c.requires.live (subst (λ (e : Ended). Ends c.args.self.now.frames c.args.frame e c.finish.new.self) c.in-Some-Rebuilt.field-0-is done.ends) c.requires.held.1
    done.sound done.others done.owed.0 done.owed.1 (subst (MayMark c.finish.new.self) c.in-Some-Rebuilt.field-0-is done.marks) c.mark_rebuilt.new.self mark.sound mark.holds mark.commands mark.same mark.marked

pub returns-in-Some-Rebuilt-clause-rests : goal.returns-in-Some-Rebuilt-clause-rests
returns-in-Some-Rebuilt-clause-rests c =
    let done = c.in-Some-Rebuilt.ensures in
    let mark = c.mark_rebuilt.ensures in
    marked_rests c.args.self.now c.args.frame c.in-Some-Rebuilt.target c.in-Some-Rebuilt.row c.finish.new.self c.requires.held.0 c.requires.sound c.requires.live (subst (λ (e : Ended). Ends c.args.self.now.frames c.args.frame e c.finish.new.self) c.in-Some-Rebuilt.field-0-is done.ends) c.requires.held.1
    done.sound done.others done.owed.0 done.owed.1 (subst (MayMark c.finish.new.self) c.in-Some-Rebuilt.field-0-is done.marks) c.mark_rebuilt.new.self mark.sound mark.holds mark.commands mark.same

pub returns-in-Some-Rebuilt-clause-others : goal.returns-in-Some-Rebuilt-clause-others
returns-in-Some-Rebuilt-clause-others c =
    let done = c.in-Some-Rebuilt.ensures in
    let mark = c.mark_rebuilt.ensures in
    marked_others c.args.self.now c.args.frame c.in-Some-Rebuilt.target c.in-Some-Rebuilt.row c.finish.new.self c.requires.held.0 c.requires.sound c.requires.live (subst (λ (e : Ended). Ends c.args.self.now.frames c.args.frame e c.finish.new.self) c.in-Some-Rebuilt.field-0-is done.ends) c.requires.held.1
    done.sound done.others done.owed.0 done.owed.1 (subst (MayMark c.finish.new.self) c.in-Some-Rebuilt.field-0-is done.marks) c.mark_rebuilt.new.self mark.sound mark.holds mark.commands mark.same

pub returns-in-Some-Rebuilt-clause-keeps : goal.returns-in-Some-Rebuilt-clause-keeps
returns-in-Some-Rebuilt-clause-keeps c =
    let done = c.in-Some-Rebuilt.ensures in
    let mark = c.mark_rebuilt.ensures in (
      marked_frames c.args.self.now c.args.frame c.in-Some-Rebuilt.target c.in-Some-Rebuilt.row c.finish.new.self c.requires.held.0 c.requires.sound c.requires.live (subst (λ (e : Ended). Ends c.args.self.now.frames c.args.frame e c.finish.new.self) c.in-Some-Rebuilt.field-0-is done.ends) c.requires.held.1
          done.sound done.others done.owed.0 done.owed.1 (subst (MayMark c.finish.new.self) c.in-Some-Rebuilt.field-0-is done.marks) c.mark_rebuilt.new.self mark.sound mark.holds mark.commands mark.same mark.marked,
      ap (λ (x : State). x.waiting) mark.same,
      ap (λ (x : State). x.unanswered) mark.same,
    )

pub returns-in-Some-Rebuilt-clause-reads : goal.returns-in-Some-Rebuilt-clause-reads
returns-in-Some-Rebuilt-clause-reads c =
    let done = c.in-Some-Rebuilt.ensures in
    let mark = c.mark_rebuilt.ensures in
    marked_reads c.args.self.now c.args.frame c.in-Some-Rebuilt.target c.in-Some-Rebuilt.row c.finish.new.self c.requires.held.0 c.requires.sound c.requires.live (subst (λ (e : Ended). Ends c.args.self.now.frames c.args.frame e c.finish.new.self) c.in-Some-Rebuilt.field-0-is done.ends) c.requires.held.1
    done.sound done.others done.owed.0 done.owed.1 (subst (MayMark c.finish.new.self) c.in-Some-Rebuilt.field-0-is done.marks) c.mark_rebuilt.new.self mark.sound mark.holds mark.commands mark.same mark.marked

pub returns-in-Some-Rebuilt-clause-more : goal.returns-in-Some-Rebuilt-clause-more
returns-in-Some-Rebuilt-clause-more c =
    let s = c.args.self.now in
    ([], (0, tt), ap (λ (x : State). x.replies.items) c.mark_rebuilt.ensures.same ∙ sym (append-nil s.replies.items))

pub returns-in-Some-Rebuilt-clause-ends : goal.returns-in-Some-Rebuilt-clause-ends
returns-in-Some-Rebuilt-clause-ends c =
    let done = c.in-Some-Rebuilt.ensures in
    let mark = c.mark_rebuilt.ensures in
    marked_ends c.args.self.now c.args.frame c.in-Some-Rebuilt.target c.in-Some-Rebuilt.row c.finish.new.self c.requires.held.0 c.requires.sound c.requires.live (subst (λ (e : Ended). Ends c.args.self.now.frames c.args.frame e c.finish.new.self) c.in-Some-Rebuilt.field-0-is done.ends) c.requires.held.1
    done.sound done.others done.owed.0 done.owed.1 (subst (MayMark c.finish.new.self) c.in-Some-Rebuilt.field-0-is done.marks) c.mark_rebuilt.new.self mark.sound mark.holds mark.commands mark.same

-- ---- another hold ends

let_go : (frame : ℕ) (s new : State) (result : Freed) (passed_on : Bool) → result ≡ freed_with frame passed_on → (passed_on ≡ true → PassesOne s.frames frame) → (passed_on ≡ false → PassesNone s.frames frame) → frame < shards.frames
    → hold_at new.frames.uses frame ≡ None → KeepsDirects s.frames new.frames → states_of new.frames.slots ≡ states_of s.frames.slots → new.frames.commands.next ≡ s.frames.commands.next
    → HasEnded result frame s new
let_go frame s new result true is one none below empty directs slots next = subst (λ f. HasEnded f frame s new) (sym is) (inr (one refl))
let_go frame s new result false is one none below empty directs slots next = subst (λ f. HasEnded f frame s new) (sym is) (refl, below, empty, directs, slots, next, none refl)

pub has_passed_on-passed_on-requires : goal.has_passed_on-passed_on-requires
has_passed_on-passed_on-requires c =
    let s = c.args.self.now in
    let held = c.requires.held in
    let below = held_within s.frames.uses c.args.frame held.0 held.1 in
    let count = c.requires.sound.frames.frames.count in
    omega arith

pub close-requires-clause-room : goal.close-requires-clause-room
close-requires-clause-room c =
    room_to_end c.args.self.now c.args.frame c.in-Some.ended c.finish.new.self c.requires.sound c.requires.live c.in-Some.ensures.ends

pub close-requires-clause-place : goal.close-requires-clause-place
close-requires-clause-place c =
    let left = c.in-Some.ensures in
    let held = c.requires.held in
    place_to_end c.args.self.now c.args.frame c.in-Some.ended c.finish.new.self held.0 c.requires.sound left.ends held.1 left.sound left.others

pub close-requires-clause-counts : goal.close-requires-clause-counts
close-requires-clause-counts c = let sound = c.requires.sound in omega (arith, sound.counted.found, sound.counted.skipped, sound.tokens)

pub returns-in-Some : goal.returns-in-Some
returns-in-Some c =
    let s = c.args.self.now in
    let e = c.in-Some.ended in
    let fs = c.finish.new.self in
    let left = c.in-Some.ensures in
    let ends = left.ends in
    let same = c.close.ensures.same in
    let held = c.requires.held in
    let more = requests_ended e in
    let replies = buffer (s.replies.items ++ more) s.replies.capacity in
    record {
      sound = subst IsSound (sym same)
          (ended_sound s c.args.frame e fs replies c.close.new.self.counts c.close.new.self.rooms held.0 c.requires.sound c.requires.live ends held.1 refl c.close.ensures.counted left.sound left.others left.owed.0 left.owed.1 refl c.close.ensures.rooms);
      live = subst (λ (x : State). AreLive x.frames) (sym same) left.live;
      leads = subst (λ (x : State). Through (layout_in s) s.frames.shard GoesOn (state_of s) (state_of x)) (sym same)
          (one_ends s c.args.frame e fs replies c.close.new.self.counts c.close.new.self.rooms held.0 c.requires.sound c.requires.live ends held.1 refl c.close.ensures.counted c.close.ensures.plain);
      rests = subst (λ (x : State). IsRestedFrame x c.args.frame) (sym same) (none_rested fs c.args.frame (freed s.frames fs c.args.frame e ends));
      others = λ other ne. ap (λ (x : State). use_at x.frames.uses other) same ∙ left.others other ne;
      keeps = (
        (ap (λ (x : State). x.frames.geometry) same ∙ ends.shard.0, ap (λ (x : State). x.frames.shard) same ∙ ends.shard.1),
        ap (λ (x : State). x.waiting) same,
        ap (λ (x : State). x.unanswered) same,
      );
      more = (more, one_row_ended s c.args.frame e fs held.0 c.requires.sound ends held.1, ap (λ (x : State). x.replies.items) same);
      released = ap (λ (x : State). x.released) same;
      ends = λ h is over. (
        more,
        ended_requests s.frames fs c.args.frame e h ends is,
        ap (λ (x : State). x.replies.items) same,
        ap (λ (x : State). hold_at x.frames.uses c.args.frame) same ∙ freed s.frames fs c.args.frame e ends,
      );
      reads = ap (λ (x : State). read_requests x.frames) same ∙ ends.shard.3;
      freed = let_go c.args.frame s c.close.new.self c.freed_with.result c.has_passed_on-passed_on.result c.freed_with.ensures c.has_passed_on-passed_on.ensures.one c.has_passed_on-passed_on.ensures.none
          (let below = held_within s.frames.uses c.args.frame held.0 held.1 in let count = c.requires.sound.frames.frames.count in omega arith)
          (ap (λ (x : State). hold_at x.frames.uses c.args.frame) same ∙ freed s.frames fs c.args.frame e ends)
          (ap (λ (x : State). x.frames.directs) same ∙ left.directs)
          (ap (λ (x : State). states_of x.frames.slots) same ∙ (ends_still s.frames fs c.args.frame e ends).0)
          (ap (λ (x : State). x.frames.commands.next) same ∙ left.owed.1);
    }

pub returns-in-None-clause-leads : goal.returns-in-None-clause-leads
returns-in-None-clause-leads c =
    through_none (layout_in c.args.self.now) c.args.self.now.frames.shard GoesOn (state_of c.args.self.now) (state_of (record c.args.self.now { frames = c.finish.new.self }))
    (ap (λ (fs : Frames). state_of (record c.args.self.now { frames = fs })) c.in-None.ensures.ends.1)

pub returns-in-None-clause-more : goal.returns-in-None-clause-more
returns-in-None-clause-more c = ([], (0, tt), sym (append-nil c.args.self.now.replies.items))

pub finish-requires-clause-live : goal.finish-requires-clause-live
finish-requires-clause-live c = c.requires.live

pub finish-requires-clause-held : goal.finish-requires-clause-held
finish-requires-clause-held c = c.requires.held

pub finish-requires-clause-driven : goal.finish-requires-clause-driven
finish-requires-clause-driven c = c.requires.driven

pub mark_rebuilt-requires-clause-live : goal.mark_rebuilt-requires-clause-live
mark_rebuilt-requires-clause-live c = c.in-Some-Rebuilt.ensures.live

pub mark_rebuilt-requires-clause-may : goal.mark_rebuilt-requires-clause-may
mark_rebuilt-requires-clause-may c = subst (MayMark c.finish.new.self) c.in-Some-Rebuilt.field-0-is c.in-Some-Rebuilt.ensures.marks

pub mark_rebuilt-requires-clause-counts : goal.mark_rebuilt-requires-clause-counts
mark_rebuilt-requires-clause-counts c = let sound = c.requires.sound in omega (arith, sound.counted.found, sound.counted.skipped, sound.tokens)

pub returns-in-Some-Rebuilt-clause-live : goal.returns-in-Some-Rebuilt-clause-live
returns-in-Some-Rebuilt-clause-live c = c.mark_rebuilt.ensures.live

pub returns-in-Some-Rebuilt-clause-released : goal.returns-in-Some-Rebuilt-clause-released
returns-in-Some-Rebuilt-clause-released c = ap (λ (x : State). x.released) c.mark_rebuilt.ensures.same

pub returns-in-Some-Rebuilt-clause-freed : goal.returns-in-Some-Rebuilt-clause-freed
returns-in-Some-Rebuilt-clause-freed c =
    let s = c.args.self.now in
    let held = c.requires.held in
    let ends = subst (λ (e : Ended). Ends s.frames c.args.frame e c.finish.new.self) c.in-Some-Rebuilt.field-0-is c.in-Some-Rebuilt.ensures.ends in
    inl (held.0, held.1, rebuild_ended s.frames c.finish.new.self c.args.frame c.in-Some-Rebuilt.target c.in-Some-Rebuilt.row held.0 ends held.1)

pub returns-in-None-clause-sound : goal.returns-in-None-clause-sound
returns-in-None-clause-sound c = subst (λ (fs : Frames). IsSound (record c.args.self.now { frames = fs })) (sym c.in-None.ensures.ends.1) c.requires.sound

pub returns-in-None-clause-live : goal.returns-in-None-clause-live
returns-in-None-clause-live c = c.in-None.ensures.live

pub returns-in-None-clause-rests : goal.returns-in-None-clause-rests
returns-in-None-clause-rests c =
    let ends = c.in-None.ensures.ends in
    subst (λ (fs : Frames). IsRestedFrame (record c.args.self.now { frames = fs }) c.args.frame) (sym ends.1) (c.requires.driven, ends.0)

pub returns-in-None-clause-others : goal.returns-in-None-clause-others
returns-in-None-clause-others c = c.in-None.ensures.others

pub returns-in-None-clause-keeps : goal.returns-in-None-clause-keeps
returns-in-None-clause-keeps c = let same = c.in-None.ensures.ends.1 in ((ap (λ (fs : Frames). fs.geometry) same, ap (λ (fs : Frames). fs.shard) same), refl, refl)

pub returns-in-None-clause-reads : goal.returns-in-None-clause-reads
returns-in-None-clause-reads c = ap (λ (fs : Frames). read_requests fs) c.in-None.ensures.ends.1

pub returns-in-None-clause-released : goal.returns-in-None-clause-released
returns-in-None-clause-released c = refl

pub returns-in-None-clause-ends : goal.returns-in-None-clause-ends
returns-in-None-clause-ends c = λ h is over. absurd (c.in-None.ensures.ends.0 over)

pub returns-in-None-clause-freed : goal.returns-in-None-clause-freed
returns-in-None-clause-freed c = ap (λ (fs : Frames). record c.args.self.now { frames = fs }) c.in-None.ensures.ends.1
