-- A buffer that is away left with a command; and a hold has followed its plan.
use Rattle.std.proofs.Common.{◌≡◌, ◌≢◌, ℕ, ◌<◌, List, [], ◌∷◌, Bool, true, false, cond, if◌then◌else◌, refl, sym, ap, ◌∙◌, subst, arith, Some, None}
use Rattle.std.proofs.lemmas.Bool.{or_right}
use Rattle.std.proofs.lemmas.List.{get_or_append_left}
use Rattle.r6_layout.specs.Layout.{position_at}
use Rattle.r6_stripe.specs.Holds.{Kind, Cell, cell_at, MayBegin}
use Rattle.r6_stripe.specs.Holds.Standing.{Out}
use Rattle.r6_stripe.specs.Holds.Writing.{Sent}
use Rattle.r6_stripe.specs.Holds.Kind.{Write}
use Rattle.r6_stripe.specs.Plans.{Planned, is_out, is_sent, is_fixing, next, planned_first, planned_at, IsPlanned}
use Rattle.r6_world.specs.Geometries.{layout_of}
use Rattle.r6_world.specs.ShardStates.{frames, found, generation_in}
use Rattle.r6_world.proofs.Geometries.{layouts}
use Rattle.r6_frames.specs.declared.command.Outstanding.{Outstanding}
use Rattle.r6_frames.specs.declared.frames.HeldRow.{HeldRow}
use Rattle.r6_frames.specs.declared.frames.FrameUse.{FrameUse}
use Rattle.r6_frames.specs.FramesState.{FramesState}
use Rattle.r6_frames.specs.Slots.{states_of, is_abandoned}
use Rattle.r6_frames.specs.Successors.{is_own}
use Rattle.r6_frames.specs.Views.{hold_at, AreLive}
use Rattle.r6_frames.specs.Sound.{IsSound, IsHeld, IsUnderWay, IsOfHold, is_away_from, is_buffer_away, has_own}
use Rattle.r6_frames.specs.Sound.{place_of, successor_in, is_read_put_out, is_write_put_out, is_put_out, is_write_out}
use Rattle.r6_frames.specs.Sound.{standing_for, device_in}
use Rattle.r6_frames.proofs.Held.{held_within, use_held}
use Rattle.r6_frames.proofs.HeldRows.{home_is}
use Rattle.r6_frames.proofs.FoundRows.{found-rests}
use Rattle.r6_crash.specs.Replays.{HasNew, ArePutOut}
use Rattle.r6_crash.specs.Cores.{IsOutTo, CoreLaw}
use Rattle.r6_crash.proofs.WholeBatch.{kind-at, whole_batch_law}

-- the frame is one of those that there are
pub frame-low : (fs : FramesState) → IsSound fs → (frame : ℕ) (h : HeldRow) → hold_at fs.uses frame ≡ Some h
    → frame < frames
frame-low fs sound frame h e = omega (arith, held_within fs.uses frame h e, sound.frames.count)

module _ (fs : FramesState) (sound : IsSound fs) (live : AreLive fs) where
  sent-out : (frame slot : ℕ) (h : HeldRow) → hold_at fs.uses frame ≡ Some h → slot < fs.geometry.slots
      → (cell_at h.hold.planned.hold.cells (position_at fs.geometry h.row slot)).standing ≢ Out
      → (cell_at h.hold.planned.hold.cells (position_at fs.geometry h.row slot)).writing ≡ Sent
      → IsOutTo fs frame h.row slot
  sent-out frame slot h here inside there sent =
      let is = layouts fs.geometry sound.shape in
      let held : IsHeld fs.geometry fs.shard fs.slots h = sound.frames.rows frame h here in
      let p : ℕ = position_at fs.geometry h.row slot in
      let cell : Cell = cell_at h.hold.planned.hold.cells p in
      let at = is.there h.row slot held.own.0 inside in
      let writes-out : is_write_put_out cell ≡ true =
      or_right (is_fixing cell.reading) (is_sent cell.writing) (ap is_sent sent) in
      let put-out : is_put_out cell ≡ true = or_right (is_read_put_out cell) (is_write_put_out cell) writes-out in
      let away : is_buffer_away h.hold p ≡ true =
      get_or_append_left h.hold.away (h.hold.second_away ∷ []) false p (subst (λ n. p < n) (sym held.wide_away) at.0)
      ∙ held.away p at.0 there ∙ put-out in
      let low = frame-low fs sound frame h here in
      let x =
      sound.commands.there live frame p (let below = at.0 in omega arith)
      (ap (λ (u : FrameUse). is_away_from u p) (use_held fs.uses frame h here) ∙ away) in
      let token : ℕ = x.0 in
      let c : Outstanding = x.1 in
      let mine : hold_at fs.uses c.frame ≡ Some h = ap (hold_at fs.uses) x.3 ∙ here in
      let of : IsOfHold fs token c h =
      (sound.commands.of_frame live token c x.2 (subst (λ f. f < frames) (sym x.3) low)).held h mine in
      let own : has_own fs c ≡ true = is-own (has_own fs c) (place_of fs c) p x.4 at.0 in
      let own-here : is_own h.successor c.slot c.generation ≡ true =
      ap (λ (u : FrameUse). is_own (successor_in u) c.slot c.generation)
      (sym (use_held fs.uses c.frame h mine)) ∙ own in
      let place : place_of fs c ≡ p = ap (λ b. cond b (place_of fs c) fs.geometry.slots) (sym own) ∙ x.4 in
      let c-inside : c.slot < fs.geometry.slots = (sound.commands.lawful token c x.2).0 in
      let slot-is : c.slot ≡ slot =
      sym (is.there h.row c.slot held.own.0 c-inside).1
      ∙ ap ((layout_of fs.geometry).slot_at h.row) (ap (λ r. position_at fs.geometry r c.slot) (sym of.row) ∙ place)
      ∙ at.1 in
      let going : is_abandoned fs.slots token c ≡ false =
      of.abandoned ∙ ap (λ b. is_out (standing_for b (cell_at h.hold.planned.hold.cells (place_of fs c)))) own-here
      ∙ ap (λ k. is_out (cell_at h.hold.planned.hold.cells k).standing) place ∙ home_is cell.standing there in
      record {
        token = token;
        command = c;
        here = x.2;
        going = going;
        frame_is = x.3;
        row_is = of.row;
        slot_is = slot-is;
        generation_is =
            of.device going ∙ ap (λ b. device_in b (states_of fs.slots c.slot)) own-here
            ∙ ap (λ s. generation_in (states_of fs.slots s)) slot-is;
        writes =
            of.writes going ∙ ap (λ b. is_write_out b (cell_at h.hold.planned.hold.cells (place_of fs c))) own-here
            ∙ ap (λ k. is_write_put_out (cell_at h.hold.planned.hold.cells k)) place
            ∙ writes-out;
      }
    where
      is-own : (b : Bool) (place p : ℕ) → (if b then place else fs.geometry.slots) ≡ p → p < fs.geometry.slots
          → b ≡ true
      is-own true place p e below = refl
      is-own false place p e below = absurd (omega arith)

  -- a write's hold has followed its plan
  whole-of : (planned : Planned) → IsUnderWay fs.geometry planned → next planned ≡ None → HasNew planned.hold
      → (batch : List (ℕ × List ℕ)) → planned.hold.kind ≡ Write batch → ArePutOut planned.hold
  whole-of planned u none new batch is =
      let idle = found (layout_of fs.geometry) (states_of u.slots) u.row in
      let same : u.kind ≡ Write batch =
      sym (kind-at (planned_first idle u.kind) u.events) ∙ ap (λ (y : Planned). y.hold.kind) u.here ∙ is in
      let Goes : Kind → Type 0 =
      (λ kind. MayBegin idle kind → IsPlanned (planned_first idle kind) u.events
      → planned_at (planned_first idle kind) u.events ≡ planned → ArePutOut planned.hold) in
      subst Goes (sym same)
      (λ may all to.
      let back = sym to in
      subst (λ (y : Planned). ArePutOut y.hold) to
      (whole_batch_law idle batch u.events (found-rests fs.geometry sound.shape u.slots u.row) may all
      (subst (λ y. next y ≡ None) back none) (subst (λ (y : Planned). HasNew y.hold) back new)))
      u.may_begin u.may u.here

pub core_law : CoreLaw
core_law fs sound live = record {
  sent = λ frame slot h here inside there sent. sent-out fs sound live frame slot h here inside there sent;
  whole = λ frame h here driven new.
      let go : (batch : List (ℕ × List ℕ)) → h.hold.planned.hold.kind ≡ Write batch → ArePutOut h.hold.planned.hold =
      whole-of fs sound live h.hold.planned (sound.frames.rows frame h here).under_way (driven h here) new in
      record {
        firsts = λ batch is. (go batch is).firsts batch is;
        seconds = λ batch is. (go batch is).seconds batch is;
      };
}
