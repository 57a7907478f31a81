-- A hold has nothing to put out: it prepares, and the frames stay sound.
use Rattle.std.proofs.Common.{◌≡◌, inl, inr, ℕ, ◌≤◌, true, false, List, [], set, refl, sym, ap, subst, ◌∙◌, Option, Some, None, arith}
use Rattle.std.specs.Prelude.{◌||◌, not, option_map}
use Rattle.std.proofs.lemmas.Bool.{and_parts}
use Rattle.r6_stripe.specs.Holds.{Event, cell_at}
use Rattle.r6_stripe.specs.Plans.{Next, is_met, next, is_over, has_read_out, has_write_out, planned_at, IsPlanned, AreSilent}
use Rattle.r6_stripe.specs.Plans.Next.{ReadAt, FixAt, ReadAgainAt, MoveAt, LoseUnreadable, RestoreAt, ComputeNew, WriteAt, CopyAt}
use Rattle.r6_stripe.specs.Steps.{Held, IsNone, PutsOut as PutsOutNext, is_idle, has_outcome}
use Rattle.r6_world.specs.Geometries.{layout_of}
use Rattle.r6_world.specs.Steps.{Through}
use Rattle.r6_frames.specs.declared.frames.HeldRow.{HeldRow}
use Rattle.r6_frames.specs.declared.frames.FrameUse.TheVariants.{Held as HeldIn}
use Rattle.r6_frames.specs.FramesState.{FramesState}
use Rattle.r6_frames.specs.Views.{hold_at, hold_of, held_requests, shard_with, AreLive}
use Rattle.r6_frames.specs.Calls.{PutsOut, PutsFirst, Drives, DrivesFirst}
use Rattle.r6_frames.specs.Owed.{owed, HasOut, IsOver, LacksBlocks, OwesCommands, IsDriven}
use Rattle.r6_frames.specs.Sound.{IsHeld, IsSound}
use Rattle.r6_frames.proofs.SoundAfter.{sound_changed, owed_changed, requests_changed, request_same}
use Rattle.r6_frames.proofs.Held.{held_within, hold_at_own, frame_put}
use Rattle.r6_frames.proofs.HeldRows.{Prepared, prepared, are_prepared, prepared_out}
use Rattle.r6_frames.proofs.CommandComes.{with_row, commands_prepared}
use Rattle.r6_frames.proofs.PuttingOut.{prepare_leads}
use Rattle.r6_frames.proofs.Readable.{Lacks, lacks_at, lacks_in, lacks_unprepared}
use Rattle.r6_frames.proofs.Unmet.{unmet_prepared}

-- the hold prepares by these events, and nothing comes next
pub record HasPrepared (h : HeldRow) (new : Held) : Type 0 where
  pub events : List Event
  pub silent : AreSilent events
  pub may : IsPlanned h.hold.planned events
  pub same : prepared h (planned_at h.hold.planned events) ≡ record h { hold = new }
  pub nothing : IsNone (next new.planned)

pub has_prepared : (h : HeldRow) (new : Held) → PutsOutNext h.hold None new → HasPrepared h new
has_prepared h new puts =
    let prepares = puts.0 in
    record {
      events = prepares.0;
      silent = prepares.1;
      may = prepares.2;
      same = λ i. record h { hold = record { planned = prepares.3 i; away = (sym puts.2) i; class = (sym puts.3) i; second_away = (sym puts.4) i } };
      nothing = puts.1;
    }

module _ (fs : FramesState) (frame : ℕ) (h : HeldRow) (new : Held) (is : hold_at fs.uses frame ≡ Some h) (sound : IsSound fs) (live : AreLive fs) (kept : LacksBlocks fs frame → ⊥) (puts : PutsOutNext h.hold None new) where
  abbrev row : HeldRow
  row = record h { hold = new }

  has : HasPrepared h new
  has = has_prepared h new puts

  held : IsHeld fs.geometry fs.shard fs.slots h
  held = sound.frames.rows frame h is

  abbrev ready : HeldRow
  ready = prepared h (planned_at h.hold.planned has.events)

  p : Prepared fs.geometry fs.shard fs.slots h ready
  p = are_prepared fs.geometry fs.shard fs.slots h has.events sound.shape held has.silent has.may

  pub none_held : hold_at (set fs.uses frame (HeldIn row)) frame ≡ Some row
  none_held = hold_at_own fs.uses frame (HeldIn row) (held_within fs.uses frame h is)

  pub none_sound : IsSound (with_row fs frame row)
  none_sound =
      subst (λ (r : HeldRow). IsSound (with_row fs frame r)) has.same
      (sound_changed fs frame h ready fs.commands is sound p.held refl
      (commands_prepared fs frame h (planned_at h.hold.planned has.events) live is p sound.commands) sound.directs)

  pub none_drives : Drives fs (with_row fs frame row)
  none_drives = (
    refl,
    refl,
    λ rest.
        let s = shard_with rest fs in
        let frames_are = frame_put fs.uses frame (HeldIn ready) (held_within fs.uses frame h is) in
        subst (λ (r : HeldRow). Through (layout_of fs.geometry) fs.shard PutsOut s (shard_with rest (with_row fs frame r))) has.same
        (prepare_leads PutsOut (λ f h event. record {}) (layout_of fs.geometry) fs.shard s (shard_with rest (with_row fs frame ready)) frame h has.events [] (ap (option_map hold_of) is) live has.silent has.may
        (λ i. record s { frame = frames_are i })),
    refl,
  )

  was_lacking : Lacks new.planned → ⊥
  was_lacking lacks =
      kept (lacks_at fs frame h is (lacks_unprepared h.hold.planned has.events has.silent has.may (subst (λ (r : HeldRow). Lacks r.hold.planned) (sym has.same) lacks)))

  nothing_next : next new.planned ≡ None
  nothing_next = by_next (next new.planned) refl has.nothing
    where
      by_next : (o : Option Next) → next new.planned ≡ o → IsNone o → next new.planned ≡ None
      by_next None e none = e
      by_next (Some (ReadAt i)) e none = absurd none
      by_next (Some (FixAt i)) e none = absurd none
      by_next (Some (ReadAgainAt i)) e none = absurd none
      by_next (Some (MoveAt i)) e none = absurd (was_lacking (inl (i, e)))
      by_next (Some LoseUnreadable) e none = absurd (was_lacking (inr e))
      by_next (Some (RestoreAt i)) e none = absurd none
      by_next (Some ComputeNew) e none = absurd none
      by_next (Some (WriteAt i)) e none = absurd none
      by_next (Some (CopyAt i)) e none = absurd none

  pub none_driven : IsDriven (with_row fs frame row) frame
  none_driven x there = let both : Some row ≡ Some x = sym none_held ∙ there in let same : row ≡ x = cc in subst (λ (r : HeldRow). next r.hold.planned ≡ None) same nothing_next

  pub none_owed : owed (with_row fs frame row) ≤ owed fs
  none_owed =
      subst (λ (r : HeldRow). owed (with_row fs frame r) ≤ owed fs) has.same
      (let sum = owed_changed fs frame h ready fs.commands is in let fewer = p.owes in omega arith)

  pub none_requests : held_requests (with_row fs frame row) ≡ held_requests fs
  none_requests =
      subst (λ (r : HeldRow). held_requests (with_row fs frame r) ≡ held_requests fs) has.same
      (requests_changed fs frame h ready fs.commands is (request_same frame h (planned_at h.hold.planned has.events) h.hold.away h.hold.second_away p.kind))

  pub none_first : OwesCommands fs frame → IsOver (with_row fs frame row) frame → ⊥
  none_first owes over =
      let both : Some row ≡ Some over.0 = sym none_held ∙ over.1 in
      let same : over.0 ≡ row = cc in
      let ends : has_outcome new.planned ≡ true = subst (λ (x : HeldRow). has_outcome x.hold.planned ≡ true) same over.2 in
      let ended : is_over new.planned ≡ true = (and_parts (not (is_idle new.planned.hold.kind)) (is_over new.planned) ends).1 in
      let going : is_over new.planned ≡ false = sym (ap (λ (r : HeldRow). is_over r.hold.planned) has.same) ∙ owes h is has.events has.silent has.may in
      absurd (cc)

  pub none_still : HasOut fs frame → HasOut (with_row fs frame row) frame
  none_still out =
      let both : Some out.0 ≡ Some h = sym out.1 ∙ is in
      let same : out.0 ≡ h = cc in
      let was = subst (λ (x : HeldRow). (has_read_out x.hold.planned.hold || has_write_out x.hold.planned.hold) ≡ true) same out.2 in (
        row,
        none_held,
        subst (λ (x : HeldRow). (has_read_out x.hold.planned.hold || has_write_out x.hold.planned.hold) ≡ true) has.same (prepared_out fs.geometry fs.shard fs.slots h ready held p ∙ was),
      )

  -- enough blocks can become known still
  pub none_kept : LacksBlocks (with_row fs frame row) frame → ⊥
  none_kept lacks = was_lacking (lacks_in (with_row fs frame row) frame row none_held lacks)

  pub none_begins : DrivesFirst frame fs (with_row fs frame row)
  none_begins unmet = (
    λ x there position.
        let both : Some row ≡ Some x = sym none_held ∙ there in
        let same : row ≡ x = cc in
        subst (λ (r : HeldRow). is_met (cell_at r.hold.planned.hold.cells position).reading ≡ false) (has.same ∙ same) (unmet_prepared h.hold.planned has.events has.silent (unmet h is) position),
    (
      refl,
      refl,
      λ rest.
          let s = shard_with rest fs in
          let frames_are = frame_put fs.uses frame (HeldIn ready) (held_within fs.uses frame h is) in
          subst (λ (r : HeldRow). Through (layout_of fs.geometry) fs.shard PutsFirst s (shard_with rest (with_row fs frame r))) has.same
          (prepare_leads PutsFirst (λ f h event. record {}) (layout_of fs.geometry) fs.shard s (shard_with rest (with_row fs frame ready)) frame h has.events [] (ap (option_map hold_of) is) live has.silent has.may
          (λ i. record s { frame = frames_are i })),
      refl,
    ),
  )
