-- A first read meets an error: what that leaves of the held row, and whether a command is such a read.
use Rattle.std.proofs.Common.{◌≡◌, ◌≢◌, ℕ, ◌<◌, ◌≤◌, Bool, true, false, [], set, refl, sym, ap, subst, ◌∙◌, Option, Some, None, arith}
use Rattle.std.specs.Prelude.{◌||◌, ◌&&◌, nat_le, not, option_map}
use Rattle.std.specs.FinMap as finite
use Rattle.std.proofs.lemmas.Bool.{and_parts, leb-true, lt-ltb}
use Rattle.r6_layout.specs.Layout.{position_at}
use Rattle.r6_stripe.specs.Holds.{Reading, cell_at}
use Rattle.r6_stripe.specs.Holds.Event.{Fails}
use Rattle.r6_stripe.specs.Holds.Reading.{Unread, Recalled, Asked, Unreadable, Fixing, Fixed, AskedAgain, Known, Replaced}
use Rattle.r6_stripe.specs.Places.{is_read_out}
use Rattle.r6_stripe.specs.Plans.{is_asked, is_out}
use Rattle.r6_stripe.specs.Steps.{Held as HeldHold, failed as hold_failed}
use Rattle.r6_world.specs.Tables.{put}
use Rattle.r6_world.specs.Geometries.{layout_of}
use Rattle.r6_world.specs.ShardStates.{Command, Fetch, frames, is_asked_of, is_fetch, is_first_read}
use Rattle.r6_frames.specs.declared.command.Action.{Action}
use Rattle.r6_frames.specs.declared.command.Action.TheVariants as action
use Rattle.r6_frames.specs.Actions.{is_read, is_write}
use Rattle.r6_layout.specs.PlainArray.{Block}
use Rattle.r6_stripe.specs.Holds.Standing.{Out}
use Rattle.r6_frames.specs.declared.command.Outstanding.{Outstanding}
use Rattle.r6_frames.specs.declared.frames.HeldRow.{HeldRow}
use Rattle.r6_frames.specs.declared.frames.FrameUse.TheVariants.{Held as HeldIn}
use Rattle.r6_frames.specs.FramesState.{FramesState, Commands}
use Rattle.r6_frames.specs.Views.{hold_at, hold_of, frame_of, held_requests, command_of, transfer_of, Rest, shard_with}
use Rattle.r6_frames.specs.Calls.{Fails as FailsAt, IsFirstRead, KeepsOthers, KeepsRows}
use Rattle.r6_frames.specs.Owed.{owed}
use Rattle.r6_frames.specs.Sound.{IsSound, is_write_out, place_of, standing_for}
use Rattle.r6_frames.proofs.Held.{use_at_other, held_within, hold_at_own, rows_stay}
use Rattle.r6_frames.proofs.HeldRows.{home_is}
use Rattle.r6_frames.proofs.AnsweredRows.{Comes, comes_row, heard_comes, fails_at}
use Rattle.r6_frames.proofs.Completions.{IsOut, own_of, answered_of, answered_owed, answered_requests, answered_sound, shard_is}

-- what a shard may have beside its frames
abbrev pub some_rest : Rest
some_rest = record {
  accepted = 0;
  request = λ id. None;
  calls = [];
  untold = None;
  check_row = 0;
  repair_row = 0;
  counts = record { consistent = 0; wrong_p = 0; wrong_q = 0; wrong_data = 0; many = 0; skipped = 0; repaired = 0; rebuilt = 0 };
}

-- ---- whether it is a first read

asked_only : (reading : Reading) → is_asked reading ≡ true → reading ≡ Asked
asked_only Unread e = absurd (cc)
asked_only Recalled e = absurd (cc)
asked_only Asked e = refl
asked_only Unreadable e = absurd (cc)
asked_only Fixing e = absurd (cc)
asked_only Fixed e = absurd (cc)
asked_only AskedAgain e = absurd (cc)
asked_only (Known block) e = absurd (cc)
asked_only Replaced e = absurd (cc)

below_no : (frame : ℕ) → frame < frames → nat_le frames frame ≡ false
below_no frame below = by_test (nat_le frames frame) refl
  where
    by_test : (b : Bool) → nat_le frames frame ≡ b → nat_le frames frame ≡ false
    by_test false e = e
    by_test true e = absurd (let le = leb-true frames frame e in omega arith)

module _ (fs : FramesState) (token : ℕ) (c : Outstanding) (h : HeldRow) (out : IsOut fs token c h) (inside : c.frame < frames) where
  abbrev wc : Command
  wc = command_of fs.slots fs.next_taken token c

  abbrev at : ℕ
  at = place_of fs c

  -- a command of a row that is held is a first read if the position's is put out, and it is a read
  as_world : (rest : Rest) → is_first_read (layout_of fs.geometry) (shard_with rest fs) wc ≡ (is_fetch wc.transfer && is_asked (cell_at h.hold.planned.hold.cells at).reading)
  as_world rest =
      let direct = below_no c.frame inside in
      let own : is_asked_of (layout_of fs.geometry) (frame_of fs c.frame) wc ≡ is_asked (cell_at h.hold.planned.hold.cells at).reading =
      ap (λ o. is_asked_of (layout_of fs.geometry) (option_map hold_of o) wc) out.held
      ∙ ap (λ (row : ℕ). is_asked (cell_at h.hold.planned.hold.cells (position_at fs.geometry row c.slot)).reading) (sym out.row) in
      λ i. is_fetch wc.transfer && (direct i || own i)

  fetch_reads : (what : Action) (block : Option Block) → is_fetch (transfer_of what block) ≡ is_read what
  fetch_reads action.Read block = refl
  fetch_reads action.Write None = refl
  fetch_reads action.Write (Some block) = refl
  fetch_reads action.Copy None = refl
  fetch_reads action.Copy (Some block) = refl

  fetches : is_read c.action ≡ true → wc.transfer ≡ Fetch
  fetches reads = by_action c.action reads
    where
      by_action : (what : Action) → is_read what ≡ true → transfer_of what c.buffer ≡ Fetch
      by_action action.Read reads = refl
      by_action action.Write reads = absurd (cc)
      by_action action.Copy reads = absurd (cc)

  -- it goes to the first device
  pub read_own : is_read c.action ≡ true → own_of c h ≡ true
  read_own reads = by_own (own_of c h) refl
    where
      unwritten : (what : Action) → is_read what ≡ true → is_write what ≡ false
      unwritten action.Read reads = refl
      unwritten action.Write reads = absurd (cc)
      unwritten action.Copy reads = absurd (cc)

      by_own : (o : Bool) → own_of c h ≡ o → own_of c h ≡ true
      by_own true e = e
      by_own false e =
          let writes : is_write c.action ≡ true = out.writes ∙ ap (λ (b : Bool). is_write_out b (cell_at h.hold.planned.hold.cells at)) e in
          absurd (let both : false ≡ true = sym (unwritten c.action reads) ∙ writes in cc)

  pub read_there : is_read c.action ≡ true → (cell_at h.hold.planned.hold.cells at).standing ≢ Out
  read_there reads none = out.not_out (ap (λ (b : Bool). standing_for b (cell_at h.hold.planned.hold.cells at)) (read_own reads) ∙ none)

  pub first_is : IsFirstRead fs token → (is_read c.action ≡ true) × ((cell_at h.hold.planned.hold.cells at).reading ≡ Asked)
  first_is first =
      let both : Some first.0 ≡ Some c = sym first.1 ∙ out.there in
      let same : first.0 ≡ c = cc in
      let mine = subst (λ (x : Outstanding). is_first_read (layout_of fs.geometry) (shard_with some_rest fs) (command_of fs.slots fs.next_taken token x) ≡ true) same (first.2 some_rest) in
      let parts = and_parts (is_fetch wc.transfer) (is_asked (cell_at h.hold.planned.hold.cells at).reading) (sym (as_world some_rest) ∙ mine) in
      (sym (fetch_reads c.action c.buffer) ∙ parts.0, asked_only (cell_at h.hold.planned.hold.cells at).reading parts.1)

  pub is_first : is_read c.action ≡ true → (cell_at h.hold.planned.hold.cells at).reading ≡ Asked → IsFirstRead fs token
  is_first reads asked = (c, out.there, λ rest. as_world rest ∙ (λ i. is_fetch (fetches reads i) && is_asked (asked i)))

  -- the hold says so of its position
  pub read_out : is_read c.action ≡ true → (cell_at h.hold.planned.hold.cells at).reading ≡ Asked → is_read_out (cell_at h.hold.planned.hold.cells at) ≡ true
  read_out reads asked =
      let home = home_is (cell_at h.hold.planned.hold.cells at).standing (read_there reads) in
      λ i. not (home i) && is_asked (asked i)

  pub is_asked_out : is_read_out (cell_at h.hold.planned.hold.cells at) ≡ true → (cell_at h.hold.planned.hold.cells at).reading ≡ Asked
  is_asked_out is =
      asked_only (cell_at h.hold.planned.hold.cells at).reading
      (and_parts (not (is_out (cell_at h.hold.planned.hold.cells at).standing)) (is_asked (cell_at h.hold.planned.hold.cells at).reading) is).1

  -- ---- the error is taken

  fails : is_read c.action ≡ true → (cell_at h.hold.planned.hold.cells at).reading ≡ Asked → FailsAt fs token (answered_of fs token c h out (Fails at) h.hold.class)
  fails reads asked = (
    refl,
    refl,
    λ rest.
        let own = position_at fs.geometry h.row c.slot in
        let here : at ≡ own = ap (λ (row : ℕ). position_at fs.geometry row c.slot) out.row in (
          wc,
          hold_of h,
          lt-ltb token fs.next_taken out.taken,
          (
            ap (option_map (command_of fs.slots fs.next_taken token)) out.there,
            out.wanted,
            ap (option_map hold_of) out.held,
            fetches reads,
            ap (λ (p : ℕ). (cell_at h.hold.planned.hold.cells p).reading) (sym here) ∙ asked,
          ),
          shard_is fs token c h out rest (Fails at) h.hold.class
              ∙ (λ i. record (shard_with rest fs) {
                frame = put (shard_with rest fs).frame c.frame (Some (hold_of (comes_row h (own_of c h) at (Fails (here i)))));
                command = put (shard_with rest fs).command token None;
              }),
        ),
    refl,
  )

-- what the call leaves, when the hold has heard of it
pub record Failed (fs : FramesState) (token : ℕ) (frame : ℕ) (h : HeldRow) (new : FramesState) : Type 0 where
  pub sound : IsSound new
  pub fails : FailsAt fs token new
  pub held : hold_at new.uses frame ≡ Some h
  pub rows : KeepsRows fs new
  pub others : KeepsOthers fs frame new
  pub owed : owed new ≤ owed fs
  pub requests : held_requests new ≡ held_requests fs

pub failed : (fs : FramesState) (token : ℕ) (c : Outstanding) (h : HeldRow) (position : ℕ) (hold : HeldHold) (commands : Commands) → IsSound fs → (out : IsOut fs token c h) → c.frame < frames → IsFirstRead fs token
    → position ≡ place_of fs c → hold ≡ hold_failed h.hold position
    → commands ≡ record { next = fs.commands.next; entries = finite.remove fs.commands.entries token }
    → Failed fs token c.frame (record h { hold = hold }) (record fs { uses = set fs.uses c.frame (HeldIn (record h { hold = hold })); commands = commands })
failed fs token c h position hold commands sound out inside first at failing rest =
    let event = Fails (place_of fs c) in
    let parts = first_is fs token c h out inside first in
    let asked = parts.1 in
    let own = read_own fs token c h out inside parts.0 in
    let heard = fails_at fs.geometry fs.shard fs.slots h (place_of fs c) sound.shape out.whole (read_there fs token c h out inside parts.0) asked in
    let comes : Comes fs.geometry fs.shard fs.slots h (own_of c h) (place_of fs c) event =
    subst (λ (o : Bool). Comes fs.geometry fs.shard fs.slots h o (place_of fs c) event) (sym own) (heard_comes fs.geometry fs.shard fs.slots h (place_of fs c) event out.whole out.inside heard) in
    let goes : hold ≡ (comes_row h (own_of c h) (place_of fs c) event).hold =
    failing ∙ ap (hold_failed h.hold) at ∙ sym (ap (λ (o : Bool). (comes_row h o (place_of fs c) event).hold) own) in
    let same : record fs { uses = set fs.uses c.frame (HeldIn (record h { hold = hold })); commands = commands } ≡ answered_of fs token c h out event h.hold.class =
    λ i. record fs { uses = set fs.uses c.frame (HeldIn (record h { hold = goes i })); commands = rest i } in
    record {
      sound = subst IsSound (sym same) (answered_sound fs token c h out sound event comes h.hold.class);
      fails = subst (FailsAt fs token) (sym same) (fails fs token c h out inside parts.0 asked);
      held = hold_at_own fs.uses c.frame (HeldIn (record h { hold = hold })) (held_within fs.uses c.frame h out.held);
      rows = rows_stay fs.uses c.frame h (record h { hold = hold }) out.held refl;
      others = λ other ne. use_at_other fs.uses c.frame (HeldIn (record h { hold = hold })) other ne;
      owed = subst (λ (x : FramesState). owed x ≤ owed fs) (sym same) (answered_owed fs token c h out sound event comes h.hold.class);
      requests = ap held_requests same ∙ answered_requests fs token c h out sound event comes h.hold.class;
    }
