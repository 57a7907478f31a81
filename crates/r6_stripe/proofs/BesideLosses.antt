-- What is true of a second device once it is lost, alone or with the first, or has the first one's place.
use Rattle.std.proofs.Common.{◌≡◌, ◌≢◌, ◌⊎◌, inl, inr, Bool, true, false, ℕ, List, set, refl, sym, ◌∙◌, ap, subst, arith, Option, Some, None}
use Rattle.std.specs.Prelude.{◌&&◌, not, if◌then◌else◌}
use Rattle.std.proofs.lemmas.Bool.{cases_eq}
use Rattle.std.proofs.lemmas.List.{get_or-set_other, get_or-set_same, length-set}
use Rattle.r6_stripe.specs.Holds as holds
use Rattle.r6_stripe.specs.Holds.{Writing, Cell, cell_at, no_cell}
use Rattle.r6_stripe.specs.Holds.Standing.{Out}
use Rattle.r6_stripe.specs.Holds.Writing.{Unwritten, Ready, Sent, Confirmed}
use Rattle.r6_stripe.specs.Places.{standing_of, writing_of}
use Rattle.r6_stripe.specs.Holds.Event.{Settles}
use Rattle.r6_stripe.specs.Plans.{is_out, is_sent, planned_after}
use Rattle.r6_stripe.specs.RowViews.{IsRowSound, row_of_state}
use Rattle.r6_stripe.specs.Seconds.{IsSecondSound, IsSoundBeside, beside, copying_of, is_awaited, is_kept, lost_copy, lost_second, with_second, is_following, is_put_out}
use Rattle.r6_stripe.specs.Steps.{Held, lost, settled}
use Rattle.r6_stripe.specs.Views.{held_of}
use Rattle.r6_stripe.specs.declared.place.Standing.{Standing}
use Rattle.r6_stripe.specs.declared.place.Standing.TheVariants as state
use Rattle.r6_stripe.specs.declared.place.WriteState.{WriteState}
use Rattle.r6_stripe.specs.declared.place.WriteState.TheVariants as write
use Rattle.r6_stripe.specs.declared.row.RowState.{RowState}
use Rattle.r6_stripe.specs.declared.second.CopyState.{CopyState}
use Rattle.r6_stripe.specs.declared.second.CopyState.TheVariants as copy
use Rattle.r6_stripe.specs.declared.second.Second.{Second}
use Rattle.r6_stripe.proofs.Alone.{AreAlone, cells_alone}
use Rattle.r6_stripe.proofs.Beside.{IsTwin, here, other}
use Rattle.r6_stripe.proofs.BesideAnswers.{sound_still, twin_by}

pub sound_some : (row : RowState) (second : Second) → IsRowSound row → row.second ≡ Some second → IsSecondSound (held_of row.hold) row.spare_away second
sound_some row second sound is = subst (IsSoundBeside (held_of row.hold) row.spare_away) is sound.second

-- without a second device no position has one
pub none_second : (row : RowState) (i : ℕ) → row.second ≡ None → is_out (cell_at (row_of_state row).planned.hold.cells i).second ≡ false → ⊥
none_second row i none is =
    let e : is_out (cell_at (held_of row.hold).planned.hold.cells i).second ≡ false = subst (λ (o : Option Second). is_out (cell_at (with_second o row.spare row.spare_away (held_of row.hold)).planned.hold.cells i).second ≡ false) none is in
    let f = sym (ap is_out (cells_alone row.hold.places row.hold.blocks.items i).second) ∙ e in
    cc

in_sync_only : (s : Standing) → s ≢ state.Target → is_out (standing_of s) ≡ false → s ≡ state.InSync
in_sync_only state.InSync h e = refl
in_sync_only state.Target h e = absurd (h refl)
in_sync_only state.Out h e = absurd cc

-- the position that has one
pub second_there : (row : RowState) (second : Second) (i : ℕ) → IsRowSound row → row.second ≡ Some second → is_out (cell_at (row_of_state row).planned.hold.cells i).second ≡ false → (i ≡ second.position) × (second.state ≡ state.InSync)
second_there row second i sound is there =
    let held = held_of row.hold in
    let alone = cells_alone row.hold.places row.hold.blocks.items in
    let s = sound_some row second sound is in
    let twin = twin_by held row.spare_away second row.spare s in
    let e : is_out (cell_at (with_second (Some second) row.spare row.spare_away held).planned.hold.cells i).second ≡ false = subst (λ (o : Option Second). is_out (cell_at (with_second o row.spare row.spare_away held).planned.hold.cells i).second ≡ false) is there in
    elim (cases_eq i second.position) [
      | inl same ↦ (
        same,
        in_sync_only second.state s.untargeted
            (ap (λ (c : Cell). is_out c.second) (sym (here second row.spare held.planned.hold alone twin))
            ∙ subst (λ (j : ℕ). is_out (cell_at (with_second (Some second) row.spare row.spare_away held).planned.hold.cells j).second ≡ false) same e),
      )
      | inr apart ↦ absurd (let f = sym (ap (λ (c : Cell). is_out c.second) (other second row.spare held.planned.hold alone twin i apart) ∙ ap is_out (alone i).second) ∙ e in cc)
    ]

-- it is taken out alone
pub dropped_sound : (held : Held) (away : Bool) (second : Second) → second.state ≡ state.InSync → IsSecondSound held away second → IsSecondSound held away (record second { state = state.Out; copy = copy.Unwritten })
dropped_sound held away second in_sync sound = record {
  within = sound.within;
  untargeted = λ e. cc;
  beside_one = λ e. absurd cc;
  follows = λ e. absurd cc;
  early = λ e. absurd cc;
  owed = λ e. absurd cc;
  over = λ e f. cc;
  computed = λ u. absurd (u refl);
  following_home = λ e. absurd cc;
  ready_home = λ e. absurd cc;
  confirmed_home = λ e. absurd cc;
  alone = λ is. (refl, refl);
  recalled = sound.recalled;
}

sent_only : (b : Bool) (c : CopyState) → (b && is_put_out c) ≡ true → c ≡ copy.Sent
sent_only true copy.Unwritten e = absurd cc
sent_only true copy.Following e = absurd cc
sent_only true copy.Ready e = absurd cc
sent_only true copy.Sent e = refl
sent_only true copy.Confirmed e = absurd cc
sent_only false c e = absurd cc

pub awaited_is : (second : Second) → is_awaited second ≡ true → second.copy ≡ copy.Sent
awaited_is second awaited = sent_only (not (is_out (standing_of second.state))) second.copy awaited

-- the write is out just where the code awaits it
pub sent_awaited : (held : Held) (away : Bool) (second : Second) (block : List ℕ) → IsSecondSound held away second →
    (not (is_out (standing_of second.state)) && is_sent (copying_of second.copy (cell_at held.planned.hold.cells second.position).writing block)) ≡ is_awaited second
sent_awaited held away second block sound = by_copy second.copy refl
  where
    cell : Cell
    cell = cell_at held.planned.hold.cells second.position

    by_copy : (c : CopyState) → second.copy ≡ c → (not (is_out (standing_of second.state)) && is_sent (copying_of c cell.writing block)) ≡ (not (is_out (standing_of second.state)) && is_put_out c)
    by_copy copy.Unwritten is = refl
    by_copy copy.Following is = ap (λ (b : Bool). not (is_out (standing_of second.state)) && b) (unsent cell.writing (sound.early is).0)
      where
        unsent : (w : Writing) → w ≢ Sent → is_sent w ≡ false
        unsent Unwritten h = refl
        unsent (Ready b) h = refl
        unsent Sent h = absurd (h refl)
        unsent Confirmed h = refl
    by_copy copy.Ready is = refl
    by_copy copy.Sent is = refl
    by_copy copy.Confirmed is = refl

-- a buffer comes home where no position has a second device
pub settled_alone : (held : Held) (block buffer : List ℕ) (away : Bool) (i : ℕ) → AreAlone held.planned.hold.cells → with_second None buffer false held ≡ settled (with_second None block away held) i
settled_alone held block buffer away i alone =
    sym (ap (λ (s : holds.Standing). record held { planned = if not (is_out s) && is_sent (cell_at held.planned.hold.cells i).copying then planned_after held.planned (Settles i) else held.planned; second_away = false }) (alone i).second)

-- a buffer comes home whose write isn't awaited, and that isn't the new block
pub settled_late : (held : Held) (second : Second) (block buffer : List ℕ) (i : ℕ) → AreAlone held.planned.hold.cells → IsSecondSound held true second → (i ≡ second.position → is_awaited second ≡ false) →
    with_second (Some second) buffer false held ≡ settled (with_second (Some second) block true held) i
settled_late held second block buffer i alone sound quiet =
    (λ k. record held { planned = record held.planned { hold = record held.planned.hold { cells = set cells second.position (record (beside second block cell) { copying = by_copy second.copy refl k }) } }; second_away = false })
    ∙ sym (ap (λ (b : Bool). record (with_second (Some second) block true held) { planned = if b then planned_after (with_second (Some second) block true held).planned (Settles i) else (with_second (Some second) block true held).planned; second_away = false }) off)
  where
    cells : List Cell
    cells = held.planned.hold.cells

    cell : Cell
    cell = cell_at held.planned.hold.cells second.position

    by_copy : (c : CopyState) → second.copy ≡ c → copying_of c cell.writing buffer ≡ copying_of c cell.writing block
    by_copy copy.Unwritten is = refl
    by_copy copy.Following is = refl
    by_copy copy.Ready is = absurd (let e = sound.ready_home is in cc)
    by_copy copy.Sent is = refl
    by_copy copy.Confirmed is = refl

    twin : IsTwin second block held.planned.hold
    twin = twin_by held true second block sound

    off : (not (is_out (cell_at (with_second (Some second) block true held).planned.hold.cells i).second) && is_sent (cell_at (with_second (Some second) block true held).planned.hold.cells i).copying) ≡ false
    off =
        elim (cases_eq i second.position) [
          | inl same ↦
              subst (λ (j : ℕ). (not (is_out (cell_at (with_second (Some second) block true held).planned.hold.cells j).second) && is_sent (cell_at (with_second (Some second) block true held).planned.hold.cells j).copying) ≡ false) (sym same)
              (ap (λ (c : Cell). not (is_out c.second) && is_sent c.copying) (here second block held.planned.hold alone twin) ∙ sent_awaited held true second block sound ∙ quiet same)
          | inr apart ↦
              ap (λ (c : Cell). not (is_out c.second) && is_sent c.copying) (other second block held.planned.hold alone twin i apart)
              ∙ ap (λ (s : holds.Standing). not (is_out s) && is_sent (cell_at cells i).copying) (alone i).second
        ]

-- ---- both are lost

pub lost_copying : (w : WriteState) (c : CopyState) (second : Second) (block spare : List ℕ) → second.copy ≡ c → (c ≡ copy.Following → (writing_of w block ≢ Sent) × (writing_of w block ≢ Confirmed)) →
    copying_of (lost_copy w c) (writing_of w block) (if is_kept w second then block else spare) ≡ copying_of c (writing_of w block) spare
lost_copying w copy.Unwritten second block spare is early = by_write w
  where
    by_write : (x : WriteState) → copying_of (lost_copy x copy.Unwritten) (writing_of w block) (if is_kept w second then block else spare) ≡ Unwritten
    by_write write.Unwritten = refl
    by_write write.Ready = refl
    by_write write.Sent = refl
    by_write write.Confirmed = refl
lost_copying write.Unwritten copy.Following second block spare is early = refl
lost_copying write.Ready copy.Following second block spare is early = ap (λ (c : CopyState). Ready (if is_following c then block else spare)) is
lost_copying write.Sent copy.Following second block spare is early = absurd ((early refl).0 refl)
lost_copying write.Confirmed copy.Following second block spare is early = absurd ((early refl).1 refl)
lost_copying write.Unwritten copy.Ready second block spare is early = refl
lost_copying write.Ready copy.Ready second block spare is early = ap (λ (c : CopyState). Ready (if is_following c then block else spare)) is
lost_copying write.Sent copy.Ready second block spare is early = refl
lost_copying write.Confirmed copy.Ready second block spare is early = refl
lost_copying w copy.Sent second block spare is early = by_write w
  where
    by_write : (x : WriteState) → copying_of (lost_copy x copy.Sent) (writing_of w block) (if is_kept w second then block else spare) ≡ Sent
    by_write write.Unwritten = refl
    by_write write.Ready = refl
    by_write write.Sent = refl
    by_write write.Confirmed = refl
lost_copying w copy.Confirmed second block spare is early = by_write w
  where
    by_write : (x : WriteState) → copying_of (lost_copy x copy.Confirmed) (writing_of w block) (if is_kept w second then block else spare) ≡ Confirmed
    by_write write.Unwritten = refl
    by_write write.Ready = refl
    by_write write.Sent = refl
    by_write write.Confirmed = refl

-- what is lost follows nothing
record IsLostCopy (w : WriteState) (c : CopyState) : Type 0 where
  apart : lost_copy w c ≢ copy.Following
  none : c ≡ copy.Unwritten → lost_copy w c ≡ copy.Unwritten
  ready : lost_copy w c ≡ copy.Ready → ((c ≡ copy.Following) × (w ≡ write.Ready)) ⊎ (c ≡ copy.Ready)
  some : lost_copy w c ≢ copy.Unwritten → ((c ≡ copy.Following) × (w ≡ write.Ready)) ⊎ ((c ≢ copy.Unwritten) × (c ≢ copy.Following))

lost_copies : (w : WriteState) (c : CopyState) → IsLostCopy w c
lost_copies write.Unwritten copy.Unwritten = record { apart = λ e. cc; none = λ e. refl; ready = λ e. absurd cc; some = λ h. absurd (h refl) }
lost_copies write.Unwritten copy.Following = record { apart = λ e. cc; none = λ e. absurd cc; ready = λ e. absurd cc; some = λ h. absurd (h refl) }
lost_copies write.Unwritten copy.Ready = record { apart = λ e. cc; none = λ e. absurd cc; ready = λ e. inr refl; some = λ h. inr ((λ e. cc), λ e. cc) }
lost_copies write.Unwritten copy.Sent = record { apart = λ e. cc; none = λ e. absurd cc; ready = λ e. absurd cc; some = λ h. inr ((λ e. cc), λ e. cc) }
lost_copies write.Unwritten copy.Confirmed = record { apart = λ e. cc; none = λ e. absurd cc; ready = λ e. absurd cc; some = λ h. inr ((λ e. cc), λ e. cc) }
lost_copies write.Ready copy.Unwritten = record { apart = λ e. cc; none = λ e. refl; ready = λ e. absurd cc; some = λ h. absurd (h refl) }
lost_copies write.Ready copy.Following = record { apart = λ e. cc; none = λ e. absurd cc; ready = λ e. inl (refl, refl); some = λ h. inl (refl, refl) }
lost_copies write.Ready copy.Ready = record { apart = λ e. cc; none = λ e. absurd cc; ready = λ e. inr refl; some = λ h. inr ((λ e. cc), λ e. cc) }
lost_copies write.Ready copy.Sent = record { apart = λ e. cc; none = λ e. absurd cc; ready = λ e. absurd cc; some = λ h. inr ((λ e. cc), λ e. cc) }
lost_copies write.Ready copy.Confirmed = record { apart = λ e. cc; none = λ e. absurd cc; ready = λ e. absurd cc; some = λ h. inr ((λ e. cc), λ e. cc) }
lost_copies write.Sent copy.Unwritten = record { apart = λ e. cc; none = λ e. refl; ready = λ e. absurd cc; some = λ h. absurd (h refl) }
lost_copies write.Sent copy.Following = record { apart = λ e. cc; none = λ e. absurd cc; ready = λ e. absurd cc; some = λ h. absurd (h refl) }
lost_copies write.Sent copy.Ready = record { apart = λ e. cc; none = λ e. absurd cc; ready = λ e. inr refl; some = λ h. inr ((λ e. cc), λ e. cc) }
lost_copies write.Sent copy.Sent = record { apart = λ e. cc; none = λ e. absurd cc; ready = λ e. absurd cc; some = λ h. inr ((λ e. cc), λ e. cc) }
lost_copies write.Sent copy.Confirmed = record { apart = λ e. cc; none = λ e. absurd cc; ready = λ e. absurd cc; some = λ h. inr ((λ e. cc), λ e. cc) }
lost_copies write.Confirmed copy.Unwritten = record { apart = λ e. cc; none = λ e. refl; ready = λ e. absurd cc; some = λ h. absurd (h refl) }
lost_copies write.Confirmed copy.Following = record { apart = λ e. cc; none = λ e. absurd cc; ready = λ e. absurd cc; some = λ h. absurd (h refl) }
lost_copies write.Confirmed copy.Ready = record { apart = λ e. cc; none = λ e. absurd cc; ready = λ e. inr refl; some = λ h. inr ((λ e. cc), λ e. cc) }
lost_copies write.Confirmed copy.Sent = record { apart = λ e. cc; none = λ e. absurd cc; ready = λ e. absurd cc; some = λ h. inr ((λ e. cc), λ e. cc) }
lost_copies write.Confirmed copy.Confirmed = record { apart = λ e. cc; none = λ e. absurd cc; ready = λ e. absurd cc; some = λ h. inr ((λ e. cc), λ e. cc) }

pub lost_sound : (held : Held) (away : Bool) (second : Second) (w : WriteState) (block : List ℕ) → (cell_at held.planned.hold.cells second.position).writing ≡ writing_of w block → IsSecondSound held away second → IsSecondSound (lost held second.position) away (lost_second w second)
lost_sound held away second w block is sound =
    let cells : List Cell = held.planned.hold.cells in
    let p : ℕ = second.position in
    let gone : Cell = record (cell_at cells p) { standing = Out; second = Out } in
    let at : cell_at (set cells p gone) p ≡ gone = get_or-set_same cells p gone no_cell sound.within in
    let copies : IsLostCopy w second.copy = lost_copies w second.copy in
    record {
      within = omega (arith, sound.within, length-set cells p gone);
      untargeted = λ e. cc;
      beside_one = λ e. absurd cc;
      follows = λ e. absurd cc;
      early = λ e. absurd (copies.apart e);
      owed = λ e. absurd cc;
      over = λ e. copies.apart;
      computed = λ u f e. elim (copies.some u) [
        | inl h ↦ ready_written w (h.1) (sym is ∙ ap (λ (c : Cell). c.writing) (sym at) ∙ e)
        | inr h ↦ sound.computed h.0 h.1 (ap (λ (c : Cell). c.writing) (sym at) ∙ e)
      ];
      following_home = λ e. absurd (copies.apart e);
      ready_home = λ e. elim (copies.ready e) [ inl h ↦ sound.following_home h.0 | inr h ↦ sound.ready_home h ];
      confirmed_home = λ e. sound.confirmed_home (confirmed_only w second.copy e);
      alone = λ e. (refl, copies.none (sound.alone e).1);
      recalled = λ e live. absurd (live (ap (λ (c : Cell). c.standing) at));
    }
  where
    confirmed_only : (x : WriteState) (c : CopyState) → lost_copy x c ≡ copy.Confirmed → c ≡ copy.Confirmed
    confirmed_only x copy.Confirmed e = refl
    confirmed_only write.Ready copy.Following e = absurd cc
    confirmed_only write.Unwritten copy.Following e = absurd cc
    confirmed_only write.Sent copy.Following e = absurd cc
    confirmed_only write.Confirmed copy.Following e = absurd cc
    confirmed_only write.Unwritten copy.Unwritten e = absurd cc
    confirmed_only write.Ready copy.Unwritten e = absurd cc
    confirmed_only write.Sent copy.Unwritten e = absurd cc
    confirmed_only write.Confirmed copy.Unwritten e = absurd cc
    confirmed_only write.Unwritten copy.Ready e = absurd cc
    confirmed_only write.Ready copy.Ready e = absurd cc
    confirmed_only write.Sent copy.Ready e = absurd cc
    confirmed_only write.Confirmed copy.Ready e = absurd cc
    confirmed_only write.Unwritten copy.Sent e = absurd cc
    confirmed_only write.Ready copy.Sent e = absurd cc
    confirmed_only write.Sent copy.Sent e = absurd cc
    confirmed_only write.Confirmed copy.Sent e = absurd cc

    ready_written : (x : WriteState) → x ≡ write.Ready → writing_of x block ≡ Unwritten → ⊥
    ready_written write.Ready e f = cc
    ready_written write.Unwritten e f = cc
    ready_written write.Sent e f = cc
    ready_written write.Confirmed e f = cc

-- another position is lost
pub lost_apart : (held : Held) (away : Bool) (second : Second) (i : ℕ) → i ≢ second.position → IsSecondSound held away second → IsSecondSound (lost held i) away second
lost_apart held away second i apart sound =
    let cells : List Cell = held.planned.hold.cells in
    let gone : Cell = record (cell_at cells i) { standing = Out; second = Out } in
    sound_still held (lost held i) away second (length-set cells i gone) (get_or-set_other cells i second.position gone no_cell (λ e. apart (sym e))) refl sound
