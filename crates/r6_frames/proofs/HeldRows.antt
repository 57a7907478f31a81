-- A held row goes on: what an event of its hold leaves, when no position is lost.
use Rattle.std.proofs.Common.{◌≡◌, ◌≢◌, ℕ, zero, suc, ◌+◌, ◌<◌, ◌≤◌, Bool, false, List, [], ◌∷◌, length, refl, sym, ap, subst, ◌∙◌, Some, inl, inr, arith}
use Rattle.std.specs.Prelude.{◌||◌, ◌&&◌, not, slice_index_or}
use Rattle.std.specs.List.{list_any}
use Rattle.std.proofs.lemmas.List.{get_or_default}
use Rattle.r6_layout.specs.Shape.{Shape, IsShape}
use Rattle.r6_layout.specs.Layout.{slot_at}
use Rattle.r6_stripe.specs.Bound.{to_come}
use Rattle.r6_stripe.specs.Holds.{Hold, Standing, Cell, Kind, Reading, Event, cell_at, commands, replaced, writing_for, ready_for, after_event}
use Rattle.r6_stripe.specs.Holds.Standing.{InSync, Target, Out}
use Rattle.r6_stripe.specs.Holds.Reading.{Unread, Recalled, Asked, Unreadable, Fixing, Fixed, AskedAgain, Known, Replaced}
use Rattle.r6_stripe.specs.Holds.Writing.{Unwritten}
use Rattle.r6_stripe.specs.Holds.Event.{Asks, Fixes, AsksAgain, Restores, Computes, Writes, Copies, Gives, Fails, Confirms, Mends, Settles, Loses, Moves, Drops}
use Rattle.r6_stripe.specs.Plans.{Planned, any_live, is_out, is_asked, is_asked_again, is_fixing, is_sent, has_read_out, has_write_out, planned_after, planned_at, MayFollow, IsPlanned, IsSilent, AreSilent}
use Rattle.r6_stripe.proofs.Bound.{AreFine, Fine, fewer_to_come}
use Rattle.r6_stripe.proofs.CellsAfter.{Became, cell_after, kind_after, ready_second, size_after, standing_after, width_after}
use Rattle.r6_stripe.proofs.Steps.{step_by_rules}
use Rattle.r6_frames.specs.declared.slots.Slot.{Slot}
use Rattle.r6_frames.specs.declared.frames.HeldRow.{HeldRow}
use Rattle.r6_frames.specs.declared.frames.FrameUse.{FrameUse}
use Rattle.r6_frames.specs.declared.frames.FrameUse.TheVariants.{Free, Held as HeldIn}
use Rattle.r6_frames.specs.Views.{use_at, row_in, hold_at, kind_in}
use Rattle.r6_frames.specs.Owed.{owed_by}
use Rattle.r6_frames.specs.declared.successor.Successor.{Successor}
use Rattle.r6_frames.specs.Successors.{beside_in, is_own}
use Rattle.r6_frames.specs.Slots.{states_of}
use Rattle.r6_world.specs.ShardStates.{generation_in}
use Rattle.r6_frames.specs.Told.{targets}
use Rattle.r6_frames.specs.Sound.{IsHeld, IsSuccessorOf, Stands, IsJob, is_put_out, is_read_put_out, is_write_put_out}
use Rattle.r6_frames.proofs.UnderWay.{under_way_after, under_way_fine}
use Rattle.r6_frames.proofs.Held.{held_within}
use Rattle.r6_stripe.proofs.Finite.{unwritten_new}

-- the use that a read of the list gives
pub use_found : (held : List FrameUse) (frame : ℕ) (got u : FrameUse) → frame < length held → got ≡ slice_index_or held frame got → got ≡ u → use_at held frame ≡ u
use_found held frame got u below value is = get_or_default held frame Free got below ∙ sym value ∙ is

-- the row that a read of the list gives
pub row_found : (held : List FrameUse) (frame : ℕ) (got : FrameUse) (h : HeldRow) → (y : HeldRow) × (hold_at held frame ≡ Some y)
    → got ≡ slice_index_or held frame got → got ≡ HeldIn h → hold_at held frame ≡ Some h
row_found held frame got h there value is = ap row_in (use_found held frame got (HeldIn h) (held_within held frame there.0 there.1) value is)

-- ---- an event, and which buffers are away then

abbrev pub gone_on : HeldRow → Event → List Bool → (apart : Bool) → HeldRow
gone_on h event away apart = record h { hold = record { planned = planned_after h.hold.planned event; away = away; class = h.hold.class; second_away = apart } }

-- an event that takes no device out
abbrev pub IsSteady : Event → Type 0
IsSteady (Loses i) = ⊥
IsSteady (Moves i) = ⊥
IsSteady (Drops i) = ⊥
IsSteady event = record {}

-- a position stands where it stood then, with both devices
pub standing_stays : (hold : Hold) (event : Event) (j : ℕ) → IsSteady event → (cell_at (after_event hold event).cells j).standing ≡ (cell_at hold.cells j).standing
standing_stays hold event j steady =
    elim (standing_after hold event j) [
      | inl same ↦ same
      | inr (inl lost) ↦ absurd (subst IsSteady lost.0 steady)
      | inr (inr gone) ↦ absurd (subst IsSteady gone.0 steady)
    ]

pub second_stays : (hold : Hold) (event : Event) (j : ℕ) → IsSteady event → (cell_at (after_event hold event).cells j).second ≡ (cell_at hold.cells j).second
second_stays hold event j steady =
    elim (cell_after hold event j) [
      | inl same ↦ ap (λ (c : Cell). c.second) same
      | inr became ↦ by_event event steady became
    ]
  where
    by_event : (e : Event) → IsSteady e → Became e j (cell_at hold.cells j) (cell_at (after_event hold event).cells j) → (cell_at (after_event hold event).cells j).second ≡ (cell_at hold.cells j).second
    by_event (Asks i) s b = ap (λ (c : Cell). c.second) b.1
    by_event (Fixes i block) s b = ap (λ (c : Cell). c.second) b.1
    by_event (AsksAgain i) s b = ap (λ (c : Cell). c.second) b.1
    by_event (Restores i block) s b = ap (λ (c : Cell). c.second) b.1
    by_event (Computes new) s b = ap (λ (c : Cell). c.second) b.1.1 ∙ ready_second (cell_at hold.cells j).second (cell_at hold.cells j) b.1.0
    by_event (Writes i block) s b = ap (λ (c : Cell). c.second) b.1
    by_event (Copies i block) s b = ap (λ (c : Cell). c.second) b.1
    by_event (Gives i block) s b = ap (λ (c : Cell). c.second) b.1
    by_event (Fails i) s b = ap (λ (c : Cell). c.second) b.1
    by_event (Confirms i) s b = ap (λ (c : Cell). c.second) b.1
    by_event (Mends i) s b = ap (λ (c : Cell). c.second) b.1
    by_event (Settles i) s b = ap (λ (c : Cell). c.second) b.1
    by_event (Loses i) s b = absurd s
    by_event (Moves i) s b = absurd s
    by_event (Drops i) s b = absurd s

-- what is known of a position's new device, where it stands as it stood
pub successor_stays : (slots : List Slot) (slot : ℕ) (h x : HeldRow) (before later : Cell) → x.successor ≡ h.successor → targets x slot ≡ targets h slot
    → later.standing ≡ before.standing → later.second ≡ before.second → IsSuccessorOf slots slot h before → IsSuccessorOf slots slot x later
successor_stays slots slot h x before later same target standing second is = record {
  beside = λ there. ap (λ (s : Successor). beside_in s slot) same ∙ is.beside (λ out. there (second ∙ out));
  single = λ out. ap (λ (s : Successor). beside_in s slot) same ∙ is.single (sym second ∙ out);
  target = λ targeted. target ∙ is.target (sym standing ∙ targeted);
  second_target = λ targeted. target ∙ is.second_target (sym second ∙ targeted);
  out = λ out. target ∙ is.out (sym standing ∙ out);
  own = λ there. ap (λ (s : Successor). is_own s slot (generation_in (states_of slots slot))) same ∙ is.own (λ out. there (standing ∙ out));
}

pub held_after : (shape : Shape) (shard : ℕ) (slots : List Slot) (h : HeldRow) (event : Event) (away : List Bool) (apart : Bool) → IsHeld shape shard slots h → MayFollow h.hold.planned event
    → IsSteady event → length away ≡ shape.slots
    → ((j : ℕ) → j < shape.slots → (cell_at h.hold.planned.hold.cells j).standing ≢ Out → slice_index_or away j false ≡ is_put_out (cell_at (after_event h.hold.planned.hold event).cells j))
    → ((j : ℕ) → j < shape.slots → (cell_at h.hold.planned.hold.cells j).second ≢ Out → apart ≡ is_sent (cell_at (after_event h.hold.planned.hold event).cells j).copying)
    → IsHeld shape shard slots (gone_on h event away apart)
held_after shape shard slots h event away apart held may steady wide are and_apart =
    let hold = h.hold.planned.hold in
    let stays : (j : ℕ) → (cell_at (after_event hold event).cells j).standing ≡ (cell_at hold.cells j).standing = λ j. standing_stays hold event j steady in
    let second : (j : ℕ) → (cell_at (after_event hold event).cells j).second ≡ (cell_at hold.cells j).second = λ j. second_stays hold event j steady in
    record {
      first = held.first;
      own = held.own;
      job = subst (λ (k : Kind). IsJob shape h.row h.job k) (sym (kind_after hold event)) held.job;
      under_way = under_way_after shape h.hold.planned event held.under_way may;
      size = size_after hold event ∙ held.size;
      wide = width_after hold event ∙ held.wide;
      wide_away = wide;
      standing = λ j below. subst (λ (s : Standing × Standing). Stands shape slots h.row h.job j s) (λ i. (sym (stays j) i, sym (second j) i)) (held.standing j below);
      successor = λ j below. successor_stays slots (slot_at shape h.row j) h (gone_on h event away apart) (cell_at hold.cells j) (cell_at (after_event hold event).cells j) refl refl (stays j) (second j) (held.successor j below);
      away = λ j below not_out. are j below (λ out. not_out (stays j ∙ out));
      second_away = λ j below there. and_apart j below (λ out. there (second j ∙ out));
    }

-- ---- what a hold does by itself puts nothing out, and owes no more commands than before

pub record IsLike (before later : Cell) : Type 0 where
  pub standing : later.standing ≡ before.standing
  -- where the position isn't out, what is put out there is so still: a first read, a second one, a fix, a write
  pub asked : before.standing ≢ Out → is_asked later.reading ≡ is_asked before.reading
  pub again : before.standing ≢ Out → is_asked_again later.reading ≡ is_asked_again before.reading
  pub fixing : before.standing ≢ Out → is_fixing later.reading ≡ is_fixing before.reading
  pub sent : is_sent later.writing ≡ is_sent before.writing
  -- and the second device
  pub second : later.second ≡ before.second
  pub copied : before.second ≢ Out → is_sent later.copying ≡ is_sent before.copying

-- so are a read, and a write or fix
pub like_reads : (before later : Cell) → IsLike before later → before.standing ≢ Out → is_read_put_out later ≡ is_read_put_out before
like_reads before later like not_out = λ i. like.asked not_out i || like.again not_out i

pub like_writes : (before later : Cell) → IsLike before later → before.standing ≢ Out → is_write_put_out later ≡ is_write_put_out before
like_writes before later like not_out = λ i. like.fixing not_out i || like.sent i

pub like_put_out : (before later : Cell) → IsLike before later → before.standing ≢ Out → is_put_out later ≡ is_put_out before
like_put_out before later like not_out = λ i. like_reads before later like not_out i || like_writes before later like not_out i

like_same : (before later : Cell) → later ≡ before → IsLike before later
like_same before later e = record {
  standing = ap (λ (c : Cell). c.standing) e;
  asked = λ not_out. ap (λ (c : Cell). is_asked c.reading) e;
  again = λ not_out. ap (λ (c : Cell). is_asked_again c.reading) e;
  fixing = λ not_out. ap (λ (c : Cell). is_fixing c.reading) e;
  sent = ap (λ (c : Cell). is_sent c.writing) e;
  second = ap (λ (c : Cell). c.second) e;
  copied = λ there. ap (λ (c : Cell). is_sent c.copying) e;
}

like_then : (a b c : Cell) → IsLike a b → IsLike b c → IsLike a c
like_then a b c first second =
    let still : a.standing ≢ Out → b.standing ≢ Out = λ not_out out. not_out (sym first.standing ∙ out) in
    record {
      standing = second.standing ∙ first.standing;
      asked = λ not_out. second.asked (still not_out) ∙ first.asked not_out;
      again = λ not_out. second.again (still not_out) ∙ first.again not_out;
      fixing = λ not_out. second.fixing (still not_out) ∙ first.fixing not_out;
      sent = second.sent ∙ first.sent;
      second = second.second ∙ first.second;
      copied = λ there. second.copied (λ out. there (sym first.second ∙ out)) ∙ first.copied there;
    }

-- a block that gives way to the new one was known
replaced_is : (P : Reading → Bool) → ((block : List ℕ) → P Replaced ≡ P (Known block)) → (r : Reading) → P (replaced r) ≡ P r
replaced_is P known Unread = refl
replaced_is P known Recalled = refl
replaced_is P known Asked = refl
replaced_is P known Unreadable = refl
replaced_is P known Fixing = refl
replaced_is P known Fixed = refl
replaced_is P known AskedAgain = refl
replaced_is P known (Known block) = known block
replaced_is P known Replaced = refl

like_ready : (second : Standing) (before : Cell) (block : List ℕ) → second ≡ before.second → writing_for second before ≡ Unwritten → Fine before → IsLike before (ready_for second before block)
like_ready InSync before block is unwritten fine = record {
  standing = refl;
  asked = λ not_out. replaced_is is_asked (λ b. refl) before.reading;
  again = λ not_out. replaced_is is_asked_again (λ b. refl) before.reading;
  fixing = λ not_out. replaced_is is_fixing (λ b. refl) before.reading;
  sent = sym (ap is_sent unwritten);
  second = refl;
  copied = λ there. sym (ap is_sent (fine.paired (sym is) unwritten));
}
like_ready Target before block is unwritten fine = record {
  standing = refl;
  asked = λ not_out. replaced_is is_asked (λ b. refl) before.reading;
  again = λ not_out. replaced_is is_asked_again (λ b. refl) before.reading;
  fixing = λ not_out. replaced_is is_fixing (λ b. refl) before.reading;
  sent = refl;
  second = refl;
  copied = λ there. sym (ap is_sent unwritten);
}
like_ready Out before block is unwritten fine = record {
  standing = refl;
  asked = λ not_out. replaced_is is_asked (λ b. refl) before.reading;
  again = λ not_out. replaced_is is_asked_again (λ b. refl) before.reading;
  fixing = λ not_out. replaced_is is_fixing (λ b. refl) before.reading;
  sent = sym (ap is_sent unwritten);
  second = refl;
  copied = λ there. absurd (there (sym is));
}

-- a block that is restored is known from then on
like_restored : (before : Cell) (block : List ℕ) → before.standing ≡ Out → IsLike before (record before { reading = Known block })
like_restored before block out =
    record {
      standing = refl;
      asked = λ not_out. absurd (not_out out);
      again = λ not_out. absurd (not_out out);
      fixing = λ not_out. absurd (not_out out);
      sent = refl;
      second = refl;
      copied = λ there. refl;
    }

like_became : (planned : Planned) (event : Event) (j : ℕ) (later : Cell) → AreFine planned.hold.cells → IsSilent event → MayFollow planned event
    → Became event j (cell_at planned.hold.cells j) later → IsLike (cell_at planned.hold.cells j) later
like_became planned (Restores i block) j later fine silent may became =
    let out = (step_by_rules planned (Restores i block) may).out in
    let own : (cell_at planned.hold.cells j).standing ≡ Out = subst (λ (k : ℕ). (cell_at planned.hold.cells k).standing ≡ Out) (sym became.0) out in
    subst (λ (c : Cell). IsLike (cell_at planned.hold.cells j) c) (sym became.1) (like_restored (cell_at planned.hold.cells j) block own)
like_became planned (Computes new) j later fine silent may became =
    let rules = step_by_rules planned (Computes new) may in
    subst (λ (c : Cell). IsLike (cell_at planned.hold.cells j) c) (sym became.1.1)
    (like_ready (cell_at planned.hold.cells j).second (cell_at planned.hold.cells j) became.1.0 refl (unwritten_new planned.hold new j rules.are_new became.0) (fine j))
like_became planned (Asks i) j later fine silent may became = absurd silent
like_became planned (Fixes i block) j later fine silent may became = absurd silent
like_became planned (AsksAgain i) j later fine silent may became = absurd silent
like_became planned (Writes i block) j later fine silent may became = absurd silent
like_became planned (Gives i block) j later fine silent may became = absurd silent
like_became planned (Fails i) j later fine silent may became = absurd silent
like_became planned (Confirms i) j later fine silent may became = absurd silent
like_became planned (Mends i) j later fine silent may became = absurd silent
like_became planned (Copies i block) j later fine silent may became = absurd silent
like_became planned (Settles i) j later fine silent may became = absurd silent
like_became planned (Loses i) j later fine silent may became = absurd silent
like_became planned (Moves i) j later fine silent may became = absurd silent
like_became planned (Drops i) j later fine silent may became = absurd silent

silent_like : (planned : Planned) (event : Event) (j : ℕ) → AreFine planned.hold.cells → IsSilent event → MayFollow planned event
    → IsLike (cell_at planned.hold.cells j) (cell_at (after_event planned.hold event).cells j)
silent_like planned event j fine silent may =
    elim (cell_after planned.hold event j) [
      | inl same ↦ like_same (cell_at planned.hold.cells j) (cell_at (after_event planned.hold event).cells j) same
      | inr became ↦ like_became planned event j (cell_at (after_event planned.hold event).cells j) fine silent may became
    ]

silent_steady : (event : Event) → IsSilent event → IsSteady event
silent_steady (Loses i) silent = absurd silent
silent_steady (Asks i) silent = absurd silent
silent_steady (Fixes i block) silent = absurd silent
silent_steady (AsksAgain i) silent = absurd silent
silent_steady (Restores i block) silent = record {}
silent_steady (Computes new) silent = record {}
silent_steady (Writes i block) silent = absurd silent
silent_steady (Gives i block) silent = absurd silent
silent_steady (Fails i) silent = absurd silent
silent_steady (Confirms i) silent = absurd silent
silent_steady (Mends i) silent = absurd silent
silent_steady (Copies i block) silent = absurd silent
silent_steady (Settles i) silent = absurd silent
silent_steady (Moves i) silent = absurd silent
silent_steady (Drops i) silent = absurd silent

-- an event that may come owes no more than before, and one that puts a command out one less
pub owes_fewer : (planned : Planned) (event : Event) → AreFine planned.hold.cells → MayFollow planned event → commands (event ∷ []) + to_come (after_event planned.hold event).cells ≤ to_come planned.hold.cells
owes_fewer planned event fine may = fewer_to_come planned.hold event fine (step_by_rules planned event may)

pub owes_no_more : (planned : Planned) (event : Event) → AreFine planned.hold.cells → MayFollow planned event → to_come (after_event planned.hold event).cells ≤ to_come planned.hold.cells
owes_no_more planned event fine may = let fewer = owes_fewer planned event fine may in omega arith

-- the row with its hold prepared
abbrev pub prepared : HeldRow → Planned → HeldRow
prepared h planned = record h { hold = record { planned = planned; away = h.hold.away; class = h.hold.class; second_away = h.hold.second_away } }

-- a row, and what its hold has made of it by itself
pub record Prepared (shape : Shape) (shard : ℕ) (slots : List Slot) (old new : HeldRow) : Type 0 where
  pub held : IsHeld shape shard slots new
  pub kind : kind_in new ≡ kind_in old
  pub owes : owed_by new ≤ owed_by old
  pub like : (j : ℕ) → IsLike (cell_at old.hold.planned.hold.cells j) (cell_at new.hold.planned.hold.cells j)

-- a position in sync isn't out
pub home_is : (s : Standing) → s ≢ Out → is_out s ≡ false
home_is InSync not_out = refl
home_is Target not_out = refl
home_is Out not_out = absurd (not_out refl)

pub in_sync_not_out : (s : Standing) → s ≡ InSync → s ≢ Out
in_sync_not_out s in_sync out = absurd (cc)

prepared_once : (shape : Shape) (shard : ℕ) (slots : List Slot) (h : HeldRow) (event : Event) → IsShape shape → IsHeld shape shard slots h → IsSilent event → MayFollow h.hold.planned event
    → Prepared shape shard slots h (prepared h (planned_after h.hold.planned event))
prepared_once shape shard slots h event lawful held silent may =
    let fine = under_way_fine shape h.hold.planned lawful held.under_way in
    let like : (j : ℕ) → IsLike (cell_at h.hold.planned.hold.cells j) (cell_at (after_event h.hold.planned.hold event).cells j) =
    λ j. silent_like h.hold.planned event j fine silent may in
    record {
      held = held_after shape shard slots h event h.hold.away h.hold.second_away held may (silent_steady event silent) held.wide_away
          (λ j below not_out.
          held.away j below not_out
          ∙ sym (like_put_out (cell_at h.hold.planned.hold.cells j) (cell_at (after_event h.hold.planned.hold event).cells j) (like j) not_out))
          (λ j below there. held.second_away j below there ∙ sym ((like j).copied there));
      kind = kind_after h.hold.planned.hold event;
      owes = owes_no_more h.hold.planned event fine may;
      like = like;
    }

pub are_prepared : (shape : Shape) (shard : ℕ) (slots : List Slot) (h : HeldRow) (events : List Event) → IsShape shape → IsHeld shape shard slots h → AreSilent events → IsPlanned h.hold.planned events
    → Prepared shape shard slots h (prepared h (planned_at h.hold.planned events))
are_prepared shape shard slots h [] lawful held silent may =
    record { held = held; kind = refl; owes = omega arith; like = λ j. like_same (cell_at h.hold.planned.hold.cells j) (cell_at h.hold.planned.hold.cells j) refl }
are_prepared shape shard slots h (event ∷ events) lawful held silent may =
    let first = prepared_once shape shard slots h event lawful held silent.0 may.0 in
    let rest = are_prepared shape shard slots (prepared h (planned_after h.hold.planned event)) events lawful first.held silent.1 may.1 in
    record {
      held = rest.held;
      kind = rest.kind ∙ first.kind;
      owes = omega (arith, first.owes, rest.owes);
      like = λ j. like_then (cell_at h.hold.planned.hold.cells j) (cell_at (after_event h.hold.planned.hold event).cells j) (cell_at (planned_at h.hold.planned (event ∷ events)).hold.cells j) (first.like j) (rest.like j);
    }

-- ---- what is put out

pub any_same : (test : Cell → Bool) (old new : List Cell) → length new ≡ length old → ((j : ℕ) → test (cell_at new j) ≡ test (cell_at old j)) → list_any test new ≡ list_any test old
any_same test [] [] wide same = refl
any_same test [] (c ∷ new) wide same = absurd (omega arith)
any_same test (b ∷ old) [] wide same = absurd (omega arith)
any_same test (b ∷ old) (c ∷ new) wide same =
    let rest = any_same test old new (omega arith) (λ j. same (suc j)) in
    let here : test c ≡ test b = same zero in
    λ i. here i || rest i

module _ (shape : Shape) (shard : ℕ) (slots : List Slot) (old new : HeldRow) (held : IsHeld shape shard slots old) (p : Prepared shape shard slots old new) where
  abbrev was : List Cell
  was = old.hold.planned.hold.cells

  abbrev is : List Cell
  is = new.hold.planned.hold.cells

  wide : length is ≡ length was
  wide = p.held.wide ∙ sym held.wide

  -- what is put out is put out still
  pub prepared_out : (has_read_out new.hold.planned.hold || has_write_out new.hold.planned.hold) ≡ (has_read_out old.hold.planned.hold || has_write_out old.hold.planned.hold)
  prepared_out =
      let asked = live_same (λ c. is_asked c.reading) (λ j. (p.like j).asked) in
      let again = live_same (λ c. is_asked_again c.reading) (λ j. (p.like j).again) in
      let fixing = live_same (λ c. is_fixing c.reading) (λ j. (p.like j).fixing) in
      let sent = live_same (λ c. is_sent c.writing) (λ j not_out. (p.like j).sent) in
      let copied =
      any_same (λ cell. not (is_out cell.second) && is_sent cell.copying) was is wide
      (λ j. ap (λ (s : Standing). not (is_out s) && is_sent (cell_at is j).copying) (p.like j).second ∙ out_or (cell_at was j).second (is_sent (cell_at was j).copying) (is_sent (cell_at is j).copying) (p.like j).copied) in
      λ i. (asked i || again i) || (fixing i || (sent i || copied i))
    where
      out_or : (s : Standing) (b c : Bool) → (s ≢ Out → c ≡ b) → (not (is_out s) && c) ≡ (not (is_out s) && b)
      out_or InSync b c same = same (λ e. absurd (cc))
      out_or Target b c same = same (λ e. absurd (cc))
      out_or Out b c same = refl

      live_same : (test : Cell → Bool) → ((j : ℕ) → (cell_at was j).standing ≢ Out → test (cell_at is j) ≡ test (cell_at was j)) → any_live test new.hold.planned.hold ≡ any_live test old.hold.planned.hold
      live_same test same =
          any_same (λ cell. not (is_out cell.standing) && test cell) was is wide
          (λ j. ap (λ (s : Standing). not (is_out s) && test (cell_at is j)) (p.like j).standing ∙ out_or (cell_at was j).standing (test (cell_at was j)) (test (cell_at is j)) (same j))
