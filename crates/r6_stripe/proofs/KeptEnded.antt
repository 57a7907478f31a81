-- What a row keeps as a hold ends.
use Rattle.std.proofs.Common.{◌≡◌, ◌⊎◌, inl, inr, ℕ, ◌+◌, ◌≤◌, Bool, true, false, List, [], length, map, refl, sym, ◌∙◌, ap, subst, arith}
use Rattle.std.proofs.lemmas.List.{length-set, length-map}
use Rattle.std.proofs.Math.ListN.{get_or-map}
use Rattle.std.proofs.lemmas.Bool.{cases_lt, or_parts}
use Rattle.r6_recover.specs.Rows.{block_at, data_of, row_of}
use Rattle.r6_stripe.specs.Holds.{Standing, Writing, Cell, Kind, Outcome, fresh, no_cell, cell_at, own_writing, writing_for, rebuilt_in, HasTarget, AreConfirmed, after, after_kind, with_rebuilt, MayEnd, Owes}
use Rattle.r6_stripe.specs.Holds.Standing.{InSync, Target, Out}
use Rattle.r6_stripe.specs.Holds.Reading.{Unread}
use Rattle.r6_stripe.specs.Holds.Writing.{Unwritten, Confirmed}
use Rattle.r6_stripe.specs.Holds.Kind.{Idle, Read, Write, Rebuild, Check, Repair}
use Rattle.r6_stripe.specs.Holds.Outcome.{Data, Done, Rebuilt, Classed, GivenUp}
use Rattle.r6_stripe.specs.RowWorld.{World, device_at, happens}
use Rattle.r6_stripe.specs.RowWorld.Command.{NoCommand}
use Rattle.r6_stripe.specs.RowWorld.Step.{End}
use Rattle.r6_stripe.proofs.Blocks.{kept_by_write, is_index}
use Rattle.r6_stripe.proofs.Sound.{Sound, Live, second_view, cell_set, nothing_there, IsStill, still_first, still_second, IsUnsent, quiet_command, left, rebuilt_there}
use Rattle.r6_stripe.proofs.Kept.{Here, IsMet, Kept, is_before, after_same, reading_set, sound_at, second_at_}

-- a position without a target
no_target : (s t : Standing) → (s ≡ Target) ⊎ (t ≡ Target) → (s ≡ Target → ⊥) → (t ≡ Target → ⊥) → ⊥
no_target s t (inl h) a b = a h
no_target s t (inr h) a b = b h

-- the first device of a position, or the second
abbrev picked : Bool → Cell → Cell
picked true cell = second_view cell
picked false cell = cell

module _ (row : List (List ℕ)) (world : World) (kept : Kept row world) where
  confirmed_unsent : (writing : Writing) → writing ≡ Confirmed → IsUnsent writing → ⊥
  confirmed_unsent writing e (inl h) = let c = sym e ∙ h in cc
  confirmed_unsent writing e (inr h) = let c = sym e ∙ h.1 in cc

  confirmed_in : (pick : Bool) (cell : Cell) → AreConfirmed cell → (picked pick cell).standing ≡ InSync → (picked pick cell).writing ≡ Confirmed
  confirmed_in true cell are in_sync = are.1 in_sync
  confirmed_in false cell are in_sync = are.0 in_sync

  -- a device in sync to which the hold wrote nothing has the same block before and after it
  same_unwritten : (pick : Bool) (kind : Kind) (outcome : Outcome) (i : ℕ) → world.hold.kind ≡ kind → Owes world.hold kind outcome → (picked pick (cell_at world.hold.cells i)).standing ≡ InSync → IsUnsent (picked pick (cell_at world.hold.cells i)).writing →
      block_at row i ≡ block_at (after_kind world.hold kind row) i
  same_unwritten pick Idle outcome i is owes in_sync unwritten = refl
  same_unwritten pick (Read index) outcome i is owes in_sync unwritten = refl
  same_unwritten pick (Write batch) (Data block) i is owes in_sync unwritten = absurd owes
  same_unwritten pick (Write batch) Done i is owes in_sync unwritten =
      elim (is_index i batch) [
        | inl there ↦ absurd (confirmed_unsent _ (confirmed_in pick (cell_at world.hold.cells i) (owes i (inl there)) in_sync) unwritten)
        | inr absent ↦ elim (cases_lt (i + 2) (length row)) [
          | inl below ↦ sym (kept_by_write world.hold.size i batch row (omega (arith, kept.four_or_more)) absent below)
          | inr parity ↦ absurd (confirmed_unsent _ (confirmed_in pick (cell_at world.hold.cells i) (owes i (inr (subst (λ (n : ℕ). n ≤ i + 2) kept.wide parity))) in_sync) unwritten)
        ]
      ]
  same_unwritten pick (Write batch) Rebuilt i is owes in_sync unwritten = absurd owes
  same_unwritten pick (Write batch) Classed i is owes in_sync unwritten = absurd owes
  same_unwritten pick (Write batch) GivenUp i is owes in_sync unwritten = absurd owes
  same_unwritten pick (Rebuild target) outcome i is owes in_sync unwritten = refl
  same_unwritten pick Check outcome i is owes in_sync unwritten = refl
  same_unwritten pick Repair (Data block) i is owes in_sync unwritten = absurd owes
  same_unwritten pick Repair Done i is owes in_sync unwritten = absurd owes
  same_unwritten pick Repair Rebuilt i is owes in_sync unwritten = absurd owes
  same_unwritten pick Repair Classed i is owes in_sync unwritten =
      elim (cases_lt (i + 2) (length row)) [
        | inl below ↦ repaired (kept_by_write world.hold.size i [] row (omega (arith, kept.four_or_more)) (λ h. h) below)
        | inr parity ↦ elim (owes.2 i (subst (λ (n : ℕ). n ≤ i + 2) kept.wide parity)) [
          | inl was ↦ absurd (confirmed_unsent _ (confirmed_in pick (cell_at world.hold.cells i) was in_sync) unwritten)
          | inr same ↦ same row (is_before row world kept) ∙ ap (λ (kind : Kind). block_at (after_kind world.hold kind row) i) is
        ]
      ]
    where
      repaired : block_at (row_of world.hold.size (data_of row)) i ≡ block_at row i → block_at row i ≡ block_at (after_kind world.hold Repair row) i
      repaired e = rw (owes.0) (sym e)
  same_unwritten pick Repair GivenUp i is owes in_sync unwritten =
      elim kept.basis [
        | inl full ↦ ap (λ (r : List (List ℕ)). block_at r i) (after_same (record world.hold { cut_short = true }) world.hold Repair row full refl)
        | inr repairs ↦ absurd (gave_up (or_parts world.hold.cut_short world.hold.met_error repairs.1) owes)
      ]
    where
      gave_up : (world.hold.cut_short ≡ false) × (world.hold.met_error ≡ false) → Owes world.hold Repair GivenUp → ⊥
      gave_up none (inl cut) = let c = none.0 in cc
      gave_up none (inr met) = let c = none.1 in let m = met.0 in cc

  length-with_rebuilt : (kind : Kind) (outcome : Outcome) (cells : List Cell) → length (with_rebuilt kind outcome cells) ≡ length cells
  length-with_rebuilt (Rebuild target) Rebuilt cells = length-set cells target (record no_cell { standing = rebuilt_in (cell_at cells target).standing; second = rebuilt_in (cell_at cells target).second })
  length-with_rebuilt _ _ cells = refl

  module _ (outcome : Outcome) (may : MayEnd world.hold outcome) where
    still : (i : ℕ) → IsStill (cell_at world.hold.cells i)
    still i = still_first (cell_at world.hold.cells i) (may.quiet i)

    still_too : (i : ℕ) → IsStill (second_view (cell_at world.hold.cells i))
    still_too i = still_second (cell_at world.hold.cells i) (may.quiet i)

    no_command_first : (i : ℕ) → (device_at world.devices i).command ≡ NoCommand
    no_command_first i = quiet_command (block_at row i) (block_at kept.next i) (cell_at world.hold.cells i) (device_at world.devices i) (sound_at row world kept i) (still i)

    no_command_second : (i : ℕ) → (device_at world.seconds i).command ≡ NoCommand
    no_command_second i = quiet_command (block_at row i) (block_at kept.next i) (second_view (cell_at world.hold.cells i)) (device_at world.seconds i) (second_at_ row world kept i) (still_too i)

    left_first : (i : ℕ) → Sound (block_at kept.next i) (block_at kept.next i) (fresh (cell_at world.hold.cells i)) (device_at world.devices i)
    left_first i =
        left (block_at row i) (block_at kept.next i) (cell_at world.hold.cells i) (device_at world.devices i) (sound_at row world kept i) (still i)
        (λ in_sync unwritten. same_unwritten false world.hold.kind outcome i refl may.owes_nothing in_sync unwritten ∙ ap (λ (r : List (List ℕ)). block_at r i) kept.next_is)

    left_second : (i : ℕ) → Sound (block_at kept.next i) (block_at kept.next i) (second_view (fresh (cell_at world.hold.cells i))) (device_at world.seconds i)
    left_second i =
        let s = left (block_at row i) (block_at kept.next i) (second_view (cell_at world.hold.cells i)) (device_at world.seconds i) (second_at_ row world kept i) (still_too i)
        (λ in_sync unwritten. same_unwritten true world.hold.kind outcome i refl may.owes_nothing in_sync unwritten ∙ ap (λ (r : List (List ℕ)). block_at r i) kept.next_is) in
        record { known = s.known; abandoned = s.abandoned; live = s.live }

    -- a position as the hold leaves it, but for a rebuilt target
    left_here : (i : ℕ) → Here Idle (block_at kept.next i) (block_at kept.next i) (cell_at (map fresh world.hold.cells) i) (device_at world.devices i) (device_at world.seconds i)
    left_here i =
        rw (get_or-map fresh world.hold.cells i no_cell)
        (record {
          sound = left_first i;
          sound_second = left_second i;
          idle = λ e. (
            record { unread = refl; unwritten = refl; no_command = no_command_first i },
            record { unread = refl; unwritten = refl; no_command = no_command_second i },
          );
          paired = λ in_sync unwritten. refl;
          beside = (kept.here i).beside;
        })

    -- and a rebuilt target
    target_left : (i : ℕ) (s t : Standing) → (cell_at world.hold.cells i).standing ≡ s → (cell_at world.hold.cells i).second ≡ t
        → HasTarget (cell_at world.hold.cells i) → own_writing (cell_at world.hold.cells i) ≡ Confirmed
        → Here Idle (block_at kept.next i) (block_at kept.next i) (record no_cell { standing = rebuilt_in s; second = rebuilt_in t }) (device_at world.devices i) (device_at world.seconds i)
    target_left i InSync InSync is two has done = absurd (no_target (cell_at world.hold.cells i).standing (cell_at world.hold.cells i).second has (λ e. let c = sym is ∙ e in cc) (λ e. let c = sym two ∙ e in cc))
    target_left i InSync Target is two has done =
        let l = left_first i in
        let r = rebuilt_there (block_at row i) (block_at kept.next i) (second_view (cell_at world.hold.cells i)) (device_at world.seconds i) (second_at_ row world kept i) (still_too i) (λ e. let c = sym two ∙ e in cc)
        (subst (λ (t : Standing). writing_for t (cell_at world.hold.cells i) ≡ Confirmed) two done) in
        record {
          sound = record {
            known = l.known;
            abandoned = λ e. absurd (cc);
            live = λ e. subst (λ (s : Standing). Live (block_at kept.next i) (block_at kept.next i) s Unread Unwritten (device_at world.devices i).command (device_at world.devices i).block) is
                (l.live (λ out. let c = sym is ∙ out in cc));
          };
          sound_second = record { known = r.known; abandoned = r.abandoned; live = r.live };
          idle = λ e. (
            record { unread = refl; unwritten = refl; no_command = no_command_first i },
            record { unread = refl; unwritten = refl; no_command = no_command_second i },
          );
          paired = λ in_sync unwritten. refl;
          beside = λ other. absurd (other refl);
        }
    target_left i InSync Out is two has done = absurd (no_target (cell_at world.hold.cells i).standing (cell_at world.hold.cells i).second has (λ e. let c = sym is ∙ e in cc) (λ e. let c = sym two ∙ e in cc))
    target_left i Target t is two has done =
        let none : (cell_at world.hold.cells i).second ≡ Out = (kept.here i).beside (λ e. let c = sym is ∙ e in cc) in
        let r = rebuilt_there (block_at row i) (block_at kept.next i) (cell_at world.hold.cells i) (device_at world.devices i) (sound_at row world kept i) (still i) (λ e. let c = sym is ∙ e in cc)
        (subst (λ (t : Standing). writing_for t (cell_at world.hold.cells i) ≡ Confirmed) none done) in
        let out : rebuilt_in t ≡ Out = ap rebuilt_in (sym two ∙ none) in
        record {
          sound = record { known = r.known; abandoned = r.abandoned; live = r.live };
          sound_second = nothing_there (block_at kept.next i) (block_at kept.next i) _ (device_at world.seconds i) out refl (no_command_second i);
          idle = λ e. (
            record { unread = refl; unwritten = refl; no_command = no_command_first i },
            record { unread = refl; unwritten = refl; no_command = no_command_second i },
          );
          paired = λ in_sync unwritten. refl;
          beside = λ other. out;
        }
    target_left i Out t is two has done =
        let none : (cell_at world.hold.cells i).second ≡ Out = (kept.here i).beside (λ e. let c = sym is ∙ e in cc) in
        absurd (no_target (cell_at world.hold.cells i).standing (cell_at world.hold.cells i).second has (λ e. let c = sym is ∙ e in cc) (λ e. let c = sym none ∙ e in cc))

    ended_here : (kind : Kind) (how : Outcome) → Owes world.hold kind how → (i : ℕ) →
        Here Idle (block_at kept.next i) (block_at kept.next i) (cell_at (with_rebuilt kind how (map fresh world.hold.cells)) i) (device_at world.devices i) (device_at world.seconds i)
    ended_here (Rebuild target) Rebuilt owes i =
        cell_set (λ i. Here Idle (block_at kept.next i) (block_at kept.next i)) (map fresh world.hold.cells) world.devices world.seconds target
        (record no_cell { standing = rebuilt_in (cell_at (map fresh world.hold.cells) target).standing; second = rebuilt_in (cell_at (map fresh world.hold.cells) target).second })
        (kept.equipped ∙ sym (length-map world.hold.cells fresh)) (kept.equipped_twice ∙ sym (length-map world.hold.cells fresh)) left_here
        (rw (get_or-map fresh world.hold.cells target no_cell)
        (target_left target (cell_at world.hold.cells target).standing (cell_at world.hold.cells target).second refl refl owes.0 owes.1))
        i
    ended_here _ _ owes i = left_here i

    fresh_met : (i : ℕ) → IsMet (cell_at (map fresh world.hold.cells) i).reading → false ≡ true
    fresh_met i h = absurd (rw (get_or-map fresh world.hold.cells i no_cell) at h)

    ended_met : (kind : Kind) (how : Outcome) (i : ℕ) → IsMet (cell_at (with_rebuilt kind how (map fresh world.hold.cells)) i).reading → false ≡ true
    ended_met (Rebuild target) Rebuilt =
        reading_set (λ r. IsMet r → false ≡ true) (map fresh world.hold.cells) target
        (record no_cell { standing = rebuilt_in (cell_at (map fresh world.hold.cells) target).standing; second = rebuilt_in (cell_at (map fresh world.hold.cells) target).second }) fresh_met (λ h. absurd h)
    ended_met _ _ = fresh_met

    pub end_kept : Kept (after world.hold row) (happens world (End outcome))
    end_kept =
        let same_length : length (with_rebuilt world.hold.kind outcome (map fresh world.hold.cells)) ≡ length world.hold.cells =
        length-with_rebuilt world.hold.kind outcome (map fresh world.hold.cells) ∙ length-map world.hold.cells fresh in
        subst (λ (r : List (List ℕ)). Kept r (happens world (End outcome))) (sym kept.next_is)
        (record {
          basis = inl kept.next_full;
          next = kept.next;
          next_is = refl;
          next_full = kept.next_full;
          next_wide = kept.next_wide ∙ sym same_length;
          four_or_more = subst (λ (n : ℕ). 4 ≤ n) (kept.wide ∙ sym kept.next_wide) kept.four_or_more;
          sized = kept.next_full.sized;
          wide = kept.next_wide ∙ sym same_length;
          equipped = kept.equipped ∙ sym same_length;
          equipped_twice = kept.equipped_twice ∙ sym same_length;
          met = ended_met world.hold.kind outcome;
          here = ended_here world.hold.kind outcome may.owes_nothing;
        })
