-- What a row keeps at each step within a hold.
use Rattle.std.proofs.Common.{◌∷◌, ◌≡◌, ◌≢◌, inl, inr, ℕ, true, List, [], refl, sym, ◌∙◌, ap, subst}
use Rattle.std.proofs.lemmas.Bool.{or_parts}
use Rattle.r6_recover.specs.Rows.{IsFull, block_at}
use Rattle.r6_stripe.specs.Holds.{Standing, Reading, Writing, Cell, cell_at, after_event, ready_for, reading_after, IsReadOver, with_new, made_ready, AreNew, MayAsk, MayFix, MayAskAgain, MayRestore, MayCompute, MayWrite, MayCopy}
use Rattle.r6_stripe.specs.Holds.Standing.{InSync, Target, Out}
use Rattle.r6_stripe.specs.Holds.Reading.{Unread, Recalled, Asked, Unreadable, Fixing, Fixed, AskedAgain, Known, Replaced}
use Rattle.r6_stripe.specs.Holds.Writing.{Unwritten}
use Rattle.r6_stripe.specs.Holds.Kind.{Idle}
use Rattle.r6_stripe.specs.RowWorld.{Command, World, Step, no_device, device_at, answered, settled, confirming, with_command, IsUnperformed, IsPerformed, May, happens, standing_at, second_at, IsInHold}
use Rattle.r6_stripe.specs.RowWorld.Command.{NoCommand, ReadOut, ReadPerformed, WriteOut, WritePerformed}
use Rattle.r6_stripe.specs.Holds.Event.{Confirms}
use Rattle.r6_stripe.specs.RowWorld.Step.{Begin, PutRead, PutFix, PutReadAgain, Restore, Compute, PutWrite, PutCopy, Perform, PerformCopy, Answer, AnswerCopy, Fail, Lose, Move, Drop, Change, ChangeSecond, End}
use Rattle.r6_stripe.proofs.Bound.{length-with_new, first_there, first_written}
use Rattle.r6_stripe.proofs.Steps.{of_first}
use Rattle.r6_stripe.proofs.Sound.{Sound, Live, second_view, cell_set, asked, asked_again, fixing, failed, restored, computed, computed_second, moved_there, nothing_there, sent, done_there, given_back, confirmed, mended, lost_there, changed_there}
use Rattle.r6_stripe.proofs.Kept.{IsMet, Basis, Kept, is_before, reading_set, not_met_replaced, not_met_moved, sound_at, second_at_, HereAt, same_after, keep_all, keep_first, keep_second, keep_device, keep_second_device, keep_cell}

module _ (row : List (List ℕ)) (world : World) (kept : Kept row world) where
  read_kept : (i : ℕ) → MayAsk world.hold i → Kept row (happens world (PutRead i))
  read_kept i may =
      keep_first row world kept i _ _ world.hold.cut_short world.hold.met_error kept.basis (λ h. h) (λ h. absurd h)
      (record {
        sound = asked (block_at row i) (block_at kept.next i) (cell_at world.hold.cells i) (device_at world.devices i) (sound_at row world kept i) may.in_sync (may.before_writes i).0;
        sound_second = second_at_ row world kept i;
        idle = λ e. absurd (may.held e);
        paired = (kept.here i).paired;
        beside = (kept.here i).beside;
      })

  -- a repair that met no read error fixes nothing, so a row with a fix is full
  fix_full : (i : ℕ) → IsMet (cell_at world.hold.cells i).reading → IsFull world.hold.size row
  fix_full i met =
      elim kept.basis [
        | inl full ↦ full
        | inr repairs ↦ absurd (let f = (or_parts world.hold.cut_short world.hold.met_error repairs.1).1 in let e = kept.met i met in cc)
      ]

  is_met : (reading : Reading) → reading ≡ Unreadable → IsMet reading
  is_met reading e = subst IsMet (sym e) tt

  fix_kept : (i : ℕ) (put : List ℕ) → MayFix world.hold i put → Kept row (happens world (PutFix i put))
  fix_kept i put may =
      let met = is_met (cell_at world.hold.cells i).reading may.unreadable in
      keep_first row world kept i _ _ world.hold.cut_short world.hold.met_error kept.basis (λ h. h) (λ h. kept.met i met)
      (record {
        sound = fixing (block_at row i) (block_at kept.next i) (cell_at world.hold.cells i) (device_at world.devices i) put (sound_at row world kept i) may.in_sync (may.before_writes i).0
            (sym (may.of_first row (of_first world.hold row (is_before row world kept) (fix_full i met))));
        sound_second = second_at_ row world kept i;
        idle = λ e. absurd (may.held e);
        paired = (kept.here i).paired;
        beside = (kept.here i).beside;
      })

  again_kept : (i : ℕ) → MayAskAgain world.hold i → Kept row (happens world (PutReadAgain i))
  again_kept i may =
      keep_first row world kept i _ _ world.hold.cut_short world.hold.met_error kept.basis (λ h. h) (λ h. kept.met i (subst IsMet (sym may.fixed) tt))
      (record {
        sound = asked_again (block_at row i) (block_at kept.next i) (cell_at world.hold.cells i) (device_at world.devices i) (sound_at row world kept i) may.in_sync (may.before_writes i).0;
        sound_second = second_at_ row world kept i;
        idle = λ e. absurd (may.held e);
        paired = (kept.here i).paired;
        beside = (kept.here i).beside;
      })

  fail_kept : (i : ℕ) → Basis (happens world (Fail i)).hold row → May world (Fail i) → Kept row (happens world (Fail i))
  fail_kept i basis may =
      keep_first row world kept i _ _ world.hold.cut_short true basis (λ h. refl) (λ h. refl)
      (record {
        sound = failed (block_at row i) (block_at kept.next i) (cell_at world.hold.cells i) (device_at world.devices i) (sound_at row world kept i) may.0;
        sound_second = second_at_ row world kept i;
        idle = λ e. absurd (let u = ((kept.here i).idle e).0.unread in let a = may.1 in cc);
        paired = (kept.here i).paired;
        beside = (kept.here i).beside;
      })

  restore_kept : (i : ℕ) (block : List ℕ) → MayRestore world.hold i block → Kept row (happens world (Restore i block))
  restore_kept i block may =
      keep_cell row world kept i _ (λ h. absurd h)
      (record {
        sound = restored (block_at row i) (block_at kept.next i) (cell_at world.hold.cells i) (device_at world.devices i) block (sound_at row world kept i) may.out (may.was row (is_before row world kept));
        sound_second = second_at_ row world kept i;
        idle = λ e. absurd (may.held e);
        paired = (kept.here i).paired;
        beside = (kept.here i).beside;
      })

  paired_ready : (cell : Cell) (put : List ℕ) → (made_ready cell put).second ≡ InSync → (made_ready cell put).writing ≡ Unwritten → (made_ready cell put).copying ≡ Unwritten
  paired_ready cell put = by_second cell.second refl
    where
      by_second : (s : Standing) → cell.second ≡ s → (ready_for s cell put).second ≡ InSync → (ready_for s cell put).writing ≡ Unwritten → (ready_for s cell put).copying ≡ Unwritten
      by_second InSync is e w = absurd (cc)
      by_second Target is e w = absurd (let c = sym is ∙ e in cc)
      by_second Out is e w = absurd (cc)

  beside_ready : (cell : Cell) (put : List ℕ) → (cell.standing ≢ InSync → cell.second ≡ Out) → (made_ready cell put).standing ≢ InSync → (made_ready cell put).second ≡ Out
  beside_ready cell put was = by_second cell.second
    where
      by_second : (s : Standing) → (ready_for s cell put).standing ≢ InSync → (ready_for s cell put).second ≡ Out
      by_second InSync not_in_sync = was not_in_sync
      by_second Target not_in_sync = was not_in_sync
      by_second Out not_in_sync = was not_in_sync

  -- the positions with their new blocks
  new_here : (held : world.hold.kind ≢ Idle) (new : List (ℕ × List ℕ)) → ((other : ℕ) → (cell_at world.hold.cells other).standing ≢ Out → IsReadOver (cell_at world.hold.cells other).reading) → AreNew world.hold new →
      (i : ℕ) → HereAt row world kept i (cell_at (with_new world.hold.cells new) i) (device_at world.devices i) (device_at world.seconds i)
  new_here held [] after_reads are i = kept.here i
  new_here held (entry ∷ rest) after_reads are i =
      let is_new : entry.1 ≡ block_at kept.next entry.0 = sym (are.1 row (is_before row world kept)) ∙ ap (λ (r : List (List ℕ)). block_at r entry.0) kept.next_is in
      cell_set (HereAt row world kept) (with_new world.hold.cells rest) world.devices world.seconds entry.0 (made_ready (cell_at world.hold.cells entry.0) entry.1)
      (kept.equipped ∙ sym (length-with_new world.hold.cells rest)) (kept.equipped_twice ∙ sym (length-with_new world.hold.cells rest)) (new_here held rest after_reads are.3)
      (record {
        sound = computed (block_at row entry.0) (block_at kept.next entry.0) (cell_at world.hold.cells entry.0) (device_at world.devices entry.0) entry.1 (sound_at row world kept entry.0) (after_reads entry.0) are.0 is_new;
        sound_second = computed_second (block_at row entry.0) (block_at kept.next entry.0) (cell_at world.hold.cells entry.0) (device_at world.seconds entry.0) entry.1 (second_at_ row world kept entry.0) are.0 (kept.here entry.0).paired is_new;
        idle = λ e. absurd (held e);
        paired = paired_ready (cell_at world.hold.cells entry.0) entry.1;
        beside = beside_ready (cell_at world.hold.cells entry.0) entry.1 (kept.here entry.0).beside;
      })
      i

  met_ready : (cell : Cell) (put : List ℕ) → IsMet (made_ready cell put).reading → IsMet cell.reading
  met_ready cell put = by_second cell.second
    where
      by_second : (s : Standing) → IsMet (ready_for s cell put).reading → IsMet cell.reading
      by_second InSync h = not_met_replaced cell.reading h
      by_second Target h = not_met_replaced cell.reading h
      by_second Out h = not_met_replaced cell.reading h

  new_met : (new : List (ℕ × List ℕ)) (j : ℕ) → IsMet (cell_at (with_new world.hold.cells new) j).reading → world.hold.met_error ≡ true
  new_met [] = kept.met
  new_met (entry ∷ rest) =
      reading_set (λ r. IsMet r → world.hold.met_error ≡ true) (with_new world.hold.cells rest) entry.0 (made_ready (cell_at world.hold.cells entry.0) entry.1) (new_met rest)
      (λ h. kept.met entry.0 (met_ready (cell_at world.hold.cells entry.0) entry.1 h))

  compute_kept : (new : List (ℕ × List ℕ)) → MayCompute world.hold new → Kept row (happens world (Compute new))
  compute_kept new may = record {
    basis = kept.basis;
    next = kept.next;
    next_is = same_after row world kept (record world.hold { cells = with_new world.hold.cells new }) refl refl kept.basis ∙ kept.next_is;
    next_full = kept.next_full;
    next_wide = kept.next_wide ∙ sym (length-with_new world.hold.cells new);
    four_or_more = kept.four_or_more;
    sized = kept.sized;
    wide = kept.wide ∙ sym (length-with_new world.hold.cells new);
    equipped = kept.equipped ∙ sym (length-with_new world.hold.cells new);
    equipped_twice = kept.equipped_twice ∙ sym (length-with_new world.hold.cells new);
    met = new_met new;
    here = new_here may.held new may.after_reads may.are_new;
  }

  write_kept : (i : ℕ) (put : List ℕ) → MayWrite world.hold i put → Kept row (happens world (PutWrite i put))
  write_kept i put may =
      keep_first row world kept i _ _ world.hold.cut_short world.hold.met_error kept.basis (λ h. h) (kept.met i)
      (record {
        sound =
            let s = sent (block_at row i) (block_at kept.next i) (cell_at world.hold.cells i) (device_at world.devices i) put (sound_at row world kept i) may.not_out may.ready in
            record { known = s.known; abandoned = s.abandoned; live = s.live };
        sound_second = let s = second_at_ row world kept i in record { known = s.known; abandoned = s.abandoned; live = s.live };
        idle = λ e. absurd (may.held e);
        paired = λ in_sync unwritten. absurd (cc);
        beside = (kept.here i).beside;
      })

  copy_kept : (i : ℕ) (put : List ℕ) → MayCopy world.hold i put → Kept row (happens world (PutCopy i put))
  copy_kept i put may =
      let cell = cell_at world.hold.cells i in
      keep_second row world kept i _ _ (kept.met i)
      (record {
        sound = let s = sound_at row world kept i in record { known = s.known; abandoned = s.abandoned; live = s.live };
        sound_second =
            let s = sent (block_at row i) (block_at kept.next i) (second_view cell) (device_at world.seconds i) put (second_at_ row world kept i) (first_there cell.second cell.writing may.second) may.ready in
            record { known = s.known; abandoned = s.abandoned; live = s.live };
        idle = λ e. absurd (may.held e);
        paired = λ in_sync unwritten. absurd (first_written cell.second cell.writing may.second in_sync unwritten);
        beside = (kept.here i).beside;
      })

  none : (command : Command) → command ≡ NoCommand → IsUnperformed command → ⊥
  none NoCommand e out = out
  none ReadOut e out = cc
  none (ReadPerformed given) e out = out
  none (WriteOut put) e out = cc
  none (WritePerformed put) e out = out

  perform_kept : (i : ℕ) → May world (Perform i) → Kept row (happens world (Perform i))
  perform_kept i may =
      keep_device row world kept i _
      (record {
        sound = done_there (block_at row i) (block_at kept.next i) (cell_at world.hold.cells i) (device_at world.devices i).block (device_at world.devices i).command (sound_at row world kept i) may;
        sound_second = second_at_ row world kept i;
        idle = λ e. absurd (none (device_at world.devices i).command ((kept.here i).idle e).0.no_command may);
        paired = (kept.here i).paired;
        beside = (kept.here i).beside;
      })

  perform_copy_kept : (i : ℕ) → May world (PerformCopy i) → Kept row (happens world (PerformCopy i))
  perform_copy_kept i may =
      keep_second_device row world kept i _
      (record {
        sound = sound_at row world kept i;
        sound_second = done_there (block_at row i) (block_at kept.next i) (second_view (cell_at world.hold.cells i)) (device_at world.seconds i).block (device_at world.seconds i).command (second_at_ row world kept i) may;
        idle = λ e. absurd (none (device_at world.seconds i).command ((kept.here i).idle e).1.no_command may);
        paired = (kept.here i).paired;
        beside = (kept.here i).beside;
      })

  answer_kept : (i : ℕ) (command : Command) → (device_at world.devices i).command ≡ command → IsPerformed command →
      Kept row (record { hold = answered world.hold i command; devices = with_command world.devices i NoCommand; seconds = world.seconds })
  answer_kept i NoCommand e may = absurd may
  answer_kept i ReadOut e may = absurd may
  answer_kept i (ReadPerformed given) e may =
      keep_first row world kept i _ _ world.hold.cut_short world.hold.met_error kept.basis (λ h. h) (λ h. absurd h)
      (record {
        sound = given_back (block_at row i) (block_at kept.next i) (cell_at world.hold.cells i) (device_at world.devices i).block given
            (subst (λ (c : Command). Sound (block_at row i) (block_at kept.next i) (cell_at world.hold.cells i) (record { block = (device_at world.devices i).block; command = c })) e (sound_at row world kept i));
        sound_second = second_at_ row world kept i;
        idle = λ h. absurd (let n = ((kept.here i).idle h).0.no_command in cc);
        paired = (kept.here i).paired;
        beside = (kept.here i).beside;
      })
  answer_kept i (WriteOut put) e may = absurd may
  answer_kept i (WritePerformed put) e may = by_reading (cell_at world.hold.cells i).reading refl
    where
      here : Sound (block_at row i) (block_at kept.next i) (cell_at world.hold.cells i) (record { block = (device_at world.devices i).block; command = WritePerformed put })
      here = subst (λ (c : Command). Sound (block_at row i) (block_at kept.next i) (cell_at world.hold.cells i) (record { block = (device_at world.devices i).block; command = c })) e (sound_at row world kept i)

      written : (cell_at world.hold.cells i).reading ≢ Fixing → Kept row (record { hold = after_event world.hold (Confirms i); devices = with_command world.devices i NoCommand; seconds = world.seconds })
      written other =
          keep_first row world kept i _ _ world.hold.cut_short world.hold.met_error kept.basis (λ h. h) (kept.met i)
          (record {
            sound = confirmed (block_at row i) (block_at kept.next i) (cell_at world.hold.cells i) (device_at world.devices i).block put here other;
            sound_second = second_at_ row world kept i;
            idle = λ h. absurd (let n = ((kept.here i).idle h).0.no_command in cc);
            paired = λ in_sync unwritten. absurd (cc);
            beside = (kept.here i).beside;
          })

      by_reading : (reading : Reading) → (cell_at world.hold.cells i).reading ≡ reading → Kept row (record { hold = after_event world.hold (confirming reading i); devices = with_command world.devices i NoCommand; seconds = world.seconds })
      by_reading Fixing r =
          keep_first row world kept i _ _ world.hold.cut_short world.hold.met_error kept.basis (λ h. h) (λ h. kept.met i (subst IsMet (sym r) tt))
          (record {
            sound = mended (block_at row i) (block_at kept.next i) (cell_at world.hold.cells i) (device_at world.devices i).block put here r;
            sound_second = second_at_ row world kept i;
            idle = λ h. absurd (let n = ((kept.here i).idle h).0.no_command in cc);
            paired = (kept.here i).paired;
            beside = (kept.here i).beside;
          })
      by_reading Unread r = written (λ h. cc)
      by_reading Recalled r = written (λ h. cc)
      by_reading Asked r = written (λ h. cc)
      by_reading Unreadable r = written (λ h. cc)
      by_reading Fixed r = written (λ h. cc)
      by_reading AskedAgain r = written (λ h. cc)
      by_reading (Known block) r = written (λ h. cc)
      by_reading Replaced r = written (λ h. cc)

  settle_kept : (i : ℕ) (command : Command) → (device_at world.seconds i).command ≡ command → IsPerformed command →
      Kept row (record { hold = settled world.hold i command; devices = world.devices; seconds = with_command world.seconds i NoCommand })
  settle_kept i NoCommand e may = absurd may
  settle_kept i ReadOut e may = absurd may
  settle_kept i (ReadPerformed given) e may = keep_second_device row world kept i _
      (record {
        sound = sound_at row world kept i;
        sound_second = never_read (cell_at world.hold.cells i).second;
        idle = λ h. absurd (let n = ((kept.here i).idle h).1.no_command in cc);
        paired = (kept.here i).paired;
        beside = (kept.here i).beside;
      })
    where
      -- a second device is never read
      never_read : (s : Standing) → Sound (block_at row i) (block_at kept.next i) (second_view (cell_at world.hold.cells i)) (record (device_at world.seconds i) { command = NoCommand })
      never_read s = record {
        known = (second_at_ row world kept i).known;
        abandoned = λ h. refl;
        live = λ there. absurd (unread (subst (λ (c : Command). Sound (block_at row i) (block_at kept.next i) (second_view (cell_at world.hold.cells i)) (record { block = (device_at world.seconds i).block; command = c })) e (second_at_ row world kept i)) there);
      }
        where
          unread : Sound (block_at row i) (block_at kept.next i) (second_view (cell_at world.hold.cells i)) (record { block = (device_at world.seconds i).block; command = ReadPerformed given }) → (cell_at world.hold.cells i).second ≢ Out → ⊥
          unread sound there = (sound.live there).1
  settle_kept i (WriteOut put) e may = absurd may
  settle_kept i (WritePerformed put) e may =
      let sound = subst (λ (c : Command). Sound (block_at row i) (block_at kept.next i) (second_view (cell_at world.hold.cells i)) (record { block = (device_at world.seconds i).block; command = c })) e (second_at_ row world kept i) in
      keep_second row world kept i _ _ (kept.met i)
      (record {
        sound = let s = sound_at row world kept i in record { known = s.known; abandoned = s.abandoned; live = s.live };
        sound_second =
            let s = confirmed (block_at row i) (block_at kept.next i) (second_view (cell_at world.hold.cells i)) (device_at world.seconds i).block put sound (λ h. cc) in
            record { known = s.known; abandoned = s.abandoned; live = s.live };
        idle = λ h. absurd (let n = ((kept.here i).idle h).1.no_command in cc);
        paired = λ in_sync unwritten.
            absurd (not_both (cell_at world.hold.cells i).copying (sound.live (λ out. let c = sym in_sync ∙ out in cc)) ((kept.here i).paired in_sync unwritten));
        beside = (kept.here i).beside;
      })
    where
      not_both : (w : Writing) → Live (block_at row i) (block_at kept.next i) (cell_at world.hold.cells i).second Unread w (WritePerformed put) (device_at world.seconds i).block → w ≡ Unwritten → ⊥
      not_both w (inl a) b = let c = sym a.0 ∙ b in cc
      not_both w (inr a) b = let c = a.1 in cc

  -- nothing was put out at either device of a position without a hold
  lose_kept : (i : ℕ) (block : List ℕ) → Basis (happens world (Lose i block)).hold row → Kept row (happens world (Lose i block))
  lose_kept i block basis =
      keep_all row world kept i _ _ _ _ world.hold.met_error basis (λ h. h) (kept.met i)
      (record {
        sound =
            let s = lost_there (block_at row i) (block_at kept.next i) (cell_at world.hold.cells i) (device_at world.devices i) block (sound_at row world kept i) in
            record { known = s.known; abandoned = s.abandoned; live = s.live };
        sound_second = nothing_there (block_at row i) (block_at kept.next i) _ no_device refl refl refl;
        idle = λ e. let f = (kept.here i).idle e in (
          record { unread = f.0.unread; unwritten = f.0.unwritten; no_command = refl },
          record { unread = refl; unwritten = f.1.unwritten; no_command = refl },
        );
        paired = λ in_sync unwritten. absurd (cc);
        beside = λ h. refl;
      })

  unread_after : (s : Standing) → reading_after s Unread ≡ Unread
  unread_after InSync = refl
  unread_after Target = refl
  unread_after Out = refl

  move_kept : (i : ℕ) → Kept row (happens world (Move i))
  move_kept i =
      keep_all row world kept i _ _ _ world.hold.cut_short world.hold.met_error kept.basis (λ h. h) (λ h. kept.met i (not_met_moved (cell_at world.hold.cells i).second (cell_at world.hold.cells i).reading h))
      (record {
        sound = moved_there (block_at row i) (block_at kept.next i) (cell_at world.hold.cells i) (device_at world.devices i) (device_at world.seconds i) (sound_at row world kept i) (second_at_ row world kept i);
        sound_second = nothing_there (block_at row i) (block_at kept.next i) _ no_device refl refl refl;
        idle = λ e. let f = (kept.here i).idle e in (
          record { unread = ap (reading_after (cell_at world.hold.cells i).second) f.0.unread ∙ unread_after (cell_at world.hold.cells i).second; unwritten = f.1.unwritten; no_command = f.1.no_command },
          record { unread = refl; unwritten = refl; no_command = refl },
        );
        paired = λ in_sync unwritten. absurd (cc);
        beside = λ h. refl;
      })

  drop_kept : (i : ℕ) → Kept row (happens world (Drop i))
  drop_kept i =
      keep_second row world kept i _ _ (kept.met i)
      (record {
        sound = let s = sound_at row world kept i in record { known = s.known; abandoned = s.abandoned; live = s.live };
        sound_second = nothing_there (block_at row i) (block_at kept.next i) _ no_device refl refl refl;
        idle = λ e. let f = (kept.here i).idle e in (
          record { unread = f.0.unread; unwritten = f.0.unwritten; no_command = f.0.no_command },
          record { unread = refl; unwritten = refl; no_command = refl },
        );
        paired = λ in_sync unwritten. absurd (cc);
        beside = λ h. refl;
      })

  change_kept : (i : ℕ) (block : List ℕ) → standing_at world i ≡ Out → Kept row (happens world (Change i block))
  change_kept i block out =
      keep_device row world kept i _
      (record {
        sound = changed_there (block_at row i) (block_at kept.next i) (cell_at world.hold.cells i) (device_at world.devices i) block (sound_at row world kept i) out;
        sound_second = second_at_ row world kept i;
        idle = λ e. let f = (kept.here i).idle e in (record { unread = f.0.unread; unwritten = f.0.unwritten; no_command = refl }, f.1);
        paired = (kept.here i).paired;
        beside = (kept.here i).beside;
      })

  change_second_kept : (i : ℕ) (block : List ℕ) → second_at world i ≡ Out → Kept row (happens world (ChangeSecond i block))
  change_second_kept i block out =
      keep_second_device row world kept i _
      (record {
        sound = sound_at row world kept i;
        sound_second = changed_there (block_at row i) (block_at kept.next i) (second_view (cell_at world.hold.cells i)) (device_at world.seconds i) block (second_at_ row world kept i) out;
        idle = λ e. let f = (kept.here i).idle e in (f.0, record { unread = refl; unwritten = f.1.unwritten; no_command = refl });
        paired = (kept.here i).paired;
        beside = (kept.here i).beside;
      })

  -- a step within a hold
  pub within_kept : (step : Step) → IsInHold step → Basis (happens world step).hold row → May world step → Kept row (happens world step)
  within_kept (Begin kind) within basis may = absurd within
  within_kept (PutRead i) within basis may = read_kept i may
  within_kept (PutFix i put) within basis may = fix_kept i put may
  within_kept (PutReadAgain i) within basis may = again_kept i may
  within_kept (Restore i block) within basis may = restore_kept i block may
  within_kept (Compute new) within basis may = compute_kept new may
  within_kept (PutWrite i put) within basis may = write_kept i put may
  within_kept (PutCopy i put) within basis may = copy_kept i put may
  within_kept (Perform i) within basis may = perform_kept i may
  within_kept (PerformCopy i) within basis may = perform_copy_kept i may
  within_kept (AnswerCopy i) within basis may = settle_kept i (device_at world.seconds i).command refl may
  within_kept (Move i) within basis may = move_kept i
  within_kept (Drop i) within basis may = drop_kept i
  within_kept (ChangeSecond i block) within basis may = change_second_kept i block may
  within_kept (Answer i) within basis may = answer_kept i (device_at world.devices i).command refl may
  within_kept (Fail i) within basis may = fail_kept i basis may
  within_kept (Lose i block) within basis may = lose_kept i block basis
  within_kept (Change i block) within basis may = change_kept i block may
  within_kept (End outcome) within basis may = absurd within
