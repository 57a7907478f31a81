-- A frame has let its row go: who waited for the row, or for a frame, is looked at from the oldest on.
use Rattle.std.proofs.Common.{◌≡◌, ◌≢◌, ◌⊎◌, inl, inr, ℕ, ◌<◌, Bool, [], ◌∷◌, ◌++◌, refl, sym, ap, subst, ◌∙◌, Some, None, IfSome, arith, append-nil}
use Rattle.std.specs.Prelude.{◌==◌, ◌||◌}
use Rattle.std.specs.List.{AllByRecursion}
use Rattle.r6_world.specs.Steps.{Through, Scans}
use Rattle.r6_core.specs.declared.queued.Queued.{Queued}
use Rattle.r6_frames.specs.Calls.{IsFreeFrame, IsHolder, NotHeldBy}
use Rattle.r6_frames.specs.Views.{AreLive, hold_at}
use Rattle.r6_waiters.specs.Line.{Entries, Line, all_moved, entries_of, older_of, oldest_moved, oldest_of, with_entries}
use Rattle.r6_core.specs.declared.scan.Room.TheVariants as room
use Rattle.r6_core.specs.declared.state.State.{State}
use Rattle.r6_core.specs.Shards.{layout_in, state_of, waiting_of}
use Rattle.r6_core.specs.Batches.{entries_left}
use Rattle.r6_core.specs.Turns.{wanted_with}
use Rattle.r6_core.specs.Inside.{HasLetGo, HasNoFreeFrame, IsCore, IsFirstToStart, IsSettled, LeavesLine, OnlyStarts, StartsWith, WaitingHaveTurns, Waits, free_frame, row_for}
use Rattle.r6_core.proofs.Joined.{all_left}
use Rattle.r6_core.proofs.Lined.{IsOlderSplit, all_back, all_first, all_then_too, either, neither, older_none, older_split, oldest_neither, split_moved, split_oldest}
use Rattle.r6_core.proofs.Passed.{all-middle, all_last}
use Rattle.r6_core.proofs.Scanned.{HaveHad, IsSameLine, all_had, count_for, fewer_left, had_line, had_waited, moved_all, moved_oldest, none_had, none_starts_now, one_started, same_settled, started_left, started_with, waiting_wait, with_line}
use Rattle.r6_core.proofs.Waking.{CannotStart, WaitsOrWaited, all_cannot, behind_other, behind_own, cannot_begin, else_waits, none_waits_for_it, not_read, wait_for_a_frame}
use Rattle.r6_frames.proofs.Held.{all_append}

-- the line is sorted: some wait for the frame that has taken their row meanwhile
pub record IsSorting (frame : ℕ) (old now : State) : Type 0 where
  pub same : now ≡ with_line old now.waiting
  pub line : IsSameLine old now.waiting
  pub go : HasLetGo frame now

pub sorting_first : (frame : ℕ) (s : State) → HasLetGo frame s → IsSorting frame s s
sorting_first frame s go = record { same = refl; line = record { requests = refl; capacity = refl; causes = refl }; go = go }

-- whether one waits for the frame's row or a frame
abbrev pub is_sorted_by : (frame : ℕ) → ℕ → Bool
is_sorted_by frame cause = (cause == frame) || (cause == free_frame)

module _ (frame : ℕ) (old now : State) (settled : IsSettled old) (live : AreLive old.frames) (is : IsSorting frame old now) where
  pub sorting_settled : IsSettled now
  sorting_settled = subst IsSettled (sym is.same) (same_settled old now.waiting is.line settled)

  pub sorting_live : AreLive now.frames
  sorting_live = subst (λ (x : State). AreLive x.frames) (sym is.same) live

  base : HaveHad old [] (waiting_of now) now []
  base = subst (λ x. HaveHad old [] (waiting_of now) x []) (sym is.same) (had_line old [] (waiting_of now) old [] now.waiting (none_had old settled (waiting_of now)) is.line)

  -- ---- none waits for either

  module _ (none : older_of frame free_frame (entries_of now.waiting) ≡ None) where
    all_wait_now : AllByRecursion (Waits now.frames) (entries_of now.waiting)
    all_wait_now = none_waits_for_it frame now is.go (older_none frame free_frame (entries_of now.waiting) none)

    pub sorted_core : IsCore now
    sorted_core = record { settled = sorting_settled; waits = λ _. all_wait_now }

    pub sorted_had : HaveHad old (waiting_of now) [] now (waiting_of now)
    sorted_had =
        had_waited old [] [] now [] (waiting_of now) (subst (λ rs. HaveHad old [] rs now []) (sym (append-nil (waiting_of now))) base)
        (waiting_wait now sorting_settled.sound) (all_cannot now.frames (entries_of now.waiting) (λ _. all_wait_now))

    pub sorted_turns : WaitingHaveTurns old now
    sorted_turns = all_had old now (waiting_of now) (waiting_of now) sorted_had (sym is.line.requests) refl

  -- ---- the oldest that does

  module _ (cause free : ℕ) (was_free : IsFreeFrame old.frames free) (found : older_of frame free_frame (entries_of now.waiting) ≡ Some cause) where
    is_free : IsFreeFrame now.frames free
    is_free = subst (λ (x : State). IsFreeFrame x.frames free) (sym is.same) was_free

    abbrev split : IsOlderSplit frame free_frame cause (entries_of now.waiting)
    split = older_split frame free_frame cause (entries_of now.waiting) found

    pub is_below : cause < 67
    is_below = elim split.one [ inl e ↦ (let there = is.go.there in omega (arith, e, there)) | inr e ↦ omega (arith, e) ]

    oldest : AllByRecursion (λ entry. entry.0 ≢ cause) split.before
    oldest = oldest_neither frame free_frame cause split.before split.one split.oldest

    oldest_is : oldest_of cause (entries_of now.waiting) ≡ Some split.x
    oldest_is = ap (oldest_of cause) split.entries ∙ split_oldest cause split.before split.x split.behind oldest

    parts : WaitsOrWaited is.go.before now.frames (cause, split.x) × AllByRecursion (WaitsOrWaited is.go.before now.frames) (split.before ++ split.behind)
    parts = all-middle (WaitsOrWaited is.go.before now.frames) split.before (cause, split.x) split.behind
        (subst (AllByRecursion (WaitsOrWaited is.go.before now.frames)) split.entries is.go.waits)

    -- its row is held
    module _ (holder : ℕ) (holds : IfSome (oldest_of cause (entries_of now.waiting)) (λ q. IsHolder now.frames (row_for now.frames q.op) holder)) where
      held : IsHolder now.frames (row_for now.frames split.x.op) holder
      held = subst (λ o. IfSome o (λ q. IsHolder now.frames (row_for now.frames q.op) holder)) oldest_is holds

      pub holder_below : holder < 67
      holder_below = let below = held.0 in omega arith

      abbrev moved : Line Queued
      moved = with_entries now.waiting (oldest_moved cause holder (entries_of now.waiting))

      moved_entries : entries_of moved ≡ split.before ++ (holder, split.x) ∷ split.behind
      moved_entries = ap (oldest_moved cause holder) split.entries ∙ split_moved cause holder split.before split.x split.behind oldest

      pub sorting_on : IsSorting frame old (with_line now moved)
      sorting_on =
          let one = moved_oldest now cause holder in
          let go = is.go in
          record {
            same = ap (λ x. with_line x moved) is.same;
            line = record { requests = one.requests ∙ is.line.requests; capacity = one.capacity ∙ is.line.capacity; causes = one.causes ∙ is.line.causes };
            go = record {
              there = go.there;
              before = go.before;
              like = go.like;
              others = go.others;
              directs = go.directs;
              empty = go.empty;
              waits = subst (AllByRecursion (WaitsOrWaited go.before now.frames)) (sym moved_entries)
                  (all_back (WaitsOrWaited go.before now.frames) split.before (holder, split.x) split.behind
                  (inl (inr (not_read frame now go cause split.x free split.one is_free parts.0, inl held))) parts.1);
            };
          }

      pub sorting_fewer : count_for (is_sorted_by frame) (entries_of moved) < count_for (is_sorted_by frame) (entries_of now.waiting)
      sorting_fewer =
          let test = is_sorted_by frame in
          let apart : holder ≢ frame = λ e. let both : None ≡ Some held.1 = sym is.go.empty ∙ sym (ap (λ at. hold_at now.frames.uses at) e) ∙ held.2 in absurd (cc) in
          let not_free : holder ≢ free_frame = λ e. let below = held.0 in omega arith in
          subst (λ es. count_for test es < count_for test (entries_of now.waiting)) (sym moved_entries)
          (subst (λ es. count_for test (split.before ++ (holder, split.x) ∷ split.behind) < count_for test es) (sym split.entries)
          (fewer_left test cause holder split.x split.before split.behind (either cause frame free_frame split.one) (neither holder frame free_frame apart not_free)))

    -- it isn't: it starts
    module _ (unheld : IfSome (oldest_of cause (entries_of now.waiting)) (λ q. NotHeldBy now.frames (row_for now.frames q.op))) where
      pub sorting_first_to_start : IsFirstToStart now cause (room.Frame free)
      sorting_first_to_start =
          record {
            before = split.before;
            request = split.x;
            behind = split.behind;
            entries = split.entries;
            oldest = oldest;
            can = (
              not_read frame now is.go cause split.x free split.one is_free parts.0,
              (sorting_live, is_free, subst (λ o. IfSome o (λ q. NotHeldBy now.frames (row_for now.frames q.op))) oldest_is unheld),
            );
          }

      module _ (new : State) (new_settled : IsSettled new) (leads : Through (layout_in now) now.frames.shard Scans (state_of now) (state_of new)) (left : LeavesLine now cause new)
          (starts : IfSome (oldest_of cause (entries_of now.waiting)) (λ request. StartsWith (room.Frame free) cause now request new)) (only : OnlyStarts now new) where
        -- those before it can't start
        cannot : AllByRecursion (λ entry. CannotStart now.frames entry.1) split.before
        cannot =
            all_then_too (WaitsOrWaited is.go.before now.frames) (λ entry. (entry.0 ≢ frame) × (entry.0 ≢ free_frame)) (λ entry. CannotStart now.frames entry.1) split.before
            (λ e waits not alive could. cannot_begin now.frames e.0 e.1 (else_waits frame now is.go e.0 e.1 not.0 not.1 waits) alive could)
            (all_first (WaitsOrWaited is.go.before now.frames) split.before split.behind parts.1) split.oldest

        -- those that are left
        abbrev last_behind : Entries Queued
        last_behind = entries_left (wanted_with (layout_in now) split.x.op) split.behind

        has_left : entries_of new.waiting ≡ split.before ++ last_behind
        unfolding sorting_first_to_start
        has_left = started_left now cause (room.Frame free) new sorting_first_to_start left starts sorting_settled cannot

        parts_left : AllByRecursion (WaitsOrWaited is.go.before now.frames) (split.before ++ last_behind)
        parts_left =
            let fact = WaitsOrWaited is.go.before now.frames in
            all_append fact split.before last_behind (all_first fact split.before split.behind parts.1)
            (all_left fact (wanted_with (layout_in now) split.x.op) split.behind (all_last fact split.before split.behind parts.1))

        started : StartsWith (room.Frame free) cause now split.x new
        unfolding sorting_first_to_start
        started = started_with now cause (room.Frame free) new sorting_first_to_start left starts

        -- what the others wait for then
        pub others_wait : (next : ℕ) → ((cause ≡ frame) × (next ≡ free)) ⊎ ((cause ≢ frame) × (next ≡ free_frame))
            → AllByRecursion (Waits new.frames) (all_moved frame next (entries_of new.waiting))
        others_wait next which = subst (λ es. AllByRecursion (Waits new.frames) (all_moved frame next es)) (sym has_left) (elim which [
          | inl own ↦ subst (λ n. AllByRecursion (Waits new.frames) (all_moved frame n (split.before ++ last_behind))) (sym own.1)
              (behind_own frame now is.go split.x free new.frames is_free started.1 started.2 (split.before ++ last_behind)
              (subst (λ n. WaitsOrWaited is.go.before now.frames (n, split.x)) own.0 parts.0) parts_left)
          | inr other ↦ subst (λ n. AllByRecursion (Waits new.frames) (all_moved frame n (split.before ++ last_behind))) (sym other.1)
              (behind_other frame now is.go split.x free new.frames is_free started.1 started.2 (split.before ++ last_behind)
              (subst (λ n. WaitsOrWaited is.go.before now.frames (n, split.x)) (elim split.one [ inl e ↦ absurd (other.0 e) | inr e ↦ e ]) parts.0) parts_left)
        ])

        module _ (next : ℕ) (which : ((cause ≡ frame) × (next ≡ free)) ⊎ ((cause ≢ frame) × (next ≡ free_frame))) where
          abbrev pub last : State
          last = with_line new (with_entries new.waiting (all_moved frame next (entries_of new.waiting)))

          pub last_had : HaveHad old (waiting_of now) [] last (waiting_of new)
          unfolding sorting_first_to_start
          last_had =
              one_started now cause (room.Frame free) new sorting_first_to_start left starts sorting_settled cannot old base new_settled leads only
              (with_entries new.waiting (all_moved frame next (entries_of new.waiting))) (moved_all new frame next) (others_wait next which)

          pub last_core : IsCore last
          last_core = record { settled = last_had.settled; waits = λ _. others_wait next which }

          pub last_turns : WaitingHaveTurns old last
          last_turns = all_had old last (waiting_of now) (waiting_of new) last_had (sym is.line.requests) (moved_all new frame next).requests

-- ---- no frame is free

module _ (frame : ℕ) (s : State) (settled : IsSettled s) (go : HasLetGo frame s) (none : HasNoFreeFrame s.frames) where
  abbrev full : State
  full = with_line s (with_entries s.waiting (all_moved frame free_frame (entries_of s.waiting)))

  pub full_had : HaveHad s (waiting_of s) [] full (waiting_of s)
  full_had = none_starts_now s (with_entries s.waiting (all_moved frame free_frame (entries_of s.waiting))) settled (moved_all s frame free_frame) (wait_for_a_frame frame s go none)

  pub full_core : IsCore full
  full_core = record { settled = full_had.settled; waits = λ _. wait_for_a_frame frame s go none }

  pub full_turns : WaitingHaveTurns s full
  full_turns = all_had s full (waiting_of s) (waiting_of s) full_had refl (moved_all s frame free_frame).requests
