-- One of the requests that wait starts in a free frame.
use Rattle.std.proofs.Common.{◌≡◌, ℕ, ◌+◌, List, ◌∷◌, ◌++◌, length, sym, ap, subst, ◌∙◌, Some, None, arith, length-append}
use Rattle.std.specs.List.{AllByRecursion}
use Rattle.r6_world.specs.Tasks.{Hold}
use Rattle.r6_world.specs.ShardStates.{NotHeld}
use Rattle.r6_core.specs.declared.queued.Queued.{Queued}
use Rattle.r6_frames.specs.declared.frames.Frames.{Frames}
use Rattle.r6_core.specs.declared.state.State.{State}
use Rattle.r6_frames.specs.Views.{hold_at, row_in, Rest, shard_with}
use Rattle.r6_frames.specs.Calls.{IsFreeFrame, NotHeldBy}
use Rattle.r6_core.specs.Shards.{requests_in, waiting_of}
use Rattle.r6_core.specs.declared.scan.Room.{Room}
use Rattle.r6_core.specs.Inside.{CanStart, IsFirstToStart, IsSettled}
use Rattle.r6_waiters.specs.Line.{Line, capacity_of, causes_of, entries_of, oldest_of, with_entries, without_oldest}
use Rattle.r6_core.proofs.Lined.{split_of, split_oldest, split_without, values, values_both, values_split}
use Rattle.r6_core.proofs.Passed.{all-middle}
use Rattle.r6_frames.proofs.Resting.{frame-held}
use Rattle.r6_core.specs.Inside.{IsQueuedOf}

-- ---- the frames of the code are those of the shard

pub not_held : (rest : Rest) (fs : Frames) (row : ℕ) → NotHeldBy fs row → NotHeld (shard_with rest fs) row
not_held rest fs row free frame hold is at =
    let there = frame-held fs frame hold is in
    free frame there.0 there.1 (ap (λ (h : Hold). h.row) there.2 ∙ at)

-- a frame that is free or returning has no row
pub no_row : (fs : Frames) (frame : ℕ) → IsFreeFrame fs frame → hold_at fs.uses frame ≡ None
no_row fs frame free = ap row_in free.1

-- ---- the start of a request that waits

-- the line is left with these
pub record IsLeft (s : State) (rest : List Queued) (line : Line Queued) : Type 0 where
  pub requests : requests_in line ≡ rest
  pub capacity : capacity_of line ≡ capacity_of s.waiting
  pub causes : causes_of line ≡ causes_of s.waiting

abbrev pub with_frames : State → Line Queued → Frames → State
with_frames s line new = record s { waiting = line; frames = new }

pub longer : (before : List Queued) (request : Queued) (behind : List Queued) → length (before ++ request ∷ behind) ≡ length (before ++ behind) + 1
longer before request behind = omega (arith, length-append before (request ∷ behind), length-append before behind)

-- ---- which request starts

-- the oldest that waits for the cause was taken out
module _ (s : State) (cause : ℕ) (with : Room) (first : IsFirstToStart s cause with) (request : Queued) (is : Some request ≡ oldest_of cause (entries_of s.waiting)) where
  first_is : request ≡ first.request
  first_is =
      let both : Some request ≡ Some first.request = is ∙ ap (oldest_of cause) first.entries ∙ split_oldest cause first.before first.request first.behind first.oldest in
      cc

  pub first_items : waiting_of s ≡ values first.before ++ request ∷ values first.behind
  first_items =
      ap values first.entries ∙ values_split first.before cause first.request first.behind ∙ ap (λ r. values first.before ++ r ∷ values first.behind) (sym first_is)

  pub first_can : CanStart s.frames request with
  first_can = subst (λ r. CanStart s.frames r with) (sym first_is) first.can

  pub first_own : IsSettled s → IsQueuedOf s.frames request
  first_own settled =
      (all-middle (IsQueuedOf s.frames) (values first.before) request (values first.behind) (subst (λ rs. AllByRecursion (IsQueuedOf s.frames) rs) first_items settled.sound.requests.waiting)).0

  -- the others are left
  pub first_left : (line : Line Queued) → line ≡ with_entries s.waiting (without_oldest cause (entries_of s.waiting)) → IsLeft s (values first.before ++ values first.behind) line
  first_left line left =
      record {
        requests = ap requests_in left ∙ ap (λ es. values (without_oldest cause es)) first.entries
            ∙ ap values (split_without cause first.before first.request first.behind first.oldest) ∙ values_both first.before first.behind;
        capacity = ap capacity_of left;
        causes = ap causes_of left;
      }

-- the oldest that waits for a cause is one of the shard's
pub oldest_own : (s : State) (cause : ℕ) (request : Queued) → IsSettled s → oldest_of cause (entries_of s.waiting) ≡ Some request → IsQueuedOf s.frames request
oldest_own s cause request settled is =
    let split = split_of cause (entries_of s.waiting) request is in
    (all-middle (IsQueuedOf s.frames) (values split.before) request (values split.behind)
    (subst (AllByRecursion (IsQueuedOf s.frames)) (ap values split.entries ∙ values_split split.before cause request split.behind) settled.sound.requests.waiting)).0

-- there is one
pub first_there : (s : State) (cause : ℕ) (with : Room) → IsFirstToStart s cause with → oldest_of cause (entries_of s.waiting) ≡ None → ⊥
first_there s cause with first none =
    let both : None ≡ Some first.request = sym none ∙ ap (oldest_of cause) first.entries ∙ split_oldest cause first.before first.request first.behind first.oldest in
    cc both
