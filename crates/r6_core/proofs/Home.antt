-- A direct buffer has come home: the oldest that waits for one is read.
use Rattle.std.proofs.Common.{◌≡◌, ◌≢◌, inl, inr, ℕ, ◌<◌, true, false, [], ◌++◌, refl, sym, subst, Option, Some, None, IfSome, Bor, arith}
use Rattle.std.specs.Prelude.{is_some, option_copied}
use Rattle.std.specs.List.{AllByRecursion}
use Rattle.r6_world.specs.ShardStates.{limit}
use Rattle.r6_world.specs.Steps.{Through, Scans}
use Rattle.r6_core.specs.declared.queued.Queued.{Queued}
use Rattle.r6_frames.specs.Reads.{IsFreeDirect}
use Rattle.r6_frames.specs.Views.{AreLive}
use Rattle.r6_waiters.specs.Line.{Entries, entries_of, oldest_of}
use Rattle.r6_core.specs.declared.scan.Room.TheVariants as room
use Rattle.r6_core.specs.declared.state.State.{State}
use Rattle.r6_core.specs.Shards.{layout_in, state_of, waiting_of}
use Rattle.r6_core.specs.Batches.{entries_left}
use Rattle.r6_core.specs.Turns.{wanted_with}
use Rattle.r6_core.specs.Inside.{HasBuffer, HasNoFreeBuffer, IsCore, IsFirstToStart, IsForBuffer, IsSettled, LeavesLine, OnlyStarts, StartsWith, WaitingHaveTurns, Waits, free_buffer}
use Rattle.r6_core.proofs.Joined.{all_left}
use Rattle.r6_core.proofs.Lined.{IsSplit, all_first, all_then_too, none_of, split_of}
use Rattle.r6_core.proofs.Passed.{all-middle, all_last}
use Rattle.r6_core.proofs.Scanned.{HaveHad, all_had, all_wait, none_had, one_started, started_left, started_with}
use Rattle.r6_core.proofs.Waking.{CannotStart, all_cannot, behind_reader, cannot_begin, no_frame_freed, none_waits_for_one, for_buffer_after, wait_for_one}
use Rattle.r6_frames.proofs.Held.{all_append}

pub copied_some : (o : Option (Bor Queued)) → is_some (option_copied o) ≡ is_some o
copied_some None = refl
copied_some (Some request) = refl

none_by : {X : Type 0} (o : Option X) → is_some o ≡ false → o ≡ None
none_by None is = refl
none_by (Some x) is = absurd (cc is)

some_by : {X : Type 0} (o : Option X) → is_some o ≡ true → (x : X) × (o ≡ Some x)
some_by None is = absurd (cc is)
some_by (Some x) is = (x, refl)

module _ (s : State) (settled : IsSettled s) (live : AreLive s.frames) (home : HasBuffer s) where
  still_core : AllByRecursion (Waits s.frames) (entries_of s.waiting) → IsCore s
  still_core waits = record { settled = settled; waits = λ _. waits }

  still_turns : AllByRecursion (Waits s.frames) (entries_of s.waiting) → WaitingHaveTurns s s
  still_turns waits = all_wait s settled (all_cannot s.frames (entries_of s.waiting) (λ _. waits))

  -- none waits for a buffer
  module _ (none : is_some (oldest_of free_buffer (entries_of s.waiting)) ≡ false) where
    none_waits : AllByRecursion (Waits s.frames) (entries_of s.waiting)
    none_waits = none_waits_for_one s home (none_of free_buffer (entries_of s.waiting) (none_by (oldest_of free_buffer (entries_of s.waiting)) none))

    pub none_core : IsCore s
    none_core = still_core none_waits

    pub none_turns : WaitingHaveTurns s s
    none_turns = still_turns none_waits

  -- none is free
  pub full_core : HasNoFreeBuffer s.frames → IsCore s
  full_core none = still_core (wait_for_one s home none)

  pub full_turns : HasNoFreeBuffer s.frames → WaitingHaveTurns s s
  full_turns none = still_turns (wait_for_one s home none)

  -- one waits, and this one is free
  module _ (few : s.frames.commands.next < limit) (some : is_some (oldest_of free_buffer (entries_of s.waiting)) ≡ true) (number : ℕ) (free : IsFreeDirect s.frames number) where
    abbrev reader : Queued
    reader = (some_by (oldest_of free_buffer (entries_of s.waiting)) some).0

    abbrev split : IsSplit free_buffer (entries_of s.waiting) reader
    split = split_of free_buffer (entries_of s.waiting) reader (some_by (oldest_of free_buffer (entries_of s.waiting)) some).1

    parts : Waits home.before (free_buffer, reader) × AllByRecursion (Waits home.before) (split.before ++ split.behind)
    parts = all-middle (Waits home.before) split.before (free_buffer, reader) split.behind (subst (AllByRecursion (Waits home.before)) split.entries home.waits)

    for_one : IsForBuffer s.frames reader
    for_one = elim parts.0 [
      | inl buffer ↦ for_buffer_after home.before s.frames reader home.like buffer.1
      | inr held ↦ elim held.1 [ inl holder ↦ absurd (let below = holder.0 in omega arith) | inr no_frame ↦ absurd (let e = no_frame.0 in omega arith) ]
    ]

    pub reader_first : IsFirstToStart s free_buffer (room.Direct number)
    reader_first =
        record {
          before = split.before;
          request = reader;
          behind = split.behind;
          entries = split.entries;
          oldest = split.oldest;
          can = (for_one.0, (live, for_one.1, (few, free)));
        }

    module _ (new : State) (new_settled : IsSettled new) (leads : Through (layout_in s) s.frames.shard Scans (state_of s) (state_of new)) (left : LeavesLine s free_buffer new)
        (starts : IfSome (oldest_of free_buffer (entries_of s.waiting)) (λ request. StartsWith (room.Direct number) free_buffer s request new)) (only : OnlyStarts s new) where
      cannot : AllByRecursion (λ entry. CannotStart s.frames entry.1) split.before
      cannot =
          all_then_too (Waits home.before) (λ entry. entry.0 ≢ free_buffer) (λ entry. CannotStart s.frames entry.1) split.before
          (λ e waits not alive could. cannot_begin s.frames e.0 e.1 (no_frame_freed s home e waits not) alive could)
          (all_first (Waits home.before) split.before split.behind parts.1) split.oldest

      -- those that are left
      abbrev last_behind : Entries Queued
      last_behind = entries_left (wanted_with (layout_in s) reader.op) split.behind

      has_left : entries_of new.waiting ≡ split.before ++ last_behind
      unfolding reader_first
      has_left = started_left s free_buffer (room.Direct number) new reader_first left starts settled cannot

      parts_left : AllByRecursion (Waits home.before) (split.before ++ last_behind)
      parts_left =
          let fact = Waits home.before in
          all_append fact split.before last_behind (all_first fact split.before split.behind parts.1)
          (all_left fact (wanted_with (layout_in s) reader.op) split.behind (all_last fact split.before split.behind parts.1))

      started : StartsWith (room.Direct number) free_buffer s reader new
      unfolding reader_first
      started = started_with s free_buffer (room.Direct number) new reader_first left starts

      others_wait : AllByRecursion (Waits new.frames) (entries_of new.waiting)
      others_wait = subst (AllByRecursion (Waits new.frames)) (sym has_left)
          (behind_reader s home reader number new.frames free started.1 started.2 (split.before ++ last_behind) parts.0 parts_left)

      pub read_core : IsCore new
      read_core = record { settled = new_settled; waits = λ _. others_wait }

      read_had : HaveHad s (waiting_of s) [] new (waiting_of new)
      unfolding reader_first
      read_had =
          one_started s free_buffer (room.Direct number) new reader_first left starts settled cannot s (none_had s settled (waiting_of s)) new_settled leads only
          new.waiting (record { requests = refl; capacity = refl; causes = refl }) others_wait

      pub read_turns : WaitingHaveTurns s new
      read_turns = all_had s new (waiting_of s) (waiting_of new) read_had refl refl
