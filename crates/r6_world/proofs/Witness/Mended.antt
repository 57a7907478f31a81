-- A direct read meets a read error, and so does the read of the hold that it starts as. The block is fixed from the others,
-- and read again.
use Rattle.std.proofs.Common.{◌≡◌, ℕ, [], ◌∷◌, length, true, false, inr, refl, sym, ◌∙◌, Option, Some, None, subst}
use Rattle.std.proofs.lemmas.Bool.{ne_eqb}
use Rattle.r6_stripe.specs.Holds.{IsQuiet, IsUnasked, MayAsk, MayFix, MayEnd, cell_at, after_event}
use Rattle.r6_stripe.specs.Holds.Kind.{Read as Reads}
use Rattle.r6_stripe.specs.Holds.Standing.{InSync as InPlace, Out}
use Rattle.r6_stripe.specs.Holds.Reading.{Unread, Asked, Fixing, Unreadable}
use Rattle.r6_stripe.specs.Holds.Outcome.{Data as Gave}
use Rattle.r6_stripe.specs.Holds.Event.{Asks, Gives, Fails, Fixes, Mends, AsksAgain}
use Rattle.r6_stripe.specs.Plans.{next, after_error}
use Rattle.r6_world.specs.Tables.{put}
use Rattle.r6_layout.specs.PlainArray.{Block}
use Rattle.r6_world.specs.PlainArray.{Array, Read, Data}
use Rattle.r6_world.specs.Registers.{InSync}
use Rattle.r6_world.specs.Tasks.{ReadFor, Hold, Answered, planned}
use Rattle.r6_world.specs.ShardStates.{Erred, Held, Finished, Released, Command, Shard, Synced, begun}
use Rattle.r6_world.specs.Changes.{Start, Ask, Set_back, Fail, Fix, Ask_again, Confirm, Learn, Finish, Release, after}
use Rattle.r6_world.specs.Steps.{Deliver, Good, Read_error, Taken, Look, Step, AtRest}
use Rattle.r6_world.specs.Worlds.{World}
use Rattle.r6_world.specs.Witness.{small}
use Rattle.r6_world.proofs.Tables.{not_both}
use Rattle.r6_world.proofs.Witness.Pieces.{View, Stands, Reaches, leads, core, reads, writes, faults, handed_out, fetch_in, fetch, store}
use Rattle.r6_world.proofs.Witness.SmallRows.{p, restored_is}
use Rattle.r6_world.proofs.Witness.SmallShards.{no_hold, no_command, but_one, asked, held, on, state, register_with, seen_slots, none_built, entry_is, none_is, put-gone, one_waits_not, held_not, finished_not, released_not, held_rests, free_rests, cell, each, HasNoWrite, no_write, read_held, storing_not_fetch, unwritten_not_sent, n0<1, n0<64, n1<4, n2<4, n3<4, n0≤2}
use Rattle.r6_world.proofs.Witness.OneWrite.{n4≤4}
use Rattle.r6_world.proofs.Witness.Written.{fetched, stored, when_made}
use Rattle.r6_world.proofs.Witness.Erred.{read_out, when_reading}

-- ---- the hold

abbrev begun_hold : Hold
begun_hold = begun small (but_one (Synced 0)) 0 (ReadFor 0 0)

abbrev own_asked : Hold
own_asked = on begun_hold (Asks 0)

abbrev own_erred : Hold
own_erred = record own_asked { course = after_event own_asked.course (Fails 0); plan = after_error own_asked.plan }

abbrev other_asked : Hold
other_asked = on own_erred (Asks 1)

abbrev pub both_asked : Hold
both_asked = on other_asked (Asks 2)

abbrev p_known : (b other : Block) → Hold
p_known b other = on both_asked (Gives 2 (p b other))

abbrev other_known : (b other : Block) → Hold
other_known b other = on (p_known b other) (Gives 1 other)

abbrev fix_sent : (b other : Block) → Hold
fix_sent b other = on (other_known b other) (Fixes 0 b)

abbrev fixed : (b other : Block) → Hold
fixed b other = on (fix_sent b other) (Mends 0)

abbrev pub own_again : (b other : Block) → Hold
own_again b other = on (fixed b other) (AsksAgain 0)

abbrev own_known : (b other : Block) → Hold
own_known b other = on (own_again b other) (Gives 0 b)

-- ---- the states

abbrev read_back : Shard
read_back = state 1 (asked 0 (Read 0) Erred) no_hold 1 no_command (but_one (Synced 0)) [] 0

-- a hold reads for the request, and no slot is lost
abbrev pub held_by : Hold → (tokens : ℕ) → (ℕ → Option Command) → Shard
held_by h tokens command = state 1 (asked 0 (Read 0) (Held 0)) (held h) tokens command (but_one (Synced 0)) [] 0

abbrev own_out : Shard
own_out = held_by own_asked 2 (put no_command 1 (Some (fetch 1 0)))

abbrev pub other_left : ℕ → Option Command
other_left = put no_command 2 (Some (fetch 2 0))

abbrev pub others_out : Shard
others_out = held_by both_asked 4 (put other_left 3 (Some (fetch 3 0)))

abbrev other_out : (b other : Block) → Shard
other_out b other = held_by (p_known b other) 4 other_left

abbrev pub fix_out : (b other : Block) → Shard
fix_out b other = held_by (fix_sent b other) 5 (put no_command 4 (Some (store 1 0 b)))

abbrev pub again_out : (b other : Block) → Shard
again_out b other = held_by (own_again b other) 6 (put no_command 5 (Some (fetch 1 0)))

abbrev read_finished : Block → Shard
read_finished b = state 1 (asked 0 (Read 0) (Finished (Data b))) no_hold 6 no_command (but_one (Synced 0)) [] 0

abbrev read_released : Block → Shard
read_released b = state 1 (asked 0 (Read 0) (Released (Data b))) no_hold 6 no_command (but_one (Synced 0)) [] 0

-- ---- rest, and what a hold puts out

pub hold_rests : (h : Hold) (tokens : ℕ) (command : ℕ → Option Command) → next (planned h) ≡ None
    → (t : ℕ) (c : Command) → command t ≡ Some c → c.abandoned ≡ false → c.frame ≡ 0 → AtRest small 0 (held_by h tokens command)
hold_rests h tokens command nothing t c out waited own =
    held_rests (held_by h tokens command) h refl nothing t c out waited own (one_waits_not 0 (Read 0) (Held 0) (held_not 0)) (none_built (Synced 0) (λ x. x))

-- a hold of a read that has written nothing may read a position in sync
pub may_ask : (h : Hold) (at : ℕ) → h.course.kind ≡ Reads 0 → (cell_at h.course.cells at).standing ≡ InPlace
    → (cell_at h.course.cells at).reading ≡ Unread → ((other : ℕ) → HasNoWrite (cell_at h.course.cells other)) → MayAsk h.course at
may_ask h at kind in_sync unread before = record {
  held = λ e. read_held 0 (sym kind ∙ e);
  in_sync = in_sync;
  unread = subst IsUnasked (sym unread) tt;
  before_writes = before;
}

pub unwritten : (h : Hold) → HasNoWrite (cell h 0) → HasNoWrite (cell h 1) → HasNoWrite (cell h 2) → HasNoWrite (cell h 3)
    → (at : ℕ) → HasNoWrite (cell_at (cell h 0 ∷ cell h 1 ∷ cell h 2 ∷ cell h 3 ∷ []) at)
unwritten h one two three four = each HasNoWrite h one two three four no_write

-- ---- the first error: the read waits to be held, and starts so

abbrev direct_fetched : Command
direct_fetched = record (fetch_in 64 1 0) { taken = true }

abbrev after_back : Shard
after_back = after small (handed_out read_out 0 (fetch_in 64 1 0)) (Set_back 0 direct_fetched 0 0)

is_back : read_back ≡ after_back
is_back = λ i. record read_back {
  request = λ id. entry_is after_back.request 0 (Some (record { op = Read 0; stage = Erred })) refl (λ at ne. rw (ne_eqb at 0 ne) refl) id i;
  command = λ t. sym (put-gone no_command 0 (Some (fetch_in 64 1 0)) (Some direct_fetched) refl t) i;
}

abbrev after_start : Shard
after_start = after small (after small read_back (Start 0 0 (ReadFor 0 0))) (Ask 0 begun_hold 1 0)

is_started : own_out ≡ after_start
is_started = λ i. record own_out {
  request = λ id. entry_is after_start.request 0 (Some (record { op = Read 0; stage = Held 0 })) refl (λ at ne. rw (ne_eqb at 0 ne) refl) id i;
  frame = λ f. entry_is after_start.frame 0 (Some own_asked) refl (λ at ne. rw (ne_eqb at 0 ne) refl) f i;
}

sets_back : Step small 0 (handed_out read_out 0 (fetch_in 64 1 0)) (Deliver 0 Read_error Taken) own_out
sets_back = (
  Set_back 0 direct_fetched 0 0,
  (refl, refl),
  (refl, refl, refl),
  read_back,
  (_, ([], refl), ([], is_back)),
  (
    Start 0 0 (ReadFor 0 0) ∷ Ask 0 begun_hold 1 0 ∷ [],
    (
      record {},
      (
        (n0<64, refl, (λ t c e own. not_both {A = Command} None c refl e)),
        (λ f h e own. not_both {A = Hold} None h refl e),
        (n0<1, refl),
        (n0≤2, refl),
        (inr refl, refl),
        n2<4,
      ),
      (
        record {},
        (
          refl,
          n1<4,
          (refl, refl),
          (n0≤2, refl),
          may_ask begun_hold 0 refl refl refl (unwritten begun_hold no_write no_write no_write no_write),
          refl,
        ),
        is_started,
      ),
    ),
  ),
  hold_rests own_asked 2 (put no_command 1 (Some (fetch 1 0))) refl 1 (fetch 1 0) refl refl refl,
)

-- ---- the second error: the others are read

abbrev after_error_now : Shard
after_error_now =
    after small (after small (after small (handed_out own_out 1 (fetch 1 0)) (Fail 1 (fetched 1 0) own_asked)) (Ask 0 own_erred 2 0)) (Ask 0 other_asked 3 0)

is_erred : others_out ≡ after_error_now
is_erred = λ i. record others_out {
  frame = λ f. entry_is after_error_now.frame 0 (Some both_asked) refl (λ at ne. rw (ne_eqb at 0 ne) refl) f i;
  command = put (put (λ t. sym (put-gone no_command 1 (Some (fetch 1 0)) (Some (fetched 1 0)) refl t) i) 2 (Some (fetch 2 0))) 3 (Some (fetch 3 0));
}

fails : Step small 0 (handed_out own_out 1 (fetch 1 0)) (Deliver 1 Read_error Taken) others_out
fails = (
  Fail 1 (fetched 1 0) own_asked,
  (refl, refl),
  (refl, refl, refl, refl, refl),
  others_out,
  (
    _,
    ([], refl),
    (
      Ask 0 own_erred 2 0 ∷ Ask 0 other_asked 3 0 ∷ [],
      (
        record {},
        (
          refl,
          n2<4,
          (refl, refl),
          (n0≤2, refl),
          may_ask own_erred 1 refl refl refl (unwritten own_erred no_write no_write no_write no_write),
          refl,
        ),
        (
          record {},
          (
            refl,
            n3<4,
            (refl, refl),
            (n0≤2, refl),
            may_ask other_asked 2 refl refl refl (unwritten other_asked no_write no_write no_write no_write),
            refl,
          ),
          is_erred,
        ),
      ),
    ),
  ),
  ([], refl),
  hold_rests both_asked 4 (put other_left 3 (Some (fetch 3 0))) refl 2 (fetch 2 0) refl refl refl,
)

-- ---- P comes, and the other block: the fix is put out

abbrev after_p : (b other : Block) → Shard
after_p b other = after small (handed_out others_out 3 (fetch 3 0)) (Learn 3 (fetched 3 0) both_asked (p b other))

p_learned : (b other : Block) → other_out b other ≡ after_p b other
p_learned b other = λ i. record (other_out b other) {
  frame = λ f. entry_is (after_p b other).frame 0 (Some (p_known b other)) refl (λ at ne. rw (ne_eqb at 0 ne) refl) f i;
  command = λ t. sym (put-gone other_left 3 (Some (fetch 3 0)) (Some (fetched 3 0)) refl t) i;
}

learns_p : (b other : Block) → Step small 0 (handed_out others_out 3 (fetch 3 0)) (Deliver 3 (Good (p b other)) Taken) (other_out b other)
learns_p b other = (
  Learn 3 (fetched 3 0) both_asked (p b other),
  (refl, refl, refl),
  (refl, refl, refl, refl),
  other_out b other,
  (_, ([], refl), ([], p_learned b other)),
  ([], refl),
  hold_rests (p_known b other) 4 other_left refl 2 (fetch 2 0) refl refl refl,
)

may_fix : (b other : Block) → length b ≡ 16 → length other ≡ 16 → MayFix (other_known b other).course 0 b
may_fix b other b-wide other-wide = record {
  held = read_held 0;
  in_sync = refl;
  unreadable = refl;
  before_writes = each HasNoWrite (other_known b other) no_write no_write no_write no_write no_write;
  after_reads = each (λ c. (c.standing ≡ Out → ⊥) → c.reading ≡ Asked → ⊥) (other_known b other) (λ in' e. cc) (λ in' e. cc) (λ in' e. cc) (λ in' e. cc) (λ in' e. cc);
  enough = n4≤4;
  of_first = λ row is. restored_is row b other is.wide is.full b-wide other-wide (is.same 1 other refl) (is.same 2 (p b other) refl);
}

abbrev after_other : (b other : Block) → Shard
after_other b other =
    after small (after small (handed_out (other_out b other) 2 (fetch 2 0)) (Learn 2 (fetched 2 0) (p_known b other) other)) (Fix 0 (other_known b other) 1 0 b)

fix_is_out : (b other : Block) → fix_out b other ≡ after_other b other
fix_is_out b other = λ i. record (fix_out b other) {
  frame = λ f. entry_is (after_other b other).frame 0 (Some (fix_sent b other)) refl (λ at ne. rw (ne_eqb at 0 ne) refl) f i;
  command = put (λ t. sym (put-gone no_command 2 (Some (fetch 2 0)) (Some (fetched 2 0)) refl t) i) 4 (Some (store 1 0 b));
}

learns_other : (b other : Block) → length b ≡ 16 → length other ≡ 16
    → Step small 0 (handed_out (other_out b other) 2 (fetch 2 0)) (Deliver 2 (Good other) Taken) (fix_out b other)
learns_other b other b-wide other-wide = (
  Learn 2 (fetched 2 0) (p_known b other) other,
  (refl, refl, refl),
  (refl, refl, refl, refl),
  fix_out b other,
  (
    _,
    ([], refl),
    (
      Fix 0 (other_known b other) 1 0 b ∷ [],
      (
        record {},
        (
          refl,
          n1<4,
          (refl, refl),
          (n0≤2, refl),
          may_fix b other b-wide other-wide,
          (refl, (λ row is. restored_is row b other is.wide is.full b-wide other-wide (is.same 1 other refl) (is.same 2 (p b other) refl))),
        ),
        fix_is_out b other,
      ),
    ),
  ),
  ([], refl),
  hold_rests (fix_sent b other) 5 (put no_command 4 (Some (store 1 0 b))) refl 4 (store 1 0 b) refl refl refl,
)

-- ---- the fix is confirmed, and the block is read again

abbrev after_fix : (b other : Block) → Shard
after_fix b other =
    after small (after small (handed_out (fix_out b other) 4 (store 1 0 b)) (Confirm 4 (stored 1 0) (fix_sent b other))) (Ask_again 0 (fixed b other) 1 0)

again_is_out : (b other : Block) → again_out b other ≡ after_fix b other
again_is_out b other = λ i. record (again_out b other) {
  frame = λ f. entry_is (after_fix b other).frame 0 (Some (own_again b other)) refl (λ at ne. rw (ne_eqb at 0 ne) refl) f i;
  command = put (λ t. sym (put-gone no_command 4 (Some (store 1 0 b)) (Some (stored 1 0)) refl t) i) 5 (Some (fetch 1 0));
}

confirms_fix : (b other : Block) → Step small 0 (handed_out (fix_out b other) 4 (store 1 0 b)) (Deliver 4 (Good b) Taken) (again_out b other)
confirms_fix b other = (
  Confirm 4 (stored 1 0) (fix_sent b other),
  (refl, refl),
  (refl, refl, refl, storing_not_fetch),
  again_out b other,
  (
    _,
    ([], refl),
    (
      Ask_again 0 (fixed b other) 1 0 ∷ [],
      (
        record {},
        (
          refl,
          n1<4,
          (refl, refl),
          (n0≤2, refl),
          record {
            held = read_held 0;
            in_sync = refl;
            fixed = refl;
            before_writes = each HasNoWrite (fixed b other) no_write no_write no_write no_write no_write;
            after_fixes = each (λ c. (c.standing ≡ Out → ⊥) → c.reading ≡ Fixing → ⊥) (fixed b other) (λ in' e. cc) (λ in' e. cc) (λ in' e. cc) (λ in' e. cc) (λ in' e. cc);
          },
          refl,
        ),
        again_is_out b other,
      ),
    ),
  ),
  ([], refl),
  hold_rests (own_again b other) 6 (put no_command 5 (Some (fetch 1 0))) refl 5 (fetch 1 0) refl refl refl,
)

-- ---- it comes, and the hold ends

may_end : (b other : Block) → MayEnd (own_known b other).course (Gave b)
may_end b other = record {
  quiet =
      each IsQuiet (own_known b other) ((λ in'. (record {}, unwritten_not_sent)), λ there. unwritten_not_sent) ((λ in'. (record {}, unwritten_not_sent)), λ there. unwritten_not_sent)
      ((λ in'. (record {}, unwritten_not_sent)), λ there. unwritten_not_sent) ((λ in'. (record {}, unwritten_not_sent)), λ there. unwritten_not_sent) ((λ in'. (record {}, unwritten_not_sent)), λ there. unwritten_not_sent);
  mended = inr (each (λ c. (c.standing ≡ Out → ⊥) → c.reading ≡ Unreadable → ⊥) (own_known b other) (λ in' e. cc) (λ in' e. cc) (λ in' e. cc) (λ in' e. cc) (λ in' e. cc));
  owes_nothing = refl;
}

abbrev after_again : (b other : Block) → Shard
after_again b other =
    after small (after small (handed_out (again_out b other) 5 (fetch 1 0)) (Learn 5 (fetched 1 0) (own_again b other) b)) (Finish 0 (own_known b other) (Answered b))

ended : (b other : Block) → read_finished b ≡ after_again b other
ended b other = λ i. record (read_finished b) {
  request = λ id. entry_is (after_again b other).request 0 (Some (record { op = Read 0; stage = Finished (Data b) })) refl (λ at ne. rw (ne_eqb at 0 ne) refl) id i;
  frame = λ f. none_is (after_again b other).frame 0 refl (λ at ne. rw (ne_eqb at 0 ne) refl) f i;
  command = λ t. sym (put-gone no_command 5 (Some (fetch 1 0)) (Some (fetched 1 0)) refl t) i;
}

reads_again : (b other : Block) → Step small 0 (handed_out (again_out b other) 5 (fetch 1 0)) (Deliver 5 (Good b) Taken) (read_finished b)
reads_again b other = (
  Learn 5 (fetched 1 0) (own_again b other) b,
  (refl, refl, refl),
  (refl, refl, refl, refl),
  read_finished b,
  (
    _,
    ([], refl),
    (
      Finish 0 (own_known b other) (Answered b) ∷ [],
      (record {}, (refl, may_end b other, (n0≤2, refl), record {}), ended b other),
    ),
  ),
  ([], refl),
  free_rests (read_finished b) (λ f. refl) (one_waits_not 0 (Read 0) (Finished (Data b)) (finished_not (Data b))) (none_built (Synced 0) (λ x. x)),
)

-- ---- a look releases the reply

answered : (b : Block) → read_released b ≡ after small (read_finished b) Release
answered b = λ i. record (read_released b) {
  request = λ id. entry_is (after small (read_finished b) Release).request 0 (Some (record { op = Read 0; stage = Released (Data b) })) refl (λ at ne. rw (ne_eqb at 0 ne) refl) id i;
}

looks : (b : Block) → Step small 0 (read_finished b) (Look (register_with (InSync 0) 0)) (read_released b)
looks b = (
  refl,
  refl,
  read_finished b,
  ([], refl),
  (λ slot inside. seen_slots (Synced 0) (Synced 0) (InSync 0) 0 refl slot),
  (read_finished b, (_, ([], refl), ([], refl)), ([], answered b)),
  free_rests (read_released b) (λ f. refl) (one_waits_not 0 (Read 0) (Released (Data b)) (released_not (Data b))) (none_built (Synced 0) (λ x. x)),
)

-- ---- all together

abbrev when_held : Array → View
when_held array = record (when_made array) { shard = own_out; settled = false }

abbrev pub when_erred : Array → View
when_erred array = record (when_made array) { shard = others_out; settled = false }

abbrev when_p : Array → View
when_p array = record (when_made array) { shard = other_out (array 0) (array 1); used = 3 ∷ []; settled = false }

abbrev pub when_fixing : Array → View
when_fixing array = record (when_made array) { shard = fix_out (array 0) (array 1); used = 2 ∷ 3 ∷ []; settled = false }

abbrev pub when_again : Array → View
when_again array =
    record (when_fixing array) {
      shard = again_out (array 0) (array 1);
      device = Rattle.r6_world.specs.Tables.put_in (when_made array).device 1 0 (array 0);
      used = 4 ∷ 2 ∷ 3 ∷ [];
    }

abbrev when_finished : Array → View
when_finished array = record (when_again array) { shard = read_finished (array 0); used = 5 ∷ 4 ∷ 2 ∷ 3 ∷ [] }

abbrev pub when_mended : Array → View
when_mended array = record (when_finished array) { shard = read_released (array 0); settled = true }

pub meets_two : (array : Array) (w : World) → Stands w (when_reading array) → Reaches small w (λ later. Stands later (when_erred array))
meets_two array w at =
    leads w (when_held array) (λ later. Stands later (when_erred array)) (faults w (when_reading array) at 64 0 1 0 own_out refl n0≤2 sets_back)
    (λ x1 at1. faults x1 (when_held array) at1 0 1 1 0 others_out refl n0≤2 fails)

pub fixes : (array : Array) → length (array 0) ≡ 16 → length (array 1) ≡ 16 → (w : World) → Stands w (when_reading array)
    → Reaches small w (λ later. Stands later (when_fixing array))
fixes array wide other-wide w at =
    leads w (when_erred array) (λ later. Stands later (when_fixing array)) (meets_two array w at)
    (λ x1 at1. leads x1 (when_p array) (λ later. Stands later (when_fixing array)) (reads x1 (when_erred array) at1 3 3 0 (other_out (array 0) (array 1)) refl refl n0≤2 (learns_p (array 0) (array 1)))
    (λ x2 at2. reads x2 (when_p array) at2 2 2 0 (fix_out (array 0) (array 1)) refl refl n0≤2 (learns_other (array 0) (array 1) wide other-wide)))

pub reads_fixed : (array : Array) (w : World) → Stands w (when_fixing array) → Reaches small w (λ later. Stands later (when_again array))
reads_fixed array w at = writes w (when_fixing array) at 4 1 0 (array 0) (again_out (array 0) (array 1)) refl refl n0≤2 (confirms_fix (array 0) (array 1))

pub mends : (array : Array) (w : World) → Stands w (when_fixing array) → Reaches small w (λ later. Stands later (when_mended array))
mends array w at =
    leads w (when_again array) (λ later. Stands later (when_mended array)) (reads_fixed array w at)
    (λ x1 at1. leads x1 (when_finished array) (λ later. Stands later (when_mended array)) (reads x1 (when_again array) at1 5 1 0 (read_finished (array 0)) refl refl n0≤2 (reads_again (array 0) (array 1)))
    (λ x2 at2. core x2 (when_finished array) at2 (Look (register_with (InSync 0) 0)) (read_released (array 0)) n0≤2 (record {}) (sym at2.register_is) (looks (array 0))))
