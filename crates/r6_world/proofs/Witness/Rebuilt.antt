-- A new device is attached to slot 1, its one row is built, its rebuild completes, and it is read.
use Rattle.std.proofs.Common.{◌≡◌, ◌⊎◌, ℕ, zero, suc, List, [], ◌∷◌, length, Bool, true, false, inl, inr, refl, sym, subst, arith, Option, Some, None, Ok}
use Rattle.std.proofs.lemmas.Bool.{ne_eqb, false≢true}
use Rattle.r6_stripe.specs.Plans.{lacks_new}
use Rattle.r6_stripe.specs.Holds.{IsIndexOf, IsQuiet, MayCompute, MayEnd, cell_at, IsReadOver}
use Rattle.r6_stripe.specs.Holds.Standing.{Out as Absent}
use Rattle.r6_stripe.specs.Holds.Outcome.{Rebuilt as MadeAnew}
use Rattle.r6_stripe.specs.Holds.Kind.{Rebuild as Building_anew, Repair}
use Rattle.r6_stripe.specs.Holds.Reading.{Asked}
use Rattle.r6_stripe.specs.Holds.Writing.{Unwritten}
use Rattle.r6_stripe.specs.Holds.Event.{Asks, Gives, Computes, Writes, Confirms}
use Rattle.r6_world.specs.Tables.{put, put_in}
use Rattle.r6_layout.specs.PlainArray.{Block}
use Rattle.r6_world.specs.PlainArray.{Array, Read, Data}
use Rattle.r6_world.specs.Registers.{InSync, Rebuilding, no_shards, Attach, Generation, Complete}
use Rattle.r6_world.specs.Tasks.{Rebuild, Hold, Rebuilt}
use Rattle.r6_world.specs.ShardStates.{Reading, Finished, Released, Command, Shard, SlotState, Synced, Missing, Building, RebuildOf, begun}
use Rattle.r6_world.specs.Changes.{Accept, Start, Ask, Prepare, Send, Learn, Confirm, Finish, Adopt, Bring_in, Release, Hand_call, AllBuilt, after, Read_direct, Give_direct}
use Rattle.r6_world.specs.Steps.{Submit, Deliver, Good, Taken, Look, Turn_started, Step}
use Rattle.r6_world.specs.Worlds.{World}
use Rattle.r6_world.specs.Witness.{small}
use Rattle.r6_world.proofs.Tables.{put-same, not_both}
use Rattle.r6_world.proofs.Witness.Pieces.{Reaches, View, Stands, leads, quiet, core, reads, reads_in, writes, outside, tells, fetch, fetch_in, store, handed_out}
use Rattle.r6_world.proofs.Witness.SmallRows.{p, restored_is}
use Rattle.r6_world.proofs.Witness.SmallShards.{no_request, no_hold, no_command, but_one, but_one-put, but_one-put_twice, asked, held, on, state, register_with, seen_slots, none_built, entry_is, none_is, put-gone, one_waits_not, none_wait, reading_not, n64<128, n64≤64, finished_not, released_not, held_rests, free_rests, each, HasNoWrite, no_write, rebuild_held, target_not_out, unwritten_not_sent, confirmed_not_sent, storing_not_fetch, n0<1, n0<2, n0<4, n1<4, n2<4, n3<4, n0<64, n0≤2, n1≤2}
use Rattle.r6_world.proofs.Witness.Written.{fetched, stored, when_written}
use Rattle.r6_world.proofs.Witness.Lost.{read_taken, when_restored, before_attach, restored_taken}

-- ---- the attach

abbrev unbuilt : SlotState
unbuilt = Building 1 (λ row. false)

abbrev pub attached : Shard
attached = state 2 no_request no_hold 6 no_command (but_one unbuilt) [] 0

not_built : AllBuilt small 0 unbuilt → ⊥
not_built all = false_not_true (all 0 (n0<1, refl))
  where
    false_not_true : false ≡ true → ⊥
    false_not_true e = cc

taken_in : attached ≡ after small read_taken (Adopt 1 (Rebuilding 1 no_shards))
taken_in = λ i. record attached { slot = λ d. but_one-put Missing unbuilt d i }

sees_device : Step small 0 read_taken (Look (register_with (Rebuilding 1 no_shards) 1)) attached
sees_device = (
  refl,
  refl,
  attached,
  (Adopt 1 (Rebuilding 1 no_shards) ∷ [], (refl, (n1<4, refl), taken_in)),
  (λ slot inside. seen_slots Missing unbuilt (Rebuilding 1 no_shards) 1 refl slot),
  (attached, (_, ([], refl), ([], refl)), ([], refl)),
  free_rests attached (λ f. refl) none_wait (none_built unbuilt not_built),
)

-- ---- the hold

abbrev begun_rebuild : Hold
begun_rebuild = begun small (but_one unbuilt) 0 (Rebuild 1 1)

abbrev other_asked : Hold
other_asked = on begun_rebuild (Asks 1)

abbrev both_asked : Hold
both_asked = on other_asked (Asks 2)

abbrev p_known : (b other : Block) → Hold
p_known b other = on both_asked (Gives 2 (p b other))

abbrev both_known : (b other : Block) → Hold
both_known b other = on (p_known b other) (Gives 1 other)

abbrev new_block : Block → List (ℕ × Block)
new_block b = (0, b) ∷ []

abbrev own_ready : (b other : Block) → Hold
own_ready b other = on (both_known b other) (Computes (new_block b))

abbrev own_sent : (b other : Block) → Hold
own_sent b other = on (own_ready b other) (Writes 0 b)

abbrev own_confirmed : (b other : Block) → Hold
own_confirmed b other = on (own_sent b other) (Confirms 0)

-- ---- the states

abbrev other_left : ℕ → Option Command
other_left = put no_command 6 (Some (fetch 2 0))

abbrev both_left : ℕ → Option Command
both_left = put other_left 7 (Some (fetch 3 0))

abbrev both_reads_out : Shard
both_reads_out = state 2 no_request (held both_asked) 8 both_left (but_one unbuilt) [] 0

abbrev one_read_out : (b other : Block) → Shard
one_read_out b other = state 2 no_request (held (p_known b other)) 8 other_left (but_one unbuilt) [] 0

abbrev write_out : (b other : Block) → Shard
write_out b other = state 2 no_request (held (own_sent b other)) 9 (put no_command 8 (Some (store 1 1 b))) (but_one unbuilt) [] 0

abbrev row_built : Shard
row_built = state 2 no_request no_hold 9 no_command (but_one (Synced 1)) (RebuildOf 1 1 ∷ []) 1

abbrev pub rebuild_told : Shard
rebuild_told = state 2 no_request no_hold 9 no_command (but_one (Synced 1)) [] 1

-- ---- a turn begins the rebuild of the row

abbrev after_turn : Shard
after_turn = after small (after small (after small attached (Start 0 0 (Rebuild 1 1))) (Ask 0 begun_rebuild 2 0)) (Ask 0 other_asked 3 0)

begun_anew : both_reads_out ≡ after_turn
begun_anew = λ i. record both_reads_out { frame = λ f. entry_is after_turn.frame 0 (Some both_asked) refl (λ at ne. rw (ne_eqb at 0 ne) refl) f i }

turns : Step small 0 attached (Turn_started (Rebuild 1 1)) both_reads_out
turns = (
  record {},
  0,
  0,
  (
    (n0<64, refl, (λ t c e own. not_both {A = Command} None c refl e)),
    (λ f h e own. not_both {A = Hold} None h refl e),
    (n0<1, refl),
    (n1≤2, refl),
    (n1<4, (λ row. false), (refl, refl), refl),
    (n0<4, refl),
  ),
  (
    Ask 0 begun_rebuild 2 0 ∷ Ask 0 other_asked 3 0 ∷ [],
    (
      record {},
      (refl, n2<4, (refl, refl), (n1≤2, refl), record { held = rebuild_held 0; in_sync = refl; unread = tt; before_writes = each HasNoWrite begun_rebuild no_write no_write no_write no_write no_write }, refl),
      (
        record {},
        (refl, n3<4, (refl, refl), (n1≤2, refl), record { held = rebuild_held 0; in_sync = refl; unread = tt; before_writes = each HasNoWrite other_asked no_write no_write no_write no_write no_write }, refl),
        begun_anew,
      ),
    ),
  ),
  held_rests both_reads_out both_asked refl refl 6 (fetch 2 0) refl refl refl none_wait (none_built unbuilt not_built),
)

abbrev after_p : (b other : Block) → Shard
after_p b other = after small (handed_out both_reads_out 7 (fetch 3 0)) (Learn 7 (fetched 3 0) both_asked (p b other))

p_learned : (b other : Block) → one_read_out b other ≡ after_p b other
p_learned b other = λ i. record (one_read_out b other) {
  frame = λ f. entry_is (after_p b other).frame 0 (Some (p_known b other)) refl (λ at ne. rw (ne_eqb at 0 ne) refl) f i;
  command = λ t. sym (put-gone other_left 7 (Some (fetch 3 0)) (Some (fetched 3 0)) refl t) i;
}

learns_p : (b other : Block) → Step small 0 (handed_out both_reads_out 7 (fetch 3 0)) (Deliver 7 (Good (p b other)) Taken) (one_read_out b other)
learns_p b other = (
  Learn 7 (fetched 3 0) both_asked (p b other),
  (refl, refl, refl),
  (refl, refl, refl, refl),
  one_read_out b other,
  (_, ([], refl), ([], p_learned b other)),
  ([], refl),
  held_rests (one_read_out b other) (p_known b other) refl refl 6 (fetch 2 0) refl refl refl none_wait (none_built unbuilt not_built),
)

-- ---- the block is computed and written

no_repair : Building_anew 0 ≡ Repair → ⊥
no_repair e = cc

-- the plan wants a new block for just this position
follows : (b other : Block) (at : ℕ) → lacks_new (both_known b other).course at ≡ true → IsIndexOf at (new_block b)
follows b other zero e = inl refl
follows b other (suc zero) e = absurd (false≢true e)
follows b other (suc (suc zero)) e = absurd (false≢true e)
follows b other (suc (suc (suc zero))) e = absurd (false≢true e)
follows b other (suc (suc (suc (suc at)))) e = absurd (false≢true e)

-- and only this position gets one
only : (b other : Block) (at : ℕ) → IsIndexOf at (new_block b) → (lacks_new (both_known b other).course at ≡ true) ⊎ ((cell_at (both_known b other).course.cells at).standing ≡ Absent)
only b other at (inl same) = inl (subst (λ (k : ℕ). lacks_new (both_known b other).course k ≡ true) same refl)
only b other at (inr none) = absurd none

may_compute : (b other : Block) → length b ≡ 16 → length other ≡ 16 → MayCompute (both_known b other).course (new_block b)
may_compute b other b-wide other-wide = record {
  held = rebuild_held 0;
  after_reads =
      each (λ c. (c.standing ≡ Absent → ⊥) → IsReadOver c.reading) (both_known b other) (λ in'. record {}) (λ in'. record {})
      (λ in'. record {}) (λ in'. record {}) (λ in'. record {});
  are_new = (
    refl,
    (λ row is. restored_is row b other is.wide (is.full no_repair) b-wide other-wide (is.same 1 other refl) (is.same 2 (p b other) refl)),
    refl,
    tt,
  );
}

abbrev after_other : (b other : Block) → Shard
after_other b other =
    after small (after small (after small (handed_out (one_read_out b other) 6 (fetch 2 0)) (Learn 6 (fetched 2 0) (p_known b other) other)) (Prepare 0 (both_known b other) (Computes (new_block b))))
    (Send 0 (own_ready b other) 1 1 b)

computed : (b other : Block) → write_out b other ≡ after_other b other
computed b other = λ i. record (write_out b other) {
  frame = λ f. entry_is (after_other b other).frame 0 (Some (own_sent b other)) refl (λ at ne. rw (ne_eqb at 0 ne) refl) f i;
  command = put (λ t. sym (put-gone no_command 6 (Some (fetch 2 0)) (Some (fetched 2 0)) refl t) i) 8 (Some (store 1 1 b));
}

learns : (b other : Block) → length b ≡ 16 → length other ≡ 16 → Step small 0 (handed_out (one_read_out b other) 6 (fetch 2 0)) (Deliver 6 (Good other) Taken) (write_out b other)
learns b other b-wide other-wide = (
  Learn 6 (fetched 2 0) (p_known b other) other,
  (refl, refl, refl),
  (refl, refl, refl, refl),
  write_out b other,
  (
    _,
    ([], refl),
    (
      Prepare 0 (both_known b other) (Computes (new_block b)) ∷ Send 0 (own_ready b other) 1 1 b ∷ [],
      (
        record {},
        (refl, (n1≤2, refl), record {}, may_compute b other b-wide other-wide, (refl, (may_compute b other b-wide other-wide).are_new, follows b other, only b other)),
        (
          record {},
          (
            refl,
            n1<4,
            inr ((λ row. false), refl, (refl, refl)),
            (n1≤2, refl),
            record { held = rebuild_held 0; not_out = target_not_out; after_read = record {}; ready = refl },
            (refl, refl),
            refl,
          ),
          computed b other,
        ),
      ),
    ),
  ),
  ([], refl),
  held_rests (write_out b other) (own_sent b other) refl refl 8 (store 1 1 b) refl refl refl none_wait (none_built unbuilt not_built),
)

-- ---- the write is confirmed, and the slot comes in

abbrev built : ℕ → Bool
built = put (λ row. false) 0 true

all_built : AllBuilt small 0 (Building 1 built)
all_built row own = put-same (λ other. false) 0 true row (omega (arith, own.0))

may_end : (b other : Block) → MayEnd (own_confirmed b other).course MadeAnew
may_end b other = record {
  quiet =
      each IsQuiet (own_confirmed b other) ((λ in'. (record {}, confirmed_not_sent)), λ there. unwritten_not_sent) ((λ in'. (record {}, unwritten_not_sent)), λ there. unwritten_not_sent)
      ((λ in'. (record {}, unwritten_not_sent)), λ there. unwritten_not_sent) ((λ in'. (record {}, unwritten_not_sent)), λ there. unwritten_not_sent) ((λ in'. (record {}, unwritten_not_sent)), λ there. unwritten_not_sent);
  mended = inr (each (λ c. (c.standing ≡ Rattle.r6_stripe.specs.Holds.Standing.Out → ⊥) → c.reading ≡ Rattle.r6_stripe.specs.Holds.Reading.Unreadable → ⊥) (own_confirmed b other) (λ in' e. cc) (λ in' e. cc) (λ in' e. cc) (λ in' e. cc) (λ in' e. cc));
  owes_nothing = (inl refl, refl);
}

abbrev after_own : (b other : Block) → Shard
after_own b other =
    after small (after small (after small (handed_out (write_out b other) 8 (store 1 1 b)) (Confirm 8 (stored 1 1) (own_sent b other))) (Finish 0 (own_confirmed b other) Rebuilt)) (Bring_in 1 1)

came_in : (b other : Block) → row_built ≡ after_own b other
came_in b other = λ i. record row_built {
  frame = λ f. none_is (after_own b other).frame 0 refl (λ at ne. rw (ne_eqb at 0 ne) refl) f i;
  command = λ t. sym (put-gone no_command 8 (Some (store 1 1 b)) (Some (stored 1 1)) refl t) i;
  slot = λ d. but_one-put_twice unbuilt (Building 1 built) (Synced 1) d i;
}

confirms : (b other : Block) → Step small 0 (handed_out (write_out b other) 8 (store 1 1 b)) (Deliver 8 (Good b) Taken) row_built
confirms b other = (
  Confirm 8 (stored 1 1) (own_sent b other),
  (refl, refl),
  (refl, refl, refl, storing_not_fetch),
  row_built,
  (
    _,
    ([], refl),
    (
      Finish 0 (own_confirmed b other) Rebuilt ∷ Bring_in 1 1 ∷ [],
      (
        record {},
        (refl, may_end b other, (n1≤2, refl), ((λ row. false), (refl, refl))),
        (record {}, (built, (refl, refl), all_built, (n1≤2, refl)), came_in b other),
      ),
    ),
  ),
  ([], refl),
  free_rests row_built (λ f. refl) none_wait (none_built (Synced 1) (λ x. x)),
)

-- ---- the report, and a look at the answer

abbrev telling : Shard
telling = after small row_built (Hand_call (RebuildOf 1 1) [])

sees_sync : Step small 0 rebuild_told (Look (register_with (InSync 1) 1)) rebuild_told
sees_sync = (
  refl,
  refl,
  rebuild_told,
  ([], refl),
  (λ slot inside. seen_slots (Synced 1) (Synced 1) (InSync 1) 1 refl slot),
  (rebuild_told, (_, ([], refl), ([], refl)), ([], refl)),
  free_rests rebuild_told (λ f. refl) none_wait (none_built (Synced 1) (λ x. x)),
)

-- ---- a read of the new device

abbrev read_out : Shard
read_out = state 3 (asked 2 (Read 0) (Reading 9)) no_hold 10 (put no_command 9 (Some (fetch_in 64 1 1))) (but_one (Synced 1)) [] 1

abbrev read_finished : Block → Shard
read_finished b = state 3 (asked 2 (Read 0) (Finished (Data b))) no_hold 10 no_command (but_one (Synced 1)) [] 1

abbrev pub read_released : Block → Shard
read_released b = state 3 (asked 2 (Read 0) (Released (Data b))) no_hold 10 no_command (but_one (Synced 1)) [] 1

abbrev after_submit : Shard
after_submit = after small (after small rebuild_told (Accept (Read 0))) (Read_direct 64 2 0 1)

submitted : read_out ≡ after_submit
submitted = λ i. record read_out {
  request = λ id. entry_is after_submit.request 2 (Some (record { op = Read 0; stage = Reading 9 })) refl (λ at ne. rw (ne_eqb at 2 ne) refl) id i;
}

submits : Step small 0 rebuild_told (Submit (Read 0) 2) read_out
submits = (
  refl,
  (n0<2, record {}, refl, refl),
  (
    Read_direct 64 2 0 1 ∷ [],
    (
      record {},
      ((n64≤64, n64<128, (λ t c e own. not_both {A = Command} None c refl e)), refl, (n0<1, refl), n1<4, (refl, refl), (n0≤2, refl), omega arith, (λ p. not_both {A = Hold} None p.1 refl p.2)),
      submitted,
    ),
  ),
  free_rests read_out (λ f. refl) (one_waits_not 2 (Read 0) (Reading 9) (reading_not 9)) (none_built (Synced 1) (λ x. x)),
)

abbrev own_fetched : Command
own_fetched = record (fetch_in 64 1 1) { taken = true }

abbrev after_read : Block → Shard
after_read b = after small (handed_out read_out 9 (fetch_in 64 1 1)) (Give_direct 9 own_fetched 2 0 b)

read_ended : (b : Block) → read_finished b ≡ after_read b
read_ended b = λ i. record (read_finished b) {
  request = λ id. entry_is (after_read b).request 2 (Some (record { op = Read 0; stage = Finished (Data b) })) refl (λ at ne. rw (ne_eqb at 2 ne) refl) id i;
  command = λ t. sym (put-gone no_command 9 (Some (fetch_in 64 1 1)) (Some own_fetched) refl t) i;
}

gives : (b : Block) → Step small 0 (handed_out read_out 9 (fetch_in 64 1 1)) (Deliver 9 (Good b) Taken) (read_finished b)
gives b = (
  Give_direct 9 own_fetched 2 0 b,
  (refl, refl, refl),
  (refl, refl, refl),
  read_finished b,
  (_, ([], refl), ([], read_ended b)),
  ([], refl),
  free_rests (read_finished b) (λ f. refl) (one_waits_not 2 (Read 0) (Finished (Data b)) (finished_not (Data b))) (none_built (Synced 1) (λ x. x)),
)

answered : (b : Block) → read_released b ≡ after small (read_finished b) Release
answered b = λ i. record (read_released b) {
  request = λ id. entry_is (after small (read_finished b) Release).request 2 (Some (record { op = Read 0; stage = Released (Data b) })) refl (λ at ne. rw (ne_eqb at 2 ne) refl) id i;
}

looks : (b : Block) → Step small 0 (read_finished b) (Look (register_with (InSync 1) 1)) (read_released b)
looks b = (
  refl,
  refl,
  read_finished b,
  ([], refl),
  (λ slot inside. seen_slots (Synced 1) (Synced 1) (InSync 1) 1 refl slot),
  (read_finished b, (_, ([], refl), ([], refl)), ([], answered b)),
  free_rests (read_released b) (λ f. refl) (one_waits_not 2 (Read 0) (Released (Data b)) (released_not (Data b))) (none_built (Synced 1) (λ x. x)),
)

-- ---- all together

abbrev device_there : Array → Block → View
device_there array b = record (before_attach array b) { register = register_with (Rebuilding 1 no_shards) 1; settled = false }

abbrev pub when_attached : Array → Block → View
when_attached array b = record (before_attach array b) { shard = attached; register = register_with (Rebuilding 1 no_shards) 1 }

abbrev when_reading_both : Array → Block → View
when_reading_both array b = record (when_attached array b) { shard = both_reads_out; settled = false }

abbrev when_reading_other : Array → Block → View
when_reading_other array b = record (when_attached array b) { shard = one_read_out b (array 1); used = 7 ∷ 4 ∷ 5 ∷ 1 ∷ 2 ∷ 3 ∷ 0 ∷ []; settled = false }

abbrev when_writing : Array → Block → View
when_writing array b = record (when_attached array b) { shard = write_out b (array 1); used = 6 ∷ 7 ∷ 4 ∷ 5 ∷ 1 ∷ 2 ∷ 3 ∷ 0 ∷ []; settled = false }

abbrev when_built : Array → Block → View
when_built array b =
    record (when_attached array b) {
      shard = row_built;
      device = put_in (when_written array b) 1 1 b;
      used = 8 ∷ 6 ∷ 7 ∷ 4 ∷ 5 ∷ 1 ∷ 2 ∷ 3 ∷ 0 ∷ [];
      settled = false;
    }

abbrev when_told : Array → Block → View
when_told array b = record (when_built array b) { shard = rebuild_told; register = register_with (InSync 1) 1; completed = Some 1 }

abbrev pub when_rebuilt : Array → Block → View
when_rebuilt array b = record (when_told array b) { settled = true }

abbrev when_reading : Array → Block → View
when_reading array b = record (when_told array b) { shard = read_out }

abbrev when_finished : Array → Block → View
when_finished array b = record (when_told array b) { shard = read_finished b; used = 9 ∷ 8 ∷ 6 ∷ 7 ∷ 4 ∷ 5 ∷ 1 ∷ 2 ∷ 3 ∷ 0 ∷ [] }

abbrev pub at_last : Array → Block → View
at_last array b = record (when_finished array b) { shard = read_released b; settled = true }

pub attaches : (array : Array) (b : Block) (w : World) → Stands w (when_restored array b) → Reaches small w (λ later. Stands later (when_attached array b))
attaches array b w at =
    leads w (before_attach array b) (λ later. Stands later (when_attached array b)) (restored_taken array b w at)
    (λ x1 at1. leads x1 (device_there array b) (λ later. Stands later (when_attached array b))
    (outside x1 (before_attach array b) at1 (Attach 1) (record {}) (Ok (Generation 1)) refl refl None (λ before e. e) false (λ before e. refl))
    (λ x2 at2. core x2 (device_there array b) at2 (Look (register_with (Rebuilding 1 no_shards) 1)) attached n1≤2 (record {}) (sym at2.register_is) sees_device))

pub rebuilds : (array : Array) (b : Block) → length b ≡ 16 → length (array 1) ≡ 16 → (w : World) → Stands w (when_attached array b)
    → Reaches small w (λ later. Stands later (when_rebuilt array b))
rebuilds array b b-wide other-wide w at =
    leads w (when_reading_both array b) (λ later. Stands later (when_rebuilt array b)) (core w (when_attached array b) at (Turn_started (Rebuild 1 1)) both_reads_out n1≤2 (record {}) (record {}) turns)
    (λ x1 at1. leads x1 (when_reading_other array b) (λ later. Stands later (when_rebuilt array b)) (reads x1 (when_reading_both array b) at1 7 3 0 (one_read_out b (array 1)) refl refl n1≤2 (learns_p b (array 1)))
    (λ x2 at2. leads x2 (when_writing array b) (λ later. Stands later (when_rebuilt array b)) (reads x2 (when_reading_other array b) at2 6 2 0 (write_out b (array 1)) refl refl n1≤2 (learns b (array 1) b-wide other-wide))
    (λ x3 at3. leads x3 (when_built array b) (λ later. Stands later (when_rebuilt array b)) (writes x3 (when_writing array b) at3 8 1 1 b row_built refl refl n0≤2 (confirms b (array 1)))
    (λ x4 at4. leads x4 (when_told array b) (λ later. Stands later (when_rebuilt array b))
    (tells x4 (when_built array b) at4 (RebuildOf 1 1) (Ok Complete) telling rebuild_told refl refl n0≤2 ([], (refl, refl), refl) (refl, refl) (Some 1) (λ before e. refl) (λ before e. refl))
    (λ x5 at5. core x5 (when_told array b) at5 (Look (register_with (InSync 1) 1)) rebuild_told n0≤2 (record {}) (sym at5.register_is) sees_sync)))))

pub reads_again : (array : Array) (b : Block) (w : World) → Stands w (when_rebuilt array b) → Reaches small w (λ later. Stands later (at_last array b))
reads_again array b w at =
    leads w (when_reading array b) (λ later. Stands later (at_last array b)) (core w (when_rebuilt array b) at (Submit (Read 0) 2) read_out n0≤2
    (quiet w (when_rebuilt array b) at (λ t. refl) refl refl refl) (record {}) submits)
    (λ x1 at1. leads x1 (when_finished array b) (λ later. Stands later (at_last array b)) (reads_in x1 (when_reading array b) at1 9 64 1 1 (read_finished b) refl refl n0≤2 (gives b))
    (λ x2 at2. core x2 (when_finished array b) at2 (Look (register_with (InSync 1) 1)) (read_released b) n0≤2 (record {}) (sym at2.register_is) (looks b)))
