-- A block of the smallest array is written: the other data block of the row is read, and three blocks are written.
use Rattle.std.proofs.Common.{◌≡◌, ℕ, [], ◌∷◌, true, false, inl, refl, sym, Option, Some, None}
use Rattle.std.proofs.lemmas.Bool.{ne_eqb}
use Rattle.r6_kernels.specs.Blocks.{IsBlock}
use Rattle.r6_stripe.specs.Holds.{MayAsk}
use Rattle.r6_stripe.specs.Holds.Standing.{Out as Absent}
use Rattle.r6_stripe.specs.Holds.Doubling.{Single}
use Rattle.r6_stripe.specs.Holds.Event.{Asks, Gives, Computes, Writes, Confirms}
use Rattle.r6_world.specs.Tables.{put, put_in}
use Rattle.r6_layout.specs.PlainArray.{Block}
use Rattle.r6_world.specs.PlainArray.{Array, Write, Done}
use Rattle.r6_world.specs.Layouts.{content}
use Rattle.r6_world.specs.Registers.{InSync}
use Rattle.r6_world.specs.Tasks.{Write as RowWrite, Task, WriteFor, Hold, Wrote}
use Rattle.r6_world.specs.ShardStates.{Held, Finished, Released, Command, Storing, Shard, Synced, begun}
use Rattle.r6_world.specs.Changes.{Accept, Start, Ask, Prepare, Send, Learn, Confirm, Finish, Release, Hand_reply, after}
use Rattle.r6_world.specs.Steps.{Submit, Deliver, Good, Taken, Look, Take_reply, Step}
use Rattle.r6_world.specs.Worlds.{World}
use Rattle.r6_world.specs.Witness.{small}
use Rattle.r6_world.proofs.Tables.{not_both}
use Rattle.r6_world.proofs.Witness.Pieces.{Reaches, View, Stands, leads, quiet, core, reads, writes, fetch, store, handed_out}
use Rattle.r6_world.proofs.Witness.SmallRows.{p, q}
use Rattle.r6_world.proofs.Witness.OneWrite.{batch, new_blocks, follows, only, may_compute, may_end}
use Rattle.r6_world.proofs.Witness.SmallShards.{no_request, no_hold, no_command, but_one, asked, held, on, state, register_with, seen_slots, none_built, entry_is, none_is, put-gone, one_waits_not, held_not, finished_not, released_not, held_rests, free_rests, each, HasNoWrite, no_write, write_held, in_sync_not_out, storing_not_fetch, n0<1, n0<2, n0<4, n1<4, n2<4, n3<4, n0<64, n0≤2}

-- ---- the hold

abbrev pub task : Block → Task
task b = WriteFor (record { id = 0; block = 0; new_data = b } ∷ [])

abbrev begun_hold : Block → Hold
begun_hold b = begun small (but_one (Synced 0)) 0 (task b)

abbrev other_asked : Block → Hold
other_asked b = on (begun_hold b) (Asks 1)

abbrev other_known : (b other : Block) → Hold
other_known b other = on (other_asked b) (Gives 1 other)

abbrev new_ready : (b other : Block) → Hold
new_ready b other = on (other_known b other) (Computes (new_blocks b other))

abbrev own_sent : (b other : Block) → Hold
own_sent b other = on (new_ready b other) (Writes 0 b)

abbrev p_sent : (b other : Block) → Hold
p_sent b other = on (own_sent b other) (Writes 2 (p b other))

abbrev pub all_sent : (b other : Block) → Hold
all_sent b other = on (p_sent b other) (Writes 3 (q b other))

abbrev q_confirmed : (b other : Block) → Hold
q_confirmed b other = on (all_sent b other) (Confirms 3)

abbrev p_confirmed : (b other : Block) → Hold
p_confirmed b other = on (q_confirmed b other) (Confirms 2)

abbrev all_confirmed : (b other : Block) → Hold
all_confirmed b other = on (p_confirmed b other) (Confirms 0)

-- ---- the states

abbrev own_out : Block → ℕ → Option Command
own_out b = put no_command 1 (Some (store 1 0 b))

abbrev own_and_p_out : (b other : Block) → ℕ → Option Command
own_and_p_out b other = put (own_out b) 2 (Some (store 3 0 (p b other)))

abbrev pub all_out : (b other : Block) → ℕ → Option Command
all_out b other = put (own_and_p_out b other) 3 (Some (store 0 0 (q b other)))

abbrev pub made : Shard
made = state 0 no_request no_hold 0 no_command (but_one (Synced 0)) [] 0

abbrev other_read_out : Block → Shard
other_read_out b = state 1 (asked 0 (Write 0 b) (Held 0)) (held (other_asked b)) 1 (put no_command 0 (Some (fetch 2 0))) (but_one (Synced 0)) [] 0

abbrev pub writes_out : (b other : Block) → Shard
writes_out b other = state 1 (asked 0 (Write 0 b) (Held 0)) (held (all_sent b other)) 4 (all_out b other) (but_one (Synced 0)) [] 0

abbrev two_writes_out : (b other : Block) → Shard
two_writes_out b other = state 1 (asked 0 (Write 0 b) (Held 0)) (held (q_confirmed b other)) 4 (own_and_p_out b other) (but_one (Synced 0)) [] 0

abbrev one_write_out : (b other : Block) → Shard
one_write_out b other = state 1 (asked 0 (Write 0 b) (Held 0)) (held (p_confirmed b other)) 4 (own_out b) (but_one (Synced 0)) [] 0

abbrev write_finished : Block → Shard
write_finished b = state 1 (asked 0 (Write 0 b) (Finished Done)) no_hold 4 no_command (but_one (Synced 0)) [] 0

abbrev pub write_released : Block → Shard
write_released b = state 1 (asked 0 (Write 0 b) (Released Done)) no_hold 4 no_command (but_one (Synced 0)) [] 0

abbrev pub write_taken : Shard
write_taken = state 1 no_request no_hold 4 no_command (but_one (Synced 0)) [] 0

-- ---- it is submitted, and the other data block is read

some_writes : (w : RowWrite) → w ∷ [] ≡ [] → ⊥
some_writes w e = cc

some_batch : (b : Block) → batch b ≡ [] → ⊥
some_batch b e = cc

abbrev after_submit : Block → Shard
after_submit b = after small (after small (after small made (Accept (Write 0 b))) (Start 0 0 (task b))) (Ask 0 (begun_hold b) 2 0)

submitted : (b : Block) → other_read_out b ≡ after_submit b
submitted b = λ i. record (other_read_out b) {
  request = λ id. entry_is (after_submit b).request 0 (Some (record { op = Write 0 b; stage = Held 0 })) refl (λ at ne. rw (ne_eqb at 0 ne) refl) id i;
  frame = λ f. entry_is (after_submit b).frame 0 (Some (other_asked b)) refl (λ at ne. rw (ne_eqb at 0 ne) refl) f i;
}

may_ask : (b : Block) → MayAsk (begun_hold b).course 1
may_ask b = record {
  held = write_held (batch b);
  in_sync = refl;
  unread = tt;
  before_writes = each HasNoWrite (begun_hold b) no_write no_write no_write no_write no_write;
}

pub submits : (b : Block) → IsBlock 16 b → Step small 0 made (Submit (Write 0 b) 0) (other_read_out b)
submits b sized = (
  refl,
  (n0<2, sized, refl, refl),
  (
    Start 0 0 (task b) ∷ Ask 0 (begun_hold b) 2 0 ∷ [],
    (
      record {},
      (
        (n0<64, refl, (λ t c out own. not_both {A = Command} None c refl out)),
        (λ f h e own. not_both {A = Hold} None h refl e),
        (n0<1, refl),
        (n0≤2, refl),
        (some_writes (record { id = 0; block = 0; new_data = b }), (refl, refl, refl, record {})),
        (some_batch b, (n0<2, sized, (λ x. x), tt)),
      ),
      (record {}, (refl, n2<4, (refl, refl), (n0≤2, refl), may_ask b, refl), submitted b),
    ),
  ),
  held_rests (other_read_out b) (other_asked b) refl refl 0 (fetch 2 0) refl refl refl (one_waits_not 0 (Write 0 b) (Held 0) (held_not 0)) (none_built (Synced 0) (λ x. x)),
)

-- ---- the new blocks are computed and written

abbrev pub fetched : (slot generation : ℕ) → Command
fetched slot generation = record (fetch slot generation) { taken = true }

abbrev after_other : (b other : Block) → Shard
after_other b other =
    after small (after small (after small (after small (after small (handed_out (other_read_out b) 0 (fetch 2 0)) (Learn 0 (fetched 2 0) (other_asked b) other))
    (Prepare 0 (other_known b other) (Computes (new_blocks b other)))) (Send 0 (new_ready b other) 1 0 b)) (Send 0 (own_sent b other) 3 0 (p b other))) (Send 0 (p_sent b other) 0 0 (q b other))

computed : (b other : Block) → writes_out b other ≡ after_other b other
computed b other = λ i. record (writes_out b other) {
  frame = λ f. entry_is (after_other b other).frame 0 (Some (all_sent b other)) refl (λ at ne. rw (ne_eqb at 0 ne) refl) f i;
  command =
      put (put (put (λ t. sym (put-gone no_command 0 (Some (fetch 2 0)) (Some (fetched 2 0)) refl t) i) 1 (Some (store 1 0 b))) 2 (Some (store 3 0 (p b other)))) 3
      (Some (store 0 0 (q b other)));
}

pub learns : (b other : Block) → Step small 0 (handed_out (other_read_out b) 0 (fetch 2 0)) (Deliver 0 (Good other) Taken) (writes_out b other)
learns b other = (
  Learn 0 (fetched 2 0) (other_asked b) other,
  (refl, refl, refl),
  (refl, refl, refl, refl),
  writes_out b other,
  (
    _,
    ([], refl),
    (
      Prepare 0 (other_known b other) (Computes (new_blocks b other)) ∷ Send 0 (new_ready b other) 1 0 b ∷ Send 0 (own_sent b other) 3 0 (p b other) ∷ Send 0 (p_sent b other) 0 0 (q b other) ∷ [],
      (
        record {},
        (refl, (n0≤2, refl), record {}, may_compute Absent b other, (refl, (may_compute Absent b other).are_new, follows Absent b other, only Absent b other)),
        (
          record {},
          (refl, n1<4, inl refl, (n0≤2, refl), record { held = write_held (batch b); not_out = in_sync_not_out; after_read = record {}; ready = refl }, (refl, refl), refl),
          (
            record {},
            (refl, n3<4, inl refl, (n0≤2, refl), record { held = write_held (batch b); not_out = in_sync_not_out; after_read = record {}; ready = refl }, (refl, refl), refl),
            (
              record {},
              (refl, n0<4, inl refl, (n0≤2, refl), record { held = write_held (batch b); not_out = in_sync_not_out; after_read = record {}; ready = refl }, (refl, refl), refl),
              computed b other,
            ),
          ),
        ),
      ),
    ),
  ),
  ([], refl),
  held_rests (writes_out b other) (all_sent b other) refl refl 1 (store 1 0 b) refl refl refl (one_waits_not 0 (Write 0 b) (Held 0) (held_not 0)) (none_built (Synced 0) (λ x. x)),
)

-- ---- the writes are confirmed

abbrev pub stored : (slot generation : ℕ) → Command
stored slot generation = record (fetch slot generation) { transfer = Storing; taken = true }

abbrev after_q : (b other : Block) → Shard
after_q b other = after small (handed_out (writes_out b other) 3 (store 0 0 (q b other))) (Confirm 3 (stored 0 0) (all_sent b other))

q_is_confirmed : (b other : Block) → two_writes_out b other ≡ after_q b other
q_is_confirmed b other = λ i. record (two_writes_out b other) {
  frame = λ f. entry_is (after_q b other).frame 0 (Some (q_confirmed b other)) refl (λ at ne. rw (ne_eqb at 0 ne) refl) f i;
  command = λ t. sym (put-gone (own_and_p_out b other) 3 (Some (store 0 0 (q b other))) (Some (stored 0 0)) refl t) i;
}

confirms_q : (b other : Block) → Step small 0 (handed_out (writes_out b other) 3 (store 0 0 (q b other))) (Deliver 3 (Good (q b other)) Taken) (two_writes_out b other)
confirms_q b other = (
  Confirm 3 (stored 0 0) (all_sent b other),
  (refl, refl),
  (refl, refl, refl, storing_not_fetch),
  two_writes_out b other,
  (_, ([], refl), ([], q_is_confirmed b other)),
  ([], refl),
  held_rests (two_writes_out b other) (q_confirmed b other) refl refl 1 (store 1 0 b) refl refl refl (one_waits_not 0 (Write 0 b) (Held 0) (held_not 0)) (none_built (Synced 0) (λ x. x)),
)

abbrev after_p : (b other : Block) → Shard
after_p b other = after small (handed_out (two_writes_out b other) 2 (store 3 0 (p b other))) (Confirm 2 (stored 3 0) (q_confirmed b other))

p_is_confirmed : (b other : Block) → one_write_out b other ≡ after_p b other
p_is_confirmed b other = λ i. record (one_write_out b other) {
  frame = λ f. entry_is (after_p b other).frame 0 (Some (p_confirmed b other)) refl (λ at ne. rw (ne_eqb at 0 ne) refl) f i;
  command = λ t. sym (put-gone (own_out b) 2 (Some (store 3 0 (p b other))) (Some (stored 3 0)) refl t) i;
}

confirms_p : (b other : Block) → Step small 0 (handed_out (two_writes_out b other) 2 (store 3 0 (p b other))) (Deliver 2 (Good (p b other)) Taken) (one_write_out b other)
confirms_p b other = (
  Confirm 2 (stored 3 0) (q_confirmed b other),
  (refl, refl),
  (refl, refl, refl, storing_not_fetch),
  one_write_out b other,
  (_, ([], refl), ([], p_is_confirmed b other)),
  ([], refl),
  held_rests (one_write_out b other) (p_confirmed b other) refl refl 1 (store 1 0 b) refl refl refl (one_waits_not 0 (Write 0 b) (Held 0) (held_not 0)) (none_built (Synced 0) (λ x. x)),
)

abbrev after_own : (b other : Block) → Shard
after_own b other = after small (after small (handed_out (one_write_out b other) 1 (store 1 0 b)) (Confirm 1 (stored 1 0) (p_confirmed b other))) (Finish 0 (all_confirmed b other) Wrote)

ended : (b other : Block) → write_finished b ≡ after_own b other
ended b other = λ i. record (write_finished b) {
  request = λ id. entry_is (after_own b other).request 0 (Some (record { op = Write 0 b; stage = Finished Done })) refl (λ at ne. rw (ne_eqb at 0 ne) refl) id i;
  frame = λ f. none_is (after_own b other).frame 0 refl (λ at ne. rw (ne_eqb at 0 ne) refl) f i;
  command = λ t. sym (put-gone no_command 1 (Some (store 1 0 b)) (Some (stored 1 0)) refl t) i;
}

confirms_own : (b other : Block) → Step small 0 (handed_out (one_write_out b other) 1 (store 1 0 b)) (Deliver 1 (Good b) Taken) (write_finished b)
confirms_own b other = (
  Confirm 1 (stored 1 0) (p_confirmed b other),
  (refl, refl),
  (refl, refl, refl, storing_not_fetch),
  write_finished b,
  (_, ([], refl), (Finish 0 (all_confirmed b other) Wrote ∷ [], (record {}, (refl, may_end Single b other, (n0≤2, refl), record {}), ended b other))),
  ([], refl),
  free_rests (write_finished b) (λ f. refl) (one_waits_not 0 (Write 0 b) (Finished Done) (finished_not Done)) (none_built (Synced 0) (λ x. x)),
)

-- ---- a look releases the reply, and it is taken

answered : (b : Block) → write_released b ≡ after small (write_finished b) Release
answered b = λ i. record (write_released b) {
  request = λ id. entry_is (after small (write_finished b) Release).request 0 (Some (record { op = Write 0 b; stage = Released Done })) refl (λ at ne. rw (ne_eqb at 0 ne) refl) id i;
}

looks : (b : Block) → Step small 0 (write_finished b) (Look (register_with (InSync 0) 0)) (write_released b)
looks b = (
  refl,
  refl,
  write_finished b,
  ([], refl),
  (λ slot inside. seen_slots (Synced 0) (Synced 0) (InSync 0) 0 refl slot),
  (write_finished b, (_, ([], refl), ([], refl)), ([], answered b)),
  free_rests (write_released b) (λ f. refl) (one_waits_not 0 (Write 0 b) (Released Done) (released_not Done)) (none_built (Synced 0) (λ x. x)),
)

gone : (b : Block) → write_taken ≡ after small (write_released b) (Hand_reply 0 (Write 0 b) Done)
gone b = λ i. record write_taken {
  request = λ id. none_is (after small (write_released b) (Hand_reply 0 (Write 0 b) Done)).request 0 refl (λ at ne. rw (ne_eqb at 0 ne) refl) id i;
}

takes : (b : Block) → Step small 0 (write_released b) (Take_reply 0 Done) write_taken
takes b = (Write 0 b, refl, gone b)

-- ---- all together

-- the blocks of row 0 when the array is lawful, and after the write
abbrev pub at_first : Array → ℕ → ℕ → Block
at_first array slot generation = content small array 0 slot

abbrev pub when_written : Array → Block → ℕ → ℕ → Block
when_written array b = put_in (put_in (put_in (at_first array) 0 0 (q b (array 1))) 3 0 (p b (array 1))) 1 0 b

abbrev pub when_made : Array → View
when_made array = record { shard = made; register = register_with (InSync 0) 0; device = at_first array; used = []; completed = None; settled = true }

abbrev pub when_reading : Array → Block → View
when_reading array b = record (when_made array) { shard = other_read_out b; settled = false }

abbrev pub when_writing : Array → Block → View
when_writing array b = record (when_made array) { shard = writes_out b (array 1); used = 0 ∷ []; settled = false }

abbrev when_writing_two : Array → Block → View
when_writing_two array b = record (when_made array) { shard = two_writes_out b (array 1); device = put_in (at_first array) 0 0 (q b (array 1)); used = 3 ∷ 0 ∷ []; settled = false }

abbrev when_writing_one : Array → Block → View
when_writing_one array b =
    record (when_made array) {
      shard = one_write_out b (array 1);
      device = put_in (put_in (at_first array) 0 0 (q b (array 1))) 3 0 (p b (array 1));
      used = 2 ∷ 3 ∷ 0 ∷ [];
      settled = false;
    }

abbrev when_finished : Array → Block → View
when_finished array b = record (when_made array) { shard = write_finished b; device = when_written array b; used = 1 ∷ 2 ∷ 3 ∷ 0 ∷ []; settled = false }

abbrev pub when_released : Array → Block → View
when_released array b = record (when_made array) { shard = write_released b; device = when_written array b; used = 1 ∷ 2 ∷ 3 ∷ 0 ∷ [] }

abbrev pub when_taken : Array → Block → View
when_taken array b = record (when_made array) { shard = write_taken; device = when_written array b; used = 1 ∷ 2 ∷ 3 ∷ 0 ∷ [] }

pub wrote : (array : Array) (b : Block) → IsBlock 16 b → (w : World) → Stands w (when_made array) → Reaches small w (λ later. Stands later (when_released array b))
wrote array b sized w at =
    leads w (when_reading array b) (λ later. Stands later (when_released array b)) (core w (when_made array) at (Submit (Write 0 b) 0) (other_read_out b) n0≤2
    (quiet w (when_made array) at (λ t. refl) refl refl refl) (record {}) (submits b sized))
    (λ w1 at1. leads w1 (when_writing array b) (λ later. Stands later (when_released array b)) (reads w1 (when_reading array b) at1 0 2 0 (writes_out b (array 1)) refl refl n0≤2 (learns b (array 1)))
    (λ w2 at2. leads w2 (when_writing_two array b) (λ later. Stands later (when_released array b)) (writes w2 (when_writing array b) at2 3 0 0 (q b (array 1)) (two_writes_out b (array 1)) refl refl n0≤2 (confirms_q b (array 1)))
    (λ w3 at3. leads w3 (when_writing_one array b) (λ later. Stands later (when_released array b)) (writes w3 (when_writing_two array b) at3 2 3 0 (p b (array 1)) (one_write_out b (array 1)) refl refl n0≤2 (confirms_p b (array 1)))
    (λ w4 at4. leads w4 (when_finished array b) (λ later. Stands later (when_released array b)) (writes w4 (when_writing_one array b) at4 1 1 0 b (write_finished b) refl refl n0≤2 (confirms_own b (array 1)))
    (λ w5 at5. core w5 (when_finished array b) at5 (Look (register_with (InSync 0) 0)) (write_released b) n0≤2 (record {}) (sym at5.register_is) (looks b))))))

pub reply_taken : (array : Array) (b : Block) (w : World) → Stands w (when_released array b) → Reaches small w (λ later. Stands later (when_taken array b))
reply_taken array b w at = core w (when_released array b) at (Take_reply 0 Done) write_taken n0≤2 (record {}) (record {}) (takes b)
