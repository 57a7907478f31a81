-- A block is written to both devices of a slot, and the new one confirms it; the old one answers by an error, and the
-- slot goes on with the new one; and the write is answered.
use Rattle.std.proofs.Common.{◌≡◌, ◌∙◌, ℕ, List, [], ◌∷◌, ◌++◌, true, false, inl, inr, refl, sym, ap, subst, arith, Option, Some, None, Err}
use Rattle.std.proofs.lemmas.Bool.{cases_eq, ne_eqb}
use Rattle.r6_kernels.specs.Blocks.{IsBlock}
use Rattle.r6_stripe.specs.Holds.{MayAsk}
use Rattle.r6_stripe.specs.Holds.Standing.{InSync as InPlace}
use Rattle.r6_stripe.specs.Holds.Doubling.{Passed}
use Rattle.r6_stripe.specs.Holds.Event.{Asks, Gives, Computes, Writes, Copies, Settles, Moves, Confirms}
use Rattle.r6_world.specs.Tables.{put, put_in}
use Rattle.r6_layout.specs.PlainArray.{Block}
use Rattle.r6_world.specs.PlainArray.{Array, Write, Done}
use Rattle.r6_world.specs.Registers.{InSync, Stale, status_of}
use Rattle.r6_world.specs.Tasks.{Write as RowWrite, Hold, Wrote}
use Rattle.r6_world.specs.ShardStates.{Held, Finished, Released, Command, Shard, SlotState, Synced, Paired, Call, LossOf, begun}
use Rattle.r6_world.specs.Changes.{Accept, Start, Ask, Prepare, Send, Copy, Learn, Confirm, Lose, Finish, Release, Hand_call, after, abandoned_to}
use Rattle.r6_world.specs.Steps.{Submit, Deliver, Good, Error, Taken, Look, Step}
use Rattle.r6_world.specs.Worlds.{World, Moment, Run}
use Rattle.r6_world.specs.Laws.{IsOfOutside}
use Rattle.r6_world.specs.Witness.{small, after_all, PassedOnFrom}
use Rattle.r6_world.proofs.Tables.{not_both}
use Rattle.r6_world.proofs.Witness.Pieces.{Reaches, View, Stands, leads, core, core_beside, reads, writes, writes_to, write_errs, tells, fetch, store, store_to, handed_out, run-append, after-append}
use Rattle.r6_world.proofs.Witness.SmallRows.{p, q}
use Rattle.r6_world.proofs.Witness.OneWrite.{batch, new_blocks, follows, only, may_compute, may_end}
use Rattle.r6_world.proofs.Witness.SmallShards.{no_hold, no_command, but_one, but_one-put, asked, held, on, state, register_with, seen_slots, none_built, entry_is, none_is, put-gone, one_waits_not, held_not, finished_not, released_not, held_rests, free_rests, each, HasNoWrite, no_write, write_held, in_sync_not_out, storing_not_fetch, n0<1, n0<2, n0<4, n1<4, n2<4, n3<4, n0<64, n0≤2}
use Rattle.r6_world.proofs.Witness.Written.{task, fetched, stored, when_made}
use Rattle.r6_world.proofs.Witness.Replaced.{when_doubled, when_told, rebuild_told, replaces, completes}

-- ---- the hold

abbrev both : SlotState
both = Paired 0 1

abbrev begun_hold : Block → Hold
begun_hold b = begun small (but_one both) 0 (task b)

abbrev other_asked : Block → Hold
other_asked b = on (begun_hold b) (Asks 1)

abbrev other_known : (b other : Block) → Hold
other_known b other = on (other_asked b) (Gives 1 other)

abbrev new_ready : (b other : Block) → Hold
new_ready b other = on (other_known b other) (Computes (new_blocks b other))

abbrev own_sent : (b other : Block) → Hold
own_sent b other = on (new_ready b other) (Writes 0 b)

abbrev own_copied : (b other : Block) → Hold
own_copied b other = on (own_sent b other) (Copies 0 b)

abbrev p_sent : (b other : Block) → Hold
p_sent b other = on (own_copied b other) (Writes 2 (p b other))

abbrev all_sent : (b other : Block) → Hold
all_sent b other = on (p_sent b other) (Writes 3 (q b other))

abbrev copy_settled : (b other : Block) → Hold
copy_settled b other = on (all_sent b other) (Settles 0)

abbrev moved_on : (b other : Block) → Hold
moved_on b other = on (copy_settled b other) (Moves 0)

abbrev q_confirmed : (b other : Block) → Hold
q_confirmed b other = on (moved_on b other) (Confirms 3)

abbrev all_confirmed : (b other : Block) → Hold
all_confirmed b other = on (q_confirmed b other) (Confirms 2)

-- ---- the states

abbrev with_parities : (ℕ → Option Command) → (b other : Block) → ℕ → Option Command
with_parities out b other = put (put out 5 (Some (store 3 0 (p b other)))) 6 (Some (store 0 0 (q b other)))

abbrev own_out : Block → ℕ → Option Command
own_out b = put no_command 3 (Some (store 1 0 b))

abbrev all_out : (b other : Block) → ℕ → Option Command
all_out b other = with_parities (put (own_out b) 4 (Some (store_to true 1 1 b))) b other

abbrev own_and_parities : (b other : Block) → ℕ → Option Command
own_and_parities b other = with_parities (own_out b) b other

abbrev parities_out : (b other : Block) → ℕ → Option Command
parities_out b other = with_parities no_command b other

abbrev p_out : (b other : Block) → ℕ → Option Command
p_out b other = put no_command 5 (Some (store 3 0 (p b other)))

abbrev to_declare : List Call
to_declare = LossOf 1 0 ∷ []

abbrev other_read_out : Block → Shard
other_read_out b = state 1 (asked 0 (Write 0 b) (Held 0)) (held (other_asked b)) 3 (put no_command 2 (Some (fetch 2 0))) (but_one both) [] 1

abbrev writes_out : (b other : Block) → Shard
writes_out b other = state 1 (asked 0 (Write 0 b) (Held 0)) (held (all_sent b other)) 7 (all_out b other) (but_one both) [] 1

abbrev copied : (b other : Block) → Shard
copied b other = state 1 (asked 0 (Write 0 b) (Held 0)) (held (copy_settled b other)) 7 (own_and_parities b other) (but_one both) [] 1

abbrev moved : (b other : Block) → Shard
moved b other = state 1 (asked 0 (Write 0 b) (Held 0)) (held (moved_on b other)) 7 (parities_out b other) (but_one (Synced 1)) to_declare 1

abbrev one_write_out : (b other : Block) → Shard
one_write_out b other = state 1 (asked 0 (Write 0 b) (Held 0)) (held (q_confirmed b other)) 7 (p_out b other) (but_one (Synced 1)) to_declare 1

abbrev write_finished : Block → Shard
write_finished b = state 1 (asked 0 (Write 0 b) (Finished Done)) no_hold 7 no_command (but_one (Synced 1)) to_declare 1

abbrev loss_told : Block → Shard
loss_told b = state 1 (asked 0 (Write 0 b) (Finished Done)) no_hold 7 no_command (but_one (Synced 1)) [] 1

abbrev write_released : Block → Shard
write_released b = state 1 (asked 0 (Write 0 b) (Released Done)) no_hold 7 no_command (but_one (Synced 1)) [] 1

-- ---- it is submitted, and the other data block is read

one_is_not_zero : ◌≡◌ {A = ℕ} 1 0 → ⊥
one_is_not_zero e = absurd (omega (arith, e))

some_writes : (w : RowWrite) → w ∷ [] ≡ [] → ⊥
some_writes w e = cc

some_batch : (b : Block) → batch b ≡ [] → ⊥
some_batch b e = cc

abbrev after_submit : Block → Shard
after_submit b = after small (after small (after small rebuild_told (Accept (Write 0 b))) (Start 0 0 (task b))) (Ask 0 (begun_hold b) 2 0)

submitted : (b : Block) → other_read_out b ≡ after_submit b
submitted b = λ i. record (other_read_out b) {
  request = λ id. entry_is (after_submit b).request 0 (Some (record { op = Write 0 b; stage = Held 0 })) refl (λ at ne. rw (ne_eqb at 0 ne) refl) id i;
  frame = λ f. entry_is (after_submit b).frame 0 (Some (other_asked b)) refl (λ at ne. rw (ne_eqb at 0 ne) refl) f i;
}

may_ask : (b : Block) → MayAsk (begun_hold b).course 1
may_ask b = record {
  held = write_held (batch b);
  in_sync = refl;
  unread = tt;
  before_writes = each HasNoWrite (begun_hold b) no_write no_write no_write no_write no_write;
}

submits : (b : Block) → IsBlock 16 b → Step small 0 rebuild_told (Submit (Write 0 b) 0) (other_read_out b)
submits b sized = (
  refl,
  (n0<2, sized, refl, refl),
  (
    Start 0 0 (task b) ∷ Ask 0 (begun_hold b) 2 0 ∷ [],
    (
      record {},
      (
        (n0<64, refl, (λ t c out own. not_both {A = Command} None c refl out)),
        (λ f h e own. not_both {A = Hold} None h refl e),
        (n0<1, refl),
        (n0≤2, refl),
        (some_writes (record { id = 0; block = 0; new_data = b }), (refl, refl, refl, record {})),
        (some_batch b, (n0<2, sized, (λ x. x), tt)),
      ),
      (record {}, (refl, n2<4, (refl, refl), (n0≤2, refl), may_ask b, refl), submitted b),
    ),
  ),
  held_rests (other_read_out b) (other_asked b) refl refl 2 (fetch 2 0) refl refl refl (one_waits_not 0 (Write 0 b) (Held 0) (held_not 0)) (none_built both (λ x. x)),
)

-- ---- the new blocks are computed and written, the data's to both devices

abbrev after_other : (b other : Block) → Shard
after_other b other =
    after small (after small (after small (after small (after small (after small (handed_out (other_read_out b) 2 (fetch 2 0)) (Learn 2 (fetched 2 0) (other_asked b) other))
    (Prepare 0 (other_known b other) (Computes (new_blocks b other)))) (Send 0 (new_ready b other) 1 0 b)) (Copy 0 (own_sent b other) 1 1 b)) (Send 0 (own_copied b other) 3 0 (p b other)))
    (Send 0 (p_sent b other) 0 0 (q b other))

computed : (b other : Block) → writes_out b other ≡ after_other b other
computed b other = λ i. record (writes_out b other) {
  frame = λ f. entry_is (after_other b other).frame 0 (Some (all_sent b other)) refl (λ at ne. rw (ne_eqb at 0 ne) refl) f i;
  command =
      put (put (put (put (λ t. sym (put-gone no_command 2 (Some (fetch 2 0)) (Some (fetched 2 0)) refl t) i) 3 (Some (store 1 0 b))) 4 (Some (store_to true 1 1 b))) 5
      (Some (store 3 0 (p b other)))) 6 (Some (store 0 0 (q b other)));
}

learns : (b other : Block) → Step small 0 (handed_out (other_read_out b) 2 (fetch 2 0)) (Deliver 2 (Good other) Taken) (writes_out b other)
learns b other = (
  Learn 2 (fetched 2 0) (other_asked b) other,
  (refl, refl, refl),
  (refl, refl, refl, refl),
  writes_out b other,
  (
    _,
    ([], refl),
    (
      Prepare 0 (other_known b other) (Computes (new_blocks b other)) ∷ Send 0 (new_ready b other) 1 0 b ∷ Copy 0 (own_sent b other) 1 1 b ∷ Send 0 (own_copied b other) 3 0 (p b other) ∷ Send 0 (p_sent b other) 0 0 (q b other) ∷ [],
      (
        record {},
        (refl, (n0≤2, refl), record {}, may_compute InPlace b other, (refl, (may_compute InPlace b other).are_new, follows InPlace b other, only InPlace b other)),
        (
          record {},
          (refl, n1<4, inl (inl refl), (n0≤2, refl), record { held = write_held (batch b); not_out = in_sync_not_out; after_read = record {}; ready = refl }, (refl, refl), refl),
          (
            record {},
            (refl, n1<4, inl (inr refl), (n0≤2, refl), record { held = write_held (batch b); second = inl refl; after_read = record {}; ready = refl }, (refl, refl), one_is_not_zero),
            (
              record {},
              (refl, n3<4, inl refl, (n0≤2, refl), record { held = write_held (batch b); not_out = in_sync_not_out; after_read = record {}; ready = refl }, (refl, refl), refl),
              (
                record {},
                (refl, n0<4, inl refl, (n0≤2, refl), record { held = write_held (batch b); not_out = in_sync_not_out; after_read = record {}; ready = refl }, (refl, refl), refl),
                computed b other,
              ),
            ),
          ),
        ),
      ),
    ),
  ),
  ([], refl),
  held_rests (writes_out b other) (all_sent b other) refl refl 3 (store 1 0 b) refl refl refl (one_waits_not 0 (Write 0 b) (Held 0) (held_not 0)) (none_built both (λ x. x)),
)

-- ---- the new device confirms

abbrev stored_copy : Command
stored_copy = record (stored 1 1) { copy = true }

copy_gone : (own a a' x y : Option Command) (at : ℕ)
    → put (put (put (put (put (put no_command 3 own) 4 a) 5 x) 6 y) 4 a') 4 None at ≡ put (put (put no_command 3 own) 5 x) 6 y at
copy_gone own a a' x y at = elim (cases_eq at 4) [
  | inl same ↦ subst (λ k. put (put (put (put (put (put no_command 3 own) 4 a) 5 x) 6 y) 4 a') 4 None k ≡ put (put (put no_command 3 own) 5 x) 6 y k) (sym same) refl
  | inr ne ↦ rw (ne_eqb at 4 ne) refl
]

abbrev after_copy : (b other : Block) → Shard
after_copy b other = after small (handed_out (writes_out b other) 4 (store_to true 1 1 b)) (Confirm 4 stored_copy (all_sent b other))

copy_confirmed : (b other : Block) → copied b other ≡ after_copy b other
copy_confirmed b other = λ i. record (copied b other) {
  frame = λ f. entry_is (after_copy b other).frame 0 (Some (copy_settled b other)) refl (λ at ne. rw (ne_eqb at 0 ne) refl) f i;
  command = λ t. sym (copy_gone (Some (store 1 0 b)) (Some (store_to true 1 1 b)) (Some stored_copy) (Some (store 3 0 (p b other))) (Some (store 0 0 (q b other))) t) i;
}

settles : (b other : Block) → Step small 0 (handed_out (writes_out b other) 4 (store_to true 1 1 b)) (Deliver 4 (Good b) Taken) (copied b other)
settles b other = (
  Confirm 4 stored_copy (all_sent b other),
  (refl, refl),
  (refl, refl, refl, storing_not_fetch),
  copied b other,
  (_, ([], refl), ([], copy_confirmed b other)),
  ([], refl),
  held_rests (copied b other) (copy_settled b other) refl refl 3 (store 1 0 b) refl refl refl (one_waits_not 0 (Write 0 b) (Held 0) (held_not 0)) (none_built both (λ x. x)),
)

-- ---- the old device answers by an error

abbrev heard_by : (ℕ → Option Command) → ℕ → Option Command
heard_by out at = abandoned_to false 1 (Synced 1) (out at)

abbrev with_two : (ℕ → Option Command) → (x y : Block) → ℕ → Option Command
with_two out x y = put (put out 5 (Some (store 3 0 x))) 6 (Some (store 0 0 y))

-- the commands to other slots go on
others_go_on : (x y : Block) (at : ℕ) → heard_by (with_two no_command x y) at ≡ with_two no_command x y at
others_go_on x y at = elim (cases_eq at 6) [
  | inl same ↦ subst (λ k. heard_by (with_two no_command x y) k ≡ with_two no_command x y k) (sym same) refl
  | inr ne ↦ elim (cases_eq at 5) [
    | inl same ↦ subst (λ k. heard_by (with_two no_command x y) k ≡ with_two no_command x y k) (sym same) refl
    | inr ne5 ↦ rw (ne_eqb at 6 ne) (rw (ne_eqb at 5 ne5) refl)
  ]
]

own_gone : (own own' : Option Command) (x y : Block) (at : ℕ)
    → heard_by (put (put (with_two (put no_command 3 own) x y) 3 own') 3 None) at ≡ with_two no_command x y at
own_gone own own' x y at = elim (cases_eq at 3) [
  | inl same ↦ subst (λ k. heard_by (put (put (with_two (put no_command 3 own) x y) 3 own') 3 None) k ≡ with_two no_command x y k) (sym same) refl
  | inr ne ↦ rw (ne_eqb at 3 ne) (others_go_on x y at)
]

abbrev after_error : (b other : Block) → Shard
after_error b other = after small (handed_out (copied b other) 3 (store 1 0 b)) (Lose 3 (stored 1 0))

taken_out : (b other : Block) → moved b other ≡ after_error b other
taken_out b other = λ i. record (moved b other) {
  request = λ id. entry_is (after_error b other).request 0 (Some (record { op = Write 0 b; stage = Held 0 })) refl (λ at ne. rw (ne_eqb at 0 ne) refl) id i;
  frame = λ f. entry_is (after_error b other).frame 0 (Some (moved_on b other)) refl (λ at ne. rw (ne_eqb at 0 ne) refl) f i;
  command = λ t. sym (own_gone (Some (store 1 0 b)) (Some (stored 1 0)) (p b other) (q b other) t) i;
  slot = λ d. but_one-put both (Synced 1) d i;
}

loses : (b other : Block) → Step small 0 (handed_out (copied b other) 3 (store 1 0 b)) (Deliver 3 Error Taken) (moved b other)
loses b other = (
  Lose 3 (stored 1 0),
  (refl, refl),
  (refl, refl),
  moved b other,
  (_, ([], refl), ([], taken_out b other)),
  ([], refl),
  held_rests (moved b other) (moved_on b other) refl refl 5 (store 3 0 (p b other)) refl refl refl (one_waits_not 0 (Write 0 b) (Held 0) (held_not 0)) (none_built (Synced 1) (λ x. x)),
)

-- ---- the parities are confirmed, and the write ends

abbrev after_q : (b other : Block) → Shard
after_q b other = after small (handed_out (moved b other) 6 (store 0 0 (q b other))) (Confirm 6 (stored 0 0) (moved_on b other))

q_is_confirmed : (b other : Block) → one_write_out b other ≡ after_q b other
q_is_confirmed b other = λ i. record (one_write_out b other) {
  frame = λ f. entry_is (after_q b other).frame 0 (Some (q_confirmed b other)) refl (λ at ne. rw (ne_eqb at 0 ne) refl) f i;
  command = λ t. sym (put-gone (p_out b other) 6 (Some (store 0 0 (q b other))) (Some (stored 0 0)) refl t) i;
}

confirms_q : (b other : Block) → Step small 0 (handed_out (moved b other) 6 (store 0 0 (q b other))) (Deliver 6 (Good (q b other)) Taken) (one_write_out b other)
confirms_q b other = (
  Confirm 6 (stored 0 0) (moved_on b other),
  (refl, refl),
  (refl, refl, refl, storing_not_fetch),
  one_write_out b other,
  (_, ([], refl), ([], q_is_confirmed b other)),
  ([], refl),
  held_rests (one_write_out b other) (q_confirmed b other) refl refl 5 (store 3 0 (p b other)) refl refl refl (one_waits_not 0 (Write 0 b) (Held 0) (held_not 0)) (none_built (Synced 1) (λ x. x)),
)

abbrev after_p : (b other : Block) → Shard
after_p b other = after small (after small (handed_out (one_write_out b other) 5 (store 3 0 (p b other))) (Confirm 5 (stored 3 0) (q_confirmed b other))) (Finish 0 (all_confirmed b other) Wrote)

ended : (b other : Block) → write_finished b ≡ after_p b other
ended b other = λ i. record (write_finished b) {
  request = λ id. entry_is (after_p b other).request 0 (Some (record { op = Write 0 b; stage = Finished Done })) refl (λ at ne. rw (ne_eqb at 0 ne) refl) id i;
  frame = λ f. none_is (after_p b other).frame 0 refl (λ at ne. rw (ne_eqb at 0 ne) refl) f i;
  command = λ t. sym (put-gone no_command 5 (Some (store 3 0 (p b other))) (Some (stored 3 0)) refl t) i;
}

confirms_p : (b other : Block) → Step small 0 (handed_out (one_write_out b other) 5 (store 3 0 (p b other))) (Deliver 5 (Good (p b other)) Taken) (write_finished b)
confirms_p b other = (
  Confirm 5 (stored 3 0) (q_confirmed b other),
  (refl, refl),
  (refl, refl, refl, storing_not_fetch),
  write_finished b,
  (_, ([], refl), (Finish 0 (all_confirmed b other) Wrote ∷ [], (record {}, (refl, may_end Passed b other, (n0≤2, refl), record {}), ended b other))),
  ([], refl),
  free_rests (write_finished b) (λ f. refl) (one_waits_not 0 (Write 0 b) (Finished Done) (finished_not Done)) (none_built (Synced 1) (λ x. x)),
)

-- ---- the loss is declared, of a device that the register has no more; and a look releases the reply

abbrev telling : Block → Shard
telling b = after small (write_finished b) (Hand_call (LossOf 1 0) [])

answered : (b : Block) → write_released b ≡ after small (loss_told b) Release
answered b = λ i. record (write_released b) {
  request = λ id. entry_is (after small (loss_told b) Release).request 0 (Some (record { op = Write 0 b; stage = Released Done })) refl (λ at ne. rw (ne_eqb at 0 ne) refl) id i;
}

looks : (b : Block) → Step small 0 (loss_told b) (Look (register_with (InSync 1) 1)) (write_released b)
looks b = (
  refl,
  refl,
  loss_told b,
  ([], refl),
  (λ slot inside. seen_slots (Synced 1) (Synced 1) (InSync 1) 1 refl slot),
  (loss_told b, (_, ([], refl), ([], refl)), ([], answered b)),
  free_rests (write_released b) (λ f. refl) (one_waits_not 0 (Write 0 b) (Released Done) (released_not Done)) (none_built (Synced 1) (λ x. x)),
)

-- ---- all together

abbrev when_reading : Array → Block → View
when_reading array b = record (when_told array) { shard = other_read_out b; settled = false }

abbrev when_writing : Array → Block → View
when_writing array b = record (when_told array) { shard = writes_out b (array 1); used = 2 ∷ 1 ∷ 0 ∷ []; settled = false }

abbrev when_copied : Array → Block → View
when_copied array b =
    record (when_told array) { shard = copied b (array 1); device = put_in (when_told array).device 1 1 b; used = 4 ∷ 2 ∷ 1 ∷ 0 ∷ []; settled = false }

abbrev when_moved : Array → Block → View
when_moved array b = record (when_copied array b) { shard = moved b (array 1) }

abbrev when_writing_one : Array → Block → View
when_writing_one array b =
    record (when_moved array b) { shard = one_write_out b (array 1); device = put_in (when_copied array b).device 0 0 (q b (array 1)); used = 6 ∷ 4 ∷ 2 ∷ 1 ∷ 0 ∷ [] }

abbrev when_finished : Array → Block → View
when_finished array b =
    record (when_moved array b) {
      shard = write_finished b;
      device = put_in (when_writing_one array b).device 3 0 (p b (array 1));
      used = 5 ∷ 6 ∷ 4 ∷ 2 ∷ 1 ∷ 0 ∷ [];
    }

abbrev when_declared : Array → Block → View
when_declared array b = record (when_finished array b) { shard = loss_told b }

abbrev at_last : Array → Block → View
at_last array b = record (when_finished array b) { shard = write_released b; settled = true }

pairs : (array : Array) (w : World) → Stands w (when_made array) → Reaches small w (λ later. Stands later (when_told array))
pairs array w at = leads w (when_doubled array) (λ later. Stands later (when_told array)) (replaces array w at) (λ w1 at1. completes array w1 at1)

copies : (array : Array) (b : Block) (w : World) → Stands w (when_reading array b) → Reaches small w (λ later. Stands later (when_copied array b))
copies array b w at =
    leads w (when_writing array b) (λ later. Stands later (when_copied array b)) (reads w (when_reading array b) at 2 2 0 (writes_out b (array 1)) refl refl n0≤2 (learns b (array 1)))
    (λ w1 at1. writes_to w1 (when_writing array b) at1 true 4 1 1 b (copied b (array 1)) refl refl n0≤2 (settles b (array 1)))

ends : (array : Array) (b : Block) (w : World) → Stands w (when_moved array b) → Reaches small w (λ later. Stands later (at_last array b))
ends array b w at =
    leads w (when_writing_one array b) (λ later. Stands later (at_last array b)) (writes w (when_moved array b) at 6 0 0 (q b (array 1)) (one_write_out b (array 1)) refl refl n0≤2 (confirms_q b (array 1)))
    (λ w1 at1. leads w1 (when_finished array b) (λ later. Stands later (at_last array b)) (writes w1 (when_writing_one array b) at1 5 3 0 (p b (array 1)) (write_finished b) refl refl n0≤2 (confirms_p b (array 1)))
    (λ w2 at2. leads w2 (when_declared array b) (λ later. Stands later (at_last array b))
    (tells w2 (when_finished array b) at2 (LossOf 1 0) (Err Stale) (telling b) (loss_told b) refl refl n0≤2 ([], (refl, refl), refl) (refl, refl) (Some 1) (λ before e. e) (λ before e. e))
    (λ w3 at3. core w3 (when_declared array b) at3 (Look (register_with (InSync 1) 1)) (write_released b) n0≤2 (record {}) (sym at3.register_is) (looks b))))

parts : (array : Array) (b : Block) (w : World) (a x y z : List Moment) → Run small IsOfOutside w a → Run small IsOfOutside (after_all small w a) x
    → Run small IsOfOutside (after_all small (after_all small w a) x) y → Run small IsOfOutside (after_all small (after_all small (after_all small w a) x) y) z
    → Stands (after_all small w a) (when_told array) → Stands (after_all small (after_all small w a) x) (when_copied array b)
    → Stands (after_all small (after_all small (after_all small w a) x) y) (when_moved array b)
    → Stands (after_all small (after_all small (after_all small (after_all small w a) x) y) z) (at_last array b)
    → PassedOnFrom w b
parts array b w a x y z ra rx ry rz at1 at2 at3 at4 =
    let w2 = after_all small (after_all small w a) x in
    let w3 = after_all small w2 y in
    let e2 : after_all small w (a ++ x) ≡ w2 = after-append small w a x in
    let e3 : after_all small w (a ++ x ++ y) ≡ w3 = after-append small w (a ++ x) y ∙ ap (λ u. after_all small u y) e2 in
    let e4 : after_all small w (a ++ x ++ y ++ z) ≡ after_all small w3 z = after-append small w (a ++ x ++ y) z ∙ ap (λ u. after_all small u z) e3 in
    let s2 : Stands (after_all small w (a ++ x)) (when_copied array b) = subst (λ u. Stands u (when_copied array b)) (sym e2) at2 in
    let s3 : Stands (after_all small w (a ++ x ++ y)) (when_moved array b) = subst (λ u. Stands u (when_moved array b)) (sym e3) at3 in
    let s4 : Stands (after_all small w (a ++ x ++ y ++ z)) (at_last array b) = subst (λ u. Stands u (at_last array b)) (sym e4) at4 in
    let r2 : Run small IsOfOutside w (a ++ x) = run-append small w a x ra rx in
    let r3 : Run small IsOfOutside w (a ++ x ++ y) = run-append small w (a ++ x) y r2 (subst (λ u. Run small IsOfOutside u y) (sym e2) ry) in
    record {
      replace = a;
      write = x;
      error = y;
      answer = z;
      is_run = run-append small w (a ++ x ++ y) z r3 (subst (λ u. Run small IsOfOutside u z) (sym e3) rz);
      is_paired = (ap (λ r. status_of r 1) at1.register_is, at1.completed_is, ap (λ s. s.slot 1) at1.shard_is);
      is_out = (3, store 1 0 b, ap (λ s. s.command 3) s2.shard_is, refl, refl, refl);
      is_copied = (copy_settled b (array 1), ap (λ s. s.frame 0) s2.shard_is, refl);
      is_left = ap (λ s. s.slot 1) s3.shard_is;
      is_passed = (0, moved_on b (array 1), ap (λ s. s.frame 0) s3.shard_is, refl, refl);
      is_done = ap (λ s. s.request 0) s4.shard_is;
      is_put = s4.device_is 1 1;
    }

pub passed_on : (array : Array) (b : Block) → IsBlock 16 b → (w : World) → Stands w (when_made array) → PassedOnFrom w b
passed_on array b sized w at =
    let first = pairs array w at in
    let w1 = after_all small w first.0 in
    let submit = core_beside w1 (when_told array) first.2 (Submit (Write 0 b) 0) (other_read_out b) n0≤2 (record {}) (submits b sized) in
    let middle = copies array b (after_all small w1 submit.0) submit.2 in
    let written : List Moment = submit.0 ++ middle.0 in
    let at2 : Stands (after_all small w1 written) (when_copied array b) = subst (λ u. Stands u (when_copied array b)) (sym (after-append small w1 submit.0 middle.0)) middle.2 in
    let error = write_errs (after_all small w1 written) (when_copied array b) at2 false 3 1 0 b (moved b (array 1)) refl n0≤2 (loses b (array 1)) in
    let last = ends array b (after_all small (after_all small w1 written) error.0) error.2 in
    parts array b w first.0 written error.0 last.0 first.1.run (run-append small w1 submit.0 middle.0 submit.1 middle.1.run) error.1.run last.1.run first.2 at2 error.2 last.2
