-- Writes of both blocks of a row wait while a check holds it, or are handed in together; then one hold serves them both,
-- and reads nothing.
use Rattle.std.proofs.Common.{◌≡◌, ◌⊎◌, ℕ, zero, suc, ◌<◌, List, [], ◌∷◌, ◌++◌, true, false, inl, inr, refl, sym, ap, subst, ◌∙◌, arith, Option, Some, None}
use Rattle.std.proofs.lemmas.Bool.{ne_eqb, false≢true}
use Rattle.r6_kernels.specs.Blocks.{IsBlock}
use Rattle.r6_recover.specs.Rows.{block_at}
use Rattle.r6_recover.specs.declared.class.RowClass.TheVariants.{Consistent}
use Rattle.r6_stripe.specs.Plans.{lacks_new}
use Rattle.r6_stripe.specs.Holds.{IsIndexOf, IsToWrite, IsQuiet, AreConfirmed, MayCompute, MayEnd, cell_at, Carries, IsReadOver}
use Rattle.r6_stripe.specs.Holds.Standing.{InSync as InPlace, Out as Absent}
use Rattle.r6_stripe.specs.Holds.Kind.{Write as Writing}
use Rattle.r6_stripe.specs.Holds.Outcome.{Done as Over}
use Rattle.r6_stripe.specs.Holds.Reading.{Unread, Asked}
use Rattle.r6_stripe.specs.Holds.Writing.{Sent, Confirmed}
use Rattle.r6_stripe.specs.Holds.Event.{Computes, Writes, Confirms}
use Rattle.r6_world.specs.Tables.{put, put_in}
use Rattle.r6_layout.specs.PlainArray.{Block}
use Rattle.r6_world.specs.PlainArray.{Array, Op, Write, Done}
use Rattle.r6_world.specs.Registers.{InSync}
use Rattle.r6_world.specs.Tasks.{Write as RowWrite, Task, WriteFor, Hold, Wrote, Classed}
use Rattle.r6_world.specs.ShardStates.{Stage, Waiting, Held, Finished, Released, Request, Command, Shard, Synced, CouldStart, begun, Erred}
use Rattle.r6_world.specs.Changes.{Start, Prepare, Classify, Send, Learn, Confirm, Finish, Release, after}
use Rattle.r6_world.specs.Steps.{Submit, Submit_all, Deliver, Good, Taken, Look, AtRest, Scans, Step, Through}
use Rattle.r6_world.specs.Worlds.{World, Moment, Run}
use Rattle.r6_world.specs.Laws.{IsOfOutside}
use Rattle.r6_world.specs.Witness.{small, after_all, both_writes, AreHandedIn, HandedInFrom, RowIsWritten, TogetherFrom}
use Rattle.r6_world.proofs.Tables.{put-other, not_both, Some-inj}
use Rattle.r6_world.proofs.Witness.Pieces.{Reaches, View, Stands, leads, core, core_at, core_beside, reads, writes, fetch, store, handed_out, run-append, after-append}
use Rattle.r6_world.proofs.Witness.SmallRows.{p, q, full, both_written_are}
use Rattle.r6_world.proofs.Witness.SmallShards.{no_request, no_hold, no_command, but_one, asked, held, on, state, register_with, seen_slots, none_built, entry_is, none_is, put-gone, held_not, finished_not, released_not, held_rests, held_rests_beside, free_rests, cell, each, write_held, in_sync_not_out, out_not_in_sync, out_alone, unwritten_not_sent, confirmed_not_sent, storing_not_fetch, n0<1, n0<2, n0<4, n1<2, n1<4, n2<4, n3<4, n0<64, n0≤2, IsAhead}
use Rattle.r6_world.proofs.Witness.Written.{fetched, stored, at_first, when_made}
use Rattle.r6_world.proofs.Witness.OneWrite.{n4≤4, n4≤5}
use Rattle.r6_world.proofs.Witness.Checked as check
use Rattle.r6_world.proofs.Acts.Requests.{IsBack}

some_writes : (w : RowWrite) (rest : List RowWrite) → w ∷ rest ≡ [] → ⊥
some_writes w rest e = cc

some_batch : (entry : ℕ × Block) (rest : List (ℕ × Block)) → entry ∷ rest ≡ [] → ⊥
some_batch entry rest e = cc

past_zero : (id : ℕ) → suc id ≡ 0 → ⊥
past_zero id e = omega arith

past_one : (id : ℕ) → suc (suc id) ≡ 1 → ⊥
past_one id e = omega arith

abbrev waiting : Op → Request
waiting op = record { op = op; stage = Waiting }

module _ (array : Array) (b other : Block) where
  -- ---- the holds

  -- the check, which has yet to read block 0
  abbrev checking : Hold
  checking = check.other_known (array 0) (array 1)

  abbrev task : Task
  task = WriteFor (both_writes b other)

  abbrev batch : List (ℕ × Block)
  batch = (0, b) ∷ (1, other) ∷ []

  abbrev new_blocks : List (ℕ × Block)
  new_blocks = (0, b) ∷ (1, other) ∷ (2, p b other) ∷ (3, q b other) ∷ []

  abbrev begun_hold : Hold
  begun_hold = begun small (but_one (Synced 0)) 0 task

  abbrev new_ready : Hold
  new_ready = on begun_hold (Computes new_blocks)

  abbrev own_sent : Hold
  own_sent = on new_ready (Writes 0 b)

  abbrev other_sent : Hold
  other_sent = on own_sent (Writes 1 other)

  abbrev p_sent : Hold
  p_sent = on other_sent (Writes 2 (p b other))

  abbrev all_sent : Hold
  all_sent = on p_sent (Writes 3 (q b other))

  abbrev q_confirmed : Hold
  q_confirmed = on all_sent (Confirms 3)

  abbrev p_confirmed : Hold
  p_confirmed = on q_confirmed (Confirms 2)

  abbrev other_confirmed : Hold
  other_confirmed = on p_confirmed (Confirms 1)

  abbrev all_confirmed : Hold
  all_confirmed = on other_confirmed (Confirms 0)

  -- ---- the states

  abbrev own_out : ℕ → Option Command
  own_out = put no_command 4 (Some (store 1 0 b))

  abbrev data_out : ℕ → Option Command
  data_out = put own_out 5 (Some (store 2 0 other))

  abbrev data_and_p_out : ℕ → Option Command
  data_and_p_out = put data_out 6 (Some (store 3 0 (p b other)))

  abbrev all_out : ℕ → Option Command
  all_out = put data_and_p_out 7 (Some (store 0 0 (q b other)))

  abbrev both_asked : Stage → ℕ → Option Request
  both_asked stage = put (asked 0 (Write 0 b) stage) 1 (Some (record { op = Write 1 other; stage = stage }))

  -- the first is submitted, and both are, while the check reads block 0
  abbrev one_waits : Shard
  one_waits = state 1 (asked 0 (Write 0 b) Waiting) (held checking) 4 check.own_out (but_one (Synced 0)) [] 0

  abbrev both_wait : Shard
  both_wait = state 2 (both_asked Waiting) (held checking) 4 check.own_out (but_one (Synced 0)) [] 0

  -- the check has ended: its row was consistent
  abbrev checked : Stage → (ℕ → Option Hold) → (tokens : ℕ) → (ℕ → Option Command) → Shard
  checked stage frame tokens command =
      record (state 2 (both_asked stage) frame tokens command (but_one (Synced 0)) [] 0) {
        counts = record { consistent = 1; wrong_p = 0; wrong_q = 0; wrong_data = 0; many = 0; skipped = 0; repaired = 0; rebuilt = 0 };
      }

  abbrev row_free : Shard
  row_free = checked Waiting no_hold 4 no_command

  abbrev writes_out : Shard
  writes_out = checked (Held 0) (held all_sent) 8 all_out

  abbrev three_writes_out : Shard
  three_writes_out = checked (Held 0) (held q_confirmed) 8 data_and_p_out

  abbrev two_writes_out : Shard
  two_writes_out = checked (Held 0) (held p_confirmed) 8 data_out

  abbrev one_write_out : Shard
  one_write_out = checked (Held 0) (held other_confirmed) 8 own_out

  abbrev both_finished : Shard
  both_finished = checked (Finished Done) no_hold 8 no_command

  abbrev both_released : Shard
  both_released = checked (Released Done) no_hold 8 no_command

  -- ---- what waits

  no_more : (stage : Stage) (id : ℕ) → both_asked stage (suc (suc id)) ≡ None
  no_more stage id = rw (ne_eqb (suc (suc id)) 1 (past_one id)) (rw (ne_eqb (suc (suc id)) 0 (past_zero (suc id))) refl)

  neither_is : (stage now : Stage) → (stage ≡ now → ⊥) → (id : ℕ) (op : Op) → both_asked stage id ≡ Some (record { op = op; stage = now }) → ⊥
  neither_is stage now ne zero op e =
      ne (ap (λ (r : Request). r.stage) (Some-inj {A = Request} (record { op = Write 0 b; stage = stage }) (record { op = op; stage = now }) e))
  neither_is stage now ne (suc zero) op e =
      ne (ap (λ (r : Request). r.stage) (Some-inj {A = Request} (record { op = Write 1 other; stage = stage }) (record { op = op; stage = now }) e))
  neither_is stage now ne (suc (suc id)) op e = not_both (both_asked stage (suc (suc id))) (record { op = op; stage = now }) (no_more stage id) e

  neither_waits : (stage : Stage) → IsAhead stage → (id : ℕ) (op : Op) (now : Stage) → IsBack now → both_asked stage id ≡ Some (record { op = op; stage = now }) → ⊥
  neither_waits stage ne id op now back e = neither_is stage now (ne now back) id op e

  waiting_not_erred : Waiting ≡ Erred → ⊥
  waiting_not_erred e = cc

  one_erred : (id : ℕ) (op : Op) → asked 0 (Write 0 b) Waiting id ≡ Some (record { op = op; stage = Erred }) → ⊥
  one_erred zero op e = waiting_not_erred (ap (λ (r : Request). r.stage) (Some-inj {A = Request} (record { op = Write 0 b; stage = Waiting }) (record { op = op; stage = Erred }) e))
  one_erred (suc id) op e =
      not_both (asked 0 (Write 0 b) Waiting (suc id)) (record { op = op; stage = Erred }) (put-other (λ (at : ℕ). None) 0 (Some (waiting (Write 0 b))) (suc id) (past_zero id)) e

  -- a write to the row that the check holds waits
  must_wait : (s : Shard) → s.frame 0 ≡ Some checking → (block : ℕ) (x : Block) → small.row_of block ≡ 0 → (op : Op)
      → Some (waiting (Write block x)) ≡ Some (waiting op) → CouldStart small s op → ⊥
  must_wait s there block x in' op e could =
      let same : Write block x ≡ op = ap (λ (r : Request). r.op) (Some-inj {A = Request} (waiting (Write block x)) (waiting op) e) in
      let could_write : CouldStart small s (Write block x) = subst (CouldStart small s) (sym same) could in
      (could_write.1 (λ direct. direct.1)).0 0 checking there (sym in')

  one_must : (id : ℕ) (op : Op) → asked 0 (Write 0 b) Waiting id ≡ Some (record { op = op; stage = Waiting }) → CouldStart small one_waits op → ⊥
  one_must zero op e could = must_wait one_waits refl 0 b refl op e could
  one_must (suc id) op e could =
      not_both (asked 0 (Write 0 b) Waiting (suc id)) (waiting op) (put-other (λ (at : ℕ). None) 0 (Some (waiting (Write 0 b))) (suc id) (past_zero id)) e

  both_must : (id : ℕ) (op : Op) → both_asked Waiting id ≡ Some (record { op = op; stage = Waiting }) → CouldStart small both_wait op → ⊥
  both_must zero op e could = must_wait both_wait refl 0 b refl op e could
  both_must (suc zero) op e could = must_wait both_wait refl 1 other refl op e could
  both_must (suc (suc id)) op e could = not_both (both_asked Waiting (suc (suc id))) (waiting op) (no_more Waiting id) e

  submits_own : IsBlock 16 b → Step small 0 (check.one_read_out (array 0) (array 1)) (Submit (Write 0 b) 0) one_waits
  submits_own sized = (
    refl,
    (n0<2, sized, refl, refl),
    ([], refl),
    held_rests_beside one_waits checking refl refl 0 (fetch 1 0) refl refl refl one_must one_erred (none_built (Synced 0) (λ x. x)),
  )

  submits_other : IsBlock 16 other → Step small 0 one_waits (Submit (Write 1 other) 1) both_wait
  submits_other sized = (
    refl,
    (n1<2, sized, refl, refl),
    ([], refl),
    held_rests_beside both_wait checking refl refl 0 (fetch 1 0) refl refl refl both_must (neither_is Waiting Erred waiting_not_erred) (none_built (Synced 0) (λ x. x)),
  )

  -- ---- the check ends

  abbrev after_check : Shard
  after_check =
      after small (after small (after small (handed_out both_wait 0 (fetch 1 0)) (Learn 0 (fetched 1 0) checking (array 0))) (Classify 0 (check.all_known (array 0) (array 1)) Consistent))
      (Finish 0 (check.classed (array 0) (array 1)) (Classed Consistent))

  yet_waiting : (id : ℕ) → both_asked Waiting id ≡ after_check.request id
  yet_waiting zero = refl
  yet_waiting (suc zero) = refl
  yet_waiting (suc (suc id)) = rw (ne_eqb (suc (suc id)) 1 (past_one id)) (rw (ne_eqb (suc (suc id)) 0 (past_zero (suc id))) refl)

  check_ended : row_free ≡ after_check
  check_ended = λ i. record row_free {
    request = λ id. yet_waiting id i;
    frame = λ f. none_is after_check.frame 0 refl (λ at ne. rw (ne_eqb at 0 ne) refl) f i;
    command = λ t. sym (put-gone no_command 0 (Some (fetch 1 0)) (Some (fetched 1 0)) refl t) i;
  }

  -- ---- one hold serves both writes

  carries : (at : ℕ) → Carries begun_hold.course at (block_at (full b other) at)
  carries at row is = ap (λ r. block_at r at) (both_written_are row b other is.wide)

  -- the plan wants new blocks for every position
  follows : (at : ℕ) → lacks_new begun_hold.course at ≡ true → IsIndexOf at new_blocks
  follows zero e = inl refl
  follows (suc zero) e = inr (inl refl)
  follows (suc (suc zero)) e = inr (inr (inl refl))
  follows (suc (suc (suc zero))) e = inr (inr (inr (inl refl)))
  follows (suc (suc (suc (suc at)))) e = absurd (false≢true e)

  only : (at : ℕ) → IsIndexOf at new_blocks → (lacks_new begun_hold.course at ≡ true) ⊎ ((cell_at begun_hold.course.cells at).standing ≡ Absent)
  only at (inl same) = inl (subst (λ (k : ℕ). lacks_new begun_hold.course k ≡ true) same refl)
  only at (inr (inl same)) = inl (subst (λ (k : ℕ). lacks_new begun_hold.course k ≡ true) same refl)
  only at (inr (inr (inl same))) = inl (subst (λ (k : ℕ). lacks_new begun_hold.course k ≡ true) same refl)
  only at (inr (inr (inr (inl same)))) = inl (subst (λ (k : ℕ). lacks_new begun_hold.course k ≡ true) same refl)
  only at (inr (inr (inr (inr none)))) = absurd none

  may_compute : MayCompute begun_hold.course new_blocks
  may_compute = record {
    held = write_held batch;
    after_reads =
        each (λ c. (c.standing ≡ Absent → ⊥) → IsReadOver c.reading) begun_hold (λ in'. record {}) (λ in'. record {})
        (λ in'. record {}) (λ in'. record {}) (λ in'. record {});
    are_new = (
      refl,
      carries 0,
      inl (inl refl),
      (refl, carries 1, inl (inr (inl refl)), (refl, carries 2, inr n4≤4, (refl, carries 3, inr n4≤5, tt))),
    );
  }

  abbrev after_start : Shard
  after_start =
      after small (after small (after small (after small (after small (after small row_free (Start 0 0 task))
      (Prepare 0 begun_hold (Computes new_blocks))) (Send 0 new_ready 1 0 b)) (Send 0 own_sent 2 0 other)) (Send 0 other_sent 3 0 (p b other))) (Send 0 p_sent 0 0 (q b other))

  both_are_held : (id : ℕ) → both_asked (Held 0) id ≡ after_start.request id
  both_are_held zero = refl
  both_are_held (suc zero) = refl
  both_are_held (suc (suc id)) = rw (ne_eqb (suc (suc id)) 1 (past_one id)) (rw (ne_eqb (suc (suc id)) 0 (past_zero (suc id))) refl)

  started : writes_out ≡ after_start
  started = λ i. record writes_out {
    request = λ id. both_are_held id i;
    frame = λ f. entry_is after_start.frame 0 (Some all_sent) refl (λ at ne. rw (ne_eqb at 0 ne) refl) f i;
  }

  not_twice : IsIndexOf 0 ((1, other) ∷ []) → ⊥
  not_twice (inl e) = absurd (omega (arith, e))
  not_twice (inr none) = absurd none

  started_rests : AtRest small 0 writes_out
  started_rests = held_rests writes_out all_sent refl refl 4 (store 1 0 b) refl refl refl (neither_waits (Held 0) (held_not 0)) (none_built (Synced 0) (λ x. x))

  starts_both : IsBlock 16 b → IsBlock 16 other → Through small 0 Scans row_free writes_out
  starts_both sized other-sized = (
    Start 0 0 task ∷ Prepare 0 begun_hold (Computes new_blocks) ∷ Send 0 new_ready 1 0 b ∷ Send 0 own_sent 2 0 other ∷ Send 0 other_sent 3 0 (p b other) ∷ Send 0 p_sent 0 0 (q b other) ∷ [],
    (
      record {},
      (
        (n0<64, refl, (λ t c out own. not_both {A = Command} None c refl out)),
        (λ f h e own. not_both {A = Hold} None h refl e),
        (n0<1, refl),
        (n0≤2, refl),
        (some_writes (record { id = 0; block = 0; new_data = b }) (record { id = 1; block = 1; new_data = other } ∷ []), (refl, refl, refl, (refl, refl, refl, record {}))),
        (some_batch (0, b) ((1, other) ∷ []), (n0<2, sized, not_twice, (n1<2, other-sized, (λ x. x), tt))),
      ),
      (
        record {},
        (refl, (n0≤2, refl), record {}, may_compute, (refl, may_compute.are_new, follows, only)),
        (
          record {},
          (refl, n1<4, inl refl, (n0≤2, refl), record { held = write_held batch; not_out = in_sync_not_out; after_read = record {}; ready = refl }, (refl, refl), refl),
          (
            record {},
            (refl, n2<4, inl refl, (n0≤2, refl), record { held = write_held batch; not_out = in_sync_not_out; after_read = record {}; ready = refl }, (refl, refl), refl),
            (
              record {},
              (refl, n3<4, inl refl, (n0≤2, refl), record { held = write_held batch; not_out = in_sync_not_out; after_read = record {}; ready = refl }, (refl, refl), refl),
              (
                record {},
                (refl, n0<4, inl refl, (n0≤2, refl), record { held = write_held batch; not_out = in_sync_not_out; after_read = record {}; ready = refl }, (refl, refl), refl),
                started,
              ),
            ),
          ),
        ),
      ),
    ),
  )

  begins : IsBlock 16 (array 0) → IsBlock 16 (array 1) → IsBlock 16 b → IsBlock 16 other
      → Step small 0 (handed_out both_wait 0 (fetch 1 0)) (Deliver 0 (Good (array 0)) Taken) writes_out
  begins was-sized other-was-sized sized other-sized = (
    Learn 0 (fetched 1 0) checking (array 0),
    (refl, refl, refl),
    (refl, refl, refl, refl),
    row_free,
    (
      _,
      ([], refl),
      (
        Classify 0 (check.all_known (array 0) (array 1)) Consistent ∷ Finish 0 (check.classed (array 0) (array 1)) (Classed Consistent) ∷ [],
        (
          record {},
          (refl, (n0≤2, refl), record {}, refl, check.is_read (array 0) (array 1) was-sized other-was-sized),
          (record {}, (refl, check.may_end (array 0) (array 1), (n0≤2, refl), refl), check_ended),
        ),
      ),
    ),
    starts_both sized other-sized,
    started_rests,
  )

  -- ---- the writes are confirmed

  abbrev after_q : Shard
  after_q = after small (handed_out writes_out 7 (store 0 0 (q b other))) (Confirm 7 (stored 0 0) all_sent)

  q_is_confirmed : three_writes_out ≡ after_q
  q_is_confirmed = λ i. record three_writes_out {
    frame = λ f. entry_is after_q.frame 0 (Some q_confirmed) refl (λ at ne. rw (ne_eqb at 0 ne) refl) f i;
    command = λ t. sym (put-gone data_and_p_out 7 (Some (store 0 0 (q b other))) (Some (stored 0 0)) refl t) i;
  }

  confirms_q : Step small 0 (handed_out writes_out 7 (store 0 0 (q b other))) (Deliver 7 (Good (q b other)) Taken) three_writes_out
  confirms_q = (
    Confirm 7 (stored 0 0) all_sent,
    (refl, refl),
    (refl, refl, refl, storing_not_fetch),
    three_writes_out,
    (_, ([], refl), ([], q_is_confirmed)),
    ([], refl),
    held_rests three_writes_out q_confirmed refl refl 4 (store 1 0 b) refl refl refl (neither_waits (Held 0) (held_not 0)) (none_built (Synced 0) (λ x. x)),
  )

  abbrev after_p : Shard
  after_p = after small (handed_out three_writes_out 6 (store 3 0 (p b other))) (Confirm 6 (stored 3 0) q_confirmed)

  p_is_confirmed : two_writes_out ≡ after_p
  p_is_confirmed = λ i. record two_writes_out {
    frame = λ f. entry_is after_p.frame 0 (Some p_confirmed) refl (λ at ne. rw (ne_eqb at 0 ne) refl) f i;
    command = λ t. sym (put-gone data_out 6 (Some (store 3 0 (p b other))) (Some (stored 3 0)) refl t) i;
  }

  confirms_p : Step small 0 (handed_out three_writes_out 6 (store 3 0 (p b other))) (Deliver 6 (Good (p b other)) Taken) two_writes_out
  confirms_p = (
    Confirm 6 (stored 3 0) q_confirmed,
    (refl, refl),
    (refl, refl, refl, storing_not_fetch),
    two_writes_out,
    (_, ([], refl), ([], p_is_confirmed)),
    ([], refl),
    held_rests two_writes_out p_confirmed refl refl 4 (store 1 0 b) refl refl refl (neither_waits (Held 0) (held_not 0)) (none_built (Synced 0) (λ x. x)),
  )

  abbrev after_other : Shard
  after_other = after small (handed_out two_writes_out 5 (store 2 0 other)) (Confirm 5 (stored 2 0) p_confirmed)

  other_is_confirmed : one_write_out ≡ after_other
  other_is_confirmed = λ i. record one_write_out {
    frame = λ f. entry_is after_other.frame 0 (Some other_confirmed) refl (λ at ne. rw (ne_eqb at 0 ne) refl) f i;
    command = λ t. sym (put-gone own_out 5 (Some (store 2 0 other)) (Some (stored 2 0)) refl t) i;
  }

  confirms_other : Step small 0 (handed_out two_writes_out 5 (store 2 0 other)) (Deliver 5 (Good other) Taken) one_write_out
  confirms_other = (
    Confirm 5 (stored 2 0) p_confirmed,
    (refl, refl),
    (refl, refl, refl, storing_not_fetch),
    one_write_out,
    (_, ([], refl), ([], other_is_confirmed)),
    ([], refl),
    held_rests one_write_out other_confirmed refl refl 4 (store 1 0 b) refl refl refl (neither_waits (Held 0) (held_not 0)) (none_built (Synced 0) (λ x. x)),
  )

  abbrev after_own : Shard
  after_own = after small (after small (handed_out one_write_out 4 (store 1 0 b)) (Confirm 4 (stored 1 0) other_confirmed)) (Finish 0 all_confirmed Wrote)

  both_are_finished : (id : ℕ) → both_asked (Finished Done) id ≡ after_own.request id
  both_are_finished zero = refl
  both_are_finished (suc zero) = refl
  both_are_finished (suc (suc id)) = rw (ne_eqb (suc (suc id)) 1 (past_one id)) (rw (ne_eqb (suc (suc id)) 0 (past_zero (suc id))) refl)

  ended : both_finished ≡ after_own
  ended = λ i. record both_finished {
    request = λ id. both_are_finished id i;
    frame = λ f. none_is after_own.frame 0 refl (λ at ne. rw (ne_eqb at 0 ne) refl) f i;
    command = λ t. sym (put-gone no_command 4 (Some (store 1 0 b)) (Some (stored 1 0)) refl t) i;
  }

  owes_none : (at : ℕ) → IsToWrite all_confirmed.course (Writing batch) at → AreConfirmed (cell_at all_confirmed.course.cells at)
  owes_none zero to = (λ in'. refl, out_alone)
  owes_none (suc zero) to = (λ in'. refl, out_alone)
  owes_none (suc (suc zero)) to = (λ in'. refl, out_alone)
  owes_none (suc (suc (suc zero))) to = (λ in'. refl, out_alone)
  owes_none (suc (suc (suc (suc at)))) to = (λ in'. absurd (out_not_in_sync in'), out_alone)

  may_end : MayEnd all_confirmed.course Over
  may_end = record {
    quiet =
        each IsQuiet all_confirmed ((λ in'. (record {}, confirmed_not_sent)), λ there. unwritten_not_sent) ((λ in'. (record {}, confirmed_not_sent)), λ there. unwritten_not_sent)
        ((λ in'. (record {}, confirmed_not_sent)), λ there. unwritten_not_sent) ((λ in'. (record {}, confirmed_not_sent)), λ there. unwritten_not_sent) ((λ in'. (record {}, unwritten_not_sent)), λ there. unwritten_not_sent);
    mended = inr (each (λ c. (c.standing ≡ Rattle.r6_stripe.specs.Holds.Standing.Out → ⊥) → c.reading ≡ Rattle.r6_stripe.specs.Holds.Reading.Unreadable → ⊥) all_confirmed (λ in' e. cc) (λ in' e. cc) (λ in' e. cc) (λ in' e. cc) (λ in' e. cc));
    owes_nothing = owes_none;
  }

  confirms_own : Step small 0 (handed_out one_write_out 4 (store 1 0 b)) (Deliver 4 (Good b) Taken) both_finished
  confirms_own = (
    Confirm 4 (stored 1 0) other_confirmed,
    (refl, refl),
    (refl, refl, refl, storing_not_fetch),
    both_finished,
    (_, ([], refl), (Finish 0 all_confirmed Wrote ∷ [], (record {}, (refl, may_end, (n0≤2, refl), record {}), ended))),
    ([], refl),
    free_rests both_finished (λ f. refl) (neither_waits (Finished Done) (finished_not Done)) (none_built (Synced 0) (λ x. x)),
  )

  -- ---- a look releases the replies

  both_are_released : (id : ℕ) → both_asked (Released Done) id ≡ (after small both_finished Release).request id
  both_are_released zero = refl
  both_are_released (suc zero) = refl
  both_are_released (suc (suc id)) = rw (ne_eqb (suc (suc id)) 1 (past_one id)) (rw (ne_eqb (suc (suc id)) 0 (past_zero (suc id))) refl)

  looks : Step small 0 both_finished (Look (register_with (InSync 0) 0)) both_released
  looks = (
    refl,
    refl,
    both_finished,
    ([], refl),
    (λ slot inside. seen_slots (Synced 0) (Synced 0) (InSync 0) 0 refl slot),
    (both_finished, (_, ([], refl), ([], refl)), ([], λ i. record both_released { request = λ id. both_are_released id i })),
    free_rests both_released (λ f. refl) (neither_waits (Released Done) (released_not Done)) (none_built (Synced 0) (λ x. x)),
  )

  -- ---- all together

  abbrev when_one_waits : View
  when_one_waits = record (check.when_reading_one array) { shard = one_waits }

  abbrev when_both_wait : View
  when_both_wait = record (check.when_reading_one array) { shard = both_wait }

  abbrev when_writing : View
  when_writing = record (when_made array) { shard = writes_out; used = 0 ∷ 1 ∷ 2 ∷ 3 ∷ []; settled = false }

  abbrev when_writing_three : View
  when_writing_three = record when_writing { shard = three_writes_out; device = put_in (at_first array) 0 0 (q b other); used = 7 ∷ 0 ∷ 1 ∷ 2 ∷ 3 ∷ [] }

  abbrev when_writing_two : View
  when_writing_two = record when_writing { shard = two_writes_out; device = put_in when_writing_three.device 3 0 (p b other); used = 6 ∷ 7 ∷ 0 ∷ 1 ∷ 2 ∷ 3 ∷ [] }

  abbrev when_writing_one : View
  when_writing_one = record when_writing { shard = one_write_out; device = put_in when_writing_two.device 2 0 other; used = 5 ∷ 6 ∷ 7 ∷ 0 ∷ 1 ∷ 2 ∷ 3 ∷ [] }

  abbrev when_finished : View
  when_finished = record when_writing { shard = both_finished; device = put_in when_writing_one.device 1 0 b; used = 4 ∷ 5 ∷ 6 ∷ 7 ∷ 0 ∷ 1 ∷ 2 ∷ 3 ∷ [] }

  abbrev at_last : View
  at_last = record when_finished { shard = both_released; settled = true }

  -- a run from one known world to another
  abbrev Goes : World → View → Type 0
  Goes w v = (moments : List Moment) × Run small IsOfOutside w moments × Stands (after_all small w moments) v

  also : (w : World) (v v' : View) → Goes w v → ((between : World) → Stands between v → Goes between v') → Goes w v'
  also w v v' first second =
      let rest = second (after_all small w first.0) first.2 in (
        first.0 ++ rest.0,
        run-append small w first.0 rest.0 first.1 rest.1,
        subst (λ x. Stands x v') (sym (after-append small w first.0 rest.0)) rest.2,
      )

  in_turn : (w : World) (v : View) → Reaches small w (λ later. Stands later v) → Goes w v
  in_turn w v goes = (goes.0, goes.1.run, goes.2)

  waits : IsBlock 16 b → IsBlock 16 other → (w : World) → Stands w (when_made array) → Goes w when_both_wait
  waits sized other-sized w at =
      also w (check.when_reading_one array) when_both_wait (in_turn w (check.when_reading_one array) (check.reads_three array w at))
      (λ w1 at1. also w1 when_one_waits when_both_wait (core_beside w1 (check.when_reading_one array) at1 (Submit (Write 0 b) 0) one_waits n0≤2 (record {}) (submits_own sized))
      (λ w2 at2. core_beside w2 when_one_waits at2 (Submit (Write 1 other) 1) both_wait n0≤2 (record {}) (submits_other other-sized)))

  joins : IsBlock 16 (array 0) → IsBlock 16 (array 1) → IsBlock 16 b → IsBlock 16 other → (w : World) → Stands w when_both_wait → Goes w when_writing
  joins was-sized other-was-sized sized other-sized w at =
      in_turn w when_writing (reads w when_both_wait at 0 1 0 writes_out refl refl n0≤2 (begins was-sized other-was-sized sized other-sized))

  wrote : (w : World) → Stands w when_writing → Reaches small w (λ later. Stands later at_last)
  wrote w at =
      leads w when_writing_three (λ later. Stands later at_last) (writes w when_writing at 7 0 0 (q b other) three_writes_out refl refl n0≤2 confirms_q)
      (λ w1 at1. leads w1 when_writing_two (λ later. Stands later at_last) (writes w1 when_writing_three at1 6 3 0 (p b other) two_writes_out refl refl n0≤2 confirms_p)
      (λ w2 at2. leads w2 when_writing_one (λ later. Stands later at_last) (writes w2 when_writing_two at2 5 2 0 other one_write_out refl refl n0≤2 confirms_other)
      (λ w3 at3. leads w3 when_finished (λ later. Stands later at_last) (writes w3 when_writing_one at3 4 1 0 b both_finished refl refl n0≤2 confirms_own)
      (λ w4 at4. core w4 when_finished at4 (Look (register_with (InSync 0) 0)) both_released n0≤2 (record {}) (sym at4.register_is) looks))))

  all_is_sent : (at : ℕ) → at < 4 → ((cell all_sent at).reading ≡ Unread) × ((cell all_sent at).writing ≡ Sent)
  all_is_sent zero below = (refl, refl)
  all_is_sent (suc zero) below = (refl, refl)
  all_is_sent (suc (suc zero)) below = (refl, refl)
  all_is_sent (suc (suc (suc zero))) below = (refl, refl)
  all_is_sent (suc (suc (suc (suc at)))) below = absurd (omega (arith, below))

  row_written : (w : World) → Stands w at_last → RowIsWritten w b other
  row_written w at = record {
    both_done = (ap (λ s. s.request 0) at.shard_is, ap (λ s. s.request 1) at.shard_is);
    own_put = at.device_is 1 0;
    other_put = at.device_is 2 0;
    p_put = at.device_is 3 0;
    q_put = at.device_is 0 0;
  }

  parts : (w : World) (x1 x2 x3 : List Moment) → Run small IsOfOutside w (x1 ++ x2 ++ x3)
      → Stands (after_all small w x1) when_both_wait → Stands (after_all small w (x1 ++ x2)) when_writing → Stands (after_all small w (x1 ++ x2 ++ x3)) at_last
      → TogetherFrom w b other
  parts w x1 x2 x3 run at1 at2 at3 = record {
    wait = x1;
    begin = x2;
    write = x3;
    is_run = run;
    is_checked = (checking, ap (λ s. s.frame 0) at1.shard_is, refl);
    both_wait = (ap (λ s. s.request 0) at1.shard_is, ap (λ s. s.request 1) at1.shard_is);
    both_held = (ap (λ s. s.request 0) at2.shard_is, ap (λ s. s.request 1) at2.shard_is);
    is_sent = (all_sent, ap (λ s. s.frame 0) at2.shard_is, refl, all_is_sent);
    is_written = row_written (after_all small w (x1 ++ x2 ++ x3)) at3;
  }

  pub together : IsBlock 16 (array 0) → IsBlock 16 (array 1) → IsBlock 16 b → IsBlock 16 other → (w : World) → Stands w (when_made array) → TogetherFrom w b other
  together was-sized other-was-sized sized other-sized w at =
      let first = waits sized other-sized w at in
      let second = joins was-sized other-was-sized sized other-sized (after_all small w first.0) first.2 in
      let front : List Moment = first.0 ++ second.0 in
      let writing : Stands (after_all small w front) when_writing = subst (λ x. Stands x when_writing) (sym (after-append small w first.0 second.0)) second.2 in
      let third = wrote (after_all small w front) writing in
      parts w first.0 second.0 third.0 (run-append small w front third.0 (run-append small w first.0 second.0 first.1 second.1) third.1.run) first.2 writing
      (subst (λ x. Stands x at_last) (sym (after-append small w front third.0)) third.2)

  -- ---- both are handed in together, when no row is held

  abbrev both : List Op
  both = Write 0 b ∷ Write 1 other ∷ []

  -- a check has ended
  abbrev idle : Shard
  idle = record row_free { accepted = 0; request = no_request }

  is_idle : idle ≡ check.after_own (array 0) (array 1)
  is_idle = λ i. record idle {
    frame = λ f. none_is (check.after_own (array 0) (array 1)).frame 0 refl (λ at ne. rw (ne_eqb at 0 ne) refl) f i;
    command = λ t. sym (put-gone no_command 0 (Some (fetch 1 0)) (Some (fetched 1 0)) refl t) i;
  }

  hands_in : IsBlock 16 b → IsBlock 16 other → Step small 0 idle (Submit_all both 0) writes_out
  hands_in sized other-sized = (refl, ((n0<2, sized, refl, refl), ((n1<2, other-sized, refl, refl), record {})), starts_both sized other-sized, started_rests)

  abbrev when_idle : View
  when_idle = record (check.when_checked array) { shard = idle }

  idles : (w : World) → Stands w (check.when_checked array) → Stands w when_idle
  idles w at = record {
    shard_is = at.shard_is ∙ sym is_idle;
    register_is = at.register_is;
    device_is = at.device_is;
    unused = at.unused;
    completed_is = at.completed_is;
    settled_is = at.settled_is;
    few_out = n0≤2;
    not_failed = at.not_failed;
  }

  handed_parts : (w : World) (x1 x2 x3 : List Moment) → Run small IsOfOutside w (x1 ++ x2 ++ x3) → AreHandedIn x2 b other
      → Stands (after_all small w x1) when_idle → Stands (after_all small w (x1 ++ x2)) when_writing → Stands (after_all small w (x1 ++ x2 ++ x3)) at_last
      → HandedInFrom w b other
  handed_parts w x1 x2 x3 run is at1 at2 at3 = record {
    check = x1;
    list = x2;
    write = x3;
    is_run = run;
    is_free = λ frame. ap (λ s. s.frame frame) at1.shard_is;
    is_list = is;
    both_held = (ap (λ s. s.request 0) at2.shard_is, ap (λ s. s.request 1) at2.shard_is);
    is_sent = (all_sent, ap (λ s. s.frame 0) at2.shard_is, refl, all_is_sent);
    is_written = row_written (after_all small w (x1 ++ x2 ++ x3)) at3;
  }

  pub handed_in : IsBlock 16 (array 0) → IsBlock 16 (array 1) → IsBlock 16 b → IsBlock 16 other → (w : World) → Stands w (when_made array) → HandedInFrom w b other
  handed_in was-sized other-was-sized sized other-sized w at =
      let first = check.checks array was-sized other-was-sized w at in
      let mid : World = after_all small w first.0 in
      let idle_now = idles mid first.2 in
      let second = core_at mid when_idle idle_now (Submit_all both 0) writes_out n0≤2 (record {}) (hands_in sized other-sized) in
      let list : List Moment = second.0 ∷ [] in
      let front : List Moment = first.0 ++ list in
      let writing : Stands (after_all small w front) when_writing = subst (λ x. Stands x when_writing) (sym (after-append small w first.0 list)) second.3 in
      let third = wrote (after_all small w front) writing in
      handed_parts w first.0 list third.0 (run-append small w front third.0 (run-append small w first.0 list first.1.run second.2) third.1.run)
      (second.0, writes_out, refl, second.1) idle_now writing
      (subst (λ x. Stands x at_last) (sym (after-append small w front third.0)) third.2)
