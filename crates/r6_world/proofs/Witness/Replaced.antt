-- The device of slot 1 is replaced while it is in service: the block of its one row is copied to the new device, the
-- rebuild completes, a look leaves the new device alone, and it is read.
use Rattle.std.proofs.Common.{◌≡◌, ◌⊎◌, ℕ, zero, suc, List, [], ◌∷◌, Bool, true, false, inl, inr, refl, sym, subst, arith, Some, None, Ok}
use Rattle.std.proofs.lemmas.Bool.{ne_eqb, false≢true}
use Rattle.r6_stripe.specs.Plans.{lacks_new}
use Rattle.r6_stripe.specs.Holds.{IsIndexOf, IsQuiet, MayCompute, MayEnd, cell_at, IsReadOver}
use Rattle.r6_stripe.specs.Holds.Standing.{Out as Absent}
use Rattle.r6_stripe.specs.Holds.Outcome.{Rebuilt as MadeAnew}
use Rattle.r6_stripe.specs.Holds.Event.{Asks, Gives, Computes, Copies, Settles}
use Rattle.r6_world.specs.Tables.{put, put_in}
use Rattle.r6_layout.specs.PlainArray.{Block}
use Rattle.r6_world.specs.PlainArray.{Array, Read, Data}
use Rattle.r6_world.specs.Registers.{InSync, Replacing, no_shards, Replace, Generation, Complete}
use Rattle.r6_world.specs.Tasks.{Rebuild, Hold, Rebuilt}
use Rattle.r6_world.specs.ShardStates.{Reading, Finished, Released, Storing, Command, Shard, SlotState, Synced, Doubled, Paired, RebuildOf, begun}
use Rattle.r6_world.specs.Changes.{Accept, Start, Ask, Prepare, Copy, Learn, Confirm, Finish, Adopt, Bring_in, Release, Hand_call, AllBuilt, after, Read_direct, Give_direct}
use Rattle.r6_world.specs.Steps.{Submit, Deliver, Good, Taken, Look, Turn_started, Step}
use Rattle.r6_world.specs.Worlds.{World}
use Rattle.r6_world.specs.Witness.{small}
use Rattle.r6_world.proofs.Tables.{put-same, not_both}
use Rattle.r6_world.proofs.Witness.Pieces.{Reaches, View, Stands, leads, quiet, core, reads, reads_in, writes_to, outside, tells, fetch, fetch_in, store_to, handed_out}
use Rattle.r6_world.proofs.Witness.SmallShards.{no_request, no_hold, no_command, but_one, but_one-put, but_one-put_twice, asked, held, on, state, register_with, seen_slots, none_built, entry_is, none_is, put-gone, one_waits_not, none_wait, reading_not, n64<128, n64≤64, finished_not, released_not, held_rests, free_rests, each, HasNoWrite, no_write, rebuild_held, unwritten_not_sent, confirmed_not_sent, storing_not_fetch, n0<1, n0<2, n0<4, n1<4, n0<64, n0≤2}
use Rattle.r6_world.proofs.Witness.Written.{made, fetched, when_made}

-- ---- the replacement

abbrev pub unbuilt : SlotState
unbuilt = Doubled 0 1 (λ row. false)

abbrev pub doubled : Shard
doubled = state 0 no_request no_hold 0 no_command (but_one unbuilt) [] 0

not_built : AllBuilt small 0 unbuilt → ⊥
not_built all = false_not_true (all 0 (n0<1, refl))
  where
    false_not_true : false ≡ true → ⊥
    false_not_true e = cc

taken_in : doubled ≡ after small made (Adopt 1 (Replacing 0 1 no_shards))
taken_in = λ i. record doubled { slot = λ d. but_one-put (Synced 0) unbuilt d i }

sees_both : Step small 0 made (Look (register_with (Replacing 0 1 no_shards) 1)) doubled
sees_both = (
  refl,
  refl,
  doubled,
  (Adopt 1 (Replacing 0 1 no_shards) ∷ [], (refl, (n1<4, refl), taken_in)),
  (λ slot inside. seen_slots (Synced 0) unbuilt (Replacing 0 1 no_shards) 1 refl slot),
  (doubled, (_, ([], refl), ([], refl)), ([], refl)),
  free_rests doubled (λ f. refl) none_wait (none_built unbuilt not_built),
)

-- ---- the hold

abbrev begun_rebuild : Hold
begun_rebuild = begun small (but_one unbuilt) 0 (Rebuild 1 1)

abbrev own_asked : Hold
own_asked = on begun_rebuild (Asks 0)

abbrev own_known : Block → Hold
own_known b = on own_asked (Gives 0 b)

abbrev new_block : Block → List (ℕ × Block)
new_block b = (0, b) ∷ []

abbrev own_ready : Block → Hold
own_ready b = on (own_known b) (Computes (new_block b))

abbrev own_copied : Block → Hold
own_copied b = on (own_ready b) (Copies 0 b)

abbrev own_settled : Block → Hold
own_settled b = on (own_copied b) (Settles 0)

-- ---- the states

abbrev read_of_row : Shard
read_of_row = state 0 no_request (held own_asked) 1 (put no_command 0 (Some (fetch 1 0))) (but_one unbuilt) [] 0

abbrev copy_out : Block → Shard
copy_out b = state 0 no_request (held (own_copied b)) 2 (put no_command 1 (Some (store_to true 1 1 b))) (but_one unbuilt) [] 0

abbrev row_built : Shard
row_built = state 0 no_request no_hold 2 no_command (but_one (Paired 0 1)) (RebuildOf 1 1 ∷ []) 1

abbrev pub rebuild_told : Shard
rebuild_told = state 0 no_request no_hold 2 no_command (but_one (Paired 0 1)) [] 1

abbrev replaced : Shard
replaced = state 0 no_request no_hold 2 no_command (but_one (Synced 1)) [] 1

-- ---- a turn begins the rebuild of the row, which reads the old device

abbrev after_turn : Shard
after_turn = after small (after small doubled (Start 0 0 (Rebuild 1 1))) (Ask 0 begun_rebuild 1 0)

begun_anew : read_of_row ≡ after_turn
begun_anew = λ i. record read_of_row { frame = λ f. entry_is after_turn.frame 0 (Some own_asked) refl (λ at ne. rw (ne_eqb at 0 ne) refl) f i }

turns : Step small 0 doubled (Turn_started (Rebuild 1 1)) read_of_row
turns = (
  record {},
  0,
  0,
  (
    (n0<64, refl, (λ t c e own. not_both {A = Command} None c refl e)),
    (λ f h e own. not_both {A = Hold} None h refl e),
    (n0<1, refl),
    (n0≤2, refl),
    (n1<4, (λ row. false), (refl, refl), refl),
    (n0<4, refl),
  ),
  (
    Ask 0 begun_rebuild 1 0 ∷ [],
    (
      record {},
      (refl, n1<4, (inl refl, refl), (n0≤2, refl), record { held = rebuild_held 0; in_sync = refl; unread = tt; before_writes = each HasNoWrite begun_rebuild no_write no_write no_write no_write no_write }, refl),
      begun_anew,
    ),
  ),
  held_rests read_of_row own_asked refl refl 0 (fetch 1 0) refl refl refl none_wait (none_built unbuilt not_built),
)

-- ---- the block is copied

-- the plan wants a new block for just this position
follows : (b : Block) (at : ℕ) → lacks_new (own_known b).course at ≡ true → IsIndexOf at (new_block b)
follows b zero e = inl refl
follows b (suc zero) e = absurd (false≢true e)
follows b (suc (suc zero)) e = absurd (false≢true e)
follows b (suc (suc (suc zero))) e = absurd (false≢true e)
follows b (suc (suc (suc (suc at)))) e = absurd (false≢true e)

-- and only this position gets one
only : (b : Block) (at : ℕ) → IsIndexOf at (new_block b) → (lacks_new (own_known b).course at ≡ true) ⊎ ((cell_at (own_known b).course.cells at).standing ≡ Absent)
only b at (inl same) = inl (subst (λ (k : ℕ). lacks_new (own_known b).course k ≡ true) same refl)
only b at (inr none) = absurd none

may_compute : (b : Block) → MayCompute (own_known b).course (new_block b)
may_compute b = record {
  held = rebuild_held 0;
  after_reads =
      each (λ c. (c.standing ≡ Absent → ⊥) → IsReadOver c.reading) (own_known b) (λ in'. record {}) (λ in'. record {})
      (λ in'. record {}) (λ in'. record {}) (λ in'. record {});
  are_new = (refl, (λ row is. is.same 0 b refl), refl, tt);
}

abbrev after_read : Block → Shard
after_read b =
    after small (after small (after small (handed_out read_of_row 0 (fetch 1 0)) (Learn 0 (fetched 1 0) own_asked b)) (Prepare 0 (own_known b) (Computes (new_block b))))
    (Copy 0 (own_ready b) 1 1 b)

computed : (b : Block) → copy_out b ≡ after_read b
computed b = λ i. record (copy_out b) {
  frame = λ f. entry_is (after_read b).frame 0 (Some (own_copied b)) refl (λ at ne. rw (ne_eqb at 0 ne) refl) f i;
  command = put (λ t. sym (put-gone no_command 0 (Some (fetch 1 0)) (Some (fetched 1 0)) refl t) i) 1 (Some (store_to true 1 1 b));
}

learns : (b : Block) → Step small 0 (handed_out read_of_row 0 (fetch 1 0)) (Deliver 0 (Good b) Taken) (copy_out b)
learns b = (
  Learn 0 (fetched 1 0) own_asked b,
  (refl, refl, refl),
  (refl, refl, refl, refl),
  copy_out b,
  (
    _,
    ([], refl),
    (
      Prepare 0 (own_known b) (Computes (new_block b)) ∷ Copy 0 (own_ready b) 1 1 b ∷ [],
      (
        record {},
        (refl, (n0≤2, refl), record {}, may_compute b, (refl, (may_compute b).are_new, follows b, only b)),
        (
          record {},
          (
            refl,
            n1<4,
            inr ((λ row. false), refl, (refl, refl)),
            (n0≤2, refl),
            record { held = rebuild_held 0; second = tt; after_read = record {}; ready = refl },
            (refl, refl),
            one_is_not_zero,
          ),
          computed b,
        ),
      ),
    ),
  ),
  ([], refl),
  held_rests (copy_out b) (own_copied b) refl refl 1 (store_to true 1 1 b) refl refl refl none_wait (none_built unbuilt not_built),
)
  where
    one_is_not_zero : ◌≡◌ {A = ℕ} 1 0 → ⊥
    one_is_not_zero e = absurd (omega (arith, e))

-- ---- the copy is confirmed, and the slot has both devices in sync

abbrev built : ℕ → Bool
built = put (λ row. false) 0 true

all_built : AllBuilt small 0 (Doubled 0 1 built)
all_built row own = put-same (λ other. false) 0 true row (omega (arith, own.0))

may_end : (b : Block) → MayEnd (own_settled b).course MadeAnew
may_end b = record {
  quiet =
      each IsQuiet (own_settled b) ((λ in'. (record {}, unwritten_not_sent)), λ there. confirmed_not_sent) ((λ in'. (record {}, unwritten_not_sent)), λ there. unwritten_not_sent)
      ((λ in'. (record {}, unwritten_not_sent)), λ there. unwritten_not_sent) ((λ in'. (record {}, unwritten_not_sent)), λ there. unwritten_not_sent) ((λ in'. (record {}, unwritten_not_sent)), λ there. unwritten_not_sent);
  mended = inr (each (λ c. (c.standing ≡ Absent → ⊥) → c.reading ≡ Rattle.r6_stripe.specs.Holds.Reading.Unreadable → ⊥) (own_settled b) (λ in' e. cc) (λ in' e. cc) (λ in' e. cc) (λ in' e. cc) (λ in' e. cc));
  owes_nothing = (inr refl, refl);
}

abbrev copied : Command
copied = record { frame = 0; slot = 1; generation = 1; row = 0; transfer = Storing; taken = true; abandoned = false; copy = true }

abbrev after_copy : Block → Shard
after_copy b =
    after small (after small (after small (handed_out (copy_out b) 1 (store_to true 1 1 b)) (Confirm 1 copied (own_copied b))) (Finish 0 (own_settled b) Rebuilt)) (Bring_in 1 1)

came_in : (b : Block) → row_built ≡ after_copy b
came_in b = λ i. record row_built {
  frame = λ f. none_is (after_copy b).frame 0 refl (λ at ne. rw (ne_eqb at 0 ne) refl) f i;
  command = λ t. sym (put-gone no_command 1 (Some (store_to true 1 1 b)) (Some copied) refl t) i;
  slot = λ d. but_one-put_twice unbuilt (Doubled 0 1 built) (Paired 0 1) d i;
}

confirms : (b : Block) → Step small 0 (handed_out (copy_out b) 1 (store_to true 1 1 b)) (Deliver 1 (Good b) Taken) row_built
confirms b = (
  Confirm 1 copied (own_copied b),
  (refl, refl),
  (refl, refl, refl, storing_not_fetch),
  row_built,
  (
    _,
    ([], refl),
    (
      Finish 0 (own_settled b) Rebuilt ∷ Bring_in 1 1 ∷ [],
      (
        record {},
        (refl, may_end b, (n0≤2, refl), ((λ row. false), (refl, refl))),
        (record {}, (built, (refl, refl), all_built, (n0≤2, refl)), came_in b),
      ),
    ),
  ),
  ([], refl),
  free_rests row_built (λ f. refl) none_wait (none_built (Paired 0 1) (λ x. x)),
)

-- ---- the report, and a look that leaves the new device alone

abbrev telling : Shard
telling = after small row_built (Hand_call (RebuildOf 1 1) [])

left_alone : replaced ≡ after small rebuild_told (Adopt 1 (InSync 1))
left_alone = λ i. record replaced { slot = λ d. but_one-put (Paired 0 1) (Synced 1) d i }

sees_new : Step small 0 rebuild_told (Look (register_with (InSync 1) 1)) replaced
sees_new = (
  refl,
  refl,
  replaced,
  (Adopt 1 (InSync 1) ∷ [], (refl, (n1<4, refl), left_alone)),
  (λ slot inside. seen_slots (Paired 0 1) (Synced 1) (InSync 1) 1 refl slot),
  (replaced, (_, ([], refl), ([], refl)), ([], refl)),
  free_rests replaced (λ f. refl) none_wait (none_built (Synced 1) (λ x. x)),
)

-- ---- a read of the new device

abbrev read_out : Shard
read_out = state 1 (asked 0 (Read 0) (Reading 2)) no_hold 3 (put no_command 2 (Some (fetch_in 64 1 1))) (but_one (Synced 1)) [] 1

abbrev read_finished : Block → Shard
read_finished b = state 1 (asked 0 (Read 0) (Finished (Data b))) no_hold 3 no_command (but_one (Synced 1)) [] 1

abbrev read_released : Block → Shard
read_released b = state 1 (asked 0 (Read 0) (Released (Data b))) no_hold 3 no_command (but_one (Synced 1)) [] 1

abbrev after_submit : Shard
after_submit = after small (after small replaced (Accept (Read 0))) (Read_direct 64 0 0 1)

submitted : read_out ≡ after_submit
submitted = λ i. record read_out {
  request = λ id. entry_is after_submit.request 0 (Some (record { op = Read 0; stage = Reading 2 })) refl (λ at ne. rw (ne_eqb at 0 ne) refl) id i;
}

submits : Step small 0 replaced (Submit (Read 0) 0) read_out
submits = (
  refl,
  (n0<2, record {}, refl, refl),
  (
    Read_direct 64 0 0 1 ∷ [],
    (
      record {},
      ((n64≤64, n64<128, (λ t c e own. not_both {A = Command} None c refl e)), refl, (n0<1, refl), n1<4, (refl, refl), (n0≤2, refl), omega arith, (λ p. not_both {A = Hold} None p.1 refl p.2)),
      submitted,
    ),
  ),
  free_rests read_out (λ f. refl) (one_waits_not 0 (Read 0) (Reading 2) (reading_not 2)) (none_built (Synced 1) (λ x. x)),
)

abbrev own_fetched : Command
own_fetched = record (fetch_in 64 1 1) { taken = true }

abbrev after_answer : Block → Shard
after_answer b = after small (handed_out read_out 2 (fetch_in 64 1 1)) (Give_direct 2 own_fetched 0 0 b)

read_ended : (b : Block) → read_finished b ≡ after_answer b
read_ended b = λ i. record (read_finished b) {
  request = λ id. entry_is (after_answer b).request 0 (Some (record { op = Read 0; stage = Finished (Data b) })) refl (λ at ne. rw (ne_eqb at 0 ne) refl) id i;
  command = λ t. sym (put-gone no_command 2 (Some (fetch_in 64 1 1)) (Some own_fetched) refl t) i;
}

gives : (b : Block) → Step small 0 (handed_out read_out 2 (fetch_in 64 1 1)) (Deliver 2 (Good b) Taken) (read_finished b)
gives b = (
  Give_direct 2 own_fetched 0 0 b,
  (refl, refl, refl),
  (refl, refl, refl),
  read_finished b,
  (_, ([], refl), ([], read_ended b)),
  ([], refl),
  free_rests (read_finished b) (λ f. refl) (one_waits_not 0 (Read 0) (Finished (Data b)) (finished_not (Data b))) (none_built (Synced 1) (λ x. x)),
)

answered : (b : Block) → read_released b ≡ after small (read_finished b) Release
answered b = λ i. record (read_released b) {
  request = λ id. entry_is (after small (read_finished b) Release).request 0 (Some (record { op = Read 0; stage = Released (Data b) })) refl (λ at ne. rw (ne_eqb at 0 ne) refl) id i;
}

looks : (b : Block) → Step small 0 (read_finished b) (Look (register_with (InSync 1) 1)) (read_released b)
looks b = (
  refl,
  refl,
  read_finished b,
  ([], refl),
  (λ slot inside. seen_slots (Synced 1) (Synced 1) (InSync 1) 1 refl slot),
  (read_finished b, (_, ([], refl), ([], refl)), ([], answered b)),
  free_rests (read_released b) (λ f. refl) (one_waits_not 0 (Read 0) (Released (Data b)) (released_not (Data b))) (none_built (Synced 1) (λ x. x)),
)

-- ---- all together

abbrev device_there : Array → View
device_there array = record (when_made array) { register = register_with (Replacing 0 1 no_shards) 1; settled = false }

abbrev pub when_doubled : Array → View
when_doubled array = record (when_made array) { shard = doubled; register = register_with (Replacing 0 1 no_shards) 1 }

abbrev when_reading_row : Array → View
when_reading_row array = record (when_doubled array) { shard = read_of_row; settled = false }

abbrev when_copying : Array → View
when_copying array = record (when_doubled array) { shard = copy_out (array 0); used = 0 ∷ []; settled = false }

abbrev when_built : Array → View
when_built array =
    record (when_doubled array) {
      shard = row_built;
      device = put_in (when_made array).device 1 1 (array 0);
      used = 1 ∷ 0 ∷ [];
      settled = false;
    }

abbrev pub when_told : Array → View
when_told array = record (when_built array) { shard = rebuild_told; register = register_with (InSync 1) 1; completed = Some 1 }

abbrev pub when_replaced : Array → View
when_replaced array = record (when_told array) { shard = replaced; settled = true }

abbrev when_reading : Array → View
when_reading array = record (when_told array) { shard = read_out }

abbrev when_finished : Array → View
when_finished array = record (when_told array) { shard = read_finished (array 0); used = 2 ∷ 1 ∷ 0 ∷ [] }

abbrev pub at_last : Array → View
at_last array = record (when_finished array) { shard = read_released (array 0); settled = true }

pub replaces : (array : Array) (w : World) → Stands w (when_made array) → Reaches small w (λ later. Stands later (when_doubled array))
replaces array w at =
    leads w (device_there array) (λ later. Stands later (when_doubled array))
    (outside w (when_made array) at (Replace 1) (record {}) (Ok (Generation 1)) refl refl None (λ before e. refl) false (λ before e. refl))
    (λ x1 at1. core x1 (device_there array) at1 (Look (register_with (Replacing 0 1 no_shards) 1)) doubled n0≤2 (record {}) (sym at1.register_is) sees_both)

pub completes : (array : Array) (w : World) → Stands w (when_doubled array) → Reaches small w (λ later. Stands later (when_told array))
completes array w at =
    leads w (when_reading_row array) (λ later. Stands later (when_told array)) (core w (when_doubled array) at (Turn_started (Rebuild 1 1)) read_of_row n0≤2 (record {}) (record {}) turns)
    (λ x1 at1. leads x1 (when_copying array) (λ later. Stands later (when_told array)) (reads x1 (when_reading_row array) at1 0 1 0 (copy_out (array 0)) refl refl n0≤2 (learns (array 0)))
    (λ x2 at2. leads x2 (when_built array) (λ later. Stands later (when_told array)) (writes_to x2 (when_copying array) at2 true 1 1 1 (array 0) row_built refl refl n0≤2 (confirms (array 0)))
    (λ x3 at3. tells x3 (when_built array) at3 (RebuildOf 1 1) (Ok Complete) telling rebuild_told refl refl n0≤2 ([], (refl, refl), refl) (refl, refl) (Some 1) (λ before e. refl) (λ before e. refl))))

pub leaves : (array : Array) (w : World) → Stands w (when_told array) → Reaches small w (λ later. Stands later (when_replaced array))
leaves array w at = core w (when_told array) at (Look (register_with (InSync 1) 1)) replaced n0≤2 (record {}) (sym at.register_is) sees_new

pub reads_new : (array : Array) (w : World) → Stands w (when_replaced array) → Reaches small w (λ later. Stands later (at_last array))
reads_new array w at =
    leads w (when_reading array) (λ later. Stands later (at_last array)) (core w (when_replaced array) at (Submit (Read 0) 0) read_out n0≤2
    (quiet w (when_replaced array) at (λ t. refl) refl refl refl) (record {}) submits)
    (λ x1 at1. leads x1 (when_finished array) (λ later. Stands later (at_last array)) (reads_in x1 (when_reading array) at1 2 64 1 1 (read_finished (array 0)) refl refl n0≤2 (gives (array 0)))
    (λ x2 at2. core x2 (when_finished array) at2 (Look (register_with (InSync 1) 1)) (read_released (array 0)) n0≤2 (record {}) (sym at2.register_is) (looks (array 0))))
