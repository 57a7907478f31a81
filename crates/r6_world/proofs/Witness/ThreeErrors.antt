-- Three blocks of a row can't be read: their slots are lost at once, and the array has failed.
use Rattle.std.proofs.Common.{◌≡◌, ℕ, zero, suc, ◌<◌, ◌≤◌, List, [], ◌∷◌, ◌++◌, true, false, inl, inr, refl, sym, ap, subst, ◌∙◌, arith, Option, Some, None, Ok}
use Rattle.std.proofs.lemmas.Bool.{cases_eq, ne_eqb}
use Rattle.r6_stripe.specs.Holds.{after_event}
use Rattle.r6_stripe.specs.Holds.Event.{Asks, Fails}
use Rattle.r6_stripe.specs.Plans.{after_error}
use Rattle.r6_world.specs.Tables.{put}
use Rattle.r6_world.specs.PlainArray.{Array}
use Rattle.r6_world.specs.Registers.{Snapshot, DeclareLost, Degraded, Failed, answer_to, register_after, status_of, InSync}
use Rattle.r6_world.specs.Tasks.{Hold}
use Rattle.r6_world.specs.ShardStates.{Command, Shard, Synced, LossOf, Call, IsLive, Missing}
use Rattle.r6_world.specs.Changes.{Ask, Fail, Give_over, Hand_call, Hear, See_failed, adopted, after}
use Rattle.r6_world.specs.Steps.{Deliver, Read_error, Taken, Look, Step}
use Rattle.r6_world.specs.Worlds.{World, Moment, Core, Tell, Run}
use Rattle.r6_world.specs.Laws.{IsOfOutside}
use Rattle.r6_world.specs.Witness.{small, after_all, ThreeErrorsFrom}
use Rattle.r6_world.proofs.Witness.Pieces.{View, Stands, Reaches, leads, run-append, after-append, take, fetch, handed_out, faults}
use Rattle.r6_world.proofs.Witness.SmallShards.{no_command, on, entry_is, others_in_sync, stopped_rests, n0<1, n0<4, n0≤2, no_write, but_one}
use Rattle.r6_world.proofs.Witness.Written.{fetched, when_made}
use Rattle.r6_world.proofs.Witness.Erred.{when_reading, reads_directly}
use Rattle.r6_world.proofs.Witness.Failed.{three_lost}
use Rattle.r6_world.proofs.Witness.Mended.{both_asked, held_by, others_out, hold_rests, may_ask, unwritten, when_erred, meets_two}
use Rattle.r6_world.proofs.Tables.{put-other}

-- ---- a read error of the other block: Q is read

abbrev other_erred : Hold
other_erred = record both_asked { course = after_event both_asked.course (Fails 1); plan = after_error both_asked.plan }

abbrev q_asked : Hold
q_asked = on other_erred (Asks 3)

abbrev p_left : ℕ → Option Command
p_left = put no_command 3 (Some (fetch 3 0))

abbrev p_and_q_out : Shard
p_and_q_out = held_by q_asked 5 (put p_left 4 (Some (fetch 0 0)))

abbrev after_other : Shard
after_other = after small (after small (handed_out others_out 2 (fetch 2 0)) (Fail 2 (fetched 2 0) both_asked)) (Ask 0 other_erred 0 0)

other-gone : (t : ℕ) → p_left t ≡ put (put others_out.command 2 (Some (fetched 2 0))) 2 None t
other-gone t = elim (cases_eq t 2) [
  | inl same ↦ subst (λ x. p_left x ≡ put (put others_out.command 2 (Some (fetched 2 0))) 2 None x) (sym same) refl
  | inr ne ↦ rw (ne_eqb t 2 ne) refl
]

q_is_out : p_and_q_out ≡ after_other
q_is_out = λ i. record p_and_q_out {
  frame = λ f. entry_is after_other.frame 0 (Some q_asked) refl (λ at ne. rw (ne_eqb at 0 ne) refl) f i;
  command = put (λ t. other-gone t i) 4 (Some (fetch 0 0));
}

fails_other : Step small 0 (handed_out others_out 2 (fetch 2 0)) (Deliver 2 Read_error Taken) p_and_q_out
fails_other = (
  Fail 2 (fetched 2 0) both_asked,
  (refl, refl),
  (refl, refl, refl, refl, refl),
  p_and_q_out,
  (
    _,
    ([], refl),
    (
      Ask 0 other_erred 0 0 ∷ [],
      (
        record {},
        (refl, n0<4, (refl, refl), (n0≤2, refl), may_ask other_erred 3 refl refl refl (unwritten other_erred no_write no_write no_write no_write), refl),
        q_is_out,
      ),
    ),
  ),
  ([], refl),
  hold_rests q_asked 5 (put p_left 4 (Some (fetch 0 0))) refl 3 (fetch 3 0) refl refl refl,
)

-- ---- a read error of P: three slots are lost

abbrev p_taken : Shard
p_taken = handed_out p_and_q_out 3 (fetch 3 0)

abbrev p_erred : Hold
p_erred = record q_asked { course = after_event q_asked.course (Fails 2); plan = after_error q_asked.plan }

abbrev lost : Shard
lost = after small (after small p_taken (Fail 3 (fetched 3 0) q_asked)) (Give_over 0 p_erred)

lost-not-live : IsLive small lost → ⊥
lost-not-live live = few live.0
  where
    few : 3 ≤ 2 → ⊥
    few le = absurd (omega (arith, le))

n3≤3 : 3 ≤ 3
n3≤3 = omega arith

fails_p : Step small 0 p_taken (Deliver 3 Read_error Taken) lost
fails_p = (
  Fail 3 (fetched 3 0) q_asked,
  (refl, refl),
  (refl, refl, refl, refl, refl),
  lost,
  (lost, (Give_over 0 p_erred ∷ [], (record {}, (refl, (n0≤2, refl), refl, n3≤3), refl)), ([], refl)),
  ([], refl),
  stopped_rests lost lost-not-live,
)

-- ---- the losses are declared, and a look sees the failure

abbrev second_and_third : List Call
second_and_third = LossOf 2 0 ∷ LossOf 3 0 ∷ []

abbrev one_taken : Shard
one_taken = after small lost (Hand_call (LossOf 1 0) second_and_third)

abbrev one_told : Shard
one_told = after small one_taken (Hear (LossOf 1 0) (Ok Degraded))

abbrev two_taken : Shard
two_taken = after small one_told (Hand_call (LossOf 2 0) (LossOf 3 0 ∷ []))

abbrev two_told : Shard
two_told = after small two_taken (Hear (LossOf 2 0) (Ok Degraded))

abbrev three_taken : Shard
three_taken = after small two_told (Hand_call (LossOf 3 0) [])

abbrev three_told : Shard
three_told = after small three_taken (Hear (LossOf 3 0) (Ok Failed))

abbrev stopped : Shard
stopped = after small three_told See_failed

stopped-not-live : IsLive small stopped → ⊥
stopped-not-live live = clash live.1
  where
    clash : true ≡ false → ⊥
    clash e = cc

other_slot : (slot : ℕ) → three_told.slot (suc (suc (suc (suc slot)))) ≡ Synced 0
other_slot slot =
    put-other (put (put (but_one (Synced 0)) 1 Missing) 2 Missing) 3 Missing (suc (suc (suc (suc slot)))) (λ e. omega (arith, e))
    ∙ put-other (put (but_one (Synced 0)) 1 Missing) 2 Missing (suc (suc (suc (suc slot)))) (λ e. omega (arith, e))
    ∙ put-other (but_one (Synced 0)) 1 Missing (suc (suc (suc (suc slot)))) (λ e. omega (arith, e))
    ∙ put-other (λ d. Synced 0) 1 (Synced 0) (suc (suc (suc (suc slot)))) (λ e. omega (arith, e))

all_seen : (slot : ℕ) → three_told.slot slot ≡ adopted (three_told.slot slot) (status_of three_lost slot)
all_seen zero = refl
all_seen (suc zero) = refl
all_seen (suc (suc zero)) = refl
all_seen (suc (suc (suc zero))) = refl
all_seen (suc (suc (suc (suc slot)))) =
    other_slot slot ∙ sym (ap (adopted (three_told.slot (suc (suc (suc (suc slot)))))) (others_in_sync 28 slot) ∙ ap (λ y. adopted y (InSync 0)) (other_slot slot))

looks : Step small 0 three_told (Look three_lost) stopped
looks = (refl, refl, three_told, ([], refl), (λ slot inside. all_seen slot), refl, stopped_rests stopped stopped-not-live)

-- ---- all together

abbrev one_lost : Snapshot → Snapshot
one_lost r = register_after small r (DeclareLost 1 0) (Ok Degraded)

abbrev two_lost : Snapshot → Snapshot
two_lost r = register_after small (one_lost r) (DeclareLost 2 0) (Ok Degraded)

abbrev all_lost : Snapshot → Snapshot
all_lost r = register_after small (two_lost r) (DeclareLost 3 0) (Ok Failed)

abbrev when_two_erred : Array → View
when_two_erred array = record (when_made array) { shard = p_and_q_out; settled = false }

abbrev when_taken : Array → View
when_taken array = record (when_two_erred array) { shard = p_taken }

abbrev error_of : World → Moment
error_of w = record { happening = Core 0 (Deliver 3 Read_error Taken) lost; noise = w.device }

abbrev failure_of : World → List Moment
failure_of w =
    record { happening = Tell 0 (LossOf 1 0) (Ok Degraded) one_taken one_told; noise = w.device }
    ∷ record { happening = Tell 0 (LossOf 2 0) (Ok Degraded) two_taken two_told; noise = w.device }
    ∷ record { happening = Tell 0 (LossOf 3 0) (Ok Failed) three_taken three_told; noise = w.device }
    ∷ record { happening = Core 0 (Look three_lost) stopped; noise = w.device } ∷ []

fails_at_last : (array : Array) (w : World) → Stands w (when_taken array) → Run small IsOfOutside w (error_of w ∷ failure_of w)
fails_at_last array w at = (
  (n0<1, record {}, subst (λ s. Step small 0 s (Deliver 3 Read_error Taken) lost) (sym at.shard_is) fails_p),
  (
    (n0<1, inl (sym (ap (λ r. answer_to small r (DeclareLost 1 0)) at.register_is)), (second_and_third, (refl, refl), refl), (refl, refl)),
    (
      (n0<1, inl (sym (ap (λ r. answer_to small (one_lost r) (DeclareLost 2 0)) at.register_is)), (LossOf 3 0 ∷ [], (refl, refl), refl), (refl, refl)),
      (
        (n0<1, inl (sym (ap (λ r. answer_to small (two_lost r) (DeclareLost 3 0)) at.register_is)), ([], (refl, refl), refl), (refl, refl)),
        ((n0<1, sym (ap all_lost at.register_is), looks), record {}),
      ),
    ),
  ),
)

still_synced : (slot : ℕ) → slot < 4 → p_taken.slot slot ≡ Synced 0
still_synced zero below = refl
still_synced (suc zero) below = refl
still_synced (suc (suc zero)) below = refl
still_synced (suc (suc (suc zero))) below = refl
still_synced (suc (suc (suc (suc slot)))) below = absurd (omega (arith, below))

from : (array : Array) (w : World) (x : List Moment) → Run small IsOfOutside w x → Stands (after_all small w x) (when_taken array) → ThreeErrorsFrom w
from array w x run at =
    let w1 : World = after_all small w x in
    let all : List Moment = error_of w1 ∷ failure_of w1 in
    let same : after_all small w (x ++ all) ≡ after_all small w1 all = after-append small w x all in
    record {
      errors = x;
      error = error_of w1;
      failure = failure_of w1;
      is_run = run-append small w x all run (fails_at_last array w1 at);
      in_sync = λ slot below. ap (λ s. s.slot slot) at.shard_is ∙ still_synced slot below;
      has_first = (0, q_asked, 0, ap (λ s. s.frame 0) at.shard_is, refl, refl);
      has_second = (0, q_asked, 1, ap (λ s. s.frame 0) at.shard_is, refl, refl);
      is_error = (3, fetched 3 0, lost, ap (λ s. s.command 3) at.shard_is, refl, refl, refl);
      has_failed = ap (λ y. y.register.failed) same ∙ ap (λ r. (all_lost r).failed) at.register_is;
      is_refused = ap (λ y. (y.shard 0).request 0) same;
    }

pub three_errors : (array : Array) (w : World) → Stands w (when_made array) → ThreeErrorsFrom w
three_errors array w at =
    let errors : Reaches small w (λ later. Stands later (when_two_erred array)) =
    leads w (when_reading array) (λ later. Stands later (when_two_erred array)) (reads_directly array w at)
    (λ x1 at1. leads x1 (when_erred array) (λ later. Stands later (when_two_erred array)) (meets_two array x1 at1)
    (λ x2 at2. faults x2 (when_erred array) at2 0 2 2 0 p_and_q_out refl n0≤2 fails_other)) in
    let w1 : World = after_all small w errors.0 in
    let taken = take w1 (when_two_erred array) errors.2 3 (fetch 3 0) refl refl in
    from array w (errors.0 ++ taken.0) (run-append small w errors.0 taken.0 errors.1.run taken.1.run)
    (subst (λ y. Stands y (when_taken array)) (sym (after-append small w errors.0 taken.0)) taken.2.0)
