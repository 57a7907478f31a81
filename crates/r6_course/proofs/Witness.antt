-- There are courses.
use Rattle.std.proofs.Common.{◌≡◌, ◌≢◌, ℕ, zero, suc, ◌+◌, ◌<◌, ◌≤◌, List, [], ◌∷◌, ◌++◌, Bool, true, false, if◌then◌else◌, refl, sym, ap, subst, ◌∙◌, arith, Some, None}
use Rattle.std.proofs.lemmas.Bool.{false≢true, true≢false}
use Rattle.r6_dev.specs.History.{Telling}
use Rattle.r6_health.specs.Histories.{Name}
use Rattle.r6_world.specs.Tables.{count_below}
use Rattle.r6_layout.specs.PlainArray.{Block}
use Rattle.r6_world.specs.PlainArray.{Array, Read, Data}
use Rattle.r6_world.specs.Claims.{IsFresh}
use Rattle.r6_world.specs.Registers.{Snapshot, Status, InSync, Lost, Rebuilding, Replacing, Degraded, is_out, status_of}
use Rattle.r6_world.specs.ShardStates.{Shard, InSyncFor, is_away, away}
use Rattle.r6_world.specs.Changes.{Hand_reply, after}
use Rattle.r6_world.specs.Steps.{Take_reply}
use Rattle.r6_world.specs.Worlds.{World, Devices, Moment, slot_at_start}
use Rattle.r6_world.specs.Witness.{small, after_all, CourseFrom, RunsInTurn}
use Rattle.r6_world.proofs.Tables.{not_both, Some-inj, count-le}
use Rattle.r6_world.proofs.Witness.Course as world
use Rattle.r6_world.proofs.Witness.Pieces.{Stands, goes-append, after-append}
use Rattle.r6_world.proofs.Witness.SmallShards.{register_with}
use Rattle.r6_world.proofs.Witness.Replaced.{when_told, replaces, completes}
use Rattle.r6_world.proofs.Tables.{None-not_Some}
use Rattle.r6_course.specs.Courses.{Start, first_world, IsLawful, marked, history_of, looked_of, Stand, Tells, Follows}
use Rattle.r6_course.specs.Witness.{all_tell, small_start, BeginsHeld, ReplacesHeld, AreBothHeld, AnswersFrom, WitnessLaw}
use Rattle.r6_course.proofs.Calls.{calls_go_on}
use Rattle.r6_course.proofs.Sees.{log_of, log-sees}

-- parts that tell all that the devices have
tells-all : (s : Start) (device : Devices) (slot g : ℕ) (telling : Telling) → all_tell device slot g ≡ Some telling
    → Tells s (device slot g) telling
tells-all s device slot g telling there = subst (Tells s (device slot g)) (Some-inj (Some (device slot g)) telling there) (λ row in'. refl)

-- ---- where a course begins

-- if not all numbers pass, one doesn't
some-fails : (p : ℕ → Bool) (n : ℕ) → count_below p n < n → (d : ℕ) × (d < n) × (p d ≡ false)
some-fails p zero less = absurd (omega arith)
some-fails p (suc n) less = at (some-fails p n) (p n) refl
  where
    at : (count_below p n < n → (d : ℕ) × (d < n) × (p d ≡ false)) → (b : Bool) → p n ≡ b
        → (d : ℕ) × (d < suc n) × (p d ≡ false)
    at below false e = (n, omega arith, e)
    at below true e =
        let count : count_below p (suc n) ≡ 1 + count_below p n = ap (λ y. (if y then 1 else 0) + count_below p n) e in
        let rest = below (omega arith) in
        (rest.0, (let small' = rest.1 in omega arith), rest.2)

is-in-sync : (status : Status) → IsFresh status → is_out status ≡ false → status ≡ InSync 0
is-in-sync (InSync g) fresh e = ap InSync fresh
is-in-sync Lost fresh e = absurd (true≢false e)
is-in-sync (Rebuilding g by) fresh e = absurd fresh
is-in-sync (Replacing old new by) fresh e = absurd fresh

away-is-out : (status : Status) → IsFresh status → is_away (slot_at_start status) ≡ true → is_out status ≡ true
away-is-out (InSync g) fresh e = absurd (false≢true e)
away-is-out Lost fresh e = refl
away-is-out (Rebuilding g by) fresh e = absurd fresh
away-is-out (Replacing old new by) fresh e = absurd fresh

begins_held : BeginsHeld
begins_held s by lawful =
    let l = s.layout in
    let r = s.register in
    let n = s.number in
    let few = lawful.start.few_lost in
    let four = lawful.layout.four_or_more in
    let found = some-fails (λ d. is_out (status_of r d)) l.slots (omega arith) in
    let away : count_below (λ d. is_away (slot_at_start (status_of r d))) l.slots ≤ count_below (λ d. is_out (status_of r d)) l.slots =
    count-le l.slots (λ d. is_away (slot_at_start (status_of r d))) (λ d. is_out (status_of r d)) (λ d below. away-is-out (status_of r d) (lawful.start.fresh d)) in
    record {
      row = l.first_row n;
      slot = found.0;
      generation = 0;
      inside = found.1;
      of_shard = lawful.layout.owned n (l.first_row n) lawful.number (omega arith) (lawful.layout.some_row n lawful.number);
      live = (omega arith, refl);
      unwritten = λ f h e. absurd (not_both None h refl e);
      in_sync = subst (λ y. InSyncFor (slot_at_start y) (l.first_row n) 0) (sym (is-in-sync (status_of r found.0) (lawful.start.fresh found.0) found.2)) refl;
      blocks = s.device found.0 0;
      told = refl;
    }

-- ---- a course on the smallest array

-- calls at the register come from the first pass, and from one that it gave a name
shard_pass : Name
shard_pass = 0 ∷ []

no-name : [] ≢ shard_pass
unfolding shard_pass
no-name e = cc

n0<1 : 0 < 1
n0<1 = omega arith

answers : (r : Snapshot) (device : Devices) (array : Array) (new_data : Block) → IsLawful (small_start r device array)
    → (c : CourseFrom (first_world (small_start r device array)) new_data)
    → AnswersFrom (small_start r device array) new_data c
answers r device array new_data lawful c =
    let s : Start = small_start r device array in
    let moments : List Moment = c.write ++ c.loss ++ c.degraded_read ++ c.attach ++ c.rebuild ++ c.read in
    let w : World = after_all small (first_world s) moments in
    let before : Stand = record {
      shard = w.shard 0;
      by = shard_pass;
      log = log_of shard_pass [] Degraded moments;
      register = w.register;
      looked = looked_of 0 moments;
      named = [];
      out = λ token. None;
      part = all_tell w.device;
      history = history_of [] moments;
    } in
    let run : Follows s before = record {
      world = w;
      reached = record { moments = moments; own = c.is_run.of_shard; run = c.is_run.beside_anyone; world = refl; marks = refl };
      shard = refl;
      register = refl;
      looked = refl;
      sees = log-sees shard_pass [] Degraded small 0 no-name moments c.is_run.of_shard;
      named = λ slot e. absurd (false≢true e);
      in_flight = λ token c e. absurd (None-not_Some c e);
      parts = λ slot g telling there ok. tells-all s w.device slot g telling there;
    } in
    let new : Shard = after small (w.shard 0) (Hand_reply 2 (Read 0) (Data new_data)) in
    record {
      before = before;
      run = run;
      moments = refl;
      blocks = w.device 1 1;
      told = refl;
      behind = record before { shard = new; history = marked (Take_reply 2 (Data new_data)) before.history };
      follows = calls_go_on s lawful before (Take_reply 2 (Data new_data)) new run (record {}) (Read 0, c.is_read, refl);
      read = refl;
    }

-- ---- a slot with two devices

both_held : (r : Snapshot) (device : Devices) (array : Array) (moments : List Moment) → RunsInTurn small (first_world (small_start r device array)) moments
    → Stands (after_all small (first_world (small_start r device array)) moments) (when_told array)
    → (at : Stand) × Follows (small_start r device array) at × AreBothHeld (small_start r device array) at
both_held r device array moments run stands =
    let s : Start = small_start r device array in
    let w : World = after_all small (first_world s) moments in
    let at : Stand = record {
      shard = w.shard 0;
      by = shard_pass;
      log = log_of shard_pass [] Degraded moments;
      register = w.register;
      looked = looked_of 0 moments;
      named = [];
      out = λ token. None;
      part = all_tell w.device;
      history = history_of [] moments;
    } in (
      at,
      record {
        world = w;
        reached = record { moments = moments; own = run.of_shard; run = run.beside_anyone; world = refl; marks = refl };
        shard = refl;
        register = refl;
        looked = refl;
        sees = log-sees shard_pass [] Degraded small 0 no-name moments run.of_shard;
        named = λ slot e. absurd (false≢true e);
        in_flight = λ token c e. absurd (None-not_Some c e);
        parts = λ slot g telling there ok. tells-all s w.device slot g telling there;
      },
      record {
        row = 0;
        slot = 1;
        old = 0;
        new = 1;
        apart = λ e. absurd (omega arith);
        inside = omega arith;
        of_shard = (n0<1, refl);
        live = (subst (λ (z : Shard). away small z ≤ 2) (sym stands.shard_is) stands.few_out, ap (λ (z : Shard). z.saw_failed) stands.shard_is);
        unwritten = λ f h e. absurd (not_both None h refl (ap (λ (z : Shard). z.frame f) (sym stands.shard_is) ∙ e));
        paired = ap (λ (z : Shard). z.slot 1) stands.shard_is;
        blocks = w.device 1 0;
        told = refl;
        new_blocks = w.device 1 1;
        new_told = refl;
      },
    )

replaces_held : ReplacesHeld
replaces_held array sized =
    let s : Start = small_start (register_with (InSync 0) 0) (world.device array) array in
    let w = first_world s in
    let first = replaces array w (world.stands array) in
    let rest = completes array (after_all small w first.0) first.2 in
    let there = subst (λ z. Stands z (when_told array)) (sym (after-append small w first.0 rest.0)) rest.2 in
    let run = goes-append small w first.0 rest.0 first.1 rest.1 in
    let held = both_held (register_with (InSync 0) 0) (world.device array) array (first.0 ++ rest.0) run there in
    (s, record { layout = world.witness.1; number = n0<1; start = world.starts array sized }, refl, held.0, held.1, held.2)

pub witness_law : WitnessLaw
witness_law = (
  begins_held,
  replaces_held,
  λ array new_data sized block.
      let x = world.witness.2 array new_data sized block in
      let lawful : IsLawful (small_start x.0 x.1 array) = record { layout = world.witness.1; number = n0<1; start = x.2 } in
      (x.0, x.1, lawful, x.3, answers x.0 x.1 array new_data lawful x.3),
)
