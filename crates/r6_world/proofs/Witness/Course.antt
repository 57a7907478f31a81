-- From a lawful start the whole course is a run.
use Rattle.std.proofs.Common.{◌≡◌, ℕ, ◌<◌, ◌≤◌, List, ◌++◌, length, true, refl, sym, ap, subst, ◌∙◌, arith, Some}
use Rattle.r6_kernels.specs.Blocks.{IsBlock}
use Rattle.r6_layout.specs.Shape.{IsShape}
use Rattle.r6_layout.specs.PlainArray.{Block}
use Rattle.r6_world.specs.PlainArray.{Array, Op, Read, Write, Reply, Data, Done}
use Rattle.r6_world.specs.Layouts.{IsArray, content}
use Rattle.r6_world.specs.Registers.{InSync, status_of}
use Rattle.r6_world.specs.ShardStates.{Released}
use Rattle.r6_world.specs.Worlds.{World, Devices, Moment, started, shard_at_start, slot_at_start}
use Rattle.r6_world.specs.Claims.{IsLawfulStart, IsFresh}
use Rattle.r6_world.specs.Witness.{smallest, small, after_all, RunsInTurn, CourseFrom, ErrorFrom, FailureFrom, CheckFrom, IsAnswered, WitnessLaw, MendedFrom, ReplacedFrom}
use Rattle.r6_world.proofs.Geometries.{layouts}
use Rattle.r6_world.proofs.Witness.Pieces.{View, Stands, Reaches, run-append, after-append, more, store}
use Rattle.r6_world.proofs.Witness.SmallShards.{register_with, all_in_sync, but_one-same}
use Rattle.r6_world.proofs.Witness.Written.{made, when_made, when_released, wrote}
use Rattle.r6_world.proofs.Witness.Lost.{when_lost, when_restored, loses, restores}
use Rattle.r6_world.proofs.Witness.Erred.{when_erred, when_recovered, erred, recovers, when_reading, reads_directly}
use Rattle.r6_world.proofs.Witness.Between.{between}
use Rattle.r6_world.proofs.Witness.PassedOn.{passed_on}
use Rattle.r6_world.proofs.Witness.Failed.{two_out, two_fail, last_moments, fails}
use Rattle.r6_world.proofs.Witness.Checked.{when_checked, checks}
use Rattle.r6_world.proofs.Witness.Together.{handed_in, together}
use Rattle.r6_world.proofs.Witness.Rebuilt.{when_attached, when_rebuilt, at_last, attaches, rebuilds, reads_again}
use Rattle.r6_world.proofs.Witness.Replaced.{when_doubled, when_told, when_replaced, at_last as when_reread, replaces, completes, leaves, reads_new}
use Rattle.r6_world.proofs.Witness.Declared.{declared}
use Rattle.r6_world.proofs.Witness.SecondErrors.{second_error}
use Rattle.r6_world.proofs.Witness.ThreeErrors.{three_errors}
use Rattle.r6_world.proofs.Witness.Mended.{fixes, mends, when_fixing, when_mended}

-- ---- the start

lawful : IsShape smallest
lawful = record {
  slots_allowed = (omega arith, omega arith);
  chunk_allowed = (omega arith, omega arith);
  block_allowed = (omega arith, omega arith, refl);
  rows_allowed = (omega arith, omega arith, refl);
  shards_allowed = (omega arith, omega arith, omega arith);
}

abbrev pub device : Array → Devices
device array slot generation row = content small array row slot

n0≤2 : 0 ≤ 2
n0≤2 = omega arith

n0<2 : 0 < 2
n0<2 = omega arith

n1<2 : 1 < 2
n1<2 = omega arith

pub starts : (array : Array) → IsArray small array → IsLawfulStart small (register_with (InSync 0) 0) (device array) array
starts array sized = record {
  many_slots = refl;
  fresh = λ slot. subst IsFresh (sym (all_in_sync slot)) refl;
  no_others = λ slot past. all_in_sync slot;
  few_lost = n0≤2;
  no_attach = refl;
  not_failed = refl;
  sized = sized;
  full_rows = λ row slot row-below below e. refl;
}

same_shard : shard_at_start small (register_with (InSync 0) 0) 0 ≡ made
same_shard = λ i. record made { slot = λ d. (ap slot_at_start (all_in_sync d) ∙ but_one-same d) i }

pub stands : (array : Array) → Stands (started small (register_with (InSync 0) 0) (device array)) (when_made array)
stands array = record {
  shard_is = same_shard;
  register_is = refl;
  device_is = λ d g. refl;
  unused = λ t e. refl;
  completed_is = refl;
  settled_is = refl;
  few_out = n0≤2;
  not_failed = refl;
}

-- ---- what stands is what is claimed

answered : (w : World) (v : View) (id : ℕ) (op : Op) (reply : Reply) → Stands w v → v.shard.request id ≡ Some (record { op = op; stage = Released reply }) → IsAnswered w id op reply
answered w v id op reply at there = ap (λ s. s.request id) at.shard_is ∙ there

-- ---- the course, part by part

module _ (array : Array) (b : Block) (wide : length b ≡ 16) (other-wide : length (array 1) ≡ 16) where
  abbrev start : World
  start = started small (register_with (InSync 0) 0) (device array)

  -- after this run the world is known to be so
  abbrev Ends : List Moment → View → Type 0
  Ends moments v = Stands (after_all small start moments) v

  abbrev Runs : List Moment → Type 0
  Runs moments = RunsInTurn small start moments

  six : (x1 x2 x3 x4 x5 x6 : List Moment) → Runs (x1 ++ x2 ++ x3 ++ x4 ++ x5 ++ x6)
      → Ends x1 (when_released array b) → Ends (x1 ++ x2) (when_lost array b) → Ends (x1 ++ x2 ++ x3) (when_restored array b)
      → Ends (x1 ++ x2 ++ x3 ++ x4) (when_attached array b) → Ends (x1 ++ x2 ++ x3 ++ x4 ++ x5) (when_rebuilt array b)
      → Ends (x1 ++ x2 ++ x3 ++ x4 ++ x5 ++ x6) (at_last array b)
      → CourseFrom start b
  six x1 x2 x3 x4 x5 x6 run at1 at2 at3 at4 at5 at6 = record {
    write = x1;
    loss = x2;
    degraded_read = x3;
    attach = x4;
    rebuild = x5;
    read = x6;
    is_run = run;
    is_written = answered (after_all small start x1) (when_released array b) 0 (Write 0 b) Done at1 refl;
    is_lost = (ap (λ r. status_of r 1) at2.register_is, ap (λ s. s.slot 1) at2.shard_is);
    is_restored = answered (after_all small start (x1 ++ x2 ++ x3)) (when_restored array b) 1 (Read 0) (Data b) at3 refl;
    is_attached = (ap (λ r. status_of r 1) at4.register_is, ap (λ s. s.slot 1) at4.shard_is);
    is_rebuilt = (ap (λ r. status_of r 1) at5.register_is, at5.completed_is, ap (λ s. s.slot 1) at5.shard_is);
    is_read = answered (after_all small start (x1 ++ x2 ++ x3 ++ x4 ++ x5 ++ x6)) (at_last array b) 2 (Read 0) (Data b) at6 refl;
  }

  five : (x1 x2 x3 x4 x5 : List Moment) → Runs (x1 ++ x2 ++ x3 ++ x4 ++ x5)
      → Ends x1 (when_released array b) → Ends (x1 ++ x2) (when_lost array b) → Ends (x1 ++ x2 ++ x3) (when_restored array b)
      → Ends (x1 ++ x2 ++ x3 ++ x4) (when_attached array b) → Ends (x1 ++ x2 ++ x3 ++ x4 ++ x5) (when_rebuilt array b)
      → CourseFrom start b
  five x1 x2 x3 x4 x5 run at1 at2 at3 at4 at5 =
      let part = more start (x1 ++ x2 ++ x3 ++ x4 ++ x5) (λ w. Stands w (at_last array b)) run (reads_again array b (after_all small start (x1 ++ x2 ++ x3 ++ x4 ++ x5)) at5) in
      six x1 x2 x3 x4 x5 part.0 part.1 at1 at2 at3 at4 at5 part.2

  four : (x1 x2 x3 x4 : List Moment) → Runs (x1 ++ x2 ++ x3 ++ x4)
      → Ends x1 (when_released array b) → Ends (x1 ++ x2) (when_lost array b) → Ends (x1 ++ x2 ++ x3) (when_restored array b)
      → Ends (x1 ++ x2 ++ x3 ++ x4) (when_attached array b)
      → CourseFrom start b
  four x1 x2 x3 x4 run at1 at2 at3 at4 =
      let part = more start (x1 ++ x2 ++ x3 ++ x4) (λ w. Stands w (when_rebuilt array b)) run (rebuilds array b wide other-wide (after_all small start (x1 ++ x2 ++ x3 ++ x4)) at4) in
      five x1 x2 x3 x4 part.0 part.1 at1 at2 at3 at4 part.2

  three : (x1 x2 x3 : List Moment) → Runs (x1 ++ x2 ++ x3)
      → Ends x1 (when_released array b) → Ends (x1 ++ x2) (when_lost array b) → Ends (x1 ++ x2 ++ x3) (when_restored array b) → CourseFrom start b
  three x1 x2 x3 run at1 at2 at3 =
      let part = more start (x1 ++ x2 ++ x3) (λ w. Stands w (when_attached array b)) run (attaches array b (after_all small start (x1 ++ x2 ++ x3)) at3) in
      four x1 x2 x3 part.0 part.1 at1 at2 at3 part.2

  two : (x1 x2 : List Moment) → Runs (x1 ++ x2) → Ends x1 (when_released array b) → Ends (x1 ++ x2) (when_lost array b) → CourseFrom start b
  two x1 x2 run at1 at2 =
      let part = more start (x1 ++ x2) (λ w. Stands w (when_restored array b)) run (restores array b wide other-wide (after_all small start (x1 ++ x2)) at2) in
      three x1 x2 part.0 part.1 at1 at2 part.2

  one : (x1 : List Moment) → Runs x1 → Ends x1 (when_released array b) → CourseFrom start b
  one x1 run at1 =
      let part = more start x1 (λ w. Stands w (when_lost array b)) run (loses array b (after_all small start x1) at1) in
      two x1 part.0 part.1 at1 part.2

  course : IsBlock 16 b → CourseFrom start b
  course sized = let part = wrote array b sized start (stands array) in one part.0 part.1 part.2

-- ---- the course with an error

module _ (array : Array) (wide : length (array 0) ≡ 16) (other-wide : length (array 1) ≡ 16) where
  abbrev begin : World
  begin = started small (register_with (InSync 0) 0) (device array)

  all_parts : (x1 x2 x3 : List Moment) → RunsInTurn small begin (x1 ++ x2 ++ x3) → Stands (after_all small begin x1) (when_reading array)
      → (after_all small begin (x1 ++ x2)).broken 0 1 0 ≡ true
      → Stands (after_all small begin (x1 ++ x2)) (when_erred array) → Stands (after_all small begin (x1 ++ x2 ++ x3)) (when_recovered array)
      → ErrorFrom begin (array 0)
  all_parts x1 x2 x3 run at1 broken at2 at3 = record {
    direct = x1;
    error = x2;
    read = x3;
    is_run = run;
    is_direct = ap (λ s. s.request 0) at1.shard_is;
    is_broken = broken;
    is_missing = ap (λ s. s.slot 1) at2.shard_is;
    is_lost = (ap (λ r. status_of r 1) at3.register_is, ap (λ s. s.slot 1) at3.shard_is);
    is_read = answered (after_all small begin (x1 ++ x2 ++ x3)) (when_recovered array) 0 (Read 0) (Data (array 0)) at3 refl;
  }

  two_parts : (x1 x2 : List Moment) → RunsInTurn small begin (x1 ++ x2) → Stands (after_all small begin x1) (when_reading array)
      → (after_all small begin (x1 ++ x2)).broken 0 1 0 ≡ true → Stands (after_all small begin (x1 ++ x2)) (when_erred array) → ErrorFrom begin (array 0)
  two_parts x1 x2 run at1 broken at2 =
      let part = more begin (x1 ++ x2) (λ w. Stands w (when_recovered array)) run (recovers array wide other-wide (after_all small begin (x1 ++ x2)) at2) in
      all_parts x1 x2 part.0 part.1 at1 broken at2 part.2

  one_part : (x1 : List Moment) → RunsInTurn small begin x1 → Stands (after_all small begin x1) (when_reading array) → ErrorFrom begin (array 0)
  one_part x1 run at1 =
      let part = more begin x1 (λ w. Stands w (when_erred array) × (w.broken 0 1 0 ≡ true)) run (erred array (after_all small begin x1) at1) in
      two_parts x1 part.0 part.1 at1 part.2.1 part.2.0

  error_course : ErrorFrom begin (array 0)
  error_course = let part = reads_directly array begin (stands array) in one_part part.0 part.1 part.2

  -- ---- the course with read errors

  mended_all : (x1 x2 x3 : List Moment) → RunsInTurn small begin (x1 ++ x2 ++ x3) → Stands (after_all small begin x1) (when_reading array)
      → Stands (after_all small begin (x1 ++ x2)) (when_fixing array) → Stands (after_all small begin (x1 ++ x2 ++ x3)) (when_mended array) → MendedFrom begin (array 0)
  mended_all x1 x2 x3 run at1 at2 at3 = record {
    direct = x1;
    error = x2;
    fix = x3;
    is_run = run;
    is_direct = ap (λ s. s.request 0) at1.shard_is;
    is_held = ap (λ s. s.request 0) at2.shard_is;
    is_fixing = (4, store 1 0 (array 0), ap (λ s. s.command 4) at2.shard_is, refl, refl);
    is_read = answered (after_all small begin (x1 ++ x2 ++ x3)) (when_mended array) 0 (Read 0) (Data (array 0)) at3 refl;
    in_sync = ap (λ s. s.slot 1) at3.shard_is;
  }

  mended_two : (x1 x2 : List Moment) → RunsInTurn small begin (x1 ++ x2) → Stands (after_all small begin x1) (when_reading array)
      → Stands (after_all small begin (x1 ++ x2)) (when_fixing array) → MendedFrom begin (array 0)
  mended_two x1 x2 run at1 at2 =
      let part = more begin (x1 ++ x2) (λ w. Stands w (when_mended array)) run (mends array (after_all small begin (x1 ++ x2)) at2) in
      mended_all x1 x2 part.0 part.1 at1 at2 part.2

  mended_one : (x1 : List Moment) → RunsInTurn small begin x1 → Stands (after_all small begin x1) (when_reading array) → MendedFrom begin (array 0)
  mended_one x1 run at1 =
      let part = more begin x1 (λ w. Stands w (when_fixing array)) run (fixes array wide other-wide (after_all small begin x1) at1) in
      mended_two x1 part.0 part.1 at1 part.2

  mended_course : MendedFrom begin (array 0)
  mended_course = let part = reads_directly array begin (stands array) in mended_one part.0 part.1 part.2

-- ---- the course with a replacement

module _ (array : Array) where
  abbrev first : World
  first = started small (register_with (InSync 0) 0) (device array)

  replaced_four : (x1 x2 x3 x4 : List Moment) → RunsInTurn small first (x1 ++ x2 ++ x3 ++ x4) → Stands (after_all small first x1) (when_doubled array)
      → Stands (after_all small first (x1 ++ x2)) (when_told array)
      → Stands (after_all small first (x1 ++ x2 ++ x3)) (when_replaced array) → Stands (after_all small first (x1 ++ x2 ++ x3 ++ x4)) (when_reread array)
      → ReplacedFrom first (array 0)
  replaced_four x1 x2 x3 x4 run at1 at2 at3 at4 = record {
    replace = x1;
    rebuild = x2;
    look = x3;
    read = x4;
    is_run = run;
    is_doubled = (ap (λ r. status_of r 1) at1.register_is, ap (λ s. s.slot 1) at1.shard_is);
    is_paired = (ap (λ r. status_of r 1) at2.register_is, at2.completed_is, ap (λ s. s.slot 1) at2.shard_is);
    is_rebuilt = (ap (λ r. status_of r 1) at3.register_is, at3.completed_is, ap (λ s. s.slot 1) at3.shard_is);
    is_unasked = ap (λ s. s.request 0) at3.shard_is;
    is_read = answered (after_all small first (x1 ++ x2 ++ x3 ++ x4)) (when_reread array) 0 (Read 0) (Data (array 0)) at4 refl;
  }

  replaced_three : (x1 x2 x3 : List Moment) → RunsInTurn small first (x1 ++ x2 ++ x3) → Stands (after_all small first x1) (when_doubled array)
      → Stands (after_all small first (x1 ++ x2)) (when_told array)
      → Stands (after_all small first (x1 ++ x2 ++ x3)) (when_replaced array) → ReplacedFrom first (array 0)
  replaced_three x1 x2 x3 run at1 at2 at3 =
      let part = more first (x1 ++ x2 ++ x3) (λ w. Stands w (when_reread array)) run (reads_new array (after_all small first (x1 ++ x2 ++ x3)) at3) in
      replaced_four x1 x2 x3 part.0 part.1 at1 at2 at3 part.2

  replaced_two : (x1 x2 : List Moment) → RunsInTurn small first (x1 ++ x2) → Stands (after_all small first x1) (when_doubled array)
      → Stands (after_all small first (x1 ++ x2)) (when_told array) → ReplacedFrom first (array 0)
  replaced_two x1 x2 run at1 at2 =
      let part = more first (x1 ++ x2) (λ w. Stands w (when_replaced array)) run (leaves array (after_all small first (x1 ++ x2)) at2) in
      replaced_three x1 x2 part.0 part.1 at1 at2 part.2

  replaced_one : (x1 : List Moment) → RunsInTurn small first x1 → Stands (after_all small first x1) (when_doubled array) → ReplacedFrom first (array 0)
  replaced_one x1 run at1 =
      let part = more first x1 (λ w. Stands w (when_told array)) run (completes array (after_all small first x1) at1) in
      replaced_two x1 part.0 part.1 at1 part.2

  replaced_course : ReplacedFrom first (array 0)
  replaced_course = let part = replaces array first (stands array) in replaced_one part.0 part.1 part.2

-- ---- the course with a failure

failure_after : (w : World) (array : Array) → Reaches small w (λ later. Stands later (two_out array)) → FailureFrom w
failure_after w array part =
    let between : World = after_all small w part.0 in
    let last = fails array between part.2 in
    let same : after_all small w (part.0 ++ last_moments between) ≡ after_all small between (last_moments between) = after-append small w part.0 (last_moments between) in
    record {
      failure = part.0 ++ last_moments between;
      is_run = run-append small w part.0 (last_moments between) part.1.run last.0;
      has_failed = ap (λ x. x.register.failed) same ∙ last.1;
      is_refused = ap (λ x. (x.shard 0).request 0) same ∙ last.2;
    }

checked : (w : World) (array : Array) → Reaches small w (λ later. Stands later (when_checked array)) → CheckFrom w
checked w array part = record { check = part.0; is_run = part.1; is_consistent = ap (λ s. s.counts.consistent) part.2.shard_is }

pub witness : WitnessLaw
witness = (
  lawful,
  layouts smallest lawful,
  (λ array b sized b-sized. (
    register_with (InSync 0) 0,
    device array,
    starts array sized,
    course array b b-sized.length_is (sized 1 n1<2).length_is b-sized,
    replaced_course array,
    declared array (sized 0 n0<2).length_is (sized 1 n1<2).length_is (started small (register_with (InSync 0) 0) (device array)) (stands array),
    error_course array (sized 0 n0<2).length_is (sized 1 n1<2).length_is,
    mended_course array (sized 0 n0<2).length_is (sized 1 n1<2).length_is,
    second_error array (sized 0 n0<2).length_is (sized 1 n1<2).length_is (started small (register_with (InSync 0) 0) (device array)) (stands array),
    three_errors array (started small (register_with (InSync 0) 0) (device array)) (stands array),
    between array b b-sized (started small (register_with (InSync 0) 0) (device array)) (stands array),
    passed_on array b b-sized (started small (register_with (InSync 0) 0) (device array)) (stands array),
    failure_after (started small (register_with (InSync 0) 0) (device array)) array (two_fail array (started small (register_with (InSync 0) 0) (device array)) (stands array)),
    checked (started small (register_with (InSync 0) 0) (device array)) array (checks array (sized 0 n0<2) (sized 1 n1<2) (started small (register_with (InSync 0) 0) (device array)) (stands array)),
    (λ other other-sized. (
      together array b other (sized 0 n0<2) (sized 1 n1<2) b-sized other-sized (started small (register_with (InSync 0) 0) (device array)) (stands array),
      handed_in array b other (sized 0 n0<2) (sized 1 n1<2) b-sized other-sized (started small (register_with (InSync 0) 0) (device array)) (stands array),
    )),
  )),
)
