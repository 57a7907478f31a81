-- Both devices of a slot that is being replaced are declared lost from outside, one after the other, with no command to
-- them failed; then the slot's block is read from the others.
use Rattle.std.proofs.Common.{◌≡◌, ℕ, List, [], ◌∷◌, ◌++◌, length, true, false, refl, sym, ap, subst, None, Ok}
use Rattle.r6_layout.specs.PlainArray.{Block}
use Rattle.r6_world.specs.PlainArray.{Array, Read, Data}
use Rattle.r6_world.specs.Registers.{InSync, Lost, DeclareLost, Kept, Degraded, status_of}
use Rattle.r6_world.specs.ShardStates.{Shard, Synced, Missing}
use Rattle.r6_world.specs.Changes.{Adopt, after}
use Rattle.r6_world.specs.Steps.{Submit, Look, Step}
use Rattle.r6_world.specs.Worlds.{World, Moment, Outside}
use Rattle.r6_world.specs.Witness.{small, after_all, RunsInTurn, IsDeclared, DeclaredFrom}
use Rattle.r6_world.proofs.Witness.Pieces.{Reaches, View, Stands, goes-append, after-append, leads, quiet, core, reads, outside_at, more}
use Rattle.r6_world.proofs.Witness.SmallShards.{no_request, no_hold, no_command, but_one, but_one-put, state, register_with, seen_slots, none_built, none_wait, free_rests, n0<2, n1<4, n0≤2, n1≤2}
use Rattle.r6_world.proofs.Witness.Degraded.{both_reads_out, one_read_out, read_finished, read_released, begins, rests, learns_p, learns_other, looks}
use Rattle.r6_world.proofs.Witness.Written.{made, when_made}
use Rattle.r6_world.proofs.Witness.Replaced.{unbuilt, doubled, when_doubled, replaces}

-- ---- the looks at what is left

old_left : made ≡ after small doubled (Adopt 1 (InSync 0))
old_left = λ i. record made { slot = λ d. but_one-put unbuilt (Synced 0) d i }

sees_old : Step small 0 doubled (Look (register_with (InSync 0) 1)) made
sees_old = (
  refl,
  refl,
  made,
  (Adopt 1 (InSync 0) ∷ [], (refl, (n1<4, refl), old_left)),
  (λ slot inside. seen_slots unbuilt (Synced 0) (InSync 0) 1 refl slot),
  (made, (_, ([], refl), ([], refl)), ([], refl)),
  free_rests made (λ f. refl) none_wait (none_built (Synced 0) (λ x. x)),
)

abbrev lost : Shard
lost = state 0 no_request no_hold 0 no_command (but_one Missing) [] 0

none_left : lost ≡ after small made (Adopt 1 Lost)
none_left = λ i. record lost { slot = λ d. but_one-put (Synced 0) Missing d i }

sees_none : Step small 0 made (Look (register_with Lost 1)) lost
sees_none = (
  refl,
  refl,
  lost,
  (Adopt 1 Lost ∷ [], (refl, (n1<4, refl), none_left)),
  (λ slot inside. seen_slots (Synced 0) Missing Lost 1 refl slot),
  (lost, (_, ([], refl), ([], refl)), ([], refl)),
  free_rests lost (λ f. refl) none_wait (none_built Missing (λ x. x)),
)

submits : Step small 0 lost (Submit (Read 0) 0) (both_reads_out 0 0 [])
submits = (refl, (n0<2, record {}, refl, refl), begins 0 0 [], rests 0 0 [])

-- ---- part by part

abbrev when_new_declared : Array → View
when_new_declared array = record (when_doubled array) { register = register_with (InSync 0) 1; settled = false }

abbrev when_kept : Array → View
when_kept array = record (when_new_declared array) { shard = made; settled = true }

abbrev when_old_declared : Array → View
when_old_declared array = record (when_kept array) { register = register_with Lost 1; settled = false }

abbrev when_lost : Array → View
when_lost array = record (when_old_declared array) { shard = lost; settled = true }

abbrev when_reading_both : Array → View
when_reading_both array = record (when_lost array) { shard = both_reads_out 0 0 []; settled = false }

abbrev when_reading_other : Array → View
when_reading_other array = record (when_lost array) { shard = one_read_out 0 0 [] (array 0) (array 1); used = 1 ∷ []; settled = false }

abbrev when_finished : Array → View
when_finished array = record (when_lost array) { shard = read_finished 0 0 [] (array 0); used = 0 ∷ 1 ∷ []; settled = false }

abbrev when_restored : Array → View
when_restored array = record (when_finished array) { shard = read_released 0 0 (array 0); settled = true }

-- one call declares this device lost
abbrev Declares : World → (slot generation : ℕ) → View → Type 0
Declares w slot generation later =
    (m : Moment) × (m.happening ≡ Outside (DeclareLost slot generation)) × RunsInTurn small w (m ∷ []) × Stands (after_all small w (m ∷ [])) later

declares_new : (array : Array) (w : World) → Stands w (when_doubled array) → Declares w 1 1 (when_new_declared array)
declares_new array w at = outside_at w (when_doubled array) at (DeclareLost 1 1) (record {}) (Ok Kept) refl refl None (λ before e. e) false (λ before e. refl)

keeps_old : (array : Array) (w : World) → Stands w (when_new_declared array) → Reaches small w (λ later. Stands later (when_kept array))
keeps_old array w at = core w (when_new_declared array) at (Look (register_with (InSync 0) 1)) made n0≤2 (record {}) (sym at.register_is) sees_old

declares_old : (array : Array) (w : World) → Stands w (when_kept array) → Declares w 1 0 (when_old_declared array)
declares_old array w at = outside_at w (when_kept array) at (DeclareLost 1 0) (record {}) (Ok Degraded) refl refl None (λ before e. refl) false (λ before e. refl)

restores : (array : Array) → length (array 0) ≡ 16 → length (array 1) ≡ 16 → (w : World) → Stands w (when_old_declared array)
    → Reaches small w (λ later. Stands later (when_restored array))
restores array wide other-wide w at =
    leads w (when_lost array) (λ later. Stands later (when_restored array))
    (core w (when_old_declared array) at (Look (register_with Lost 1)) lost n1≤2 (record {}) (sym at.register_is) sees_none)
    (λ x1 at1. leads x1 (when_reading_both array) (λ later. Stands later (when_restored array))
    (core x1 (when_lost array) at1 (Submit (Read 0) 0) (both_reads_out 0 0 []) n1≤2 (quiet x1 (when_lost array) at1 (λ t. refl) refl refl refl) (record {}) submits)
    (λ x2 at2. leads x2 (when_reading_other array) (λ later. Stands later (when_restored array))
    (reads x2 (when_reading_both array) at2 1 3 0 (one_read_out 0 0 [] (array 0) (array 1)) refl refl n1≤2 (learns_p 0 0 [] (array 0) (array 1)))
    (λ x3 at3. leads x3 (when_finished array) (λ later. Stands later (when_restored array))
    (reads x3 (when_reading_other array) at3 0 2 0 (read_finished 0 0 [] (array 0)) refl refl n1≤2 (learns_other 0 0 [] (array 0) (array 1) wide other-wide))
    (λ x4 at4. core x4 (when_finished array) at4 (Look (register_with Lost 1)) (read_released 0 0 (array 0)) n1≤2 (record {}) (sym at4.register_is) (looks 0 0 1 (array 0))))))

-- ---- all together

module _ (array : Array) (wide : length (array 0) ≡ 16) (other-wide : length (array 1) ≡ 16) (start : World) where
  -- a run goes on by such a call
  then : (before : List Moment) → RunsInTurn small start before → (slot generation : ℕ) (later : View) → (call : Declares (after_all small start before) slot generation later)
      → RunsInTurn small start (before ++ (call.0 ∷ [])) × Stands (after_all small start (before ++ (call.0 ∷ []))) later
  then before run slot generation later call = (
    goes-append small start before (call.0 ∷ []) run call.2,
    subst (λ w. Stands w later) (sym (after-append small start before (call.0 ∷ []))) call.3,
  )

  five : (x1 x2 x3 x4 x5 : List Moment) → RunsInTurn small start (x1 ++ x2 ++ x3 ++ x4 ++ x5)
      → Stands (after_all small start x1) (when_doubled array) → IsDeclared x2 1 1
      → Stands (after_all small start (x1 ++ x2 ++ x3)) (when_kept array) → IsDeclared x4 1 0
      → Stands (after_all small start (x1 ++ x2 ++ x3 ++ x4 ++ x5)) (when_restored array) → DeclaredFrom start (array 0)
  five x1 x2 x3 x4 x5 run at1 new at3 old at5 = record {
    replace = x1;
    new_declared = x2;
    look = x3;
    old_declared = x4;
    read = x5;
    is_run = run;
    is_doubled = (ap (λ r. status_of r 1) at1.register_is, ap (λ s. s.slot 1) at1.shard_is);
    is_new = new;
    is_kept = (ap (λ r. status_of r 1) at3.register_is, ap (λ s. s.slot 1) at3.shard_is);
    is_old = old;
    is_lost = (ap (λ r. status_of r 1) at5.register_is, ap (λ s. s.slot 1) at5.shard_is);
    is_read = ap (λ s. s.request 0) at5.shard_is;
  }

  four : (x1 x2 x3 x4 : List Moment) → RunsInTurn small start (x1 ++ x2 ++ x3 ++ x4)
      → Stands (after_all small start x1) (when_doubled array) → IsDeclared x2 1 1
      → Stands (after_all small start (x1 ++ x2 ++ x3)) (when_kept array) → IsDeclared x4 1 0
      → Stands (after_all small start (x1 ++ x2 ++ x3 ++ x4)) (when_old_declared array) → DeclaredFrom start (array 0)
  four x1 x2 x3 x4 run at1 new at3 old at4 =
      let part = more start (x1 ++ x2 ++ x3 ++ x4) (λ w. Stands w (when_restored array)) run (restores array wide other-wide (after_all small start (x1 ++ x2 ++ x3 ++ x4)) at4) in
      five x1 x2 x3 x4 part.0 part.1 at1 new at3 old part.2

  three : (x1 x2 x3 : List Moment) → RunsInTurn small start (x1 ++ x2 ++ x3)
      → Stands (after_all small start x1) (when_doubled array) → IsDeclared x2 1 1
      → Stands (after_all small start (x1 ++ x2 ++ x3)) (when_kept array) → DeclaredFrom start (array 0)
  three x1 x2 x3 run at1 new at3 =
      let call = declares_old array (after_all small start (x1 ++ x2 ++ x3)) at3 in
      let part = then (x1 ++ x2 ++ x3) run 1 0 (when_old_declared array) call in
      four x1 x2 x3 (call.0 ∷ []) part.0 at1 new at3 (call.0, refl, call.1) part.1

  two : (x1 x2 : List Moment) → RunsInTurn small start (x1 ++ x2) → Stands (after_all small start x1) (when_doubled array) → IsDeclared x2 1 1
      → Stands (after_all small start (x1 ++ x2)) (when_new_declared array) → DeclaredFrom start (array 0)
  two x1 x2 run at1 new at2 =
      let part = more start (x1 ++ x2) (λ w. Stands w (when_kept array)) run (keeps_old array (after_all small start (x1 ++ x2)) at2) in
      three x1 x2 part.0 part.1 at1 new part.2

  one : (x1 : List Moment) → RunsInTurn small start x1 → Stands (after_all small start x1) (when_doubled array) → DeclaredFrom start (array 0)
  one x1 run at1 =
      let call = declares_new array (after_all small start x1) at1 in
      let part = then x1 run 1 1 (when_new_declared array) call in
      two x1 (call.0 ∷ []) part.0 at1 (call.0, refl, call.1) part.1

  pub declared : Stands start (when_made array) → DeclaredFrom start (array 0)
  declared at = let part = replaces array start at in one part.0 part.1 part.2
