-- Between the data's device and that of P the run ends.
use Rattle.std.proofs.Common.{◌≡◌, ℕ, zero, suc, ◌<◌, [], ◌∷◌, ◌++◌, Bool, true, false, if◌then◌else◌, ◌==◌, inl, inr, refl, sym, ap, ◌∙◌, subst, arith, Some}
use Rattle.r6_kernels.specs.Blocks.{IsBlock, block_sum, total, zeros}
use Rattle.r6_kernels.proofs.BlockLaws.{IsBlock-block_sum, IsBlock-zeros, block_sum-zeros, block_sum_comm, block_sum_twice}
use Rattle.std.proofs.lemmas.Bool.{false≢true}
use Rattle.r6_layout.specs.PlainArray.{Block}
use Rattle.r6_world.specs.PlainArray.{Array, Write}
use Rattle.r6_world.specs.Layouts.{IsArray, IsLayout, content, full_row}
use Rattle.r6_world.specs.Tables.{put}
use Rattle.r6_world.specs.Registers.{Snapshot, InSync, status_of}
use Rattle.r6_world.specs.ShardStates.{Held, Synced, IsLive, IsFirstFor, IsPassedOn}
use Rattle.r6_world.specs.Steps.{Submit}
use Rattle.r6_world.specs.Worlds.{World, Moment, Run, Perform, happened, decayed, next, started}
use Rattle.r6_world.specs.Claims.{IsLawfulStart}
use Rattle.r6_world.specs.Laws.{IsOfOutside, AtEach}
use Rattle.r6_world.specs.Witness.{small, after_all}
use Rattle.r6_world.proofs.Tables.{not_both, put-same, put-cases, Some-inj, None-not_Some}
use Rattle.r6_world.proofs.FullRows.{row-full, row-wide}
use Rattle.r6_world.proofs.Witness.Pieces.{View, Reaches, Stands, leads, quiet, core, reads, store, handed_out, take, run-append, after-append}
use Rattle.r6_world.proofs.Witness.SmallRows.{p, restored_is}
use Rattle.r6_world.proofs.Witness.SmallShards.{no_hold, register_with, but_one-same, n0≤2, n0<2, n1<2, n0<1, n1<4, n3<4}
use Rattle.r6_world.proofs.Witness.Written.{all_sent, writes_out, submits, learns, when_made, when_reading, when_writing}
use Rattle.r6_world.proofs.Witness.Course.{device, starts, stands}
use Rattle.r6_world.proofs.Witness.Course as course
use Rattle.r6_stripe.specs.Holds.{cell_at}
use Rattle.r6_stripe.specs.Holds.Doubling.{Single, Passed}
use Rattle.r6_world.specs.Tasks.{Hold}
use Rattle.r6_crash.specs.Crashes.{IsReadFrom, IsServed, IsWhole, IsRegisterOf, none_lost}
use Rattle.r6_crash.specs.Holes.{IsHalfWritten, two_lost, HoleFrom, HoleLaw}
use Rattle.r6_crash.proofs.Starts as Starts

both : {A : Type 0} (b : Bool) (x : A) → (if b then x else x) ≡ x
both true x = refl
both false x = refl

shown : (w : World) (d g row : ℕ) → (decayed small w.device w).device d g row ≡ w.device d g row
shown w d g row = both (w.broken (small.shard_of row) d g) (w.device d g row)

small_is : IsLayout small
small_is = course.witness.1

-- all three writes are put out
pub is_writing : (array : Array) (b : Block) → IsBlock 16 b → (w : World) → Stands w (when_made array)
    → Reaches small w (λ later. Stands later (when_writing array b))
is_writing array b sized w at =
    leads w (when_reading array b) (λ later. Stands later (when_writing array b))
    (core w (when_made array) at (Submit (Write 0 b) 0) _ n0≤2
    (quiet w (when_made array) at (λ t. refl) refl refl refl) (record {}) (submits b sized))
    (λ w1 at1. reads w1 (when_reading array b) at1 0 2 0 (writes_out b (array 1)) refl refl n0≤2 (learns b (array 1)))

-- the hold of the write has the row's frame
pub sent-hold : (b other : Block) (f : ℕ) (h : Hold) → put no_hold 0 (Some (all_sent b other)) f ≡ Some h
    → all_sent b other ≡ h
sent-hold b other f h here = elim (put-cases no_hold 0 (Some (all_sent b other)) f (Some h) here) [
  | inl p ↦ Some-inj _ _ p.1
  | inr none ↦ absurd (None-not_Some {A = Hold} h none.1)
]

-- while it has, and all slots are in sync, each slot is read from its first device
pub served-writing : (b other : Block) (lost : ℕ → Bool) (w : World) → IsLive small (w.shard 0)
    → ((slot : ℕ) → (w.shard 0).slot slot ≡ Synced 0)
    → ((f : ℕ) (h : Hold) → (w.shard 0).frame f ≡ Some h → all_sent b other ≡ h)
    → IsServed small lost (λ slot. 0) w
served-writing b other lost w live in-sync held = record {
  live = λ n below. let zero-is : 0 ≡ n = omega (arith, below) in subst (λ m. IsLive small (w.shard m)) zero-is live;
  read_from = λ row slot below inside kept.
      let zero-is : 0 ≡ row = omega (arith, below) in
      subst (λ k. IsReadFrom small (w.shard (small.shard_of k)) k slot 0) zero-is
      (subst (λ state. IsFirstFor state 0 0) (sym (in-sync slot)) (refl, refl), not-passed slot inside);
}
  where
    single_not_passed : Single ≡ Passed → ⊥
    single_not_passed e = cc

    each-single : (slot : ℕ) → slot < 4
        → (cell_at (all_sent b other).course.cells (small.position 0 slot)).doubling ≡ Single
    each-single zero inside = refl
    each-single (suc zero) inside = refl
    each-single (suc (suc zero)) inside = refl
    each-single (suc (suc (suc zero))) inside = refl
    each-single (suc (suc (suc (suc k)))) inside = absurd (omega (arith, inside))

    not-passed : (slot : ℕ) → slot < 4 → IsPassedOn small (w.shard 0) 0 slot → ⊥
    not-passed slot inside e =
        single_not_passed
        (sym (each-single slot inside)
        ∙ ap (λ (h : Hold). (cell_at h.course.cells (small.position 0 slot)).doubling) (held e.0 e.1 e.2) ∙ e.4)

module _ (array : Array) (b : Block) (sized : IsArray small array) (b-sized : IsBlock 16 b) where
  abbrev first : World
  first = started small (register_with (InSync 0) 0) (device array)

  abbrev part : Reaches small first (λ later. Stands later (when_writing array b))
  part = is_writing array b b-sized first (stands array)

  abbrev w1 : World
  w1 = after_all small first part.0

  abbrev part_taken : View
  part_taken = record (when_writing array b) { shard = handed_out (writes_out b (array 1)) 1 (store 1 0 b) }

  abbrev taken : Reaches small w1 (λ later. Stands later part_taken × (later.flight 0 1 ≡ Some (store 1 0 b)))
  taken = take w1 (when_writing array b) part.2 1 (store 1 0 b) refl refl

  abbrev w2 : World
  w2 = after_all small w1 taken.0

  abbrev last : Moment
  last = record {
    happening = Perform 0 1 (store 1 0 b);
    noise = (happened small w2 (Perform 0 1 (store 1 0 b))).device;
  }

  abbrev w3 : World
  w3 = next small w2 last

  possible : Run small IsOfOutside w2 (last ∷ [])
  possible = (
    (
      omega arith,
      taken.2.1,
      (λ none.
          not_both ((w2.shard 0).command 1) _ none
          (ap (λ s. s.command 1) taken.2.0.shard_is ∙ put-same (writes_out b (array 1)).command 1 _ 1 refl)),
      taken.2.0.unused 1 refl,
    ),
    record {},
  )

  there : after_all small first (part.0 ++ taken.0) ≡ w2
  there = after-append small first part.0 taken.0

  ends : after_all small first ((part.0 ++ taken.0) ++ last ∷ []) ≡ w3
  ends = after-append small first (part.0 ++ taken.0) (last ∷ []) ∙ ap (λ w. next small w last) there

  runs : Run small IsOfOutside first ((part.0 ++ taken.0) ++ last ∷ [])
  runs =
      run-append small first (part.0 ++ taken.0) (last ∷ [])
      (run-append small first part.0 taken.0 part.1.run taken.1.run)
      (subst (λ w. Run small IsOfOutside w (last ∷ [])) (sym there) possible)

  own_put : w3.device 1 0 0 ≡ b
  own_put = shown (happened small w2 (Perform 0 1 (store 1 0 b))) 1 0 0

  p_stands : w3.device 3 0 0 ≡ p (array 0) (array 1)
  p_stands = shown (happened small w2 (Perform 0 1 (store 1 0 b))) 3 0 0 ∙ taken.2.0.device_is 3 0

  hole_at : (r' : Snapshot) → status_of r' 1 ≡ InSync 0 → status_of r' 3 ≡ InSync 0 → (list : Array)
      → IsLawfulStart small r' w3.device list → list 1 ≡ array 1 → b ≡ array 0
  hole_at r' in1 in3 list s same =
      let own : w3.device 1 0 0 ≡ list 0 = s.full_rows 0 1 n0<1 n1<4 in1 in
      let parity : w3.device 3 0 0 ≡ p (list 0) (list 1) = s.full_rows 0 3 n0<1 n3<4 in3 in
      sym own_put ∙ own
      ∙ restored_is (full_row small list 0) (array 0) (array 1) (row-wide small small_is list 0)
      (row-full small small_is list s.sized 0 n0<1) (sized 0 n0<2).length_is (sized 1 n1<2).length_is same
      (sym parity ∙ p_stands)

  -- P stands for another block 1 now
  abbrev old_p : Block
  old_p = p (array 0) (array 1)

  old-p-sized : IsBlock 16 old_p
  unfolding total
  old-p-sized =
      IsBlock-block_sum 16 (array 0) (block_sum (array 1) (zeros 16)) (sized 0 n0<2)
      (IsBlock-block_sum 16 (array 1) (zeros 16) (sized 1 n1<2) (IsBlock-zeros 16))

  wrong-sized : IsBlock 16 (block_sum b old_p)
  wrong-sized = IsBlock-block_sum 16 b old_p b-sized old-p-sized

  wrong-p : p b (block_sum b old_p) ≡ old_p
  unfolding total
  wrong-p =
      ap (block_sum b) (block_sum-zeros 16 (block_sum b old_p) wrong-sized.length_is ∙ block_sum_comm b old_p)
      ∙ block_sum_comm b (block_sum old_p b) ∙ block_sum_twice 16 old_p b old-p-sized.length_is b-sized.length_is

  abbrev wrong : Array
  wrong block = if block == 0 then b else block_sum b old_p

  unseen_at : (r' : Snapshot) → IsRegisterOf small two_lost r' → IsLawfulStart small r' w3.device wrong
  unseen_at r' reg = Starts.starts small two_lost r' reg w3.device wrong each row-at
    where
      each : (block : ℕ) → block < 2 → IsBlock 16 (wrong block)
      each zero below = b-sized
      each (suc zero) below = wrong-sized
      each (suc (suc k)) below = absurd (omega (arith, below))

      at-slot : (slot : ℕ) → slot < 4 → two_lost slot ≡ false → w3.device slot 0 0 ≡ content small wrong 0 slot
      at-slot zero inside kept = absurd (false≢true (sym kept))
      at-slot (suc zero) inside kept = own_put
      at-slot (suc (suc zero)) inside kept = absurd (false≢true (sym kept))
      at-slot (suc (suc (suc zero))) inside kept = p_stands ∙ sym wrong-p
      at-slot (suc (suc (suc (suc k)))) inside kept = absurd (omega (arith, inside))

      row-at : (row slot : ℕ) → row < 1 → slot < 4 → two_lost slot ≡ false
          → w3.device slot 0 row ≡ content small wrong row slot
      row-at row slot below inside kept =
          let zero-is : 0 ≡ row = omega (arith, below) in
          subst (λ k. w3.device slot 0 k ≡ content small wrong k slot) zero-is (at-slot slot inside kept)

  -- the same hold has the row before the last moment and after it, and each slot is read from its first device
  served : (w : World) → w.shard 0 ≡ handed_out (writes_out b (array 1)) 1 (store 1 0 b) → IsWhole small (λ slot. 0) w
  served w is =
      served-writing b (array 1) none_lost w (subst (IsLive small) (sym is) (taken.2.0.few_out, refl))
      (λ slot. ap (λ s. s.slot slot) is ∙ sym (but_one-same slot))
      (λ f h here. sent-hold b (array 1) f h (ap (λ s. s.frame f) (sym is) ∙ here))

  hole_from : HoleFrom array b
  hole_from = record {
    r = register_with (InSync 0) 0;
    device = device array;
    lawful = starts array sized;
    before = part.0 ++ taken.0;
    last = last;
    is_run = runs;
    whole =
        subst (λ w. AtEach small (IsWhole small (λ slot. 0)) w (last ∷ [])) (sym there)
        (served w2 taken.2.0.shard_is, served w3 taken.2.0.shard_is);
    stood = ap (λ (w : World). w.device 1 0 0) there ∙ taken.2.0.device_is 1 0;
    half_written =
        subst (λ (w : World). IsHalfWritten w b) (sym ends)
        (record {
          one_request = ap (λ s. s.accepted) taken.2.0.shard_is;
          is_open = record {
            shard = 0;
            id = 0;
            stage = Held 0;
            accepted = ap (λ s. s.request 0) taken.2.0.shard_is;
            open_yet = record {};
          };
          is_put = own_put;
        });
    hole = λ r' in1 in3 list s same.
        hole_at r' in1 in3 list (subst (λ (w : World). IsLawfulStart small r' w.device list) ends s) same;
    unseen = λ r' reg.
        (wrong, subst (λ (w : World). IsLawfulStart small r' w.device wrong) (sym ends) (unseen_at r' reg));
  }

pub hole_law : HoleLaw
hole_law array b sized b-sized = hole_from array b sized b-sized
