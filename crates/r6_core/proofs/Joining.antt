-- The writes that wait for the other blocks of a row are put to the first, index by index.
use Rattle.std.proofs.Common.{◌≡◌, ◌≢◌, ℕ, ◌+◌, ◌<◌, List, [], ◌∷◌, refl, sym, ap, subst, ◌∙◌, Option, Some, None}
use Rattle.std.specs.Prelude.{MatchOption}
use Rattle.std.specs.List.{AllByRecursion}
use Rattle.r6_layout.specs.Shape.{IsShape, data_slots}
use Rattle.r6_layout.specs.Layout as layout
use Rattle.r6_layout.specs.declared.place.Place.{Place}
use Rattle.r6_core.specs.declared.queued.Queued.{Queued}
use Rattle.r6_frames.specs.Writes.{Entry, request_of}
use Rattle.r6_waiters.specs.Line.{Entries, Line, entries_of, oldest_keyed, with_entries, without_oldest_keyed}
use Rattle.r6_core.specs.declared.state.State.{State}
use Rattle.r6_world.specs.declared.values.Request.{Request}
use Rattle.r6_core.specs.Queued.{request_in}
use Rattle.r6_core.specs.Inside.{IsFirst, IsQueuedOf, JoinsOne, ServeTogether, key_of, waited}
use Rattle.r6_core.proofs.RowWrites.{WritesSoFar, so_far_first, so_far_found, so_far_last, so_far_new, so_far_none, so_far_own}

-- the writes of the indices before this one are put to the first
pub record IsAt (s : State) (place : Place) (write : Entry) (index : ℕ) (writes : List Entry) (now : State) : Type 0 where
  pub so_far :
      WritesSoFar s.frames place.row write.served.block (waited write) (entries_of s.waiting) index writes (entries_of now.waiting)
  pub line : now.waiting ≡ with_entries s.waiting (entries_of now.waiting)
  pub rest : now ≡ record s { waiting = now.waiting }

module _ (s : State) (is_shape : IsShape s.frames.geometry) (place : Place) (first : List Entry) (write : Entry) (one : IsFirst s.frames place first write) where
  own_row : layout.row_of s.frames.geometry write.served.block ≡ place.row
  own_row = sym one.3.row

  own_index : layout.index_of s.frames.geometry write.served.block ≡ place.index
  own_index = sym one.3.index

  pub at_first : AllByRecursion (λ entry. IsQueuedOf s.frames entry.1) (entries_of s.waiting) → IsAt s place write 0 first s
  at_first all =
      record {
        so_far =
            let start = so_far_first s.frames is_shape place.row write.served.block (waited write) (entries_of s.waiting) write.new_data refl own_row (record { request = one.2; read = λ e. absurd (cc e) }) all in
            let same : (record { served = write.served; index = layout.index_of s.frames.geometry write.served.block; new_data = write.new_data }) ∷ [] ≡ first =
            ap (λ (at : ℕ). (record { served = write.served; index = at; new_data = write.new_data }) ∷ []) (own_index ∙ sym one.1) ∙ sym one.0 in
            subst (λ (ws : List Entry). WritesSoFar s.frames place.row write.served.block (waited write) (entries_of s.waiting) 0 ws (entries_of s.waiting)) same start;
        line = refl;
        rest = refl;
      }

  module _ (index : ℕ) (writes : List Entry) (now : State) (is : IsAt s place write index writes now) where
    pub at_own : index ≡ place.index → IsAt s place write (index + 1) writes now
    at_own own =
        record {
          so_far = so_far_own s.frames is_shape place.row write.served.block (waited write) (entries_of s.waiting) index writes (entries_of now.waiting) is.so_far own_row (own_index ∙ sym own);
          line = is.line;
          rest = is.rest;
        }

    module _ (below : index < data_slots s.frames.geometry) (other : index ≢ place.index) where
      apart : layout.index_of s.frames.geometry write.served.block ≢ index
      apart same = other (sym same ∙ own_index)

      pub at_new : Rattle.r6_frames.specs.Writes.has_index writes index ≡ Rattle.std.specs.Prelude.false
      at_new = so_far_new s.frames is_shape place.row write.served.block (waited write) (entries_of s.waiting) index writes (entries_of now.waiting) is.so_far below apart

      abbrev block : ℕ
      block = layout.block_at s.frames.geometry place.row index

      abbrev later : Entries Queued
      later = without_oldest_keyed key_of block (entries_of now.waiting)

      abbrev IsLater : List Entry → Entries Queued → Type 0
      IsLater = WritesSoFar s.frames place.row write.served.block (waited write) (entries_of s.waiting) (index + 1)

      by_found : (more : List Entry) (found : Option Queued) → oldest_keyed key_of block (entries_of now.waiting) ≡ found
          → MatchOption found (more ≡ writes) (λ q. (w : Entry) × (w.index ≡ index) × (request_of w ≡ request_in q) × (more ≡ w ∷ writes)) → IsLater more later
      by_found more None none same =
          subst (λ (ws : List Entry). IsLater ws later) (sym same)
          (so_far_none s.frames is_shape place.row write.served.block (waited write) (entries_of s.waiting) index writes (entries_of now.waiting) is.so_far below apart none)
      by_found more (Some q) found put =
          let w = put.0 in
          let step = so_far_found s.frames is_shape place.row write.served.block (waited write) (entries_of s.waiting) index writes (entries_of now.waiting) is.so_far below apart
          q w.served.block w.new_data found (ap (λ (r : Request). r.op) (sym put.2)) in
          subst (λ (ws : List Entry). IsLater ws later)
          ((λ i. (record { served = record { id = (sym put.2 i).id; block = w.served.block }; index = sym put.1 i; new_data = w.new_data }) ∷ writes) ∙ sym put.3) step

      pub at_next : (new : State) (more : List Entry) → JoinsOne block index now writes new more → IsAt s place write (index + 1) more new
      at_next new more joins =
          record {
            so_far = subst (λ (line : Line Queued). IsLater more (entries_of line)) (sym joins.waiting) (by_found more (oldest_keyed key_of block (entries_of now.waiting)) refl joins.put);
            line = subst (λ (line : Line Queued). line ≡ with_entries s.waiting (entries_of line)) (sym joins.waiting) (ap (λ (line : Line Queued). with_entries line later) is.line);
            rest = joins.rest ∙ ap (λ (x : State). record x { waiting = new.waiting }) is.rest;
          }

  pub at_last : (writes : List Entry) (now : State) → IsAt s place write (data_slots s.frames.geometry) writes now
      → ServeTogether s.frames (request_of write) (entries_of s.waiting) writes (entries_of now.waiting)
  at_last writes now is =
      let all = so_far_last s.frames is_shape place.row write.served.block (waited write) (entries_of s.waiting) writes (entries_of now.waiting) is.so_far in
      let row = own_row in
      record {
        joined = subst (λ (r : ℕ). Rattle.std.proofs.Common.IsPermutation
            (waited write ∷ Rattle.r6_core.specs.Batches.joined (Rattle.r6_core.specs.Batches.others_of (Rattle.r6_world.specs.Geometries.layout_of s.frames.geometry) r write.served.block) (Rattle.std.proofs.Common.map (λ entry. entry.1) (entries_of s.waiting)))
            (Rattle.std.proofs.Common.map waited writes)) (sym row) all.0;
        left = subst (λ (r : ℕ). entries_of now.waiting ≡ Rattle.r6_core.specs.Batches.entries_left (Rattle.r6_core.specs.Batches.others_of (Rattle.r6_world.specs.Geometries.layout_of s.frames.geometry) r write.served.block) (entries_of s.waiting)) (sym row) all.1;
        some = is.so_far.some;
        in_row = subst (λ (r : ℕ). Rattle.std.proofs.Common.All (Rattle.r6_frames.specs.Writes.IsWriteIn s.frames.geometry r) writes) (sym row) is.so_far.writes;
        distinct = is.so_far.distinct;
      }
