-- With writes that end their room is free again.
use Rattle.std.proofs.Common.{◌≡◌, ℕ, ◌+◌, ◌≤◌, [], ◌∷◌, List, length, refl, sym, ap, subst, ◌∙◌, Some, arith, length-append}
use Rattle.std.specs.Prelude.{vec_capacity}
use Rattle.std.specs.List.{AllByRecursion}
use Rattle.std.specs.Global.{Vec}
use Rattle.r6_world.specs.ShardStates as shards
use Rattle.r6_frames.specs.declared.finish.Ended.{Ended}
use Rattle.r6_frames.specs.declared.finish.Ended.TheVariants as ended
use Rattle.r6_frames.specs.declared.frames.HeldRow.{HeldRow}
use Rattle.r6_frames.specs.declared.frames.Job.{Job}
use Rattle.r6_frames.specs.declared.frames.Scrub.{Scrub}
use Rattle.r6_frames.specs.declared.frames.Scrub.TheVariants as scrub
use Rattle.r6_frames.specs.Views.{held_for, scrub_task}
use Rattle.r6_frames.specs.Calls.{IsEndedOf, ended_task}
use Rattle.r6_frames.specs.Writes.{Entry}
use Rattle.r6_core.specs.declared.state.State.{State}
use Rattle.r6_core.specs.Inside.{FreesRoom, HasPlace, HaveRooms, count_rows, is_written, one_if}
use Rattle.r6_core.proofs.Scrubs.{write_weight}
use Rattle.r6_frames.proofs.Held.{all_append}

-- as many rows fewer are held for writes
abbrev pub Fewer : Ended → State → State → Type 0
Fewer e old new = count_rows is_written new.frames.uses + write_weight (ended_task e) ≡ count_rows is_written old.frames.uses

scrub_weighs : (s : Scrub) → write_weight (scrub_task s) ≡ 0
scrub_weighs scrub.Check = refl
scrub_weighs scrub.Repair = refl

-- the weight of a row by what has ended with it
pub end_weighs : (h : HeldRow) (e : Ended) → IsEndedOf h e → one_if is_written (Some (held_for h)) ≡ write_weight (ended_task e)
end_weighs h (ended.Read served buffer) of = ap (λ (j : Job). one_if is_written (Some (h.row, j))) of.1
end_weighs h (ended.Wrote writes) of = ap (λ (j : Job). one_if is_written (Some (h.row, j))) of.0
end_weighs h (ended.Classed s class) of = ap (λ (j : Job). one_if is_written (Some (h.row, j))) of ∙ sym (scrub_weighs s)
end_weighs h (ended.Skipped s) of = ap (λ (j : Job). one_if is_written (Some (h.row, j))) of ∙ sym (scrub_weighs s)
end_weighs h (ended.Rebuilt target row) of = ap (λ (j : Job). one_if is_written (Some (h.row, j))) of.0
end_weighs h (ended.GivenUp target) of = ap (λ (j : Job). one_if is_written (Some (h.row, j))) of

-- what has ended without writes leaves the rooms
module _ (old new : State) (rooms : HaveRooms old.rooms.items old.frames) where
  rooms_left : new.rooms ≡ old.rooms → (weight : ℕ) → weight ≡ 0 → count_rows is_written new.frames.uses + weight ≡ count_rows is_written old.frames.uses → HaveRooms new.rooms.items new.frames
  rooms_left same weight none fewer =
      let long = ap (λ (v : Vec (List Entry)). length v.items) same in
      let many = rooms.many in
      record {
        many = omega (arith, long, many, none, fewer);
        empty = subst (λ (v : Vec (List Entry)). AllByRecursion (λ writes. writes ≡ []) v.items) (sym same) rooms.empty;
      }

  pub rooms_freed : (e : Ended) → Fewer e old new → FreesRoom e old.rooms new.rooms → HaveRooms new.rooms.items new.frames
  rooms_freed (ended.Read served buffer) fewer frees = rooms_left frees 0 refl fewer
  rooms_freed (ended.Wrote writes) fewer frees =
      let long = ap length frees.0 ∙ length-append old.rooms.items ([] ∷ []) in
      let many = rooms.many in
      record {
        many = omega (arith, long, many, fewer);
        empty = subst (AllByRecursion (λ writes. writes ≡ [])) (sym frees.0) (all_append (λ writes. writes ≡ []) old.rooms.items ([] ∷ []) rooms.empty (refl, tt));
      }
  rooms_freed (ended.Classed s class) fewer frees = rooms_left frees (write_weight (scrub_task s)) (scrub_weighs s) fewer
  rooms_freed (ended.Skipped s) fewer frees = rooms_left frees (write_weight (scrub_task s)) (scrub_weighs s) fewer
  rooms_freed (ended.Rebuilt target row) fewer frees = rooms_left frees 0 refl fewer
  rooms_freed (ended.GivenUp target) fewer frees = rooms_left frees 0 refl fewer

pub capacity_kept : (old new : Vec (List Entry)) (e : Ended) → FreesRoom e old new → vec_capacity new ≡ vec_capacity old
capacity_kept old new (ended.Read served buffer) frees = ap (λ (rooms : Vec (List Entry)). vec_capacity rooms) frees
capacity_kept old new (ended.Wrote writes) frees = frees.1
capacity_kept old new (ended.Classed s class) frees = ap (λ (rooms : Vec (List Entry)). vec_capacity rooms) frees
capacity_kept old new (ended.Skipped s) frees = ap (λ (rooms : Vec (List Entry)). vec_capacity rooms) frees
capacity_kept old new (ended.Rebuilt target row) frees = ap (λ (rooms : Vec (List Entry)). vec_capacity rooms) frees
capacity_kept old new (ended.GivenUp target) frees = ap (λ (rooms : Vec (List Entry)). vec_capacity rooms) frees

-- there is a place for it
pub place_left : (s : State) (e : Ended) (fewer : ℕ) → fewer + write_weight (ended_task e) ≡ count_rows is_written s.frames.uses → HaveRooms s.rooms.items s.frames
    → shards.frames ≤ vec_capacity s.rooms → HasPlace e s.rooms
place_left s (ended.Read served buffer) fewer is rooms space = tt
place_left s (ended.Wrote writes) fewer is rooms space = let many = rooms.many in omega (arith, is, many, space)
place_left s (ended.Classed scrub class) fewer is rooms space = tt
place_left s (ended.Skipped scrub) fewer is rooms space = tt
place_left s (ended.Rebuilt target row) fewer is rooms space = tt
place_left s (ended.GivenUp target) fewer is rooms space = tt
