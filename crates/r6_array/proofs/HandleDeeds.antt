-- What is done with handles is a run of cores.
use Rattle.std.proofs.Common.{◌≡◌, ◌≢◌, ℕ, ◌<◌, List, [], ◌∷◌, map, inl, inr, refl, sym, ap, ◌∙◌, subst}
use Rattle.std.proofs.lemmas.Bool.{cases_eq}
use Rattle.r6_layout.specs.Shape.{Shape}
use Rattle.r6_world.specs.Tables.{put}
use Rattle.r6_world.specs.Geometries.{layout_of}
use Rattle.r6_world.specs.Registers.{Snapshot, RegisterCall}
use Rattle.r6_world.specs.Worlds.{World, started}
use Rattle.r6_world.specs.Witness.{after_all}
use Rattle.r6_world.proofs.Tables.{put-same, put-other}
use Rattle.r6_core.specs.Shards.{CoreView}
use Rattle.r6_core.specs.Runs.{moment_of, cores_behind, CoresRun, IsThis}
use Rattle.r6_array.specs.Runs.{moments_of}
use Rattle.r6_array.specs.Handles.{HandleView, core_in, number_of, IsNewHandle}
use Rattle.r6_array.specs.HandleRuns.{IsBeside}
use Rattle.r6_array.specs.HandleLaws.{HandleDeed, Calls, Performs, Comes, moments_by, handles_after, AreDoneBy}
use Rattle.r6_array.proofs.Going.{run-append}
use Rattle.r6_array.proofs.HandleGoing.{GoesBy}

-- these cores are those of the handles, each of its number, of an array of this shape
pub record AreTheirs (shape : Shape) (Ours : ℕ → Type 0) (handles : ℕ → HandleView) (cores : ℕ → CoreView) : Type 0 where
  pub core : (n : ℕ) → Ours n → cores n ≡ core_in (handles n)
  pub number : (n : ℕ) → Ours n → number_of (handles n) ≡ n
  pub shape_is : (n : ℕ) → Ours n → (core_in (handles n)).shape ≡ shape

pub runs : (shape : Shape) (Ours : ℕ → Type 0) (MayCome : RegisterCall → Type 0) (w : World) (cores : ℕ → CoreView) (handles : ℕ → HandleView) → AreTheirs shape Ours handles cores
    → (deeds : List HandleDeed) → AreDoneBy Ours MayCome (layout_of shape) w handles deeds
    → CoresRun (layout_of shape) Ours MayCome w cores (moments_by deeds) × AreTheirs shape Ours (handles_after handles deeds) (cores_behind cores (moments_by deeds))
runs shape Ours MayCome w cores handles at [] done = (record {}, at)
runs shape Ours MayCome w cores handles at (Performs n token c noise ∷ deeds) done =
    let r = runs shape Ours MayCome _ cores handles at deeds done.2 in
    (((done.0, done.1), r.0), r.1)
runs shape Ours MayCome w cores handles at (Comes call noise ∷ deeds) done =
    let r = runs shape Ours MayCome _ cores handles at deeds done.1 in
    ((done.0, r.0), r.1)
runs shape Ours MayCome w cores handles at (Calls n happenings noise new register ∷ deeds) done =
    let own = done.0 in
    let l = layout_of shape in
    let moments = moments_of noise happenings in
    let number = at.number n own in
    let goes : GoesBy shape n Ours MayCome (handles n) w.register happenings new register =
    subst (λ k. GoesBy shape k Ours MayCome (handles n) w.register happenings new register) number
    (subst (λ (sh : Shape). GoesBy sh (number_of (handles n)) Ours MayCome (handles n) w.register happenings new register) (at.shape_is n own) done.1.1) in
    let g = goes w cores (record { register_is = refl; core_is = ap cores number ∙ at.core n own }) noise done.2 in
    let cores' = cores_behind cores moments in
    let number' : number_of new ≡ n = done.1.0.1 ∙ number in
    let r = runs shape Ours MayCome (after_all l w (map moment_of moments)) cores' (put handles n new)
    (record {
      core = λ m o. elim (cases_eq m n) [
        | inl same ↦ ap cores' (same ∙ sym number') ∙ g.1.core_is ∙ ap core_in (sym (put-same handles n new m same))
        | inr ne ↦ g.2 m ne ∙ at.core m o ∙ ap core_in (sym (put-other handles n new m ne))
      ];
      number = λ m o. elim (cases_eq m n) [
        | inl same ↦ ap number_of (put-same handles n new m same) ∙ number' ∙ sym same
        | inr ne ↦ ap number_of (put-other handles n new m ne) ∙ at.number m o
      ];
      shape_is = λ m o. elim (cases_eq m n) [
        | inl same ↦ ap (λ (h : HandleView). (core_in h).shape) (put-same handles n new m same) ∙ done.1.0.0 ∙ at.shape_is n own
        | inr ne ↦ ap (λ (h : HandleView). (core_in h).shape) (put-other handles n new m ne) ∙ at.shape_is m o
      ];
    }) deeds done.3 in
    (run-append l Ours MayCome w cores moments (moments_by deeds) g.0 r.0, subst (AreTheirs shape Ours (handles_after (put handles n new) deeds)) (sym (Rattle.r6_array.proofs.Going.cores-append cores moments (moments_by deeds))) r.1)

-- as they are made
pub made : (shape : Shape) (Ours : ℕ → Type 0) (r : Snapshot) (window : ℕ → ℕ) (handles : ℕ → HandleView) → ((n : ℕ) → Ours n → IsNewHandle shape r n (window n) (handles n))
    → AreTheirs shape Ours handles (λ n. core_in (handles n))
made shape Ours r window handles new =
    record { core = λ n o. refl; number = λ n o. (new n o).shard.made.number; shape_is = λ n o. (new n o).shard.made.geometry }

pub made_alone : (shape : Shape) (r : Snapshot) (n window : ℕ) (h : HandleView) → IsNewHandle shape r n window h → AreTheirs shape (IsThis n) (λ m. h) (λ m. core_in h)
made_alone shape r n window h new =
    record { core = λ m o. refl; number = λ m o. new.shard.made.number ∙ sym o; shape_is = λ m o. new.shard.made.geometry }
