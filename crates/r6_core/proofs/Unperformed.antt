-- Along a run no command is performed before it is taken.
use Rattle.std.proofs.Common.{◌≡◌, ℕ, List, [], ◌∷◌, inl, inr, refl, sym, ap, ◌∙◌, Option, Some, None, map, false}
use Rattle.std.proofs.lemmas.Bool.{cases_eq, false≢true}
use Rattle.r6_world.specs.Layouts.{Layout, IsLayout}
use Rattle.r6_layout.specs.PlainArray.{Block}
use Rattle.r6_world.specs.PlainArray.{Array, Plain}
use Rattle.r6_world.specs.Registers.{Snapshot, RegisterCall}
use Rattle.r6_world.specs.ShardStates.{Command}
use Rattle.r6_world.specs.Steps.{Event, Take_command}
use Rattle.r6_world.specs.Worlds as worlds
use Rattle.r6_world.specs.Worlds.{World, Devices, Possible, Run, next, started, flown}
use Rattle.r6_world.specs.Claims.{IsLawfulStart}
use Rattle.r6_world.specs.ActingPoints.{plain_next}
use Rattle.r6_world.specs.Laws.{at_start}
use Rattle.r6_world.specs.Witness.{after_all}
use Rattle.r6_world.proofs.Tables.{put-same, put-other, put-cases, not_both}
use Rattle.r6_world.proofs.Laws.Judged.{IsIn}
use Rattle.r6_world.proofs.Laws.Headline.{AreIn}
use Rattle.r6_world.proofs.Laws.Kept.{Kept}
use Rattle.r6_world.proofs.Laws.Stepping.{one_step}
use Rattle.r6_world.proofs.Laws.Starts.{kept-start}
use Rattle.r6_core.specs.Shards.{CoreView}
use Rattle.r6_core.specs.Runs.{Happening, Call, Perform, Tell, Outside, Moment, in_world, moment_of, cores_after, MayHappen, CoresRun}

module _ (l : Layout) (Ours : ℕ → Type 0) (Comes : RegisterCall → Type 0) where
  -- only what was taken is performed
  abbrev Unflown : World → Type 0
  Unflown w = (n t : ℕ) → w.flight n t ≡ None → w.performed n t ≡ None

  flown-was : (event : Event) (flight : ℕ → Option Command) (t : ℕ) → flown event flight t ≡ None → flight t ≡ None
  flown-was (Take_command token c) flight t e =
      elim (put-cases flight token (Some c) t None e) [ inl p ↦ absurd (not_both (Some c) c p.1 refl) | inr p ↦ p.1 ]
  flown-was event flight t e = e

  unflown-next : (w : World) (m : worlds.Moment) → Possible l Comes w m.happening → Unflown w → Unflown (next l w m)
  unflown-next w m possible x = at m.happening possible
    where
      at : (h : worlds.Happening) → Possible l Comes w h → Unflown (next l w (record { happening = h; noise = m.noise }))
      at (worlds.Core k event new) p n t e =
          elim (cases_eq n k) [
            | inl same ↦
                let flight : (flown event (w.flight k)) t ≡ None =
                ap (λ (y : ℕ → Option Command). y t) (sym (put-same w.flight k (flown event (w.flight k)) n same)) ∙ e in
                x n t (ap (λ y. w.flight y t) same ∙ flown-was event (w.flight k) t flight)
            | inr ne ↦ x n t (ap (λ (y : ℕ → Option Command). y t) (sym (put-other w.flight k (flown event (w.flight k)) n ne)) ∙ e)
          ]
      at (worlds.Perform k token c) p n t e =
          elim (cases_eq n k) [
            | inl same ↦ elim (cases_eq t token) [
              | inl here ↦ absurd (not_both (w.flight k token) c (ap (λ y. w.flight y token) (sym same) ∙ ap (w.flight n) (sym here) ∙ e) p.1)
              | inr ne ↦
                  ap (λ (y : ℕ → Option Block). y t) (put-same w.performed k _ n same) ∙ put-other (w.performed k) token _ t ne
                  ∙ ap (λ y. w.performed y t) (sym same) ∙ x n t e
            ]
            | inr ne ↦ ap (λ (y : ℕ → Option Block). y t) (put-other w.performed k _ n ne) ∙ x n t e
          ]
      at (worlds.Tell k call answer middle new) p n t e = x n t e
      at (worlds.Outside call) p n t e = x n t e

  unflown-along : (moments : List worlds.Moment) (w : World) → Run l Comes w moments → Unflown w → Unflown (after_all l w moments)
  unflown-along [] w run x = x
  unflown-along (m ∷ moments) w run x = unflown-along moments (next l w m) run.1 (unflown-next w m run.0 x)

  -- what happens is of our cores, or from outside
  are-ours : (w : World) (cores : ℕ → CoreView) (moments : List Moment) → CoresRun l Ours Comes w cores moments → AreIn Ours (map moment_of moments)
  are-ours w cores [] run = record {}
  are-ours w cores (m ∷ moments) run = (is-ours m.happening run.0, are-ours (next l w (moment_of m)) (cores_after cores m.happening) moments run.1)
    where
      is-ours : (h : Happening) → MayHappen l Ours Comes w cores h → IsIn Ours (in_world h)
      is-ours (Call n event new) may = may.0
      is-ours (Perform n token c) may = may.0
      is-ours (Tell n call answer middle new) may = may.0
      is-ours (Outside call) may = record {}

  module _ (is : IsLayout l) where
    kept-along : (moments : List worlds.Moment) (w : World) (plain : Plain) → Kept l Ours w plain → AreIn Ours moments → Run l Comes w moments
        → (last : Plain) × Kept l Ours (after_all l w moments) last
    kept-along [] w plain x ours run = (plain, x)
    kept-along (m ∷ moments) w plain x ours run =
        let step = one_step l is Ours Comes m.happening m.noise w plain x ours.0 run.0 in
        kept-along moments (next l w m) (plain_next l w m plain) step.1 ours.1 run.1

    none-or : {A : Type 0} (o : Option A) → ((a : A) → o ≡ Some a → ⊥) → o ≡ None
    none-or None none = refl
    none-or (Some a) none = absurd (none a refl)

    -- a command that isn't taken was not performed
    pub unperformed : (r : Snapshot) (device : Devices) (array : Array) → IsLawfulStart l r device array → (cores : ℕ → CoreView) (moments : List Moment)
        → CoresRun l Ours Comes (started l r device) cores moments → Run l Comes (started l r device) (map moment_of moments)
        → (n : ℕ) → Ours n → (token : ℕ) (c : Command)
        → ((after_all l (started l r device) (map moment_of moments)).shard n).command token ≡ Some c → c.taken ≡ false
        → (after_all l (started l r device) (map moment_of moments)).performed n token ≡ None
    unperformed r device array start cores moments cores_run run n ours token c there untaken =
        let all = map moment_of moments in
        let w = after_all l (started l r device) all in
        let k = kept-along all (started l r device) (at_start array) (kept-start l is Ours r device array start)
        (are-ours (started l r device) cores moments cores_run) run in
        let flies = (k.1.sounds n ours).flies in
        unflown-along all (started l r device) run (λ m t e. refl) n token
        (none-or (w.flight n token) (λ (flying : Command) e. false≢true (sym untaken ∙ (flies.same token flying c e there).taken)))
