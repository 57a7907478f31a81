-- One task more.
use Rattle.std.proofs.Common.{◌≡◌, ◌≢◌, ℕ, List, [], ◌∷◌, ◌++◌, length, if◌then◌else◌, true, false, inl, inr, refl, sym, ap, ◌∙◌, arith, Option, Some, None, option_and_then}
use Rattle.std.specs.List.{cons_option}
use Rattle.std.proofs.lemmas.Bool.{cases_eq}
use Rattle.std.proofs.lemmas.List.Elements.{filter_map-append}
use Rattle.r6_dev.specs.History.{Telling}
use Rattle.r6_layout.specs.Shape.{Shape}
use Rattle.r6_world.specs.Tables.{put_in}
use Rattle.r6_world.proofs.Tables.{Some-inj}
use Rattle.r6_engine.specs.lists.Events.{Event, Duty, Task, task, task_at}
use Rattle.r6_shard.proofs.FromStarts.{put-there, put-elsewhere}
use Rattle.r6_engine.specs.declared.runner.runner.Handed.{Handed}
use Rattle.r6_engine.specs.runner.Tasks.{of_tasks, NewPart}
use Rattle.r6_engine.specs.runner.Runners.{taken_up, NoneIsSilent}

pub of_tasks-more : {A : Type 0} (pick : ℕ → Duty → Option A) (shape : Shape) (shard : ℕ) (events : List Event) (numbers : List ℕ)
    (number waits : ℕ) (duty : Duty) → task_at shape shard events number ≡ Some (task number waits duty)
    → of_tasks pick shape shard events (numbers ++ number ∷ []) ≡ of_tasks pick shape shard events numbers ++ cons_option (pick number duty) []
of_tasks-more pick shape shard events numbers number waits duty same =
    filter_map-append (λ n. option_and_then (λ t. pick n t.duty) (task_at shape shard events n)) numbers (number ∷ [])
    ∙ ap (λ o. of_tasks pick shape shard events numbers ++ cons_option (option_and_then (λ (t : Task). pick number t.duty) o) []) same

-- one part more
abbrev pub put_if : (ℕ → ℕ → Option Telling) → NewPart → Handed → ℕ → ℕ → Option Telling
put_if before p h = if h.taken then put_in before p.slot h.generation (Some p.telling) else before

pub taken_up-more : (before : ℕ → ℕ → Option Telling) (parts : List NewPart) (handed : List Handed) (p : NewPart) (h : Handed)
    → length parts ≡ length handed
    → taken_up before (parts ++ p ∷ []) (handed ++ h ∷ []) ≡ put_if (taken_up before parts handed) p h
taken_up-more before [] [] p h same = refl
taken_up-more before [] (other ∷ handed) p h same = cc
taken_up-more before (first ∷ parts) [] p h same = cc
taken_up-more before (first ∷ parts) (other ∷ handed) p h same =
    taken_up-more (put_if before first other) parts handed p h (omega (arith, same))

pub tell-less : (before : ℕ → ℕ → Option Telling) (parts : List NewPart) (p : NewPart) → NoneIsSilent before (parts ++ p ∷ [])
    → NoneIsSilent before parts × (p.telling ≢ None)
tell-less before [] p all = (all.1, all.0)
tell-less before (first ∷ parts) p all = ((all.0, (tell-less before parts p all.1).0), (tell-less before parts p all.1).1)

-- a part that tells stands where none is silent
tells-put : (f : ℕ → ℕ → Option Telling) (slot generation : ℕ) (telling : Telling) → telling ≢ None
    → ((d g : ℕ) → f d g ≢ Some None) → (d g : ℕ) → put_in f slot generation (Some telling) d g ≢ Some None
tells-put f slot generation telling some all d g silent = elim (cases_eq d slot) [
  | inl same ↦ elim (cases_eq g generation) [
    | inl same' ↦ some (Some-inj telling None (sym (put-there f slot generation (Some telling) d g same same') ∙ silent))
    | inr ne ↦ all d g (sym (put-elsewhere f slot generation (Some telling) d g (λ both. ne both.1)) ∙ silent)
  ]
  | inr ne ↦ all d g (sym (put-elsewhere f slot generation (Some telling) d g (λ both. ne both.0)) ∙ silent)
]

tells-if : (taken : _) (f : ℕ → ℕ → Option Telling) (slot generation : ℕ) (telling : Telling) → telling ≢ None
    → ((d g : ℕ) → f d g ≢ Some None) → (d g : ℕ) → (if taken then put_in f slot generation (Some telling) else f) d g ≢ Some None
tells-if true f slot generation telling some all = tells-put f slot generation telling some all
tells-if false f slot generation telling some all = all

silent-nowhere : (before : ℕ → ℕ → Option Telling) (parts : List NewPart) → NoneIsSilent before parts → (d g : ℕ) → before d g ≢ Some None
silent-nowhere before [] all = all
silent-nowhere before (p ∷ parts) all = silent-nowhere before parts all.1

tell-from : (before after : ℕ → ℕ → Option Telling) (parts : List NewPart) → ((d g : ℕ) → after d g ≢ Some None) → NoneIsSilent before parts
    → NoneIsSilent after parts
tell-from before after [] all x = all
tell-from before after (p ∷ parts) all x = (x.0, tell-from before after parts all x.1)

pub none-silent : (before : ℕ → ℕ → Option Telling) (parts : List NewPart) (handed : List Handed) → NoneIsSilent before parts
    → (d g : ℕ) → taken_up before parts handed d g ≢ Some None
none-silent before [] handed all = all
none-silent before (p ∷ parts) [] all = silent-nowhere before parts all.1
none-silent before (p ∷ parts) (h ∷ handed) all =
    let on = tells-if h.taken before p.slot h.generation p.telling all.0 (silent-nowhere before parts all.1) in
    none-silent (put_if before p h) parts handed (tell-from before (put_if before p h) parts on all.1)
