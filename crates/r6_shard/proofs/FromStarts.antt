-- A shard that is given parts while its thread makes its calls.
use Rattle.std.proofs.Common.{◌≡◌, ◌≢◌, ℕ, inl, inr, refl, sym, ap, ◌∙◌, subst, Option, Some, None}
use Rattle.std.proofs.lemmas.Bool.{cases_eq}
use Rattle.r6_dev.specs.History.{Telling}
use Rattle.r6_world.specs.Tables.{put_in}
use Rattle.r6_layout.specs.PlainArray.{Block}
use Rattle.r6_world.specs.Geometries.{layout_of}
use Rattle.r6_world.specs.Worlds.{Devices}
use Rattle.r6_world.proofs.Tables.{None-not_Some, Some-inj}
use Rattle.r6_world.proofs.Acts.Points.{put_in-same, put_in-other, put_in-apart}
use Rattle.r6_course.specs.Courses as courses
use Rattle.r6_course.specs.Courses.{Start}
use Rattle.r6_course.specs.Steps.{OthersAreAlike}
use Rattle.r6_dev.specs.Promises.{Promise}
use Rattle.r6_shard.specs.declared.performs.Performs.{Ghosts}
use Rattle.r6_shard.specs.Beginnings.{start_of, Hold}
use Rattle.r6_shard.specs.Laws.{HandedLaw, LedgerLaw}
use Rattle.r6_shard.proofs.Handed.{still-start}
use Rattle.r6_shard.proofs.Ledgers.{ledger}

-- a table of devices, or of what they tell, in which one was put
pub put-there : {A : Type 0} (f : ℕ → ℕ → A) (slot generation : ℕ) (a : A) (d g : ℕ) → d ≡ slot → g ≡ generation → put_in f slot generation a d g ≡ a
put-there f slot generation a d g same same' =
    ap (λ y. put_in f slot generation a y g) same ∙ put_in-same f slot generation a g same'

pub put-elsewhere : {A : Type 0} (f : ℕ → ℕ → A) (slot generation : ℕ) (a : A) (d g : ℕ) → ((d ≡ slot) × (g ≡ generation) → ⊥)
    → put_in f slot generation a d g ≡ f d g
put-elsewhere {A = A} f slot generation a d g ne = elim (cases_eq d slot) [
  | inl same ↦
      ap (λ y. put_in f slot generation a y g) same ∙ put_in-other f slot generation a g (λ same'. ne (same, same')) ∙ ap (λ y. f y g) (sym same)
  | inr other ↦ ap (λ (y : ℕ → A). y g) (put_in-apart f slot generation a d other)
]

-- what a device may have had of which this was told
blocks-of : (o : Option Telling) → o ≢ Some None → (ℕ → Block) → ℕ → Block
blocks-of None some now = now
blocks-of (Some None) some now = absurd (some refl)
blocks-of (Some (Some blocks)) some now = blocks

tells-blocks : (s : Start) (o : Option Telling) (some : o ≢ Some None) (now : ℕ → Block) (telling : Telling) → o ≡ Some telling
    → courses.Tells s (blocks-of o some now) telling
unfolding blocks-of
tells-blocks s None some now telling e = absurd (None-not_Some telling e)
tells-blocks s (Some None) some now telling e = absurd (some refl)
tells-blocks s (Some (Some blocks)) some now telling e =
    subst (courses.Tells s blocks) (Some-inj (Some blocks) telling e) (λ row there. refl)

pub handed_law : {P D : Type 0} (g : Ghosts P) (told : D → Telling) (promised : D → Promise) → HandedLaw g told promised
handed_law g told promised part earlier old new h geometry number snapshot taken ops some comes device array lawful hold =
    let slot = part.slot in
    let generation = part.generation in
    let now : ℕ → Block = device slot generation in
    let before : ℕ → Block = blocks-of (taken slot generation) some now in
    let device' : Devices = put_in device slot generation before in
    let s' : Start = start_of geometry number snapshot device' array in
    let alike : OthersAreAlike slot generation device device' = (λ d g ne. put-elsewhere device slot generation before d g ne) in
    let back : OthersAreAlike slot generation device' device = (λ d g ne. sym (put-elsewhere device slot generation before d g ne)) in
    let told-there : courses.Tells s' (device slot generation) (told part.device) =
    hold slot generation (told part.device) (put-there taken slot generation (Some (told part.device)) slot generation refl refl) in
    let hold' : Hold s' taken = (λ d g telling there.
    elim (cases_eq d slot) [
      | inl same ↦ elim (cases_eq g generation) [
        | inl same' ↦
            subst (λ y. courses.Tells s' y telling) (sym (put-there device slot generation before d g same same'))
            (tells-blocks s' (taken slot generation) some now telling (ap (taken slot) (sym same') ∙ ap (λ y. taken y g) (sym same) ∙ there))
        | inr ne ↦ kept d g telling there (λ both. ne both.1)
      ]
      | inr ne ↦ kept d g telling there (λ both. ne both.0)
    ]) in
    h.course s' device ops back told-there
    (comes device' array (still-start (layout_of geometry) snapshot device device' array slot generation old.last.attaches h.unseen alike lawful) hold')
  where
    kept : (d g : ℕ) (telling : Telling) → taken d g ≡ Some telling → ((d ≡ part.slot) × (g ≡ part.generation) → ⊥)
        → courses.Tells (start_of geometry number snapshot device array)
        (put_in device part.slot part.generation (blocks-of (taken part.slot part.generation) some (device part.slot part.generation)) d g) telling
    kept d g telling there ne =
        let before = blocks-of (taken part.slot part.generation) some (device part.slot part.generation) in
        subst (λ y. courses.Tells (start_of geometry number snapshot device array) y telling)
        (sym (put-elsewhere device part.slot part.generation before d g ne))
        (hold d g telling (put-elsewhere taken part.slot part.generation (Some (told part.device)) d g ne ∙ there))

pub ledger_law : {P : Type 0} (g : Ghosts P) → LedgerLaw g
ledger_law g shard geometry number snapshot taken ops comes device array lawful hold =
    ledger (start_of geometry number snapshot device array) ops shard (comes device array lawful hold)
