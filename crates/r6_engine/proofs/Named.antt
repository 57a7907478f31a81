-- Sound slots are left alone, shard by shard.
use Rattle.std.proofs.Common.{◌≡◌, ◌∙◌, ℕ, List, All, Bool, true, false, inl, inr, refl, sym, ap, subst, slice_index_or}
use Rattle.std.specs.Prelude.{◌==◌}
use Rattle.std.specs.List.{AllZip}
use Rattle.std.proofs.lemmas.Bool.{cases_Bool, eqb-true, false≢true}
use Rattle.r6_dev.specs.Promises.{Promise}
use Rattle.r6_layout.specs.Shape.{Shape}
use Rattle.r6_health.specs.Passes.{view_of}
use Rattle.r6_health.specs.declared.call.Call.{Call}
use Rattle.r6_health.specs.declared.call.Call.TheVariants.{DeclareLost}
use Rattle.r6_health.specs.declared.history.OwnCall.{OwnCall}
use Rattle.r6_world.specs.Registers.{Snapshot}
use Rattle.r6_shard.specs.declared.parts.Parts.{Parts}
use Rattle.r6_shard.specs.Own.{AreOwn, is_own}
use Rattle.r6_shard.specs.Sound.{StartsSound}
use Rattle.r6_shard.specs.declared.performs.Performs.{Ghosts}
use Rattle.r6_engine.specs.declared.feed.event.Event.{Event}
use Rattle.r6_engine.specs.declared.feed.event.Event.TheVariants.{Request, Wait, Fail, Attach, Replace, Check, Repair}
use Rattle.r6_engine.specs.feed.Events.{IsPromised, ArePromised}
use Rattle.r6_engine.specs.declared.runner.runner.Runner.{Runner}
use Rattle.r6_engine.specs.runner.Sound.{KeepsPromised}
use Rattle.r6_engine.specs.runner.Going.{TakesNoMore}
use Rattle.r6_engine.specs.Named.{NewDeviceFailsNone, NewDevicesFailNone, declares, LeaveSoundAlone, BeginsSound}
use Rattle.r6_engine.specs.Passes.{CallAsTheyMay}
use Rattle.r6_engine.specs.Serves.{AreNumbered}
use Rattle.r6_engine.proofs.EachShard.{number_at, partner_at, partner_of, some_same}

one-promised : {D : Type 0} (promised : D → Promise) (shape : Shape) (Sound : ℕ → ℕ → Type 0) (event : Event D)
    → ((shard slot : ℕ) → Sound shard slot → NewDeviceFailsNone promised shape shard slot event) → IsPromised promised shape Sound event
one-promised promised shape Sound (Attach slot parts) f = λ shard sound. f shard slot sound refl
one-promised promised shape Sound (Replace slot parts) f = λ shard sound. f shard slot sound refl
one-promised promised shape Sound (Request op) f = tt
one-promised promised shape Sound Wait f = tt
one-promised promised shape Sound (Fail slot) f = tt
one-promised promised shape Sound Check f = tt
one-promised promised shape Sound Repair f = tt

pub are-promised : {D : Type 0} (promised : D → Promise) (shape : Shape) (Sound : ℕ → ℕ → Type 0) (events : List (Event D))
    → ((shard slot : ℕ) → Sound shard slot → NewDevicesFailNone promised shape shard slot events) → ArePromised promised shape Sound events
are-promised promised shape Sound events f k d below =
    one-promised promised shape Sound (slice_index_or events k d) (λ shard slot sound. f shard slot sound k d below)

-- a slot that isn't named was never declared lost
not-declared : (shard : ℕ) (named : List Bool) (slot : ℕ) → slice_index_or named slot false ≡ false → (call : Call)
    → is_own shard named call ≡ true → declares slot call ≡ false
not-declared shard named slot unnamed (DeclareLost other generation) own = elim (cases_Bool (other == slot)) [
  | inl same ↦ absurd (false≢true (sym unnamed ∙ ap (λ y. slice_index_or named y false) (sym (eqb-true other slot same)) ∙ own))
  | inr apart ↦ apart
]
not-declared shard named slot unnamed call own = refl

none-declared : (shard : ℕ) (named : List Bool) (slot : ℕ) (mine : List OwnCall) → slice_index_or named slot false ≡ false
    → AreOwn shard named mine → All (λ made. declares slot made.call ≡ false) mine
none-declared shard named slot mine unnamed own k d below =
    not-declared shard named slot unnamed (slice_index_or mine k d).call (own k d below)

pub leave_sound_alone : {P D T : Type 0} {g : Ghosts P} (promised : D → Promise) (steady : ℕ → ℕ → Bool) (shape : Shape) (Sound : ℕ → ℕ → Type 0) (start : Snapshot)
    (events : List (Event D)) (number : T → ℕ) (runner : T → Runner P D g) (parts : List (Parts D)) (olds news : List T) (runners : List (Runner P D g))
    → AllZip (λ p t. BeginsSound promised steady shape start p (number t) (runner t)) parts olds
    → AllZip (λ a b. KeepsPromised shape Sound (number a) (runner a) (runner b)) olds news
    → AreNumbered number olds → AllZip (λ t r. TakesNoMore (runner t) r) news runners → CallAsTheyMay runners
    → ((shard slot : ℕ) → NewDevicesFailNone promised shape shard slot events → Sound shard slot)
    → LeaveSoundAlone promised steady shape start parts events runners
leave_sound_alone {D = D} promised steady shape Sound start events number runner parts olds news runners begins run numbered goes calls sound shard slot own r part_at runner_at goes_on starts attaches =
    let mid = partner_of _ _ olds news runners shard r run goes runner_at in
    let first = partner_at (λ p t. BeginsSound promised steady shape start p (number t) (runner t)) parts olds shard mid.0 begins mid.2 in
    let part : first.0 ≡ own = some_same first.0 own (sym first.1 ∙ part_at) in
    let there : number mid.0 ≡ shard = number_at number olds shard mid.0 mid.2 numbered in
    let begun = first.2 slot (subst (λ n. steady n slot ≡ true) (sym there) goes_on)
    (subst (λ (y : Parts D). StartsSound promised shape (number mid.0) start slot y.parts.items) (sym part)
    (subst (λ n. StartsSound promised shape n start slot own.parts.items) (sym there) starts)) in
    let ran = mid.3 slot (subst (λ n. Sound n slot) (sym there) (sound shard slot attaches)) begun in
    let ended = mid.4.sound shape (number mid.0) slot ran in (
      ended.unnamed,
      none-declared shard r.shard.named slot (view_of r.shard.pass).mine ended.unnamed (calls shard r runner_at),
    )
