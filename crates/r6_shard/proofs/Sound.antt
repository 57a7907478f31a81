-- Sound slots stay sound.
use Rattle.std.proofs.Common.{◌≡◌, ℕ, zero, suc, ◌<◌, ◌⊎◌, List, length, Bool, true, false, inl, inr, refl, sym, ap, subst, ◌∙◌, get_or-set_other, Option, Some, None, Result, Ok, Err, replicate}
use Rattle.std.specs.Prelude.{◌==◌, ◌||◌, ◌&&◌, not, slice_index_or, slice_set, is_err, IsOk}
use Rattle.std.proofs.lemmas.Bool.{cases_eq, true≢false, false≢true}
use Rattle.r6_dev.specs.History.{Telling}
use Rattle.r6_dev.specs.Promises.{Promise, Covers, FailsNone}
use Rattle.r6_layout.specs.Shape.{Shape}
use Rattle.r6_world.specs.Tables.{put}
use Rattle.r6_world.specs.Layouts.{Layout, IsRowOf, slot_of}
use Rattle.r6_world.specs.Geometries.{layout_of}
use Rattle.r6_world.specs.Registers.{Snapshot, ShardSet, Status, InSync, Lost, Rebuilding, Replacing, is_in_sync, status_of}
use Rattle.r6_world.specs.Tasks.{Task, Hold, Outcome, ReadFor, WriteFor, Rebuild, Check, Repair, Answered, Wrote, Rebuilt, GivenUp, Classed, Skipped}
use Rattle.r6_world.specs.ShardStates as world
use Rattle.r6_world.specs.ShardStates.{Command, SlotState, Synced, Missing, Building, Doubled, Paired, InSyncFor, IsBuiltOn, Fetch, Store, handed, has_device}
use Rattle.r6_world.specs.Changes.{Ask, Send, Copy, Read_direct, Give_direct, Learn, Confirm, Come_home, Lose, Adopt, See_failed, Finish, Bring_in, Hand_command, Fix, Ask_again, Fail, Set_back, Move, Give_over, slots_in_error, IsWrittenFor, abandoned_if, abandoned_to, adopted, without, brought_in, slots_after, with_row}
use Rattle.r6_world.specs.Steps as steps
use Rattle.r6_world.specs.Steps.{Event, Look, Deliver, Take_command, Completion, Receipt}
use Rattle.r6_world.specs.Worlds.{slot_at_start}
use Rattle.r6_world.proofs.Tables.{put-cases, Some-inj, not_both, None-not_Some}
use Rattle.r6_world.specs.Refusals.{IsNoLook}
use Rattle.r6_world.proofs.Changes.{Keeps, step-kept, lost-kept}
use Rattle.r6_world.specs.Values.{completion_of, error_of, receipt_of}
use Rattle.r6_world.proofs.Uses.{sync-uses, reach-uses}
use Rattle.r6_world.proofs.Register.RegisterCalls.{Builds}
use Rattle.r6_world.proofs.Register.PutAway.{uses-adopted, without-was, brought-was}
use Rattle.r6_world.proofs.Register.WaitingCalls.{row-was}
use Rattle.r6_course.specs.Ends.{IsInUse}
use Rattle.r6_course.proofs.Ends.{in-use, uses-of}
use Rattle.r6_course.specs.Steps.{OthersAreKept}
use Rattle.r6_world.specs.declared.values.Command.{Command as CoreCommand}
use Rattle.r6_exchange.specs.declared.completion.Completion.{Completion as CoreCompletion}
use Rattle.r6_world.specs.declared.values.DeviceFault.{DeviceFault}
use Rattle.r6_world.specs.declared.values.Receipt.{Receipt as CoreReceipt}
use Rattle.r6_world.specs.declared.values.Receipt.TheVariants as core-receipt
use Rattle.r6_core.specs.Effects.{IsMade}
use Rattle.r6_core.specs.Shards.{CoreView, Step, world_shard}
use Rattle.r6_shard.specs.Kept.{IsOut, named_by}
use Rattle.r6_shard.specs.New.{IsNew, HasNew}
use Rattle.r6_shard.specs.Performing.{Performer, Failed, Did, HasPart, Receives, having_sent}
use Rattle.r6_shard.specs.Uses.{UsesOnly}
use Rattle.r6_shard.specs.Sound.{IsSound, BeginsSound}
use Rattle.r6_shard.proofs.Out.{some-there}

-- ---- each small change

in-sync-used : (state : SlotState) (row generation : ℕ) → InSyncFor state row generation → IsInUse state generation
in-sync-used state row generation sync = in-use state generation (sync-uses state row generation sync)

written-used : (h : Hold) (slot generation : ℕ) (state : SlotState) → IsWrittenFor h slot generation state → IsInUse state generation
written-used h slot generation state written = in-use state generation (reach-uses h.task slot h.row generation state written)

-- a slot that a look has changed is used with devices that it was used with, or with the one that is built
built-new : (status : Status) (generation : ℕ) (reported : ShardSet) → Builds status generation reported → IsNew status generation
built-new (InSync current) generation reported b = absurd b
built-new Lost generation reported b = absurd b
built-new (Rebuilding current others) generation reported b = sym b.0
built-new (Replacing old new others) generation reported b = sym b.0

adopted-used : (now : SlotState) (status : Status) (generation : ℕ) → IsInUse (adopted now status) generation
    → IsInUse now generation ⊎ IsNew status generation
adopted-used now status generation u = elim (uses-adopted now status generation (uses-of (adopted now status) generation u)) [
  | inl before ↦ inl (in-use now generation before)
  | inr builds ↦ inr (built-new status generation builds.0 builds.1)
]

-- a slot that has lost a device is used with others that it had
pub without-used : (state : SlotState) (lost generation : ℕ) → IsInUse (without state lost) generation → IsInUse state generation
without-used state lost generation u = in-use state generation (without-was state lost generation (uses-of (without state lost) generation u))

pub brought-used : (state : SlotState) (generation : ℕ) → IsInUse (brought_in state) generation → IsInUse state generation
brought-used state generation u = in-use state generation (brought-was state generation (uses-of (brought_in state) generation u))

with-row-used : (state : SlotState) (row generation : ℕ) → IsInUse (with_row state row) generation → IsInUse state generation
with-row-used state row generation u = in-use state generation (row-was state row generation (uses-of (with_row state row) generation u))

-- one slot's state is put
pub put-used : (states : ℕ → SlotState) (d : ℕ) (state : SlotState) (slot generation : ℕ) {A : Type 0}
    → (slot ≡ d → IsInUse state generation → A) → (IsInUse (states slot) generation → A) → IsInUse (put states d state slot) generation → A
put-used states d state slot generation here there u = elim (put-cases states d state slot (put states d state slot) refl) [
  | inl p ↦ here p.0 (subst (λ y. IsInUse y generation) (sym p.1) u)
  | inr p ↦ there (subst (λ y. IsInUse y generation) (sym p.1) u)
]

pub finished-used : (s : world.Shard) (h : Hold) (task : Task) (outcome : Outcome) (slot generation : ℕ)
    → IsInUse (slots_after s h task outcome slot) generation → IsInUse (s.slot slot) generation
finished-used s h (Rebuild target g) Rebuilt slot generation u =
    put-used s.slot target (with_row (s.slot target) h.row) slot generation
    (λ same v. subst (λ y. IsInUse (s.slot y) generation) (sym same) (with-row-used (s.slot target) h.row generation v)) (λ v. v) u
finished-used s h (Rebuild target g) GivenUp slot generation u = u
finished-used s h (Rebuild target g) (Answered b) slot generation u = u
finished-used s h (Rebuild target g) Wrote slot generation u = u
finished-used s h (Rebuild target g) (Classed class) slot generation u = u
finished-used s h (Rebuild target g) Skipped slot generation u = u
finished-used s h (ReadFor id block) outcome slot generation u = u
finished-used s h (WriteFor writes) outcome slot generation u = u
finished-used s h Check outcome slot generation u = u
finished-used s h Repair outcome slot generation u = u

-- an abandoned command goes where it went
if-goes : (b : Bool) (o : Option Command) (c : Command) {A : Type 0} → abandoned_if b o ≡ Some c
    → ((d : Command) → o ≡ Some d → (d.slot ≡ c.slot) → (d.generation ≡ c.generation) → A) → A
if-goes b None c e k = absurd (not_both None c refl e)
if-goes b (Some d) c e k = let same = Some-inj _ c e in k d refl (ap (λ (y : Command). y.slot) same) (ap (λ (y : Command). y.generation) same)

to-goes : (b : Bool) (slot : ℕ) (now : SlotState) (o : Option Command) (c : Command) {A : Type 0} → abandoned_to b slot now o ≡ Some c
    → ((d : Command) → o ≡ Some d → (d.slot ≡ c.slot) → (d.generation ≡ c.generation) → A) → A
to-goes b slot now None c e k = absurd (not_both None c refl e)
to-goes b slot now (Some d) c e k = if-goes (b || ((d.slot == slot) && not (has_device now d.generation))) (Some d) c e k

module _ (l : Layout) (n : ℕ) (Has : ℕ → Type 0) (slot : ℕ) where
  abbrev Goes : (ℕ → Option Command) → Type 0
  Goes command = (token : ℕ) (c : Command) → command token ≡ Some c → c.slot ≡ slot → Has c.generation

  with-one : (command : ℕ → Option Command) (at : ℕ) (new : Command) → (new.slot ≡ slot → Has new.generation) → Goes command
      → Goes (put command at (Some new))
  with-one command at new has x t c e same = elim (put-cases command at (Some new) t (Some c) e) [
    | inl p ↦
        let is = Some-inj new c p.1 in
        subst Has (ap (λ (y : Command). y.generation) is) (has (ap (λ (y : Command). y.slot) is ∙ same))
    | inr p ↦ x t c p.1 same
  ]

  without-one : (command : ℕ → Option Command) (at : ℕ) → Goes command → Goes (put command at None)
  without-one command at x t c e same = elim (put-cases command at None t (Some c) e) [
    | inl p ↦ absurd (not_both None c refl p.1)
    | inr p ↦ x t c p.1 same
  ]

  abandoned-go : (stopped : Bool) (d : ℕ) (now : SlotState) (command : ℕ → Option Command) → Goes command → Goes (λ t. abandoned_to stopped d now (command t))
  abandoned-go stopped d now command x t c e same =
      to-goes stopped d now (command t) c e (λ c' e' slot' g'. subst Has g' (x t c' e' (slot' ∙ same)))

  -- where the event is a look: the slot's new device is one of those
  abbrev pub Finds : Event → Type 0
  Finds (Look seen) = slot < l.slots → (generation : ℕ) → IsNew (status_of seen slot) generation → Has generation
  Finds event = record {}

  -- a new command goes to a device that is used
  to-used : (s : world.Shard) (d g : ℕ) → UsesOnly l.slots Has slot s → d < l.slots → IsInUse (s.slot d) g → d ≡ slot → Has g
  to-used s d g x below u same =
      x.0 (subst (λ y. y < l.slots) same below) g (subst (λ y. IsInUse (s.slot y) g) same u)

  uses-kept : (event : Event) → Finds event → Keeps l n (UsesOnly l.slots Has slot) event
  uses-kept event finds s (Ask f h d g) within a x = (
    x.0,
    with-one s.command s.tokens (record { frame = f; slot = d; generation = g; row = h.row; transfer = Fetch; taken = false; abandoned = false; copy = false })
        (to-used s d g x a.1 (in-sync-used (s.slot d) h.row g a.2.0)) x.1,
  )
  uses-kept event finds s (Send f h d g b) within a x = (
    x.0,
    with-one s.command s.tokens (record { frame = f; slot = d; generation = g; row = h.row; transfer = Store b; taken = false; abandoned = false; copy = false })
        (to-used s d g x a.1 (written-used h d g (s.slot d) a.2)) x.1,
  )
  uses-kept event finds s (Copy f h d g b) within a x = (
    x.0,
    with-one s.command s.tokens (record { frame = f; slot = d; generation = g; row = h.row; transfer = Store b; taken = false; abandoned = false; copy = true })
        (to-used s d g x a.1 (written-used h d g (s.slot d) a.2)) x.1,
  )
  uses-kept event finds s (Read_direct buffer id block g) within a x = (
    x.0,
    with-one s.command s.tokens (record { frame = buffer; slot = slot_of l block; generation = g; row = l.row_of block; transfer = Fetch; taken = false; abandoned = false; copy = false })
        (to-used s (slot_of l block) g x a.3 (in-sync-used (s.slot (slot_of l block)) (l.row_of block) g a.4.0)) x.1,
  )
  uses-kept event finds s (Fix f h d g b) within a x = (
    x.0,
    with-one s.command s.tokens (record { frame = f; slot = d; generation = g; row = h.row; transfer = Store b; taken = false; abandoned = false; copy = false })
        (to-used s d g x a.1 (in-sync-used (s.slot d) h.row g a.2.0)) x.1,
  )
  uses-kept event finds s (Ask_again f h d g) within a x = (
    x.0,
    with-one s.command s.tokens (record { frame = f; slot = d; generation = g; row = h.row; transfer = Fetch; taken = false; abandoned = false; copy = false })
        (to-used s d g x a.1 (in-sync-used (s.slot d) h.row g a.2.0)) x.1,
  )
  uses-kept event finds s (Fail t c h) within a x = (x.0, without-one s.command t x.1)
  uses-kept event finds s (Set_back t c id block) within a x = (x.0, without-one s.command t x.1)
  uses-kept event finds s (Give_over f h) within a x =
      lost-kept l (UsesOnly l.slots Has slot) (λ s d x. (
        λ below g u. put-used s.slot d Missing slot g (λ same v. absurd v) (x.0 below g) u,
        abandoned-go _ d Missing s.command x.1,
      )) (slots_in_error l h) s x
  uses-kept event finds s (Move f h d g) within a x = (
    λ below g' u. put-used s.slot d (without (s.slot d) g) slot g'
        (λ same v. x.0 below g' (subst (λ y. IsInUse (s.slot y) g') (sym same) (without-used (s.slot d) g g' v))) (x.0 below g') u,
    abandoned-go _ d (without (s.slot d) g) s.command x.1,
  )
  uses-kept event finds s (Give_direct t c id block b) within a x = (x.0, without-one s.command t x.1)
  uses-kept event finds s (Learn t c h b) within a x = (x.0, without-one s.command t x.1)
  uses-kept event finds s (Confirm t c h) within a x = (x.0, without-one s.command t x.1)
  uses-kept event finds s (Come_home t c) within a x = (x.0, without-one s.command t x.1)
  uses-kept event finds s (Lose t c) within a x = (
    λ below g u. put-used s.slot c.slot (without (s.slot c.slot) c.generation) slot g
        (λ same v. x.0 below g (subst (λ y. IsInUse (s.slot y) g) (sym same) (without-used (s.slot c.slot) c.generation g v))) (x.0 below g) u,
    abandoned-go _ c.slot (without (s.slot c.slot) c.generation) (put s.command t None) (without-one s.command t x.1),
  )
  uses-kept event finds s (Adopt d status) within a x = (
    λ below g u. put-used s.slot d (adopted (s.slot d) status) slot g
        (λ same v. elim (adopted-used (s.slot d) status g v) [
          | inl before ↦ x.0 below g (subst (λ y. IsInUse (s.slot y) g) (sym same) before)
          | inr new ↦
              let sees : Finds (Look within.0) = subst Finds within.1 finds in
              sees below g (subst (λ y. IsNew y g) (within.2 ∙ ap (status_of within.0) (sym same)) new)
        ])
        (x.0 below g) u,
    abandoned-go _ d (adopted (s.slot d) status) s.command x.1,
  )
  uses-kept event finds s See_failed within a x = (
    x.0,
    λ t c e same. if-goes true (s.command t) c e (λ c' e' slot' g'. subst Has g' (x.1 t c' e' (slot' ∙ same))),
  )
  uses-kept event finds s (Finish f h outcome) within a x = (
    λ below g u. x.0 below g (finished-used s h h.task outcome slot g u),
    x.1,
  )
  uses-kept event finds s (Bring_in d g) within a x = (
    λ below g' u. put-used s.slot d (brought_in (s.slot d)) slot g'
        (λ same v. x.0 below g' (subst (λ y. IsInUse (s.slot y) g') (sym same) (brought-used (s.slot d) g' v))) (x.0 below g') u,
    x.1,
  )
  uses-kept event finds s (Hand_command t c) within a x = (
    x.0,
    with-one s.command t (record c { taken = true; transfer = handed c.transfer }) (x.1 t c a.0) x.1,
  )
  uses-kept event finds s change within a x = x

  pub uses-on : (event : Event) → Finds event → (old new : world.Shard) → steps.Step l n old event new → UsesOnly l.slots Has slot old
      → UsesOnly l.slots Has slot new
  uses-on event finds old new step x = step-kept l n (UsesOnly l.slots Has slot) event (uses-kept event finds) old new step x

-- ---- each call of the core

pub finds-none : (l : Layout) (n : ℕ) (Has : ℕ → Type 0) (slot : ℕ) (event : Event) → IsNoLook event → Finds l n Has slot event
finds-none l n Has slot (Look seen) k = absurd k
finds-none l n Has slot event k = record {}

step-in : (shape : Shape) (old : CoreView) (event : Event) (new : CoreView) → old.shape ≡ shape → Step old event new
    → steps.Step (layout_of shape) old.shard (world_shard old) event (world_shard new)
step-in shape old event new is step =
    subst (λ y. steps.Step (layout_of y) old.shard (world_shard old) event (world_shard new)) is step.1

module _ (p : Performer) (shape : Shape) (number slot : ℕ) where
  goes-on : (old : CoreView) (event : Event) (new : CoreView) (named : List Bool)
      → Finds (layout_of shape) old.shard (HasPart p.tells slot) slot event → Step old event new
      → IsSound p shape number slot old named → IsSound p shape number slot new named
  goes-on old event new named finds step x =
      record {
        shape_is = step.0.0 ∙ x.shape_is;
        place = step.0.1 ∙ x.place;
        steady = x.steady;
        parts = x.parts;
        here = uses-on (layout_of shape) old.shard (HasPart p.tells slot) slot event finds (world_shard old) (world_shard new)
            (step-in shape old event new x.shape_is step) x.here;
        unnamed = x.unnamed;
      }

  -- any call but a look
  pub sound-by : (old : CoreView) (event : Event) (new : CoreView) (named : List Bool) → IsNoLook event → Step old event new
      → IsSound p shape number slot old named → IsSound p shape number slot new named
  sound-by old event new named none step x =
      goes-on old event new named (finds-none (layout_of shape) old.shard (HasPart p.tells slot) slot event none) step x

  pub sound-twice : (old : CoreView) (event : Event) (mid : CoreView) (event' : Event) (new : CoreView) (named : List Bool)
      → IsNoLook event → IsNoLook event' → Step old event mid → Step mid event' new
      → IsSound p shape number slot old named → IsSound p shape number slot new named
  sound-twice old event mid event' new named none none' first second x =
      sound-by mid event' new named none' second (sound-by old event mid named none first x)

  pub sound-same : (old new : CoreView) (named : List Bool) → new ≡ old
      → IsSound p shape number slot old named → IsSound p shape number slot new named
  sound-same old new named same x = subst (λ y. IsSound p shape number slot y named) (sym same) x

  pub sound-looked : (old : CoreView) (seen : Snapshot) (new : CoreView) (named : List Bool) → (slot < shape.slots → HasNew p.tells seen slot)
      → Step old (Look seen) new
      → IsSound p shape number slot old named → IsSound p shape number slot new named
  sound-looked old seen new named here step x = goes-on old (Look seen) new named here step x

-- ---- a command

-- it is sent
pub sound-sent : (p : Performer) (c : CoreCommand) (shape : Shape) (number slot : ℕ) (core : CoreView) (named : List Bool)
    → IsSound p shape number slot core named → IsSound (having_sent p c) shape number slot core named
sound-sent p c shape number slot core named x =
    record { shape_is = x.shape_is; place = x.place; steady = x.steady; parts = x.parts; here = x.here; unnamed = x.unnamed }

is-ok : {A : Type 0} (completion : Result (List ℕ) DeviceFault) → IsOk completion → is_err completion ≡ true → A
is-ok (Ok came) ok e = absurd (true≢false (sym e))
is-ok (Err fault) ok e = absurd (false≢true ok)

-- of another slot nothing is named
still-unnamed : (failed : Bool) (receipt : CoreReceipt) (named : List Bool) (slot other : ℕ)
    → (failed ≡ true → other ≡ slot → ⊥) → slice_index_or named other false ≡ false
    → slice_index_or (named_by failed receipt slot named) other false ≡ false
still-unnamed true core-receipt.Taken named slot other ne e = get_or-set_other named slot other true false (λ same. ne refl same) ∙ e
still-unnamed true core-receipt.Late named slot other ne e = e
still-unnamed false receipt named slot other ne e = e

others-kept : (old new : ℕ → ℕ → Option Telling) (c : CoreCommand) (completion : Result (List ℕ) DeviceFault) → Did old new c completion
    → OthersAreKept c.slot c.generation old new
others-kept old new c (Ok came) did = did.others
others-kept old new c (Err fault) did = did.others

own-there : (old new : ℕ → ℕ → Option Telling) (c : CoreCommand) (completion : Result (List ℕ) DeviceFault) → Did old new c completion → IsOk completion
    → HasPart new c.slot c.generation
own-there old new c (Ok came) did ok = λ e. None-not_Some did.behind (sym e ∙ did.is)
own-there old new c (Err fault) did ok = absurd (false≢true ok)

-- and its completion received
module _ (old-p new-p : Performer) (a : CoreCompletion) (r : Receives old-p new-p a) (shape : Shape) (number slot : ℕ) where
  pub sound-received : (old new : CoreView) (receipt : CoreReceipt) (failed : Bool) (named : List Bool)
      → IsOut old.shape old.shard (world_shard old).command a.token r.command
      → Step old (Deliver a.token (completion_of a.result) (receipt_of receipt)) new → failed ≡ is_err a.result
      → IsSound old-p shape number slot old named → IsSound new-p shape number slot new (named_by failed receipt r.command.slot named)
  sound-received old new receipt failed named out delivers is x =
      let between = sound-by old-p shape number slot old (Deliver a.token (completion_of a.result) (receipt_of receipt)) new named (record {}) delivers x in
      record {
        shape_is = between.shape_is;
        place = between.place;
        steady = (λ i. r.steady i slot) ∙ x.steady;
        parts = λ g has. subst (λ (y : ℕ → ℕ → Promise). FailsNone (y slot g) (IsRowOf (layout_of shape) number) shape.block) (sym r.promised)
            (x.parts g (was g has));
        here = (
          λ below g u. stays g (between.here.0 below g u),
          λ token d e same. stays d.generation (between.here.1 token d e same),
        );
        unnamed = still-unnamed failed receipt named r.command.slot slot (λ f same. is-ok a.result (fine (sym same)) (sym is ∙ f)) x.unnamed;
      }
    where
      -- the command went to a part of the slot
      went : r.command.slot ≡ slot → HasPart old-p.tells slot r.command.generation
      went same = some-there ((world_shard old).command a.token) out.there (λ d there.
          subst (HasPart old-p.tells slot) (out.same d there).2 (x.here.1 a.token d there ((out.same d there).1 ∙ same)))

      row-of : IsRowOf (layout_of shape) number r.command.row
      row-of = subst (λ n. IsRowOf (layout_of shape) n r.command.row) x.place
          (subst (λ (y : Shape). IsRowOf (layout_of y) old.shard r.command.row) x.shape_is out.row)

      fine : r.command.slot ≡ slot → IsOk a.result
      fine same = r.sound (subst (λ y. Covers (old-p.promised y r.command.generation) r.command.row (length r.command.buffer)) (sym same)
          (subst (Covers (old-p.promised slot r.command.generation) r.command.row) (sym (out.block ∙ ap (λ (y : Shape). y.block) x.shape_is))
          (x.parts r.command.generation (went same) r.command.row row-of)))

      which : {A : Type 0} (g : ℕ) → ((slot ≡ r.command.slot) → (g ≡ r.command.generation) → A)
          → (((slot ≡ r.command.slot) × (g ≡ r.command.generation) → ⊥) → A) → A
      which g here else = elim (cases_eq slot r.command.slot) [
        | inl same ↦ elim (cases_eq g r.command.generation) [
          | inl same' ↦ here same same'
          | inr ne ↦ else (λ both. ne both.1)
        ]
        | inr ne ↦ else (λ both. ne both.0)
      ]

      was : (g : ℕ) → HasPart new-p.tells slot g → HasPart old-p.tells slot g
      was g has = which g (λ same same'. subst (HasPart old-p.tells slot) (sym same') (went (sym same)))
          (λ ne e. has (others-kept old-p.tells new-p.tells r.command a.result r.did slot g ne ∙ e))

      stays : (g : ℕ) → HasPart old-p.tells slot g → HasPart new-p.tells slot g
      stays g has = which g
          (λ same same'. subst (HasPart new-p.tells slot) (sym same') (subst (λ y. HasPart new-p.tells y r.command.generation) (sym same)
          (own-there old-p.tells new-p.tells r.command a.result r.did (fine (sym same)))))
          (λ ne e. has (sym (others-kept old-p.tells new-p.tells r.command a.result r.did slot g ne) ∙ e))

-- how a slot is named, if it is
pub named-how : (old-part new-part : ℕ → ℕ → Option Telling) (old new : CoreView) (token : ℕ) (c : CoreCommand) (completion : Result (List ℕ) DeviceFault)
    (receipt : CoreReceipt) (failed : Bool) (named : List Bool) → Did old-part new-part c completion
    → Step old (Deliver token (completion_of completion) (receipt_of receipt)) new → failed ≡ is_err completion
    → (named_by failed receipt c.slot named ≡ named)
    ⊎ ((fault : DeviceFault) × Failed old-part new-part c fault × Step old (Deliver token (error_of fault.kind) steps.Taken) new
    × (named_by failed receipt c.slot named ≡ slice_set named c.slot true))
named-how old-part new-part old new token c completion receipt false named did step is = inl refl
named-how old-part new-part old new token c completion core-receipt.Late true named did step is = inl refl
named-how old-part new-part old new token c (Ok came) core-receipt.Taken true named did step is = absurd (true≢false is)
named-how old-part new-part old new token c (Err fault) core-receipt.Taken true named did step is =
    inr (fault, did, step, refl)

-- ---- the start

-- no slot is named at first
pub none-named : (count k : ℕ) → slice_index_or (replicate count false) k false ≡ false
none-named zero k = refl
none-named (suc count) zero = refl
none-named (suc count) (suc k) = none-named count k

pub sound-begun : (p : Performer) (shape : Shape) (snapshot : Snapshot) (number slot : ℕ)
    (core : CoreView) (named : List Bool) → IsMade shape snapshot number core → ((k : ℕ) → slice_index_or named k false ≡ false)
    → BeginsSound p shape number snapshot slot → IsSound p shape number slot core named
sound-begun p shape snapshot number slot core named made none x =
    let l = layout_of shape in
    record {
      shape_is = made.geometry;
      place = made.number;
      steady = x.steady;
      parts = x.parts;
      here = subst (UsesOnly shape.slots (HasPart p.tells slot) slot) (sym made.start) (
        λ below g u. first below g (status_of snapshot slot) refl u,
        λ token c e same. absurd (None-not_Some c e),
      );
      unnamed = none slot;
    }
  where
    first : slot < shape.slots → (g : ℕ) → (status : Status) → status_of snapshot slot ≡ status → IsInUse (slot_at_start status) g → HasPart p.tells slot g
    first below g (InSync current) e u = subst (HasPart p.tells slot) (sym u) (x.here below (ap is_in_sync e))
    first below g Lost e u = absurd u
    first below g (Rebuilding generation reported) e u = absurd u
    first below g (Replacing old new reported) e u = absurd u
