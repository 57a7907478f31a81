-- What a shard keeps, it keeps with each call.
use Rattle.std.proofs.Common.{◌≡◌, ℕ, ◌+◌, ◌<◌, ◌≤◌, ◌⊎◌, List, length, Bool, true, false, inl, inr, refl, sym, ap, subst, ◌∙◌, arith, get_or-set_same, get_or-set_other, Option, Some, None, Result, Ok, Err}
use Rattle.std.specs.Prelude.{slice_index_or, slice_set, is_err}
use Rattle.std.proofs.lemmas.Bool.{cases_eq}
use Rattle.std.proofs.lemmas.List.{length-set}
use Rattle.r6_layout.specs.Shape.{Shape}
use Rattle.r6_layout.proofs.Roles.{slot_at-position_at}
use Rattle.r6_world.specs.PlainArray.{Op}
use Rattle.r6_world.specs.Layouts.{Layout}
use Rattle.r6_world.specs.Geometries.{layout_of}
use Rattle.r6_world.specs.Registers.{Snapshot, Told as Answer}
use Rattle.r6_world.specs.Tables.{put}
use Rattle.r6_world.specs.ShardStates as world
use Rattle.r6_world.specs.ShardStates.{Shard, LossOf, Call, handed}
use Rattle.r6_world.specs.declared.values.Command.{Command}
use Rattle.r6_world.specs.Changes.{Hand_call, Hear, Give_over, slots_in_error}
use Rattle.r6_world.specs.Steps as steps
use Rattle.r6_world.specs.Steps.{Event, Submit, Submit_all, Deliver, Completion, Good, Read_error, Receipt, Taken, Late, Take_command, No_command, Take_call, No_call, Told}
use Rattle.r6_world.specs.Refusals.{IsToTell, IsInError, IsNoError, IsNoLook}
use Rattle.r6_world.specs.Worlds.{shard_at_start}
use Rattle.r6_world.proofs.Changes.{IsSubmission, Keeps, step-kept, lost-kept}
use Rattle.r6_world.proofs.Tables.{put-same, None-not_Some, Some-inj}
use Rattle.r6_world.proofs.Refused.FirstReads.{only_errors_declare}
use Rattle.r6_world.specs.declared.values.DeviceFault.{DeviceFault}
use Rattle.r6_world.specs.declared.values.FaultKind.{FaultKind}
use Rattle.r6_world.specs.declared.values.FaultKind.TheVariants as fault_kind
use Rattle.r6_world.specs.declared.values.Receipt.{Receipt as CoreReceipt}
use Rattle.r6_world.specs.declared.values.Receipt.TheVariants as core-receipt
use Rattle.r6_world.specs.Values.{completion_of, receipt_of, world_command, error_of}
use Rattle.r6_core.specs.Shards.{CoreView, Step, core_layout, world_shard}
use Rattle.r6_world.specs.Tasks.{Rebuild, Check, Repair}
use Rattle.r6_core.specs.declared.turn.Task.{Task}
use Rattle.r6_core.specs.declared.turn.Task.TheVariants as task
use Rattle.r6_core.specs.declared.turn.Turn.{Turn}
use Rattle.r6_core.specs.declared.turn.Turn.TheVariants.{Started, Skipped}
use Rattle.r6_core.specs.Effects.{IsMade, IsCommandOf, TakesTurn}
use Rattle.r6_course.specs.Courses.{IsError, Mark, marked, looked_by}
use Rattle.r6_course.specs.Ends.{IsErrorAt}
use Rattle.r6_course.specs.Steps.{IsPlainCall}
use Rattle.r6_course.proofs.Ends.{error_law, loss_law}
use Rattle.r6_world.specs.Counting.{passes}
use Rattle.r6_shard.specs.Counted.{rows_of}
use Rattle.r6_shard.specs.Kept.{AreNumbered, AreOut, IsOut, NoneIsUntold, AreNamed, AreErrorsNamed, named_by, IsKept}
use Rattle.r6_shard.proofs.Steps.{still-numbered, one-more, all-more, IsBeside}
use Rattle.r6_shard.proofs.Out.{some-there, still-out, taken-out, delivered-out}

-- ---- the start

none-to-tell : (l : Layout) (snapshot : Snapshot) (n : ℕ) (call : Call) → IsToTell (shard_at_start l snapshot n) call → ⊥
none-to-tell l snapshot n call (inl none) = none
none-to-tell l snapshot n call (inr e) = None-not_Some _ e

pub kept-at-first : (shape : Shape) (snapshot : Snapshot) (number : ℕ) (core : CoreView) (out : ℕ → Option Command) (named : List Bool) (count : ℕ)
    → shape.slots ≤ 32 → count ≡ 0 → length named ≡ 32 → ((token : ℕ) → out token ≡ None) → IsMade shape snapshot number core
    → IsKept core out number named count
kept-at-first shape snapshot number core out named count few none long idle made =
    let start = sym made.start in (
      sym made.number,
      subst (λ (y : Shape). y.slots ≤ 32) (sym made.geometry) few,
      subst (λ (s : Shard). AreNumbered s count) start (sym none, λ id request e. absurd (None-not_Some _ e)),
      subst (λ (s : Shard). AreOut core.shape core.shard s.command s.tokens out) start (record {
        each = λ token c e. absurd (None-not_Some c (sym (idle token) ∙ e));
        all = λ token c e taken. absurd (None-not_Some _ e);
        tokens = λ token c e. absurd (None-not_Some _ e);
      }),
      subst NoneIsUntold start refl,
      subst (λ (s : Shard). AreNamed s named) start (λ slot generation told. absurd (none-to-tell (layout_of shape) snapshot number _ told)),
      long,
      subst (λ (s : Shard). AreErrorsNamed (core_layout core) s named) start (λ slot i. absurd (None-not_Some i.1 i.3)),
    )

-- ---- calls at the register

untold-kept : (l : Layout) (n : ℕ) (event : Event) → ((call : Call) → event ≡ Take_call call → ⊥) → Keeps l n NoneIsUntold event
untold-kept l n event none s (Hand_call call rest) within a x = absurd (none call within)
untold-kept l n event none s (Hear call answer) within a x = refl
untold-kept l n event none s (Give_over f h) within a x = lost-kept l NoneIsUntold (λ s slot x. x) (slots_in_error l h) s x
untold-kept l n event none s change within a x = x

-- ---- losses

-- events that hand no request in, take no command, bring none back, and take no call
abbrev pub IsPlain : Event → Type 0
IsPlain (Submit op id) = ⊥
IsPlain (Submit_all ops first) = ⊥
IsPlain (Deliver token completion receipt) = ⊥
IsPlain (Take_command token c) = ⊥
IsPlain (Take_call call) = ⊥
IsPlain (Told call answer) = ⊥
IsPlain event = record {}

pub plain-submits : (event : Event) → IsPlain event → IsSubmission event → ⊥
plain-submits (Submit op id) k is = k
plain-submits (Submit_all ops first) k is = k
plain-submits event k is = is

plain-takes : (event : Event) → IsPlain event → (call : Call) → event ≡ Take_call call → ⊥
plain-takes event k call e = subst IsPlain e k

plain-beside : (event : Event) → IsPlain event → IsBeside event
plain-beside (Submit op id) k = absurd k
plain-beside (Submit_all ops first) k = absurd k
plain-beside (Deliver token completion receipt) k = absurd k
plain-beside (Take_command token c) k = absurd k
plain-beside (Take_call call) k = absurd k
plain-beside (Told call answer) k = absurd k
plain-beside event k = record {}

plain-errors : (event : Event) → IsPlain event → IsNoError event
plain-errors (Deliver token completion receipt) k = absurd k
plain-errors event k = record {}

still-named : (old : CoreView) (event : Event) (new : CoreView) (named : List Bool) → IsNoError event → Step old event new
    → AreErrorsNamed (core_layout old) (world_shard old) named → AreNamed (world_shard old) named → AreNamed (world_shard new) named
still-named old event new named none step errors x slot generation i =
    elim (only_errors_declare (core_layout old) old.shard (world_shard old) (world_shard new) event none step.1 slot generation i).0 [
      | inl before ↦ x slot generation before
      | inr meets ↦ errors slot meets.0
    ]

-- ---- read errors of holds

no-error-at : (l : Layout) (s : Shard) (event : Event) (slot : ℕ) → IsNoError event → IsErrorAt l s event slot → ⊥
no-error-at l s (Deliver token Read_error Taken) slot none at = none
no-error-at l s event slot none at = at

-- the core is of the same array
errors-moved : (old new : CoreView) (named : List Bool) → new.shape ≡ old.shape → AreErrorsNamed (core_layout old) (world_shard new) named
    → AreErrorsNamed (core_layout new) (world_shard new) named
errors-moved old new named same x = subst (λ (y : Shape). AreErrorsNamed (layout_of y) (world_shard new) named) (sym same) x

still-erring : (old : CoreView) (event : Event) (new : CoreView) (named : List Bool) → IsNoError event → Step old event new
    → AreErrorsNamed (core_layout old) (world_shard old) named → AreErrorsNamed (core_layout new) (world_shard new) named
still-erring old event new named none step x = errors-moved old new named step.0.0 (λ slot i.
    elim (error_law (core_layout old) old.shard (world_shard old) event (world_shard new) step.1 slot i) [
      | inl before ↦ x slot before
      | inr at ↦ absurd (no-error-at (core_layout old) (world_shard old) event slot none at)
    ])

-- a read error is on the slot of its command
own-slot : (shape : Shape) (number : ℕ) (s : Shard) (token : ℕ) (c : Command) (completion : Completion) (receipt : Receipt) (slot : ℕ)
    → IsOut shape number s.command token c → IsErrorAt (layout_of shape) s (Deliver token completion receipt) slot → (slot ≡ c.slot) × (receipt ≡ Taken)
own-slot shape number s token c Read_error Taken slot out at =
    let same : at.0.slot ≡ c.slot = (out.same at.0 at.1).1 in
    let below : at.0.slot < shape.slots = subst (λ k. k < shape.slots) (sym same) out.slot in
    (sym at.3.2 ∙ slot_at-position_at shape at.3.0.row at.0.slot below ∙ same, refl)
own-slot shape number s token c completion receipt slot out at = absurd at

-- ---- commands that are out

-- the core is of the same array, and has the same number
moved : (old new : CoreView) (out : ℕ → Option Command) → new.shape ≡ old.shape → new.shard ≡ old.shard
    → AreOut old.shape old.shard (world_shard new).command (world_shard new).tokens out
    → AreOut new.shape new.shard (world_shard new).command (world_shard new).tokens out
moved old new out same same' x =
    subst (λ (n : ℕ). AreOut new.shape n (world_shard new).command (world_shard new).tokens out) (sym same')
    (subst (λ (y : Shape). AreOut y old.shard (world_shard new).command (world_shard new).tokens out) (sym same) x)

out-on : (old : CoreView) (event : Event) (new : CoreView) (out : ℕ → Option Command) → IsBeside event → Step old event new
    → AreOut old.shape old.shard (world_shard old).command (world_shard old).tokens out
    → AreOut new.shape new.shard (world_shard new).command (world_shard new).tokens out
out-on old event new out beside step x =
    moved old new out step.0.0 step.0.1
    (still-out old.shape old.shard out (core_layout old) old.shard event beside (world_shard old) (world_shard new) step.1 x)

-- ---- all of it

pub kept-plainly : (old : CoreView) (event : Event) (new : CoreView) (out : ℕ → Option Command) (number : ℕ) (named : List Bool) (count : ℕ)
    → IsPlain event → Step old event new → IsKept old out number named count → IsKept new out number named count
kept-plainly old event new out number named count plain step x =
    let l = core_layout old in (
      x.0 ∙ sym step.0.1,
      subst (λ y. y ≤ 32) (ap (λ y. y.slots) (sym step.0.0)) x.1,
      still-numbered l old.shard event (plain-submits event plain) (world_shard old) (world_shard new) count step.1 x.2,
      out-on old event new out (plain-beside event plain) step x.3,
      step-kept l old.shard NoneIsUntold event (untold-kept l old.shard event (plain-takes event plain)) (world_shard old) (world_shard new) step.1 x.4,
      still-named old event new named (plain-errors event plain) step x.7 x.5,
      x.6,
      still-erring old event new named (plain-errors event plain) step x.7,
    )

-- requests are accepted
kept-numbered : (old : CoreView) (event : Event) (new : CoreView) (out : ℕ → Option Command) (number : ℕ) (named : List Bool) (count count' : ℕ)
    → IsBeside event → IsNoError event → ((call : Call) → event ≡ Take_call call → ⊥) → AreNumbered (world_shard new) count'
    → Step old event new → IsKept old out number named count → IsKept new out number named count'
kept-numbered old event new out number named count count' beside none no-call numbered step x =
    let l = core_layout old in (
      x.0 ∙ sym step.0.1,
      subst (λ y. y ≤ 32) (ap (λ y. y.slots) (sym step.0.0)) x.1,
      numbered,
      out-on old event new out beside step x.3,
      step-kept l old.shard NoneIsUntold event (untold-kept l old.shard event no-call) (world_shard old) (world_shard new) step.1 x.4,
      still-named old event new named none step x.7 x.5,
      x.6,
      still-erring old event new named none step x.7,
    )

pub kept-submitting : (old : CoreView) (op : Op) (id : ℕ) (new : CoreView) (out : ℕ → Option Command) (number : ℕ) (named : List Bool) (count : ℕ)
    → Step old (Submit op id) new → IsKept old out number named count → IsKept new out number named (count + 1)
kept-submitting old op id new out number named count step x =
    kept-numbered old (Submit op id) new out number named count (count + 1) (record {}) (record {}) (λ call e. cc)
    (one-more (core_layout old) old.shard (world_shard old) (world_shard new) op id count step.1 x.2).1 step x

pub kept-together : (old : CoreView) (ops : List Op) (first : ℕ) (new : CoreView) (out : ℕ → Option Command) (number : ℕ) (named : List Bool) (count : ℕ)
    → Step old (Submit_all ops first) new → IsKept old out number named count → IsKept new out number named (count + length ops)
kept-together old ops first new out number named count step x =
    kept-numbered old (Submit_all ops first) new out number named count (count + length ops) (record {}) (record {}) (λ call e. cc)
    (all-more (core_layout old) old.shard (world_shard old) (world_shard new) ops first count step.1 x.2).1 step x

-- a call at the register is taken and told
pub kept-telling : (old mid new : CoreView) (call : Call) (answer : Answer) (out : ℕ → Option Command) (number : ℕ) (named : List Bool) (count : ℕ)
    → Step old (Take_call call) mid → Step mid (Told call answer) new → IsKept old out number named count → IsKept new out number named count
kept-telling old mid new call answer out number named count takes tells x =
    let l = core_layout old in
    let m = core_layout mid in (
      x.0 ∙ sym takes.0.1 ∙ sym tells.0.1,
      subst (λ y. y ≤ 32) (ap (λ y. y.slots) (sym takes.0.0) ∙ ap (λ y. y.slots) (sym tells.0.0)) x.1,
      still-numbered m mid.shard (Told call answer) (λ is. is) (world_shard mid) (world_shard new) count tells.1
          (still-numbered l old.shard (Take_call call) (λ is. is) (world_shard old) (world_shard mid) count takes.1 x.2),
      out-on mid (Told call answer) new out (record {}) tells (out-on old (Take_call call) mid out (record {}) takes x.3),
      ap (λ (y : Shard). y.untold) tells.1.1,
      still-named mid (Told call answer) new named (record {}) tells (still-erring old (Take_call call) mid named (record {}) takes x.7)
          (still-named old (Take_call call) mid named (record {}) takes x.7 x.5),
      x.6,
      still-erring mid (Told call answer) new named (record {}) tells (still-erring old (Take_call call) mid named (record {}) takes x.7),
    )

-- ---- a command

pub kept-taking : (old : CoreView) (c : Command) (frame : ℕ) (abandoned copy : Bool) (new : CoreView) (out : ℕ → Option Command) (number : ℕ) (named : List Bool) (count : ℕ)
    → Step old (Take_command c.token (world_command frame abandoned copy c)) new → IsCommandOf old c → IsKept old out number named count
    → IsKept new (put out c.token (Some c)) number named count
kept-taking old c frame abandoned copy new out number named count step there x =
    let l = core_layout old in
    let own : world.Command = world_command frame abandoned copy c in
    let at : world.Command = record own { taken = true; transfer = handed own.transfer } in
    let event = Take_command c.token own in
    let has : put (world_shard old).command c.token (Some at) c.token ≡ Some at = put-same (world_shard old).command c.token (Some at) c.token refl in (
      x.0 ∙ sym step.0.1,
      subst (λ y. y ≤ 32) (ap (λ y. y.slots) (sym step.0.0)) x.1,
      still-numbered l old.shard event (λ is. is) (world_shard old) (world_shard new) count step.1 x.2,
      moved old new (put out c.token (Some c)) step.0.0 step.0.1
          (subst (λ (s : Shard). AreOut old.shape old.shard s.command s.tokens (put out c.token (Some c))) (sym step.1.1)
          (taken-out old.shape old.shard out (world_shard old).command (world_shard old).tokens c frame abandoned copy step.1.0.0
          (record {
            there = λ none. None-not_Some at (sym none ∙ has);
            same = λ d e.
                let is = Some-inj at d (sym has ∙ e) in (
                  ap (λ (y : world.Command). y.taken) (sym is),
                  ap (λ (y : world.Command). y.slot) (sym is),
                  ap (λ (y : world.Command). y.generation) (sym is),
                );
            slot = there.slot;
            row = there.row;
            block = there.block;
          }) x.3)),
      step-kept l old.shard NoneIsUntold event (untold-kept l old.shard event (λ call e. cc)) (world_shard old) (world_shard new) step.1 x.4,
      still-named old event new named (record {}) step x.7 x.5,
      x.6,
      still-erring old event new named (record {}) step x.7,
    )

-- the completion of a command whose slot isn't to be named
abbrev IsHarmless : Result (List ℕ) DeviceFault → Receipt → Type 0
IsHarmless (Ok came) receipt = record {}
IsHarmless (Err fault) receipt = receipt ≡ Taken → ⊥

harmless-good : (completion : Result (List ℕ) DeviceFault) (receipt : Receipt) → is_err completion ≡ false → IsHarmless completion receipt
harmless-good (Ok came) receipt e = record {}
harmless-good (Err fault) receipt e = absurd (Rattle.std.proofs.lemmas.Bool.true≢false e)

harmless-late : (completion : Result (List ℕ) DeviceFault) → IsHarmless completion Late
harmless-late (Ok came) = record {}
harmless-late (Err fault) = λ e. cc

-- a fault is an error of some kind
pub is-error : (fault : DeviceFault) → IsError (completion_of (Err fault))
is-error fault = by_kind fault.kind
  where
    by_kind : (kind : FaultKind) → IsError (error_of kind)
    by_kind fault_kind.ReadFault = record {}
    by_kind fault_kind.WriteFault = record {}
    by_kind fault_kind.Gone = record {}
    by_kind fault_kind.Length = record {}

-- a command fails: of the losses to declare those are new that are of its slot, or of a slot with a read error
losses-of : (old new : CoreView) (token : ℕ) (c : Command) (fault : DeviceFault) (receipt : Receipt)
    → IsOut old.shape old.shard (world_shard old).command token c → Step old (Deliver token (completion_of (Err fault)) receipt) new
    → (slot generation : ℕ) → IsToTell (world_shard new) (LossOf slot generation)
    → IsToTell (world_shard old) (LossOf slot generation) ⊎ IsInError (core_layout old) (world_shard old) slot ⊎ ((slot ≡ c.slot) × (receipt ≡ Taken))
losses-of old new token c fault receipt out delivers slot generation i =
    some-there ((world_shard old).command token) out.there (λ d there.
    elim (loss_law (core_layout old) old.shard (world_shard old) token d (completion_of (Err fault)) receipt (world_shard new) (is-error fault) there delivers.1 slot generation i) [
      | inl before ↦ inl before
      | inr later ↦ elim later [
        | inl own ↦ inr (inr (own.0 ∙ (out.same d there).1, own.3))
        | inr meets ↦ elim meets.0 [
          | inl before ↦ inr (inl before)
          | inr at ↦ inr (inr (own-slot old.shape old.shard (world_shard old) token c (completion_of (Err fault)) receipt slot out at))
        ]
      ]
    ])

errors-of : (old new : CoreView) (token : ℕ) (c : Command) (completion : Completion) (receipt : Receipt)
    → IsOut old.shape old.shard (world_shard old).command token c → Step old (Deliver token completion receipt) new
    → (slot : ℕ) → IsInError (core_layout old) (world_shard new) slot
    → IsInError (core_layout old) (world_shard old) slot ⊎ ((slot ≡ c.slot) × (receipt ≡ Taken))
errors-of old new token c completion receipt out delivers slot i =
    elim (error_law (core_layout old) old.shard (world_shard old) (Deliver token completion receipt) (world_shard new) delivers.1 slot i) [
      | inl before ↦ inl before
      | inr at ↦ inr (own-slot old.shape old.shard (world_shard old) token c completion receipt slot out at)
    ]

named-plainly : (old new : CoreView) (token : ℕ) (c : Command) (completion : Result (List ℕ) DeviceFault) (receipt : Receipt) (named : List Bool)
    → IsOut old.shape old.shard (world_shard old).command token c → Step old (Deliver token (completion_of completion) receipt) new
    → IsHarmless completion receipt → AreErrorsNamed (core_layout old) (world_shard old) named → AreNamed (world_shard old) named
    → AreNamed (world_shard new) named
named-plainly old new token c (Ok came) receipt named out delivers harmless errors x =
    still-named old (Deliver token (Good came) receipt) new named (record {}) delivers errors x
named-plainly old new token c (Err fault) receipt named out delivers harmless errors x = λ slot generation i.
    elim (losses-of old new token c fault receipt out delivers slot generation i) [
      | inl before ↦ x slot generation before
      | inr later ↦ elim later [ inl meets ↦ errors slot meets | inr own ↦ absurd (harmless own.1) ]
    ]

erring-plainly : (old new : CoreView) (token : ℕ) (c : Command) (completion : Result (List ℕ) DeviceFault) (receipt : Receipt) (named : List Bool)
    → IsOut old.shape old.shard (world_shard old).command token c → Step old (Deliver token (completion_of completion) receipt) new
    → IsHarmless completion receipt → AreErrorsNamed (core_layout old) (world_shard old) named
    → AreErrorsNamed (core_layout new) (world_shard new) named
erring-plainly old new token c (Ok came) receipt named out delivers harmless x =
    still-erring old (Deliver token (Good came) receipt) new named (record {}) delivers x
erring-plainly old new token c (Err fault) receipt named out delivers harmless x = errors-moved old new named delivers.0.0 (λ slot i.
    elim (errors-of old new token c (completion_of (Err fault)) receipt out delivers slot i) [
      | inl before ↦ x slot before
      | inr own ↦ absurd (harmless own.1)
    ])

pub set-named : (named : List Bool) (slot other : ℕ) → slot < length named → slice_index_or named other false ≡ true
    → slice_index_or (slice_set named slot true) other false ≡ true
set-named named slot other below e = elim (cases_eq other slot) [
  | inl same ↦ ap (λ y. slice_index_or (slice_set named slot true) y false) same ∙ get_or-set_same named slot true false below
  | inr ne ↦ get_or-set_other named slot other true false ne ∙ e
]

own-named-now : (named : List Bool) (slot other : ℕ) → slot < length named → other ≡ slot → slice_index_or (slice_set named slot true) other false ≡ true
own-named-now named slot other below same =
    ap (λ y. slice_index_or (slice_set named slot true) y false) same ∙ get_or-set_same named slot true false below

named-anew : (old new : CoreView) (token : ℕ) (c : Command) (completion : Result (List ℕ) DeviceFault) (receipt : Receipt) (named : List Bool)
    → IsOut old.shape old.shard (world_shard old).command token c → Step old (Deliver token (completion_of completion) receipt) new
    → c.slot < length named → AreErrorsNamed (core_layout old) (world_shard old) named → AreNamed (world_shard old) named
    → AreNamed (world_shard new) (slice_set named c.slot true)
named-anew old new token c (Ok came) receipt named out delivers below errors x = λ slot generation i.
    set-named named c.slot slot below (named-plainly old new token c (Ok came) receipt named out delivers (record {}) errors x slot generation i)
named-anew old new token c (Err fault) receipt named out delivers below errors x = λ slot generation i.
    elim (losses-of old new token c fault receipt out delivers slot generation i) [
      | inl before ↦ set-named named c.slot slot below (x slot generation before)
      | inr later ↦ elim later [
        | inl meets ↦ set-named named c.slot slot below (errors slot meets)
        | inr own ↦ own-named-now named c.slot slot below own.0
      ]
    ]

erring-anew : (old new : CoreView) (token : ℕ) (c : Command) (completion : Completion) (receipt : Receipt) (named : List Bool)
    → IsOut old.shape old.shard (world_shard old).command token c → Step old (Deliver token completion receipt) new
    → c.slot < length named → AreErrorsNamed (core_layout old) (world_shard old) named
    → AreErrorsNamed (core_layout new) (world_shard new) (slice_set named c.slot true)
erring-anew old new token c completion receipt named out delivers below x =
    errors-moved old new (slice_set named c.slot true) delivers.0.0 (λ slot i.
    elim (errors-of old new token c completion receipt out delivers slot i) [
      | inl before ↦ set-named named c.slot slot below (x slot before)
      | inr own ↦ own-named-now named c.slot slot below own.0
    ])

kept-answering : (old new : CoreView) (token : ℕ) (completion : Completion) (receipt : Receipt) (out : ℕ → Option Command) (number : ℕ) (named after-named : List Bool) (count : ℕ)
    → Step old (Deliver token completion receipt) new → AreNamed (world_shard new) after-named
    → AreErrorsNamed (core_layout new) (world_shard new) after-named → length after-named ≡ 32
    → IsKept old out number named count → IsKept new (put out token None) number after-named count
kept-answering old new token completion receipt out number named after-named count delivers losses errors many x =
    let l = core_layout old in (
      x.0 ∙ sym delivers.0.1,
      subst (λ y. y ≤ 32) (ap (λ y. y.slots) (sym delivers.0.0)) x.1,
      still-numbered l old.shard (Deliver token completion receipt) (λ is. is) (world_shard old) (world_shard new) count delivers.1 x.2,
      moved old new (put out token None) delivers.0.0 delivers.0.1
          (delivered-out old.shape old.shard out l old.shard (world_shard old) (world_shard new) token completion receipt delivers.1 x.3),
      step-kept l old.shard NoneIsUntold (Deliver token completion receipt) (untold-kept l old.shard (Deliver token completion receipt) (λ call e. cc)) (world_shard old) (world_shard new) delivers.1 x.4,
      losses,
      many,
      errors,
    )

-- its slot is named if it has to be
pub kept-receiving : (old new : CoreView) (token : ℕ) (c : Command) (completion : Result (List ℕ) DeviceFault) (receipt : CoreReceipt) (out : ℕ → Option Command) (number : ℕ)
    (named : List Bool) (count : ℕ) → out token ≡ Some c → Step old (Deliver token (completion_of completion) (receipt_of receipt)) new
    → (failed : Bool) → failed ≡ is_err completion → IsKept old out number named count
    → IsKept new (put out token None) number (named_by failed receipt c.slot named) count
kept-receiving old new token c completion receipt out number named count was delivers failed is x = at failed is receipt delivers
  where
    own : IsOut old.shape old.shard (world_shard old).command token c
    own = x.3.each token c was

    there : c.slot < length named
    there = let many = x.6 in let few = x.1 in let low = own.slot in omega arith

    at : (failed : Bool) → failed ≡ is_err completion → (receipt : CoreReceipt)
        → Step old (Deliver token (completion_of completion) (receipt_of receipt)) new
        → IsKept new (put out token None) number (named_by failed receipt c.slot named) count
    at true is core-receipt.Taken delivers =
        kept-answering old new token (completion_of completion) Taken out number named (slice_set named c.slot true) count delivers
        (named-anew old new token c completion Taken named own delivers there x.7 x.5)
        (erring-anew old new token c (completion_of completion) Taken named own delivers there x.7) (length-set named c.slot true ∙ x.6) x
    at true is core-receipt.Late delivers =
        kept-answering old new token (completion_of completion) Late out number named named count delivers
        (named-plainly old new token c completion Late named own delivers (harmless-late completion) x.7 x.5)
        (erring-plainly old new token c completion Late named own delivers (harmless-late completion) x.7) x.6 x
    at false is receipt delivers =
        kept-answering old new token (completion_of completion) (receipt_of receipt) out number named named count delivers
        (named-plainly old new token c completion (receipt_of receipt) named own delivers (harmless-good completion (receipt_of receipt) (sym is)) x.7 x.5)
        (erring-plainly old new token c completion (receipt_of receipt) named own delivers (harmless-good completion (receipt_of receipt) (sym is)) x.7) x.6 x

-- a turn is a step that leaves no mark
pub turned : (old : CoreView) (task : Task) (turn : Turn) (new : CoreView) → TakesTurn old task turn new
    → (event : Event) × IsPlain event × ((register : Snapshot) → IsPlainCall register event)
    × ((history : List Mark) → marked event history ≡ history) × ((looked : ℕ) → looked_by event looked ≡ looked) × Step old event new
turned old task.Rebuild turn new x =
    let r = x.1 in
    let p = r.4 in
    (steps.Turn_started (Rebuild r.0 r.1), record {}, λ register. record {}, λ history. refl, λ looked. refl, (p.0, (p.1, p.2, r.2, p.3, p.4, p.5)))
turned old task.Check Started new x = (steps.Turn_started Check, record {}, λ register. record {}, λ history. refl, λ looked. refl, x)
turned old task.Check Skipped new x = (steps.Turn_skipped Check _, record {}, λ register. record {}, λ history. refl, λ looked. refl, x)
turned old task.Repair Started new x = (steps.Turn_started Repair, record {}, λ register. record {}, λ history. refl, λ looked. refl, x)
turned old task.Repair Skipped new x = (steps.Turn_skipped Repair _, record {}, λ register. record {}, λ history. refl, λ looked. refl, x)

-- and no look
pub turned-no-look : (old : CoreView) (own : Task) (turn : Turn) (new : CoreView) (x : TakesTurn old own turn new) → IsNoLook (turned old own turn new x).0
unfolding turned
turned-no-look old task.Rebuild turn new x = record {}
turned-no-look old task.Check Started new x = record {}
turned-no-look old task.Check Skipped new x = record {}
turned-no-look old task.Repair Started new x = record {}
turned-no-look old task.Repair Skipped new x = record {}

-- a turn passes what its task says
pub turned-passes : (old : CoreView) (own : Task) (turn : Turn) (new : CoreView) (x : TakesTurn old own turn new) → passes (turned old own turn new x).0 ≡ rows_of own
unfolding turned
turned-passes old task.Rebuild turn new x = refl
turned-passes old task.Check Started new x = refl
turned-passes old task.Check Skipped new x = refl
turned-passes old task.Repair Started new x = refl
turned-passes old task.Repair Skipped new x = refl
