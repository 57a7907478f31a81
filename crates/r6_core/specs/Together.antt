-- Requests that are handed in together: as many are accepted, one after another, as would be one by one, and only then
-- does what waits have its turns.
use Rattle.std.specs.Prelude.{◌≡◌, ℕ, ◌+◌, false, List, [], ◌∷◌, ◌++◌, length, map, Option, Some, None}
use Rattle.std.specs.List.{AllByRecursion}
use Rattle.r6_kernels.specs.Blocks.{IsBlock}
use Rattle.r6_world.specs.Steps as steps
use Rattle.r6_world.specs.Steps.{entered}
use Rattle.r6_waiters.specs.Line.{Entries, entries_of, with_entries}
use Rattle.r6_world.specs.declared.values.Op.{Op}
use Rattle.r6_world.specs.Values.{op_of, buffer_of}
use Rattle.r6_frames.specs.Views.{AreLive}
use Rattle.r6_core.specs.declared.refusal.Refusal.{Refusal}
use Rattle.r6_core.specs.declared.queued.Queued.{Queued}
use Rattle.r6_core.specs.declared.state.State.{State}
use Rattle.r6_core.specs.declared.submitting.Submitted.{Submitted}
use Rattle.r6_core.specs.Shards.{CoreView, SameShard, Step, core_layout, core_of, world_shard}
use Rattle.r6_core.specs.Refusals.{HasSubmitFault, submit_faults, IsFirstFault, HasNone}
use Rattle.r6_core.specs.Order.{SameReplies, HaveTurns}
use Rattle.r6_core.specs.Inside.{Waits, anything}

-- ---- as callers see it

-- the requests with their numbers, from this one on
abbrev pub numbered : (id : ℕ) → List Op → List Queued
numbered id [] = []
numbered id (o ∷ ops) = record { id = id; op = o; erred = false } ∷ numbered (id + 1) ops

-- the core behind these, which are accepted, and of which none has started
pub record HasTaken (old : CoreView) (ops : List Op) (mid : CoreView) : Type 0 where
  pub shard : SameShard old mid
  pub state : world_shard mid ≡ entered (core_layout old) (world_shard old) (map op_of ops)
  pub unanswered : mid.unanswered ≡ old.unanswered + length ops

-- none of them is refused behind those before it
abbrev pub AreRight : CoreView → List Op → Type 0
AreRight old ops =
    (before : List Op) (o : Op) (behind : List Op) → ops ≡ before ++ o ∷ behind
    → (mid : CoreView) × HasTaken old before mid × HasNone (HasSubmitFault mid o) submit_faults

-- all are taken; or the next one is refused behind them, and it and the others are left
abbrev pub EndsTaking : CoreView → (taken left : List Op) → Option Refusal → Type 0
EndsTaking old taken left None = left ≡ []
EndsTaking old taken left (Some refusal) =
    (o : Op) × (behind : List Op) × (left ≡ o ∷ behind)
    × (mid : CoreView) × HasTaken old taken mid × IsFirstFault (HasSubmitFault mid o) submit_faults refusal

-- the requests enter, and have their turns after those that waited, in their order
abbrev pub HaveTurnsWithAll : CoreView → List Op → (first : ℕ) → CoreView → Type 0
HaveTurnsWithAll old ops first new =
    HaveTurns old (entered (core_layout old) (world_shard old) (map op_of ops)) (old.waiting ++ numbered first ops) new

-- Of the requests in the list the first ones are taken, up to one that is refused: those that waited have their turns,
-- and then they
pub record SubmitsAll (old : CoreView) (ops left : List Op) (submitted : Submitted) (new : CoreView) : Type 0 where
  pub taken : List Op
  pub split : ops ≡ taken ++ left
  pub count : submitted.count ≡ length taken
  pub right : AreRight old taken
  pub ends : EndsTaking old taken left submitted.refusal
  pub none : taken ≡ [] → new ≡ old
  pub step : Step old (steps.Submit_all (map op_of taken) submitted.first.0) new
  pub order : SameReplies old new
  pub unanswered : new.unanswered ≡ old.unanswered + length taken
  pub turns : HaveTurnsWithAll old taken submitted.first.0 new

-- ---- inside

-- the request waits behind all others, for what isn't known yet
abbrev pub one_more : State → Op → State
one_more s o =
    record s {
      accepted = s.accepted + 1;
      unanswered = s.unanswered + 1;
      waiting = with_entries s.waiting (entries_of s.waiting ++ (anything, record { id = s.accepted; op = o; erred = false }) ∷ []);
    }

abbrev pub all_more : State → List Op → State
all_more s [] = s
all_more s (o ∷ ops) = all_more (one_more s o) ops

-- it isn't refused, and its buffer has bytes
abbrev pub IsRight : State → Op → Type 0
IsRight s o = HasNone (HasSubmitFault (core_of s) o) submit_faults × IsBlock (length (buffer_of o)) (buffer_of o)

abbrev pub AllRight : State → List Op → Type 0
AllRight s [] = Unit {0}
AllRight s (o ∷ ops) = IsRight s o × AllRight (one_more s o) ops

-- none is left, or the first that is left is refused
abbrev pub IsFirstRefused : State → (left : List Op) → Option Refusal → Type 0
IsFirstRefused s left None = left ≡ []
IsFirstRefused s left (Some refusal) =
    (o : Op) × (behind : List Op) × (left ≡ o ∷ behind)
    × IsFirstFault (HasSubmitFault (core_of s) o) submit_faults refusal

-- these were taken from the front of the list, and the others are left
pub record HaveEntered (old : State) (ops left : List Op) (new : State) : Type 0 where
  pub taken : List Op
  pub split : ops ≡ taken ++ left
  pub right : AllRight old taken
  pub now : new ≡ all_more old taken

-- first stand those of which it is known what they wait for, and then those of which it isn't
pub record AreKnownFirst (s : State) : Type 0 where
  pub tested : Entries Queued
  pub untested : Entries Queued
  pub entries : entries_of s.waiting ≡ tested ++ untested
  pub waits : AreLive s.frames → AllByRecursion (Waits s.frames) tested
  pub unknown : AllByRecursion (λ entry. entry.0 ≡ anything) untested
