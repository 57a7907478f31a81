-- Requests are accepted one after another, and wait.
use Rattle.std.proofs.Common.{◌≡◌, ℕ, ◌+◌, ◌≤◌, false, List, [], ◌∷◌, ◌++◌, length, length-append, map, refl, sym, ap, subst, ◌∙◌, arith, append_assoc, append-nil, Option, Some, None}
use Rattle.std.specs.Prelude.{drop, take}
use Rattle.std.specs.List.{AllByRecursion}
use Rattle.r6_waiters.specs.Line.{Entries, entries_of}
use Rattle.r6_world.specs.ShardStates.{Shard}
use Rattle.r6_world.specs.Steps.{MayEnter, Scans, Through, entered}
use Rattle.r6_world.specs.declared.values.Op.{Op}
use Rattle.r6_world.specs.Values.{op_of}
use Rattle.r6_frames.specs.declared.frames.Frames.{Frames}
use Rattle.r6_frames.specs.Views.{AreLive}
use Rattle.r6_core.specs.declared.queued.Queued.{Queued}
use Rattle.r6_core.specs.declared.refusal.Refusal.{Refusal}
use Rattle.r6_core.specs.declared.state.State.{State}
use Rattle.r6_core.specs.declared.submitting.Submitted.{Submitted}
use Rattle.r6_core.specs.Shards.{core_of, core_with, layout_in, state_of, waiting_of}
use Rattle.r6_core.specs.Order.{HaveTurns, SameReplies}
use Rattle.r6_core.specs.Inside.{IsCore, IsSettled, Leads, OnlyStarts, SameFrames, Seen, WaitingHaveTurns, Waits, anything}
use Rattle.r6_core.specs.Together.{AllRight, AreKnownFirst, AreRight, EndsTaking, HasTaken, HaveEntered, IsFirstRefused, IsRight, SubmitsAll, all_more, numbered, one_more}
use Rattle.r6_core.proofs.Accepting.{accepted_core, accepted_state, may_accept, pushed_requests}
use Rattle.r6_core.proofs.AtRest.{rests_in}
use Rattle.r6_core.proofs.Scanned.{all_wait, turns_in}
use Rattle.r6_core.proofs.Throughs.{through_in}
use Rattle.r6_core.proofs.Waking.{none_can}

-- ---- one more at the end

pub more_last : (s : State) (ops : List Op) (o : Op) → all_more s (ops ++ o ∷ []) ≡ one_more (all_more s ops) o
more_last s [] o = refl
more_last s (p ∷ ops) o = more_last (one_more s p) ops o

pub right_last : (s : State) (ops : List Op) (o : Op) → AllRight s ops → IsRight (all_more s ops) o → AllRight s (ops ++ o ∷ [])
right_last s [] o all one = (one, tt)
right_last s (p ∷ ops) o all one = (all.0, right_last (one_more s p) ops o all.1 one)

-- ---- what they leave as it is

abbrev pub IsSame : State → State → Type 0
IsSame s new =
    (new.frames ≡ s.frames) × (new.calls ≡ s.calls) × (new.untold ≡ s.untold) × (new.replies ≡ s.replies)
    × (new.released ≡ s.released)

pub all_same : (s : State) (ops : List Op) → IsSame s (all_more s ops)
all_same s [] = (refl, refl, refl, refl, refl)
all_same s (o ∷ ops) = all_same (one_more s o) ops

pub all_unanswered : (s : State) (ops : List Op) → (all_more s ops).unanswered ≡ s.unanswered + length ops
all_unanswered s [] = omega arith
all_unanswered s (o ∷ ops) = let rest = all_unanswered (one_more s o) ops in omega (arith, rest)

pub all_waiting : (s : State) (ops : List Op) → waiting_of (all_more s ops) ≡ waiting_of s ++ numbered s.accepted ops
all_waiting s [] = sym (append-nil (waiting_of s))
all_waiting s (o ∷ ops) =
    let r : Queued = record { id = s.accepted; op = o; erred = false } in
    all_waiting (one_more s o) ops
    ∙ ap (λ rs. rs ++ numbered (s.accepted + 1) ops) (pushed_requests s anything r)
    ∙ append_assoc (waiting_of s) (r ∷ []) (numbered (s.accepted + 1) ops)

-- as entries of the line: it isn't known what they wait for
abbrev pub unknown : (id : ℕ) → List Op → Entries Queued
unknown id [] = []
unknown id (o ∷ ops) = (anything, record { id = id; op = o; erred = false }) ∷ unknown (id + 1) ops

all_entries : (s : State) (ops : List Op) → entries_of (all_more s ops).waiting ≡ entries_of s.waiting ++ unknown s.accepted ops
all_entries s [] = sym (append-nil (entries_of s.waiting))
all_entries s (o ∷ ops) =
    all_entries (one_more s o) ops ∙ append_assoc (entries_of s.waiting) ((anything, record { id = s.accepted; op = o; erred = false }) ∷ []) (unknown (s.accepted + 1) ops)

all_unknown : (id : ℕ) (ops : List Op) → AllByRecursion (λ entry. entry.0 ≡ anything) (unknown id ops)
all_unknown id [] = tt
all_unknown id (o ∷ ops) = (refl, all_unknown (id + 1) ops)

-- of those that waited before it is known
pub all_known : (s : State) (ops : List Op) → IsCore s → AreKnownFirst (all_more s ops)
all_known s ops core =
    let frames = (all_same s ops).0 in
    record {
      tested = entries_of s.waiting;
      untested = unknown s.accepted ops;
      entries = all_entries s ops;
      waits = λ live. subst (λ (fs : Frames). AllByRecursion (Waits fs) (entries_of s.waiting)) (sym frames) (core.waits (subst AreLive frames live));
      unknown = all_unknown s.accepted ops;
    }

pub entered_known : (s : State) (ops left : List Op) (mid : State) → IsCore s → HaveEntered s ops left mid → AreKnownFirst mid
entered_known s ops left mid core is = subst AreKnownFirst (sym is.now) (all_known s is.taken core)

-- ---- what they do to the shard

pub one_settled : (s : State) (o : Op) → IsSettled s → IsRight s o → IsSettled (one_more s o)
one_settled s o settled right = accepted_core s anything o settled right.0 right.1

pub all_settled : (s : State) (ops : List Op) → IsSettled s → AllRight s ops → IsSettled (all_more s ops)
all_settled s [] settled all = settled
all_settled s (o ∷ ops) settled all = all_settled (one_more s o) ops (one_settled s o settled all.0) all.1

pub all_state : (s : State) (ops : List Op) → IsSettled s → AllRight s ops → state_of (all_more s ops) ≡ entered (layout_in s) (state_of s) (map op_of ops)
all_state s [] settled all = refl
all_state s (o ∷ ops) settled all =
    all_state (one_more s o) ops (one_settled s o settled all.0) all.1
    ∙ ap (λ (x : Shard). entered (layout_in s) x (map op_of ops)) (accepted_state s anything o settled.sound)

pub all_may : (s : State) (ops : List Op) → IsSettled s → AllRight s ops → MayEnter (layout_in s) s.frames.shard (state_of s) (map op_of ops)
all_may s [] settled all = record {}
all_may s (o ∷ ops) settled all = (
  may_accept s o all.0.0 all.0.1,
  subst (λ (x : Shard). MayEnter (layout_in s) s.frames.shard x (map op_of ops)) (accepted_state s anything o settled.sound)
      (all_may (one_more s o) ops (one_settled s o settled all.0) all.1),
)

-- ---- as callers see it

pub same_frames : (s new : State) → new.frames ≡ s.frames → SameFrames s new
same_frames s new same = (ap (λ (fs : Frames). fs.geometry) same, ap (λ (fs : Frames). fs.shard) same)

pub has_taken : (window : ℕ) (s : State) (ops : List Op) → IsSettled s → AllRight s ops → HasTaken (core_with window s) ops (core_of (all_more s ops))
has_taken window s ops settled all =
    record {
      shard = same_frames s (all_more s ops) (all_same s ops).0;
      state = all_state s ops settled all;
      unanswered = all_unanswered s ops;
    }

right_within : (s : State) (before : List Op) (o : Op) (behind : List Op) → AllRight s (before ++ o ∷ behind) → AllRight s before × IsRight (all_more s before) o
right_within s [] o behind all = (tt, all.0)
right_within s (p ∷ before) o behind all =
    let rest = right_within (one_more s p) before o behind all.1 in ((all.0, rest.0), rest.1)

pub are_right : (window : ℕ) (s : State) (ops : List Op) → IsSettled s → AllRight s ops → AreRight (core_with window s) ops
are_right window s ops settled all = λ before o behind split.
    let within = right_within s before o behind (subst (AllRight s) split all) in
    (core_of (all_more s before), has_taken window s before settled within.0, within.1.0)

pub ends_taking : (window : ℕ) (s : State) (ops left : List Op) (refusal : Option Refusal) → IsSettled s → AllRight s ops → IsFirstRefused (all_more s ops) left refusal
    → EndsTaking (core_with window s) ops left refusal
ends_taking window s ops left None settled all is = is
ends_taking window s ops left (Some refusal) settled all is =
    (is.0, is.1, is.2, core_of (all_more s ops), has_taken window s ops settled all, is.3)

-- the requests that were accepted wait, and then what waits has its turns
pub record HasStarted (mid : State) (left : List Op) (refusal : Option Refusal) (new : State) : Type 0 where
  pub refused : IsFirstRefused mid left refusal
  pub core : IsCore new
  pub leads : Leads Scans mid new
  pub turns : WaitingHaveTurns mid new
  pub only : OnlyStarts mid new

-- nothing has started, since none was taken
pub none_started : (mid : State) (left : List Op) (refusal : Option Refusal) → IsCore mid → IsFirstRefused mid left refusal → HasStarted mid left refusal mid
none_started mid left refusal core refused =
    record {
      refused = refused;
      core = core;
      leads = ([], refl);
      turns = all_wait mid core.settled (none_can mid core.waits);
      only = ((refl, refl), (refl, refl), ((refl, refl), refl));
    }

module _ (window : ℕ) (s new : State) (taken left : List Op) (submitted : Submitted) (core : IsCore s) (right : AllRight s taken)
    (is : HasStarted (all_more s taken) left submitted.refusal new) (first : submitted.first.0 ≡ s.accepted) where
  abbrev behind : State
  behind = all_more s taken

  abbrev from : Shard
  from = entered (layout_in s) (state_of s) (map op_of taken)

  state : state_of behind ≡ from
  state = all_state s taken core.settled right

  frames : SameFrames s behind
  frames = same_frames s behind (all_same s taken).0

  same : SameFrames s new
  same = (is.only.0.0 ∙ frames.0, is.only.0.1 ∙ frames.1)

  leads : Through (layout_in s) s.frames.shard Scans from (state_of new)
  leads =
      subst (λ (x : Shard). Through (layout_in s) s.frames.shard Scans x (state_of new)) state
      (through_in s.frames.geometry behind.frames.geometry s.frames.shard behind.frames.shard Scans (state_of behind) (state_of new) frames.0 frames.1 is.leads)

  waiting : waiting_of behind ≡ waiting_of s ++ numbered submitted.first.0 taken
  waiting = all_waiting s taken ∙ ap (λ id. waiting_of s ++ numbered id taken) (sym first)

  turns : HaveTurns (core_of s) from (waiting_of s ++ numbered submitted.first.0 taken) (core_of new)
  turns =
      let own = turns_in s.frames.geometry behind.frames.geometry s.frames.shard behind.frames.shard (state_of behind) (state_of new) (waiting_of behind) (waiting_of new) frames.0 frames.1 is.turns.1 in
      let both : HaveTurns (core_of s) (state_of behind) (waiting_of behind) (core_of new) = (is.turns.0, own) in
      subst (λ (x : Shard × List Queued). HaveTurns (core_of s) x.0 x.1 (core_of new)) (λ i. (state i, waiting i)) both

  order : Seen SameReplies s new
  order =
      let kept = all_same s taken in
      let replies = kept.3 in
      let released = kept.4 in (
        is.only.2.0.0 ∙ (λ i. drop (released i) (replies i).items),
        is.only.2.0.1 ∙ (λ i. take (released i) (replies i).items),
      )

  pub submits : (ops : List Op) → ops ≡ taken ++ left → submitted.count ≡ length taken → (taken ≡ [] → new ≡ s)
      → SubmitsAll (core_with window s) ops left submitted (core_with window new)
  submits ops split count none =
      record {
        taken = taken;
        split = split;
        count = count;
        right = are_right window s taken core.settled right;
        ends = ends_taking window s taken left submitted.refusal core.settled right is.refused;
        none = λ empty. ap (core_with window) (none empty);
        step = (same, (first, all_may s taken core.settled right, leads, rests_in s new same is.core));
        order = order;
        unanswered = is.only.2.1 ∙ all_unanswered s taken;
        turns = turns;
      }

-- of a list of which some were taken
pub submits_all : (window : ℕ) (s mid new : State) (ops left : List Op) (submitted : Submitted) → IsCore s → (entered : HaveEntered s ops left mid)
    → HasStarted mid left submitted.refusal new → submitted.first.0 ≡ s.accepted → submitted.count ≡ length entered.taken → (entered.taken ≡ [] → new ≡ s)
    → SubmitsAll (core_with window s) ops left submitted (core_with window new)
submits_all window s mid new ops left submitted core entered is first count none =
    submits window s new entered.taken left submitted core entered.right
    (subst (λ (x : State). HasStarted x left submitted.refusal new) entered.now is) first ops entered.split count none

-- ---- the loop

pub none_entered : (s : State) (ops : List Op) → HaveEntered s ops ops s
none_entered s ops = record { taken = []; split = refl; right = tt; now = refl }

pub one_entered : (s : State) (ops left : List Op) (o : Op) (mid : State) → HaveEntered s ops (o ∷ left) mid → IsRight mid o → HaveEntered s ops left (one_more mid o)
one_entered s ops left o mid is right =
    record {
      taken = is.taken ++ o ∷ [];
      split = is.split ∙ sym (append_assoc is.taken (o ∷ []) left);
      right = right_last s is.taken o is.right (subst (λ (x : State). IsRight x o) is.now right);
      now = ap (λ (x : State). one_more x o) is.now ∙ sym (more_last s is.taken o);
    }

pub entered_settled : (s : State) (ops left : List Op) (mid : State) → IsSettled s → HaveEntered s ops left mid → IsSettled mid
entered_settled s ops left mid settled is = subst IsSettled (sym is.now) (all_settled s is.taken settled is.right)

-- ---- how many were taken

nothing_of : (ops : List Op) → length ops ≡ 0 → ops ≡ []
nothing_of [] none = refl
nothing_of (o ∷ ops) none = absurd (omega (arith, none))

pub many_taken : (s : State) (ops left : List Op) (mid : State) (is : HaveEntered s ops left mid) → length ops ≡ length is.taken + length left
many_taken s ops left mid is = ap length is.split ∙ length-append is.taken left

pub none_taken : (s : State) (ops left : List Op) (mid : State) (is : HaveEntered s ops left mid) → length ops ≤ length left → is.taken ≡ []
none_taken s ops left mid is few = let many = many_taken s ops left mid is in nothing_of is.taken (omega (arith, many, few))

-- then nothing has changed
pub same_taken : (s : State) (ops left : List Op) (mid : State) (is : HaveEntered s ops left mid) → is.taken ≡ [] → mid ≡ s
same_taken s ops left mid is none = is.now ∙ ap (all_more s) none
