-- What callers see of the calls of a state.
use Rattle.std.proofs.Common.{◌≡◌, ◌≢◌, ℕ, ◌+◌, ◌<◌, ◌≤◌, Bool, true, false, arith, List, [], ◌∷◌, ◌++◌, map, refl, sym, ap, ◌∙◌, inl, inr, Option, Some, None, MatchOption, IfSome, Result, Ok, Err, IfOk, IfErr, length}
use Rattle.std.specs.Prelude.{nat_lt, option_map}
use Rattle.std.proofs.lemmas.Bool.{lt-ltb, ltb-true, ltb-false}
use Rattle.r6_world.specs.Registers.{Snapshot, Told}
use Rattle.r6_world.specs.Changes.{Accept, after}
use Rattle.r6_world.specs.Tables.{put}
use Rattle.r6_world.proofs.Tables.{put-same, put-other}
use Rattle.r6_world.specs.Steps as steps
use Rattle.r6_world.specs.ShardStates as shards
use Rattle.r6_world.specs.ShardStates.{handed}
use Rattle.r6_world.specs.declared.values.Op.{Op}
use Rattle.r6_frames.specs.declared.frames.Scrub.TheVariants as scrub
use Rattle.r6_frames.specs.declared.command.Outstanding.{Outstanding}
use Rattle.r6_world.specs.declared.values.Command.{Command}
use Rattle.r6_world.specs.Values.{op_of, world_command, completion_of, receipt_of, buffer_in, reply_of, buffer_back}
use Rattle.r6_frames.specs.Views.{command_of, outstanding}
use Rattle.r6_frames.specs.declared.slots.Slot.{Slot}
use Rattle.r6_frames.specs.Calls as frames
use Rattle.r6_frames.specs.Calls.{IsAwaited}
use Rattle.r6_core.specs.declared.call.Call.{Call}
use Rattle.r6_core.specs.declared.call.Call.TheVariants.{DeclareLost, ReportRebuilt}
use Rattle.r6_world.specs.declared.values.Reply.{Reply}
use Rattle.r6_world.specs.declared.values.DeviceFault.{DeviceFault}
use Rattle.r6_world.specs.declared.values.Receipt.{Receipt}
use Rattle.r6_core.specs.declared.refusal.Refusal.{Refusal}
use Rattle.r6_core.specs.declared.refusal.Refusal.TheVariants.{UnknownCall}
use Rattle.r6_core.specs.declared.state.State.{State}
use Rattle.r6_core.specs.declared.turn.Turn.{Turn}
use Rattle.r6_core.specs.declared.turn.Turn.TheVariants.{Started}
use Rattle.r6_core.specs.declared.turn.Task.TheVariants as task
use Rattle.r6_core.specs.Shards.{core_of, core_with, call_of, state_of, layout_in, Step, waiting_of, requests_in}
use Rattle.r6_core.specs.Refusals.{HasSubmitFault, submit_faults, IsOut, HasDeliverFault, deliver_faults, HasRebuildFault, HasTurnFault, turn_faults, HasLookFault, look_faults, ReplacesOneOf, IsFirstFault, HasNone, AllTold}
use Rattle.r6_core.specs.Order.{BringsBack, SameReplies, FinishesBy, LooksOn, TakesFirst, HasNoReply, HaveTurns, HaveTurnsBehind, HaveTurnsAfter}
use Rattle.r6_core.specs.Effects.{Accepts, KeepsRequests, Rebuilds, Turns, turn_event, Receives, LooksAt, RefusesLook, HandsCommand, IsOldestUntaken, IsCommandOf, Hears, RefusesAnswer, HandsReply, HandsNoReply}
use Rattle.r6_core.specs.Inside.{Seen, NoCalls, HasFault, RefusedLook, next_row}

-- ---- cases of a result

pub if_err : {X E : Type 0} (result : Result X E) (P Q : E → Type 0) → ((e : E) → P e → Q e) → IfErr result P → IfErr result Q
if_err (Ok x) P Q on h = tt
if_err (Err e) P Q on h = on e h

pub if_some : {X : Type 0} (result : Option X) (P Q : X → Type 0) → ((x : X) → P x → Q x) → IfSome result P → IfSome result Q
if_some None P Q on h = tt
if_some (Some x) P Q on h = on x h

-- ---- commands that are out

out_of : (s : State) (token : ℕ) → IsAwaited s.frames token → IsOut (core_of s) token
out_of s token is = (
  command_of s.frames.slots s.frames.next_taken token is.0,
  ap (option_map (command_of s.frames.slots s.frames.next_taken token)) is.1,
  lt-ltb token s.frames.next_taken is.2,
)

awaited_of : (s : State) (token : ℕ) → IsOut (core_of s) token → IsAwaited s.frames token
awaited_of s token is = at (outstanding s.frames token) refl
  where
    at : (o : Option Outstanding) → outstanding s.frames token ≡ o → IsAwaited s.frames token
    at None e = absurd (let none : None ≡ Some is.0 = ap (option_map (command_of s.frames.slots s.frames.next_taken token)) (sym e) ∙ is.1 in cc)
    at (Some c) e =
        let there : Some (command_of s.frames.slots s.frames.next_taken token c) ≡ Some is.0 = ap (option_map (command_of s.frames.slots s.frames.next_taken token)) (sym e) ∙ is.1 in
        let same : command_of s.frames.slots s.frames.next_taken token c ≡ is.0 = cc in
        (c, e, ltb-true token s.frames.next_taken (ap (λ (x : shards.Command). x.taken) same ∙ is.2))

-- ---- the command that is handed out

taken_as : (slots : List Slot) (handed token : ℕ) (o : Option Outstanding) (c : shards.Command)
    → option_map (command_of slots handed token) o ≡ Some c → c.taken ≡ nat_lt token handed
taken_as slots handed token None c e = absurd (cc)
taken_as slots handed token (Some o) c e =
    let same : command_of slots handed token o ≡ c = cc in
    ap (λ (x : shards.Command). x.taken) (sym same)

-- those with a token below that of one that was just taken are taken
taken_before : (old new : State) (token : ℕ) (c : shards.Command) → Step (core_of old) (steps.Take_command token c) (core_of new)
    → (other : ℕ) (d : shards.Command) → (state_of old).command other ≡ Some d → other < token → d.taken ≡ true
taken_before old new token c step other d there below =
    let given : shards.Command = record c { taken = true; transfer = handed c.transfer } in
    let commands : (state_of new).command ≡ put (state_of old).command token (Some given) = ap (λ (s : shards.Shard). s.command) step.1.1 in
    let here : (state_of new).command token ≡ Some given =
    ap (λ (table : ℕ → Option shards.Command). table token) commands ∙ put-same (state_of old).command token (Some given) token refl in
    let still : (state_of new).command other ≡ Some d =
    ap (λ (table : ℕ → Option shards.Command). table other) commands
    ∙ put-other (state_of old).command token (Some given) other (λ same. omega (arith, same, below)) ∙ there in
    let known : nat_lt token new.frames.next_taken ≡ true = sym (taken_as new.frames.slots new.frames.next_taken token (outstanding new.frames token) given here) in
    let behind : token < new.frames.next_taken = ltb-true token new.frames.next_taken known in
    taken_as new.frames.slots new.frames.next_taken other (outstanding new.frames other) d still ∙ lt-ltb other new.frames.next_taken (omega (arith, below, behind))

oldest_of : (old new : State) (token : ℕ) (c : shards.Command) → Step (core_of old) (steps.Take_command token c) (core_of new) → IsOldestUntaken (core_of old) token
oldest_of old new token c step other d there untaken = at (nat_lt other token) refl
  where
    at : (b : Bool) → nat_lt other token ≡ b → token ≤ other
    at true e = absurd (let taken : d.taken ≡ true = taken_before old new token c step other d there (ltb-true other token e) in cc)
    at false e = ltb-false other token e

pub oldest_of_result : (old new : State) (result : Option Command)
    → MatchOption result (Step (core_of old) steps.No_command (core_of new)) (λ c. HandsCommand (core_of old) c (core_of new))
    → IfSome result (λ c. IsOldestUntaken (core_of old) c.token)
oldest_of_result old new None step = tt
oldest_of_result old new (Some c) step = oldest_of old new c.token (world_command step.0 step.1 step.2 c) step.3

-- ---- calls at the register

no_calls : (calls : List Call) → map call_of calls ≡ [] → calls ≡ []
no_calls [] e = refl
no_calls (call ∷ calls) e = absurd (cc)

none_untold : (untold : Option Call) → option_map call_of untold ≡ None → untold ≡ None
none_untold None e = refl
none_untold (Some call) e = absurd (cc)

same_call : (call other : Call) → call_of call ≡ call_of other → call ≡ other
same_call (DeclareLost slot generation) (DeclareLost slot' generation') e =
    let slots : slot ≡ slot' = cc in
    let generations : generation ≡ generation' = cc in
    λ i. DeclareLost (slots i) (generations i)
same_call (ReportRebuilt slot generation) (ReportRebuilt slot' generation') e =
    let slots : slot ≡ slot' = cc in
    let generations : generation ≡ generation' = cc in
    λ i. ReportRebuilt (slots i) (generations i)
same_call (DeclareLost slot generation) (ReportRebuilt slot' generation') e = absurd (cc)
same_call (ReportRebuilt slot generation) (DeclareLost slot' generation') e = absurd (cc)

same_untold : (untold : Option Call) (call : Call) → option_map call_of untold ≡ Some (call_of call) → untold ≡ Some call
same_untold None call e = absurd (cc)
same_untold (Some other) call e = let same : call_of other ≡ call_of call = cc in ap (λ (c : Call). Some c) (same_call other call same)

told_all : (s : State) → NoCalls s → AllTold (core_of s)
told_all s none = (ap (map call_of) none.0, ap (option_map call_of) none.1)

pub not_told : (s : State) → (NoCalls s → ⊥) → AllTold (core_of s) → ⊥
not_told s some none = some (no_calls s.calls.items none.0, none_untold s.untold none.1)

-- ---- the calls

pub accepts : {I E : Type 0} (window : ℕ) (number : I → ℕ) (result : Result I E) (s new : State) (o : Op)
    → IfOk result (λ id. Step (core_of s) (steps.Submit (op_of o) (number id)) (core_of new))
    → IfOk result (λ _. HasNone (HasSubmitFault (core_of s) o) submit_faults)
    → IfOk result (λ _. Seen SameReplies s new)
    → IfOk result (λ _. new.unanswered ≡ s.unanswered + 1)
    → IfOk result (λ id. HaveTurns (core_of s) (after (layout_in s) (state_of s) (Accept (op_of o))) (waiting_of s ++ record { id = number id; op = o; erred = false } ∷ []) (core_of new))
    → IfOk result (λ id. Accepts (core_with window s) o (number id) (core_with window new))
accepts window number (Ok id) s new o step right order unanswered turns =
    record { step = step; right = right; order = order; unanswered = unanswered; turns = turns }
accepts window number (Err e) s new o step right order unanswered turns = tt

-- of whatever window
finishes_by : (window : ℕ) (completion : Result (List ℕ) DeviceFault) (s new : State) → Seen (FinishesBy completion) s new
    → FinishesBy completion (core_with window s) (core_with window new)
finishes_by window (Ok block) s new is = is
finishes_by window (Err fault) s new is = is

pub receives : {E : Type 0} (window : ℕ) (result : Result Receipt E) (s new : State) (token : ℕ) (completion : Result (List ℕ) DeviceFault)
    → IfOk result (λ receipt. Step (core_of s) (steps.Deliver token (completion_of completion) (receipt_of receipt)) (core_of new))
    → IfOk result (λ _. HasNone (HasFault s token completion) deliver_faults)
    → IfOk result (λ _. Seen (FinishesBy completion) s new)
    → new.unanswered ≡ s.unanswered
    → IfOk result (λ receipt. HaveTurnsBehind (core_of s) token completion receipt (core_of new))
    → IfOk result (λ receipt. Receives (core_with window s) token completion receipt (core_with window new))
receives window (Ok receipt) s new token completion step right order unanswered turns =
    record {
      step = step;
      right = ((λ no. right.0 (λ is. no (out_of s token is))), right.1);
      order = finishes_by window completion s new order;
      unanswered = unanswered;
      turns = turns;
    }
receives window (Err e) s new token completion step right order unanswered turns = tt

pub first_fault : (s : State) (token : ℕ) (completion : Result (List ℕ) DeviceFault) (refusal : Refusal)
    → IsFirstFault (HasFault s token completion) deliver_faults refusal
    → IsFirstFault (HasDeliverFault (core_of s) token (buffer_in completion)) deliver_faults refusal
first_fault s token completion refusal first = elim first [
  | inl unknown ↦ inl (unknown.0, λ out. unknown.1 (awaited_of s token out))
  | inr known ↦ inr (λ no. known.0 (λ is. no (out_of s token is)), known.1)
]

pub looks_at : {E : Type 0} (window : ℕ) (result : Result (Unit {0}) E) (s new : State) (seen : Snapshot)
    → IfOk result (λ _. Step (core_of s) (steps.Look seen) (core_of new))
    → IfOk result (λ _. NoCalls s)
    → IfOk result (λ _. ReplacesOneOf s.frames.geometry.slots seen)
    → IfOk result (λ _. LooksOn (core_of s) seen (core_of new))
    → new.unanswered ≡ s.unanswered
    → IfOk result (λ _. HaveTurnsAfter (core_of s) seen (core_of new))
    → IfOk result (λ _. LooksAt (core_with window s) seen (core_with window new))
looks_at window (Ok x) s new seen step told one order unanswered turns =
    record { step = step; told = told_all s told; one = one; order = order; unanswered = unanswered; turns = turns }
looks_at window (Err e) s new seen step told one order unanswered turns = tt

pub refuses_look : (window : ℕ) (s new : State) (seen : Snapshot) (refusal : Refusal) → (new ≡ s) × RefusedLook s seen refusal → RefusesLook (core_with window s) seen refusal (core_with window new)
refuses_look window s new seen refusal is = record { same = ap (core_with window) is.0; fault = by_fault is.1 }
  where
    by_fault : RefusedLook s seen refusal → IsFirstFault (HasLookFault (core_with window s) seen) look_faults refusal
    by_fault (inl untold) = inl (untold.0, not_told s untold.1)
    by_fault (inr two) = inr (λ untold. untold (told_all s two.0), inl (two.1, two.2))

pub is_command : (window : ℕ) (s : State) (c : Command) → frames.IsCommandOf s.frames c → IsCommandOf (core_with window s) c
is_command window s c is = record { block = is.block; slot = is.slot; row = is.row }

pub hears : {E : Type 0} (window : ℕ) (result : Result (Unit {0}) E) (s new : State) (call : Call) (answer : Told)
    → IfOk result (λ _. Step (core_of s) (steps.Told (call_of call) answer) (core_of new))
    → IfOk result (λ _. s.untold ≡ Some call)
    → IfOk result (λ _. Hears (core_with window s) call answer (core_with window new))
hears window (Ok x) s new call answer step known = record { step = step; known = ap (option_map call_of) known }
hears window (Err e) s new call answer step known = tt

pub refuses_answer : (window : ℕ) (s new : State) (call : Call) (refusal : Refusal) → (new ≡ s) × (refusal ≡ UnknownCall) × (s.untold ≢ Some call)
    → RefusesAnswer (core_with window s) call refusal (core_with window new)
refuses_answer window s new call refusal is =
    record { same = ap (core_with window) is.0; refusal_is = is.1; unknown = λ e. is.2 (same_untold s.untold call e) }

pub hands_reply : {I : Type 0} (window : ℕ) (number : I → ℕ) (result : Option (I × Reply)) (s new : State)
    → MatchOption result (Step (core_of s) steps.No_reply (core_of new)) (λ r. Step (core_of s) (steps.Take_reply (number r.0) (reply_of r.1)) (core_of new))
    → MatchOption result (HasNoReply (core_of s) × (new ≡ s)) (λ r. TakesFirst (core_of s) (number r.0) r.1 (core_of new))
    → IfSome result (λ r. BringsBack ((state_of s).request (number r.0)) r.1)
    → IfSome result (λ r. length (buffer_back r.1) ≡ s.frames.geometry.block)
    → IfSome result (λ _. new.unanswered + 1 ≡ s.unanswered)
    → new.waiting ≡ s.waiting
    → MatchOption result (HandsNoReply (core_with window s) (core_with window new)) (λ r. HandsReply (core_with window s) (number r.0) r.1 (core_with window new))
hands_reply window number None s new step first brings sized unanswered waiting =
    record { step = step; none = first.0; same = ap (core_with window) first.1 }
hands_reply window number (Some r) s new step first brings sized unanswered waiting =
    record { step = step; first = first; brings = brings; sized = sized; unanswered = unanswered; waiting = ap requests_in waiting }

-- ---- turns

pub checks : {E : Type 0} (window : ℕ) (result : Result Turn E) (old new : State) → IfOk result (λ turn. Step (core_of old) (turn_event turn scrub.Check (next_row scrub.Check old)) (core_of new))
    → IfOk result (λ _. HasNone (HasTurnFault (core_of old) scrub.Check) turn_faults) → Seen KeepsRequests old new → new.unanswered ≡ old.unanswered
    → IfOk result (λ turn. Turns (core_with window old) task.Check turn (core_with window new))
checks window (Ok turn) old new step right kept unanswered = record { taken = step; right = right; kept = kept; unanswered = unanswered }
checks window (Err refusal) old new step right kept unanswered = tt

pub repairs : {E : Type 0} (window : ℕ) (result : Result Turn E) (old new : State) → IfOk result (λ turn. Step (core_of old) (turn_event turn scrub.Repair (next_row scrub.Repair old)) (core_of new))
    → IfOk result (λ _. HasNone (HasTurnFault (core_of old) scrub.Repair) turn_faults) → Seen KeepsRequests old new → new.unanswered ≡ old.unanswered
    → IfOk result (λ turn. Turns (core_with window old) task.Repair turn (core_with window new))
repairs window (Ok turn) old new step right kept unanswered = record { taken = step; right = right; kept = kept; unanswered = unanswered }
repairs window (Err refusal) old new step right kept unanswered = tt

pub rebuilds : {E : Type 0} (window : ℕ) (result : Result Turn E) (old new : State) → IfOk result (λ turn. (turn ≡ Started) × Rebuilds window (core_with window old) (core_with window new))
    → IfOk result (λ _. HasNone (HasRebuildFault (core_with window old) window) turn_faults) → Seen KeepsRequests old new → new.unanswered ≡ old.unanswered
    → IfOk result (λ turn. Turns (core_with window old) task.Rebuild turn (core_with window new))
rebuilds window (Ok turn) old new started right kept unanswered = record { taken = started; right = right; kept = kept; unanswered = unanswered }
rebuilds window (Err refusal) old new started right kept unanswered = tt
