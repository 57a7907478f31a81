-- What completions, looks, replies and turns do in an array, from what they do to one shard.
use Rattle.std.proofs.Common.{◌≡◌, ◌≢◌, ℕ, zero, suc, ◌+◌, ◌<◌, ◌≤◌, List, [], ◌∷◌, ◌++◌, ◌⊎◌, Bool, true, false, inl, inr, refl, sym, ap, ◌∙◌, subst, arith, Option, Some, None, Result, Ok, Err, length, length-set, get_or}
use Rattle.std.specs.Prelude.{slice_get, slice_set}
use Rattle.std.proofs.lemmas.Option.{slice_get_within, slice_get-get_or}
use Rattle.std.proofs.lemmas.List.{set-set, get_or-set_same}
use Rattle.r6_world.specs.Registers.{Snapshot}
use Rattle.r6_world.specs.ShardStates as shards
use Rattle.r6_world.specs.Steps as steps
use Rattle.r6_world.specs.Steps.{Event}
use Rattle.r6_world.specs.Tasks as tasks
use Rattle.r6_world.specs.Values.{completion_of, receipt_of, reply_of, buffer_in}
use Rattle.r6_world.specs.declared.values.Receipt.{Receipt}
use Rattle.r6_world.specs.declared.values.Reply.{Reply}
use Rattle.r6_world.specs.declared.values.DeviceFault.{DeviceFault}
use Rattle.r6_core.specs.declared.refusal.Refusal.{Refusal}
use Rattle.r6_core.specs.declared.refusal.Refusal.TheVariants.{UnknownToken, WrongLength}
use Rattle.r6_core.specs.declared.turn.Task.{Task}
use Rattle.r6_core.specs.declared.turn.Task.TheVariants as task
use Rattle.r6_core.specs.declared.turn.Turn.{Turn}
use Rattle.r6_core.specs.declared.turn.Turn.TheVariants.{Started, Skipped}
use Rattle.r6_core.specs.Shards.{CoreView, Step, SameShard}
use Rattle.r6_core.specs.Refusals.{IsOut, HasCompletionFault, HasDeliverFault, deliver_faults, IsFirstFault, AllTold}
use Rattle.r6_core.specs.Effects.{RefusesCompletion, TakesTurn}
use Rattle.r6_core.specs.Order.{HasNoReply}
use Rattle.r6_core.specs.Runs as runs
use Rattle.r6_core.specs.Runs.{Happening}
use Rattle.r6_array.specs.declared.ticket.Ticket.{Ticket}
use Rattle.r6_array.specs.Arrays.{ShardView, ArrayView, Has, with_shard}
use Rattle.r6_array.specs.Members.{Sees, seeing, TakesBack, HasLooked, NeedsNoLook, LooksUp, HandsBack, TakesUp}
use Rattle.r6_array.specs.Runs.{GoesOn}
use Rattle.r6_array.specs.Effects.{one_less, Delivers, IsOutIn, RefusesDelivery, IsLook, LooksOf, HandsNoReplyOf, HandsReplyOf, IsTurnOf, TurnsIn}
use Rattle.r6_array.specs.Inside.{IsArray}
use Rattle.r6_array.proofs.Going.{called, seen_goes, still_settled, goes-then, goes-nowhere, at_work-goes}
use Rattle.r6_array.proofs.Calls.{array_with, same_shard, with_same}

-- the shard that was put in stands there
pub has_set : (a : ArrayView) (n : ℕ) (s t : ShardView) → Has a n s → Has (with_shard a n t) n t
has_set a n s t has =
    let within : n < length a.shards = slice_get_within a.shards n s has in
    slice_get-get_or (slice_set a.shards n t) n t (subst (λ m. n < m) (sym (length-set a.shards n t)) within) ∙ ap Some (get_or-set_same a.shards n t t within)

pub with_twice : (a : ArrayView) (n : ℕ) (s t : ShardView) → with_shard (with_shard a n s) n t ≡ with_shard a n t
with_twice a n s t = ap (λ shards. record a { shards = shards }) (set-set a.shards n s t)

-- a call of a core, and then its next call is seen
pub called_and_seen : (a : ArrayView) (n : ℕ) (s t : ShardView) (mid : CoreView) (event : Event) → IsArray a.shape a.shards → Has a n s → Rattle.r6_array.proofs.Going.IsPlain a.register event
    → Step s.core event mid → (x : Sees mid t.core) → t.settled ≡ still_settled x.change (Rattle.r6_world.specs.Worlds.settles event s.settled)
    → GoesOn a (runs.Call n event mid ∷ seeing n x.change x.middle t.core ∷ []) (with_shard a n t)
called_and_seen a n s t mid event arr has plain step x settled =
    let half : ShardView = record { core = mid; names = t.names; settled = Rattle.r6_world.specs.Worlds.settles event s.settled } in
    let b : ArrayView = with_shard a n half in
    subst (GoesOn a (runs.Call n event mid ∷ seeing n x.change x.middle t.core ∷ [])) (with_twice a n half t)
    (goes-then a b (with_shard b n t) (runs.Call n event mid ∷ []) (seeing n x.change x.middle t.core ∷ []) refl (called a n s half event arr has plain step refl)
    (seen_goes b n half t (array_with a n s half arr has step.0) (has_set a n s half has) x.change x.middle x.seen settled))

-- ---- completions

pub unsettled_still : (change : Option shards.Call) (b : Bool) → b ≡ false → b ≡ still_settled change false
unsettled_still None b e = e
unsettled_still (Some call) b e = e

pub delivers : (a : ArrayView) (ticket : Ticket) (completion : Result (List ℕ) DeviceFault) (receipt : Receipt) (s t : ShardView) (new : ArrayView) → IsArray a.shape a.shards
    → Has a ticket.shard s → TakesBack s ticket.token completion receipt t → new ≡ record (with_shard a ticket.shard t) { at_work = one_less a.at_work ticket.slot }
    → Delivers a ticket completion receipt new
delivers a ticket completion receipt s t new arr has x is =
    let n = ticket.shard in
    let event : Event = steps.Deliver ticket.token (completion_of completion) (receipt_of receipt) in
    let hs : List Happening = runs.Call n event x.core ∷ seeing n x.sees.change x.sees.middle t.core ∷ [] in
    record {
      was = s;
      there = has;
      now = t;
      taken = x;
      new_is = is;
      run = subst (GoesOn a hs) (sym is)
          (at_work-goes a (with_shard a n t) hs (one_less a.at_work ticket.slot)
          (called_and_seen a n s t x.core event arr has (record {}) x.receives.step x.sees (unsettled_still x.sees.change t.settled x.settled)));
    }

pub refuses_delivery : (a : ArrayView) (ticket : Ticket) (completion : Result (List ℕ) DeviceFault) (refusal : Refusal) (back : Result (List ℕ) DeviceFault) (s t : ShardView)
    → IsArray a.shape a.shards → Has a ticket.shard s → t ≡ s → RefusesCompletion s.core ticket.token completion refusal back s.core
    → RefusesDelivery a ticket completion refusal ticket back (with_shard a ticket.shard t)
refuses_delivery a ticket completion refusal back s t arr has same r =
    let out : IsOut s.core ticket.token → IsOutIn a ticket = λ o. (s, has, o) in
    let inside : IsOutIn a ticket → IsOut s.core ticket.token = λ o. subst (λ (v : ShardView). IsOut v.core ticket.token) (same_shard a ticket.shard s o.0 has o.1) o.2 in
    let shape = (arr.own ticket.shard s has).0 in
    let block : s.core.shape.block ≡ a.shape.block = ap (λ (sh : Rattle.r6_layout.specs.Shape.Shape). sh.block) shape in
    record {
      same = with_same a ticket.shard s t has same;
      ticket_is = refl;
      back_is = r.back_is;
      fault = elim r.fault [
        | inl p ↦ inl (p.0, λ o. p.1 (inside o))
        | inr p ↦ inr (
          λ h. p.0 (λ o. h (out o)),
          elim p.1 [
            | inl q ↦ inl (q.0, λ e. q.1 (e ∙ sym block))
            | inr q ↦ inr (λ h. q.0 (λ e. h (e ∙ block)), q.1)
          ],
        )
      ];
    }

-- there is no such shard
pub refuses_stranger : (a : ArrayView) (ticket : Ticket) (completion : Result (List ℕ) DeviceFault) → length a.shards ≤ ticket.shard
    → RefusesDelivery a ticket completion UnknownToken ticket completion a
refuses_stranger a ticket completion beyond =
    record {
      same = refl;
      ticket_is = refl;
      back_is = refl;
      fault = inl (refl, λ o. absurd (let w = slice_get_within a.shards ticket.shard o.0 o.1 in omega arith));
    }

-- ---- looks and replies

pub looks_of : (a : ArrayView) (n : ℕ) (s t : ShardView) (settled : Bool) → IsArray a.shape a.shards → Has a n s → HasLooked a.register s t → settled ≡ t.settled
    → (settled ≡ true → AllTold s.core) → (t.settled ≡ false → AllTold t.core → ⊥) → LooksOf a n settled (with_shard a n t)
looks_of a n s t settled arr has looked is told untold =
    let run = of looked in
    record {
      was = s;
      there = has;
      now = t;
      looked = looked;
      settled_is = is;
      told = told;
      untold = λ e. untold (sym is ∙ e);
      new_is = refl;
      looks = run.0;
      are_looks = run.1;
      run = run.2;
    }
  where
    is_seen : (change : Option shards.Call) (middle new : CoreView) → IsLook a.register (seeing n change middle new)
    is_seen None middle new = tt
    is_seen (Some call) middle new = tt

    still : (change : Option shards.Call) (b : Bool) → b ≡ Rattle.std.specs.Prelude.is_none change → b ≡ still_settled change true
    still None b e = e
    still (Some call) b e = e

    of : HasLooked a.register s t → (looks : List Happening) × Rattle.std.specs.List.AllByRecursion (IsLook a.register) looks × GoesOn a looks (with_shard a n t)
    of (inl x) = ([], tt, subst (GoesOn a []) (sym (with_same a n s t has x.same)) (goes-nowhere a))
    of (inr x) = (
      runs.Call n (steps.Look a.register) x.1.core ∷ seeing n x.1.sees.change x.1.sees.middle t.core ∷ [],
      (refl, (is_seen x.1.sees.change x.1.sees.middle t.core, tt)),
      called_and_seen a n s t x.1.core (steps.Look a.register) arr has refl x.1.looks.step x.1.sees (still x.1.sees.change t.settled x.1.settled),
    )

pub replies_of : (a mid : ArrayView) (n : ℕ) (name : ℕ) (reply : Reply) (looks : LooksOf a n true mid) (t : ShardView) → IsArray mid.shape mid.shards
    → HandsBack looks.now name reply t → HandsReplyOf a n name reply (with_shard mid n t)
replies_of a mid n name reply looks t arr' back =
    let there : Has mid n looks.now = subst (λ (v : ArrayView). Has v n looks.now) (sym looks.new_is) (has_set a n looks.was looks.now looks.there) in
    let shape : mid.shape ≡ a.shape = ap (λ (v : ArrayView). v.shape) looks.new_is in
    record {
      mid = mid;
      looks = looks;
      now = t;
      taken = back;
      new_is = refl;
      run = goes-then a mid (with_shard mid n t) looks.looks (runs.Call n (steps.Take_reply back.id (reply_of reply)) t.core ∷ []) shape looks.run
          (called mid n looks.now t (steps.Take_reply back.id (reply_of reply)) arr' there (record {}) back.hands.step back.settled);
    }

pub looked_there : (a mid : ArrayView) (n : ℕ) (settled : Bool) (looks : LooksOf a n settled mid) → Has mid n looks.now
looked_there a mid n settled looks = subst (λ (v : ArrayView). Has v n looks.now) (sym looks.new_is) (has_set a n looks.was looks.now looks.there)

pub replies_none : (a mid : ArrayView) (n : ℕ) (settled : Bool) (looks : LooksOf a n settled mid) (t : ShardView) → t ≡ looks.now → HasNoReply looks.now.core → HandsNoReplyOf a n (with_shard mid n t)
replies_none a mid n settled looks t e none =
    subst (HandsNoReplyOf a n) (sym (with_same mid n looks.now t (looked_there a mid n settled looks) e)) (record { settled = settled; looks = looks; none = λ h. none })

pub match_option : {X : Type 0} (r : Option X) (P P' : Type 0) (Q Q' : X → Type 0) → (P → P') → ((x : X) → Q x → Q' x) → Rattle.std.specs.Prelude.MatchOption r P Q → Rattle.std.specs.Prelude.MatchOption r P' Q'
match_option None P P' Q Q' f g h = f h
match_option (Some x) P P' Q Q' f g h = g x h

-- ---- turns

pub turn_event : (s t : CoreView) (k : Task) (turn : Turn) → TakesTurn s k turn t → (event : Event) × IsTurnOf k turn event × Step s event t
turn_event s t task.Rebuild turn h =
    let r = h.1 in
    (steps.Turn_started (tasks.Rebuild r.0 r.1), tt, (r.4.0, (r.4.1, r.4.2, r.2, r.4.3, r.4.4, r.4.5)))
turn_event s t task.Check Started h = (steps.Turn_started tasks.Check, refl, h)
turn_event s t task.Check Skipped h = (steps.Turn_skipped tasks.Check (Rattle.r6_core.specs.Shards.world_shard s).check_row, tt, h)
turn_event s t task.Repair Started h = (steps.Turn_started tasks.Repair, refl, h)
turn_event s t task.Repair Skipped h = (steps.Turn_skipped tasks.Repair (Rattle.r6_core.specs.Shards.world_shard s).repair_row, tt, h)

-- it may come whatever the world
pub plain_turn : (register : Snapshot) (k : Task) (turn : Turn) (event : Event) → IsTurnOf k turn event → Rattle.r6_array.proofs.Going.IsPlain register event
plain_turn register task.Rebuild turn (steps.Turn_started (tasks.Rebuild slot generation)) h = record {}
plain_turn register task.Check Started event h = subst (Rattle.r6_array.proofs.Going.IsPlain register) (sym h) (record {})
plain_turn register task.Repair Started event h = subst (Rattle.r6_array.proofs.Going.IsPlain register) (sym h) (record {})
plain_turn register task.Check Skipped (steps.Turn_skipped tasks.Check row) h = record {}
plain_turn register task.Repair Skipped (steps.Turn_skipped tasks.Repair row) h = record {}
plain_turn register k turn event h = absurd h

pub turns_in : (a : ArrayView) (n : ℕ) (s t : ShardView) (k : Task) (turn : Turn) → IsArray a.shape a.shards → Has a n s → TakesUp s k turn t → TurnsIn a n k turn (with_shard a n t)
turns_in a n s t k turn arr has x =
    let e = turn_event s.core t.core k turn x.turns.taken in
    record {
      was = s;
      there = has;
      now = t;
      taken = x;
      new_is = refl;
      event = e.0;
      is_turn = e.1;
      run = called a n s t e.0 arr has (plain_turn a.register k turn e.0 e.1) e.2 (x.settled ∙ sym (unsettles k turn e.0 e.1 s.settled));
    }
  where
    unsettles : (k : Task) (turn : Turn) (event : Event) → IsTurnOf k turn event → (b : Bool) → Rattle.r6_world.specs.Worlds.settles event b ≡ false
    unsettles task.Rebuild turn (steps.Turn_started (tasks.Rebuild slot generation)) h b = refl
    unsettles task.Check Started event h b = ap (λ e. Rattle.r6_world.specs.Worlds.settles e b) h
    unsettles task.Repair Started event h b = ap (λ e. Rattle.r6_world.specs.Worlds.settles e b) h
    unsettles task.Check Skipped (steps.Turn_skipped tasks.Check row) h b = refl
    unsettles task.Repair Skipped (steps.Turn_skipped tasks.Repair row) h b = refl
    unsettles k turn event h b = absurd h
