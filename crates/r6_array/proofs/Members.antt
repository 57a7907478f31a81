-- A shard's fields stay sound, call by call.
use Rattle.std.proofs.Common.{◌≡◌, ◌≢◌, ℕ, ◌+◌, ◌<◌, ◌≤◌, List, [], ◌∷◌, ◌⊎◌, Bool, true, false, inl, inr, refl, sym, ap, ◌∙◌, subst, arith, Option, Some, None, Result, Ok, Err}
use Rattle.std.specs.Prelude.{option_map, is_none, is_some, not}
use Rattle.std.specs.Ordering.{nat_cmp}
use Rattle.std.specs.FinMap as map
use Rattle.std.specs.FinMap.{FinMap}
use Rattle.std.proofs.lemmas.Bool.{cases_eq, ne_eqb}
use Rattle.r6_layout.specs.Shape.{Shape}
use Rattle.r6_tables.specs.Table.{Numbered, capacity_of, next_of, entries_of}
use Rattle.r6_frames.proofs.Tables.{inserted-own, inserted-other, removed-own, removed-other, len-removed, len-inserted}
use Rattle.r6_world.specs.Geometries.{layout_of}
use Rattle.r6_world.specs.Registers.{Snapshot, Contended, Told}
use Rattle.r6_world.specs.ShardStates as shards
use Rattle.r6_world.specs.ShardStates.{Shard, Request}
use Rattle.r6_world.specs.Steps as steps
use Rattle.r6_world.specs.Tasks as tasks
use Rattle.r6_world.specs.Values.{completion_of, receipt_of, reply_of}
use Rattle.r6_world.specs.declared.values.Op.{Op}
use Rattle.r6_world.specs.declared.values.Receipt.{Receipt}
use Rattle.r6_world.specs.declared.values.Reply.{Reply}
use Rattle.r6_world.specs.declared.values.DeviceFault.{DeviceFault}
use Rattle.r6_world.proofs.Tables.{Some-inj, not_both, None-not_Some}
use Rattle.r6_core.specs.declared.call.Call.{Call}
use Rattle.r6_core.specs.declared.call.Call.TheVariants as calls
use Rattle.r6_core.specs.Shards.{CoreView, Step, world_shard, call_of, core_layout}
use Rattle.r6_core.specs.declared.turn.Task.{Task}
use Rattle.r6_core.specs.declared.turn.Task.TheVariants as task
use Rattle.r6_core.specs.declared.turn.Turn.{Turn}
use Rattle.r6_core.specs.declared.turn.Turn.TheVariants.{Started, Skipped}
use Rattle.r6_core.specs.Refusals.{most_unanswered, AllTold}
use Rattle.r6_core.specs.Effects.{IsMade, Accepts, Receives, LooksAt, HandsReply, TakesTurn, Turns, IsOldestUntaken, KeepsRequests}
use Rattle.r6_array.specs.Arrays.{first_of}
use Rattle.r6_array.specs.Inside.{AreNamed, AreTakenBelow, IsMember}
use Rattle.r6_array.proofs.Inner.{Keeps}
use Rattle.r6_array.specs.Members.{Sees, SeesCall}
use Rattle.r6_array.proofs.Events.{Enters, submitted, delivered, looked, started, turned, skipped, handed, replied, put_back_same, told}

pub false-true : false ≡ true → ⊥
false-true h = cc

-- ---- names

pub unnamed : (names : Numbered ℕ) (s : Shard) (id : ℕ) → AreNamed names s → map.get (entries_of names) id ≡ None → s.request id ≡ None
unnamed names s id x none = of (s.request id) refl
  where
    of : (o : Option Request) → s.request id ≡ o → s.request id ≡ None
    of None e = e
    of (Some r) e = let n = x id r e in absurd (not_both (map.get (entries_of names) id) n.0 none n.1)

-- where no request came
pub named_still : (names : Numbered ℕ) (old new : Shard) → AreNamed names old → ((id : ℕ) → old.request id ≡ None → new.request id ≡ None) → AreNamed names new
named_still names old new x gone id request e = of (map.get (entries_of names) id) refl
  where
    of : (o : Option ℕ) → map.get (entries_of names) id ≡ o → (name : ℕ) × (map.get (entries_of names) id ≡ Some name)
    of (Some name) f = (name, f)
    of None f = absurd (not_both (new.request id) request (gone id (unnamed names old id x f)) e)

-- one more
named_more : (names : Numbered ℕ) (capacity next name : ℕ) (old new : Shard) → AreNamed names old → ((k : ℕ) → k ≢ next → old.request k ≡ None → new.request k ≡ None)
    → AreNamed (capacity, (next + 1, map.insert (entries_of names) next name)) new
named_more names capacity next name old new x gone id request e = elim (cases_eq id next) [
  | inl same ↦ (name, ap (map.get (map.insert (entries_of names) next name)) same ∙ inserted-own (entries_of names) next name)
  | inr ne ↦ of ne (map.get (entries_of names) id) refl
]
  where
    of : id ≢ next → (o : Option ℕ) → map.get (entries_of names) id ≡ o → (n : ℕ) × (map.get (map.insert (entries_of names) next name) id ≡ Some n)
    of ne (Some n) f = (n, inserted-other (entries_of names) next name id (ne_eqb id next ne) ∙ f)
    of ne None f = absurd (not_both (new.request id) request (gone id ne (unnamed names old id x f)) e)

below_more : (names : Numbered ℕ) (next name accepted : ℕ) → next < accepted → ((id n : ℕ) → map.get (entries_of names) id ≡ Some n → id < accepted) → (id n : ℕ)
    → map.get (map.insert (entries_of names) next name) id ≡ Some n → id < accepted
below_more names next name accepted here x id n e = elim (cases_eq id next) [
  | inl same ↦ omega (arith, same)
  | inr ne ↦ x id n (sym (inserted-other (entries_of names) next name id (ne_eqb id next ne)) ∙ e)
]

next_unnamed : (names : Numbered ℕ) (accepted : ℕ) → ((id n : ℕ) → map.get (entries_of names) id ≡ Some n → id < accepted) → map.get (entries_of names) accepted ≡ None
next_unnamed names accepted x = of (map.get (entries_of names) accepted) refl
  where
    of : (o : Option ℕ) → map.get (entries_of names) accepted ≡ o → map.get (entries_of names) accepted ≡ None
    of None e = e
    of (Some n) e = absurd (let b = x accepted n e in omega arith)

-- ---- new, submit

pub new_member : (shape : Shape) (register : Snapshot) (n : ℕ) (core : CoreView) (names : Numbered ℕ) → IsMade shape register n core → names ≡ (256, (0, map.empty)) → IsMember core names true None 0
new_member shape register n core names made e =
    let start = made.start in
    let request : (id : ℕ) → (world_shard core).request id ≡ None = λ id. ap (λ (s : Shard). s.request id) start in
    let command : (t : ℕ) → (world_shard core).command t ≡ None = λ t. ap (λ (s : Shard). s.command t) start in
    let accepted : (world_shard core).accepted ≡ 0 = ap (λ (s : Shard). s.accepted) start in
    let tokens : (world_shard core).tokens ≡ 0 = ap (λ (s : Shard). s.tokens) start in
    let calls : (world_shard core).calls ≡ [] = ap (λ (s : Shard). s.calls) start in
    let get : (id : ℕ) → map.get (entries_of names) id ≡ None = λ id. ap (λ m. map.get (entries_of m) id) e ∙ map.get-empty nat_cmp id in
    record {
      capacity = ap capacity_of e;
      numbers = ap next_of e ∙ sym accepted;
      count = ap (λ m. map.len (entries_of m)) e ∙ map.len-empty nat_cmp ℕ ∙ sym made.unanswered;
      room = let none = made.unanswered in omega arith;
      named = λ id r f. absurd (not_both ((world_shard core).request id) r (request id) f);
      below = λ id name f. absurd (not_both (map.get (entries_of names) id) name (get id) f);
      taken_below = record {
        within = omega (arith, tokens);
        untaken = λ t from below. absurd (omega (arith, tokens));
        taken = λ t c f g. absurd (not_both ((world_shard core).command t) c (command t) f);
        there = λ t c f. absurd (not_both ((world_shard core).command t) c (command t) f);
      };
      told = ap (λ (s : Shard). s.untold) start;
      next = ap first_of (sym calls);
      agreed = λ h. calls;
    }

roomy : (old new : ℕ) → new ≡ old + 1 → (most_unanswered ≤ old → ⊥) → new ≤ most_unanswered
roomy old new e h = omega arith

pub submitted_member : (core new : CoreView) (names : Numbered ℕ) (settled : Bool) (change : Option Call) (taken : ℕ) (o : Op) (id name : ℕ) → IsMember core names settled change taken → Accepts core o id new
    → IsMember new (capacity_of names, (next_of names + 1, map.insert (entries_of names) (next_of names) name)) false change taken
submitted_member core new names settled change taken o id name x a =
    let e = submitted (core_layout core) core.shard (world_shard core) _ id (world_shard new) a.step.1 in
    let is : id ≡ next_of names = e.number ∙ sym x.numbers in
    let unused = next_unnamed names (world_shard core).accepted x.below in
    let none : map.get (entries_of names) (next_of names) ≡ None = ap (map.get (entries_of names)) x.numbers ∙ unused in
    let accepted = e.accepted in
    let numbers = x.numbers in
    let unanswered = a.unanswered in
    record {
      capacity = x.capacity;
      numbers = omega arith;
      count = len-inserted (entries_of names) (next_of names) name none ∙ ap (λ n. n + 1) x.count ∙ sym unanswered;
      room = roomy core.unanswered new.unanswered unanswered a.right.1.1.1.1.1.0;
      named = named_more names (capacity_of names) (next_of names) name (world_shard core) (world_shard new) x.named (λ k ne f. e.gone k (λ h. ne (h ∙ is)) f);
      below = below_more names (next_of names) name (world_shard new).accepted (omega arith) (λ i n f. let b = x.below i n f in omega arith);
      taken_below = e.taken taken x.taken_below;
      told = e.untold ∙ x.told;
      next = x.next ∙ ap first_of (sym e.calls);
      agreed = λ h. absurd (false-true h);
    }

-- as the event leaves it that brings no request, takes no command, and makes no call to be taken
pub kept_member : (core new : CoreView) (names : Numbered ℕ) (settled settled' : Bool) (change change' : Option Call) (taken : ℕ) → IsMember core names settled change taken
    → Keeps (world_shard core) (world_shard new) → new.unanswered ≡ core.unanswered → option_map call_of change' ≡ first_of (world_shard new).calls
    → (settled' ≡ true → (world_shard new).calls ≡ []) → IsMember new names settled' change' taken
kept_member core new names settled settled' change change' taken x k unanswered next agreed =
    record {
      capacity = x.capacity;
      numbers = x.numbers ∙ sym k.accepted;
      count = x.count ∙ sym unanswered;
      room = let room = x.room in omega (arith, unanswered);
      named = named_still names (world_shard core) (world_shard new) x.named k.gone;
      below = λ id n f. let b = x.below id n f in let a = k.accepted in omega arith;
      taken_below = k.taken taken x.taken_below;
      told = k.untold ∙ x.told;
      next = next;
      agreed = agreed;
    }

-- a command is taken
pub handed_member : (core new : CoreView) (names : Numbered ℕ) (settled : Bool) (change : Option Call) (taken token : ℕ) (c : shards.Command) → IsMember core names settled change taken
    → Step core (steps.Take_command token c) new → IsOldestUntaken core token → KeepsRequests core new → IsMember new names settled change (taken + 1)
handed_member core new names settled change taken token c x step oldest kept =
    let h = handed (core_layout core) core.shard (world_shard core) token c (world_shard new) step.1 oldest in
    record {
      capacity = x.capacity;
      numbers = x.numbers ∙ sym h.accepted;
      count = x.count ∙ sym kept.0.1;
      room = let room = x.room in let same : new.unanswered ≡ core.unanswered = kept.0.1 in omega arith;
      named = named_still names (world_shard core) (world_shard new) x.named (λ id e. ap (λ f. f id) h.request ∙ e);
      below = λ id n f. let b = x.below id n f in let a = h.accepted in omega arith;
      taken_below = h.taken taken x.taken_below;
      told = h.untold ∙ x.told;
      next = x.next ∙ ap first_of (sym h.calls);
      agreed = λ e. h.calls ∙ x.agreed e;
    }

-- ---- the next call is seen

pub first_none : (calls : List shards.Call) → first_of calls ≡ None → calls ≡ []
first_none [] e = refl
first_none (call ∷ calls) e = absurd (None-not_Some call (sym e))

pub sees_none : (core new : CoreView) → (world_shard core).untold ≡ None → Step core steps.No_call new → KeepsRequests core new → SeesCall core None new
sees_none core new untold step kept =
    let empty : (world_shard core).calls ≡ [] = elim step.1.0 [ inl e ↦ e | inr h ↦ absurd (h untold) ] in
    (record { change = None; middle = new; seen = step; next = ap first_of (sym empty); same = step.1.1; kept = kept }, refl)

pub sees_some : (core middle new : CoreView) (call : Call) → Step core (steps.Take_call (call_of call)) middle → Step middle (steps.Told (call_of call) (Err Contended)) new
    → KeepsRequests core middle → KeepsRequests middle new → SeesCall core (Some call) new
sees_some core middle new call take tell kept kept' = (
  record {
    change = Some (call_of call);
    middle = middle;
    seen = (take, tell);
    next = ap first_of (sym take.1.1.0);
    same = put_back_same (core_layout core) core.shard (world_shard core) (world_shard middle) (world_shard new) (call_of call) take.1
        (subst (λ n. steps.Step (core_layout core) n (world_shard middle) (steps.Told (call_of call) (Err Contended)) (world_shard new)) take.0.1
        (subst (λ (shape : Shape). steps.Step (layout_of shape) middle.shard (world_shard middle) (steps.Told (call_of call) (Err Contended)) (world_shard new)) take.0.0 tell.1));
    kept = (((kept'.0.0.0 ∙ kept.0.0.0, kept'.0.0.1 ∙ kept.0.0.1), kept'.0.1 ∙ kept.0.1), kept'.1 ∙ kept.1);
  },
  refl,
)

-- and the shard is as it was but for what came before
pub seen_member : (core mid new : CoreView) (names : Numbered ℕ) (settled settled' : Bool) (change change' : Option Call) (taken : ℕ) → IsMember core names settled change taken
    → Keeps (world_shard core) (world_shard mid) → mid.unanswered ≡ core.unanswered → SeesCall mid change' new → (settled' ≡ true → change' ≡ None)
    → IsMember new names settled' change' taken
seen_member core mid new names settled settled' change change' taken x k unanswered sees none =
    let next : option_map call_of change' ≡ first_of (world_shard new).calls = sym sees.1 ∙ sees.0.next ∙ ap (λ (s : Shard). first_of s.calls) (sym sees.0.same) in
    kept_member core new names settled settled' change change' taken x (subst (Keeps (world_shard core)) (sym sees.0.same) k) (sees.0.kept.0.1 ∙ unanswered) next
    (λ h. first_none (world_shard new).calls (sym next ∙ ap (option_map call_of) (none h)))

pub delivered_member : (core mid new : CoreView) (names : Numbered ℕ) (settled : Bool) (change change' : Option Call) (taken token : ℕ) (completion : Result (List ℕ) DeviceFault) (receipt : Receipt)
    → IsMember core names settled change taken → Receives core token completion receipt mid → SeesCall mid change' new → IsMember new names false change' taken
delivered_member core mid new names settled change change' taken token completion receipt x r sees =
    seen_member core mid new names settled false change change' taken x
    (delivered (core_layout core) core.shard (world_shard core) token (completion_of completion) (receipt_of receipt) (world_shard mid) r.step.1) r.unanswered sees (λ h. absurd (false-true h))

pub looked_member : (core mid new : CoreView) (names : Numbered ℕ) (settled settled' : Bool) (change change' : Option Call) (taken : ℕ) (register : Snapshot)
    → IsMember core names settled change taken → LooksAt core register mid → SeesCall mid change' new → is_some change' ≡ not settled' → IsMember new names settled' change' taken
looked_member core mid new names settled settled' change change' taken register x r sees e =
    seen_member core mid new names settled settled' change change' taken x
    (looked (core_layout core) core.shard (world_shard core) register (world_shard mid) r.step.1) r.unanswered sees (none_is change' settled' e)
  where
    none_is : (o : Option Call) (b : Bool) → is_some o ≡ not b → b ≡ true → o ≡ None
    none_is None b h t = refl
    none_is (Some call) true h t = absurd (false-true (sym h))
    none_is (Some call) false h t = absurd (false-true t)

pub settled_so : (change : Option Call) (seen : Option shards.Call) (settled : Bool) → is_some change ≡ not settled → seen ≡ option_map call_of change → settled ≡ is_none seen
settled_so None seen settled e f = flipped settled e ∙ ap is_none (sym f)
  where
    flipped : (b : Bool) → false ≡ not b → b ≡ true
    flipped true h = refl
    flipped false h = absurd (false-true h)
settled_so (Some call) seen settled e f = flipped settled e ∙ ap is_none (sym f)
  where
    flipped : (b : Bool) → true ≡ not b → b ≡ false
    flipped true h = absurd (false-true (sym h))
    flipped false h = refl

pub agreed_member : (core middle mid new : CoreView) (names : Numbered ℕ) (settled : Bool) (change change' : Option Call) (taken : ℕ) (call : Call) (answer : Told)
    → IsMember core names settled change taken → Step core (steps.Take_call (call_of call)) middle → Step middle (steps.Told (call_of call) answer) mid
    → mid.unanswered ≡ core.unanswered → SeesCall mid change' new → IsMember new names false change' taken
agreed_member core middle mid new names settled change change' taken call answer x take tell unanswered sees =
    let t = told (core_layout core) core.shard (world_shard core) (world_shard middle) (world_shard mid) (call_of call) answer take.1
    (subst (λ n. steps.Step (core_layout core) n (world_shard middle) (steps.Told (call_of call) answer) (world_shard mid)) take.0.1
    (subst (λ (shape : Shape). steps.Step (layout_of shape) middle.shard (world_shard middle) (steps.Told (call_of call) answer) (world_shard mid)) take.0.0 tell.1)) in
    seen_member core mid new names settled false change change' taken x
    (record { accepted = t.accepted; gone = λ id e. ap (λ f. f id) t.request ∙ e; untold = t.untold ∙ sym x.told; taken = t.taken }) unanswered sees (λ h. absurd (false-true h))

-- once it is told, nothing is to be agreed to
pub told_of : (core new : CoreView) (change : Option Call) → SeesCall core change new → (world_shard core).untold ≡ None → change ≡ None → AllTold new
told_of core new change sees untold none = (
  first_none (world_shard new).calls (ap (λ (s : Shard). first_of s.calls) sees.0.same ∙ sym sees.0.next ∙ sees.1 ∙ ap (option_map call_of) none),
  ap (λ (s : Shard). s.untold) sees.0.same ∙ untold,
)

-- and while it isn't settled after a look, one is
pub untold_of : (core new : CoreView) (x : Sees core new) (settled : Bool) → settled ≡ is_none x.change → settled ≡ false → AllTold new → ⊥
untold_of core new x settled is e told =
    false-true (sym e ∙ is ∙ ap is_none (x.next ∙ ap (λ (s : Shard). first_of s.calls) (sym x.same) ∙ ap first_of told.0))

-- ---- replies, turns

pub replied_member : (core new : CoreView) (names : Numbered ℕ) (settled : Bool) (change : Option Call) (taken id name : ℕ) (reply : Reply) → IsMember core names settled change taken
    → HandsReply core id reply new → map.get (entries_of names) id ≡ Some name
    → IsMember new (capacity_of names, (next_of names, map.remove (entries_of names) id)) settled change taken
replied_member core new names settled change taken id name reply x r there =
    let a = replied (core_layout core) core.shard (world_shard core) id (reply_of reply) (world_shard new) r.step.1 in
    let fewer = len-removed (entries_of names) id name there in
    let unanswered = r.unanswered in
    let count = x.count in
    record {
      capacity = x.capacity;
      numbers = x.numbers ∙ sym a.accepted;
      count = omega (arith, fewer, unanswered, count);
      room = let room = x.room in omega arith;
      named = λ k request e. elim (cases_eq k id) [
        | inl same ↦ absurd (not_both ((world_shard new).request k) request (ap (world_shard new).request same ∙ a.own) e)
        | inr ne ↦
            let n = x.named k request (sym (a.others k ne) ∙ e) in
            (n.0, removed-other (entries_of names) id k (ne_eqb k id ne) ∙ n.1)
      ];
      below = λ k n e. elim (cases_eq k id) [
        | inl same ↦ absurd (not_both (map.get (map.remove (entries_of names) id) k) n (ap (map.get (map.remove (entries_of names) id)) same ∙ removed-own (entries_of names) id) e)
        | inr ne ↦ let b = x.below k n (sym (removed-other (entries_of names) id k (ne_eqb k id ne)) ∙ e) in let same = a.accepted in omega arith
      ];
      taken_below = a.taken taken x.taken_below;
      told = a.untold ∙ x.told;
      next = x.next ∙ ap first_of (sym a.calls);
      agreed = λ h. a.calls ∙ x.agreed h;
    }

turn_keeps : (core : CoreView) (t : Task) (turn : Turn) (new : CoreView) → TakesTurn core t turn new → Keeps (world_shard core) (world_shard new) × ((world_shard new).calls ≡ (world_shard core).calls)
turn_keeps core task.Rebuild turn new h =
    let r = h.1 in
    started (core_layout core) core.shard (world_shard core) r.4.2 r.2 (tasks.Rebuild r.0 r.1) (world_shard new) r.4.3 r.4.4
turn_keeps core task.Check Started new h = turned (core_layout core) core.shard (world_shard core) tasks.Check (world_shard new) h.1
turn_keeps core task.Check Skipped new h = skipped (core_layout core) core.shard (world_shard core) tasks.Check (world_shard core).check_row (world_shard new) h.1
turn_keeps core task.Repair Started new h = turned (core_layout core) core.shard (world_shard core) tasks.Repair (world_shard new) h.1
turn_keeps core task.Repair Skipped new h = skipped (core_layout core) core.shard (world_shard core) tasks.Repair (world_shard core).repair_row (world_shard new) h.1

pub turned_member : (core new : CoreView) (names : Numbered ℕ) (settled : Bool) (change : Option Call) (taken : ℕ) (t : Task) (turn : Turn) → IsMember core names settled change taken
    → Turns core t turn new → IsMember new names false change taken
turned_member core new names settled change taken t turn x r =
    let k = turn_keeps core t turn new r.taken in
    kept_member core new names settled false change change taken x k.0 r.unanswered (x.next ∙ ap first_of (sym k.1)) (λ h. absurd (false-true h))

pub same_as : (a b : Call) → call_of a ≡ call_of b → a ≡ b
same_as (calls.DeclareLost slot generation) (calls.DeclareLost slot' generation') h = cc
same_as (calls.DeclareLost slot generation) (calls.ReportRebuilt slot' generation') h = cc
same_as (calls.ReportRebuilt slot generation) (calls.DeclareLost slot' generation') h = cc
same_as (calls.ReportRebuilt slot generation) (calls.ReportRebuilt slot' generation') h = cc

-- the call that is taken is the next one
pub same_call : (core new : CoreView) (call next : Call) → Step core (steps.Take_call (call_of call)) new → first_of (world_shard core).calls ≡ Some (call_of next) → call ≡ next
same_call core new call next take e = same_as call next (Some-inj (call_of call) (call_of next) (ap first_of (sym take.1.1.0) ∙ e))

pub trans_kept : (a b c : CoreView) → KeepsRequests a b → KeepsRequests b c → KeepsRequests a c
trans_kept a b c x y = (((y.0.0.0 ∙ x.0.0.0, y.0.0.1 ∙ x.0.0.1), y.0.1 ∙ x.0.1), y.1 ∙ x.1)
