-- Where each event goes.
use Rattle.std.proofs.Common.{◌≡◌, ℕ, ◌<◌, ◌==◌, ◌&&◌, nat_lt, if◌then◌else◌, List, length, Contains, Option, Some, None, Bool, true, false, unwrap_or, option_map, option_and_then, slice_get, refl, sym, ◌∙◌, ap, arith}
use Rattle.std.specs.List.{range_with_len}
use Rattle.std.proofs.lemmas.Option.{slice_get_within}
use Rattle.std.proofs.lemmas.Bool.Decides.{nat_tests}
use Rattle.r6_layout.specs.Shape.{Shape, IsShape, blocks}
use Rattle.r6_layout.specs.Layout.{shard_of, row_of}
use Rattle.r6_layout.proofs.Places.{IsPlace-lt, IsPlace-row, IsPlace-shard}
use Rattle.r6_world.specs.PlainArray.{block_of}
use Rattle.r6_world.specs.declared.values.Op.{Op}
use Rattle.r6_world.specs.Values.{op_of}
use Rattle.r6_engine.specs.lists.Events.{Event, Request, Bring, Fail, Check, Repair, Wait, Duty, Serves, Takes_up, Checks, Repairs, is_block_of, duty_of, waits_before, Task, task, task_at, tasks_of, is_request, requests_of}
use Rattle.r6_engine.specs.lists.Laws.{SharesOut}
use Rattle.r6_engine.proofs.ListLemmas.Elements.{IsIn, contains, is_in, in_range, in_mapped, mapped_from, in_passing, passing_from}

some_same : {A : Type 0} (x y : A) → Some x ≡ Some y → x ≡ y
some_same x y same = ap (λ o. unwrap_or o x) same

-- what a task says of its event
pub record IsOf (shape : Shape) (shard : ℕ) (number waits : ℕ) (event : Option Event) (t : Task) : Type 0 where
  pub of : Event
  pub is_event : event ≡ Some of
  pub is_duty : duty_of shape shard of ≡ Some t.duty
  pub is_task : t ≡ task number waits t.duty

of_duty : (shape : Shape) (shard number waits : ℕ) (event : Event) (duty : Option Duty) (t : Task)
    → duty_of shape shard event ≡ duty → option_map (task number waits) duty ≡ Some t
    → IsOf shape shard number waits (Some event) t
of_duty shape shard number waits event None t is at = cc
of_duty shape shard number waits event (Some duty) t is at =
    let same : task number waits duty ≡ t = some_same (task number waits duty) t at in
    record {
      of = event;
      is_event = refl;
      is_duty = is ∙ ap (λ u. Some u.duty) same;
      is_task = sym same ∙ ap (λ u. task number waits u.duty) same;
    }

of_event : (shape : Shape) (shard number waits : ℕ) (event : Option Event) (t : Task)
    → option_map (task number waits) (option_and_then (duty_of shape shard) event) ≡ Some t
    → IsOf shape shard number waits event t
of_event shape shard number waits None t at = cc
of_event shape shard number waits (Some event) t at =
    of_duty shape shard number waits event (duty_of shape shard event) t refl at

no_request : (duty : Duty) → false ≡ is_request duty → is_request duty ≡ true → ⊥
no_request duty is asked = cc

both : (a b : Bool) → (a && b) ≡ true → (a ≡ true) × (b ≡ true)
both true true e = (refl, refl)
both true false e = cc
both false b e = cc

pub record IsBlockOf (shape : Shape) (shard block : ℕ) : Type 0 where
  pub in_array : block < blocks shape
  pub in_shard : shard_of shape (row_of shape block) ≡ shard

pub block_of_shard : (shape : Shape) (shard block : ℕ) → is_block_of shape shard block ≡ true → IsBlockOf shape shard block
block_of_shard shape shard block passed =
    let tests = both (nat_lt block (blocks shape)) (shard_of shape (row_of shape block) == shard) passed in
    record { in_array = grind (arith, nat_tests, tests.0); in_shard = grind (arith, nat_tests, tests.1) }

block_passes : (shape : Shape) (shard block : ℕ) → IsBlockOf shape shard block → is_block_of shape shard block ≡ true
block_passes shape shard block is =
    let in-array : nat_lt block (blocks shape) ≡ true = let below = is.in_array in grind (arith, nat_tests) in
    let in-shard : (shard_of shape (row_of shape block) == shard) ≡ true = let same = is.in_shard in grind (arith, nat_tests) in
    ap (λ b. b && (shard_of shape (row_of shape block) == shard)) in-array ∙ in-shard

-- the requests of a shard are for its blocks
request_of : (shape : Shape) (shard : ℕ) (event : Event) (duty : Duty) → duty_of shape shard event ≡ Some duty
    → is_request duty ≡ true
    → (op : Op) × (event ≡ Request op) × (duty ≡ Serves op) × IsBlockOf shape shard (block_of (op_of op))
request_of shape shard (Request op) duty is asked = by_test (is_block_of shape shard (block_of (op_of op))) refl is
  where
    by_test : (b : Bool) → is_block_of shape shard (block_of (op_of op)) ≡ b
        → (if b then Some (Serves op) else None) ≡ Some duty
        → (op' : Op) × (Request op ≡ Request op') × (duty ≡ Serves op') × IsBlockOf shape shard (block_of (op_of op'))
    by_test true same e = (op, refl, sym (some_same (Serves op) duty e), block_of_shard shape shard (block_of (op_of op)) same)
    by_test false same e = cc
request_of shape shard (Bring how slot part) duty is asked =
    absurd (no_request duty (ap (λ d. unwrap_or (option_map is_request d) true) is) asked)
request_of shape shard (Fail slot) duty is asked = cc
request_of shape shard Check duty is asked =
    absurd (no_request duty (ap (λ d. unwrap_or (option_map is_request d) true) is) asked)
request_of shape shard Repair duty is asked =
    absurd (no_request duty (ap (λ d. unwrap_or (option_map is_request d) true) is) asked)
request_of shape shard Wait duty is asked = cc

-- an event's task is among the shard's
pub is_handed : (shape : Shape) (shard : ℕ) (events : List Event) (number : ℕ) (event : Event) (duty : Duty)
    → slice_get events number ≡ Some event → duty_of shape shard event ≡ Some duty
    → IsIn (task number (waits_before events number) duty) (tasks_of shape shard events)
is_handed shape shard events number event duty at is =
    in_mapped (task_at shape shard events) (range_with_len 0 (length events)) number _
    (in_range 0 (length events) number (omega arith)
    (let within = slice_get_within events number event at in omega arith))
    (ap (λ e. option_map (task number (waits_before events number)) (option_and_then (duty_of shape shard) e)) at
    ∙ ap (option_map (task number (waits_before events number))) is)

-- a request of a shard, and its event
pub record IsAsked (shape : Shape) (shard : ℕ) (events : List Event) (t : Task) : Type 0 where
  pub op : Op
  pub is_event : slice_get events t.number ≡ Some (Request op)
  pub is_task : t ≡ task t.number (waits_before events t.number) (Serves op)
  pub is_block : IsBlockOf shape shard (block_of (op_of op))

pub is_asked : (shape : Shape) (shard : ℕ) (events : List Event) (t : Task) → Contains (requests_of shape shard events) t
    → IsAsked shape shard events t
is_asked shape shard events t stands =
    let passing = passing_from (λ u. is_request u.duty) (tasks_of shape shard events) t (is_in _ _ stands) in
    let from = mapped_from (task_at shape shard events) (range_with_len 0 (length events)) t passing.0 in
    let number = from.0 in
    let is = of_event shape shard number (waits_before events number) (slice_get events number) t from.1 in
    let request = request_of shape shard is.of t.duty is.is_duty passing.1 in
    let numbered : t.number ≡ number = ap (λ u. u.number) is.is_task in
    record {
      op = request.0;
      is_event = ap (slice_get events) numbered ∙ is.is_event ∙ ap Some request.1;
      is_task = is.is_task
          ∙ ap (λ n. task n (waits_before events n) t.duty) (sym numbered)
          ∙ ap (task t.number (waits_before events t.number)) request.2;
      is_block = request.3;
    }

request_injective : (op op' : Op) → Request op ≡ Request op' → op ≡ op'
request_injective op op' same = cc

one_shard : (shape : Shape) (events : List Event) (shard other : ℕ) (t u : Task)
    → Contains (requests_of shape shard events) t → Contains (requests_of shape other events) u → t.number ≡ u.number
    → shard ≡ other
one_shard shape events shard other t u stands stands' numbers =
    let asked = is_asked shape shard events t stands in
    let asked' = is_asked shape other events u stands' in
    let same : asked.op ≡ asked'.op = request_injective asked.op asked'.op
    (some_same (Request asked.op) (Request asked'.op) (sym asked.is_event ∙ ap (slice_get events) numbers ∙ asked'.is_event)) in
    sym asked.is_block.in_shard ∙ ap (λ op. shard_of shape (row_of shape (block_of (op_of op)))) same ∙ asked'.is_block.in_shard

duty_here : (shape : Shape) (shard : ℕ) (op : Op) → IsBlockOf shape shard (block_of (op_of op))
    → duty_of shape shard (Request op) ≡ Some (Serves op)
duty_here shape shard op is = by_test (is_block_of shape shard (block_of (op_of op))) (block_passes shape shard (block_of (op_of op)) is)
  where
    by_test : (b : Bool) → b ≡ true → (if b then Some (Serves op) else None) ≡ Some (Serves op)
    by_test true e = refl
    by_test false e = cc

pub shares_out : (shape : Shape) → IsShape shape → (events : List Event) → SharesOut shape events
shares_out shape lawful events = record {
  request = λ number shard row index slot op at place.
      let in-row : row ≡ row_of shape (block_of (op_of op)) = IsPlace-row shape (block_of (op_of op)) shard row index slot place in
      let in-shard : shard ≡ shard_of shape row = IsPlace-shard shape (block_of (op_of op)) shard row index slot lawful place in
      let here : IsBlockOf shape shard (block_of (op_of op)) = record {
        in_array = IsPlace-lt shape (block_of (op_of op)) shard row index slot lawful place;
        in_shard = sym (in-shard ∙ ap (shard_of shape) in-row);
      } in
      contains _ _
      (in_passing (λ u. is_request u.duty) (tasks_of shape shard events) _
      (is_handed shape shard events number (Request op) (Serves op) at (duty_here shape shard op here)) refl);
  one_shard = one_shard shape events;
  asked = λ shard t stands.
      let asked = is_asked shape shard events t stands in (asked.op, asked.is_event, asked.is_block.in_array, asked.is_task);
  parts = λ number shard how slot part at.
      contains _ _ (is_handed shape shard events number (Bring how slot part) (Takes_up slot (part shard)) at refl);
  checks = λ number shard at. contains _ _ (is_handed shape shard events number Check Checks at refl);
  repairs = λ number shard at. contains _ _ (is_handed shape shard events number Repair Repairs at refl);
}
