-- The requests of all shards of an array that was served have one order.
use Rattle.std.proofs.Common.{◌≡◌, ℕ, zero, suc, ◌<◌, ◌≤◌, ◌⊎◌, List, [], ◌++◌, arith, inl, inr, refl, sym, ap, subst, ◌∙◌, None, Some, slice_get}
use Rattle.std.proofs.lemmas.Bool.{cases_eq, cases_lt}
use Rattle.r6_dev.specs.History.{Telling}
use Rattle.r6_dev.specs.Promises.{Promise}
use Rattle.r6_layout.specs.Shape.{Shape, IsShape}
use Rattle.r6_recover.specs.Rows.{block_at}
use Rattle.r6_world.specs.Geometries.{layout_of}
use Rattle.r6_world.specs.Layouts.{Layout, IsLayout, full_row}
use Rattle.r6_world.specs.PlainArray.{Array, Op, block_of}
use Rattle.r6_world.specs.Registers.{Snapshot}
use Rattle.r6_world.specs.Worlds.{World, Devices, next}
use Rattle.r6_world.specs.Claims.{IsLawfulStart}
use Rattle.r6_world.proofs.FullRows.{row-same}
use Rattle.r6_world.proofs.Geometries as geometries
use Rattle.r6_world.proofs.Tables.{not_both}
use Rattle.r6_course.specs.Courses.{Start, IsLawful, Mark, Asked, Reached, history_after}
use Rattle.r6_course.specs.Ledgers.{Entry, IsIn, Leads, IsWellFormed, merged}
use Rattle.r6_course.proofs.Lists.{none-behind}
use Rattle.r6_course.proofs.Reached.{holds-throughout}
use Rattle.r6_course.proofs.Requests.{Booked, booked-next, moment}
use Rattle.r6_shard.specs.Beginnings.{start_of}
use Rattle.r6_shard.specs.Behind.{IsBehindAll, StandsBefore}
use Rattle.r6_engine.specs.lists.Events.{Event}
use Rattle.r6_engine.specs.feed.Events.{events_of}
use Rattle.r6_engine.specs.declared.ledger.Ledger.{Ledger}
use Rattle.r6_engine.specs.declared.part.ShardParts.{ShardParts}
use Rattle.r6_engine.specs.declared.reply.EventReply.{EventReply}
use Rattle.r6_engine.specs.Answered.{AreReplies}
use Rattle.r6_engine.specs.Explained.{IsExplained, IsInService, PartsHold, Tells}
use Rattle.r6_engine.specs.Refusals.{WereRight}
use Rattle.r6_engine.specs.ServedShards.{AnswersEach}
use Rattle.r6_order.specs.Orders.{ArrayHistory, of_shard, LeadsEach}
use Rattle.r6_order.specs.Served.{HasOneOrder, IsHistoryOf, ServedOrderLaw}
use Rattle.r6_order.proofs.Events.{stands-for}
use Rattle.r6_order.proofs.Locality.{local_law, of-append, tag, tag-own, tag-other}
use Rattle.r6_order.proofs.Refusing.{NoneAfter, none_after}
use Rattle.r6_order.proofs.Telling.{one-history}

nothing-formed : IsWellFormed []
nothing-formed = record { asked_once = λ id op other b. b; replied_once = λ id reply other b. b; behind = λ id reply i. absurd i }

-- requests are for blocks of the shard
own-blocks : (s : Start) (lawful : IsLawful s) (w : World) (history : List Mark) → Reached s w history → (id : ℕ) (op : Op) → IsIn (Asked id op) history
    → s.layout.shard_of (s.layout.row_of (block_of op)) ≡ s.number
own-blocks s lawful w history x id op i =
    (holds-throughout s lawful (λ w history plain. Booked s.layout s.number (w.shard s.number) history)
    (record {
      known = λ id op stage e. absurd (not_both None _ refl e);
      counted = λ id op i. absurd i;
      kept = λ id op i. absurd i;
      own_block = λ id op i. absurd i;
      gone = λ id reply i. absurd i;
      well_formed = nothing-formed;
    })
    (λ w history plain m k p possible own k'.
    booked-next s.layout s.number w (next s.layout w m) history (history_after m.happening history) (moment s.layout s.number w m history possible own) p) w history x).2.own_block id op i

nothing : (a : Array) → Leads a [] a
nothing a = record {
  order = [];
  gives = refl;
  once = record {};
  asked = λ e i. absurd i;
  replied = λ id reply i ne. absurd i;
  in_time = λ id later reply op b ne e i same. absurd i;
}

-- ---- there is a history: each shard's marks behind those of the shard before it

marks-below : (ℕ → List Mark) → (count : ℕ) → ArrayHistory
marks-below histories zero = []
marks-below histories (suc k) = marks-below histories k ++ tag k (histories k)

below-is : (histories : ℕ → List Mark) (count n : ℕ) → (n < count → of_shard n (marks-below histories count) ≡ histories n)
    × (count ≤ n → of_shard n (marks-below histories count) ≡ [])
unfolding marks-below
below-is histories zero n = ((λ below. absurd (omega arith)), λ above. refl)
below-is histories (suc k) n =
    let rec = below-is histories k n in
    let parts = of-append n (marks-below histories k) (tag k (histories k)) in
    elim (cases_eq k n) [
      | inl same ↦ (
        (λ below. parts ∙ ap (λ ms. ms ++ of_shard n (tag k (histories k))) (rec.1 (omega arith)) ∙ ap (λ y. of_shard n (tag y (histories y))) same ∙ tag-own n (histories n)),
        λ above. absurd (omega arith),
      )
      | inr ne ↦ (
        (λ below. parts ∙ ap (λ ms. of_shard n (marks-below histories k) ++ ms) (tag-other n k (histories k) ne) ∙ none-behind (of_shard n (marks-below histories k)) ∙ rec.0 (omega arith)),
        λ above. parts ∙ ap (λ ms. of_shard n (marks-below histories k) ++ ms) (tag-other n k (histories k) ne) ∙ none-behind (of_shard n (marks-below histories k)) ∙ rec.1 (omega arith),
      )
    ]

-- of histories that have nothing from some number on
some-marks : (shards : ℕ) (histories : ℕ → List Mark) → ((n : ℕ) → shards ≤ n → histories n ≡ [])
    → (marks : ArrayHistory) × ((n : ℕ) → of_shard n marks ≡ histories n)
some-marks shards histories none = (
  marks-below histories shards,
  λ n. elim (cases_lt n shards) [
    | inl below ↦ (below-is histories shards n).0 below
    | inr above ↦ (below-is histories shards n).1 above ∙ sym (none n above)
  ],
)

-- ---- all shards

-- what is known of the part of a history that a shard has, where its requests that satisfy this stand behind all before
-- them
record Lane (l : Layout) (a : Array) (n : ℕ) (IsBehind : ℕ → Type 0) (history : List Mark) (end : Array) : Type 0 where
  leads : Leads a history end
  well_formed : IsWellFormed history
  own : (id : ℕ) (op : Op) → IsIn (Asked id op) history → l.shard_of (l.row_of (block_of op)) ≡ n
  none_after : NoneAfter history
  behind : (number : ℕ) → IsBehind number → (earlier later : ℕ) → earlier < number → number ≤ later
      → StandsBefore history leads.order earlier later

module _ {D : Type 0} (told : D → Telling) (shape : Shape) (is : IsShape shape) (start : Snapshot) (device : Devices) (array : Array)
    (lawful : IsLawfulStart (layout_of shape) start device array) (events : List Event) (replies : List EventReply) (all : List Ledger) (ledgers : ℕ → Ledger)
    (are : (n : ℕ) → n < shape.shards → slice_get all n ≡ Some (ledgers n)) (answered : AreReplies shape events all replies)
    (right : (n : ℕ) → n < shape.shards → WereRight shape.block events (ledgers n).requests.items)
    (entries : (n : ℕ) → n < shape.shards → AnswersEach (ledgers n).requests.items (ledgers n).entries.items) (backs : ℕ → ShardParts D)
    (each : (n : ℕ) → n < shape.shards → IsExplained told shape n (start_of shape n start device array) events replies (ledgers n) (backs n)) where
  layout : IsLayout (layout_of shape)
  layout = geometries.layouts shape is

  is-lawful : (n : ℕ) → n < shape.shards → IsLawful (start_of shape n start device array)
  is-lawful n below = record { layout = layout; number = below; start = lawful }

  -- what the users of a shard saw
  seen : (n : ℕ) → (n < shape.shards) ⊎ (shape.shards ≤ n) → List Mark
  seen n (inl below) = (each n below).history
  seen n (inr above) = []

  ends : (n : ℕ) → (n < shape.shards) ⊎ (shape.shards ≤ n) → Array
  ends n (inl below) = (each n below).array
  ends n (inr above) = array

  abbrev IsWait : ℕ → ℕ → Type 0
  IsWait n number = (n < shape.shards) × IsBehindAll (ledgers n).requests.items number

  lane : (n : ℕ) (c : (n < shape.shards) ⊎ (shape.shards ≤ n)) → Lane (layout_of shape) array n (IsWait n) (seen n c) (ends n c)
  unfolding seen ends
  lane n (inl below) =
      let x = each n below in
      let s = start_of shape n start device array in
      record {
        leads = x.leads;
        well_formed = x.well_formed;
        own = own-blocks s (is-lawful n below) x.world x.history x.reached;
        none_after = none_after s (is-lawful n below) x.world x.history x.reached;
        behind = λ number wait earlier later low high. x.behind number wait.1 earlier later low high;
      }
  lane n (inr above) =
      record {
        leads = nothing array;
        well_formed = nothing-formed;
        own = λ id op i. absurd i;
        none_after = λ id later op b. b;
        behind = λ number wait. absurd (let below = wait.0 in omega (arith, below, above));
      }

  -- a history that is told has that of each shard
  is-seen : (marks : ArrayHistory) → IsHistoryOf shape events replies ledgers marks → (n : ℕ) (c : (n < shape.shards) ⊎ (shape.shards ≤ n))
      → seen n c ≡ of_shard n marks
  unfolding seen
  is-seen marks of n (inl below) =
      let own = (each n below).tells in
      let its = of.tells n below in
      one-history 0 (each n below).history (of_shard n marks) (own.asked ∙ sym its.asked) (own.replied ∙ sym its.replied) (own.answered ∙ sym its.answered)
  is-seen marks of n (inr above) = sym (of.no_others n above)

  tells-seen : (n : ℕ) (c : (n < shape.shards) ⊎ (shape.shards ≤ n)) → n < shape.shards → Tells events replies (ledgers n) (seen n c)
  unfolding seen
  tells-seen n (inl below') below = (each n below').tells
  tells-seen n (inr above) below = absurd (omega arith)

  tells-none : (n : ℕ) (c : (n < shape.shards) ⊎ (shape.shards ≤ n)) → shape.shards ≤ n → seen n c ≡ []
  unfolding seen
  tells-none n (inl below) above = absurd (omega arith)
  tells-none n (inr above') above = refl

  holds : (n : ℕ) (c : (n < shape.shards) ⊎ (shape.shards ≤ n)) → n < shape.shards → IsInService shape (ledgers n)
      → PartsHold told shape n (ends n c) (ledgers n) (backs n)
  unfolding ends
  holds n (inl below') below service = (each n below').parts service
  holds n (inr above) below service = absurd (omega arith)

  -- the parts hold the one array
  holds-merged : (arrays : ℕ → Array) (n : ℕ) → PartsHold told shape n (arrays n) (ledgers n) (backs n)
      → PartsHold told shape n (merged (layout_of shape) arrays) (ledgers n) (backs n)
  holds-merged arrays n x row slot generation there sync telling part =
      let l = layout_of shape in
      let h = x row slot generation there sync telling part in
      let one = merged l arrays in
      let same : full_row l one row ≡ full_row l (arrays n) row =
      row-same l layout one (arrays n) row there.0 (λ block in'. ap (λ y. arrays (l.shard_of y) block) in' ∙ ap (λ y. arrays y block) there.1) in
      (h.0, h.1, h.2 ∙ ap (λ y. block_at y (l.position row slot)) (sym same))

  pub one-order : (marks : ArrayHistory) → IsHistoryOf shape events replies ledgers marks → HasOneOrder told shape events array replies ledgers backs marks
  one-order marks of =
      let l = layout_of shape in
      let arrays : ℕ → Array = λ n. ends n (cases_lt n shape.shards) in
      let lanes : (n : ℕ) → Lane l array n (IsWait n) (of_shard n marks) (arrays n) =
      (λ n. let c = cases_lt n shape.shards in subst (λ h. Lane l array n (IsWait n) h (ends n c)) (is-seen marks of n c) (lane n c)) in
      let led : LeadsEach l array marks arrays = record {
        leads = λ n. (lanes n).leads;
        well_formed = λ n. (lanes n).well_formed;
        own = λ n. (lanes n).own;
        none_after = λ n. (lanes n).none_after;
      } in
      let one = local_law l array marks arrays led in
      record {
        end = merged l arrays;
        leads = one.0;
        answered = stands-for shape is events replies all ledgers are right entries answered marks of array (merged l arrays) one.0;
        behind = λ n number below wait earlier later low high.
            subst (λ (order : List Entry). StandsBefore (of_shard n marks) order earlier later) (sym (one.1 n)) ((lanes n).behind number (below, wait) earlier later low high);
        parts = λ n below service. holds-merged arrays n (holds n (cases_lt n shape.shards) below service);
      }

  pub some-told : (marks : ArrayHistory) × IsHistoryOf shape events replies ledgers marks
  some-told =
      let some =
      some-marks shape.shards (λ n. seen n (cases_lt n shape.shards)) (λ n above. tells-none n (cases_lt n shape.shards) above) in (
        some.0,
        record {
          tells = λ n below. subst (Tells events replies (ledgers n)) (sym (some.1 n)) (tells-seen n (cases_lt n shape.shards) below);
          no_others = λ n above. some.1 n ∙ tells-none n (cases_lt n shape.shards) above;
        },
      )

pub served_order_law : {D : Type 0} (told : D → Telling) (promised : D → Promise) → ServedOrderLaw told promised
served_order_law told promised steady shape is given start first parts served x answered own ledgers backs are device array lawful known =
    let events = events_of told given in
    let replies = served.replies.items in
    let all = served.ledgers.items in
    let shard = (λ (n : ℕ) (below : n < shape.shards).
    let a = are n below in x.each n (own n) (ledgers n) (backs n) a.parts_is a.ledger_is a.back_is) in
    let there : (n : ℕ) → n < shape.shards → slice_get all n ≡ Some (ledgers n) = (λ n below. (are n below).ledger_is) in
    let right : (n : ℕ) → n < shape.shards → WereRight shape.block events (ledgers n).requests.items = (λ n below. (shard n below).right) in
    let entries : (n : ℕ) → n < shape.shards → AnswersEach (ledgers n).requests.items (ledgers n).entries.items = (λ n below. (shard n below).entries) in
    let each : (n : ℕ) → n < shape.shards → IsExplained told shape n (start_of shape n start device array) events replies (ledgers n) (backs n) =
    (λ n below. (shard n below).leads (known n below).known device array lawful (known n below).held) in
    record {
      one_order = one-order told shape is start device array lawful events replies all ledgers there answered right entries backs each;
      some_history = some-told told shape is start device array lawful events replies all ledgers there answered right entries backs each;
    }
