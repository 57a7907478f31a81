-- Which calls pass rows of checks and repairs.
use Rattle.std.proofs.Common.{◌≡◌, ℕ, ◌+◌, ◌≤◌, ◌⊎◌, Bool, true, false, if◌then◌else◌, inl, inr, refl, sym, ap, subst, ◌∙◌, arith}
use Rattle.std.proofs.lemmas.Bool.{cases_lt, cases_Bool, false≢true}
use Rattle.r6_layout.specs.Shape.{Shape}
use Rattle.r6_world.specs.Geometries.{layout_of}
use Rattle.r6_world.specs.Layouts.{Layout}
use Rattle.r6_world.specs.Registers.{Snapshot}
use Rattle.r6_world.specs.ShardStates.{Shard, IsLive, away}
use Rattle.r6_world.specs.Changes.{Finish, Give_over, Skip_turn, slots_in_error}
use Rattle.r6_world.specs.Steps as steps
use Rattle.r6_world.specs.Steps.{Event, Turn_started, Turn_skipped}
use Rattle.r6_world.specs.Worlds.{shard_at_start}
use Rattle.r6_world.specs.Counting.{HasOwnHolds, HasPassed, all_counted, changes_of, ended, gone_over, is_check, passes}
use Rattle.r6_world.proofs.Lives.{live-before}
use Rattle.r6_world.proofs.Changes.{Keeps, step-kept, lost-kept}
use Rattle.r6_world.proofs.Laws.Counts.{one, turn_started, turn_skipped, step-led, parts-of, classes-all}
use Rattle.r6_world.proofs.Laws.Passing.{call_counts_law}
use Rattle.r6_core.specs.declared.turn.Task.{Task}
use Rattle.r6_core.specs.declared.turn.Turn.{Turn}
use Rattle.r6_core.specs.Effects.{IsMade, TakesTurn}
use Rattle.r6_core.specs.Shards.{CoreView, Step, core_layout, world_shard}
use Rattle.r6_shard.specs.Kept.{NoneIsOut}
use Rattle.r6_shard.specs.Counted.{HasPassedRows, IsInService, PassesNone, PassesMore, counted_in, rows_of}
use Rattle.r6_shard.proofs.Keeping.{turned, turned-passes}

live-or-not : (l : Layout) (s : Shard) → IsLive l s ⊎ (IsLive l s → ⊥)
live-or-not l s = elim (cases_lt 2 (away l s)) [
  | inl many ↦ inr (λ live. let few = live.0 in absurd (omega arith))
  | inr few ↦ elim (cases_Bool s.saw_failed) [
    | inl saw ↦ inr (λ live. false≢true (sym live.1 ∙ saw))
    | inr unseen ↦ inl (few, unseen)
  ]
]

passes-is : (event : Event) → turn_started event + turn_skipped event ≡ passes event
passes-is (Turn_started task) = at (is_check task)
  where
    at : (b : Bool) → one b + 0 ≡ (if b then 1 else 0)
    at true = refl
    at false = refl
passes-is (Turn_skipped task row) = refl
passes-is event = refl

-- ---- no more rows are counted than are passed

-- out of service no hold ends and no turn is taken, so that nothing is counted
stopped-kept : (l : Layout) (n counted : ℕ) (event : Event) → Keeps l n (λ s. (IsLive l s → ⊥) × (all_counted s ≡ counted)) event
stopped-kept l n counted event s (Finish f h outcome) within a x = absurd (x.0 a.2)
stopped-kept l n counted event s (Skip_turn task row) within a x = absurd (x.0 a.1)
stopped-kept l n counted event s (Give_over f h) within a x = (
  λ live. x.0 (live-before l n s (Give_over f h) a live),
  lost-kept l (λ s. all_counted s ≡ counted) (λ s slot same. same) (slots_in_error l h) s x.1,
)
stopped-kept l n counted event s change within a x = (λ live. x.0 (live-before l n s change a live), x.1)

pub stopped-counts : (l : Layout) (n : ℕ) (old : Shard) (event : Event) (new : Shard) → steps.Step l n old event new → (IsLive l old → ⊥)
    → all_counted new ≡ all_counted old
stopped-counts l n old event new step out =
    (step-kept l n (λ s. (IsLive l s → ⊥) × (all_counted s ≡ all_counted old)) event (stopped-kept l n (all_counted old) event) old new step (out, refl)).1

-- the rows that were gone over, and those of a turn, are counted, held or dropped
goes-over : (l : Layout) (n : ℕ) (old : Shard) (event : Event) (new : Shard) → steps.Step l n old event new → HasOwnHolds l old
    → gone_over new ≤ gone_over old + passes event
goes-over l n old event new st own =
    let changes = changes_of l n old event new st in
    let led = step-led l n old event new st in
    let all = parts-of l n changes old new own.0 led.leads own.1 in
    let adds = all.0.adds in
    let a = adds.consistent in let b = adds.wrong_p in let c = adds.wrong_q in let d = adds.wrong_data in let e = adds.many in
    let f = adds.skipped in let g = all.0.held in let h = classes-all (ended own.0 changes) in
    let i = led.starts_is in let j = led.skips_is in let k = passes-is event in
    omega (arith, a, b, c, d, e, f, g, h, i, j, k)

counts-most : (l : Layout) (n : ℕ) (old : Shard) (event : Event) (new : Shard) → steps.Step l n old event new → (rows : ℕ) → HasPassed l n rows old
    → all_counted old ≤ rows → all_counted new ≤ rows + passes event
counts-most l n old event new st rows x most = elim (live-or-not l old) [
  | inl live ↦ let all = x.2 live in let over = goes-over l n old event new st x.0 in omega arith
  | inr out ↦ let same = stopped-counts l n old event new st out in omega arith
]

pub service-back : (old : CoreView) (event : Event) (new : CoreView) → Step old event new → IsInService new → IsInService old
service-back old event new step live =
    (call_counts_law.1 (core_layout old) old.shard (world_shard old) event (world_shard new) step.1).1
    (subst (λ (g : Shape). IsLive (layout_of g) (world_shard new)) step.0.0 live)

pub passes-by : (old : CoreView) (event : Event) (new : CoreView) → Step old event new → PassesMore (passes event) old new
passes-by old event new step stopped counted rows x =
    let law = call_counts_law.1 (core_layout old) old.shard (world_shard old) event (world_shard new) step.1 in
    record {
      most = counts-most (core_layout old) old.shard (world_shard old) event (world_shard new) step.1 rows x.shard x.most;
      shard = subst (λ (n : ℕ). HasPassed (core_layout new) n (rows + passes event) (world_shard new)) (sym step.0.1)
          (subst (λ (g : Shape). HasPassed (layout_of g) old.shard (rows + passes event) (world_shard new)) (sym step.0.0) (law.0 rows x.shard));
      least = λ live. let before = x.least (service-back old event new step live) in let more = law.2 in omega arith;
      out = λ is live. x.out is (service-back old event new step live);
    }

-- a core as it is made has passed none
pub none-passed : (shape : Shape) (snapshot : Snapshot) (number : ℕ) (core : CoreView) → IsMade shape snapshot number core → HasPassedRows false 0 0 core
none-passed shape snapshot number core made =
    let start = shard_at_start (layout_of shape) snapshot number in
    record {
      shard = subst (HasPassed (core_layout core) core.shard 0) (sym made.start)
          (subst (λ (g : Shape). HasPassed (layout_of g) core.shard 0 start) (sym made.geometry)
          (subst (λ (n : ℕ). HasPassed (layout_of shape) n 0 start) (sym made.number) (call_counts_law.0 (layout_of shape) number snapshot)));
      most = let none : counted_in core ≡ 0 = ap all_counted made.start in omega arith;
      least = λ live. omega arith;
      out = λ is live. false≢true is;
    }

-- an event that is no turn
pub passes-none : (old : CoreView) (event : Event) (new : CoreView) → passes event ≡ 0 → Step old event new → PassesNone old new
passes-none old event new none step stopped counted rows x =
    subst (λ n. HasPassedRows stopped counted n new) (let e = none in omega arith) (passes-by old event new step stopped counted rows x)

pub passes-same : (old new : CoreView) → new ≡ old → PassesNone old new
passes-same old new same stopped counted rows x = subst (HasPassedRows stopped counted rows) (sym same) x

pub passes-turned : (old : CoreView) (own : Task) (turn : Turn) (new : CoreView) → TakesTurn old own turn new → PassesMore (rows_of own) old new
passes-turned old own turn new x =
    let p = turned old own turn new x in
    subst (λ n. PassesMore n old new) (turned-passes old own turn new x) (passes-by old p.0 new p.5)

pub none-more : (old new : CoreView) → PassesMore 0 old new → PassesNone old new
none-more old new x stopped counted rows before = subst (λ n. HasPassedRows stopped counted n new) (omega arith) (x stopped counted rows before)

-- with no command out all rows of a shard in service are counted
pub counted-at-rest : (stopped : Bool) (counted rows : ℕ) (core : CoreView) → HasPassedRows stopped counted rows core → NoneIsOut (world_shard core)
    → HasPassedRows stopped rows rows core
counted-at-rest stopped counted rows core x home = record {
  shard = x.shard;
  most = x.most;
  least = λ live. let all = call_counts_law.2 (core_layout core) core.shard rows (world_shard core) x.shard home live in omega arith;
  out = x.out;
}

-- ---- a shard that is in service was in service

in-service : (core : CoreView) → IsInService core ⊎ (IsInService core → ⊥)
in-service core = live-or-not (core_layout core) (world_shard core)

pub was-in-service : (counted counted' rows rows' : ℕ) (old new : CoreView) → (HasPassedRows true counted rows old → HasPassedRows true counted' rows' new)
    → HasPassedRows false counted rows old → IsInService new → IsInService old
was-in-service counted counted' rows rows' old new passes x live = elim (in-service old) [
  | inl was ↦ was
  | inr out ↦
      let stopped : HasPassedRows true counted rows old = record { shard = x.shard; most = x.most; least = x.least; out = λ _. out } in
      absurd ((passes stopped).out refl live)
]

-- a check or repair begins: all rows that were gone over are counted, or the shard is out of service, where the number is free
pub counted-from : (stopped : Bool) (counted rows : ℕ) (core : CoreView) → (IsInService core → rows ≡ counted_in core) → HasPassedRows stopped counted rows core
    → HasPassedRows stopped counted (counted_in core) core
counted-from stopped counted rows core all x = record {
  shard = (x.shard.0, x.shard.1, λ live. x.shard.2 live ∙ all live);
  most = omega arith;
  least = x.least;
  out = x.out;
}
