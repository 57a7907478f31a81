-- Requests have their turns, some of them first: who has started with an older one is passed over.
use Rattle.std.proofs.Common.{◌≡◌, ◌≢◌, ◌⊎◌, inl, inr, ℕ, ◌||◌, Bool, true, false, List, [], ◌∷◌, ◌++◌, refl, sym, ap, subst, ◌∙◌, Option, Some, None, append_assoc, append-nil}
use Rattle.std.specs.Prelude.{if◌then◌else◌}
use Rattle.std.specs.List.{AllByRecursion}
use Rattle.std.proofs.lemmas.Bool.{cases_eq, eq-eqb, eqb-true, both_ways}
use Rattle.r6_world.specs.Tables.{put}
use Rattle.r6_world.proofs.Tables.{put-same, put-other}
use Rattle.r6_world.specs.PlainArray as world
use Rattle.r6_world.specs.PlainArray.{block_of}
use Rattle.r6_world.specs.Layouts.{Layout}
use Rattle.r6_world.specs.Tasks.{Hold, Task, ReadFor, WriteFor, Rebuild, Check, Repair, Write, serves, serves_one}
use Rattle.r6_world.specs.ShardStates.{Shard, Stage, Waiting, Erred, Held, Reading, NotHeld, IsFree, IsLive, begun}
use Rattle.r6_world.specs.ShardStates as shards
use Rattle.r6_world.specs.Changes.{Change, Start, Ask, Prepare, Send, Read_direct, after, Allowed, staged, Copy}
use Rattle.r6_world.specs.Steps.{Leads, Through, Scans}
use Rattle.r6_core.specs.declared.queued.Queued.{Queued}
use Rattle.r6_world.specs.Values.{op_of}
use Rattle.r6_core.specs.Turns.{row_for, IsWaiting, IsHeld, MustWait, Starts, InTurn}

-- ---- turns of some, with others behind them

module _ (l : Layout) (n : ℕ) where
  -- these have their turns, with those behind them still to come
  abbrev pub InTurnBefore : (behind : List Queued) (old : Shard) → List Queued → (new : Shard) → (waiting : List Queued) → Type 0
  InTurnBefore behind old [] new waiting = (new ≡ old) × (waiting ≡ [])
  InTurnBefore behind old (request ∷ newer) new waiting =
      (IsHeld old request × InTurnBefore behind old newer new waiting)
      ⊎ (IsWaiting old request
      × (((mid : Shard) × Starts l n old request (newer ++ behind) mid × InTurnBefore behind mid newer new waiting)
      ⊎ (MustWait l old request × (others : List Queued) × (waiting ≡ request ∷ others) × InTurnBefore behind old newer new others)))

  pub turns_of_all : (old : Shard) (requests : List Queued) (new : Shard) (waiting : List Queued) → InTurnBefore [] old requests new waiting → InTurn l n old requests new waiting
  turns_of_all old [] new waiting turns = turns
  turns_of_all old (r ∷ newer) new waiting turns = elim turns [
    | inl held ↦ inl (held.0, turns_of_all old newer new waiting held.1)
    | inr waits ↦ inr (
      waits.0,
      elim waits.1 [
        | inl started ↦ inl (started.0, subst (λ rs. Starts l n old r rs started.0) (append-nil newer) started.1, turns_of_all started.0 newer new waiting started.2)
        | inr waited ↦ inr (waited.0, waited.1, waited.2, turns_of_all old newer new waited.1 waited.3)
      ],
    )
  ]

  -- some have their turns, and others behind them
  pub turns_both : (behind : List Queued) (old : Shard) (some : List Queued) (mid : Shard) (waiting : List Queued) (others : List Queued) (new : Shard) (waiting' : List Queued)
      → InTurnBefore (others ++ behind) old some mid waiting → InTurnBefore behind mid others new waiting' → InTurnBefore behind old (some ++ others) new (waiting ++ waiting')
  turns_both behind old [] mid waiting others new waiting' first second =
      subst (λ (x : Shard). InTurnBefore behind x others new (waiting ++ waiting')) first.0
      (subst (λ rs. InTurnBefore behind mid others new (rs ++ waiting')) (sym first.1) second)
  turns_both behind old (r ∷ some) mid waiting others new waiting' first second = elim first [
    | inl held ↦ inl (held.0, turns_both behind old some mid waiting others new waiting' held.1 second)
    | inr waits ↦ inr (
      waits.0,
      elim waits.1 [
        | inl started ↦
            inl (
              started.0,
              subst (λ rs. Starts l n old r rs started.0) (sym (append_assoc some others behind)) started.1,
              turns_both behind started.0 some mid waiting others new waiting' started.2 second,
            )
        | inr waited ↦
            inr (
              waited.0,
              waited.1 ++ waiting',
              ap (λ rs. rs ++ waiting') waited.2,
              turns_both behind old some mid waited.1 others new waiting' waited.3 second,
            )
      ],
    )
  ]

  -- one starts
  pub turn_of : (behind : List Queued) (old : Shard) (r : Queued) (new : Shard) → IsWaiting old r → Starts l n old r behind new → InTurnBefore behind old (r ∷ []) new []
  turn_of behind old r new waits starts = inr (waits, inl (new, starts, (refl, refl)))

  -- none of these starts
  pub turns_waited : (behind : List Queued) (s : Shard) (rs : List Queued) → AllByRecursion (IsWaiting s) rs → AllByRecursion (MustWait l s) rs → InTurnBefore behind s rs s rs
  turns_waited behind s [] wait must = (refl, refl)
  turns_waited behind s (r ∷ rs) wait must = inr (wait.0, inr (must.0, rs, refl, turns_waited behind s rs wait.1 must.1))

  -- in a shard that has stopped none starts
  pub turns_stopped : (behind : List Queued) (s : Shard) (rs : List Queued) → AllByRecursion (IsWaiting s) rs → (IsLive l s → ⊥) → InTurnBefore behind s rs s rs
  turns_stopped behind s [] wait stopped = (refl, refl)
  turns_stopped behind s (r ∷ rs) wait stopped = inr (wait.0, inr ((λ live could. stopped live), rs, refl, turns_stopped behind s rs wait.1 stopped))

-- ---- a request that has started with an older one

-- a row is held for it, that of its block
pub record HasJoined (l : Layout) (s : Shard) (request : Queued) : Type 0 where
  pub frame : ℕ
  pub at : s.request request.id ≡ Some (record { op = op_of request.op; stage = Held frame })
  pub hold : Hold
  pub held : s.frame frame ≡ Some hold
  pub row : hold.row ≡ row_for l request.op

module _ (l : Layout) (n : ℕ) where
  -- those that have joined have had their turns
  pub turns_joined : (behind : List Queued) (s : Shard) (rs : List Queued) → AllByRecursion (HasJoined l s) rs → InTurnBefore l n behind s rs s []
  turns_joined behind s [] all = (refl, refl)
  turns_joined behind s (r ∷ rs) all = inl ((all.0.frame, all.0.at), turns_joined behind s rs all.1)

  hold_stays : (s new : Shard) (frame : ℕ) (h h' : Hold) (r : Queued) → s.frame frame ≡ Some h → h'.row ≡ h.row → new.frame ≡ put s.frame frame (Some h') → new.request ≡ s.request
      → HasJoined l s r → HasJoined l new r
  hold_stays s new frame h h' r there row frames requests has =
      elim (cases_eq has.frame frame) [
        | inl same ↦
            let both : Some has.hold ≡ Some h = sym has.held ∙ ap s.frame same ∙ there in
            let one : has.hold ≡ h = cc in
            record {
              frame = has.frame;
              at = ap (λ (table : ℕ → Option shards.Request). table r.id) requests ∙ has.at;
              hold = h';
              held = ap (λ (table : ℕ → Option Hold). table has.frame) frames ∙ put-same s.frame frame (Some h') has.frame same;
              row = row ∙ ap (λ (x : Hold). x.row) (sym one) ∙ has.row;
            }
        | inr ne ↦ record {
          frame = has.frame;
          at = ap (λ (table : ℕ → Option shards.Request). table r.id) requests ∙ has.at;
          hold = has.hold;
          held = ap (λ (table : ℕ → Option Hold). table has.frame) frames ∙ put-other s.frame frame (Some h') has.frame ne ∙ has.held;
          row = has.row;
        }
      ]

  abbrev stage_in : Option shards.Request → Stage
  stage_in None = Waiting
  stage_in (Some request) = request.stage

  -- who is held doesn't wait
  waits_not : (s : Shard) (r : Queued) (frame : ℕ) (op : world.Op) → s.request r.id ≡ Some (record { op = op_of r.op; stage = Held frame })
      → s.request r.id ≡ Some (record { op = op; stage = Waiting }) → ⊥
  waits_not s r frame op at waits =
      let one : Held frame ≡ Waiting = ap stage_in (sym at ∙ waits) in cc one

  errs_not : (s : Shard) (r : Queued) (frame : ℕ) (op : world.Op) → s.request r.id ≡ Some (record { op = op_of r.op; stage = Held frame })
      → s.request r.id ≡ Some (record { op = op; stage = Erred }) → ⊥
  errs_not s r frame op at erred =
      let one : Held frame ≡ Erred = ap stage_in (sym at ∙ erred) in cc one

  joined_one : (s : Shard) (r : Queued) (change : Change) → Scans change → Allowed l n s change → HasJoined l s r → HasJoined l (after l s change) r
  joined_one s r (Start f row task) scans may has =
      let apart : has.frame ≢ f = λ same. let none : None ≡ Some has.hold = sym may.0.1 ∙ ap s.frame (sym same) ∙ has.held in cc none in
      let held = put-other s.frame f (Some (begun l s.slot row task)) has.frame apart ∙ has.held in
      elim (serves task r.id) as (λ b. serves task r.id ≡ b → HasJoined l (after l s (Start f row task)) r) [
        | true ↦ λ e.
            absurd (served_waits task may.4 e)
        | false ↦ λ e. record {
          frame = has.frame;
          at = ap (λ (b : Bool). if b then staged (s.request r.id) (Held f) else s.request r.id) e ∙ has.at;
          hold = has.hold;
          held = held;
          row = has.row;
        }
      ] refl
    where
      one_waits : (writes : List Write) → Rattle.r6_world.specs.Changes.Batch l s row writes → serves_one writes r.id ≡ true → ⊥
      one_waits [] batch e = cc e
      one_waits (w ∷ writes) batch e = elim (cases_eq r.id w.id) [
        | inl same ↦ waits_not s r has.frame (world.Op.Write w.block w.new_data) has.at (ap s.request same ∙ batch.0)
        | inr ne ↦ one_waits writes batch.3 (sym (ap (λ (b : Bool). b || serves_one writes r.id) (Rattle.std.proofs.lemmas.Bool.ne_eqb r.id w.id ne)) ∙ e)
      ]

      served_waits : (task : Task) → Rattle.r6_world.specs.Changes.MayStart l s row task → serves task r.id ≡ true → ⊥
      served_waits (ReadFor id block) may e = elim may.0 [
        | inl waits ↦ waits_not s r has.frame (world.Op.Read block) has.at (ap s.request (eqb-true r.id id e) ∙ waits.0)
        | inr erred ↦ errs_not s r has.frame (world.Op.Read block) has.at (ap s.request (eqb-true r.id id e) ∙ erred)
      ]
      served_waits (WriteFor writes) may e = one_waits writes may.1 e
      served_waits (Rebuild slot generation) may e = cc e
      served_waits Check may e = cc e
      served_waits Repair may e = cc e
  joined_one s r (Ask f h slot generation) scans may has = hold_stays s (after l s (Ask f h slot generation)) f h _ r may.0 refl refl refl has
  joined_one s r (Prepare f h event) scans may has = hold_stays s (after l s (Prepare f h event)) f h _ r may.0 refl refl refl has
  joined_one s r (Send f h slot generation b) scans may has = hold_stays s (after l s (Send f h slot generation b)) f h _ r may.0 refl refl refl has
  joined_one s r (Copy f h slot generation b) scans may has = hold_stays s (after l s (Copy f h slot generation b)) f h _ r may.0 refl refl refl has
  joined_one s r (Read_direct buffer id block generation) scans may has =
      let apart : r.id ≢ id = λ same. waits_not s r has.frame (world.Op.Read block) has.at (ap s.request same ∙ may.1) in
      record {
        frame = has.frame;
        at = put-other s.request id (Some (record { op = world.Op.Read block; stage = Reading s.tokens })) r.id apart ∙ has.at;
        hold = has.hold;
        held = has.held;
        row = has.row;
      }
  joined_one s r change scans may has = absurd scans

  joined_led : (r : Queued) (old new : Shard) (changes : List Change) → Leads l n Scans old changes new → HasJoined l old r → HasJoined l new r
  joined_led r old new [] leads has = subst (λ (x : Shard). HasJoined l x r) (sym leads) has
  joined_led r old new (change ∷ changes) leads has = joined_led r (after l old change) new changes leads.2 (joined_one old r change leads.0 leads.1 has)

  -- it stays so while others start
  pub joined_still : (old new : Shard) (r : Queued) → Through l n Scans old new → HasJoined l old r → HasJoined l new r
  joined_still old new r through has = joined_led r old new through.0 through.1 has
