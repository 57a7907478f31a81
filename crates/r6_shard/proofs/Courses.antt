-- The course of a core with its parts goes on.
use Rattle.std.proofs.Common.{◌≡◌, ℕ, List, length, Bool, inl, inr, refl, sym, ap, subst, ◌∙◌, Option, Some, None, Result, Ok, Err}
use Rattle.std.specs.Prelude.{MatchResult}
use Rattle.std.proofs.lemmas.Bool.{cases_eq}
use Rattle.r6_dev.specs.History.{Telling}
use Rattle.r6_health.specs.declared.history.View.{View}
use Rattle.r6_health.specs.Histories.{held}
use Rattle.r6_health.specs.Views.{Looks, Answered}
use Rattle.r6_world.specs.Tables.{put, put_in}
use Rattle.r6_world.specs.Layouts.{Layout}
use Rattle.r6_world.specs.Registers.{Told as Answer}
use Rattle.r6_world.specs.Steps as steps
use Rattle.r6_world.specs.Steps.{Event, Deliver, Error, Take_command, Take_call, Told}
use Rattle.r6_world.specs.Worlds.{as_made}
use Rattle.r6_world.proofs.Tables.{put-same, put-other, put-cases, None-not_Some, Some-inj}
use Rattle.r6_world.proofs.Acts.Points.{put_in-same, put_in-other, put_in-apart}
use Rattle.r6_world.specs.ShardStates.{Fetch}
use Rattle.r6_world.specs.Values.{world_command, given_transfer, completion_of, error_of, buffer_in}
use Rattle.r6_world.specs.declared.values.Command.{Command}
use Rattle.r6_world.specs.declared.values.CommandKind.{CommandKind}
use Rattle.r6_world.specs.declared.values.CommandKind.TheVariants.{Read, Write}
use Rattle.r6_world.specs.declared.values.FaultKind.{FaultKind}
use Rattle.r6_world.specs.declared.values.FaultKind.TheVariants.{ReadFault, WriteFault, Gone, Length}
use Rattle.r6_core.specs.declared.call.Call.{Call}
use Rattle.r6_world.specs.declared.values.DeviceFault.{DeviceFault}
use Rattle.r6_core.specs.declared.refusal.Refusal.{Refusal}
use Rattle.r6_core.specs.Shards.{CoreView, Step, core_layout, world_shard, call_of}
use Rattle.r6_core.specs.Refusals.{HasDeliverFault, IsFirstFault, deliver_faults}
use Rattle.r6_course.specs.Courses.{Start, Mark, Follows, marked, looked_by}
use Rattle.r6_course.specs.Steps.{IsPlainCall, OthersAreKept, NamesIt, Knows}
use Rattle.r6_shard.proofs.Learned.{keeps-name}
use Rattle.r6_course.proofs.Calls.{calls_go_on}
use Rattle.r6_course.proofs.Working.{taking_goes_on, answering_goes_on, losing_goes_on, erring_goes_on}
use Rattle.r6_course.proofs.Register.{others_go_on, telling_goes_on}
use Rattle.r6_course.proofs.Handing.{letting_goes_on}
use Rattle.r6_shard.specs.Kept.{IsOut}
use Rattle.r6_shard.specs.Performing.{Did}
use Rattle.r6_shard.specs.Courses.{stand_of, Course}
use Rattle.r6_shard.proofs.Out.{some-there}

-- a step of the core is one of the start's layout and shard
stepped : (s : Start) (old : CoreView) (event : Event) (new : CoreView) → s.layout ≡ core_layout old → s.number ≡ old.shard
    → Step old event new → steps.Step s.layout s.number (world_shard old) event (world_shard new)
stepped s old event new layout number step =
    subst (λ (y : Layout). steps.Step y s.number (world_shard old) event (world_shard new)) (sym layout)
    (subst (λ y. steps.Step (core_layout old) y (world_shard old) event (world_shard new)) (sym number) step.1)

layout-kept : (s : Start) (old : CoreView) (event : Event) (new : CoreView) → s.layout ≡ core_layout old → Step old event new
    → s.layout ≡ core_layout new
layout-kept s old event new layout step = layout ∙ ap Rattle.r6_world.specs.Geometries.layout_of (sym step.0.0)

-- a call of the core alone
pub goes : (s : Start) (old new : CoreView) (v : View) (looked : ℕ) (named : List Bool) (out : ℕ → Option Command) (part : ℕ → ℕ → Option Telling) (history : List Mark) (event : Event)
    → IsPlainCall (held v.start v.seen) event → Step old event new → Course s old v looked named out part history
    → Course s new v (looked_by event looked) named out part (marked event history)
goes s old new v looked named out part history event plain step x =
    record {
      lawful = x.lawful;
      layout = layout-kept s old event new x.layout step;
      number = x.number ∙ sym step.0.1;
      pass = x.pass;
      taken = x.taken;
      among = x.among;
      follows = calls_go_on s x.lawful (record (stand_of old v looked named part history) { out = x.taken }) event (world_shard new) x.follows plain
          (stepped s old event new x.layout x.number step);
    }

-- ---- a command

pub put-alike : (part part' : ℕ → ℕ → Option Telling) (slot generation : ℕ) (behind : Telling) → part' slot generation ≡ Some behind
    → OthersAreKept slot generation part part' → (other g : ℕ) → part' other g ≡ put_in part slot generation (Some behind) other g
put-alike part part' slot generation behind is others other g = elim (cases_eq other slot) [
  | inl same ↦ elim (cases_eq g generation) [
    | inl same' ↦
        ap (λ y. part' y g) same ∙ ap (part' slot) same' ∙ is ∙ sym (put_in-same part slot generation (Some behind) g same')
        ∙ ap (λ y. put_in part slot generation (Some behind) y g) (sym same)
    | inr ne ↦
        others other g (λ both. ne both.1) ∙ ap (λ y. part y g) same ∙ sym (put_in-other part slot generation (Some behind) g ne)
        ∙ ap (λ y. put_in part slot generation (Some behind) y g) (sym same)
  ]
  | inr ne ↦
      others other g (λ both. ne both.0) ∙ sym (ap (λ (y : ℕ → Option Telling). y g) (put_in-apart part slot generation (Some behind) other ne))
]

-- it is taken, and out from then on
pub taken : (s : Start) (old new : CoreView) (v : View) (looked : ℕ) (named : List Bool) (out : ℕ → Option Command) (part : ℕ → ℕ → Option Telling) (history : List Mark)
    (c : Command) (frame : ℕ) (abandoned copy : Bool) → Step old (Take_command c.token (world_command frame abandoned copy c)) new
    → Course s old v looked named out part history → Course s new v looked named (put out c.token (Some c)) part history
taken s old new v looked named out part history c frame abandoned copy step x =
    let command = world_command frame abandoned copy c in
    record {
      lawful = x.lawful;
      layout = layout-kept s old (Take_command c.token command) new x.layout step;
      number = x.number ∙ sym step.0.1;
      pass = x.pass;
      taken = put x.taken c.token (Some command);
      among = λ token d e. elim (put-cases out c.token (Some c) token (Some d) e) [
        | inl p ↦ (
          frame,
          abandoned,
          copy,
          put-same x.taken c.token (Some command) token p.0
              ∙ ap (λ y. Some (world_command frame abandoned copy y)) (Some-inj c d p.1),
        )
        | inr p ↦ let a = x.among token d p.1 in (a.0, a.1, a.2, put-other x.taken c.token (Some command) token p.0 ∙ a.3)
      ];
      follows = taking_goes_on s x.lawful (record (stand_of old v looked named part history) { out = x.taken }) c.token command (world_shard new) x.follows
          (stepped s old (Take_command c.token command) new x.layout x.number step);
    }

-- it is answered, and out no more
pub answered : (s : Start) (old new : CoreView) (v : View) (looked : ℕ) (named named' : List Bool) (out : ℕ → Option Command) (part part' : ℕ → ℕ → Option Telling)
    (history : List Mark) (token : ℕ) (c : Command) (receipt : steps.Receipt) (completion : Result (List ℕ) DeviceFault) → out token ≡ Some c
    → Step old (Deliver token (completion_of completion) receipt) new → Did part part' c completion
    → MatchResult completion (λ _. named' ≡ named) (λ _. NamesIt c.slot receipt named named')
    → Course s old v looked named out part history → Course s new v looked named' (put out token None) part' history
answered s old new v looked named named' out part part' history token c receipt completion was delivers did names x =
    record {
      lawful = x.lawful;
      layout = layout-kept s old (Deliver token (completion_of completion) receipt) new x.layout delivers;
      number = x.number ∙ sym delivers.0.1;
      pass = x.pass;
      taken = put x.taken token None;
      among = λ t d e. elim (put-cases out token None t (Some d) e) [
        | inl p ↦ absurd (None-not_Some d p.1)
        | inr p ↦ let a = x.among t d p.1 in (a.0, a.1, a.2, put-other x.taken token None t p.0 ∙ a.3)
      ];
      follows = at completion (stepped s old (Deliver token (completion_of completion) receipt) new x.layout x.number delivers) did names;
    }
  where
    here : (frame : ℕ) × (abandoned : Bool) × (copy : Bool) × (x.taken token ≡ Some (world_command frame abandoned copy c))
    here = x.among token c was

    fetched : (kind : CommandKind) (buffer : List ℕ) → given_transfer kind buffer ≡ Fetch → kind ≡ Read
    fetched Read buffer is = refl
    fetched Write buffer is = absurd (cc)

    at : (completion : Result (List ℕ) DeviceFault)
        → steps.Step s.layout s.number (world_shard old) (Deliver token (completion_of completion) receipt) (world_shard new)
        → Did part part' c completion → MatchResult completion (λ _. named' ≡ named) (λ _. NamesIt c.slot receipt named named')
        → Follows s (record (stand_of new v looked named' part' history) { out = put x.taken token None })
    at (Ok came) step p same =
        let y = answering_goes_on s x.lawful (record (stand_of old v looked named part history) { out = x.taken }) token
        (world_command here.0 here.1 here.2 c) came receipt (world_shard new) p.before p.behind x.follows here.3 step p.was p.does in
        letting_goes_on s
        (record (stand_of new v looked named' (put_in part c.slot c.generation (Some p.behind)) history) { out = put x.taken token None }) part'
        (subst (λ y. Follows s (record (stand_of new v looked y (put_in part c.slot c.generation (Some p.behind)) history) { out = put x.taken token None }))
        (sym same) y)
        (λ slot g telling there. sym (put-alike part part' c.slot c.generation p.behind p.is p.others slot g) ∙ there)
    at (Err fault) step p names = by fault.kind refl step
      where
        lost : steps.Step s.layout s.number (world_shard old) (Deliver token Error receipt) (world_shard new)
            → Follows s (record (stand_of new v looked named' part' history) { out = put x.taken token None })
        lost step' =
            losing_goes_on s x.lawful (record (stand_of old v looked named part history) { out = x.taken }) token
            (world_command here.0 here.1 here.2 c) receipt (world_shard new) part' named' x.follows here.3 step' p.others names

        by : (kind : FaultKind) → fault.kind ≡ kind → steps.Step s.layout s.number (world_shard old) (Deliver token (error_of kind) receipt) (world_shard new)
            → Follows s (record (stand_of new v looked named' part' history) { out = put x.taken token None })
        by ReadFault is step' =
            erring_goes_on s x.lawful (record (stand_of old v looked named part history) { out = x.taken }) token
            (world_command here.0 here.1 here.2 c) receipt (world_shard new) part' named' x.follows here.3 step' p.others
            (λ fetches. p.misses is (fetched c.kind c.buffer fetches)) names
        by WriteFault is step' = lost step'
        by Gone is step' = lost step'
        by Length is step' = lost step'

-- ---- its completion is not refused

length-back : (part part' : ℕ → ℕ → Option Telling) (c : Command) (completion : Result (List ℕ) DeviceFault) → Did part part' c completion
    → length (buffer_in completion) ≡ length c.buffer
length-back part part' c (Ok came) p = p.same_length
length-back part part' c (Err fault) p = p.same_length

pub not-refused : (core : CoreView) (part part' : ℕ → ℕ → Option Telling) (token : ℕ) (c : Command) (completion : Result (List ℕ) DeviceFault)
    (refusal : Refusal) → IsOut core.shape core.shard (world_shard core).command token c → Did part part' c completion
    → IsFirstFault (HasDeliverFault core token (buffer_in completion)) deliver_faults refusal → ⊥
not-refused core part part' token c completion refusal out did fault =
    elim fault [
      | inl first ↦ some-there ((world_shard core).command token) out.there (λ d there. first.1 (d, there, (out.same d there).0))
      | inr second ↦ elim second.1 [
        | inl wrong ↦ wrong.1 (length-back part part' c completion did ∙ out.block)
        | inr none ↦ none.1
      ]
    ]

-- ---- the register

pub seen : (s : Start) (core : CoreView) (v w : View) (looked : ℕ) (named : List Bool) (out : ℕ → Option Command) (part : ℕ → ℕ → Option Telling) (history : List Mark)
    → Looks v w → Course s core v looked named out part history → Course s core w looked named out part history
seen s core v w looked named out part history look x =
    let name = sym look.grows.name in
    let y = others_go_on s x.lawful (record (stand_of core v looked named part history) { out = x.taken }) v w x.follows x.pass look in
    record {
      lawful = x.lawful;
      layout = x.layout;
      number = x.number;
      pass = subst (λ n. Knows s w n w.seen (held w.start w.seen)) name y.1;
      taken = x.taken;
      among = x.among;
      follows = subst (λ n. Follows s (record (stand_of core w looked named part history) { by = n; out = x.taken })) name y.0;
    }

-- the shard's own call is made, and its answer told
pub told : (s : Start) (old mid new : CoreView) (v w : View) (looked : ℕ) (named : List Bool) (out : ℕ → Option Command) (part : ℕ → ℕ → Option Telling) (history : List Mark) (number : ℕ)
    (call : Call) (answer : Answer) → number ≡ old.shard → Step old (Take_call (call_of call)) mid
    → Step mid (Told (call_of call) answer) new → Answered v (as_made number (call_of call)) answer w
    → Course s old v looked named out part history → Course s new w looked named out part history
told s old mid new v w looked named out part history number call answer same takes tells answered x =
    let layout-mid = layout-kept s old (Take_call (call_of call)) mid x.layout takes in
    let number-mid = x.number ∙ sym takes.0.1 in
    let name = sym (keeps-name v w (as_made number (call_of call)) answer answered).0 in
    let y = telling_goes_on s x.lawful (record (stand_of old v looked named part history) { out = x.taken }) v w (call_of call) answer (world_shard mid) (world_shard new) x.follows x.pass
    (stepped s old (Take_call (call_of call)) mid x.layout x.number takes)
    (stepped s mid (Told (call_of call) answer) new layout-mid number-mid tells)
    (subst (λ n. Answered v (as_made n (call_of call)) answer w) (same ∙ sym x.number) answered) in
    record {
      lawful = x.lawful;
      layout = layout-kept s mid (Told (call_of call) answer) new layout-mid tells;
      number = number-mid ∙ sym tells.0.1;
      pass = subst (λ n. Knows s w n w.seen (held w.start w.seen)) name y.1;
      taken = x.taken;
      among = x.among;
      follows = subst (λ n. Follows s (record (stand_of new w looked named part history) { by = n; out = x.taken })) name y.0;
    }
