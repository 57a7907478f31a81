-- What was done, with one thing more.
use Rattle.std.proofs.Common.{◌≡◌, ◌≢◌, ℕ, List, [], ◌∷◌, ◌++◌, map, length, if◌then◌else◌, true, false, Bool, refl, sym, ap, subst, ◌∙◌, append_assoc, append-nil, Option, Some, None}
use Rattle.std.specs.List.{cons_option}
use Rattle.std.proofs.lemmas.List.{length-map, map-append}
use Rattle.std.proofs.lemmas.List.Elements.{filter_map-append}
use Rattle.r6_dev.specs.History.{Telling}
use Rattle.r6_dev.specs.Promises.{Promise}
use Rattle.r6_layout.specs.Shape.{Shape}
use Rattle.r6_world.specs.PlainArray as world
use Rattle.r6_world.specs.Registers.{Snapshot}
use Rattle.r6_world.specs.Tables.{put_in}
use Rattle.r6_world.specs.declared.values.Op.{Op}
use Rattle.r6_core.specs.declared.turn.Task.{Task as Scrub}
use Rattle.r6_core.specs.declared.refusal.Refusal.{Refusal}
use Rattle.r6_core.specs.Shards.{CoreView}
use Rattle.r6_engine.specs.lists.Events.{Event, Duty, Takes_up, task, task_at}
use Rattle.r6_exchange.specs.declared.task.Part.{Part}
use Rattle.r6_shard.specs.declared.shard.Shard.{Shard}
use Rattle.r6_shard.specs.Shards as shards
use Rattle.r6_shard.specs.Shards.{ComesFrom}
use Rattle.r6_shard.specs.Beginnings.{start_of}
use Rattle.r6_shard.specs.Together.{all_asking}
use Rattle.r6_shard.specs.Refusing.{Lasts}
use Rattle.r6_shard.specs.Runs.{AreServed}
use Rattle.r6_shard.proofs.FromStarts.{handed_law}
use Rattle.r6_shard.proofs.Lasting.{lasts_on}
use Rattle.r6_shard.proofs.Ledgers.{served-on as served-kept}
use Rattle.r6_shard.specs.declared.performs.Performs.{Ghosts}
use Rattle.r6_engine.specs.declared.runner.due.Due.{Due}
use Rattle.r6_engine.specs.declared.runner.due.Duty.{Duty as DueDuty}
use Rattle.r6_engine.specs.declared.runner.due.Duty.TheVariants as duties
use Rattle.r6_engine.specs.declared.runner.scrub.ScrubUnderWay.{ScrubUnderWay}
use Rattle.r6_engine.specs.declared.runner.scrub.ScrubDone.{ScrubDone}
use Rattle.r6_engine.specs.declared.runner.runner.Handed.{Handed}
use Rattle.r6_engine.specs.declared.runner.runner.Runner.{Runner}
use Rattle.r6_engine.specs.runner.Tasks.{NewPart, request_in, scrub_in, part_in, requests_in, scrubs_in, parts_in, due_requests, due_scrubs, request_of, scrub_of, under_way, done_scrub, slot_of, handed_of}
use Rattle.r6_engine.specs.runner.Runners.{taken_up, NoneIsSilent, IsDone, IsPartTaken, HasDone, GoesOn, IsPut, IsHandedIn, BeginsScrub, ShardGoesOn, KeepsSelf}
use Rattle.r6_engine.specs.runner.Together.{HandsOver, all_due}
use Rattle.r6_engine.proofs.RunnerLemmas.Together.{passes-due, requests-due}
use Rattle.r6_engine.proofs.RunnerLemmas.Tasks.{of_tasks-more, taken_up-more, tell-less, none-silent, put_if}

-- ---- the same, of equal things

pub is-like : {P : Type 0} {g : Ghosts P} (shape : Shape) (events : List Event) (geometry : Shape) (number : ℕ) (snapshot : Snapshot)
    (before : ℕ → ℕ → Option Telling) (numbers : List ℕ) (shard shard' : Shard P g) (refused refused' : List (ℕ × Refusal))
    (scrub scrub' : Option ScrubUnderWay) (passed passed' : List ScrubDone) (handed handed' : List Handed) (due due' : List Due)
    → shard' ≡ shard → refused' ≡ refused → scrub' ≡ scrub → passed' ≡ passed → handed' ≡ handed → due' ≡ due
    → IsDone shape events geometry number snapshot before numbers shard refused scrub passed handed due
    → IsDone shape events geometry number snapshot before numbers shard' refused' scrub' passed' handed' due'
is-like shape events geometry number snapshot before numbers shard shard' refused refused' scrub scrub' passed passed' handed handed' due due' e0 e1 e2 e3 e4 e5 x =
    subst (λ y. IsDone shape events geometry number snapshot before numbers y refused' scrub' passed' handed' due') (sym e0)
    (subst (λ y. IsDone shape events geometry number snapshot before numbers shard y scrub' passed' handed' due') (sym e1)
    (subst (λ y. IsDone shape events geometry number snapshot before numbers shard refused y passed' handed' due') (sym e2)
    (subst (λ y. IsDone shape events geometry number snapshot before numbers shard refused scrub y handed' due') (sym e3)
    (subst (λ y. IsDone shape events geometry number snapshot before numbers shard refused scrub passed y due') (sym e4)
    (subst (λ y. IsDone shape events geometry number snapshot before numbers shard refused scrub passed handed y) (sym e5) x)))))

-- ---- what came by the list

pub is-put : {P : Type 0} {g : Ghosts P} (shape : Shape) (events : List Event) (geometry : Shape) (number : ℕ) (snapshot : Snapshot)
    (before : ℕ → ℕ → Option Telling) (numbers : List ℕ) (shard : Shard P g) (refused : List (ℕ × Refusal))
    (scrub : Option ScrubUnderWay) (passed : List ScrubDone) (handed : List Handed) (due : List Due)
    (d : Due) (n waits : ℕ) (duty : Duty) → task_at shape number events n ≡ Some (task n waits duty)
    → request_in n duty ≡ request_of d.event d.duty → scrub_in n duty ≡ scrub_of d.event d.duty → part_in n duty ≡ None
    → IsDone shape events geometry number snapshot before numbers shard refused scrub passed handed due
    → IsDone shape events geometry number snapshot before (numbers ++ n ∷ []) shard refused scrub passed handed (due ++ d ∷ [])
is-put shape events geometry number snapshot before numbers shard refused scrub passed handed due d n waits duty at request pass part x =
    let same : parts_in shape number events (numbers ++ n ∷ []) ≡ parts_in shape number events numbers =
    of_tasks-more part_in shape number events numbers n waits duty at
    ∙ ap (λ o. parts_in shape number events numbers ++ cons_option o []) part
    ∙ append-nil (parts_in shape number events numbers) in
    let A = map done_scrub passed in
    record {
      shape_is = x.shape_is;
      place = x.place;
      begun = x.begun;
      ops = x.ops;
      requests = of_tasks-more request_in shape number events numbers n waits duty at
          ∙ ap (λ y. y ++ cons_option (request_in n duty) []) x.requests
          ∙ append_assoc x.begun (due_requests due) (cons_option (request_in n duty) [])
          ∙ ap (λ o. x.begun ++ (due_requests due ++ cons_option o [])) request
          ∙ ap (λ y. x.begun ++ y) (sym (filter_map-append (λ (e : Due). request_of e.event e.duty) due (d ∷ [])));
      served = x.served;
      passes = of_tasks-more scrub_in shape number events numbers n waits duty at
          ∙ ap (λ y. y ++ cons_option (scrub_in n duty) []) x.passes
          ∙ append_assoc A (under_way scrub ++ due_scrubs due) (cons_option (scrub_in n duty) [])
          ∙ ap (λ y. A ++ y) (append_assoc (under_way scrub) (due_scrubs due) (cons_option (scrub_in n duty) []))
          ∙ ap (λ o. A ++ (under_way scrub ++ (due_scrubs due ++ cons_option o []))) pass
          ∙ ap (λ y. A ++ (under_way scrub ++ y)) (sym (filter_map-append (λ (e : Due). scrub_of e.event e.duty) due (d ∷ [])));
      parts = ap (λ y. map slot_of y) same ∙ x.parts;
      comes = λ all.
          subst (λ y. ComesFrom geometry number snapshot (taken_up before y handed) x.ops shard) (sym same)
          (x.comes (subst (NoneIsSilent before) same all));
    }

part-on : {P D : Type 0} {g : Ghosts P} (told : D → Telling) (promised : D → Promise) (geometry : Shape) (number : ℕ) (snapshot : Snapshot) (at : ℕ → ℕ → Option Telling)
    (ops : List world.Op) (taken : Bool) (part : Part D) (back : List (Part D)) (old new : Shard P g) (p : NewPart) (h : Handed)
    → p.slot ≡ part.slot → p.telling ≡ told part.device → h.generation ≡ part.generation → h.taken ≡ taken
    → ((d g : ℕ) → at d g ≢ Some None)
    → IsPartTaken taken told promised part back old new
    → ComesFrom geometry number snapshot at ops old
    → ComesFrom geometry number snapshot (put_if at p h) ops new
part-on {D = D} {g = g} told promised geometry number snapshot at ops true part back old new p h slot telling generation is none taken comes =
    let there : put_if at p h ≡ put_in at part.slot part.generation (Some (told part.device)) =
    ap (λ (b : Bool). if b then put_in at p.slot h.generation (Some p.telling) else at) is
    ∙ ap (λ (k : ℕ). put_in at k h.generation (Some p.telling)) slot
    ∙ ap (λ (k : ℕ). put_in at part.slot k (Some p.telling)) generation
    ∙ ap (λ (t : Telling). put_in at part.slot part.generation (Some t)) telling in
    subst (λ y. ComesFrom geometry number snapshot y ops new) (sym there)
    (handed_law g told promised part taken.0 old new taken.1 geometry number snapshot at ops (none part.slot part.generation) comes)
part-on told promised geometry number snapshot at ops false part back old new p h slot telling generation is none same comes =
    let there : put_if at p h ≡ at = ap (λ (b : Bool). if b then put_in at p.slot h.generation (Some p.telling) else at) is in
    subst (λ y. ComesFrom geometry number snapshot y ops new) (sym there)
    (subst (λ y. ComesFrom geometry number snapshot at ops y) (sym same.0) comes)

pub asked-on : {P D : Type 0} {g : Ghosts P} (told : D → Telling) (promised : D → Promise) (taken : Bool) (part : Part D) (back : List (Part D)) (old new : Shard P g)
    → IsPartTaken taken told promised part back old new → new.asked.items ≡ old.asked.items
asked-on told promised true part back old new taken = taken.1.ledger.asked
asked-on told promised false part back old new same = ap (λ (y : Shard _ _). y.asked.items) same.0

pub core-on : {P D : Type 0} {g : Ghosts P} (told : D → Telling) (promised : D → Promise) (taken : Bool) (part : Part D) (back : List (Part D)) (old new : Shard P g)
    → IsPartTaken taken told promised part back old new → new.core ≡ old.core
core-on told promised true part back old new taken = taken.1.core
core-on told promised false part back old new same = ap (λ (y : Shard _ _). y.core) same.0

pub is-handed : {P D : Type 0} {g : Ghosts P} (told : D → Telling) (promised : D → Promise) (shape : Shape) (events : List Event) (geometry : Shape) (number : ℕ) (snapshot : Snapshot)
    (before : ℕ → ℕ → Option Telling) (numbers : List ℕ) (shard shard' : Shard P g) (refused : List (ℕ × Refusal))
    (scrub : Option ScrubUnderWay) (passed : List ScrubDone) (handed : List Handed) (due : List Due)
    (n waits : ℕ) (part : Part D) (taken : Bool) (back : List (Part D))
    → task_at shape number events n ≡ Some (task n waits (Takes_up part.slot (told part.device)))
    → IsPartTaken taken told promised part back shard shard'
    → IsDone shape events geometry number snapshot before numbers shard refused scrub passed handed due
    → IsDone shape events geometry number snapshot before (numbers ++ n ∷ []) shard' refused scrub passed
    (handed ++ record { event = n; slot = part.slot; generation = part.generation; taken = taken } ∷ []) due
is-handed told promised shape events geometry number snapshot before numbers shard shard' refused scrub passed handed due n waits part taken back at into x =
    let duty : Duty = Takes_up part.slot (told part.device) in
    let p : NewPart = record { event = n; slot = part.slot; telling = told part.device } in
    let h : Handed = record { event = n; slot = part.slot; generation = part.generation; taken = taken } in
    let ps : List NewPart = parts_in shape number events numbers in
    let more : parts_in shape number events (numbers ++ n ∷ []) ≡ ps ++ p ∷ [] =
    of_tasks-more part_in shape number events numbers n waits duty at in
    let core : shard'.core ≡ shard.core = core-on told promised taken part back shard shard' into in
    let long : length ps ≡ length handed =
    sym (length-map ps slot_of) ∙ ap length x.parts ∙ length-map handed handed_of in
    record {
      shape_is = ap (λ (y : CoreView). y.shape) core ∙ x.shape_is;
      place = ap (λ (y : CoreView). y.shard) core ∙ x.place;
      begun = x.begun;
      ops = x.ops;
      requests = of_tasks-more request_in shape number events numbers n waits duty at
          ∙ append-nil (requests_in shape number events numbers) ∙ x.requests;
      served = subst (λ y. AreServed shard'.core x.begun y x.ops refused) (sym (asked-on told promised taken part back shard shard' into))
          (subst (λ y. AreServed y x.begun shard.asked.items x.ops refused) (sym core) x.served);
      passes = of_tasks-more scrub_in shape number events numbers n waits duty at
          ∙ append-nil (scrubs_in shape number events numbers) ∙ x.passes;
      parts = ap (λ y. map slot_of y) more
          ∙ map-append slot_of ps (p ∷ [])
          ∙ ap (λ y. y ++ (n, part.slot) ∷ []) x.parts
          ∙ sym (map-append handed_of handed (h ∷ []));
      comes = λ all.
          let told-all = tell-less before ps p (subst (NoneIsSilent before) more all) in
          subst (λ y. ComesFrom geometry number snapshot (taken_up before y (handed ++ h ∷ [])) x.ops shard') (sym more)
          (subst (λ y. ComesFrom geometry number snapshot y x.ops shard') (sym (taken_up-more before ps handed p h long))
          (part-on told promised geometry number snapshot (taken_up before ps handed) x.ops taken part back shard shard' p h refl refl refl refl
          (none-silent before ps handed told-all.0) into (x.comes told-all.0)));
    }

-- ---- what was due begins

-- requests begin
pub have-begun : {P : Type 0} {g : Ghosts P} (shape : Shape) (events : List Event) (geometry : Shape) (number : ℕ) (snapshot : Snapshot)
    (before : ℕ → ℕ → Option Telling) (numbers : List ℕ) (shard shard' : Shard P g) (refused refused' : List (ℕ × Refusal))
    (scrub : Option ScrubUnderWay) (passed : List ScrubDone) (handed : List Handed) (waits : ℕ) (begin : List ℕ) (ops : List Op) (due : List Due)
    → HandsOver begin ops shard refused shard' refused'
    → IsDone shape events geometry number snapshot before numbers shard refused scrub passed handed (all_due waits begin ops ++ due)
    → IsDone shape events geometry number snapshot before numbers shard' refused' scrub passed handed due
have-begun shape events geometry number snapshot before numbers shard shard' refused refused' scrub passed handed waits begin ops due h x =
    let askings = all_asking begin ops in
    record {
      shape_is = h.lasts.same.0 ∙ x.shape_is;
      place = h.lasts.same.1 ∙ x.place;
      begun = x.begun ++ askings;
      ops = x.ops ++ h.taken;
      requests = x.requests ∙ ap (λ y. x.begun ++ y) (requests-due waits begin ops due) ∙ sym (append_assoc x.begun askings (due_requests due));
      served = h.served x.begun x.ops x.served;
      passes = x.passes ∙ ap (λ y. map done_scrub passed ++ (under_way scrub ++ y)) (passes-due waits begin ops due);
      parts = x.parts;
      comes = λ tell device array lawful hold.
          h.course (start_of geometry number snapshot device array) x.ops (x.comes tell device array lawful hold);
    }

-- a check or repair begins
pub has-scrub : {P : Type 0} {g : Ghosts P} (shape : Shape) (events : List Event) (geometry : Shape) (number : ℕ) (snapshot : Snapshot)
    (before : ℕ → ℕ → Option Telling) (numbers : List ℕ) (shard : Shard P g) (refused : List (ℕ × Refusal))
    (passed : List ScrubDone) (handed : List Handed) (d : Due) (due : List Due) (p : ScrubUnderWay)
    → request_of d.event d.duty ≡ None → scrub_of d.event d.duty ≡ Some (p.event, p.task)
    → IsDone shape events geometry number snapshot before numbers shard refused None passed handed (d ∷ due)
    → IsDone shape events geometry number snapshot before numbers shard refused (Some p) passed handed due
has-scrub shape events geometry number snapshot before numbers shard refused passed handed d due p request pass x =
    record {
      shape_is = x.shape_is;
      place = x.place;
      begun = x.begun;
      ops = x.ops;
      requests = x.requests ∙ ap (λ o. x.begun ++ cons_option o (due_requests due)) request;
      served = x.served;
      passes = x.passes ∙ ap (λ o. map done_scrub passed ++ cons_option o (due_scrubs due)) pass;
      parts = x.parts;
      comes = x.comes;
    }

-- ---- what is under way goes on

-- it goes on
pub same-scrub : {P : Type 0} {g : Ghosts P} (shape : Shape) (events : List Event) (geometry : Shape) (number : ℕ) (snapshot : Snapshot)
    (before : ℕ → ℕ → Option Telling) (numbers : List ℕ) (shard : Shard P g) (refused : List (ℕ × Refusal))
    (scrub scrub' : ScrubUnderWay) (passed : List ScrubDone) (handed : List Handed) (due : List Due)
    → scrub'.event ≡ scrub.event → scrub'.task ≡ scrub.task
    → IsDone shape events geometry number snapshot before numbers shard refused (Some scrub) passed handed due
    → IsDone shape events geometry number snapshot before numbers shard refused (Some scrub') passed handed due
same-scrub shape events geometry number snapshot before numbers shard refused scrub scrub' passed handed due event task x =
    record {
      shape_is = x.shape_is;
      place = x.place;
      begun = x.begun;
      ops = x.ops;
      requests = x.requests;
      served = x.served;
      passes = x.passes
          ∙ ap (λ (k : ℕ). map done_scrub passed ++ (k, scrub.task) ∷ due_scrubs due) (sym event)
          ∙ ap (λ (k : Scrub). map done_scrub passed ++ (scrub'.event, k) ∷ due_scrubs due) (sym task);
      parts = x.parts;
      comes = x.comes;
    }

-- it is over
has-ended : {P : Type 0} {g : Ghosts P} (shape : Shape) (events : List Event) (geometry : Shape) (number : ℕ) (snapshot : Snapshot)
    (before : ℕ → ℕ → Option Telling) (numbers : List ℕ) (shard : Shard P g) (refused : List (ℕ × Refusal))
    (scrub : ScrubUnderWay) (passed : List ScrubDone) (last : ScrubDone) (handed : List Handed) (due : List Due)
    → last.event ≡ scrub.event → last.task ≡ scrub.task
    → IsDone shape events geometry number snapshot before numbers shard refused (Some scrub) passed handed due
    → IsDone shape events geometry number snapshot before numbers shard refused None (passed ++ last ∷ []) handed due
has-ended shape events geometry number snapshot before numbers shard refused scrub passed last handed due event task x =
    let A = map done_scrub passed in
    record {
      shape_is = x.shape_is;
      place = x.place;
      begun = x.begun;
      ops = x.ops;
      requests = x.requests;
      served = x.served;
      passes = x.passes
          ∙ ap (λ (k : ℕ). A ++ (k, scrub.task) ∷ due_scrubs due) (sym event)
          ∙ ap (λ (k : Scrub). A ++ (last.event, k) ∷ due_scrubs due) (sym task)
          ∙ sym (append_assoc A (done_scrub last ∷ []) (due_scrubs due))
          ∙ ap (λ y. y ++ due_scrubs due) (sym (map-append done_scrub passed (last ∷ [])));
      parts = x.parts;
      comes = x.comes;
    }

-- the shard goes on
pub has-gone : {P : Type 0} {g : Ghosts P} (shape : Shape) (events : List Event) (geometry : Shape) (number : ℕ) (snapshot : Snapshot)
    (before : ℕ → ℕ → Option Telling) (numbers : List ℕ) (shard shard' : Shard P g) (refused : List (ℕ × Refusal))
    (scrub : Option ScrubUnderWay) (passed : List ScrubDone) (handed : List Handed) (due : List Due)
    → shards.GoesOn shard shard' → Lasts shard.core shard'.core → shard'.asked.items ≡ shard.asked.items
    → IsDone shape events geometry number snapshot before numbers shard refused scrub passed handed due
    → IsDone shape events geometry number snapshot before numbers shard' refused scrub passed handed due
has-gone shape events geometry number snapshot before numbers shard shard' refused scrub passed handed due goes lasts asked x =
    record {
      shape_is = lasts.same.0 ∙ x.shape_is;
      place = lasts.same.1 ∙ x.place;
      begun = x.begun;
      ops = x.ops;
      requests = x.requests;
      served = subst (λ y. AreServed shard'.core x.begun y x.ops refused) (sym asked)
          (served-kept shard.core shard'.core x.begun shard.asked.items x.ops refused lasts x.served);
      passes = x.passes;
      parts = x.parts;
      comes = λ tell device array lawful hold.
          goes (start_of geometry number snapshot device array) x.ops (x.comes tell device array lawful hold);
    }

-- ---- at the start

pub is-first : {P : Type 0} {g : Ghosts P} (shape : Shape) (events : List Event) (geometry : Shape) (number : ℕ) (snapshot : Snapshot)
    (parts : P) (shard : Shard P g) → shard.parts ≡ parts → shard.asked.items ≡ []
    → shard.core.shape ≡ geometry → shard.core.shard ≡ number
    → shards.Begins geometry number snapshot shard
    → IsDone shape events geometry number snapshot (g.performer parts).tells [] shard [] None [] [] []
is-first {g = g} shape events geometry number snapshot parts shard same none shape_is place begins =
    record {
      shape_is = shape_is;
      place = place;
      begun = [];
      ops = [];
      requests = refl;
      served = (none, refl, refl);
      passes = refl;
      parts = refl;
      comes = λ tell.
          subst (λ y. ComesFrom geometry number snapshot (g.performer y).tells [] shard) same begins;
    }

-- ---- as calls do it

pub put-on : {P D : Type 0} {g : Ghosts P} (shape : Shape) (events : List Event) (geometry : Shape) (number : ℕ) (snapshot : Snapshot)
    (before : ℕ → ℕ → Option Telling) (numbers : List ℕ) (old new : Runner P D g)
    (d : Due) (n waits : ℕ) (duty : Duty) → task_at shape number events n ≡ Some (task n waits duty)
    → request_in n duty ≡ request_of d.event d.duty → scrub_in n duty ≡ scrub_of d.event d.duty → part_in n duty ≡ None
    → IsPut d old new
    → HasDone shape events geometry number snapshot before numbers old
    → HasDone shape events geometry number snapshot before (numbers ++ n ∷ []) new
put-on shape events geometry number snapshot before numbers old new d n waits duty at request pass part h x =
    is-like shape events geometry number snapshot before (numbers ++ n ∷ []) old.shard new.shard old.refused.items new.refused.items
    old.scrub new.scrub old.scrubs_done.items new.scrubs_done.items old.handed.items new.handed.items (old.due.items ++ d ∷ []) new.due.items
    h.shard h.refused h.scrub h.scrubs_done h.handed h.due_is
    (is-put shape events geometry number snapshot before numbers old.shard old.refused.items old.scrub old.scrubs_done.items old.handed.items
    old.due.items d n waits duty at request pass part x)

pub handed-on : {P D : Type 0} {g : Ghosts P} (told : D → Telling) (promised : D → Promise) (shape : Shape) (events : List Event) (geometry : Shape) (number : ℕ) (snapshot : Snapshot)
    (before : ℕ → ℕ → Option Telling) (numbers : List ℕ) (old new : Runner P D g) (n waits : ℕ) (part : Part D)
    → task_at shape number events n ≡ Some (task n waits (Takes_up part.slot (told part.device)))
    → IsHandedIn told promised n part old new
    → HasDone shape events geometry number snapshot before numbers old
    → HasDone shape events geometry number snapshot before (numbers ++ n ∷ []) new
handed-on told promised shape events geometry number snapshot before numbers old new n waits part at h x =
    let more : List Handed = old.handed.items ++ record { event = n; slot = part.slot; generation = part.generation; taken = h.taken } ∷ [] in
    is-like shape events geometry number snapshot before (numbers ++ n ∷ []) new.shard new.shard old.refused.items new.refused.items
    old.scrub new.scrub old.scrubs_done.items new.scrubs_done.items more new.handed.items old.due.items new.due.items
    refl h.refused h.scrub h.scrubs_done h.handed h.due
    (is-handed told promised shape events geometry number snapshot before numbers old.shard new.shard old.refused.items old.scrub old.scrubs_done.items
    old.handed.items old.due.items n waits part h.taken h.back at h.shard x)

-- the request that was due first, and others with it
pub served-on : {P D : Type 0} {g : Ghosts P} (shape : Shape) (events : List Event) (geometry : Shape) (number : ℕ) (snapshot : Snapshot)
    (before : ℕ → ℕ → Option Telling) (numbers : List ℕ) (old new : Runner P D g) (d : Due) (due : List Due) (op : Op) (others : List ℕ) (ops : List Op)
    → d.duty ≡ duties.Serve op → old.due.items ≡ d ∷ due → due ≡ all_due d.waits others ops ++ new.due.items
    → HandsOver (d.event ∷ others) (op ∷ ops) old.shard old.refused.items new.shard new.refused.items
    → new.scrub ≡ old.scrub → new.scrubs_done.items ≡ old.scrubs_done.items → new.handed.items ≡ old.handed.items
    → HasDone shape events geometry number snapshot before numbers old
    → HasDone shape events geometry number snapshot before numbers new
served-on shape events geometry number snapshot before numbers old new d due op others ops is first more hands e2 e3 e4 x =
    let all : old.due.items ≡ all_due d.waits (d.event ∷ others) (op ∷ ops) ++ new.due.items =
    first ∙ ap (λ (k : DueDuty). record { event = d.event; waits = d.waits; duty = k } ∷ due) is
    ∙ ap (λ (xs : List Due). record { event = d.event; waits = d.waits; duty = duties.Serve op } ∷ xs) more in
    is-like shape events geometry number snapshot before numbers new.shard new.shard new.refused.items new.refused.items
    old.scrub new.scrub old.scrubs_done.items new.scrubs_done.items old.handed.items new.handed.items new.due.items new.due.items refl refl e2 e3 e4 refl
    (have-begun shape events geometry number snapshot before numbers old.shard new.shard old.refused.items new.refused.items old.scrub
    old.scrubs_done.items old.handed.items d.waits (d.event ∷ others) (op ∷ ops) new.due.items hands
    (subst (λ y. IsDone shape events geometry number snapshot before numbers old.shard old.refused.items old.scrub old.scrubs_done.items old.handed.items y)
    all x))

-- a check or repair that was due began
pub scrub-on : {P D : Type 0} {g : Ghosts P} (shape : Shape) (events : List Event) (geometry : Shape) (number : ℕ) (snapshot : Snapshot)
    (before : ℕ → ℕ → Option Telling) (numbers : List ℕ) (old mid new : Runner P D g) (d : Due) (due : List Due) (task : Scrub)
    → request_of d.event d.duty ≡ None → scrub_of d.event d.duty ≡ Some (d.event, task) → BeginsScrub d.event task mid new
    → old.scrub ≡ None → mid.shard ≡ old.shard → mid.refused.items ≡ old.refused.items → mid.scrubs_done.items ≡ old.scrubs_done.items
    → mid.handed.items ≡ old.handed.items → mid.due.items ≡ due → old.due.items ≡ d ∷ due
    → HasDone shape events geometry number snapshot before numbers old
    → HasDone shape events geometry number snapshot before numbers new
scrub-on shape events geometry number snapshot before numbers old mid new d due task request pass h none e1 e2 e3 e4 e5 first x =
    is-like shape events geometry number snapshot before numbers old.shard new.shard old.refused.items new.refused.items
    (Some h.scrub) new.scrub old.scrubs_done.items new.scrubs_done.items old.handed.items new.handed.items due new.due.items
    (h.shard ∙ e1) (h.refused ∙ e2) h.under_way (h.scrubs_done ∙ e3) (h.handed ∙ e4) (h.due ∙ e5)
    (has-scrub shape events geometry number snapshot before numbers old.shard old.refused.items old.scrubs_done.items old.handed.items
    d due h.scrub request (pass ∙ (λ i. Some (sym h.event_is i, sym h.task_is i)))
    (subst (λ y. IsDone shape events geometry number snapshot before numbers old.shard old.refused.items y old.scrubs_done.items old.handed.items (d ∷ due))
    none
    (subst (λ y. IsDone shape events geometry number snapshot before numbers old.shard old.refused.items old.scrub old.scrubs_done.items old.handed.items y)
    first x)))

-- ---- one call after another

pub shard-on : {P D : Type 0} {g : Ghosts P} (a b c : Runner P D g) → ShardGoesOn a b → ShardGoesOn b c → ShardGoesOn a c
shard-on a b c x y =
    record {
      course = λ s ops h. y.course s ops (x.course s ops h);
      lasts = lasts_on a.shard.core b.shard.core c.shard.core x.lasts y.lasts;
      asked = y.asked ∙ x.asked;
      waits = y.waits ∙ x.waits;
      refused = y.refused ∙ x.refused;
      kept = record {
        due = y.kept.due ∙ x.kept.due;
        scrub = y.kept.scrub ∙ x.kept.scrub;
        scrubs_done = y.kept.scrubs_done ∙ x.kept.scrubs_done;
        handed = y.kept.handed ∙ x.kept.handed;
        others = y.kept.others ∙ x.kept.others;
        room = y.kept.room ∙ x.kept.room;
        rows = y.kept.rows ∙ x.kept.rows;
      };
    }

pub self-on : {P D : Type 0} {g : Ghosts P} (a b c : Runner P D g) → KeepsSelf a b → KeepsSelf b c → KeepsSelf a c
self-on a b c x y = record { pass = y.pass ∙ x.pass; place = y.place ∙ x.place; room = y.room ∙ x.room }

-- a check or repair goes on with the shard
pub gone-scrub : {P D : Type 0} {g : Ghosts P} (shape : Shape) (events : List Event) (geometry : Shape) (number : ℕ) (snapshot : Snapshot)
    (before : ℕ → ℕ → Option Telling) (numbers : List ℕ) (old mid : Runner P D g) (scrub scrub' : ScrubUnderWay)
    → old.scrub ≡ Some scrub → ShardGoesOn old mid → scrub'.event ≡ scrub.event → scrub'.task ≡ scrub.task
    → HasDone shape events geometry number snapshot before numbers old
    → IsDone shape events geometry number snapshot before numbers mid.shard mid.refused.items (Some scrub') mid.scrubs_done.items mid.handed.items
    mid.due.items
gone-scrub shape events geometry number snapshot before numbers old mid scrub scrub' is h event task x =
    same-scrub shape events geometry number snapshot before numbers mid.shard mid.refused.items scrub scrub' mid.scrubs_done.items
    mid.handed.items mid.due.items event task
    (is-like shape events geometry number snapshot before numbers mid.shard mid.shard old.refused.items mid.refused.items old.scrub (Some scrub)
    old.scrubs_done.items mid.scrubs_done.items old.handed.items mid.handed.items old.due.items mid.due.items refl
    h.refused (sym is) h.kept.scrubs_done h.kept.handed h.kept.due
    (has-gone shape events geometry number snapshot before numbers old.shard mid.shard old.refused.items old.scrub old.scrubs_done.items
    old.handed.items old.due.items h.course h.lasts h.asked x))

-- a check or repair is over
pub gone-over : {P D : Type 0} {g : Ghosts P} (shape : Shape) (events : List Event) (geometry : Shape) (number : ℕ) (snapshot : Snapshot)
    (before : ℕ → ℕ → Option Telling) (numbers : List ℕ) (old : Runner P D g) (scrub : ScrubUnderWay) (passed : List ScrubDone) (last : ScrubDone)
    → old.scrub ≡ Some scrub → passed ≡ old.scrubs_done.items ++ last ∷ [] → last.event ≡ scrub.event → last.task ≡ scrub.task
    → HasDone shape events geometry number snapshot before numbers old
    → IsDone shape events geometry number snapshot before numbers old.shard old.refused.items None passed old.handed.items old.due.items
gone-over shape events geometry number snapshot before numbers old scrub passed last is more event task x =
    subst (λ y. IsDone shape events geometry number snapshot before numbers old.shard old.refused.items None y old.handed.items old.due.items)
    (sym more)
    (has-ended shape events geometry number snapshot before numbers old.shard old.refused.items scrub old.scrubs_done.items last
    old.handed.items old.due.items event task
    (subst (λ y. IsDone shape events geometry number snapshot before numbers old.shard old.refused.items y old.scrubs_done.items old.handed.items old.due.items)
    is x))

-- of one shard, one taking behind another
pub goes-then : {P D : Type 0} {g : Ghosts P} (shape : Shape) (events : List Event) (number number' : ℕ) (a b c : List ℕ) (r s t : Runner P D g)
    → number' ≡ number → GoesOn shape events number a b r s → GoesOn shape events number' b c s t
    → GoesOn shape events number a c r t
goes-then shape events number number' a b c r s t same x y = λ geometry snapshot before h.
    subst (λ (n : ℕ). HasDone shape events geometry n snapshot before c t) same
    (y geometry snapshot before (subst (λ (n : ℕ). HasDone shape events geometry n snapshot before b s) (sym same)
    (x geometry snapshot before h)))
