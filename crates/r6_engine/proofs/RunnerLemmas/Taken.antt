-- What else stays where what came by the list is taken up.
use Rattle.std.proofs.Common.{◌≡◌, ℕ, ◌+◌, ◌∷◌, [], List, length, true, false, Bool, sym, ap, subst, ◌∙◌, arith, Option, None}
use Rattle.std.specs.Prelude.{option_to_list}
use Rattle.std.proofs.lemmas.List.{length-append}
use Rattle.r6_dev.specs.History.{Telling}
use Rattle.r6_dev.specs.Promises.{Promise}
use Rattle.r6_core.specs.Shards.{CoreView}
use Rattle.r6_core.specs.declared.turn.Task.{Task}
use Rattle.r6_world.specs.declared.values.Op.{Op}
use Rattle.r6_exchange.specs.declared.task.Part.{Part}
use Rattle.r6_shard.specs.declared.shard.Shard.{Shard}
use Rattle.r6_shard.specs.Handing.{HandsIn}
use Rattle.r6_shard.specs.Whole.{IsClean}
use Rattle.r6_shard.specs.declared.performs.Performs.{Ghosts}
use Rattle.r6_engine.specs.declared.runner.due.Due.{Due}
use Rattle.r6_engine.specs.declared.runner.scrub.ScrubUnderWay.{ScrubUnderWay}
use Rattle.r6_engine.specs.declared.runner.scrub.ScrubDone.{ScrubDone}
use Rattle.r6_engine.specs.declared.runner.runner.Handed.{Handed}
use Rattle.r6_engine.specs.declared.runner.runner.Runner.{Runner}
use Rattle.r6_engine.specs.runner.Counted.{IsCounting, KeepsCounted}
use Rattle.r6_engine.specs.runner.Runners.{IsPartTaken, BeginsScrub, IsPut, IsHandedIn, KeepsSelf, taken_by}
use Rattle.r6_engine.specs.runner.Together.{ServesTogether, all_due}
use Rattle.r6_engine.proofs.RunnerLemmas.Done.{asked-on, core-on}
use Rattle.r6_engine.proofs.RunnerLemmas.Together.{as-many-due}

counted-alike : {P D : Type 0} {g : Ghosts P} (old new : Runner P D g) → new.shard.core ≡ old.shard.core → new.scrub ≡ old.scrub
    → new.scrubs_done.items ≡ old.scrubs_done.items → new.rows ≡ old.rows → KeepsCounted old new
counted-alike old new core scrub passed own rows x = (
  own ∙ x.0,
  x.1,
  x.2,
  subst (λ (y : CoreView). IsCounting rows x.1 x.2 y new.scrub new.scrubs_done.items) (sym core)
      (subst (λ (y : Option ScrubUnderWay). IsCounting rows x.1 x.2 old.shard.core y new.scrubs_done.items) (sym scrub)
      (subst (λ (y : List ScrubDone). IsCounting rows x.1 x.2 old.shard.core old.scrub y) (sym passed) x.3)),
)

-- ---- one task more is due

pub put-counted : {P D : Type 0} {g : Ghosts P} (old new : Runner P D g) (d : Due) → IsPut d old new → KeepsCounted old new
put-counted old new d h = counted-alike old new (ap (λ (y : Shard _ _). y.core) h.shard) h.scrub h.scrubs_done h.rows

pub put-self : {P D : Type 0} {g : Ghosts P} (old new : Runner P D g) (d : Due) → IsPut d old new → KeepsSelf old new
put-self old new d h = record {
  pass = ap (λ (y : Shard _ _). y.pass) h.shard;
  place = ap (λ (y : Shard _ _). y.core.shard) h.shard;
  room = h.room;
}

pub put-count : {P D : Type 0} {g : Ghosts P} (old new : Runner P D g) (d : Due) → IsPut d old new → taken_by new ≡ taken_by old + 1
put-count old new d h =
    let due = ap length h.due_is ∙ length-append old.due.items (d ∷ []) in
    let refused = ap length h.refused in
    let asked = ap (λ (y : Shard _ _). length y.asked.items) h.shard in
    let scrub = ap (λ (y : Option ScrubUnderWay). length (option_to_list y)) h.scrub in
    let passed = ap length h.scrubs_done in
    let handed = ap length h.handed in omega (arith, due, refused, asked, scrub, passed, handed)

-- ---- a part came

pass-on : {P D : Type 0} {g : Ghosts P} (told : D → Telling) (promised : D → Promise) (taken : Bool) (part : Part D) (back : List (Part D)) (old new : Shard P g)
    → IsPartTaken taken told promised part back old new → new.pass ≡ old.pass
pass-on told promised true part back old new taken = taken.1.pass
pass-on told promised false part back old new same = ap (λ (y : Shard _ _). y.pass) same.0

-- what stays of a shard to which a part is handed in, taken or not
pub record KeepsRest {P : Type 0} {g : Ghosts P} (old new : Shard P g) : Type 0 where
  pub named : new.named ≡ old.named
  pub saw_out : new.saw_out ≡ old.saw_out
  pub asked : new.asked.items ≡ old.asked.items
  pub room : new.room ≡ old.room

pub keeps-rest : {P D : Type 0} {g : Ghosts P} (told : D → Telling) (promised : D → Promise) (part : Part D) (earlier : Option (Part D)) (old new : Shard P g)
    → HandsIn told promised part earlier old new → KeepsRest old new
keeps-rest told promised part earlier old new h = record { named = h.named; saw_out = h.saw_out; asked = h.ledger.asked; room = h.ledger.room }

pub keeps-same : {P : Type 0} {g : Ghosts P} (old new : Shard P g) → new ≡ old → KeepsRest old new
keeps-same old new same = record {
  named = ap (λ (y : Shard _ _). y.named) same;
  saw_out = ap (λ (y : Shard _ _). y.saw_out) same;
  asked = ap (λ (y : Shard _ _). y.asked.items) same;
  room = ap (λ (y : Shard _ _). y.room) same;
}

pub was-clean : {P : Type 0} {g : Ghosts P} (old new : Shard P g) → KeepsRest old new → IsClean new.named new.saw_out → IsClean old.named old.saw_out
was-clean old new kept clean =
    subst (λ (y : List Bool). IsClean y old.saw_out) kept.named (subst (λ (y : Bool). IsClean new.named y) kept.saw_out clean)

pub handed-counted : {P D : Type 0} {g : Ghosts P} (told : D → Telling) (promised : D → Promise) (old new : Runner P D g) (number : ℕ) (part : Part D) → IsHandedIn told promised number part old new
    → KeepsCounted old new
handed-counted told promised old new number part h =
    counted-alike old new (core-on told promised h.taken part h.back old.shard new.shard h.shard) h.scrub h.scrubs_done h.rows

pub handed-self : {P D : Type 0} {g : Ghosts P} (told : D → Telling) (promised : D → Promise) (old new : Runner P D g) (number : ℕ) (part : Part D) → IsHandedIn told promised number part old new
    → KeepsSelf old new
handed-self told promised old new number part h = record {
  pass = pass-on told promised h.taken part h.back old.shard new.shard h.shard;
  place = ap (λ (y : CoreView). y.shard) (core-on told promised h.taken part h.back old.shard new.shard h.shard);
  room = h.room;
}

pub handed-count : {P D : Type 0} {g : Ghosts P} (told : D → Telling) (promised : D → Promise) (old new : Runner P D g) (number : ℕ) (part : Part D) → IsHandedIn told promised number part old new
    → taken_by new ≡ taken_by old + 1
handed-count told promised old new number part h =
    let more : Handed = record { event = number; slot = part.slot; generation = part.generation; taken = h.taken } in
    let handed = ap length h.handed ∙ length-append old.handed.items (more ∷ []) in
    let refused = ap length h.refused in
    let asked = ap length (asked-on told promised h.taken part h.back old.shard new.shard h.shard) in
    let scrub = ap (λ (y : Option ScrubUnderWay). length (option_to_list y)) h.scrub in
    let passed = ap length h.scrubs_done in
    let due = ap length h.due in omega (arith, due, refused, asked, scrub, passed, handed)

-- ---- requests were handed in

pub served-self : {P D : Type 0} {g : Ghosts P} (event waits : ℕ) (op : Op) (old new : Runner P D g) → ServesTogether event waits op old new → KeepsSelf old new
served-self event waits op old new h = record { pass = h.hands.pass; place = h.hands.lasts.same.1; room = h.room }

pub served-count : {P D : Type 0} {g : Ghosts P} (event waits : ℕ) (op : Op) (old new : Runner P D g) → ServesTogether event waits op old new
    → taken_by new ≡ taken_by old + 1
served-count event waits op old new h =
    let asked = ap length h.hands.asked_is ∙ length-append old.shard.asked.items h.hands.asked in
    let refused = ap length h.hands.refused_is ∙ length-append old.refused.items h.hands.others in
    let count = h.hands.count in
    let due = ap length h.due ∙ length-append (all_due waits h.events h.ops) new.due.items in
    let many = as-many-due waits h.events h.ops h.numbered in
    let scrub = ap (λ (y : Option ScrubUnderWay). length (option_to_list y)) h.scrub in
    let passed = ap length h.scrubs_done in
    let handed = ap length h.handed in omega (arith, asked, refused, count, due, many, scrub, passed, handed)

-- ---- a check or repair began

pub scrub-self : {P D : Type 0} {g : Ghosts P} (event : ℕ) (task : Task) (old new : Runner P D g) → BeginsScrub event task old new → KeepsSelf old new
scrub-self event task old new h = record {
  pass = ap (λ (y : Shard _ _). y.pass) h.shard;
  place = ap (λ (y : Shard _ _). y.core.shard) h.shard;
  room = h.room;
}

pub scrub-count : {P D : Type 0} {g : Ghosts P} (event : ℕ) (task : Task) (old new : Runner P D g) → BeginsScrub event task old new → old.scrub ≡ None
    → taken_by new ≡ taken_by old + 1
scrub-count event task old new h none =
    let before = ap (λ (y : Option ScrubUnderWay). length (option_to_list y)) none in
    let scrub = ap (λ (y : Option ScrubUnderWay). length (option_to_list y)) h.under_way in
    let refused = ap length h.refused in
    let asked = ap (λ (y : Shard _ _). length y.asked.items) h.shard in
    let passed = ap length h.scrubs_done in
    let handed = ap length h.handed in
    let due = ap length h.due in omega (arith, before, scrub, refused, asked, passed, handed, due)
