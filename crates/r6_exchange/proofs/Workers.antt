-- A worker goes on by one task.
use Rattle.std.proofs.Common.{◌≡◌, ◌≤◌, ◌+◌, arith, List, [], ◌∷◌, ◌++◌, length, vec_capacity, refl, sym, ap, subst, ◌∙◌, IsPermutation}
use Rattle.r6_dev.specs.History.{Telling}
use Rattle.r6_dev.specs.Promises.{Promise}
use Rattle.r6_world.specs.declared.values.Command.{Command}
use Rattle.r6_exchange.specs.declared.task.ServedPart.{ServedPart}
use Rattle.r6_exchange.specs.declared.task.WorkerTask.TheVariants.{Perform, TakeUp, End}
use Rattle.r6_exchange.specs.declared.completion.Completion.{Completion}
use Rattle.r6_exchange.specs.declared.pass.WorkerPass.{WorkerPass}
use Rattle.r6_exchange.specs.declared.exchange.Exchange.{Exchange}
use Rattle.r6_exchange.specs.declared.worker.Worker.{Worker}
use Rattle.r6_exchange.specs.Answering.{State, nothing, Answered, state_after, unanswered, parts_in, label_of, labels_of}
use Rattle.r6_exchange.specs.Exchanges.{IsWorkerPass, taken_by, given_by, room_of}
use Rattle.r6_exchange.specs.Parts.{part_in, Holds, Does, TakesUp}
use Rattle.r6_exchange.specs.Workers.{IsWorker}
use Rattle.r6_exchange.proofs.Answering.{one-more, state-performed, state-taken-up, state-ended, unanswered-performed, unanswered-taken-up, unanswered-ended, parts-more}
use Rattle.r6_exchange.proofs.Labels.{as-many, labels-kept, labels-added}

module _ {D : Type 0} (told : D → Telling) (promised : D → Promise) (ex : Exchange D) where
  known-by : WorkerPass D → State
  known-by p = state_after told promised nothing (taken_by p) (given_by p)

  -- the completion of the command that was taken last is honest
  pub honest-answer : (w : Worker D) (p : WorkerPass D) (c : Command) (a : Completion) (parts' : List (ServedPart D)) → IsWorker told promised ex w
      → taken_by p ≡ taken_by w.pass ++ Perform c ∷ [] → given_by p ≡ given_by w.pass
      → Does told promised c a w.parts.items parts' → Answered told promised nothing (given_by p ++ a ∷ []) (taken_by p)
  honest-answer w p c a parts' x taken given does =
      let is = (does (state_after told promised nothing (taken_by w.pass) (given_by w.pass)) x.holds).0 in
      subst (λ ts. Answered told promised nothing (given_by p ++ a ∷ []) ts) (sym taken)
      (subst (λ ys. Answered told promised nothing (ys ++ a ∷ []) (taken_by w.pass ++ Perform c ∷ [])) (sym given)
      (one-more told promised nothing (given_by w.pass) (taken_by w.pass) c a x.pass.honest x.none_owed is))

  pub worker-performed : (w w' : Worker D) (c : Command) (a : Completion) → IsWorker told promised ex w → IsWorkerPass told promised ex w'.pass
      → taken_by w'.pass ≡ taken_by w.pass ++ Perform c ∷ [] → given_by w'.pass ≡ given_by w.pass ++ a ∷ []
      → room_of w'.pass ≡ room_of w.pass
      → Does told promised c a w.parts.items w'.parts.items → labels_of w'.parts.items ≡ labels_of w.parts.items
      → vec_capacity w'.parts ≡ vec_capacity w.parts → w'.replaced ≡ w.replaced
      → IsWorker told promised ex w'
  worker-performed w w' c a x pass taken given room does same capacity replaced =
      let before = taken_by w.pass in
      let answers = given_by w.pass in
      let did = does (state_after told promised nothing before answers) x.holds in
      let room-was = x.parts_room in
      let room-was' = x.replaced_room in
      record {
        pass = pass;
        none_owed = ap (λ ts. unanswered ts (given_by w'.pass)) taken ∙ ap (unanswered (before ++ Perform c ∷ [])) given
            ∙ unanswered-performed told promised nothing answers before c a x.pass.honest x.none_owed;
        holds = subst (λ s. Holds s (part_in told promised w'.parts.items))
            (sym (ap (λ ts. state_after told promised nothing ts (given_by w'.pass)) taken ∙ ap (state_after told promised nothing (before ++ Perform c ∷ [])) given
            ∙ state-performed told promised nothing answers before c a x.pass.honest x.none_owed)) did.1;
        labels = labels-kept before (Perform c) (taken_by w'.pass) w.parts.items w'.parts.items w.replaced.items w'.replaced.items refl taken same
            (ap (λ v. v.items) replaced) x.labels;
        parts_room = omega arith;
        replaced_room = let same' : vec_capacity w'.replaced ≡ vec_capacity w.replaced = ap vec_capacity replaced in omega arith;
      }

  pub worker-took-up : (w w' : Worker D) (served : ServedPart D) → IsWorker told promised ex w → IsWorkerPass told promised ex w'.pass
      → taken_by w'.pass ≡ taken_by w.pass ++ TakeUp served ∷ [] → given_by w'.pass ≡ given_by w.pass
      → room_of w'.pass ≡ room_of w.pass
      → TakesUp told promised served w.parts.items w'.parts.items
      → IsPermutation ((labels_of w.parts.items ++ labels_of w.replaced.items) ++ label_of served ∷ []) (labels_of w'.parts.items ++ labels_of w'.replaced.items)
      → vec_capacity w'.parts ≡ vec_capacity w.parts → vec_capacity w'.replaced ≡ vec_capacity w.replaced
      → IsWorker told promised ex w'
  worker-took-up w w' served x pass taken given room takes labels capacity capacity' =
      let before = taken_by w.pass in
      let answers = given_by w.pass in
      let room-was = x.parts_room in
      let room-was' = x.replaced_room in
      record {
        pass = pass;
        none_owed = ap (λ ts. unanswered ts (given_by w'.pass)) taken ∙ ap (unanswered (before ++ TakeUp served ∷ [])) given
            ∙ unanswered-taken-up answers before served ∙ x.none_owed;
        holds = subst (λ s. Holds s (part_in told promised w'.parts.items))
            (sym (ap (λ ts. state_after told promised nothing ts (given_by w'.pass)) taken ∙ ap (state_after told promised nothing (before ++ TakeUp served ∷ [])) given
            ∙ state-taken-up told promised nothing answers before served)) (takes (state_after told promised nothing before answers) x.holds);
        labels = labels-added before served (taken_by w'.pass) (labels_of w.parts.items ++ labels_of w.replaced.items)
            (labels_of w'.parts.items ++ labels_of w'.replaced.items) taken x.labels labels;
        parts_room = omega arith;
        replaced_room = omega arith;
      }

  -- there is room for the part that was taken last
  pub room-there : (w : Worker D) (p : WorkerPass D) (served : ServedPart D) → IsWorker told promised ex w → IsWorkerPass told promised ex p
      → taken_by p ≡ taken_by w.pass ++ TakeUp served ∷ [] → room_of p ≡ room_of w.pass
      → (length w.parts.items + 1 ≤ vec_capacity w.parts) × (length w.replaced.items + 1 ≤ vec_capacity w.replaced)
  room-there w p served x pass taken room =
      let few = as-many (taken_by w.pass) w.parts.items w.replaced.items x.labels in
      let room-was = x.parts_room in
      let room-was' = x.replaced_room in
      let most = pass.room in
      let same : parts_in (taken_by p) ≡ parts_in (taken_by w.pass) + (1 + 0) = ap parts_in taken ∙ parts-more (taken_by w.pass) (TakeUp served ∷ []) in
      (omega arith, omega arith)

  pub worker-ended : (w w' : Worker D) → IsWorker told promised ex w → IsWorkerPass told promised ex w'.pass
      → taken_by w'.pass ≡ taken_by w.pass ++ End ∷ [] → given_by w'.pass ≡ given_by w.pass → room_of w'.pass ≡ room_of w.pass
      → w'.parts ≡ w.parts → w'.replaced ≡ w.replaced → IsWorker told promised ex w'
  worker-ended w w' x pass taken given room parts replaced =
      let before = taken_by w.pass in
      let answers = given_by w.pass in
      let room-was = x.parts_room in
      let room-was' = x.replaced_room in
      let capacity : vec_capacity w'.parts ≡ vec_capacity w.parts = ap vec_capacity parts in
      let capacity' : vec_capacity w'.replaced ≡ vec_capacity w.replaced = ap vec_capacity replaced in
      record {
        pass = pass;
        none_owed = ap (λ ts. unanswered ts (given_by w'.pass)) taken ∙ ap (unanswered (before ++ End ∷ [])) given
            ∙ unanswered-ended answers before ∙ x.none_owed;
        holds = subst (λ s. Holds s (part_in told promised w'.parts.items))
            (sym (ap (λ ts. state_after told promised nothing ts (given_by w'.pass)) taken ∙ ap (state_after told promised nothing (before ++ End ∷ [])) given
            ∙ state-ended told promised nothing answers before))
            (subst (λ v. Holds (state_after told promised nothing before answers) (part_in told promised v.items)) (sym parts) x.holds);
        labels = labels-kept before End (taken_by w'.pass) w.parts.items w'.parts.items w.replaced.items w'.replaced.items refl taken
            (ap (λ v. labels_of v.items) parts) (ap (λ v. v.items) replaced) x.labels;
        parts_room = omega arith;
        replaced_room = omega arith;
      }
