-- What is known of tasks and their answers as both go on.
use Rattle.std.proofs.Common.{◌≡◌, ◌+◌, arith, List, [], ◌∷◌, ◌++◌, refl, sym, ap, subst}
use Rattle.r6_dev.specs.History.{Telling}
use Rattle.r6_dev.specs.Promises.{Promise}
use Rattle.r6_world.specs.declared.values.Command.{Command}
use Rattle.r6_exchange.specs.declared.task.ServedPart.{ServedPart}
use Rattle.r6_exchange.specs.declared.task.WorkerTask.{WorkerTask}
use Rattle.r6_exchange.specs.declared.task.WorkerTask.TheVariants.{Perform, TakeUp, End}
use Rattle.r6_exchange.specs.declared.completion.Completion.{Completion}
use Rattle.r6_exchange.specs.Answering.{State, IsAnswer, Answered, performed, taken_up, state_after, unanswered, parts_in}

IsNil : {A : Type 0} → List A → Type 0
IsNil [] = Unit {0}
IsNil (x ∷ xs) = ⊥

pub not-nil : {A : Type 0} (x : A) (xs : List A) → x ∷ xs ≡ [] → ⊥
unfolding IsNil
not-nil x xs e = subst IsNil (sym e) tt

module _ {D : Type 0} (told : D → Telling) (promised : D → Promise) where
  -- more tasks may come
  pub more-tasks : (state : State) (answers : List Completion) (tasks more : List (WorkerTask D)) → Answered told promised state answers tasks
      → Answered told promised state answers (tasks ++ more)
  more-tasks state [] tasks more x = x
  more-tasks state (a ∷ answers) [] more x = absurd x
  more-tasks state (a ∷ answers) (TakeUp served ∷ tasks) more x = more-tasks (taken_up told promised state served) (a ∷ answers) tasks more x
  more-tasks state (a ∷ answers) (End ∷ tasks) more x = more-tasks state (a ∷ answers) tasks more x
  more-tasks state (a ∷ answers) (Perform c ∷ tasks) more x = (x.0, more-tasks (performed state c a) answers tasks more x.1)

  -- a beginning of the answers answers too
  pub fewer-answers : (state : State) (answers more : List Completion) (tasks : List (WorkerTask D))
      → Answered told promised state (answers ++ more) tasks → Answered told promised state answers tasks
  fewer-answers state [] more tasks x = tt
  fewer-answers state (a ∷ answers) more [] x = absurd x
  fewer-answers state (a ∷ answers) more (TakeUp served ∷ tasks) x = fewer-answers (taken_up told promised state served) (a ∷ answers) more tasks x
  fewer-answers state (a ∷ answers) more (End ∷ tasks) x = fewer-answers state (a ∷ answers) more tasks x
  fewer-answers state (a ∷ answers) more (Perform c ∷ tasks) x = (x.0, fewer-answers (performed state c a) answers more tasks x.1)

  -- the command that is taken last is answered, once all before it are
  pub one-more : (state : State) (answers : List Completion) (tasks : List (WorkerTask D)) (c : Command) (a : Completion)
      → Answered told promised state answers tasks → unanswered tasks answers ≡ []
      → IsAnswer (state_after told promised state tasks answers) c a
      → Answered told promised state (answers ++ a ∷ []) (tasks ++ Perform c ∷ [])
  one-more state [] [] c a x none is = (is, x)
  one-more state [] (TakeUp served ∷ tasks) c a x none is = one-more (taken_up told promised state served) [] tasks c a x none is
  one-more state [] (End ∷ tasks) c a x none is = one-more state [] tasks c a x none is
  one-more state [] (Perform d ∷ tasks) c a x none is = absurd (not-nil d (unanswered tasks []) none)
  one-more state (b ∷ answers) [] c a x none is = absurd x
  one-more state (b ∷ answers) (TakeUp served ∷ tasks) c a x none is = one-more (taken_up told promised state served) (b ∷ answers) tasks c a x none is
  one-more state (b ∷ answers) (End ∷ tasks) c a x none is = one-more state (b ∷ answers) tasks c a x none is
  one-more state (b ∷ answers) (Perform d ∷ tasks) c a x none is = (x.0, one-more (performed state d b) answers tasks c a x.1 none is)

  pub state-performed : (state : State) (answers : List Completion) (tasks : List (WorkerTask D)) (c : Command) (a : Completion)
      → Answered told promised state answers tasks → unanswered tasks answers ≡ []
      → state_after told promised state (tasks ++ Perform c ∷ []) (answers ++ a ∷ []) ≡ performed (state_after told promised state tasks answers) c a
  state-performed state [] [] c a x none = refl
  state-performed state [] (TakeUp served ∷ tasks) c a x none = state-performed (taken_up told promised state served) [] tasks c a x none
  state-performed state [] (End ∷ tasks) c a x none = state-performed state [] tasks c a x none
  state-performed state [] (Perform d ∷ tasks) c a x none = absurd (not-nil d (unanswered tasks []) none)
  state-performed state (b ∷ answers) [] c a x none = absurd x
  state-performed state (b ∷ answers) (TakeUp served ∷ tasks) c a x none = state-performed (taken_up told promised state served) (b ∷ answers) tasks c a x none
  state-performed state (b ∷ answers) (End ∷ tasks) c a x none = state-performed state (b ∷ answers) tasks c a x none
  state-performed state (b ∷ answers) (Perform d ∷ tasks) c a x none = state-performed (performed state d b) answers tasks c a x.1 none

  pub state-taken-up : (state : State) (answers : List Completion) (tasks : List (WorkerTask D)) (served : ServedPart D)
      → state_after told promised state (tasks ++ TakeUp served ∷ []) answers ≡ taken_up told promised (state_after told promised state tasks answers) served
  state-taken-up state answers [] served = refl
  state-taken-up state answers (TakeUp first ∷ tasks) served = state-taken-up (taken_up told promised state first) answers tasks served
  state-taken-up state answers (End ∷ tasks) served = state-taken-up state answers tasks served
  state-taken-up state [] (Perform d ∷ tasks) served = state-taken-up state [] tasks served
  state-taken-up state (b ∷ answers) (Perform d ∷ tasks) served = state-taken-up (performed state d b) answers tasks served

  pub state-ended : (state : State) (answers : List Completion) (tasks : List (WorkerTask D))
      → state_after told promised state (tasks ++ End ∷ []) answers ≡ state_after told promised state tasks answers
  state-ended state answers [] = refl
  state-ended state answers (TakeUp first ∷ tasks) = state-ended (taken_up told promised state first) answers tasks
  state-ended state answers (End ∷ tasks) = state-ended state answers tasks
  state-ended state [] (Perform d ∷ tasks) = state-ended state [] tasks
  state-ended state (b ∷ answers) (Perform d ∷ tasks) = state-ended (performed state d b) answers tasks

module _ {D : Type 0} where
  pub unanswered-ended : (answers : List Completion) (tasks : List (WorkerTask D)) → unanswered (tasks ++ End ∷ []) answers ≡ unanswered tasks answers
  unanswered-ended answers [] = refl
  unanswered-ended answers (TakeUp first ∷ tasks) = unanswered-ended answers tasks
  unanswered-ended answers (End ∷ tasks) = unanswered-ended answers tasks
  unanswered-ended [] (Perform d ∷ tasks) = ap (λ y. d ∷ y) (unanswered-ended [] tasks)
  unanswered-ended (b ∷ answers) (Perform d ∷ tasks) = unanswered-ended answers tasks

  pub unanswered-performed : (told : D → Telling) (promised : D → Promise) (state : State) (answers : List Completion) (tasks : List (WorkerTask D)) (c : Command) (a : Completion)
      → Answered told promised state answers tasks → unanswered tasks answers ≡ []
      → unanswered (tasks ++ Perform c ∷ []) (answers ++ a ∷ []) ≡ []
  unanswered-performed told promised state [] [] c a x none = refl
  unanswered-performed told promised state [] (TakeUp served ∷ tasks) c a x none = unanswered-performed told promised (taken_up told promised state served) [] tasks c a x none
  unanswered-performed told promised state [] (End ∷ tasks) c a x none = unanswered-performed told promised state [] tasks c a x none
  unanswered-performed told promised state [] (Perform d ∷ tasks) c a x none = absurd (not-nil d (unanswered tasks []) none)
  unanswered-performed told promised state (b ∷ answers) [] c a x none = absurd x
  unanswered-performed told promised state (b ∷ answers) (TakeUp served ∷ tasks) c a x none = unanswered-performed told promised (taken_up told promised state served) (b ∷ answers) tasks c a x none
  unanswered-performed told promised state (b ∷ answers) (End ∷ tasks) c a x none = unanswered-performed told promised state (b ∷ answers) tasks c a x none
  unanswered-performed told promised state (b ∷ answers) (Perform d ∷ tasks) c a x none = unanswered-performed told promised (performed state d b) answers tasks c a x.1 none

  pub unanswered-taken-up : (answers : List Completion) (tasks : List (WorkerTask D)) (served : ServedPart D)
      → unanswered (tasks ++ TakeUp served ∷ []) answers ≡ unanswered tasks answers
  unanswered-taken-up answers [] served = refl
  unanswered-taken-up answers (TakeUp first ∷ tasks) served = unanswered-taken-up answers tasks served
  unanswered-taken-up answers (End ∷ tasks) served = unanswered-taken-up answers tasks served
  unanswered-taken-up [] (Perform d ∷ tasks) served = ap (λ y. d ∷ y) (unanswered-taken-up [] tasks served)
  unanswered-taken-up (b ∷ answers) (Perform d ∷ tasks) served = unanswered-taken-up answers tasks served

  pub parts-more : (tasks more : List (WorkerTask D)) → parts_in (tasks ++ more) ≡ parts_in tasks + parts_in more
  parts-more [] more = omega arith
  parts-more (TakeUp served ∷ tasks) more = omega (arith, parts-more tasks more)
  parts-more (End ∷ tasks) more = omega (arith, parts-more tasks more)
  parts-more (Perform c ∷ tasks) more = parts-more tasks more
