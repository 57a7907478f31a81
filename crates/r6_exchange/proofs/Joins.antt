-- What follows at the join of both threads.
use Rattle.std.proofs.Common.{◌≡◌, ℕ, List, [], ◌∷◌, ◌++◌, sym, ap, subst, ◌∙◌, append-nil, append_assoc}
use Rattle.r6_dev.specs.History.{Telling}
use Rattle.r6_dev.specs.Promises.{Promise}
use Rattle.r6_world.specs.declared.values.Command.{Command}
use Rattle.r6_exchange.specs.Deliveries.{HasRoom}
use Rattle.r6_exchange.specs.declared.task.ServedPart.{ServedPart}
use Rattle.r6_exchange.specs.declared.task.WorkerTask.{WorkerTask}
use Rattle.r6_exchange.specs.declared.task.WorkerTask.TheVariants.{Perform, TakeUp, End}
use Rattle.r6_exchange.specs.declared.completion.Completion.{Completion}
use Rattle.r6_exchange.specs.Answering.{State, nothing, Answered, performed, taken_up, state_after}
use Rattle.r6_queues.specs.Queues.{StartsWith}
use Rattle.r6_exchange.specs.Parts.{Holds, part_in}
use Rattle.r6_exchange.specs.Joins.{HasNoEnd, JoinLaw}
use Rattle.r6_exchange.proofs.Next.{all_received_law}
use Rattle.r6_exchange.proofs.Answering.{state-ended}
use Rattle.r6_exchange.proofs.Deliveries.{room-perform, head-or, tail-of, nothing-after}

IsEnd : {D : Type 0} → WorkerTask D → Type 0
IsEnd (Perform c) = ⊥
IsEnd (TakeUp served) = ⊥
IsEnd End = Unit {0}

-- one more command brings no part and no end
no-end-more : {D : Type 0} (ts : List (WorkerTask D)) (c : Command) → HasNoEnd ts → HasNoEnd (ts ++ Perform c ∷ [])
no-end-more [] c x = tt
no-end-more (Perform d ∷ ts) c x = no-end-more ts c x
no-end-more (TakeUp served ∷ ts) c x = no-end-more ts c x
no-end-more (End ∷ ts) c x = absurd x

pub commands-more : {D : Type 0} (room : ℕ) (ts new : List (WorkerTask D)) (c : Command) → new ≡ ts ++ Perform c ∷ []
    → HasRoom room ts × HasNoEnd ts → HasRoom room new × HasNoEnd new
commands-more room ts new c is x =
    subst (λ y. HasRoom room y × HasNoEnd y) (sym is) (room-perform room ts c x.0, no-end-more ts c x.1)

-- the task that ends stands only at the end
first-no-end : {D : Type 0} (t : WorkerTask D) (ts : List (WorkerTask D)) → HasNoEnd (t ∷ ts) → (End ≡ t → ⊥) × HasNoEnd ts
unfolding IsEnd
first-no-end (Perform c) ts x = ((λ e. subst IsEnd e tt), x)
first-no-end (TakeUp served) ts x = ((λ e. subst IsEnd e tt), x)
first-no-end End ts x = absurd x

all-taken : {D : Type 0} (tasks front rest : List (WorkerTask D)) → HasNoEnd tasks → tasks ++ End ∷ [] ≡ (front ++ End ∷ []) ++ rest → rest ≡ []
all-taken [] [] rest x e = sym (ap tail-of e)
all-taken [] (f ∷ front) rest x e =
    absurd (nothing-after front End rest (sym (ap tail-of e ∙ append_assoc front (End ∷ []) rest)))
all-taken (t ∷ tasks) [] rest x e = absurd ((first-no-end t tasks x).0 (sym (ap (head-or t) e)))
all-taken (t ∷ tasks) (f ∷ front) rest x e = all-taken tasks front rest (first-no-end t tasks x).1 (ap tail-of e)

-- the worker took all that the shard sent
pub took-all : {D : Type 0} (tasks taken front : List (WorkerTask D)) → HasNoEnd tasks → StartsWith (tasks ++ End ∷ []) taken → taken ≡ front ++ End ∷ []
    → taken ≡ tasks ++ End ∷ []
took-all tasks taken front x starts is =
    let none = all-taken tasks front starts.0 x (starts.1 ∙ ap (λ y. y ++ starts.0) is) in
    sym (starts.1 ∙ ap (λ y. taken ++ y) none ∙ append-nil taken)

-- what answers all tasks answers those before the end
module _ {D : Type 0} (told : D → Telling) (promised : D → Promise) where
  before-end : (state : State) (answers : List Completion) (tasks : List (WorkerTask D)) → Answered told promised state answers (tasks ++ End ∷ []) → Answered told promised state answers tasks
  before-end state [] tasks x = tt
  before-end state (a ∷ answers) [] x = absurd x
  before-end state (a ∷ answers) (TakeUp served ∷ tasks) x = before-end (taken_up told promised state served) (a ∷ answers) tasks x
  before-end state (a ∷ answers) (End ∷ tasks) x = before-end state (a ∷ answers) tasks x
  before-end state (a ∷ answers) (Perform c ∷ tasks) x = (x.0, before-end (performed state c a) answers tasks x.1)

  pub honest-met : (tasks sent : List (WorkerTask D)) (answers received : List Completion) → sent ≡ tasks ++ End ∷ [] → received ≡ answers
      → Answered told promised nothing received sent → Answered told promised nothing answers tasks
  honest-met tasks sent answers received is is' x =
      before-end nothing answers tasks (subst (Answered told promised nothing answers) is (subst (λ y. Answered told promised nothing y sent) is' x))

  pub held-met : (tasks sent taken front : List (WorkerTask D)) (answers received given : List Completion) (parts : List (ServedPart D)) → HasNoEnd tasks
      → sent ≡ tasks ++ End ∷ [] → received ≡ answers → StartsWith sent taken → StartsWith given received → taken ≡ front ++ End ∷ []
      → Answered told promised nothing given taken → Holds (state_after told promised nothing taken given) (part_in told promised parts)
      → (given : List Completion) × StartsWith given answers × Answered told promised nothing given tasks
      × Holds (state_after told promised nothing tasks given) (part_in told promised parts)
  held-met tasks sent taken front answers received given parts x is is' starts starts' over honest holds =
      let all : taken ≡ tasks ++ End ∷ [] = took-all tasks taken front x (subst (λ y. StartsWith y taken) is starts) over in (
        given,
        subst (StartsWith given) is' starts',
        before-end nothing given tasks (subst (Answered told promised nothing given) all honest),
        subst (λ y. Holds y (part_in told promised parts)) (state-ended told promised nothing given tasks)
            (subst (λ y. Holds (state_after told promised nothing y given) (part_in told promised parts)) all holds),
      )

  pub join_law : JoinLaw told promised
  join_law tasks taken front given received parts x starts starts' over honest holds none =
      let sent = tasks ++ End ∷ [] in
      let all : taken ≡ sent = took-all tasks taken front x starts over in
      let more : starts'.0 ≡ [] =
      all_received_law told promised received starts'.0 sent (subst (λ y. Answered told promised nothing y sent) starts'.1 (subst (Answered told promised nothing given) all honest)) none in
      let same : given ≡ received = starts'.1 ∙ ap (λ y. received ++ y) more ∙ append-nil received in
      record {
        took_all = all;
        received_all = same;
        holds = subst (λ y. Holds (state_after told promised nothing sent y) (part_in told promised parts)) same
            (subst (λ y. Holds (state_after told promised nothing y given) (part_in told promised parts)) all holds);
      }
