-- What a shard knows as one more completion comes.
use Rattle.std.specs.Prelude.{◌≡◌, ◌==◌, ◌&&◌, false, List, [], ◌∷◌, ◌++◌}
use Rattle.r6_dev.specs.History.{Telling}
use Rattle.r6_dev.specs.Promises.{Promise}
use Rattle.r6_world.specs.declared.values.Command.{Command}
use Rattle.r6_exchange.specs.declared.task.ServedPart.{ServedPart}
use Rattle.r6_exchange.specs.declared.task.WorkerTask.{WorkerTask}
use Rattle.r6_exchange.specs.declared.task.WorkerTask.TheVariants.{Perform, TakeUp, End}
use Rattle.r6_exchange.specs.declared.completion.Completion.{Completion}
use Rattle.r6_exchange.specs.Answering.{Answered, nothing, IsAnswer, performed, state_after, unanswered}

-- none of these tasks takes up a part of the command's device
abbrev pub NotRenewed : {D : Type 0} → Command → List (WorkerTask D) → Type 0
NotRenewed c [] = Unit {0}
NotRenewed c (TakeUp served ∷ tasks) =
    (((c.slot == served.part.slot) && (c.generation == served.part.generation)) ≡ false) × NotRenewed c tasks
NotRenewed c (End ∷ tasks) = NotRenewed c tasks
NotRenewed c (Perform d ∷ tasks) = NotRenewed c tasks

-- no part was sent while a command to its device was unanswered
abbrev pub NoneRenewed : {D : Type 0} → List (WorkerTask D) → List Completion → Type 0
NoneRenewed [] answers = Unit {0}
NoneRenewed (TakeUp served ∷ tasks) answers = NoneRenewed tasks answers
NoneRenewed (End ∷ tasks) answers = NoneRenewed tasks answers
NoneRenewed (Perform c ∷ tasks) [] = NotRenewed c tasks × NoneRenewed tasks []
NoneRenewed (Perform c ∷ tasks) (a ∷ answers) = NoneRenewed tasks answers

-- The completion is that of the command that has been unanswered longest. It is as its part may answer by what is known
-- of the parts so far, and from then on what follows from it is known of them
pub record IsNext {D : Type 0} (told : D → Telling) (promised : D → Promise) (tasks : List (WorkerTask D))
    (answers : List Completion) (a : Completion) : Type 0 where
  pub command : Command
  pub oldest : unanswered tasks answers ≡ command ∷ unanswered tasks (answers ++ a ∷ [])
  pub answer : IsAnswer (state_after told promised nothing tasks answers) command a
  pub known : state_after told promised nothing tasks (answers ++ a ∷ [])
      ≡ performed (state_after told promised nothing tasks answers) command a

abbrev pub NextLaw : {D : Type 0} → (D → Telling) → (D → Promise) → Type 0
NextLaw {D = D} told promised =
    (answers : List Completion) (a : Completion) (tasks : List (WorkerTask D))
    → Answered told promised nothing (answers ++ a ∷ []) tasks → NoneRenewed tasks answers → IsNext told promised tasks answers a

-- where no command is unanswered, no completion is to come
abbrev pub AllReceivedLaw : {D : Type 0} → (D → Telling) → (D → Promise) → Type 0
AllReceivedLaw {D = D} told promised =
    (received more : List Completion) (tasks : List (WorkerTask D))
    → Answered told promised nothing (received ++ more) tasks → unanswered tasks received ≡ [] → more ≡ []

-- none of these commands is for the part's device
abbrev pub AreApart : {D : Type 0} → List Command → ServedPart D → Type 0
AreApart [] served = Unit {0}
AreApart (c ∷ commands) served =
    (((c.slot == served.part.slot) && (c.generation == served.part.generation)) ≡ false) × AreApart commands served

-- that no part was sent while a command to its device was unanswered stays so as a command is sent, and as a completion
-- is received; and as a part is sent of whose device no command is unanswered
pub record RenewsNone (D : Type 0) : Type 0 where
  pub commands : (tasks : List (WorkerTask D)) (answers : List Completion) (c : Command) → NoneRenewed tasks answers
      → NoneRenewed (tasks ++ Perform c ∷ []) answers
  pub parts : (tasks : List (WorkerTask D)) (answers : List Completion) (served : ServedPart D)
      → NoneRenewed tasks answers → AreApart (unanswered tasks answers) served
      → NoneRenewed (tasks ++ TakeUp served ∷ []) answers
  pub received : (tasks : List (WorkerTask D)) (answers : List Completion) (a : Completion) → NoneRenewed tasks answers
      → NoneRenewed tasks (answers ++ a ∷ [])
