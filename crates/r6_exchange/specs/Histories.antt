-- The history of a worker, part by part (r6_dev: what an honest history is).
use Rattle.std.specs.Prelude.{◌≡◌, ℕ, ◌==◌, ◌&&◌, true, false, List, [], ◌∷◌, ◌++◌, map, length, if◌then◌else◌, Some, IsOk}
use Rattle.r6_dev.specs.History.{Telling, Blocks, Entry, IsHonest}
use Rattle.r6_dev.specs.Promises.{Promise, Covers}
use Rattle.r6_queues.specs.Queues.{StartsWith}
use Rattle.r6_exchange.specs.declared.task.ServedPart.{ServedPart}
use Rattle.r6_exchange.specs.declared.task.WorkerTask.{WorkerTask}
use Rattle.r6_exchange.specs.declared.task.WorkerTask.TheVariants.{Perform, TakeUp, End}
use Rattle.r6_exchange.specs.declared.completion.Completion.{Completion}
use Rattle.r6_exchange.specs.Answering.{Answered, nothing, entry_of}

-- the commands to one device with their answers, up to where another part takes the place of its part
abbrev pub history_of : {D : Type 0} → (slot generation : ℕ) → List Completion → List (WorkerTask D) → List Entry
history_of slot generation [] tasks = []
history_of slot generation (a ∷ answers) [] = []
history_of slot generation (a ∷ answers) (TakeUp served ∷ tasks) =
    if (slot == served.part.slot) && (generation == served.part.generation) then []
    else history_of slot generation (a ∷ answers) tasks
history_of slot generation (a ∷ answers) (End ∷ tasks) = history_of slot generation (a ∷ answers) tasks
history_of slot generation (a ∷ answers) (Perform c ∷ tasks) =
    if (slot == c.slot) && (generation == c.generation)
    then entry_of c a ∷ history_of slot generation answers tasks
    else history_of slot generation answers tasks

-- the answers that are left once the commands of these tasks have theirs
abbrev pub left_for : {D : Type 0} → List Completion → List (WorkerTask D) → List Completion
left_for [] tasks = []
left_for (a ∷ answers) [] = a ∷ answers
left_for (a ∷ answers) (TakeUp served ∷ tasks) = left_for (a ∷ answers) tasks
left_for (a ∷ answers) (End ∷ tasks) = left_for (a ∷ answers) tasks
left_for (a ∷ answers) (Perform c ∷ tasks) = left_for answers tasks

-- Each part that was taken up, and that told its blocks then, has an honest history: the answers of the commands to it
-- that follow, in their order
abbrev pub AreHonest : {D : Type 0} → (D → Telling) → List Completion → List (WorkerTask D) → Type 0
AreHonest {D = D} told answers tasks =
    (before after : List (WorkerTask D)) (served : ServedPart D) (start : Blocks)
    → tasks ≡ before ++ TakeUp served ∷ after → told served.part.device ≡ Some start
    → IsHonest start (history_of served.part.slot served.part.generation (left_for answers before) after)

-- none of the promised commands to one device is answered by a fault, up to where another part takes the place of its
-- part
abbrev pub FailsNone : {D : Type 0} → (slot generation : ℕ) → Promise → List Completion → List (WorkerTask D) → Type 0
FailsNone slot generation promise [] tasks = Unit {0}
FailsNone slot generation promise (a ∷ answers) [] = Unit {0}
FailsNone slot generation promise (a ∷ answers) (TakeUp served ∷ tasks) =
    ((slot == served.part.slot) && (generation == served.part.generation)) ≡ false
    → FailsNone slot generation promise (a ∷ answers) tasks
FailsNone slot generation promise (a ∷ answers) (End ∷ tasks) = FailsNone slot generation promise (a ∷ answers) tasks
FailsNone slot generation promise (a ∷ answers) (Perform c ∷ tasks) =
    (((slot == c.slot) && (generation == c.generation)) ≡ true → Covers promise c.row (length c.buffer) → IsOk a.result)
    × FailsNone slot generation promise answers tasks

-- Each part that was taken up to be served to the end keeps what it promised then
abbrev pub AreSound : {D : Type 0} → (D → Promise) → List Completion → List (WorkerTask D) → Type 0
AreSound {D = D} promised answers tasks =
    (before after : List (WorkerTask D)) (served : ServedPart D) → tasks ≡ before ++ TakeUp served ∷ after
    → served.steady ≡ true
    → FailsNone served.part.slot served.part.generation (promised served.part.device) (left_for answers before) after

-- the tokens of the commands among the tasks
abbrev pub tokens_in : {D : Type 0} → List (WorkerTask D) → List ℕ
tokens_in [] = []
tokens_in (TakeUp served ∷ tasks) = tokens_in tasks
tokens_in (End ∷ tasks) = tokens_in tasks
tokens_in (Perform c ∷ tasks) = c.token ∷ tokens_in tasks

-- What answers tasks is honest for each part
abbrev pub HonestyLaw : {D : Type 0} → (D → Telling) → (D → Promise) → Type 0
HonestyLaw {D = D} told promised =
    (answers : List Completion) (tasks : List (WorkerTask D)) → Answered told promised nothing answers tasks
    → AreHonest told answers tasks

-- keeps what each part promises
abbrev pub SoundLaw : {D : Type 0} → (D → Telling) → (D → Promise) → Type 0
SoundLaw {D = D} told promised =
    (answers : List Completion) (tasks : List (WorkerTask D)) → Answered told promised nothing answers tasks
    → AreSound promised answers tasks

-- and answers the first commands, each once, in their order
abbrev pub OnceLaw : {D : Type 0} → (D → Telling) → (D → Promise) → Type 0
OnceLaw {D = D} told promised =
    (answers : List Completion) (tasks : List (WorkerTask D)) → Answered told promised nothing answers tasks
    → StartsWith (tokens_in tasks) (map (λ a. a.token) answers)
