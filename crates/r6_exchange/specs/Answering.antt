-- What a worker answers to the tasks that it takes, one after another (this project's own; of honest histories and of
-- promises: r6_dev).
use Rattle.std.specs.Prelude.{◌≡◌, ℕ, ◌+◌, ◌==◌, ◌&&◌, Bool, true, false, List, [], ◌∷◌, length, map, if◌then◌else◌, Option, Some, None, Result, Ok, Err, IsOk}
use Rattle.r6_dev.specs.History.{Block, Telling, Entry, Reads, Writes, Misses, Fails, put}
use Rattle.r6_dev.specs.Promises.{Promise, Covers, no_promise}
use Rattle.r6_world.specs.Values.{buffer_in}
use Rattle.r6_world.specs.declared.values.Command.{Command}
use Rattle.r6_world.specs.declared.values.CommandKind.{CommandKind}
use Rattle.r6_world.specs.declared.values.CommandKind.TheVariants.{Read, Write}
use Rattle.r6_world.specs.declared.values.DeviceFault.{DeviceFault}
use Rattle.r6_world.specs.declared.values.FaultKind.{FaultKind}
use Rattle.r6_world.specs.declared.values.FaultKind.TheVariants.{ReadFault, WriteFault, Gone, Length}
use Rattle.r6_exchange.specs.declared.task.ServedPart.{ServedPart}
use Rattle.r6_exchange.specs.declared.task.WorkerTask.{WorkerTask}
use Rattle.r6_exchange.specs.declared.task.WorkerTask.TheVariants.{Perform, TakeUp, End}
use Rattle.r6_exchange.specs.declared.completion.Completion.{Completion}

-- ---- what is known of parts

-- what a part tells of its blocks, and the commands that it promises never to answer by a fault
pub record Known : Type 0 where
  pub telling : Telling
  pub promise : Promise

-- by slot and generation; None: no part is there
abbrev pub State : Type 0
State = ℕ → ℕ → Option Known

abbrev pub nothing : State
nothing slot generation = None

abbrev pub put_at : State → (slot generation : ℕ) → Option Known → State
put_at state slot generation known s g =
    if (s == slot) && (g == generation) then known else state s g

-- of a part from which its worker may stop nothing is promised
abbrev pub promise_if : (steady : Bool) → Promise → Promise
promise_if true promise = promise
promise_if false promise = no_promise

abbrev pub known_of : {D : Type 0} → (D → Telling) → (D → Promise) → ServedPart D → Known
known_of told promised served =
    record { telling = told served.part.device; promise = promise_if served.steady (promised served.part.device) }

-- ---- one answer

-- the entry of a command in its part's history
abbrev pub done_by : CommandKind → (row : ℕ) → (stored came : Block) → Entry
done_by Read row stored came = Reads row came
done_by Write row stored came = Writes row stored

-- that of a command that an error answered: a read error of a read ends nothing
abbrev pub failed_by : FaultKind → CommandKind → (row : ℕ) → Entry
failed_by ReadFault Read row = Misses row
failed_by ReadFault Write row = Fails
failed_by WriteFault kind row = Fails
failed_by Gone kind row = Fails
failed_by Length kind row = Fails

abbrev pub entry_by : CommandKind → (row : ℕ) → (stored : Block) → Result Block DeviceFault → Entry
entry_by kind row stored (Ok came) = done_by kind row stored came
entry_by kind row stored (Err fault) = failed_by fault.kind kind row

abbrev pub entry_of : Command → Completion → Entry
entry_of c a = entry_by c.kind c.row c.buffer a.result

-- An honest part gives the block that stands there. Of one that tells nothing, and of one that has answered an error
-- other than a read error of a read, nothing is said
abbrev pub FitsTelling : Telling → Entry → Type 0
FitsTelling None entry = Unit {0}
FitsTelling (Some blocks) (Reads row block) = block ≡ blocks row
FitsTelling (Some blocks) (Writes row block) = Unit {0}
FitsTelling (Some blocks) (Misses row) = Unit {0}
FitsTelling (Some blocks) Fails = Unit {0}

-- where no part is there the command fails, and not by a read error
abbrev pub MayAnswer : Option Known → Entry → Type 0
MayAnswer None (Reads row block) = ⊥
MayAnswer None (Writes row block) = ⊥
MayAnswer None (Misses row) = ⊥
MayAnswer None Fails = Unit {0}
MayAnswer (Some known) entry = FitsTelling known.telling entry

-- the part promises not to answer the command by a fault
abbrev pub IsPromised : Option Known → Command → Type 0
IsPromised None c = ⊥
IsPromised (Some known) c = Covers known.promise c.row (length c.buffer)

-- what is known of its blocks after it
abbrev pub telling_after : Telling → Entry → Telling
telling_after None entry = None
telling_after (Some blocks) (Reads row block) = Some blocks
telling_after (Some blocks) (Writes row block) = Some (put blocks row block)
telling_after (Some blocks) (Misses row) = Some blocks
telling_after (Some blocks) Fails = None

abbrev pub known_after : Option Known → Entry → Option Known
known_after None entry = None
known_after (Some known) entry = Some (record { telling = telling_after known.telling entry; promise = known.promise })

-- A command is answered under its token and its slot, and its buffer comes home, as its part may answer; and without a fault if the
-- part promises that
pub record IsAnswer (state : State) (c : Command) (a : Completion) : Type 0 where
  pub token : a.token ≡ c.token
  pub slot : a.slot ≡ c.slot
  pub same_length : length (buffer_in a.result) ≡ length c.buffer
  pub honest : MayAnswer (state c.slot c.generation) (entry_of c a)
  pub sound : IsPromised (state c.slot c.generation) c → IsOk a.result

-- the answer to a command that no device performs
abbrev pub gone_for : Command → Completion
gone_for c = record { token = c.token; slot = c.slot; result = Err (record { kind = Gone; buffer = c.buffer }) }

abbrev pub performed : State → Command → Completion → State
performed state c a = put_at state c.slot c.generation (known_after (state c.slot c.generation) (entry_of c a))

abbrev pub taken_up : {D : Type 0} → (D → Telling) → (D → Promise) → State → ServedPart D → State
taken_up told promised state served =
    put_at state served.part.slot served.part.generation (Some (known_of told promised served))

-- ---- tasks and answers, one after another

-- Each completion is that of a command, in the order of the tasks, none left out: the first is that of the first
-- command, and so on. Commands at the end may be unanswered yet
abbrev pub Answered : {D : Type 0} → (D → Telling) → (D → Promise) → State → List Completion → List (WorkerTask D)
    → Type 0
Answered told promised state [] tasks = Unit {0}
Answered told promised state (a ∷ answers) [] = ⊥
Answered told promised state (a ∷ answers) (TakeUp served ∷ tasks) =
    Answered told promised (taken_up told promised state served) (a ∷ answers) tasks
Answered told promised state (a ∷ answers) (End ∷ tasks) = Answered told promised state (a ∷ answers) tasks
Answered told promised state (a ∷ answers) (Perform c ∷ tasks) =
    IsAnswer state c a × Answered told promised (performed state c a) answers tasks

-- what is known of the parts once these commands were answered, and all these parts were taken up
abbrev pub state_after : {D : Type 0} → (D → Telling) → (D → Promise) → State → List (WorkerTask D) → List Completion
    → State
state_after told promised state [] answers = state
state_after told promised state (TakeUp served ∷ tasks) answers =
    state_after told promised (taken_up told promised state served) tasks answers
state_after told promised state (End ∷ tasks) answers = state_after told promised state tasks answers
state_after told promised state (Perform c ∷ tasks) [] = state_after told promised state tasks []
state_after told promised state (Perform c ∷ tasks) (a ∷ answers) =
    state_after told promised (performed state c a) tasks answers

-- the commands that are not answered yet, the oldest first
abbrev pub unanswered : {D : Type 0} → List (WorkerTask D) → List Completion → List Command
unanswered [] answers = []
unanswered (TakeUp served ∷ tasks) answers = unanswered tasks answers
unanswered (End ∷ tasks) answers = unanswered tasks answers
unanswered (Perform c ∷ tasks) [] = c ∷ unanswered tasks []
unanswered (Perform c ∷ tasks) (a ∷ answers) = unanswered tasks answers

-- how many parts are among them
abbrev pub parts_in : {D : Type 0} → List (WorkerTask D) → ℕ
parts_in [] = 0
parts_in (TakeUp served ∷ tasks) = 1 + parts_in tasks
parts_in (End ∷ tasks) = parts_in tasks
parts_in (Perform c ∷ tasks) = parts_in tasks

-- ---- labels

-- the slot and generation of a part
abbrev pub label_of : {D : Type 0} → ServedPart D → ℕ × ℕ
label_of served = (served.part.slot, served.part.generation)

abbrev pub labels_of : {D : Type 0} → List (ServedPart D) → List (ℕ × ℕ)
labels_of parts = map label_of parts

-- those of the parts among the tasks, in their order
abbrev pub labels_in : {D : Type 0} → List (WorkerTask D) → List (ℕ × ℕ)
labels_in [] = []
labels_in (TakeUp served ∷ tasks) = label_of served ∷ labels_in tasks
labels_in (End ∷ tasks) = labels_in tasks
labels_in (Perform c ∷ tasks) = labels_in tasks
