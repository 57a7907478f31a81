-- What a shard's tasks ask of it, each kind by itself (this project's own).
use Rattle.std.specs.Prelude.{ℕ, ◌+◌, List, [], ◌∷◌, length, filter_map, Option, Some, None, option_and_then, option_to_list}
use Rattle.r6_dev.specs.History.{Telling}
use Rattle.r6_layout.specs.Shape.{Shape}
use Rattle.r6_core.specs.declared.turn.Task.{Task as Scrub}
use Rattle.r6_core.specs.declared.turn.Task.TheVariants as scrub
use Rattle.r6_core.specs.declared.refusal.Refusal.{Refusal}
use Rattle.r6_engine.specs.lists.Events.{Event, Duty, Serves, Takes_up, Checks, Repairs, task_at}
use Rattle.r6_shard.specs.declared.ledger.Asked.{Asked}
use Rattle.r6_shard.specs.declared.ledger.Asking.{Asking}
use Rattle.r6_engine.specs.declared.runner.due.Due.{Due}
use Rattle.r6_engine.specs.declared.runner.due.Duty.{Duty as DueDuty}
use Rattle.r6_engine.specs.declared.runner.due.Duty.TheVariants as due
use Rattle.r6_engine.specs.declared.runner.scrub.ScrubUnderWay.{ScrubUnderWay}
use Rattle.r6_engine.specs.declared.runner.scrub.ScrubDone.{ScrubDone}
use Rattle.r6_engine.specs.declared.runner.runner.Handed.{Handed}

-- ---- what the events of these numbers ask of the shard

-- what is picked of the shard's part of each event, if it has one
abbrev pub of_tasks : {A : Type 0} → (ℕ → Duty → Option A) → Shape → (shard : ℕ) → List Event
    → (numbers : List ℕ) → List A
of_tasks pick shape shard events numbers =
    filter_map (λ number. option_and_then (λ t. pick number t.duty) (task_at shape shard events number)) numbers

-- a request, with the number of its event
abbrev pub request_in : ℕ → Duty → Option Asking
request_in number (Serves op) = Some (record { event = number; op = op })
request_in number duty = None

-- a check or repair of every row
abbrev pub scrub_in : ℕ → Duty → Option (ℕ × Scrub)
scrub_in number Checks = Some (number, scrub.Check)
scrub_in number Repairs = Some (number, scrub.Repair)
scrub_in number duty = None

-- the part of a new device
pub record NewPart : Type 0 where
  pub event : ℕ
  pub slot : ℕ
  pub telling : Telling

-- the part of a new device that a shard is handed, with the number of its event; nothing where it is handed something
-- else
abbrev pub part_in : ℕ → Duty → Option NewPart
part_in number (Takes_up slot telling) = Some (record { event = number; slot = slot; telling = telling })
part_in number duty = None

abbrev pub requests_in : Shape → (shard : ℕ) → List Event → (numbers : List ℕ) → List Asking
requests_in = of_tasks request_in

-- the checks and repairs that the shard has of the events with these numbers, in the order of the numbers
abbrev pub scrubs_in : Shape → (shard : ℕ) → List Event → (numbers : List ℕ) → List (ℕ × Scrub)
scrubs_in = of_tasks scrub_in

-- the parts of new devices that the shard has of these events, in the order of the numbers
abbrev pub parts_in : Shape → (shard : ℕ) → List Event → (numbers : List ℕ) → List NewPart
parts_in = of_tasks part_in

-- ---- what of it is still to be begun, is under way, or is over

abbrev pub request_of : ℕ → DueDuty → Option Asking
request_of event (due.Serve op) = Some (record { event = event; op = op })
request_of event duty = None

abbrev pub scrub_of : ℕ → DueDuty → Option (ℕ × Scrub)
scrub_of event due.Check = Some (event, scrub.Check)
scrub_of event due.Repair = Some (event, scrub.Repair)
scrub_of event duty = None

abbrev pub due_requests : List Due → List Asking
due_requests all = filter_map (λ d. request_of d.event d.duty) all

abbrev pub due_scrubs : List Due → List (ℕ × Scrub)
due_scrubs all = filter_map (λ d. scrub_of d.event d.duty) all

abbrev pub under_way : Option ScrubUnderWay → List (ℕ × Scrub)
under_way None = []
under_way (Some p) = (p.event, p.task) ∷ []

abbrev pub done_scrub : ScrubDone → ℕ × Scrub
done_scrub p = (p.event, p.task)

-- the event and slot of a part, as it is asked
abbrev pub slot_of : NewPart → ℕ × ℕ
slot_of p = (p.event, p.slot)

-- the event and slot of a part, as it came
abbrev pub handed_of : Handed → ℕ × ℕ
handed_of h = (h.event, h.slot)

-- how many tasks were taken
abbrev pub count_of : List (ℕ × Refusal) → List Asked → Option ScrubUnderWay → List ScrubDone → List Handed → List Due
    → ℕ
count_of refused asked going done handed due =
    length refused + length asked + length (option_to_list going) + length done + length handed + length due
