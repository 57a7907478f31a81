-- What the counts of a shard say of a run (md(4): a check reads the rows in turn and counts those that don't agree;
-- this project's own: which counts there are). A step leads from state to state by a list of small changes; so does a
-- run, and which checks and repairs ended in it, and which rows were marked built, stands in that list.
use Rattle.std.specs.Prelude.{◌≡◌, ℕ, ◌+◌, ◌<◌, ◌≤◌, List, [], ◌∷◌, ◌++◌, length, map, All, Bool, true, false, if◌then◌else◌, not, ◌==◌, ◌&&◌, Option, Some, None, count_by}
use Rattle.r6_recover.specs.declared.class.RowClass.{RowClass}
use Rattle.r6_recover.specs.declared.class.RowClass.TheVariants.{Consistent, WrongP, WrongQ, WrongData, Many}
use Rattle.r6_stripe.specs.Holds.{passes_over}
use Rattle.r6_world.specs.Tables.{put, count_below}
use Rattle.r6_world.specs.Layouts.{Layout, IsLayout}
use Rattle.r6_world.specs.PlainArray.{Array}
use Rattle.r6_world.specs.Registers.{Snapshot, RegisterCall}
use Rattle.r6_world.specs.Tasks.{Task, ReadFor, WriteFor, Rebuild, Check, Repair, Hold, kind_of, IsClassRead, Outcome, Rebuilt, Classed}
use Rattle.r6_world.specs.ShardStates.{Shard, SlotState, IsBuiltOn, frames, IsLive}
use Rattle.r6_world.specs.Changes.{Change, Accept, Start, Classify, Finish, See_failed, Release, Skip_turn, Hand_command, Hand_call, Hear, Hand_reply, with_row, after}
use Rattle.r6_world.specs.Steps.{Event, Submit, Submit_all, Deliver, Look, Turn_started, Turn_skipped, Take_command, No_command, Take_call, No_call, Told, Take_reply, No_reply, Looks, Step, AtRest}
use Rattle.r6_world.specs.Worlds.{World, Devices, Happening, Core, Perform, Tell, Outside, Moment, Possible, Run, next, started, shard_at_start}
use Rattle.r6_world.specs.Claims.{IsLawfulStart}
use Rattle.r6_world.specs.Laws.{OfEveryRun, IsOfOutside, AreOfShard, IsByAnyone}
use Rattle.r6_world.specs.Witness.{after_all}

-- ---- the small changes of shard n in a run, in order

abbrev pub changes_of_look : (l : Layout) (n : ℕ) (failed : Bool) (mid new : Shard) → Looks l n failed mid new
    → List Change
changes_of_look l n true mid new look = See_failed ∷ []
changes_of_look l n false mid new look = (look.1.1.0 ++ look.1.2.0) ++ (Release ∷ look.2.0)

abbrev pub changes_of : (l : Layout) (n : ℕ) (old : Shard) (event : Event) (new : Shard) → Step l n old event new
    → List Change
changes_of l n old (Submit op id) new step = Accept op ∷ step.2.0
changes_of l n old (Submit_all ops first) new step = map Accept ops ++ step.2.0
changes_of l n old (Deliver token completion receipt) new step = step.0 ∷ ((step.4.1.0 ++ step.4.2.0) ++ step.5.0)
changes_of l n old (Look seen) new step = step.3.0 ++ changes_of_look l n seen.failed step.2 new step.5
changes_of l n old (Turn_started task) new step = Start step.1 step.2 task ∷ step.4.0
changes_of l n old (Turn_skipped task row) new step = Skip_turn task row ∷ step.1.0
changes_of l n old (Take_command token c) new step = Hand_command token c ∷ []
changes_of l n old No_command new step = []
changes_of l n old (Take_call call) new step = Hand_call call step.0 ∷ []
changes_of l n old No_call new step = []
changes_of l n old (Told call answer) new step = Hear call answer ∷ []
changes_of l n old (Take_reply id reply) new step = Hand_reply id step.0 reply ∷ []
changes_of l n old No_reply new step = []

abbrev pub changes_at : (l : Layout) (Comes : RegisterCall → Type 0) (n : ℕ) (w : World) (h : Happening)
    → Possible l Comes w h → List Change
changes_at l Comes n w (Core m event new) step = if m == n then changes_of l m (w.shard m) event new step.2 else []
changes_at l Comes n w (Perform m token c) step = []
changes_at l Comes n w (Tell m call answer middle new) step =
    if m == n then
    changes_of l m (w.shard m) (Take_call call) middle step.2
    ++ changes_of l m middle (Told call answer) new step.3
    else []
changes_at l Comes n w (Outside call) step = []

abbrev pub changes_in : (l : Layout) (Comes : RegisterCall → Type 0) (n : ℕ) (w : World) (moments : List Moment)
    → Run l Comes w moments → List Change
changes_in l Comes n w [] run = []
changes_in l Comes n w (m ∷ moments) run =
    changes_at l Comes n w m.happening run.0 ++ changes_in l Comes n (next l w m) moments run.1

-- ---- turns of checks and repairs

abbrev pub is_check : Task → Bool
is_check (ReadFor id block) = false
is_check (WriteFor writes) = false
is_check (Rebuild slot generation) = false
is_check Check = true
is_check Repair = true

abbrev pub is_repair : Task → Bool
is_repair (ReadFor id block) = false
is_repair (WriteFor writes) = false
is_repair (Rebuild slot generation) = false
is_repair Check = false
is_repair Repair = true

-- how many turns of a shard were answered Started, and how many Skipped
abbrev pub started_by : ℕ → Happening → ℕ
started_by n (Core m (Turn_started task) new) = if (m == n) && is_check task then 1 else 0
started_by n happening = 0

abbrev pub skipped_by : ℕ → Happening → ℕ
skipped_by n (Core m (Turn_skipped task row) new) = if m == n then 1 else 0
skipped_by n happening = 0

abbrev pub in_all : (Happening → ℕ) → List Moment → ℕ
in_all number [] = 0
in_all number (m ∷ moments) = number m.happening + in_all number moments

-- ---- checks and repairs that hold a row

abbrev pub holds_check : Option Hold → Bool
holds_check None = false
holds_check (Some h) = is_check h.task

abbrev pub checks_held : Shard → ℕ
checks_held s = count_below (λ f. holds_check (s.frame f)) frames

-- those that a shard drops when it sees that the array failed: they end with nothing
abbrev pub dropped_by : Shard → Change → ℕ
dropped_by s See_failed = checks_held s
dropped_by s change = 0

abbrev pub dropped : Layout → Shard → List Change → ℕ
dropped l s [] = 0
dropped l s (change ∷ changes) = dropped_by s change + dropped l (after l s change) changes

-- ---- checks and repairs that ended

pub record Ended : Type 0 where
  pub hold : Hold  -- as it ends
  pub read : Option Hold  -- as it was when its row was classified, with the blocks that it had read
  pub class : Option RowClass  -- None: the row was skipped

-- by frame, the hold as it was when its row was classified
abbrev pub read_after : (ℕ → Option Hold) → Change → ℕ → Option Hold
read_after read (Start f row task) = put read f None
read_after read (Classify f h class) = put read f (Some h)
read_after read change = read

abbrev pub class_of : Outcome → Option RowClass
class_of (Classed class) = Some class
class_of outcome = None

abbrev pub ended_by : (ℕ → Option Hold) → Change → List Ended
ended_by read (Finish f h outcome) =
    if is_check h.task then record { hold = h; read = read f; class = class_of outcome } ∷ [] else []
ended_by read change = []

abbrev pub ended : (ℕ → Option Hold) → List Change → List Ended
ended read [] = []
ended read (change ∷ changes) = ended_by read change ++ ended (read_after read change) changes

abbrev pub ended_in : List Change → List Ended
ended_in changes = ended (λ f. None) changes

-- one that lost a position while it was reading, or met a read error, has no class, and any other that of the blocks
-- of its row as they were read
abbrev pub IsEnd : Ended → Option RowClass → Type 0
IsEnd e None = passes_over e.hold.course ≡ true
IsEnd e (Some class) =
    (passes_over e.hold.course ≡ false)
    × (h : Hold) × (e.read ≡ Some h) × (h.row ≡ e.hold.row) × (h.task ≡ e.hold.task) × IsClassRead h.course class

-- ---- how many of them are of a class

abbrev pub is_consistent : RowClass → Bool
is_consistent Consistent = true
is_consistent class = false

abbrev pub is_wrong_p : RowClass → Bool
is_wrong_p WrongP = true
is_wrong_p class = false

abbrev pub is_wrong_q : RowClass → Bool
is_wrong_q WrongQ = true
is_wrong_q class = false

abbrev pub is_wrong_data : RowClass → Bool
is_wrong_data (WrongData index) = true
is_wrong_data class = false

abbrev pub is_many : RowClass → Bool
is_many Many = true
is_many class = false

abbrev pub of_class : (RowClass → Bool) → Option RowClass → Bool
of_class test None = false
of_class test (Some class) = test class

abbrev pub without_class : Option RowClass → Bool
without_class None = true
without_class (Some class) = false

abbrev pub is_repaired : Ended → Bool
is_repaired e = is_repair e.hold.task && of_class (λ (class : RowClass). not (is_consistent class)) e.class

-- ---- rows marked built

pub record Mark : Type 0 where
  pub row : ℕ
  pub old : SlotState
  pub new : SlotState

abbrev pub mark_of : Layout → Shard → Hold → ℕ → Task → Outcome → List Mark
mark_of l s h f (Rebuild slot generation) Rebuilt =
    record { row = h.row; old = s.slot slot; new = (after l s (Finish f h Rebuilt)).slot slot } ∷ []
mark_of l s h f task outcome = []

abbrev pub marked_by : Layout → Shard → Change → List Mark
marked_by l s (Finish f h outcome) = mark_of l s h f h.task outcome
marked_by l s change = []

abbrev pub marked : Layout → Shard → List Change → List Mark
marked l s [] = []
marked l s (change ∷ changes) = marked_by l s change ++ marked l (after l s change) changes

abbrev pub IsMark : Mark → Type 0
IsMark m =
    (generation : ℕ) × (built : ℕ → Bool) × IsBuiltOn m.old generation built × (m.new ≡ with_row m.old m.row)

-- ---- of one call

-- a hold in its frame does what its task says; and if it has a class, that is of the blocks which it had read by then
pub record IsOwnHold (l : Layout) (f : ℕ) (read : Option Hold) (h : Hold) : Type 0 where
  pub low : f < frames
  pub kind : h.course.kind ≡ kind_of l h.row h.task
  pub classed : (class : RowClass) → h.class ≡ Some class
      → (r : Hold) × (read ≡ Some r) × (r.row ≡ h.row) × (r.task ≡ h.task) × IsClassRead r.course class

-- so do all holds of a shard, and one that saw the failure has none: so it is from a start on
pub record AreOwnHolds (l : Layout) (s : Shard) (read : ℕ → Option Hold) : Type 0 where
  pub holds : (f : ℕ) (h : Hold) → s.frame f ≡ Some h → IsOwnHold l f (read f) h
  pub gone : s.saw_failed ≡ true → (f : ℕ) → s.frame f ≡ None

abbrev pub HasOwnHolds : Layout → Shard → Type 0
HasOwnHolds l s = (read : ℕ → Option Hold) × AreOwnHolds l s read

-- the rows of checks and repairs that are counted, of whichever class or none
abbrev pub all_counted : Shard → ℕ
all_counted s =
    s.counts.consistent + s.counts.wrong_p + s.counts.wrong_q + s.counts.wrong_data + s.counts.many + s.counts.skipped

-- the rows that they have passed: those that are counted, and those that they hold yet
abbrev pub gone_over : Shard → ℕ
gone_over s = all_counted s + checks_held s

-- how many rows a call passes
abbrev pub passes : Event → ℕ
passes (Turn_started task) = if is_check task then 1 else 0
passes (Turn_skipped task row) = 1
passes event = 0

-- a shard is at rest, with its own holds, and has passed so many rows; in one that stopped, or saw the failure, holds
-- of checks stay or are dropped
abbrev pub HasPassed : Layout → (n : ℕ) → (rows : ℕ) → Shard → Type 0
HasPassed l n rows s = HasOwnHolds l s × AtRest l n s × (IsLive l s → gone_over s ≡ rows)

-- A shard begins so, and has passed none; each call keeps it so, and passes a row where it is a turn of a check or
-- repair, and else none. With no command out a live shard holds no row for a check or repair, so that all rows are
-- counted; a shard that was stopped stays so; and no count ever falls
abbrev pub CallCountsLaw : Type 0
CallCountsLaw =
    ((l : Layout) (n : ℕ) (r : Snapshot) → HasPassed l n 0 (shard_at_start l r n))
    × ((l : Layout) (n : ℕ) (old : Shard) (event : Event) (new : Shard) → Step l n old event new
    → ((rows : ℕ) → HasPassed l n rows old → HasPassed l n (rows + passes event) new)
    × (IsLive l new → IsLive l old) × (all_counted old ≤ all_counted new))
    × ((l : Layout) (n rows : ℕ) (s : Shard) → HasPassed l n rows s → ((t : ℕ) → s.command t ≡ None) → IsLive l s
    → all_counted s ≡ rows)

-- ---- the law

-- of a shard, after so many turns were answered Started and Skipped, and these changes from its start
pub record CountsHold (l : Layout) (start now : Shard) (turns_started turns_skipped : ℕ) (changes : List Change)
    : Type 0 where
  pub reads : All (λ (e : Ended). IsEnd e e.class) (ended_in changes)
  pub consistent : now.counts.consistent ≡ count_by (λ (e : Ended). of_class is_consistent e.class) (ended_in changes)
  pub wrong_p : now.counts.wrong_p ≡ count_by (λ (e : Ended). of_class is_wrong_p e.class) (ended_in changes)
  pub wrong_q : now.counts.wrong_q ≡ count_by (λ (e : Ended). of_class is_wrong_q e.class) (ended_in changes)
  pub wrong_data : now.counts.wrong_data ≡ count_by (λ (e : Ended). of_class is_wrong_data e.class) (ended_in changes)
  pub many : now.counts.many ≡ count_by (λ (e : Ended). of_class is_many e.class) (ended_in changes)
  pub skipped : now.counts.skipped ≡ turns_skipped + count_by (λ (e : Ended). without_class e.class) (ended_in changes)
  pub repaired : now.counts.repaired ≡ count_by is_repaired (ended_in changes)
  pub marks : All IsMark (marked l start changes)
  pub rebuilt : now.counts.rebuilt ≡ length (marked l start changes)
  -- each row that was passed is counted once, held, or was dropped; before the failure is seen none is dropped, and
  -- from then on none is held
  pub passed : turns_started + turns_skipped
      ≡ now.counts.consistent + now.counts.wrong_p + now.counts.wrong_q + now.counts.wrong_data + now.counts.many
      + now.counts.skipped
      + checks_held now + dropped l start changes
  pub none_dropped : now.saw_failed ≡ false → dropped l start changes ≡ 0
  pub none_held : now.saw_failed ≡ true → checks_held now ≡ 0

-- of a shard, behind these moments, where these calls may come at the register from outside
abbrev pub IsCounted : Layout → (Comes : RegisterCall → Type 0) → (n : ℕ) → World → List Moment → Type 0
IsCounted l Comes n start moments =
    (run : Run l Comes start moments) →
    CountsHold l (start.shard n) ((after_all l start moments).shard n)
    (in_all (started_by n) moments) (in_all (skipped_by n) moments)
    (changes_in l Comes n start moments run)

-- and of every shard
abbrev pub AreCounted : Layout → Array → World → List Moment → Type 0
AreCounted l array start moments = (n : ℕ) → n < l.shards → IsCounted l IsOfOutside n start moments

-- At every moment of a run: what is so behind every run is so at each moment, since a run up to a moment is one
abbrev pub CountsLaw : Type 0
CountsLaw = OfEveryRun AreCounted

-- The same of one shard, beside a register that any calls change between its own
abbrev pub ShardCountsLaw : Type 0
ShardCountsLaw =
    (l : Layout) → IsLayout l → (n : ℕ) → n < l.shards → (r : Snapshot) (device : Devices) (array : Array)
    → IsLawfulStart l r device array
    → (moments : List Moment) → AreOfShard n moments → IsCounted l IsByAnyone n (started l r device) moments
