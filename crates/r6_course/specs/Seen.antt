-- What the run of a shard has of the register's history (this project's own).
use Rattle.std.specs.Prelude.{◌≡◌, ◌≢◌, ◌≤◌, ◌⊎◌, ℕ, List, [], ◌∷◌, Ok, Err}
use Rattle.r6_health.specs.declared.history.HistoryEntry.{HistoryEntry}
use Rattle.r6_health.specs.Histories.{Name}
use Rattle.r6_world.specs.Layouts.{Layout}
use Rattle.r6_world.specs.Registers.{RegisterCall, Fail, DeclareLost, Attach, ReportRebuilt, Replace}
use Rattle.r6_world.specs.Worlds.{Happening, Core, Perform, Tell, Outside, Moment, as_made}

-- the call fails a slot that isn't one of the array's: it is refused, whatever the register holds
abbrev pub FailsNoSlot : Layout → RegisterCall → Type 0
FailsNoSlot l (Fail slot) = l.slots ≤ slot
FailsNoSlot l (DeclareLost slot generation) = ⊥
FailsNoSlot l (Attach slot) = ⊥
FailsNoSlot l (ReportRebuilt shard slot generation) = ⊥
FailsNoSlot l (Replace slot) = ⊥

-- it leaves the register as it is: a call of this shard's core, a command of it that a device performs, a call of it at
-- the register that is refused, or one from outside that fails no slot of the array
abbrev pub LeavesRegister : Layout → ℕ → Happening → Type 0
LeavesRegister l n (Core m event new) = m ≡ n
LeavesRegister l n (Perform m token c) = m ≡ n
LeavesRegister l n (Tell m call (Ok answer) middle new) = ⊥
LeavesRegister l n (Tell m call (Err refusal) middle new) = m ≡ n
LeavesRegister l n (Outside call) = FailsNoSlot l call

-- the run of a shard has these changes of the register, in this order, and nothing else that changes it
abbrev pub HasChanges : {C : Type 0} → (IsChange : C → Happening → Type 0) → Layout → ℕ → List C → List Moment → Type 0
HasChanges IsChange l n changes [] = changes ≡ []
HasChanges IsChange l n [] (m ∷ moments) = LeavesRegister l n m.happening × HasChanges IsChange l n [] moments
HasChanges IsChange l n (change ∷ changes) (m ∷ moments) =
    (LeavesRegister l n m.happening × HasChanges IsChange l n (change ∷ changes) moments)
    ⊎ (IsChange change m.happening × HasChanges IsChange l n changes moments)

-- it makes this entry of the history, as the shard has it whose pass has this name: by a call of the shard, which was
-- told the answer, or by a call of somebody else
abbrev pub MakesEntry : (by : Name) → ℕ → HistoryEntry → Happening → Type 0
MakesEntry by n e (Core m event new) = ⊥
MakesEntry by n e (Perform m token c) = ⊥
MakesEntry by n e (Tell m call (Ok answer) middle new) =
    (e.by ≡ by) × (m ≡ n) × (as_made m call ≡ e.call) × (answer ≡ e.answer)
MakesEntry by n e (Tell m call (Err refusal) middle new) = ⊥
MakesEntry by n e (Outside call) = (e.by ≢ by) × (call ≡ e.call)

-- the changes of the register that the run of a shard has are this history of it
abbrev pub Sees : Layout → ℕ → (by : Name) → List HistoryEntry → List Moment → Type 0
Sees l n by log moments = HasChanges (MakesEntry by n) l n log moments
