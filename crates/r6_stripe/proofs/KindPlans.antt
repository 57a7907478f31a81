-- The plans that a kind of hold may have, as it begins and after losses and read errors.
use Rattle.std.proofs.Common.{◌≡◌, ◌≢◌, ◌⊎◌, ℕ, ◌+◌, ◌-◌, Bool, true, false, List, [], ◌∷◌, length, refl}
use Rattle.std.specs.Prelude.{◌&&◌, ◌||◌, not, if◌then◌else◌, nat_lt, ⊤}
use Rattle.std.proofs.lemmas.Bool.{and_parts}
use Rattle.r6_stripe.specs.Holds.{Standing, Reading, Cell, Kind, Hold, Event, cell_at, own_writing}
use Rattle.r6_stripe.specs.Holds.Standing.{InSync, Target, Out}
use Rattle.r6_stripe.specs.Holds.Reading.{Unread, Recalled, Asked, Unreadable, Fixing, Fixed, AskedAgain, Known, Replaced}
use Rattle.r6_stripe.specs.Holds.Writing.{Unwritten}
use Rattle.r6_stripe.specs.Holds.Kind.{Idle, Read, Write, Rebuild, Check, Repair}
use Rattle.r6_stripe.specs.Holds.Event.{Asks, Fixes, AsksAgain, Restores, Computes, Writes, Copies, Gives, Fails, Confirms, Mends, Settles, Loses, Moves, Drops}
use Rattle.r6_stripe.specs.Plans.{Plan, is_in_sync, is_parity, is_served, data_count, if_possible, fewest, first_of_fewest, write_plan, first_plan, after_error, after_loss, after_move, plan_after, parities_in_sync, each_below, is_readable}
use Rattle.r6_stripe.specs.Plans.Plan.{One, Reconstruct, Modify, Overwrite, Recover, All}
use Rattle.r6_stripe.proofs.Steps.{not_false}

-- ---- the plans that a kind of hold may have

abbrev pub Suits : Plan → Kind → Type 0
Suits One (Read index) = ⊤
Suits Reconstruct (Write batch) = ⊤
Suits Modify (Write batch) = ⊤
Suits Overwrite (Write batch) = ⊤
Suits Recover (Read index) = ⊤
Suits Recover (Write batch) = ⊤
Suits One (Rebuild target) = ⊤
Suits Recover (Rebuild target) = ⊤
Suits All Check = ⊤
Suits All Repair = ⊤
Suits _ _ = ⊥

-- a property of each plan in the list is one of the plan chosen
abbrev Each : (Plan → Type 0) → List (Plan × ℕ) → Type 0
Each P [] = ⊤
Each P (entry ∷ rest) = P entry.0 × Each P rest

each_possible : (P : Plan → Type 0) (b : Bool) (plan : Plan) (reads : ℕ) (rest : List (Plan × ℕ)) → (b ≡ true → P plan) → Each P rest → Each P (if_possible b plan reads rest)
each_possible P true plan reads rest h all = (h refl, all)
each_possible P false plan reads rest h all = all

fewest_has : (P : Plan → Type 0) (plan : Plan) (reads : ℕ) (rest : List (Plan × ℕ)) → P plan → Each P rest → P (fewest plan reads rest)
fewest_has P plan reads [] h all = h
fewest_has P plan reads (other ∷ rest) h all = by_test (nat_lt other.1 reads) (fewest_has P other.0 other.1 rest all.0 all.1) (fewest_has P plan reads rest h all.1)
  where
    by_test : (b : Bool) → P (fewest other.0 other.1 rest) → P (fewest plan reads rest) → P (if b then fewest other.0 other.1 rest else fewest plan reads rest)
    by_test true x y = x
    by_test false x y = y

first_has : (P : Plan → Type 0) (plans : List (Plan × ℕ)) → P Recover → Each P plans → P (first_of_fewest plans)
first_has P [] h all = h
first_has P (entry ∷ rest) h all = fewest_has P entry.0 entry.1 rest all.0 all.1

-- the plan of a write has a property that each plan has where it is possible
pub write_plan_has : (P : Plan → Type 0) (hold : Hold) (count : ℕ) → (each_below (is_readable Reconstruct hold) (data_count hold) ≡ true → P Reconstruct) → (each_below (is_readable Modify hold) (data_count hold) ≡ true → P Modify) → (nat_lt 0 (parities_in_sync hold) ≡ false → P Overwrite) → P Recover → P (write_plan hold count)
write_plan_has P hold count a b c d =
    let unwritten = each_below (is_readable Reconstruct hold) (data_count hold) in
    let written = each_below (is_readable Modify hold) (data_count hold) in
    let some = nat_lt 0 (parities_in_sync hold) in
    let last : List (Plan × ℕ) = if_possible true Recover (data_count hold) [] in
    let third : List (Plan × ℕ) = if_possible (written && not some) Overwrite 0 last in
    let second : List (Plan × ℕ) = if_possible (written && some) Modify (count + parities_in_sync hold) third in
    first_has P (if_possible unwritten Reconstruct (data_count hold - count) second) d
    (each_possible P unwritten Reconstruct (data_count hold - count) second a
    (each_possible P (written && some) Modify (count + parities_in_sync hold) third (λ h. b (and_parts written some h).0)
    (each_possible P (written && not some) Overwrite 0 last (λ h. c (not_false some (and_parts written (not some) h).1)) (d, tt))))

pub suits_first : (hold : Hold) (kind : Kind) → kind ≢ Idle → Suits (first_plan hold kind) kind
suits_first hold Idle held = absurd (held refl)
suits_first hold (Read index) held = by_test (is_in_sync (cell_at hold.cells index).standing)
  where
    by_test : (b : Bool) → Suits (if b then One else Recover) (Read index)
    by_test true = tt
    by_test false = tt
suits_first hold (Write batch) held = write_plan_has (λ plan. Suits plan (Write batch)) hold (length batch) (λ _. tt) (λ _. tt) (λ _. tt) tt
suits_first hold (Rebuild target) held = by_test (is_in_sync (cell_at hold.cells target).standing)
  where
    by_test : (b : Bool) → Suits (if b then One else Recover) (Rebuild target)
    by_test true = tt
    by_test false = tt
suits_first hold Check held = tt
suits_first hold Repair held = tt

suits_loss : (plan : Plan) (hold : Hold) (kind : Kind) (i : ℕ) → Suits plan kind → Suits (after_loss plan hold i) kind
suits_loss One hold (Read index) i h = by_test (is_served One hold i)
  where
    by_test : (b : Bool) → Suits (if b then One else Recover) (Read index)
    by_test true = tt
    by_test false = tt
suits_loss One hold (Rebuild target) i h = by_test (is_served One hold i)
  where
    by_test : (b : Bool) → Suits (if b then One else Recover) (Rebuild target)
    by_test true = tt
    by_test false = tt
suits_loss Reconstruct hold (Write batch) i h = by_test (is_served Reconstruct hold i)
  where
    by_test : (b : Bool) → Suits (if b then Reconstruct else Recover) (Write batch)
    by_test true = tt
    by_test false = tt
suits_loss Modify hold (Write batch) i h = by_test (is_served Modify hold i || is_parity hold i)
  where
    by_test : (b : Bool) → Suits (if b then Modify else Recover) (Write batch)
    by_test true = tt
    by_test false = tt
suits_loss Overwrite hold (Write batch) i h = h
suits_loss Recover hold kind i h = h
suits_loss All hold kind i h = h
suits_loss _ hold _ i h = absurd h

suits_error : (plan : Plan) (kind : Kind) → Suits plan kind → Suits (after_error plan) kind
suits_error One (Read index) h = tt
suits_error One (Rebuild target) h = tt
suits_error Reconstruct (Write batch) h = tt
suits_error Modify (Write batch) h = tt
suits_error Overwrite (Write batch) h = tt
suits_error Recover kind h = h
suits_error All kind h = h
suits_error _ _ h = absurd h

suits_move : (s : Standing) (plan : Plan) (hold : Hold) (i : ℕ) → Suits plan hold.kind → Suits (after_move s plan hold i) hold.kind
suits_move InSync plan hold i h = h
suits_move Target plan hold i h = suits_loss plan hold hold.kind i h
suits_move Out plan hold i h = h

pub plan_suits : (plan : Plan) (hold : Hold) (event : Event) → Suits plan hold.kind → Suits (plan_after plan hold event) hold.kind
plan_suits plan hold (Asks i) h = h
plan_suits plan hold (Fixes i block) h = h
plan_suits plan hold (AsksAgain i) h = h
plan_suits plan hold (Restores i block) h = h
plan_suits plan hold (Computes new) h = h
plan_suits plan hold (Writes i put) h = h
plan_suits plan hold (Gives i block) h = h
plan_suits plan hold (Fails i) h = suits_error plan hold.kind h
plan_suits plan hold (Confirms i) h = h
plan_suits plan hold (Mends i) h = h
plan_suits plan hold (Copies i put) h = h
plan_suits plan hold (Settles i) h = h
plan_suits plan hold (Loses i) h = suits_loss plan hold hold.kind i h
plan_suits plan hold (Moves i) h = suits_move (cell_at hold.cells i).second plan hold i h
plan_suits plan hold (Drops i) h = h

overwrite_was : (plan : Plan) (hold : Hold) (i : ℕ) → after_loss plan hold i ≡ Overwrite → plan ≡ Overwrite
overwrite_was One hold i e = by_test (is_served One hold i) e
  where
    by_test : (b : Bool) → (if b then One else Recover) ≡ Overwrite → One ≡ Overwrite
    by_test true e = e
    by_test false e = absurd cc
overwrite_was Reconstruct hold i e = by_test (is_served Reconstruct hold i) e
  where
    by_test : (b : Bool) → (if b then Reconstruct else Recover) ≡ Overwrite → Reconstruct ≡ Overwrite
    by_test true e = e
    by_test false e = absurd cc
overwrite_was Modify hold i e = by_test (is_served Modify hold i || is_parity hold i) e
  where
    by_test : (b : Bool) → (if b then Modify else Recover) ≡ Overwrite → Modify ≡ Overwrite
    by_test true e = e
    by_test false e = absurd cc
overwrite_was Overwrite hold i e = refl
overwrite_was Recover hold i e = e
overwrite_was All hold i e = e

overwrite_moved : (s : Standing) (plan : Plan) (hold : Hold) (i : ℕ) → after_move s plan hold i ≡ Overwrite → plan ≡ Overwrite
overwrite_moved InSync plan hold i e = e
overwrite_moved Target plan hold i e = overwrite_was plan hold i e
overwrite_moved Out plan hold i e = e

pub plan_was : (plan : Plan) (hold : Hold) (event : Event) → plan_after plan hold event ≡ Overwrite → plan ≡ Overwrite
plan_was plan hold (Asks i) e = e
plan_was plan hold (Fixes i block) e = e
plan_was plan hold (AsksAgain i) e = e
plan_was plan hold (Restores i block) e = e
plan_was plan hold (Computes new) e = e
plan_was plan hold (Writes i put) e = e
plan_was plan hold (Gives i block) e = e
plan_was plan hold (Fails i) e = absurd (never plan e)
  where
    never : (plan : Plan) → after_error plan ≡ Overwrite → ⊥
    never One e = cc
    never Reconstruct e = cc
    never Modify e = cc
    never Overwrite e = cc
    never Recover e = cc
    never All e = cc
plan_was plan hold (Confirms i) e = e
plan_was plan hold (Mends i) e = e
plan_was plan hold (Copies i put) e = e
plan_was plan hold (Settles i) e = e
plan_was plan hold (Loses i) e = overwrite_was plan hold i e
plan_was plan hold (Moves i) e = overwrite_moved (cell_at hold.cells i).second plan hold i e
plan_was plan hold (Drops i) e = e

one_lost : (plan : Plan) (hold : Hold) (i : ℕ) → after_loss plan hold i ≡ One → plan ≡ One
one_lost One hold i e = refl
one_lost Reconstruct hold i e = absurd (by_test (is_served Reconstruct hold i) e)
  where
    by_test : (b : Bool) → (if b then Reconstruct else Recover) ≡ One → ⊥
    by_test true e = cc
    by_test false e = cc
one_lost Modify hold i e = absurd (by_test (is_served Modify hold i || is_parity hold i) e)
  where
    by_test : (b : Bool) → (if b then Modify else Recover) ≡ One → ⊥
    by_test true e = cc
    by_test false e = cc
one_lost Overwrite hold i e = e
one_lost Recover hold i e = e
one_lost All hold i e = e

-- a plan that reads one block did before
pub one_was : (plan : Plan) (hold : Hold) (event : Event) → plan_after plan hold event ≡ One → plan ≡ One
one_was plan hold (Asks i) e = e
one_was plan hold (Fixes i block) e = e
one_was plan hold (AsksAgain i) e = e
one_was plan hold (Restores i block) e = e
one_was plan hold (Computes new) e = e
one_was plan hold (Writes i put) e = e
one_was plan hold (Gives i block) e = e
one_was plan hold (Fails i) e = absurd (never plan e)
  where
    never : (plan : Plan) → after_error plan ≡ One → ⊥
    never One e = cc
    never Reconstruct e = cc
    never Modify e = cc
    never Overwrite e = cc
    never Recover e = cc
    never All e = cc
one_was plan hold (Confirms i) e = e
one_was plan hold (Mends i) e = e
one_was plan hold (Copies i put) e = e
one_was plan hold (Settles i) e = e
one_was plan hold (Loses i) e = one_lost plan hold i e
one_was plan hold (Moves i) e = by_second (cell_at hold.cells i).second e
  where
    by_second : (s : Standing) → after_move s plan hold i ≡ One → plan ≡ One
    by_second InSync e = e
    by_second Target e = one_lost plan hold i e
    by_second Out e = e
one_was plan hold (Drops i) e = e

-- a plan with which read errors are fixed
abbrev pub IsMendingPlan : Plan → Type 0
IsMendingPlan One = ⊥
IsMendingPlan Reconstruct = ⊥
IsMendingPlan Modify = ⊥
IsMendingPlan Overwrite = ⊥
IsMendingPlan Recover = ⊤
IsMendingPlan All = ⊤

pub mending_stays : (plan : Plan) (hold : Hold) (event : Event) → IsMendingPlan plan → IsMendingPlan (plan_after plan hold event)
mending_stays Recover hold (Asks i) h = h
mending_stays Recover hold (Fixes i block) h = h
mending_stays Recover hold (AsksAgain i) h = h
mending_stays Recover hold (Restores i block) h = h
mending_stays Recover hold (Computes new) h = h
mending_stays Recover hold (Writes i put) h = h
mending_stays Recover hold (Gives i block) h = h
mending_stays Recover hold (Fails i) h = h
mending_stays Recover hold (Confirms i) h = h
mending_stays Recover hold (Mends i) h = h
mending_stays Recover hold (Copies i put) h = h
mending_stays Recover hold (Settles i) h = h
mending_stays Recover hold (Loses i) h = h
mending_stays Recover hold (Moves i) h = by_second (cell_at hold.cells i).second
  where
    by_second : (s : Standing) → IsMendingPlan (after_move s Recover hold i)
    by_second InSync = tt
    by_second Target = tt
    by_second Out = tt
mending_stays Recover hold (Drops i) h = h
mending_stays All hold (Asks i) h = h
mending_stays All hold (Fixes i block) h = h
mending_stays All hold (AsksAgain i) h = h
mending_stays All hold (Restores i block) h = h
mending_stays All hold (Computes new) h = h
mending_stays All hold (Writes i put) h = h
mending_stays All hold (Gives i block) h = h
mending_stays All hold (Fails i) h = h
mending_stays All hold (Confirms i) h = h
mending_stays All hold (Mends i) h = h
mending_stays All hold (Copies i put) h = h
mending_stays All hold (Settles i) h = h
mending_stays All hold (Loses i) h = h
mending_stays All hold (Moves i) h = by_second (cell_at hold.cells i).second
  where
    by_second : (s : Standing) → IsMendingPlan (after_move s All hold i)
    by_second InSync = tt
    by_second Target = tt
    by_second Out = tt
mending_stays All hold (Drops i) h = h
mending_stays _ hold event h = absurd h

-- the first read was put out
abbrev pub IsTried : Reading → Type 0
IsTried Unread = ⊥
IsTried Recalled = ⊤
IsTried Asked = ⊤
IsTried Unreadable = ⊤
IsTried Fixing = ⊤
IsTried Fixed = ⊤
IsTried AskedAgain = ⊤
IsTried (Known block) = ⊤
IsTried Replaced = ⊤

-- what may be of the read of a target: it may be known of the device that was there before
abbrev pub IsTargetRead : Reading → Type 0
IsTargetRead Unread = ⊤
IsTargetRead Recalled = ⊥
IsTargetRead Asked = ⊥
IsTargetRead Unreadable = ⊥
IsTargetRead Fixing = ⊥
IsTargetRead Fixed = ⊥
IsTargetRead AskedAgain = ⊥
IsTargetRead (Known block) = ⊤
IsTargetRead Replaced = ⊤

-- new blocks were computed for the position
abbrev pub IsComputed : Cell → Type 0
IsComputed cell = (cell.writing ≢ Unwritten) ⊎ (cell.copying ≢ Unwritten)

-- what was read gave way to a new block, for each device in sync, or for the target of a rebuild, which may be lost since
pub record IsReplaced (kind : Kind) (position : ℕ) (cell : Cell) : Type 0 where
  pub own : (own_writing cell ≢ Unwritten)
      ⊎ ((kind ≡ Rebuild position) × (cell.standing ≢ Target) × (cell.second ≢ Target))
  pub both : cell.second ≡ InSync → (cell.writing ≢ Unwritten) × (cell.copying ≢ Unwritten)

-- both devices have new blocks, or neither
pub record IsPaired (cell : Cell) : Type 0 where
  pub first : cell.writing ≢ Unwritten → cell.copying ≢ Unwritten
  pub second : cell.copying ≢ Unwritten → cell.writing ≢ Unwritten
