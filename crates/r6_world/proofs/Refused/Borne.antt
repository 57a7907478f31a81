-- A hold at which nothing comes next loses nothing by a good completion: by an answer no fewer blocks can become known.
use Rattle.std.proofs.Common.{◌≡◌, ℕ, zero, suc, ◌+◌, ◌≤◌, ◌⊎◌, ◌==◌, [], ◌∷◌, set, Bool, true, false, length, inl, inr, refl, sym, ap, ◌∙◌, subst, arith, List, Some, None}
use Rattle.std.specs.Prelude.{nat_lt, ◌&&◌, ◌||◌, if◌then◌else◌, not}
use Rattle.std.specs.List.{list_any}
use Rattle.std.proofs.lemmas.Bool.{and_parts, cases_Bool, false≢true, ltb-true, lt-ltb}
use Rattle.r6_stripe.specs.PlanLaws.{sound_count}
use Rattle.r6_stripe.specs.Holds.{Cell, count_where, Hold as Course, Kind, Event, Reading, cell_at, after_event}
use Rattle.r6_stripe.specs.Holds.Kind.{Idle, Read, Write, Rebuild, Check, Repair}
use Rattle.r6_stripe.specs.Holds.Event.{Gives, Confirms, Mends, Settles, Fails}
use Rattle.r6_stripe.specs.Holds.Reading.{Unread, Recalled, Asked, Unreadable, Fixing, Fixed, AskedAgain, Known, Replaced}
use Rattle.r6_stripe.specs.Plans.{Plan, Planned, data_count, first_from, gives_up, has_lost, has_target, is_in_error, is_in_sync, is_knowable, is_next_move, is_unreadable, knowable_count, next, or_lose}
use Rattle.r6_stripe.specs.Plans.Next.{MoveAt, LoseUnreadable}
use Rattle.r6_stripe.specs.RowWorld.{confirming}
use Rattle.r6_stripe.proofs.CellsAfter.{cell_after, width_after}
use Rattle.r6_stripe.proofs.Counts.{count_grows}
use Rattle.r6_stripe.proofs.Going.{any_at}
use Rattle.r6_stripe.proofs.Steps.{comes, none_passes}
use Rattle.r6_world.specs.ShardStates.{SlotState, generation_in}
use Rattle.r6_world.specs.Changes.{confirmed_by}
use Rattle.r6_world.proofs.Tables.{None-not_Some}

-- where one cell changes, at most one passes less
pub set-one : (test : Cell → Bool) (cells : List Cell) (i : ℕ) (c : Cell) → count_where test cells ≤ count_where test (set cells i c) + 1
set-one test [] i c = omega arith
set-one test (cell ∷ cells) zero c = by (test cell) (test c)
  where
    by : (a b : Bool) → (if a then 1 else 0) + count_where test cells ≤ ((if b then 1 else 0) + count_where test cells) + 1
    by true true = omega arith
    by true false = omega arith
    by false true = omega arith
    by false false = omega arith
set-one test (cell ∷ cells) (suc i) c = let rest = set-one test cells i c in by (test cell) rest
  where
    by : (a : Bool) → count_where test cells ≤ count_where test (set cells i c) + 1 → (if a then 1 else 0) + count_where test cells ≤ ((if a then 1 else 0) + count_where test (set cells i c)) + 1
    by true h = omega arith
    by false h = omega arith

-- so a read error makes one position unsound at most
pub sound-failed : (course : Course) (at : ℕ) → sound_count course.cells ≤ sound_count (after_event course (Fails at)).cells + 1
sound-failed course at = set-one (λ cell. is_in_sync cell.standing && not (is_in_error cell)) course.cells at (record (cell_at course.cells at) { reading = Unreadable })

-- the hold loses a device next, or the slots of its read errors
abbrev pub IsLosing : Planned → Type 0
IsLosing p = (next p ≡ Some LoseUnreadable) ⊎ ((position : ℕ) × (next p ≡ Some (MoveAt position)))

in-error : (course : Course) (i : ℕ) → is_in_error (cell_at course.cells i) ≡ true → list_any is_in_error course.cells ≡ true
in-error course i here = elim (cases_Bool (list_any is_in_error course.cells)) [
  | inl e ↦ e
  | inr e ↦ absurd (false≢true (sym (none_passes is_in_error course.cells i refl e) ∙ here))
]

-- then too few blocks can become known, and there is a read error
abbrev TooFew : Planned → Type 0
TooFew p =
    (gives_up p.hold ≡ false) × (nat_lt (knowable_count p.hold.cells) (data_count p.hold) ≡ true)
    × (list_any is_in_error p.hold.cells ≡ true)

too-few : (p : Planned) → IsLosing p → TooFew p
too-few p (inl lose) = let c = comes p LoseUnreadable lose in (c.0, c.1, c.2)
too-few p (inr move) =
    let c = comes p (MoveAt move.0) move.1 in
    (c.0, c.1, in-error p.hold move.0 (and_parts _ _ c.2).0)

-- and where it is so something comes next
comes-next : (p : Planned) → TooFew p → next p ≡ None → ⊥
comes-next p few none =
    let is : next p ≡ Some (or_lose (first_from (is_next_move p.hold) 0 (length p.hold.cells))) = rw (few.0, few.1, few.2) refl in
    None-not_Some _ (sym none ∙ is)

-- whether a hold gives up
up-same : (course later : Course) → ((j : ℕ) → has_target (cell_at later.cells j) ≡ has_target (cell_at course.cells j)) → later.cut_short ≡ course.cut_short
    → (kind : Kind) → has_lost later kind ≡ has_lost course kind
up-same course later target cut Idle = refl
up-same course later target cut (Read index) = refl
up-same course later target cut (Write batch) = refl
up-same course later target cut (Rebuild at) = ap not (target at)
up-same course later target cut Check = cut
up-same course later target cut Repair = cut

-- an event by which no fewer blocks can become known, and no read error comes
record IsCalm (course : Course) (event : Event) : Type 0 where
  up : gives_up (after_event course event) ≡ gives_up course
  knows : (j : ℕ) → is_knowable (cell_at course.cells j) ≡ true → is_knowable (cell_at (after_event course event).cells j) ≡ true
  errs : (j : ℕ) → is_in_error (cell_at (after_event course event).cells j) ≡ true → is_in_error (cell_at course.cells j) ≡ true

calm : (course : Course) (plan : Plan) (event : Event) → IsCalm course event → next (record { hold = course; plan = plan }) ≡ None
    → IsLosing (record { hold = after_event course event; plan = plan }) → ⊥
calm course plan event x none losing =
    let later : Planned = record { hold = after_event course event; plan = plan } in
    let few = too-few later losing in
    let wide = width_after course event in
    let grows = count_grows is_knowable is_knowable course.cells (after_event course event).cells wide x.knows in
    let less = ltb-true (knowable_count (after_event course event).cells) (data_count (after_event course event)) few.1 in
    let meets = any_at is_in_error (after_event course event).cells few.2 in
    comes-next (record { hold = course; plan = plan })
    (sym x.up ∙ few.0, lt-ltb (knowable_count course.cells) (data_count course) (omega (arith, grows, less, wide)), in-error course meets.0 (x.errs meets.0 meets.1)) none

gives-calm : (course : Course) (at : ℕ) (b : List ℕ) → IsCalm course (Gives at b)
gives-calm course at b = record {
  up = up-same course (after_event course (Gives at b)) (λ j. elim (cell_after course (Gives at b) j) [ inl same ↦ ap has_target same | inr x ↦ ap has_target x.1 ]) refl course.kind;
  knows = λ j e. elim (cell_after course (Gives at b) j) [ inl same ↦ ap is_knowable same ∙ e | inr x ↦ ap is_knowable x.1 ];
  errs = λ j e. elim (cell_after course (Gives at b) j) [ inl same ↦ ap is_in_error (sym same) ∙ e | inr x ↦ absurd (false≢true (and_parts _ _ (ap is_in_error (sym x.1) ∙ e)).1) ];
}

confirms-calm : (course : Course) (at : ℕ) → IsCalm course (Confirms at)
confirms-calm course at = record {
  up = up-same course (after_event course (Confirms at)) (λ j. elim (cell_after course (Confirms at) j) [ inl same ↦ ap has_target same | inr x ↦ ap has_target x.1 ]) refl course.kind;
  knows = λ j e. elim (cell_after course (Confirms at) j) [ inl same ↦ ap is_knowable same ∙ e | inr x ↦ ap is_knowable x.1 ∙ e ];
  errs = λ j e. elim (cell_after course (Confirms at) j) [ inl same ↦ ap is_in_error (sym same) ∙ e | inr x ↦ ap is_in_error (sym x.1) ∙ e ];
}

settles-calm : (course : Course) (at : ℕ) → IsCalm course (Settles at)
settles-calm course at = record {
  up = up-same course (after_event course (Settles at)) (λ j. elim (cell_after course (Settles at) j) [ inl same ↦ ap has_target same | inr x ↦ ap has_target x.1 ]) refl course.kind;
  knows = λ j e. elim (cell_after course (Settles at) j) [ inl same ↦ ap is_knowable same ∙ e | inr x ↦ ap is_knowable x.1 ∙ e ];
  errs = λ j e. elim (cell_after course (Settles at) j) [ inl same ↦ ap is_in_error (sym same) ∙ e | inr x ↦ ap is_in_error (sym x.1) ∙ e ];
}

-- a fix that confirms was knowable before
fixing-known : (cell : Cell) → cell.reading ≡ Fixing → is_knowable cell ≡ true → is_knowable (record cell { reading = Fixed }) ≡ true
fixing-known cell fixing e = subst (λ r. is_knowable (record cell { reading = r }) ≡ true → is_knowable (record cell { reading = Fixed }) ≡ true) (sym fixing) (λ x. x) e

mends-calm : (course : Course) (at : ℕ) → (cell_at course.cells at).reading ≡ Fixing → IsCalm course (Mends at)
mends-calm course at fixing = record {
  up = up-same course (after_event course (Mends at)) (λ j. elim (cell_after course (Mends at) j) [ inl same ↦ ap has_target same | inr x ↦ ap has_target x.1 ]) refl course.kind;
  knows = λ j e. elim (cell_after course (Mends at) j) [
    | inl same ↦ ap is_knowable same ∙ e
    | inr x ↦ ap is_knowable x.1 ∙ fixing-known (cell_at course.cells j) (subst (λ k. (cell_at course.cells k).reading ≡ Fixing) (sym x.0) fixing) e
  ];
  errs = λ j e. elim (cell_after course (Mends at) j) [ inl same ↦ ap is_in_error (sym same) ∙ e | inr x ↦ absurd (false≢true (and_parts _ _ (ap is_in_error (sym x.1) ∙ e)).1) ];
}

confirming-calm : (course : Course) (at : ℕ) (r : Reading) → (cell_at course.cells at).reading ≡ r → IsCalm course (confirming r at)
confirming-calm course at Unread is = confirms-calm course at
confirming-calm course at Recalled is = confirms-calm course at
confirming-calm course at Asked is = confirms-calm course at
confirming-calm course at Unreadable is = confirms-calm course at
confirming-calm course at Fixing is = mends-calm course at is
confirming-calm course at Fixed is = confirms-calm course at
confirming-calm course at AskedAgain is = confirms-calm course at
confirming-calm course at (Known block) is = confirms-calm course at
confirming-calm course at Replaced is = confirms-calm course at

confirmed-calm : (course : Course) (state : SlotState) (g at : ℕ) → IsCalm course (confirmed_by state g (cell_at course.cells at).reading at)
confirmed-calm course state g at = by (generation_in state == g)
  where
    by : (b : Bool) → IsCalm course (if b then confirming (cell_at course.cells at).reading at else Settles at)
    by true = confirming-calm course at (cell_at course.cells at).reading refl
    by false = settles-calm course at

-- by a block that comes no hold begins to lose anything; nor by a write that is confirmed
pub gives-loses-none : (course : Course) (plan : Plan) (at : ℕ) (b : List ℕ) → next (record { hold = course; plan = plan }) ≡ None
    → IsLosing (record { hold = after_event course (Gives at b); plan = plan }) → ⊥
gives-loses-none course plan at b = calm course plan (Gives at b) (gives-calm course at b)

pub confirm-loses-none : (course : Course) (plan : Plan) (state : SlotState) (g at : ℕ) → next (record { hold = course; plan = plan }) ≡ None
    → IsLosing (record { hold = after_event course (confirmed_by state g (cell_at course.cells at).reading at); plan = plan }) → ⊥
confirm-loses-none course plan state g at = calm course plan _ (confirmed-calm course state g at)
