-- While a hold goes on what its plan wants and doesn't know is in sync: what that says, and what an event leaves known.
use Rattle.std.proofs.Common.{◌≡◌, ◌⊎◌, inl, inr, ℕ, zero, suc, ◌-◌, ◌<◌, Bool, true, false, List, [], ◌∷◌, length, refl, sym, ◌∙◌, ap, subst, arith}
use Rattle.std.specs.Prelude.{◌&&◌, not, nat_le}
use Rattle.std.specs.List.{list_any}
use Rattle.std.proofs.lemmas.Bool.{and_parts, and_from, or_cases, or_left, or_right, le-leb, leb-true}
use Rattle.r6_stripe.specs.Holds.{Standing, Reading, Cell, Kind, Hold, Event, cell_at, is_known, all_known, known_count, replaced, reading_after, ready_for, IsUnasked, after_event}
use Rattle.r6_stripe.specs.Holds.Standing.{InSync, Target, Out}
use Rattle.r6_stripe.specs.Holds.Reading.{Unread, Recalled, Asked, Unreadable, Fixing, Fixed, AskedAgain, Known, Replaced}
use Rattle.r6_stripe.specs.Holds.Event.{Asks, Fixes, AsksAgain, Restores, Computes, Writes, Copies, Gives, Fails, Confirms, Mends, Settles, Loses, Moves, Drops}
use Rattle.r6_stripe.specs.Plans.{Plan, Planned, is_out, is_in_error, can_fix, is_parity, is_served, is_served_or_dropped, puts_data, is_its_block, wants, each_below, is_enough, MayFollow}
use Rattle.r6_stripe.specs.Plans.Next.{ReadAt, FixAt, ReadAgainAt, ComputeNew}
use Rattle.r6_stripe.specs.Plans.Plan.{One, Reconstruct, Modify, Overwrite, Recover, All}
use Rattle.r6_stripe.proofs.Blocks.{all_known_at}
use Rattle.r6_stripe.proofs.Counts.{count_grows}
use Rattle.r6_stripe.proofs.CellsAfter.{out_after, Became, cell_after, width_after, kind_after}
use Rattle.r6_stripe.proofs.KindPlans.{IsComputed}
use Rattle.r6_stripe.proofs.OnCourse.{computed_before, at_place}
use Rattle.r6_stripe.proofs.Over.{each_below_at}
use Rattle.r6_stripe.proofs.Steps.{out_is, comes, unasked_parts, error_parts, again_parts, enough_parts}

pub all_known_from : (cells : List Cell) → ((j : ℕ) → j < length cells → is_known (cell_at cells j).reading ≡ true) → all_known cells ≡ true
all_known_from [] h = refl
all_known_from (cell ∷ cells) h = and_from (is_known cell.reading) (all_known cells) (h 0 (omega arith)) (all_known_from cells (λ j below. h (suc j) (omega arith)))

pub each_below_from : (test : ℕ → Bool) (count : ℕ) → ((j : ℕ) → j < count → test j ≡ true) → each_below test count ≡ true
each_below_from test zero h = refl
each_below_from test (suc count) h = and_from (test count) (each_below test count) (h count (omega arith)) (each_below_from test count (λ j below. h j (omega arith)))

pub any_at : (test : Cell → Bool) (cells : List Cell) → list_any test cells ≡ true → (j : ℕ) × (test (cell_at cells j) ≡ true)
any_at test [] h = absurd cc
any_at test (cell ∷ cells) h = by_test (or_cases (test cell) (list_any test cells) h) (any_at test cells)
  where
    by_test : (test cell ≡ true) ⊎ (list_any test cells ≡ true) → (list_any test cells ≡ true → (j : ℕ) × (test (cell_at cells j) ≡ true)) → (j : ℕ) × (test (cell_at (cell ∷ cells) j) ≡ true)
    by_test (inl here) later = (0, here)
    by_test (inr there) later = let found = later there in (suc found.0, found.1)

module _ (hold later : Hold) (kinds : hold.kind ≡ later.kind) (widths : length later.cells ≡ length hold.cells)
    (more_known : (j : ℕ) → is_known (cell_at hold.cells j).reading ≡ true → is_known (cell_at later.cells j).reading ≡ true)
    (more_out : (j : ℕ) → is_out (cell_at hold.cells j).standing ≡ true → is_out (cell_at later.cells j).standing ≡ true) where
  same_parity : (j : ℕ) → is_parity hold j ≡ is_parity later j
  same_parity j = ap (λ (n : ℕ). nat_le (n - 2) j) (sym widths)

  pub same_wants : (plan : Plan) (j : ℕ) → wants plan hold j ≡ wants plan later j
  same_wants One j = ap (λ (k : Kind). is_its_block k j) kinds
  same_wants Reconstruct j = rw (kinds, ← widths) refl
  same_wants Modify j = rw (kinds, ← widths) refl
  same_wants Overwrite j = refl
  same_wants Recover j = refl
  same_wants All j = refl

  served_still : (plan : Plan) (j : ℕ) → is_served plan hold j ≡ true → is_served plan later j ≡ true
  served_still plan j h =
      elim (or_cases (not (wants plan hold j)) (is_known (cell_at hold.cells j).reading) h) [
        | inl n ↦ or_left (not (wants plan later j)) (is_known (cell_at later.cells j).reading) (subst (λ (b : Bool). not b ≡ true) (same_wants plan j) n)
        | inr k ↦ or_right (not (wants plan later j)) (is_known (cell_at later.cells j).reading) (more_known j k)
      ]

  all_served_still : (plan : Plan) → each_below (is_served plan hold) (length hold.cells) ≡ true → each_below (is_served plan later) (length later.cells) ≡ true
  all_served_still plan h =
      each_below_from (is_served plan later) (length later.cells) (λ j below. served_still plan j (each_below_at (is_served plan hold) (length hold.cells) j h (omega arith)))

  pub enough_still : (plan : Plan) → is_enough plan hold ≡ true → is_enough plan later ≡ true
  enough_still One h = all_served_still One h
  enough_still Reconstruct h = all_served_still Reconstruct h
  enough_still Modify h =
      each_below_from (is_served_or_dropped later) (length later.cells)
      (λ j below. elim (or_cases (is_served Modify hold j) (is_parity hold j && is_out (cell_at hold.cells j).standing)
      (each_below_at (is_served_or_dropped hold) (length hold.cells) j h (omega arith))) [
        | inl r ↦ or_left (is_served Modify later j) (is_parity later j && is_out (cell_at later.cells j).standing) (served_still Modify j r)
        | inr p ↦ or_right (is_served Modify later j) (is_parity later j && is_out (cell_at later.cells j).standing)
            (let parts = and_parts (is_parity hold j) (is_out (cell_at hold.cells j).standing) p in
            and_from (is_parity later j) (is_out (cell_at later.cells j).standing) (sym (same_parity j) ∙ parts.0) (more_out j parts.1))
      ])
  enough_still Overwrite h = refl
  enough_still Recover h =
      le-leb (length later.cells - 2) (known_count later.cells)
      (omega (arith, leb-true (length hold.cells - 2) (known_count hold.cells) h, count_grows (λ cell. is_known cell.reading) (λ cell. is_known cell.reading) hold.cells later.cells widths more_known))
  enough_still All h = all_known_from later.cells (λ j below. more_known j (all_known_at hold.cells j h (omega arith)))

-- what each plan wants and doesn't know is in sync
abbrev pub Strict : Plan → Hold → ℕ → Type 0
Strict One hold j = wants One hold j ≡ true
Strict Reconstruct hold j = wants Reconstruct hold j ≡ true
Strict Modify hold j = puts_data hold.kind j ≡ true
Strict Overwrite hold j = ⊥
Strict Recover hold j = ⊥
Strict All hold j = (hold.cut_short ≡ false) × (j < length hold.cells)

pub record Going (planned : Planned) : Type 0 where
  pub wanted : (j : ℕ) → Strict planned.plan planned.hold j → ((cell_at planned.hold.cells j).standing ≡ InSync) ⊎ (is_known (cell_at planned.hold.cells j).reading ≡ true)
  pub enough : (j : ℕ) → IsComputed (cell_at planned.hold.cells j) → is_enough planned.plan planned.hold ≡ true

-- ---- what an event leaves known, and what it leaves unwritten

replaced_known : (r : Reading) → is_known (replaced r) ≡ is_known r
replaced_known Unread = refl
replaced_known Recalled = refl
replaced_known Asked = refl
replaced_known Unreadable = refl
replaced_known Fixing = refl
replaced_known Fixed = refl
replaced_known AskedAgain = refl
replaced_known (Known block) = refl
replaced_known Replaced = refl

ready_known : (t : Standing) (c : Cell) (block : List ℕ) → is_known (ready_for t c block).reading ≡ is_known c.reading
ready_known InSync c block = replaced_known c.reading
ready_known Target c block = replaced_known c.reading
ready_known Out c block = replaced_known c.reading

moved_known : (t : Standing) (r : Reading) → is_known r ≡ true → is_known (reading_after t r) ≡ true
moved_known InSync Unread k = absurd cc
moved_known InSync Recalled k = absurd cc
moved_known InSync Asked k = absurd cc
moved_known InSync Unreadable k = absurd cc
moved_known InSync Fixing k = absurd cc
moved_known InSync Fixed k = absurd cc
moved_known InSync AskedAgain k = absurd cc
moved_known InSync (Known block) k = refl
moved_known InSync Replaced k = refl
moved_known Target Unread k = absurd cc
moved_known Target Recalled k = absurd cc
moved_known Target Asked k = absurd cc
moved_known Target Unreadable k = absurd cc
moved_known Target Fixing k = absurd cc
moved_known Target Fixed k = absurd cc
moved_known Target AskedAgain k = absurd cc
moved_known Target (Known block) k = refl
moved_known Target Replaced k = refl
moved_known Out Unread k = absurd cc
moved_known Out Recalled k = absurd cc
moved_known Out Asked k = absurd cc
moved_known Out Unreadable k = absurd cc
moved_known Out Fixing k = absurd cc
moved_known Out Fixed k = absurd cc
moved_known Out AskedAgain k = absurd cc
moved_known Out (Known block) k = refl
moved_known Out Replaced k = refl

unasked_unknown : (r : Reading) → IsUnasked r → is_known r ≡ true → ⊥
unasked_unknown Unread h k = cc
unasked_unknown Recalled h k = cc
unasked_unknown Asked h k = h
unasked_unknown Unreadable h k = h
unasked_unknown Fixing h k = h
unasked_unknown Fixed h k = h
unasked_unknown AskedAgain h k = h
unasked_unknown (Known block) h k = h
unasked_unknown Replaced h k = h

known_became : (planned : Planned) (event : Event) (j : ℕ) (later : Cell) → MayFollow planned event → Became event j (cell_at planned.hold.cells j) later → is_known (cell_at planned.hold.cells j).reading ≡ true → is_known later.reading ≡ true
known_became planned (Asks i) j later may b k =
    absurd (unasked_unknown (cell_at planned.hold.cells j).reading (at_place planned (λ c. IsUnasked c.reading) i j b.0 (unasked_parts planned.plan planned.hold i (comes planned (ReadAt i) may).2)) k)
known_became planned (Fixes i block) j later may b k =
    absurd (let r = at_place planned (λ c. c.reading ≡ Unreadable) i j b.0 (error_parts (cell_at planned.hold.cells i) (and_parts (can_fix planned.hold) (is_in_error (cell_at planned.hold.cells i)) (comes planned (FixAt i) may.0).3).1).1 in
    let f : is_known Unreadable ≡ true = subst (λ (x : Reading). is_known x ≡ true) r k in cc)
known_became planned (AsksAgain i) j later may b k =
    absurd (let r = at_place planned (λ c. c.reading ≡ Fixed) i j b.0 (again_parts planned.hold i (comes planned (ReadAgainAt i) may).3).1 in
    let f : is_known Fixed ≡ true = subst (λ (x : Reading). is_known x ≡ true) r k in cc)
known_became planned (Fails i) j later may b k =
    absurd (let r = at_place planned (λ c. c.reading ≡ Asked) i j b.0 may.1 in let f : is_known Asked ≡ true = subst (λ (x : Reading). is_known x ≡ true) r k in cc)
known_became planned (Mends i) j later may b k =
    absurd (let r = at_place planned (λ c. c.reading ≡ Fixing) i j b.0 may.1 in let f : is_known Fixing ≡ true = subst (λ (x : Reading). is_known x ≡ true) r k in cc)
known_became planned (Restores i block) j later may b k = ap (λ (c : Cell). is_known c.reading) b.1
known_became planned (Computes new) j later may b k = ap (λ (c : Cell). is_known c.reading) b.1.1 ∙ ready_known (cell_at planned.hold.cells j).second (cell_at planned.hold.cells j) b.1.0 ∙ k
known_became planned (Writes i block) j later may b k = ap (λ (c : Cell). is_known c.reading) b.1 ∙ k
known_became planned (Gives i block) j later may b k = ap (λ (c : Cell). is_known c.reading) b.1
known_became planned (Confirms i) j later may b k = ap (λ (c : Cell). is_known c.reading) b.1 ∙ k
known_became planned (Loses i) j later may b k = ap (λ (c : Cell). is_known c.reading) b.1 ∙ k
known_became planned (Copies i block) j later may b k = ap (λ (c : Cell). is_known c.reading) b.1 ∙ k
known_became planned (Settles i) j later may b k = ap (λ (c : Cell). is_known c.reading) b.1 ∙ k
known_became planned (Drops i) j later may b k = ap (λ (c : Cell). is_known c.reading) b.1 ∙ k
known_became planned (Moves i) j later may b k = ap (λ (c : Cell). is_known c.reading) b.1 ∙ moved_known (cell_at planned.hold.cells j).second (cell_at planned.hold.cells j).reading k

pub known_after : (planned : Planned) (event : Event) → MayFollow planned event → (j : ℕ) → is_known (cell_at planned.hold.cells j).reading ≡ true → is_known (cell_at (after_event planned.hold event).cells j).reading ≡ true
known_after planned event may j k =
    elim (cell_after planned.hold event j) [
      | inl same ↦ ap (λ (c : Cell). is_known c.reading) same ∙ k
      | inr became ↦ known_became planned event j (cell_at (after_event planned.hold event).cells j) may became k
    ]

pub out_still : (planned : Planned) (event : Event) → MayFollow planned event → (j : ℕ) → is_out (cell_at planned.hold.cells j).standing ≡ true → is_out (cell_at (after_event planned.hold event).cells j).standing ≡ true
out_still planned event may j o = ap is_out (out_after planned event may j (out_is (cell_at planned.hold.cells j).standing o))

pub enough_after : (planned : Planned) (event : Event) → MayFollow planned event → is_enough planned.plan planned.hold ≡ true → is_enough planned.plan (after_event planned.hold event) ≡ true
enough_after planned event may h =
    enough_still planned.hold (after_event planned.hold event) (sym (kind_after planned.hold event)) (width_after planned.hold event) (known_after planned event may) (out_still planned event may) planned.plan h

-- where a position has a new block, enough was known before the event
pub enough_before_it : (planned : Planned) (event : Event) → MayFollow planned event → Going planned → (j : ℕ) → IsComputed (cell_at (after_event planned.hold event).cells j) → is_enough planned.plan planned.hold ≡ true
enough_before_it planned event may going j w =
    elim (computed_before planned event may j w) [
      | inl was ↦ going.enough j was
      | inr now ↦ (enough_parts planned.plan planned.hold (comes planned ComputeNew (subst (MayFollow planned) now.1 may).0).2).0
    ]
