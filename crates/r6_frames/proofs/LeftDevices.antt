-- What is left of a position of which a device goes: its standings, its commands, and which of its buffers are whose.
use Rattle.std.proofs.Common.{◌≡◌, ◌≢◌, ℕ, zero, suc, ◌+◌, ◌<◌, Bool, true, false, List, [], ◌∷◌, ◌++◌, length, set, get_or, Some, None, inl, inr, refl, sym, ap, ◌∙◌, arith, cond}
use Rattle.std.specs.Prelude.{nat_eq, ◌||◌, ◌&&◌, ◌==◌, not}
use Rattle.std.proofs.lemmas.Bool.{cases_Bool, eq-eqb, eqb-true, ne_eqb}
use Rattle.std.proofs.lemmas.List.{get_or_append_left}
use Rattle.r6_stripe.specs.Holds.{Cell, Reading, Standing, moved, reading_after, read_again, read_no_more}
use Rattle.r6_stripe.specs.Holds.Standing.{InSync, Target, Out}
use Rattle.r6_stripe.specs.Holds.Reading.{Unread, Recalled, Asked, Unreadable, Fixing, Fixed, AskedAgain, Known, Replaced}
use Rattle.r6_stripe.specs.Plans.{is_asked, is_asked_again, is_fixing, is_sent}
use Rattle.r6_stripe.specs.Steps.{Held, is_away as is_away_at}
use Rattle.r6_frames.specs.declared.rebuilt.Target.{Target as TargetDevice}
use Rattle.r6_frames.specs.declared.successor.Successor.{Successor}
use Rattle.r6_frames.specs.declared.successor.Successor.TheVariants as successor
use Rattle.r6_frames.specs.Successors as successors
use Rattle.r6_frames.specs.Successors.{beside_in, is_own}
use Rattle.r6_frames.specs.Sound.{count_home, is_buffer_away, is_put_out, is_write_put_out}
use Rattle.r6_frames.proofs.Devices.{left_of}

-- ---- what is left of two standings

pub left_same : (a b : Standing) (x y : Bool) → (b ≢ Out → a ≢ Out) → (a ≢ Out → x ≡ true) → (b ≢ Out → y ≡ true) → left_of (a, b) x y ≡ (a, b)
left_same Out Out x y beside first second = refl
left_same Out InSync x y beside first second = absurd (beside (λ e. (cc)) refl)
left_same Out Target x y beside first second = absurd (beside (λ e. (cc)) refl)
left_same InSync Out x y beside first second = ap (λ (b : Bool). left_of (InSync, Out) b y) (first (λ e. (cc)))
left_same Target Out x y beside first second = ap (λ (b : Bool). left_of (Target, Out) b y) (first (λ e. (cc)))
left_same InSync InSync x y beside first second = (λ i. left_of (InSync, InSync) (first (λ e. (cc)) i) (second (λ e. (cc)) i))
left_same InSync Target x y beside first second = (λ i. left_of (InSync, Target) (first (λ e. (cc)) i) (second (λ e. (cc)) i))
left_same Target InSync x y beside first second = (λ i. left_of (Target, InSync) (first (λ e. (cc)) i) (second (λ e. (cc)) i))
left_same Target Target x y beside first second = (λ i. left_of (Target, Target) (first (λ e. (cc)) i) (second (λ e. (cc)) i))

pub left_lost : (a b : Standing) (x y : Bool) → x ≡ false → (b ≢ Out → y ≡ false) → left_of (a, b) x y ≡ (Out, Out)
left_lost Out b x y first second = refl
left_lost InSync Out x y first second = ap (λ (c : Bool). left_of (InSync, Out) c y) first
left_lost Target Out x y first second = ap (λ (c : Bool). left_of (Target, Out) c y) first
left_lost InSync InSync x y first second = (λ i. left_of (InSync, InSync) (first i) (second (λ e. (cc)) i))
left_lost InSync Target x y first second = (λ i. left_of (InSync, Target) (first i) (second (λ e. (cc)) i))
left_lost Target InSync x y first second = (λ i. left_of (Target, InSync) (first i) (second (λ e. (cc)) i))
left_lost Target Target x y first second = (λ i. left_of (Target, Target) (first i) (second (λ e. (cc)) i))

pub left_moved : (a b : Standing) (x y : Bool) → a ≢ Out → b ≢ Out → x ≡ false → y ≡ true → left_of (a, b) x y ≡ (b, Out)
left_moved Out b x y there two first second = absurd (there refl)
left_moved a Out x y there two first second = absurd (two refl)
left_moved InSync InSync x y there two first second = (λ i. left_of (InSync, InSync) (first i) (second i))
left_moved InSync Target x y there two first second = (λ i. left_of (InSync, Target) (first i) (second i))
left_moved Target InSync x y there two first second = (λ i. left_of (Target, InSync) (first i) (second i))
left_moved Target Target x y there two first second = (λ i. left_of (Target, Target) (first i) (second i))

pub left_dropped : (a b : Standing) (x y : Bool) → a ≢ Out → b ≢ Out → x ≡ true → y ≡ false → left_of (a, b) x y ≡ (a, Out)
left_dropped Out b x y there two first second = absurd (there refl)
left_dropped a Out x y there two first second = absurd (two refl)
left_dropped InSync InSync x y there two first second = (λ i. left_of (InSync, InSync) (first i) (second i))
left_dropped InSync Target x y there two first second = (λ i. left_of (InSync, Target) (first i) (second i))
left_dropped Target InSync x y there two first second = (λ i. left_of (Target, InSync) (first i) (second i))
left_dropped Target Target x y there two first second = (λ i. left_of (Target, Target) (first i) (second i))

-- ---- nothing of a position is put out to a device that has got the other's place, but for its write

quiet_again : (r : Reading) → ((is_asked (read_again r) || is_asked_again (read_again r)) ≡ false) × (is_fixing (read_again r) ≡ false)
quiet_again Unread = (refl, refl)
quiet_again Recalled = (refl, refl)
quiet_again Asked = (refl, refl)
quiet_again Unreadable = (refl, refl)
quiet_again Fixing = (refl, refl)
quiet_again Fixed = (refl, refl)
quiet_again AskedAgain = (refl, refl)
quiet_again (Known block) = (refl, refl)
quiet_again Replaced = (refl, refl)

quiet_no_more : (r : Reading) → ((is_asked (read_no_more r) || is_asked_again (read_no_more r)) ≡ false) × (is_fixing (read_no_more r) ≡ false)
quiet_no_more Unread = (refl, refl)
quiet_no_more Recalled = (refl, refl)
quiet_no_more Asked = (refl, refl)
quiet_no_more Unreadable = (refl, refl)
quiet_no_more Fixing = (refl, refl)
quiet_no_more Fixed = (refl, refl)
quiet_no_more AskedAgain = (refl, refl)
quiet_no_more (Known block) = (refl, refl)
quiet_no_more Replaced = (refl, refl)

quiet_after : (s : Standing) (r : Reading) → ((is_asked (reading_after s r) || is_asked_again (reading_after s r)) ≡ false) × (is_fixing (reading_after s r) ≡ false)
quiet_after InSync r = quiet_again r
quiet_after Target r = quiet_no_more r
quiet_after Out r = quiet_no_more r

pub moved_writes : (cell : Cell) → is_write_put_out (moved cell) ≡ is_sent cell.copying
moved_writes cell = ap (λ (b : Bool). b || is_sent cell.copying) (quiet_after cell.second cell.reading).1

pub moved_put_out : (cell : Cell) → is_put_out (moved cell) ≡ is_sent cell.copying
moved_put_out cell = ap (λ (b : Bool). b || is_write_put_out (moved cell)) (quiet_after cell.second cell.reading).0 ∙ moved_writes cell

-- ---- a second device of the row

-- it stands in the slot in which it was found
pub beside_is : (s : Successor) (slot generation : ℕ) → beside_in s slot ≡ Some generation → (t : TargetDevice) × (s ≡ successor.Beside t) × (t.slot ≡ slot) × (t.generation ≡ generation)
beside_is successor.None slot generation is = absurd (cc)
beside_is (successor.Beside t) slot generation is = elim (cases_Bool (t.slot == slot)) [
  | inl own ↦
      let there : Some t.generation ≡ Some generation = sym (ap (λ (b : Bool). cond b (Some t.generation) None) own) ∙ is in
      let same : t.generation ≡ generation = cc in (t, refl, eqb-true t.slot slot own, same)
  | inr other ↦ let none : None ≡ Some generation = sym (ap (λ (b : Bool). cond b (Some t.generation) None) other) ∙ is in absurd (cc)
]
beside_is (successor.InPlace t) slot generation is = absurd (cc)
beside_is (successor.Dropped t) slot generation is = absurd (cc)

pub dropped_own : (s : Successor) (slot : ℕ) → beside_in (successors.dropped s slot) slot ≡ None
dropped_own successor.None slot = refl
dropped_own (successor.Beside t) slot = elim (cases_Bool (t.slot == slot)) [
  | inl own ↦ ap (λ (b : Bool). beside_in (cond b (successor.Dropped t) (successor.Beside t)) slot) own
  | inr other ↦ ap (λ (b : Bool). beside_in (cond b (successor.Dropped t) (successor.Beside t)) slot) other ∙ ap (λ (b : Bool). cond b (Some t.generation) None) other
]
dropped_own (successor.InPlace t) slot = refl
dropped_own (successor.Dropped t) slot = refl

pub dropped_other : (s : Successor) (slot other : ℕ) → other ≢ slot → beside_in (successors.dropped s slot) other ≡ beside_in s other
dropped_other successor.None slot other ne = refl
dropped_other (successor.Beside t) slot other ne = elim (cases_Bool (t.slot == slot)) [
  | inl own ↦
      ap (λ (b : Bool). beside_in (cond b (successor.Dropped t) (successor.Beside t)) other) own
      ∙ sym (ap (λ (b : Bool). cond b (Some t.generation) None) (ne_eqb t.slot other (λ same. ne (sym same ∙ eqb-true t.slot slot own))))
  | inr no_one ↦ ap (λ (b : Bool). beside_in (cond b (successor.Dropped t) (successor.Beside t)) other) no_one
]
dropped_other (successor.InPlace t) slot other ne = refl
dropped_other (successor.Dropped t) slot other ne = refl

pub own_dropped : (s : Successor) (slot at generation : ℕ) → is_own (successors.dropped s slot) at generation ≡ is_own s at generation
own_dropped successor.None slot at generation = refl
own_dropped (successor.Beside t) slot at generation =
    elim (t.slot == slot) as (λ b. is_own (cond b (successor.Dropped t) (successor.Beside t)) at generation ≡ is_own (successor.Beside t) at generation) [ true ↦ refl | false ↦ refl ]
own_dropped (successor.InPlace t) slot at generation = refl
own_dropped (successor.Dropped t) slot at generation = refl

-- ---- the buffers of a row

pub buffer_own : (r : Held) (b : ℕ) → b < length r.away → is_buffer_away r b ≡ is_away_at r b
buffer_own r b below = get_or_append_left r.away (r.second_away ∷ []) false b below

pub buffer_apart : (r : Held) → is_buffer_away r (length r.away) ≡ r.second_away
buffer_apart r = last r.away
  where
    last : (away : List Bool) → get_or (away ++ r.second_away ∷ []) (length away) false ≡ r.second_away
    last [] = refl
    last (a ∷ away) = last away

-- which buffers are a position's own doesn't change in another slot when a device has the first one's place

pub still_own_moved : (t : TargetDevice) (other generation : ℕ) → t.slot ≢ other → is_own (successor.InPlace t) other generation ≡ is_own (successor.Beside t) other generation
still_own_moved t other generation ne = by_slot (nat_eq t.slot other) (ne_eqb t.slot other ne)
  where
    by_slot : (b : Bool) → b ≡ false → not (b && not (nat_eq t.generation generation)) ≡ not (b && nat_eq t.generation generation)
    by_slot true is = absurd (cc)
    by_slot false is = refl

pub own_in_place : (t : TargetDevice) (slot generation : ℕ) → t.generation ≡ generation → is_own (successor.InPlace t) slot generation ≡ true
own_in_place t slot generation is = by_slot (nat_eq t.slot slot) (nat_eq t.generation generation) (eq-eqb t.generation generation is)
  where
    by_slot : (b c : Bool) → c ≡ true → not (b && not c) ≡ true
    by_slot true true is = refl
    by_slot false true is = refl
    by_slot b false is = absurd (cc)

-- two buffers are exchanged
pub home_swapped : (away : List Bool) (at : ℕ) (apart : Bool) → at < length away → count_home (set away at apart ++ get_or away at false ∷ []) ≡ count_home (away ++ apart ∷ [])
home_swapped [] at apart below = absurd (omega arith)
home_swapped (a ∷ away) zero apart below = omega (arith, home_behind away a, home_behind away apart)
  where
    home_behind : (xs : List Bool) (b : Bool) → count_home (xs ++ b ∷ []) ≡ count_home xs + cond b 0 1
    home_behind [] b = omega arith
    home_behind (x ∷ xs) b = omega (arith, home_behind xs b)
home_swapped (a ∷ away) (suc at) apart below = omega (arith, home_swapped away at apart (omega arith))
