-- A hold with the target of a rebuild beside one position, by the hold without it: its positions, and what an event
-- makes of them.
use Rattle.std.proofs.Common.{◌≡◌, ◌≢◌, inl, inr, Bool, true, false, ℕ, ◌<◌, List, length, set, refl, sym, ◌∙◌, ap, subst}
use Rattle.std.specs.Prelude.{not, ◌&&◌, ◌||◌}
use Rattle.std.proofs.lemmas.Bool.{cases_eq}
use Rattle.std.proofs.lemmas.List.{get_or-set_other, get_or-set_same, length-set, set-set}
use Rattle.r6_stripe.specs.Holds.{Standing, Reading, Cell, cell_at, no_cell, is_known, replaced}
use Rattle.r6_stripe.specs.Holds.Standing.{InSync, Target, Out}
use Rattle.r6_stripe.specs.Holds.Reading.{Unread, Recalled, Asked, Unreadable, Fixing, Fixed, AskedAgain, Known, Replaced}
use Rattle.r6_stripe.specs.Plans as plans
use Rattle.r6_stripe.specs.Plans.{Plan, Planned, is_recalled, planned_after}
use Rattle.r6_stripe.specs.Plans.Plan.{One, Recover}
use Rattle.r6_stripe.specs.Replacements.{IsSource, given, is_gone, is_left, replacing, replacing_at, target_at}
use Rattle.r6_stripe.specs.declared.replacement.Stage.{Stage}
use Rattle.r6_stripe.specs.declared.replacement.Stage.TheVariants as stage
use Rattle.r6_stripe.specs.declared.replacement.Written.{Written}
use Rattle.r6_stripe.specs.declared.replacement.Written.TheVariants as written
use Rattle.r6_stripe.proofs.BesideEvents.{update_placed}

-- ---- one position

pub is_source : (cell : Cell) → IsSource cell → cell ≡ record no_cell { standing = cell.standing; reading = cell.reading }
is_source cell s = (λ k. record {
  standing = cell.standing;
  reading = cell.reading;
  writing = s.writing k;
  second = s.second k;
  copying = s.copying k;
  doubling = s.doubling k;
})

pub unwritten : (w : Written) → is_left w ≡ false → w ≡ written.Unwritten
unwritten written.Unwritten e = refl
unwritten written.Sent e = absurd cc
unwritten written.Confirmed e = absurd cc

pub given_same : (w : Written) (r : Reading) → w ≡ written.Unwritten → given w r ≡ r
given_same w r e = ap (λ (x : Written). given x r) e

-- a read that isn't over is none whose block left
pub read_put : (s : Stage) (w : Written) (c : Cell) (r : Reading) → given w r ≡ r → replacing s w (record c { reading = r }) ≡ record (replacing s w c) { reading = r }
read_put stage.Beside w c r e = ap (λ (x : Reading). record (replacing stage.Beside w c) { reading = x }) e
read_put stage.Moved w c r e = ap (λ (x : Reading). record (replacing stage.Moved w c) { reading = x }) e
read_put stage.Dropped w c r e = ap (λ (x : Reading). record (replacing stage.Dropped w c) { reading = x }) e

-- both devices are lost
pub lost_put : (s : Stage) (w : Written) (c : Cell) → replacing s w (record c { standing = Out; second = Out }) ≡ record (replacing s w c) { standing = Out; second = Out }
lost_put stage.Beside w c = refl
lost_put stage.Moved w c = refl
lost_put stage.Dropped w c = refl

pub reading_is : (s : Stage) (w : Written) (c : Cell) → (replacing s w c).reading ≡ given w c.reading
reading_is stage.Beside w c = refl
reading_is stage.Moved w c = refl
reading_is stage.Dropped w c = refl

pub out_is : (s : Stage) (w : Written) (c : Cell) → plans.is_out (replacing s w c).standing ≡ plans.is_out c.standing
out_is stage.Beside w c = refl
out_is stage.Moved w c = by_standing c.standing
  where
    by_standing : (t : Standing) → plans.is_out (target_at t) ≡ plans.is_out t
    by_standing InSync = refl
    by_standing Target = refl
    by_standing Out = refl
out_is stage.Dropped w c = refl

-- a test of the read that doesn't look at the block
pub given_test : (test : Reading → Bool) → ((block : List ℕ) → test (Known block) ≡ test Replaced) → (w : Written) (r : Reading) → test (given w r) ≡ test r
given_test test same written.Unwritten r = refl
given_test test same written.Sent r = replaced_test r
  where
    replaced_test : (r : Reading) → test (replaced r) ≡ test r
    replaced_test Unread = refl
    replaced_test Recalled = refl
    replaced_test Asked = refl
    replaced_test Unreadable = refl
    replaced_test Fixing = refl
    replaced_test Fixed = refl
    replaced_test AskedAgain = refl
    replaced_test (Known block) = sym (same block)
    replaced_test Replaced = refl
given_test test same written.Confirmed r = replaced_test r
  where
    replaced_test : (r : Reading) → test (replaced r) ≡ test r
    replaced_test Unread = refl
    replaced_test Recalled = refl
    replaced_test Asked = refl
    replaced_test Unreadable = refl
    replaced_test Fixing = refl
    replaced_test Fixed = refl
    replaced_test AskedAgain = refl
    replaced_test (Known block) = sym (same block)
    replaced_test Replaced = refl

pub read_test : (test : Reading → Bool) → ((block : List ℕ) → test (Known block) ≡ test Replaced) → (s : Stage) (w : Written) (c : Cell) → test (replacing s w c).reading ≡ test c.reading
read_test test same s w c = ap test (reading_is s w c) ∙ given_test test same w c.reading

-- a test of a read that isn't over, of a position that isn't out
pub live_test : (test : Reading → Bool) → ((block : List ℕ) → test (Known block) ≡ test Replaced) → (s : Stage) (w : Written) (c : Cell) →
    (not (plans.is_out (replacing s w c).standing) && test (replacing s w c).reading) ≡ (not (plans.is_out c.standing) && test c.reading)
live_test test same s w c = (λ k. not (out_is s w c k) && read_test test same s w c k)

pub known_is : (s : Stage) (w : Written) (c : Cell) → is_known (replacing s w c).reading ≡ is_known c.reading
known_is = read_test is_known (λ block. refl)

-- the test of one that is read, of a position in sync: a target in the first device's place has a known block
pub sync_test : (test : Reading → Bool) → ((block : List ℕ) → test (Known block) ≡ false) → test Replaced ≡ false → (s : Stage) (w : Written) (c : Cell) → (s ≡ stage.Moved → is_known c.reading ≡ true) →
    (plans.is_in_sync (replacing s w c).standing && test (replacing s w c).reading) ≡ (plans.is_in_sync c.standing && test c.reading)
sync_test test known gone stage.Beside w c there = ap (λ (b : Bool). plans.is_in_sync c.standing && b) (read_test test (λ block. known block ∙ sym gone) stage.Beside w c)
sync_test test known gone stage.Dropped w c there = ap (λ (b : Bool). plans.is_in_sync c.standing && b) (read_test test (λ block. known block ∙ sym gone) stage.Dropped w c)
sync_test test known gone stage.Moved w c there =
    never c.standing (test (given w c.reading)) ∙ sym (ap (λ (b : Bool). plans.is_in_sync c.standing && b) (none c.reading (there refl)) ∙ and_none (plans.is_in_sync c.standing))
  where
    never : (t : Standing) (b : Bool) → (plans.is_in_sync (target_at t) && b) ≡ false
    never InSync b = refl
    never Target b = refl
    never Out b = refl

    and_none : (b : Bool) → (b && false) ≡ false
    and_none true = refl
    and_none false = refl

    none : (r : Reading) → is_known r ≡ true → test r ≡ false
    none Unread e = absurd cc
    none Recalled e = absurd cc
    none Asked e = absurd cc
    none Unreadable e = absurd cc
    none Fixing e = absurd cc
    none Fixed e = absurd cc
    none AskedAgain e = absurd cc
    none (Known block) e = known block
    none Replaced e = gone

pub error_is : (s : Stage) (w : Written) (c : Cell) → (s ≡ stage.Moved → is_known c.reading ≡ true) → plans.is_in_error (replacing s w c) ≡ plans.is_in_error c
error_is = sync_test plans.is_unreadable (λ block. refl) refl

pub knowable_is : (s : Stage) (w : Written) (c : Cell) → (s ≡ stage.Moved → is_known c.reading ≡ true) → plans.is_knowable (replacing s w c) ≡ plans.is_knowable c
knowable_is stage.Beside w c there = (λ k. known_is stage.Beside w c k || (plans.is_in_sync c.standing && not (read_test plans.is_unreadable (λ block. refl) stage.Beside w c k)))
knowable_is stage.Dropped w c there = (λ k. known_is stage.Dropped w c k || (plans.is_in_sync c.standing && not (read_test plans.is_unreadable (λ block. refl) stage.Dropped w c k)))
knowable_is stage.Moved w c there = rw (known_is stage.Moved w c, there refl) refl

-- whether the target is there
pub target_is : (s : Stage) (w : Written) (c : Cell) → c.standing ≢ Target → plans.has_target (replacing s w c) ≡ (not (is_gone s) && not (plans.is_out c.standing))
target_is stage.Beside w c other = by_standing c.standing
  where
    by_standing : (t : Standing) → (plans.is_target t || plans.is_target (target_at t)) ≡ not (plans.is_out t)
    by_standing InSync = refl
    by_standing Target = refl
    by_standing Out = refl
target_is stage.Moved w c other = by_standing c.standing
  where
    by_standing : (t : Standing) → (plans.is_target (target_at t) || false) ≡ not (plans.is_out t)
    by_standing InSync = refl
    by_standing Target = refl
    by_standing Out = refl
target_is stage.Dropped w c other = by_standing c.standing other
  where
    by_standing : (t : Standing) → t ≢ Target → (plans.is_target t || false) ≡ false
    by_standing InSync h = refl
    by_standing Target h = absurd (h refl)
    by_standing Out h = refl

-- ---- a row

pub at_position : (s : Stage) (w : Written) (p : ℕ) (cells : List Cell) → p < length cells → cell_at (replacing_at s w p cells) p ≡ replacing s w (cell_at cells p)
at_position s w p cells below = get_or-set_same cells p (replacing s w (cell_at cells p)) no_cell below

pub at_other : (s : Stage) (w : Written) (p : ℕ) (cells : List Cell) (i : ℕ) → i ≢ p → cell_at (replacing_at s w p cells) i ≡ cell_at cells i
at_other s w p cells i apart = get_or-set_other cells p i (replacing s w (cell_at cells p)) no_cell apart

pub width : (s : Stage) (w : Written) (p : ℕ) (cells : List Cell) → length (replacing_at s w p cells) ≡ length cells
width s w p cells = length-set cells p (replacing s w (cell_at cells p))

-- a property of each position, where it is one of the position with its target
pub each_at : (P : ℕ → Cell → Type 0) (s : Stage) (w : Written) (p : ℕ) (cells : List Cell) → p < length cells → P p (replacing s w (cell_at cells p)) → ((i : ℕ) → i ≢ p → P i (cell_at cells i)) → (i : ℕ) → P i (cell_at (replacing_at s w p cells) i)
each_at P s w p cells below here others i =
    elim (cases_eq i p) [
      | inl same ↦ subst (λ (k : ℕ). P k (cell_at (replacing_at s w p cells) k)) (sym same) (subst (P p) (sym (at_position s w p cells below)) here)
      | inr apart ↦ subst (P i) (sym (at_other s w p cells i apart)) (others i apart)
    ]

-- a test of each position that answers the same of the one with its target
pub same_at : (test : Cell → Bool) (s : Stage) (w : Written) (p : ℕ) (cells : List Cell) → p < length cells → test (replacing s w (cell_at cells p)) ≡ test (cell_at cells p) → (i : ℕ) → test (cell_at (replacing_at s w p cells) i) ≡ test (cell_at cells i)
same_at test s w p cells below here =
    each_at (λ i c. test c ≡ test (cell_at cells i)) s w p cells below here (λ i apart. refl)

-- a change of a position that changes the same of the one with its target
pub put_at : (s : Stage) (w : Written) (p : ℕ) (cells : List Cell) → p < length cells → (f : Cell → Cell) (i : ℕ) → (i ≡ p → replacing s w (f (cell_at cells p)) ≡ f (replacing s w (cell_at cells p))) →
    replacing_at s w p (set cells i (f (cell_at cells i))) ≡ set (replacing_at s w p cells) i (f (cell_at (replacing_at s w p cells) i))
put_at s w p cells below f i changes = update_placed cells p below (replacing s w) (replacing s w) f f i (λ apart. refl) changes (λ apart. refl)

-- the position itself becomes another
pub become : (s t : Stage) (w v : Written) (p : ℕ) (cells : List Cell) → p < length cells → (f : Cell → Cell) → replacing t v (cell_at cells p) ≡ f (replacing s w (cell_at cells p)) →
    replacing_at t v p cells ≡ set (replacing_at s w p cells) p (f (cell_at (replacing_at s w p cells) p))
become s t w v p cells below f changes =
    ap (λ (c : Cell). set cells p c) (changes ∙ ap f (sym (at_position s w p cells below)))
    ∙ sym (set-set cells p (replacing s w (cell_at cells p)) (f (cell_at (replacing_at s w p cells) p)))
