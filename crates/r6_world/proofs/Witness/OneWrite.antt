-- A write of the first of a row's two data blocks, to one device or to both of its slot: once the other block is known the
-- new blocks can be computed, and once all are written the hold can end.
use Rattle.std.proofs.Common.{◌≡◌, ◌⊎◌, ℕ, zero, suc, ◌≤◌, List, [], ◌∷◌, true, false, inl, inr, refl, ap, subst, arith}
use Rattle.std.proofs.lemmas.Bool.{false≢true}
use Rattle.r6_recover.specs.Rows.{block_at}
use Rattle.r6_stripe.specs.Plans.{lacks_new}
use Rattle.r6_stripe.specs.Holds.{Hold as Course, Cell, Standing, Doubling, IsIndexOf, IsToWrite, IsQuiet, AreConfirmed, MayCompute, MayEnd, cell_at, no_cell, writing_for, Carries, IsReadOver}
use Rattle.r6_stripe.specs.Holds.Standing.{InSync, Target, Out}
use Rattle.r6_stripe.specs.Holds.Kind.{Write}
use Rattle.r6_stripe.specs.Holds.Outcome.{Done}
use Rattle.r6_stripe.specs.Holds.Reading.{Known, Unreadable}
use Rattle.r6_stripe.specs.Holds.Writing.{Unwritten, Confirmed}
use Rattle.r6_layout.specs.PlainArray.{Block}
use Rattle.r6_world.proofs.Witness.SmallRows.{p, q, full, written_is}
use Rattle.r6_world.proofs.Witness.SmallShards.{each_cell, write_held, out_not_in_sync, out_alone, unwritten_not_sent, confirmed_not_sent}

abbrev pub batch : Block → List (ℕ × Block)
batch b = (0, b) ∷ []

abbrev pub new_blocks : (b other : Block) → List (ℕ × Block)
new_blocks b other = (0, b) ∷ (2, p b other) ∷ (3, q b other) ∷ []

pub n4≤4 : 4 ≤ 4
n4≤4 = omega arith

pub n4≤5 : 4 ≤ 5
n4≤5 = omega arith

n4≰3 : 4 ≤ 3 → ⊥
n4≰3 e = omega arith

-- ---- the other block is known

abbrev in_place : Cell
in_place = record no_cell { standing = InSync }

-- the position that is written has such a second device
abbrev own_known : Standing → Cell
own_known second = record in_place { second = second }

abbrev other_known : Block → Cell
other_known other = record in_place { reading = Known other }

abbrev known : (second : Standing) (b other : Block) → Course
known second b other = record {
  size = 16;
  kind = Write (batch b);
  cells = own_known second ∷ other_known other ∷ in_place ∷ in_place ∷ [];
  cut_short = false;
  met_error = false;
}

unwritten : (second : Standing) → writing_for second (own_known second) ≡ Unwritten
unwritten InSync = refl
unwritten Target = refl
unwritten Out = refl

lacks : (second : Standing) (b other : Block) → lacks_new (known second b other) 0 ≡ true
lacks InSync b other = refl
lacks Target b other = refl
lacks Out b other = refl

carries : (second : Standing) (b other : Block) (at : ℕ) → Carries (known second b other) at (block_at (full b other) at)
carries second b other at row is = ap (λ r. block_at r at) (written_is row b other is.wide (is.same 1 other refl))

-- the plan wants new blocks for just these positions
pub follows : (second : Standing) (b other : Block) (at : ℕ) → lacks_new (known second b other) at ≡ true → IsIndexOf at (new_blocks b other)
follows second b other zero e = inl refl
follows second b other (suc zero) e = absurd (false≢true e)
follows second b other (suc (suc zero)) e = inr (inl refl)
follows second b other (suc (suc (suc zero))) e = inr (inr (inl refl))
follows second b other (suc (suc (suc (suc at)))) e = absurd (false≢true e)

-- and only these positions get one
pub only : (second : Standing) (b other : Block) (at : ℕ) → IsIndexOf at (new_blocks b other) → (lacks_new (known second b other) at ≡ true) ⊎ ((cell_at (known second b other).cells at).standing ≡ Out)
only second b other at (inl same) = inl (subst (λ (k : ℕ). lacks_new (known second b other) k ≡ true) same (lacks second b other))
only second b other at (inr (inl same)) = inl (subst (λ (k : ℕ). lacks_new (known second b other) k ≡ true) same refl)
only second b other at (inr (inr (inl same))) = inl (subst (λ (k : ℕ). lacks_new (known second b other) k ≡ true) same refl)
only second b other at (inr (inr (inr none))) = absurd none

pub may_compute : (second : Standing) (b other : Block) → MayCompute (known second b other) (new_blocks b other)
may_compute second b other = record {
  held = write_held (batch b);
  after_reads =
      each_cell (λ c. (c.standing ≡ Out → ⊥) → IsReadOver c.reading) (own_known second) (other_known other) in_place in_place (λ in'. record {}) (λ in'. record {})
      (λ in'. record {}) (λ in'. record {}) (λ in'. record {});
  are_new = (
    unwritten second,
    carries second b other 0,
    inl (inl refl),
    (refl, carries second b other 2, inr n4≤4, (refl, carries second b other 3, inr n4≤5, tt)),
  );
}

-- ---- all are written

-- the position that was written may have been passed on
abbrev own_written : Doubling → Cell
own_written doubling = record in_place { writing = Confirmed; doubling = doubling }

abbrev parity_written : Cell
parity_written = record in_place { writing = Confirmed }

abbrev written : (doubling : Doubling) (b other : Block) → Course
written doubling b other = record {
  size = 16;
  kind = Write (batch b);
  cells = own_written doubling ∷ other_known other ∷ parity_written ∷ parity_written ∷ [];
  cut_short = false;
  met_error = false;
}

owes_none : (doubling : Doubling) (b other : Block) (at : ℕ) → IsToWrite (written doubling b other) (Write (batch b)) at → AreConfirmed (cell_at (written doubling b other).cells at)
owes_none doubling b other zero to = (λ in'. refl, out_alone)
owes_none doubling b other (suc zero) (inl (inl e)) = absurd (omega (arith, e))
owes_none doubling b other (suc zero) (inl (inr e)) = absurd e
owes_none doubling b other (suc zero) (inr e) = absurd (n4≰3 e)
owes_none doubling b other (suc (suc zero)) to = (λ in'. refl, out_alone)
owes_none doubling b other (suc (suc (suc zero))) to = (λ in'. refl, out_alone)
owes_none doubling b other (suc (suc (suc (suc at)))) to = (λ in'. absurd (out_not_in_sync in'), out_alone)

pub may_end : (doubling : Doubling) (b other : Block) → MayEnd (written doubling b other) Done
may_end doubling b other = record {
  quiet =
      each_cell IsQuiet (own_written doubling) (other_known other) parity_written parity_written ((λ in'. (record {}, confirmed_not_sent)), λ there. unwritten_not_sent) ((λ in'. (record {}, unwritten_not_sent)), λ there. unwritten_not_sent)
      ((λ in'. (record {}, confirmed_not_sent)), λ there. unwritten_not_sent) ((λ in'. (record {}, confirmed_not_sent)), λ there. unwritten_not_sent) ((λ in'. (record {}, unwritten_not_sent)), λ there. unwritten_not_sent);
  mended = inr (each_cell (λ c. (c.standing ≡ Out → ⊥) → c.reading ≡ Unreadable → ⊥) (own_written doubling) (other_known other) parity_written parity_written (λ in' e. cc) (λ in' e. cc) (λ in' e. cc) (λ in' e. cc) (λ in' e. cc));
  owes_nothing = owes_none doubling b other;
}
