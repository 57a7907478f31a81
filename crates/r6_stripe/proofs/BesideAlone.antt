-- A hold of a row of which no position has a second device puts out what it puts out alone.
use Rattle.std.proofs.Common.{◌≡◌, ◌⊎◌, inl, inr, Bool, List, [], ◌∷◌, refl, sym, ◌∙◌, ap, subst, Option, Some, None}
use Rattle.r6_stripe.specs.Holds.{Event}
use Rattle.r6_stripe.specs.Plans as plans
use Rattle.r6_stripe.specs.Plans.{Next, Planned, planned_after, planned_at}
use Rattle.r6_stripe.specs.Preparing.{IsStill, PutsOne}
use Rattle.r6_stripe.specs.Steps.{Held, IsNone, PutsFixOut, PutsNewOut, PutsOut, PutsReadOut}
use Rattle.r6_stripe.specs.declared.command.RowCommand.{RowCommand}
use Rattle.r6_stripe.specs.declared.command.RowCommand.TheVariants as command
use Rattle.r6_stripe.proofs.CellsAfter.{size_after}

still_none : (o : Option Next) → IsStill o → IsNone o
still_none o (inl e) = subst IsNone (sym e) tt
still_none o (inr e) = subst IsNone (sym e) tt

abbrev as_row : Bool → Held → Held
as_row away held = record held { second_away = away }

pub puts_alone : (held new : Held) (away : Bool) (r : Option RowCommand) → PutsOne held r new → PutsOut (as_row away held) r (as_row away new)
puts_alone held new away None puts = (puts.0, still_none (plans.next new.planned) puts.1, puts.2, puts.3, refl)
puts_alone held new away (Some (command.Read i buffer)) puts = (by_read puts.0, puts.1)
  where
    by_read : PutsReadOut held i new → PutsReadOut (as_row away held) i (as_row away new)
    by_read (inl h) = inl (h.0, ap (as_row away) h.1)
    by_read (inr h) = inr (h.0, ap (as_row away) h.1)
puts_alone held new away (Some (command.Write i buffer)) puts = (by_write puts.0, puts.1)
  where
    by_write : PutsFixOut held i buffer new ⊎ PutsNewOut held i buffer new → PutsFixOut (as_row away held) i buffer (as_row away new) ⊎ PutsNewOut (as_row away held) i buffer (as_row away new)
    by_write (inl h) = inl (h.0, ap (as_row away) h.1)
    by_write (inr h) = inr (h.0, h.1, h.2, h.3, ap (as_row away) h.4)
puts_alone held new away (Some (command.Copy i buffer)) puts = absurd puts

-- the size of a block stays
size_at : (events : List Event) (planned : Planned) → (planned_at planned events).hold.size ≡ planned.hold.size
size_at [] planned = refl
size_at (event ∷ events) planned = size_at events (planned_after planned event) ∙ size_after planned.hold event

size_prepared : (old new : Planned) → plans.Prepares old new → new.hold.size ≡ old.hold.size
size_prepared old new prepares = ap (λ (x : Planned). x.hold.size) (sym prepares.3) ∙ size_at prepares.0 old

pub size_alone : (held new : Held) (r : Option RowCommand) → PutsOne held r new → new.planned.hold.size ≡ held.planned.hold.size
size_alone held new None puts = size_prepared held.planned new.planned puts.0
size_alone held new (Some (command.Read i buffer)) puts = by_read puts.0
  where
    by_read : PutsReadOut held i new → new.planned.hold.size ≡ held.planned.hold.size
    by_read (inl h) = ap (λ (x : Held). x.planned.hold.size) h.1
    by_read (inr h) = ap (λ (x : Held). x.planned.hold.size) h.1
size_alone held new (Some (command.Write i buffer)) puts = by_write puts.0
  where
    by_write : PutsFixOut held i buffer new ⊎ PutsNewOut held i buffer new → new.planned.hold.size ≡ held.planned.hold.size
    by_write (inl h) = ap (λ (x : Held). x.planned.hold.size) h.1
    by_write (inr h) = ap (λ (x : Held). x.planned.hold.size) h.4 ∙ size_prepared held.planned h.0 h.1
size_alone held new (Some (command.Copy i buffer)) puts = absurd puts
