-- New blocks are computed once: where one was, all that the hold owes are there.
use Rattle.std.proofs.Common.{◌≡◌, ◌≢◌, inl, inr, Bool, true, false, ℕ, ◌-◌, ◌<◌, List, [], ◌∷◌, length, get_or, refl, sym, ◌∙◌, ap, subst, arith, Option, Some, None}
use Rattle.std.specs.Prelude.{◌&&◌, ◌||◌, ◌==◌, not, if◌then◌else◌}
use Rattle.std.proofs.lemmas.Bool.{and_parts, cases_eq, eqb-true, false_from_ne_true, leb-true, or_cases}
use Rattle.r6_recover.specs.declared.class.RowClass.{RowClass}
use Rattle.r6_stripe.specs.Checks.{IsClassed}
use Rattle.r6_stripe.specs.Holds.{Writing, Cell, Hold, Kind, IsIndexOf, cell_at, own_writing}
use Rattle.r6_stripe.specs.Places.{cell_of, no_place, standing_of}
use Rattle.r6_stripe.specs.Plans as plans
use Rattle.r6_stripe.specs.Plans.{Next, is_out, is_unwritten, names}
use Rattle.r6_stripe.specs.Preparing.{IsPrepared, is_write_time}
use Rattle.r6_stripe.specs.Sound.{IsInCourse, IsPut, IsRenewed, IsRenewedBy, IsSound}
use Rattle.r6_stripe.specs.Views.{hold_of, kind_of, planned_of}
use Rattle.r6_stripe.specs.declared.command.RowTask.{RowTask}
use Rattle.r6_stripe.specs.declared.command.RowTask.TheVariants as task
use Rattle.r6_stripe.specs.declared.place.PositionState.{PositionState}
use Rattle.r6_stripe.specs.declared.place.Standing.{Standing}
use Rattle.r6_stripe.specs.declared.place.Standing.TheVariants as state
use Rattle.r6_stripe.specs.declared.place.WriteState.TheVariants as write
use Rattle.r6_stripe.specs.declared.plan.Plan.{Plan}
use Rattle.r6_stripe.specs.declared.plan.Plan.TheVariants as plan
use Rattle.r6_stripe.specs.declared.state.HoldState.{HoldState}
use Rattle.r6_stripe.proofs.Alone.{cells_alone, own_alone}
use Rattle.r6_stripe.proofs.BesideDue.{write_time}
use Rattle.r6_stripe.proofs.Places.{any_true, cell_at-cells_of, length-cells_of}
use Rattle.r6_stripe.proofs.Searches.{each_true}
use Rattle.r6_stripe.proofs.States.{unwritten_only}
use Rattle.r6_stripe.proofs.Steps.{unwritten_is}

-- ---- what the course of the plan says of a position with a new block

read_unwritten : (p : Plan) (index count : ℕ) (computed : Bool) (i : ℕ) (place : PositionState) → IsInCourse p (Some (task.Read index)) count computed i place → place.write ≡ write.Unwritten
read_unwritten plan.One index count computed i place course = course.0
read_unwritten plan.Recover index count computed i place course = course.0
read_unwritten plan.Reconstruct index count computed i place course = absurd course
read_unwritten plan.Modify index count computed i place course = absurd course
read_unwritten plan.Overwrite index count computed i place course = absurd course
read_unwritten plan.All index count computed i place course = absurd course

rebuild_unwritten : (p : Plan) (target count : ℕ) (computed : Bool) (i : ℕ) (place : PositionState) → place.state ≡ state.InSync → IsInCourse p (Some (task.Rebuild target)) count computed i place → place.write ≡ write.Unwritten
rebuild_unwritten plan.Recover target count computed i place in_sync course = elim (cases_eq i target) [ inl same ↦ absurd ((course.1 same).1 in_sync) | inr other ↦ (course.0 other).0 ]
rebuild_unwritten plan.One target count computed i place in_sync course = absurd course
rebuild_unwritten plan.Reconstruct target count computed i place in_sync course = absurd course
rebuild_unwritten plan.Modify target count computed i place in_sync course = absurd course
rebuild_unwritten plan.Overwrite target count computed i place in_sync course = absurd course
rebuild_unwritten plan.All target count computed i place in_sync course = absurd course

module _ (s : HoldState) (sound : IsSound s) (classed : IsClassed (hold_of s) s.class) (i : ℕ) (inside : i < length s.places) (written : (get_or s.places i no_place).write ≢ write.Unwritten) (in_sync : (get_or s.places i no_place).state ≡ state.InSync)
    (time : is_write_time (planned_of s) ≡ true) where
  abbrev hold : Hold
  hold = hold_of s

  abbrev place : ℕ → PositionState
  place j = get_or s.places j no_place

  course_as : (t : Option RowTask) → s.task ≡ t → (j : ℕ) → j < length s.places → IsInCourse s.plan t (length s.places) sound.computed j (place j)
  course_as t is j below = subst (λ (u : Option RowTask). IsInCourse s.plan u (length s.places) sound.computed j (place j)) is (sound.course j below)

  no_task : s.task ≡ None → ⊥
  no_task is = let e : true ≡ false = sym (ap (λ (t : Option RowTask). plans.has_lost hold (kind_of t)) is) ∙ (write_time (planned_of s) time).0 in cc

  restored : (t : Option RowTask) → s.task ≡ t → plans.next_restore hold (kind_of t) ≡ None
  restored None is = refl
  restored (Some (task.Read index)) is = absurd (written (read_unwritten s.plan index (length s.places) sound.computed i (place i) (course_as (Some (task.Read index)) is i inside)))
  restored (Some (task.Write batch)) is = refl
  restored (Some (task.Rebuild target)) is = refl
  restored (Some task.Check) is = refl
  restored (Some task.Repair) is = refl

  cell : (j : ℕ) → j < length s.places → cell_at hold.cells j ≡ cell_of (place j) (get_or s.blocks.items j [])
  cell j below = cell_at-cells_of s.places s.blocks.items j no_place below

  -- a position that has its new block, or is out, lacks none
  renewed_lacks : (j : ℕ) → j < length s.places → (puts : Bool) → IsRenewed (place j) → (not (is_out (cell_at hold.cells j).standing) && is_unwritten (own_writing (cell_at hold.cells j)) && puts) ≡ false
  renewed_lacks j below puts (inl has) =
      false_from_ne_true (not (is_out (cell_at hold.cells j).standing) && is_unwritten (own_writing (cell_at hold.cells j)) && puts)
      (λ e.
      let all = and_parts (not (is_out (cell_at hold.cells j).standing) && is_unwritten (own_writing (cell_at hold.cells j))) puts e in
      let two = and_parts (not (is_out (cell_at hold.cells j).standing)) (is_unwritten (own_writing (cell_at hold.cells j))) all.0 in
      has (unwritten_only (place j).write (get_or s.blocks.items j []) (ap (λ (c : Cell). c.writing) (sym (cell j below)) ∙ sym (own_alone (cell_at hold.cells j) (cells_alone s.places s.blocks.items j)) ∙ unwritten_is (own_writing (cell_at hold.cells j)) two.1)))
  renewed_lacks j below puts (inr out) =
      ap (λ (b : Bool). not b && is_unwritten (own_writing (cell_at hold.cells j)) && puts) (ap (λ (c : Cell). is_out c.standing) (cell j below) ∙ ap (λ (t : Standing). is_out (standing_of t)) out)

  no_puts : (a b : Bool) → (a && b && false) ≡ false
  no_puts true true = refl
  no_puts true false = refl
  no_puts false b = refl

  names_is : (batch : List (ℕ × List ℕ)) (j : ℕ) → names batch j ≡ true → IsIndexOf j batch
  names_is [] j e = absurd cc
  names_is (entry ∷ rest) j e = elim (or_cases (entry.0 == j) (names rest j) e) [ inl here ↦ inl (eqb-true entry.0 j here) | inr there ↦ inr (names_is rest j there) ]

  write_lacks : (batch : List (ℕ × List ℕ)) → ((j : ℕ) → j < length s.places → IsPut (length s.places) batch j → IsRenewed (place j)) → (j : ℕ) → j < length s.places →
      (not (is_out (cell_at hold.cells j).standing) && is_unwritten (own_writing (cell_at hold.cells j)) && (names batch j || plans.is_parity hold j)) ≡ false
  write_lacks batch all j below = by_puts (names batch j || plans.is_parity hold j) refl
    where
      put : (names batch j || plans.is_parity hold j) ≡ true → IsPut (length s.places) batch j
      put e = elim (or_cases (names batch j) (plans.is_parity hold j) e) [
        | inl named ↦ inl (names_is batch j named)
        | inr parity ↦ inr (let h = leb-true (length hold.cells - 2) j parity in omega (arith, h, length-cells_of s.places s.blocks.items))
      ]

      by_puts : (b : Bool) → (names batch j || plans.is_parity hold j) ≡ b → (not (is_out (cell_at hold.cells j).standing) && is_unwritten (own_writing (cell_at hold.cells j)) && b) ≡ false
      by_puts false is = no_puts (not (is_out (cell_at hold.cells j).standing)) (is_unwritten (own_writing (cell_at hold.cells j)))
      by_puts true is = renewed_lacks j below true (all j below (put is))

  repair_lacks : s.task ≡ Some task.Repair → sound.computed ≡ true → (j : ℕ) → j < length s.places → plans.lacks_new hold j ≡ false
  repair_lacks is computed j below = by_class s.class refl
    where
      kind : hold.kind ≡ Kind.Repair
      kind = ap kind_of is

      by_class : (o : Option RowClass) → s.class ≡ o → plans.lacks_new hold j ≡ false
      by_class None none = absurd (subst (λ (o : Option RowClass). IsRenewedBy o s.places) none (sound.renewed is computed))
      by_class (Some c) some =
          false_from_ne_true (plans.lacks_new hold j) (λ e.
          let all = and_parts (not (is_out (cell_at hold.cells j).standing) && is_unwritten (own_writing (cell_at hold.cells j))) (plans.puts hold hold.kind j) e in
          let two = and_parts (not (is_out (cell_at hold.cells j).standing)) (is_unwritten (own_writing (cell_at hold.cells j))) all.0 in
          let puts : (not s.met_error && (plans.is_parity hold j && plans.differs hold j)) ≡ true = ap (λ (k : Kind). plans.puts hold k j) (sym kind) ∙ all.1 in
          let parts = and_parts (plans.is_parity hold j) (plans.differs hold j) (and_parts (not s.met_error) (plans.is_parity hold j && plans.differs hold j) puts).1 in
          let wide = length-cells_of s.places s.blocks.items in
          let past = leb-true (length hold.cells - 2) j parts.0 in
          let unwritten : (cell_at hold.cells j).writing ≡ Writing.Unwritten = sym (own_alone (cell_at hold.cells j) (cells_alone s.places s.blocks.items j)) ∙ unwritten_is (own_writing (cell_at hold.cells j)) two.1 in
          let says = subst (λ (o : Option RowClass). IsClassed hold o) some classed in
          let renews = subst (λ (o : Option RowClass). IsRenewedBy o s.places) some (sound.renewed is computed) in
          let wrong = says.2 j (omega (arith, past)) (omega (arith, below, wide)) unwritten in
          renews j below (omega (arith, past, wide)) (ap (λ (n : ℕ). Rattle.r6_stripe.specs.Checks.is_wrong c n j) (sym wide) ∙ sym wrong ∙ parts.1)
          (unwritten_only (place j).write (get_or s.blocks.items j []) (ap (λ (x : Cell). x.writing) (sym (cell j below)) ∙ unwritten)))

  lacks_none : (j : ℕ) → j < length s.places → plans.lacks_new hold j ≡ false
  lacks_none j below = by_task s.task refl
    where
      puts_none : (t : Option RowTask) → s.task ≡ t → plans.puts hold (kind_of t) j ≡ false → plans.lacks_new hold j ≡ false
      puts_none t is none =
          ap (λ (u : Option RowTask). not (is_out (cell_at hold.cells j).standing) && is_unwritten (own_writing (cell_at hold.cells j)) && plans.puts hold (kind_of u) j) is
          ∙ ap (λ (b : Bool). not (is_out (cell_at hold.cells j).standing) && is_unwritten (own_writing (cell_at hold.cells j)) && b) none
          ∙ no_puts (not (is_out (cell_at hold.cells j).standing)) (is_unwritten (own_writing (cell_at hold.cells j)))

      by_task : (t : Option RowTask) → s.task ≡ t → plans.lacks_new hold j ≡ false
      by_task None is = absurd (no_task is)
      by_task (Some (task.Read index)) is = puts_none (Some (task.Read index)) is refl
      by_task (Some (task.Rebuild target)) is = absurd (written (rebuild_unwritten s.plan target (length s.places) sound.computed i (place i) in_sync (course_as (Some (task.Rebuild target)) is i inside)))
      by_task (Some task.Check) is = puts_none (Some task.Check) is refl
      by_task (Some task.Repair) is = by_computed s.plan sound.computed refl refl (course_as (Some task.Repair) is i inside)
        where
          by_computed : (p : Plan) (b : Bool) → s.plan ≡ p → sound.computed ≡ b → IsInCourse p (Some task.Repair) (length s.places) b i (place i) → plans.lacks_new hold j ≡ false
          by_computed plan.All true e f course = repair_lacks is f j below
          by_computed plan.All false e f course = absurd (written course.0)
          by_computed plan.One b e f course = absurd course
          by_computed plan.Reconstruct b e f course = absurd course
          by_computed plan.Modify b e f course = absurd course
          by_computed plan.Overwrite b e f course = absurd course
          by_computed plan.Recover b e f course = absurd course
      by_task (Some (task.Write batch)) is =
          ap (λ (u : Option RowTask). not (is_out (cell_at hold.cells j).standing) && is_unwritten (own_writing (cell_at hold.cells j)) && plans.puts hold (kind_of u) j) is
          ∙ by_computed s.plan sound.computed (course_as (Some (task.Write batch)) is i inside) (λ k less. course_as (Some (task.Write batch)) is k less)
        where
          by_computed : (p : Plan) (b : Bool) → IsInCourse p (Some (task.Write batch)) (length s.places) b i (place i) → ((k : ℕ) → k < length s.places → IsInCourse p (Some (task.Write batch)) (length s.places) b k (place k)) →
              (not (is_out (cell_at hold.cells j).standing) && is_unwritten (own_writing (cell_at hold.cells j)) && (names batch.blocks j || plans.is_parity hold j)) ≡ false
          by_computed plan.Reconstruct true here all = write_lacks batch.blocks (λ k less put. all k less put) j below
          by_computed plan.Modify true here all = write_lacks batch.blocks (λ k less put. all k less put) j below
          by_computed plan.Overwrite true here all = write_lacks batch.blocks (λ k less put. all k less put) j below
          by_computed plan.Recover true here all = write_lacks batch.blocks (λ k less put. all k less put) j below
          by_computed plan.Reconstruct false here all = absurd (written here.0)
          by_computed plan.Modify false here all = absurd (written here.0)
          by_computed plan.Overwrite false here all = absurd (written here.0)
          by_computed plan.Recover false here all = absurd (written here.0)
          by_computed plan.One b here all = absurd here
          by_computed plan.All b here all = absurd here

  pub computed_once : IsPrepared (planned_of s)
  computed_once =
      let parts = write_time (planned_of s) time in
      let each : plans.each_below (λ j. not (plans.lacks_new hold j)) (length hold.cells) ≡ true =
      each_true (λ j. not (plans.lacks_new hold j)) (length hold.cells) (λ j below. ap not (lacks_none j (omega (arith, below, length-cells_of s.places s.blocks.items)))) in
      record {
        goes_on = parts.0;
        mended = parts.1;
        read = parts.2;
        restored = restored s.task refl;
        computed = ap (λ (b : Bool). if b then None else Some Next.ComputeNew) each;
      }

-- so new blocks were computed
pub was_computed : (s : HoldState) (i : ℕ) → i < length s.places → (cell_at (hold_of s).cells i).writing ≢ Writing.Unwritten → plans.has_computed (hold_of s) ≡ true
was_computed s i inside written =
    any_true (λ c. not (is_unwritten c.writing) || not (is_unwritten c.copying)) (hold_of s).cells i (omega (arith, inside, length-cells_of s.places s.blocks.items))
    (ap (λ (b : Bool). not b || not (is_unwritten (cell_at (hold_of s).cells i).copying)) (false_from_ne_true (is_unwritten (cell_at (hold_of s).cells i).writing) (λ e. written (unwritten_is (cell_at (hold_of s).cells i).writing e))))
