use Rattle.std.proofs.Common.{◌≡◌, inl, inr, true, false, Bool, [], ℕ, ◌<◌, length, sym, ap, subst, ◌∙◌, refl, arith, Some, None, Option}
use Rattle.std.specs.Prelude.{option_map, not, if◌then◌else◌}
use Rattle.r6_stripe.specs.Holds.{Cell, Kind, Reading, Standing, cell_at, is_known}
use Rattle.r6_stripe.specs.Plans as plans
use Rattle.r6_stripe.specs.Plans.{Next, or_else}
use Rattle.r6_stripe.specs.Replacements.{IsReplacing, held_beside, planned_beside, with_replacement}
use Rattle.r6_stripe.specs.RowViews.{row_of_state}
use Rattle.r6_stripe.specs.Steps.{Held, IsNone, asked, asked_again, fixing, is_loss}
use Rattle.r6_stripe.specs.Views.{held_of, hold_of}
use Rattle.r6_stripe.specs.WholeViews.{IsSoundReplacing, IsWholeSound, whole_of_state}
use Rattle.r6_stripe.specs.declared.replacement.Replacement.{Replacement}
use Rattle.r6_stripe.specs.declared.row.RowState.{RowState}
use Rattle.r6_stripe.specs.declared.state.HoldState.{HoldState}
use Rattle.r6_stripe.proofs.Places.{length-cells_of}
use Rattle.r6_stripe.proofs.ReplacingAnswers.{only_read}
use Rattle.r6_stripe.proofs.ReplacingNext.{losses, loss_plain, plain_computed}
use Rattle.r6_stripe.proofs.ReplacingOver.{loses_none, loses_some}
use Rattle.r6_stripe.proofs.ReplacingSteps.{IsNextRead, again_both, asks_both, fixed_is, fixes_both, by_step, goes_out, known_there, of_first, read_next, step_is, unknown_apart, unreadable_is}
use Rattle.r6_stripe.proofs.ReplacingWhole.{idle, left_is, row_is, seen_is, source, unclassed, unlent, unprepared, with_hold}
use Rattle.r6_stripe.proofs.Sources.{untasked}
use Rattle.r6_stripe.proofs.whole.WholeState.next_to_target.Goals.{After-has_too_few}
use Rattle.r6_stripe.proofs.whole.WholeState.next_to_target.Goals as goal

module _ (c : After-has_too_few) where
  abbrev row : RowState
  row = c.args.self.now.row

  abbrev r : Replacement
  r = c.args.replacement

  abbrev held : Held
  held = row_of_state c.args.self.now.row

  abbrev beside : plans.Planned
  beside = planned_beside c.args.replacement (row_of_state c.args.self.now.row).planned

  from : IsSoundReplacing c.args.self.now.row (Some c.args.replacement)
  from = source c.args.self.now c.args.replacement c.requires.sound c.requires.replacement

  seen : whole_of_state c.args.self.now ≡ held_beside c.args.replacement (row_of_state c.args.self.now.row)
  seen = seen_is c.args.self.now c.args.replacement c.requires.sound c.requires.replacement

  there : plans.has_target (cell_at beside.hold.cells r.position) ≡ true
  there = sym (ap (λ (h : Held). plans.has_target (cell_at h.planned.hold.cells c.args.replacement.position)) seen) ∙ c.requires.there

  lost : is_loss (losses held r from.1) ≡ c.has_too_few.result
  lost = sym (ap is_loss (loss_plain held r from.1)) ∙ ap (λ (h : Held). is_loss (plans.next_loss h.planned.hold)) (row_is row r from) ∙ sym c.has_too_few.ensures

  plain_hold : held.planned.hold ≡ hold_of c.args.self.now.row.hold
  plain_hold = ap (λ (h : Held). h.planned.hold) (row_is row r from)

  comes : plans.next (whole_of_state c.args.self.now).planned ≡ plans.next beside
  comes = ap (λ (h : Held). plans.next h.planned) seen

  steps : plans.next beside ≡
      or_else (losses held r from.1) (by_step (plans.next_read held.planned.plan beside.hold) (plans.has_asked held.planned.hold) (plans.next_fix held.planned.hold) (plans.next_again (record held.planned.hold { kind = Kind.Rebuild c.args.replacement.position }))
      (plans.has_enough held.planned.plan beside.hold))
  steps = step_is held r from.1 c.requires.going there c.requires.here

  inside : (i : ℕ) → i < length held.planned.hold.cells → i < length c.args.self.now.row.hold.places
  inside i below = omega (arith, below, ap (λ (h : Rattle.r6_stripe.specs.Holds.Hold). length h.cells) plain_hold, length-cells_of c.args.self.now.row.hold.places c.args.self.now.row.hold.blocks.items)

  computed : plans.has_computed (hold_of c.args.self.now.row.hold) ≡ false
  computed = sym (ap plans.has_computed plain_hold) ∙ plain_computed held r from.1

  -- the row with a hold that put something out
  module _ (hold : HoldState) (f : Held → Held) (passes : (h : Held) (away : Bool) → record (f h) { second_away = away } ≡ f (record h { second_away = away })) (is : held_of hold ≡ f (held_of c.args.self.now.row.hold)) where
    new_is : (both : held_beside r (f held) ≡ f (held_beside r held)) → whole_of_state (record { row = record { hold = hold; second = row.second; spare = row.spare; spare_away = row.spare_away }; replacement = c.args.self.now.replacement }) ≡ f (whole_of_state c.args.self.now)
    new_is both = (λ k. with_replacement (c.requires.replacement k) (left_is row r from hold f passes is k)) ∙ both ∙ ap f (sym seen)

    new_sound : Rattle.r6_stripe.specs.Sound.IsSound hold → (f (held_of row.hold)).planned.hold.kind ≡ (held_of row.hold).planned.hold.kind → (f (held_of row.hold)).class ≡ (held_of row.hold).class → (f (held_of row.hold)).planned.hold.size ≡ (held_of row.hold).planned.hold.size →
        hold.prepared ≡ row.hold.prepared → IsReplacing (f held) r → IsWholeSound (record { row = record { hold = hold; second = row.second; spare = row.spare; spare_away = row.spare_away }; replacement = c.args.self.now.replacement })
    new_sound sound kind class size prepared kept = record {
      row = with_hold row r c.requires.sound.row from hold row.spare row.spare_away sound
          (ap (λ (h : Held). h.planned.hold.kind) is ∙ kind ∙ idle row r c.requires.sound.row from)
          (ap (λ (h : Held). h.class) is ∙ class ∙ unclassed row r c.requires.sound.row from)
          (prepared ∙ unprepared row r c.requires.sound.row from)
          (λ home. c.requires.sound.row.spare home ∙ sym (ap (λ (h : Held). h.planned.hold.size) is ∙ size));
      replacement = subst (IsSoundReplacing (record { hold = hold; second = row.second; spare = row.spare; spare_away = row.spare_away })) (sym c.requires.replacement)
          (from.0, subst (λ (h : Held). IsReplacing h r) (sym (left_is row r from hold f passes is)) kept);
    }

  abbrev rest : Option Next
  rest = by_step (plans.next_read held.planned.plan beside.hold) (plans.has_asked held.planned.hold) (plans.next_fix held.planned.hold) (plans.next_again (record held.planned.hold { kind = Kind.Rebuild c.args.replacement.position })) (plans.has_enough held.planned.plan beside.hold)

  size_is : (whole_of_state c.args.self.now).planned.hold.size ≡ c.args.self.now.row.hold.len
  size_is = ap (λ (h : Held). h.planned.hold.size) seen ∙ ap (λ (h : Rattle.r6_stripe.specs.Holds.Hold). h.size) plain_hold

  read_is : (o : Option ℕ) → option_map Next.ReadAt o ≡ plans.next_read (whole_of_state c.args.self.now).planned.plan (whole_of_state c.args.self.now).planned.hold → option_map Next.ReadAt o ≡ plans.next_read held.planned.plan beside.hold
  read_is o e = e ∙ ap (λ (h : Held). plans.next_read h.planned.plan h.planned.hold) seen

  asked_of : plans.has_asked held.planned.hold ≡ plans.has_asked (hold_of c.args.self.now.row.hold)
  asked_of = ap plans.has_asked plain_hold

  fixes_of : plans.next_fix held.planned.hold ≡ plans.next_fix (hold_of c.args.self.now.row.hold)
  fixes_of = ap plans.next_fix plain_hold

  again_of : plans.next_again (record held.planned.hold { kind = Kind.Rebuild c.args.replacement.position }) ≡ plans.next_again (record (hold_of c.args.self.now.row.hold) { kind = Kind.Rebuild c.args.replacement.position })
  again_of = ap (λ (h : Rattle.r6_stripe.specs.Holds.Hold). plans.next_again (record h { kind = Kind.Rebuild c.args.replacement.position })) plain_hold

  module _ (few : c.has_too_few.result ≡ false) where
    reads : plans.next (whole_of_state c.args.self.now).planned ≡ rest
    reads = comes ∙ steps ∙ ap (λ (o : Option Next). or_else o rest) (loses_none held r from.1 (lost ∙ few))

    -- what a read that comes next is
    module _ (i : ℕ) (e : Some (Next.ReadAt i) ≡ plans.next_read held.planned.plan beside.hold) where
      found : IsNextRead held r from.1 i
      found = read_next held r from.1 c.requires.going i e

      unread_unknown : is_known (cell_at held.planned.hold.cells i).reading ≡ false
      unread_unknown = ap is_known found.unread

pub returns-then-has_too_few-clause-puts_out : goal.returns-then-has_too_few-clause-puts_out
returns-then-has_too_few-clause-puts_out c =
    let a = (goal.at.returns-then-has_too_few-clause-puts_out c).After-has_too_few in
    let some : plans.next (whole_of_state c.args.self.now).planned ≡ Some Next.LoseUnreadable = comes a ∙ steps a ∙ ap (λ (o : Option Next). or_else o (rest a)) (loses_some (held a) (r a) (from a).1 (lost a ∙ c.if-has_too_few.true)) in
    (([], tt, tt, refl), subst IsNone (sym some) tt, refl, refl, refl)

-- ---- a read

pub ask_source-buffer-requires-clause-place : goal.ask_source-buffer-requires-clause-place
ask_source-buffer-requires-clause-place c =
    let a = (goal.at.ask_source-buffer-requires-clause-place c).After-has_too_few in
    let i = c.in-Some.position in
    inside a i (found a c.if-has_too_few.false i (ap (option_map Next.ReadAt) (sym c.in-Some.is) ∙ read_is a c.next_read.result c.next_read.ensures)).inside

pub ask_source-buffer-requires-clause-untasked : goal.ask_source-buffer-requires-clause-untasked
ask_source-buffer-requires-clause-untasked c =
    let a = (goal.at.ask_source-buffer-requires-clause-untasked c).After-has_too_few in
    untasked c.args.self.now.row.hold.task (idle (row a) (r a) c.requires.sound.row (from a))

pub ask_source-buffer-requires-clause-in_sync : goal.ask_source-buffer-requires-clause-in_sync
ask_source-buffer-requires-clause-in_sync c =
    let a = (goal.at.ask_source-buffer-requires-clause-in_sync c).After-has_too_few in
    let i = c.in-Some.position in
    sym (ap (λ (h : Rattle.r6_stripe.specs.Holds.Hold). (cell_at h.cells i).standing) (plain_hold a)) ∙ (found a c.if-has_too_few.false i (ap (option_map Next.ReadAt) (sym c.in-Some.is) ∙ read_is a c.next_read.result c.next_read.ensures)).in_sync

pub ask_source-buffer-requires-clause-unread : goal.ask_source-buffer-requires-clause-unread
ask_source-buffer-requires-clause-unread c =
    let a = (goal.at.ask_source-buffer-requires-clause-unread c).After-has_too_few in
    let i = c.in-Some.position in
    sym (ap (λ (h : Rattle.r6_stripe.specs.Holds.Hold). (cell_at h.cells i).reading) (plain_hold a)) ∙ (found a c.if-has_too_few.false i (ap (option_map Next.ReadAt) (sym c.in-Some.is) ∙ read_is a c.next_read.result c.next_read.ensures)).unread

pub ask_source-buffer-requires-clause-before_writes : goal.ask_source-buffer-requires-clause-before_writes
ask_source-buffer-requires-clause-before_writes c = computed (goal.at.ask_source-buffer-requires-clause-before_writes c).After-has_too_few

pub ask_source-buffer-requires-clause-unlent : goal.ask_source-buffer-requires-clause-unlent
ask_source-buffer-requires-clause-unlent c =
    let a = (goal.at.ask_source-buffer-requires-clause-unlent c).After-has_too_few in
    unlent (row a) (r a) c.requires.sound.row (from a)

pub returns-in-Some-clause-puts_out : goal.returns-in-Some-clause-puts_out
returns-in-Some-clause-puts_out c =
    let a = (goal.at.returns-in-Some-clause-puts_out c).After-has_too_few in
    let i = c.in-Some.position in
    let e : Some (Next.ReadAt i) ≡ plans.next_read (held a).planned.plan (beside a).hold = ap (option_map Next.ReadAt) (sym c.in-Some.is) ∙ read_is a c.next_read.result c.next_read.ensures in
    let n = found a c.if-has_too_few.false i e in
    let next = reads a c.if-has_too_few.false
    ∙ ap (λ (o : Option Next). by_step o (plans.has_asked (held a).planned.hold) (plans.next_fix (held a).planned.hold) (plans.next_again (record (held a).planned.hold { kind = Kind.Rebuild c.args.replacement.position })) (plans.has_enough (held a).planned.plan (beside a).hold)) (sym e) in (
      inl (next, new_is a c.ask_source-buffer.new.self (λ h. asked h i) (λ h away. refl) c.ask_source-buffer.ensures.held (asks_both (held a) (r a) (from a).1 i (unknown_apart (held a) (r a) (from a).1 i (ap is_known n.unread)))),
      c.ask_source-buffer.ensures.size ∙ sym (size_is a),
    )

pub returns-in-Some-clause-sound : goal.returns-in-Some-clause-sound
returns-in-Some-clause-sound c =
    let a = (goal.at.returns-in-Some-clause-sound c).After-has_too_few in
    let i = c.in-Some.position in
    let e : Some (Next.ReadAt i) ≡ plans.next_read (held a).planned.plan (beside a).hold = ap (option_map Next.ReadAt) (sym c.in-Some.is) ∙ read_is a c.next_read.result c.next_read.ensures in
    let n = found a c.if-has_too_few.false i e in
    new_sound a c.ask_source-buffer.new.self (λ h. asked h i) (λ h away. refl) c.ask_source-buffer.ensures.held c.ask_source-buffer.ensures.sound refl refl refl c.ask_source-buffer.ensures.prepared
    (goes_out (held a) (r a) (from a).1 i Reading.Asked n.inside c.requires.here (ap is_known n.unread) (λ f. cc) refl (λ f. cc) (λ f. f) n.one)

-- ---- no read is left

module _ (c : After-has_too_few) (few : c.has_too_few.result ≡ false) (none : plans.next_read (held c).planned.plan (beside c).hold ≡ None) where
  after_reads : plans.next (whole_of_state c.args.self.now).planned ≡
      (if plans.has_asked (hold_of c.args.self.now.row.hold) then None else or_else (plans.next_fix (hold_of c.args.self.now.row.hold)) (or_else (plans.next_again (record (hold_of c.args.self.now.row.hold) { kind = Kind.Rebuild c.args.replacement.position }))
      (if not (plans.has_enough (whole_of_state c.args.self.now).planned.plan (whole_of_state c.args.self.now).planned.hold) then None else Some Next.ComputeNew)))
  after_reads =
      reads c few
      ∙ (λ k. by_step (none k) (asked_of c k) (fixes_of c k) (again_of c k) (plans.has_enough (sym (seen c) k).planned.plan (sym (seen c) k).planned.hold))

pub returns-then-has_asked-clause-puts_out : goal.returns-then-has_asked-clause-puts_out
returns-then-has_asked-clause-puts_out c =
    let a = (goal.at.returns-then-has_asked-clause-puts_out c).After-has_too_few in
    let hold = hold_of c.args.self.now.row.hold in
    let none = sym (read_is a c.next_read.result c.next_read.ensures) ∙ ap (option_map Next.ReadAt) c.in_default.is in
    let next : plans.next (whole_of_state c.args.self.now).planned ≡ None = after_reads a c.if-has_too_few.false none
    ∙ ap (λ (b : Bool). if b then None else or_else (plans.next_fix hold) (or_else (plans.next_again (record hold { kind = Kind.Rebuild c.args.replacement.position }))
    (if not (plans.has_enough (whole_of_state c.args.self.now).planned.plan (whole_of_state c.args.self.now).planned.hold) then None else Some Next.ComputeNew))) (sym c.has_asked.ensures ∙ c.if-has_asked.true) in
    (([], tt, tt, refl), subst IsNone (sym next) tt, refl, refl, refl)

-- ---- a fix

pub fix-buffer-requires-clause-next : goal.fix-buffer-requires-clause-next
fix-buffer-requires-clause-next c = sym c.next_fix.ensures ∙ ap (option_map Next.FixAt) c.in-Some-next_fix.is

pub returns-in-Some-next_fix-clause-puts_out : goal.returns-in-Some-next_fix-clause-puts_out
returns-in-Some-next_fix-clause-puts_out c =
    let a = (goal.at.returns-in-Some-next_fix-clause-puts_out c).After-has_too_few in
    let hold = hold_of c.args.self.now.row.hold in
    let i = c.in-Some-next_fix.position in
    let none = sym (read_is a c.next_read.result c.next_read.ensures) ∙ ap (option_map Next.ReadAt) c.in_default.is in
    let fixes : plans.next_fix hold ≡ Some (Next.FixAt i) = sym c.next_fix.ensures ∙ ap (option_map Next.FixAt) c.in-Some-next_fix.is in
    let next : plans.next (whole_of_state c.args.self.now).planned ≡ Some (Next.FixAt i) = after_reads a c.if-has_too_few.false none
    ∙ (λ k. if (sym c.has_asked.ensures ∙ c.if-has_asked.false) k then None else or_else (fixes k) (or_else (plans.next_again (record hold { kind = Kind.Rebuild c.args.replacement.position }))
    (if not (plans.has_enough (whole_of_state c.args.self.now).planned.plan (whole_of_state c.args.self.now).planned.hold) then None else Some Next.ComputeNew))) in
    let error = unreadable_is hold i fixes in
    let unknown : is_known (cell_at (held a).planned.hold.cells i).reading ≡ false = ap (λ (h : Rattle.r6_stripe.specs.Holds.Hold). is_known (cell_at h.cells i).reading) (plain_hold a) ∙ ap is_known error.2 in (
      inl (
        (
          next,
          λ row of. c.fix-buffer.ensures.block row (subst (λ (h : Rattle.r6_stripe.specs.Holds.Hold). Rattle.r6_stripe.specs.Holds.IsOfFirst h row) (plain_hold a)
              (of_first (held a) (r a) (from a).1 row c.requires.here (subst (λ (h : Held). Rattle.r6_stripe.specs.Holds.IsOfFirst h.planned.hold row) (seen a) of))),
        ),
        new_is a c.fix-buffer.new.self (λ h. fixing h i c.fix-buffer.result) (λ h away. refl) c.fix-buffer.ensures.held (fixes_both (held a) (r a) (from a).1 i c.fix-buffer.result (unknown_apart (held a) (r a) (from a).1 i unknown)),
      ),
      c.fix-buffer.ensures.size ∙ sym (size_is a),
    )

pub returns-in-Some-next_fix-clause-sound : goal.returns-in-Some-next_fix-clause-sound
returns-in-Some-next_fix-clause-sound c =
    let a = (goal.at.returns-in-Some-next_fix-clause-sound c).After-has_too_few in
    let hold = hold_of c.args.self.now.row.hold in
    let i = c.in-Some-next_fix.position in
    let fixes : plans.next_fix hold ≡ Some (Next.FixAt i) = sym c.next_fix.ensures ∙ ap (option_map Next.FixAt) c.in-Some-next_fix.is in
    let error = unreadable_is hold i fixes in
    let reading : (cell_at (held a).planned.hold.cells i).reading ≡ Reading.Unreadable = ap (λ (h : Rattle.r6_stripe.specs.Holds.Hold). (cell_at h.cells i).reading) (plain_hold a) ∙ error.2 in
    let inside : i < length (held a).planned.hold.cells = omega (arith, error.0, ap (λ (h : Rattle.r6_stripe.specs.Holds.Hold). length h.cells) (plain_hold a)) in
    new_sound a c.fix-buffer.new.self (λ h. fixing h i c.fix-buffer.result) (λ h away. refl) c.fix-buffer.ensures.held c.fix-buffer.ensures.sound refl refl refl c.fix-buffer.ensures.prepared
    (goes_out (held a) (r a) (from a).1 i Reading.Fixing inside c.requires.here (ap is_known reading) (λ f. cc) refl (λ f. cc) (λ f. f) (λ one. only_read (held a) (r a) (from a).1 one i (λ u. let f = sym reading ∙ u in cc)))

-- ---- a second read

pub ask_again-buffer-requires-clause-place : goal.ask_again-buffer-requires-clause-place
ask_again-buffer-requires-clause-place c =
    let s = c.args.self.now.row.hold in
    let again = sym (c.first_again.ensures (Kind.Rebuild c.args.replacement.position) refl) ∙ ap (option_map Next.ReadAgainAt) c.in-Some-first_again.is in
    omega (arith, (fixed_is (record (hold_of s) { kind = Kind.Rebuild c.args.replacement.position }) c.in-Some-first_again.position again).0, length-cells_of s.places s.blocks.items)

pub ask_again-buffer-requires-clause-in_sync : goal.ask_again-buffer-requires-clause-in_sync
ask_again-buffer-requires-clause-in_sync c =
    let s = c.args.self.now.row.hold in
    let again = sym (c.first_again.ensures (Kind.Rebuild c.args.replacement.position) refl) ∙ ap (option_map Next.ReadAgainAt) c.in-Some-first_again.is in
    (fixed_is (record (hold_of s) { kind = Kind.Rebuild c.args.replacement.position }) c.in-Some-first_again.position again).1

pub ask_again-buffer-requires-clause-fixed : goal.ask_again-buffer-requires-clause-fixed
ask_again-buffer-requires-clause-fixed c =
    let s = c.args.self.now.row.hold in
    let again = sym (c.first_again.ensures (Kind.Rebuild c.args.replacement.position) refl) ∙ ap (option_map Next.ReadAgainAt) c.in-Some-first_again.is in
    (fixed_is (record (hold_of s) { kind = Kind.Rebuild c.args.replacement.position }) c.in-Some-first_again.position again).2

pub ask_again-buffer-requires-clause-before_writes : goal.ask_again-buffer-requires-clause-before_writes
ask_again-buffer-requires-clause-before_writes c = computed (goal.at.ask_again-buffer-requires-clause-before_writes c).After-has_too_few

pub returns-in-Some-first_again-clause-puts_out : goal.returns-in-Some-first_again-clause-puts_out
returns-in-Some-first_again-clause-puts_out c =
    let a = (goal.at.returns-in-Some-first_again-clause-puts_out c).After-has_too_few in
    let hold = hold_of c.args.self.now.row.hold in
    let i = c.in-Some-first_again.position in
    let none = sym (read_is a c.next_read.result c.next_read.ensures) ∙ ap (option_map Next.ReadAt) c.in_default.is in
    let unfixed : plans.next_fix hold ≡ None = sym c.next_fix.ensures ∙ ap (option_map Next.FixAt) c.in_default-next_fix.is in
    let again = sym (c.first_again.ensures (Kind.Rebuild c.args.replacement.position) refl) ∙ ap (option_map Next.ReadAgainAt) c.in-Some-first_again.is in
    let next : plans.next (whole_of_state c.args.self.now).planned ≡ Some (Next.ReadAgainAt i) = after_reads a c.if-has_too_few.false none
    ∙ (λ k. if (sym c.has_asked.ensures ∙ c.if-has_asked.false) k then None else or_else (unfixed k) (or_else (again k)
    (if not (plans.has_enough (whole_of_state c.args.self.now).planned.plan (whole_of_state c.args.self.now).planned.hold) then None else Some Next.ComputeNew))) in
    let fixed = fixed_is (record hold { kind = Kind.Rebuild c.args.replacement.position }) i again in
    let unknown : is_known (cell_at (held a).planned.hold.cells i).reading ≡ false = ap (λ (h : Rattle.r6_stripe.specs.Holds.Hold). is_known (cell_at h.cells i).reading) (plain_hold a) ∙ ap is_known fixed.2 in (
      inr (next, new_is a c.ask_again-buffer.new.self (λ h. asked_again h i) (λ h away. refl) c.ask_again-buffer.ensures.held (again_both (held a) (r a) (from a).1 i (unknown_apart (held a) (r a) (from a).1 i unknown))),
      c.ask_again-buffer.ensures.size ∙ sym (size_is a),
    )

pub returns-in-Some-first_again-clause-sound : goal.returns-in-Some-first_again-clause-sound
returns-in-Some-first_again-clause-sound c =
    let a = (goal.at.returns-in-Some-first_again-clause-sound c).After-has_too_few in
    let hold = hold_of c.args.self.now.row.hold in
    let i = c.in-Some-first_again.position in
    let again = sym (c.first_again.ensures (Kind.Rebuild c.args.replacement.position) refl) ∙ ap (option_map Next.ReadAgainAt) c.in-Some-first_again.is in
    let fixed = fixed_is (record hold { kind = Kind.Rebuild c.args.replacement.position }) i again in
    let reading : (cell_at (held a).planned.hold.cells i).reading ≡ Reading.Fixed = ap (λ (h : Rattle.r6_stripe.specs.Holds.Hold). (cell_at h.cells i).reading) (plain_hold a) ∙ fixed.2 in
    let inside : i < length (held a).planned.hold.cells = omega (arith, fixed.0, ap (λ (h : Rattle.r6_stripe.specs.Holds.Hold). length h.cells) (plain_hold a)) in
    new_sound a c.ask_again-buffer.new.self (λ h. asked_again h i) (λ h away. refl) c.ask_again-buffer.ensures.held c.ask_again-buffer.ensures.sound refl refl refl c.ask_again-buffer.ensures.prepared
    (goes_out (held a) (r a) (from a).1 i Reading.AskedAgain inside c.requires.here (ap is_known reading) (λ f. cc) refl (λ f. cc) (λ f. f) (λ one. only_read (held a) (r a) (from a).1 one i (λ u. let f = sym reading ∙ u in cc)))

-- ---- the block leaves

pub put_block_out-requires-clause-next : goal.put_block_out-requires-clause-next
put_block_out-requires-clause-next c =
    let a = (goal.at.put_block_out-requires-clause-next c).After-has_too_few in
    let none = sym (read_is a c.next_read.result c.next_read.ensures) ∙ ap (option_map Next.ReadAt) c.in_default.is in
    let unfixed = sym c.next_fix.ensures ∙ ap (option_map Next.FixAt) c.in_default-next_fix.is in
    let unread = sym (c.first_again.ensures (Kind.Rebuild c.args.replacement.position) refl) ∙ ap (option_map Next.ReadAgainAt) c.in_default-first_again.is in
    after_reads a c.if-has_too_few.false none
    ∙ (λ k. if (sym c.has_asked.ensures ∙ c.if-has_asked.false) k then None else or_else (unfixed k) (or_else (unread k) (if not ((sym c.has_read.ensures ∙ c.if-has_read.true) k) then None else Some Next.ComputeNew)))

pub put_block_out-requires-clause-known : goal.put_block_out-requires-clause-known
put_block_out-requires-clause-known c =
    let a = (goal.at.put_block_out-requires-clause-known c).After-has_too_few in
    let enough = sym (ap (λ (h : Held). plans.has_enough h.planned.plan h.planned.hold) (seen a)) ∙ sym c.has_read.ensures ∙ c.if-has_read.true in
    sym (ap (λ (h : Rattle.r6_stripe.specs.Holds.Hold). is_known (cell_at h.cells c.args.replacement.position).reading) (plain_hold a))
    ∙ known_there (held a) (r a) (from a).1 c.requires.going (there a) (asked_of a ∙ sym c.has_asked.ensures ∙ c.if-has_asked.false) enough

pub returns-else-has_read-clause-puts_out : goal.returns-else-has_read-clause-puts_out
returns-else-has_read-clause-puts_out c =
    let a = (goal.at.returns-else-has_read-clause-puts_out c).After-has_too_few in
    let none = sym (read_is a c.next_read.result c.next_read.ensures) ∙ ap (option_map Next.ReadAt) c.in_default.is in
    let unfixed = sym c.next_fix.ensures ∙ ap (option_map Next.FixAt) c.in_default-next_fix.is in
    let unread = sym (c.first_again.ensures (Kind.Rebuild c.args.replacement.position) refl) ∙ ap (option_map Next.ReadAgainAt) c.in_default-first_again.is in
    let next : plans.next (whole_of_state c.args.self.now).planned ≡ None = after_reads a c.if-has_too_few.false none
    ∙ (λ k. if (sym c.has_asked.ensures ∙ c.if-has_asked.false) k then None else or_else (unfixed k) (or_else (unread k) (if not ((sym c.has_read.ensures ∙ c.if-has_read.false) k) then None else Some Next.ComputeNew))) in
    (([], tt, tt, refl), subst IsNone (sym next) tt, refl, refl, refl)
