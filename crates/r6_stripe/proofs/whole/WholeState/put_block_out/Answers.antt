use Rattle.std.proofs.Common.{◌≡◌, ◌≢◌, ◌⊎◌, inl, inr, true, false, Bool, ℕ, ◌<◌, List, length, sym, ap, subst, ◌∙◌, refl, arith, Some, None, Option}
use Rattle.r6_stripe.specs.Holds.{Hold, cell_at, is_known}
use Rattle.r6_stripe.specs.Holds.Reading.{Known}
use Rattle.r6_stripe.specs.Plans as plans
use Rattle.r6_stripe.specs.Plans.Next.{ComputeNew}
use Rattle.r6_stripe.specs.Replacements.{IsReplacing, held_beside, is_left, planned_beside, with_block}
use Rattle.r6_stripe.specs.RowViews.{row_of_state}
use Rattle.r6_stripe.specs.Steps.{Held, PutsCopyOut, PutsNewOut}
use Rattle.r6_stripe.specs.Views.{hold_of}
use Rattle.r6_stripe.specs.WholeViews.{IsSoundReplacing, IsWholeSound, whole_of_state}
use Rattle.r6_stripe.specs.declared.replacement.Replacement.{Replacement}
use Rattle.r6_stripe.specs.declared.replacement.Stage.TheVariants as stage
use Rattle.r6_stripe.specs.declared.replacement.Written.TheVariants as written
use Rattle.r6_stripe.specs.declared.row.RowState.{RowState}
use Rattle.r6_stripe.specs.declared.whole.WholeState.{WholeState}
use Rattle.std.specs.Prelude.{not, ◌&&◌}
use Rattle.r6_stripe.proofs.ReplacingBlock.{copies, given_kept, sends_new}
use Rattle.r6_stripe.proofs.Replacing.{unwritten}
use Rattle.r6_stripe.proofs.ReplacingWhole.{idle, known_home, position_below, row_alone, row_is, seen_is, source, unclassed, unprepared, target_there, with_hold}
use Rattle.r6_stripe.proofs.whole.WholeState.put_block_out.Goals.{After-give_block}
use Rattle.r6_stripe.proofs.whole.WholeState.put_block_out.Goals as goal

module _ (whole : WholeState) (r : Replacement) (sound : IsWholeSound whole) (is : whole.replacement ≡ Some r) where
  abbrev row : RowState
  row = whole.row

  abbrev held : Held
  held = row_of_state whole.row

  from : IsSoundReplacing whole.row (Some r)
  from = source whole r sound is

  seen : whole_of_state whole ≡ held_beside r (row_of_state whole.row)
  seen = seen_is whole r sound is

  plain_hold : held.planned.hold ≡ hold_of whole.row.hold
  plain_hold = ap (λ (h : Held). h.planned.hold) (row_is row r from)

  known : is_known (cell_at (hold_of whole.row.hold).cells r.position).reading ≡ true → is_known (cell_at held.planned.hold.cells r.position).reading ≡ true
  known e = ap (λ (h : Hold). is_known (cell_at h.cells r.position).reading) plain_hold ∙ e

  spare_home : is_left r.written ≡ false → row.spare_away ≡ false
  spare_home here = sym (ap (λ (h : Held). h.second_away) (row_is row r from)) ∙ from.1.home (λ e. let f = sym (unwritten r.written here) ∙ e in cc)

pub give_block-requires-clause-place : goal.give_block-requires-clause-place
give_block-requires-clause-place c =
    let whole = c.args.self.now in
    position_below whole.row c.args.replacement (from whole c.args.replacement c.requires.sound c.requires.replacement)

pub give_block-requires-clause-there : goal.give_block-requires-clause-there
give_block-requires-clause-there c = λ gone.
    let whole = c.args.self.now in
    let r = c.args.replacement in
    ((from whole r c.requires.sound c.requires.replacement).1.sources r.position).kept (ap (λ (h : Hold). (cell_at h.cells r.position).reading) (plain_hold whole r c.requires.sound c.requires.replacement) ∙ gone)

pub give_block-requires-clause-home : goal.give_block-requires-clause-home
give_block-requires-clause-home c =
    let whole = c.args.self.now in
    let r = c.args.replacement in
    let f = from whole r c.requires.sound c.requires.replacement in
    sym (ap (λ (h : Held). Rattle.r6_stripe.specs.Steps.is_away h r.position) (row_is whole.row r f)) ∙ known_home (row_of_state whole.row) r f.1 (known whole r c.requires.sound c.requires.replacement c.requires.known)

pub give_block-requires-clause-size : goal.give_block-requires-clause-size
give_block-requires-clause-size c =
    let whole = c.args.self.now in
    ap length c.replace-buffer.ensures.value ∙ c.requires.sound.row.spare (spare_home whole c.args.replacement c.requires.sound c.requires.replacement c.requires.here)

module _ (c : After-give_block) where
  there : plans.has_target (cell_at (planned_beside c.args.replacement (row_of_state c.args.self.now.row).planned).hold.cells c.args.replacement.position) ≡ true
  there = sym (ap (λ (h : Held). plans.has_target (cell_at h.planned.hold.cells c.args.replacement.position)) (seen c.args.self.now c.args.replacement c.requires.sound c.requires.replacement)) ∙ c.requires.there

  next : plans.next (planned_beside c.args.replacement (row_of_state c.args.self.now.row).planned) ≡ Some ComputeNew
  next = sym (ap (λ (h : Held). plans.next h.planned) (seen c.args.self.now c.args.replacement c.requires.sound c.requires.replacement)) ∙ c.requires.next

  block_is : (cell_at (row_of_state c.args.self.now.row).planned.hold.cells c.args.replacement.position).reading ≡ Known c.give_block.new.other
  block_is = ap (λ (h : Hold). (cell_at h.cells c.args.replacement.position).reading) (plain_hold c.args.self.now c.args.replacement c.requires.sound c.requires.replacement) ∙ c.give_block.ensures.block

  row_then : row_of_state (record { hold = c.give_block.new.self; second = c.args.self.now.row.second; spare = c.replace-buffer.new.dest; spare_away = true })
      ≡ record (with_block (row_of_state c.args.self.now.row) c.args.replacement.position c.replace-buffer.result) { second_away = true }
  row_then =
      row_alone c.give_block.new.self c.args.self.now.row.second c.replace-buffer.new.dest true (from c.args.self.now c.args.replacement c.requires.sound c.requires.replacement).0
      ∙ ap (λ (h : Held). record h { second_away = true }) c.give_block.ensures.held
      ∙ sym (ap (λ (h : Held). record (with_block h c.args.replacement.position c.replace-buffer.result) { second_away = true }) (row_is c.args.self.now.row c.args.replacement (from c.args.self.now c.args.replacement c.requires.sound c.requires.replacement)))

  left_sound : IsWholeSound (record { row = record { hold = c.give_block.new.self; second = c.args.self.now.row.second; spare = c.replace-buffer.new.dest; spare_away = true }; replacement = Some (record c.args.replacement { written = written.Sent }) })
  left_sound = record {
    row = with_hold c.args.self.now.row c.args.replacement c.requires.sound.row (from c.args.self.now c.args.replacement c.requires.sound c.requires.replacement) c.give_block.new.self c.replace-buffer.new.dest true c.give_block.ensures.sound
        (ap (λ (h : Held). h.planned.hold.kind) c.give_block.ensures.held ∙ idle c.args.self.now.row c.args.replacement c.requires.sound.row (from c.args.self.now c.args.replacement c.requires.sound c.requires.replacement))
        (ap (λ (h : Held). h.class) c.give_block.ensures.held ∙ unclassed c.args.self.now.row c.args.replacement c.requires.sound.row (from c.args.self.now c.args.replacement c.requires.sound c.requires.replacement))
        (c.give_block.ensures.prepared ∙ unprepared c.args.self.now.row c.args.replacement c.requires.sound.row (from c.args.self.now c.args.replacement c.requires.sound c.requires.replacement))
        (λ e. absurd cc);
    replacement = (
      (from c.args.self.now c.args.replacement c.requires.sound c.requires.replacement).0,
      subst (λ (h : Held). IsReplacing h (record c.args.replacement { written = written.Sent })) (sym row_then)
          (given_kept (row_of_state c.args.self.now.row) c.args.replacement (from c.args.self.now c.args.replacement c.requires.sound c.requires.replacement).1 c.requires.going there c.requires.here next c.give_block.new.other c.replace-buffer.result block_is),
    );
  }

  size_is : length c.give_block.new.other ≡ (whole_of_state c.args.self.now).planned.hold.size
  size_is = c.give_block.ensures.long ∙ sym (ap (λ (h : Held). h.planned.hold.size) (seen c.args.self.now c.args.replacement c.requires.sound c.requires.replacement) ∙ ap (λ (h : Hold). h.size) (plain_hold c.args.self.now c.args.replacement c.requires.sound c.requires.replacement))

  -- the target is there
  beside : (c.args.replacement.stage ≡ stage.Beside) ⊎ (c.args.replacement.stage ≡ stage.Dropped) → c.args.replacement.stage ≡ stage.Beside
  beside (inl e) = e
  beside (inr e) =
      let f = from c.args.self.now c.args.replacement c.requires.sound c.requires.replacement in
      let gone = sym (target_there c.args.self.now.row c.args.replacement f)
      ∙ there in
      absurd (let g = sym (ap (λ s. not (Rattle.r6_stripe.specs.Replacements.is_gone s) && not (plans.is_out (Rattle.r6_stripe.specs.Places.standing_of (Rattle.std.proofs.Common.get_or c.args.self.now.row.hold.places c.args.replacement.position Rattle.r6_stripe.specs.Places.no_place).state))) e) ∙ gone in cc)

  copied_out : c.args.replacement.stage ≡ stage.Beside → PutsCopyOut (whole_of_state c.args.self.now) c.args.replacement.position c.give_block.new.other
      (held_beside (record c.args.replacement { written = written.Sent }) (row_of_state (record { hold = c.give_block.new.self; second = c.args.self.now.row.second; spare = c.replace-buffer.new.dest; spare_away = true })))
  copied_out at =
      subst (λ (h : Held). PutsCopyOut h c.args.replacement.position c.give_block.new.other (held_beside (record c.args.replacement { written = written.Sent }) (row_of_state (record { hold = c.give_block.new.self; second = c.args.self.now.row.second; spare = c.replace-buffer.new.dest; spare_away = true })))) (sym (seen c.args.self.now c.args.replacement c.requires.sound c.requires.replacement))
      (subst (λ (h : Held). PutsCopyOut (held_beside c.args.replacement (row_of_state c.args.self.now.row)) c.args.replacement.position c.give_block.new.other (held_beside (record c.args.replacement { written = written.Sent }) h)) (sym row_then)
      (copies (row_of_state c.args.self.now.row) c.args.replacement (from c.args.self.now c.args.replacement c.requires.sound c.requires.replacement).1 c.requires.going there c.requires.here next c.give_block.new.other c.replace-buffer.result block_is at))

  new_out : c.args.replacement.stage ≡ stage.Moved → PutsNewOut (whole_of_state c.args.self.now) c.args.replacement.position c.give_block.new.other
      (held_beside (record c.args.replacement { written = written.Sent }) (row_of_state (record { hold = c.give_block.new.self; second = c.args.self.now.row.second; spare = c.replace-buffer.new.dest; spare_away = true })))
  new_out at =
      subst (λ (h : Held). PutsNewOut h c.args.replacement.position c.give_block.new.other (held_beside (record c.args.replacement { written = written.Sent }) (row_of_state (record { hold = c.give_block.new.self; second = c.args.self.now.row.second; spare = c.replace-buffer.new.dest; spare_away = true })))) (sym (seen c.args.self.now c.args.replacement c.requires.sound c.requires.replacement))
      (subst (λ (h : Held). PutsNewOut (held_beside c.args.replacement (row_of_state c.args.self.now.row)) c.args.replacement.position c.give_block.new.other (held_beside (record c.args.replacement { written = written.Sent }) h)) (sym row_then)
      (sends_new (row_of_state c.args.self.now.row) c.args.replacement (from c.args.self.now c.args.replacement c.requires.sound c.requires.replacement).1 c.requires.going there c.requires.here next c.give_block.new.other c.replace-buffer.result block_is at))

pub returns-in-Moved-clause-puts_out : goal.returns-in-Moved-clause-puts_out
returns-in-Moved-clause-puts_out c =
    let a = (goal.at.returns-in-Moved-clause-puts_out c).After-give_block in
    (inr (new_out a c.in-Moved.is), size_is a)

pub returns-in-Moved-clause-sound : goal.returns-in-Moved-clause-sound
returns-in-Moved-clause-sound c = left_sound (goal.at.returns-in-Moved-clause-sound c).After-give_block

pub returns-in-Beside : goal.returns-in-Beside
returns-in-Beside c =
    let a = (goal.at.returns-in-Beside c).After-give_block in
    record { puts_out = (copied_out a (beside a c.in-Beside.is), size_is a); sound = left_sound a }
