use Rattle.std.proofs.Common.{◌≡◌, Bool, true, false, ℕ, refl, sym, ◌∙◌, ap, arith, None, Some}
use Rattle.std.specs.Prelude.{Option, ◌&&◌, if◌then◌else◌}
use Rattle.r6_stripe.specs.Holds.{cell_at}
use Rattle.r6_stripe.specs.Places.{standing_of}
use Rattle.r6_stripe.specs.Plans.{first_from, is_in_error, is_in_sync, is_next_move}
use Rattle.r6_stripe.specs.RowViews.{IsRowSound, row_of_state}
use Rattle.r6_stripe.specs.Seconds.{with_second}
use Rattle.r6_stripe.specs.Steps.{Held}
use Rattle.r6_stripe.specs.Views.{held_of, hold_of}
use Rattle.r6_stripe.specs.declared.row.RowState.{RowState}
use Rattle.r6_stripe.specs.declared.second.Second.{Second}
use Rattle.std.proofs.Common.{length}
use Rattle.r6_stripe.proofs.Alone.{cells_alone}
use Rattle.r6_stripe.proofs.BesideLosses.{sound_some}
use Rattle.r6_stripe.proofs.BesideMoves.{move_is}
use Rattle.r6_stripe.proofs.BesideRest.{none_moved}
use Rattle.r6_stripe.proofs.BesideRow.{row_inside, seen_is}
use Rattle.r6_stripe.proofs.row.RowState.unreadable_second.Goals as goal

abbrev found : Held → Option ℕ
found held = first_from (is_next_move held.planned.hold) 0 (length held.planned.hold.cells)

-- the only one that can be found
second_is : (row : RowState) (second : Second) → IsRowSound row → row.second ≡ Some second → found (row_of_state row) ≡ (if is_in_error (cell_at (hold_of row.hold).cells second.position) && is_in_sync (standing_of second.state) then Some second.position else None)
second_is row second sound is =
    ap found (sym (seen_is row second is))
    ∙ move_is second row.spare (held_of row.hold) row.spare_away (cells_alone row.hold.places row.hold.blocks.items) (sound_some row second sound is)

pub contains-requires : goal.contains-requires
contains-requires c = omega (arith, row_inside c.args.self.now c.in-Some.second c.requires c.in-Some.is, c.requires.sound.at_most)

pub returns-in-Some : goal.returns-in-Some
returns-in-Some c =
    let row = c.args.self.now in
    let second = c.in-Some.second in
    let error : is_in_error (cell_at (hold_of row.hold).cells second.position) ≡ true = sym (c.unreadable.ensures second.position) ∙ sym c.contains.ensures ∙ c.if-contains.true in
    let in_sync : is_in_sync (standing_of second.state) ≡ true = sym c.is_in_sync.ensures ∙ c.if-is_in_sync.true in
    sym (second_is row second c.requires c.in-Some.is ∙ (λ k. if error k && in_sync k then Some second.position else None))

pub returns-in_default : goal.returns-in_default
returns-in_default c =
    let row = c.args.self.now in
    let second = c.in-Some.second in
    let error : is_in_error (cell_at (hold_of row.hold).cells second.position) ≡ false = sym (c.unreadable.ensures second.position) ∙ sym c.contains.ensures ∙ c.if-contains.false in
    sym (second_is row second c.requires c.in-Some.is ∙ (λ k. if error k && is_in_sync (standing_of second.state) then Some second.position else None))

pub returns-in_default-2 : goal.returns-in_default-2
returns-in_default-2 c =
    let row = c.args.self.now in
    let second = c.in-Some.second in
    let out : is_in_sync (standing_of second.state) ≡ false = sym c.is_in_sync.ensures ∙ c.if-is_in_sync.false in
    sym (second_is row second c.requires c.in-Some.is ∙ ap (λ (b : Bool). if is_in_error (cell_at (hold_of row.hold).cells second.position) && b then Some second.position else None) out ∙ never (is_in_error (cell_at (hold_of row.hold).cells second.position)) second.position)
  where
    never : (b : Bool) (p : ℕ) → (if b && false then Some p else None) ≡ None
    never true p = refl
    never false p = refl

pub returns-in_default-3 : goal.returns-in_default-3
returns-in_default-3 c =
    let row = c.args.self.now in
    sym (ap (λ (o : Option Second). found (with_second o row.spare row.spare_away (held_of row.hold))) c.in_default.is ∙ none_moved (hold_of row.hold) (cells_alone row.hold.places row.hold.blocks.items))
