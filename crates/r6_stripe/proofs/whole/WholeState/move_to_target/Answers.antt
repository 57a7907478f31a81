use Rattle.std.proofs.Common.{◌≡◌, inl, inr, true, false, Bool, [], ◌∷◌, ℕ, zero, suc, List, length, get_or, set, sym, ap, subst, ◌∙◌, arith, Some, None}
use Rattle.std.proofs.lemmas.List.{get_or-set_other, get_or-set_same}
use Rattle.std.specs.Prelude.{if◌then◌else◌}
use Rattle.std.proofs.lemmas.Bool.{cases_eq}
use Rattle.r6_stripe.specs.Holds.{Cell, Kind, Standing, cell_at, is_known, no_cell, wants_all}
use Rattle.r6_stripe.specs.Places.{reading_of}
use Rattle.r6_stripe.specs.Plans.{Plan, is_out}
use Rattle.r6_stripe.specs.Replacements.{AreUnlent, IsSource, held_beside, rebuilding, turned}
use Rattle.r6_stripe.specs.RowViews.{row_of_state}
use Rattle.r6_stripe.specs.Steps.{Held, is_away, taken_over}
use Rattle.r6_stripe.specs.Views.{held_of, hold_of}
use Rattle.r6_stripe.specs.WholeViews.{IsSoundReplacing, whole_of_state}
use Rattle.r6_stripe.specs.declared.place.PositionState.{PositionState}
use Rattle.r6_stripe.specs.declared.replacement.Replacement.{Replacement}
use Rattle.r6_stripe.specs.declared.replacement.Written.TheVariants as written
use Rattle.r6_stripe.specs.declared.row.RowState.{RowState}
use Rattle.r6_stripe.proofs.Places.{known_reading, length-cells_of}
use Rattle.r6_stripe.proofs.ReplacingAnswers.{unread_here}
use Rattle.r6_stripe.proofs.ReplacingMoves.{HasTwo, has_two, moves, moves_kept, turned_held, turned_plan, turns}
use Rattle.r6_stripe.proofs.ReplacingWhole.{idle, position_below, rests_sound, row_alone, row_is, seen_is, source, unclassed, unlent, unprepared}
use Rattle.r6_stripe.proofs.Sources.{untasked}
use Rattle.r6_stripe.proofs.States.{away_at}
use Rattle.r6_stripe.proofs.whole.WholeState.move_to_target.Goals.{After-is_known}
use Rattle.r6_stripe.proofs.whole.WholeState.move_to_target.Goals as goal

module _ (c : After-is_known) where
  abbrev row : RowState
  row = c.args.self.now.row

  abbrev r : Replacement
  r = c.args.replacement

  abbrev held : Held
  held = row_of_state c.args.self.now.row

  from : IsSoundReplacing c.args.self.now.row (Some c.args.replacement)
  from = source c.args.self.now c.args.replacement c.requires.sound c.requires.replacement

  seen : whole_of_state c.args.self.now ≡ held_beside c.args.replacement (row_of_state c.args.self.now.row)
  seen = seen_is c.args.self.now c.args.replacement c.requires.sound c.requires.replacement

  two : HasTwo held r r.position
  two = has_two held r from.1 r.position (sym (ap (λ (h : Held). is_out (cell_at h.planned.hold.cells c.args.replacement.position).second) seen) ∙ c.requires.second)

  known : c.is_known.result ≡ is_known (cell_at (row_of_state c.args.self.now.row).planned.hold.cells c.args.replacement.position).reading
  known =
      c.is_known.ensures
      ∙ ap (λ (place : PositionState). is_known (reading_of place.read [])) c.get-place.ensures.value
      ∙ sym (known_reading row.hold.places row.hold.blocks.items r.position (position_below row r from))
      ∙ sym (ap (λ (h : Held). is_known (cell_at h.planned.hold.cells c.args.replacement.position).reading) (row_is row r from))

  place_away : c.get-place.result.away ≡ is_away held r.position
  place_away =
      ap (λ (place : PositionState). place.away) c.get-place.ensures.value
      ∙ sym (away_at row.hold.places r.position (position_below row r from))
      ∙ sym (ap (λ (h : Held). is_away h c.args.replacement.position) (row_is row r from))

  module _ (unread : c.is_known.result ≡ false) where
    unknown : is_known (cell_at held.planned.hold.cells r.position).reading ≡ false
    unknown = sym known ∙ unread

    still : r.written ≡ written.Unwritten
    still = unread_here held r from.1 unknown

    spare_home : row.spare_away ≡ false
    spare_home = sym (ap (λ (h : Held). h.second_away) (row_is row r from)) ∙ from.1.home (λ e. let f = sym still ∙ e in cc)

    no_task : row.hold.task ≡ None
    no_task = untasked row.hold.task (idle row r c.requires.sound.row from)

    long : (other : List ℕ) → other ≡ get_or row.hold.blocks.items r.position [] → c.get-place.result.away ≡ false → length other ≡ row.hold.len
    long other is home = ap length is ∙ c.requires.sound.row.sound.at_home r.position (position_below row r from) (inl (ap (λ (place : PositionState). place.away) (sym c.get-place.ensures.value) ∙ home))

pub returns-then-is_known-clause-held : goal.returns-then-is_known-clause-held
returns-then-is_known-clause-held c =
    let a = (goal.at.returns-then-is_known-clause-held c).After-is_known in
    let r = c.args.replacement in
    moves (held a) r (from a).1 (two a).stage (two a).in_sync (sym (known a) ∙ c.if-is_known.true) ∙ ap (λ (h : Held). taken_over h r.position) (sym (seen a))

pub returns-then-is_known-clause-sound : goal.returns-then-is_known-clause-sound
returns-then-is_known-clause-sound c =
    let a = (goal.at.returns-then-is_known-clause-sound c).After-is_known in
    record { row = c.requires.sound.row; replacement = ((from a).0, moves_kept (held a) c.args.replacement (from a).1 (sym (known a) ∙ c.if-is_known.true)) }

pub turn-requires-clause-size : goal.turn-requires-clause-size
turn-requires-clause-size c =
    let a = (goal.at.turn-requires-clause-size c).After-is_known in
    c.requires.sound.row.spare (spare_home a c.if-is_known.false)

pub turn-requires-clause-untasked : goal.turn-requires-clause-untasked
turn-requires-clause-untasked c = let a = (goal.at.turn-requires-clause-untasked c).After-is_known in no_task a c.if-is_known.false

pub turn-requires-clause-unlent : goal.turn-requires-clause-unlent
turn-requires-clause-unlent c =
    let a = (goal.at.turn-requires-clause-unlent c).After-is_known in
    unlent c.args.self.now.row c.args.replacement c.requires.sound.row (from a)

-- the row that is left, by its kind and plan
module _ (c : After-is_known) (unread : c.is_known.result ≡ false) where
  abbrev plain : Held
  plain = held_of c.args.self.now.row.hold

  left : (kind : Kind) (plan : Plan) (away : Bool) → kind ≡ (if c.args.replacement.closed then Kind.Idle else Kind.Rebuild c.args.replacement.position) → plan ≡ turned_plan c.args.replacement.closed plain.planned.plan → away ≡ is_away (held c) c.args.replacement.position →
      record (turned plain c.args.replacement.position) { planned = record { hold = record (turned plain c.args.replacement.position).planned.hold { kind = kind }; plan = plan }; second_away = away } ≡ taken_over (whole_of_state c.args.self.now) c.args.replacement.position
  left kind plan away k q g =
      (λ i. record (turned plain c.args.replacement.position) { planned = record { hold = record (turned plain c.args.replacement.position).planned.hold { kind = k i }; plan = q i }; second_away = (g ∙ ap (λ (h : Held). is_away h c.args.replacement.position) (row_is (row c) (r c) (from c))) i })
      ∙ sym (ap (turned_held (r c)) (row_is (row c) (r c) (from c)))
      ∙ turns (held c) (r c) (from c).1 (two c).stage (two c).in_sync (unknown c unread) (still c unread)
      ∙ ap (λ (h : Held). taken_over h c.args.replacement.position) (sym (seen c))

  no_kind : plain.planned.hold.kind ≡ Kind.Idle
  no_kind = idle (row c) (r c) c.requires.sound.row (from c)

unlent_turned : (h : Held) (p : ℕ) → AreUnlent h → AreUnlent (turned h p)
unlent_turned h p unlent i gone =
    elim (cases_eq i p) [
      | inl same ↦ absurd (set_false h.away p (subst (λ (k : ℕ). get_or (set h.away p false) k false ≡ true) same gone))
      | inr apart ↦
          ap (λ (c : Cell). is_known c.reading) (get_or-set_other h.planned.hold.cells p i (record no_cell { standing = Standing.Target }) no_cell apart)
          ∙ unlent i (sym (get_or-set_other h.away p i false false apart) ∙ gone)
    ]
  where
    set_false : (away : List Bool) (i : ℕ) → get_or (set away i false) i false ≡ true → ⊥
    set_false [] i e = cc
    set_false (b ∷ away) zero e = cc
    set_false (b ∷ away) (suc i) e = set_false away i e

pub returns-then-replacement-clause-held : goal.returns-then-replacement-clause-held
returns-then-replacement-clause-held c =
    let a = (goal.at.returns-then-replacement-clause-held c).After-is_known in
    let plain = held_of c.args.self.now.row.hold in
    row_alone c.turn.new.self c.args.self.now.row.second c.turn.new.other c.get-place.result.away (from a).0
    ∙ ap (λ (h : Held). record h { second_away = c.get-place.result.away }) c.turn.ensures.held
    ∙ left a c.if-is_known.false plain.planned.hold.kind plain.planned.plan c.get-place.result.away
    (no_kind a c.if-is_known.false ∙ sym (ap (λ (b : Bool). if b then Kind.Idle else Kind.Rebuild c.args.replacement.position) c.if-replacement.true))
    (sym (ap (λ (b : Bool). turned_plan b plain.planned.plan) c.if-replacement.true)) (place_away a)

pub returns-then-replacement-clause-sound : goal.returns-then-replacement-clause-sound
returns-then-replacement-clause-sound c =
    let a = (goal.at.returns-then-replacement-clause-sound c).After-is_known in
    let row = c.args.self.now.row in
    let was = c.turn.ensures.held in
    record {
      row = rests_sound c.turn.new.self row.second c.turn.new.other c.get-place.result.away c.turn.ensures.sound
          (ap (λ (h : Held). wants_all h.planned.hold.kind) was ∙ ap wants_all (no_kind a c.if-is_known.false))
          (ap (λ (h : Held). h.class) was ∙ unclassed row c.args.replacement c.requires.sound.row (from a))
          (c.turn.ensures.prepared ∙ unprepared row c.args.replacement c.requires.sound.row (from a))
          (from a).0 (λ home. long a c.if-is_known.false c.turn.new.other c.turn.ensures.other home ∙ sym (ap (λ (h : Held). h.planned.hold.size) was));
      replacement = tt;
    }

pub take_up-requires-clause-untasked : goal.take_up-requires-clause-untasked
take_up-requires-clause-untasked c =
    let a = (goal.at.take_up-requires-clause-untasked c).After-is_known in
    untasked c.turn.new.self.task (ap (λ (h : Held). h.planned.hold.kind) c.turn.ensures.held ∙ no_kind a c.if-is_known.false)

pub take_up-requires-clause-unlent : goal.take_up-requires-clause-unlent
take_up-requires-clause-unlent c =
    let a = (goal.at.take_up-requires-clause-unlent c).After-is_known in
    let row = c.args.self.now.row in
    subst AreUnlent (sym c.turn.ensures.held) (unlent_turned (held_of row.hold) c.args.replacement.position (unlent row c.args.replacement c.requires.sound.row (from a)))

pub take_up-requires-clause-sources : goal.take_up-requires-clause-sources
take_up-requires-clause-sources c = λ other apart.
    let a = (goal.at.take_up-requires-clause-sources c).After-is_known in
    let row = c.args.self.now.row in
    let p = c.args.replacement.position in
    subst IsSource
    (ap (λ (h : Held). cell_at h.planned.hold.cells other) (row_is row c.args.replacement (from a))
    ∙ sym (ap (λ (h : Held). cell_at h.planned.hold.cells other) c.turn.ensures.held ∙ get_or-set_other (hold_of row.hold).cells p other (record no_cell { standing = Standing.Target }) no_cell apart))
    ((from a).1.sources other)

pub take_up-requires-clause-target : goal.take_up-requires-clause-target
take_up-requires-clause-target c =
    let a = (goal.at.take_up-requires-clause-target c).After-is_known in
    let row = c.args.self.now.row in
    let p = c.args.replacement.position in
    ap (λ (h : Held). cell_at h.planned.hold.cells p) c.turn.ensures.held
    ∙ get_or-set_same (hold_of row.hold).cells p (record no_cell { standing = Standing.Target }) no_cell (omega (arith, position_below row c.args.replacement (from a), length-cells_of row.hold.places row.hold.blocks.items))

pub take_up-requires-clause-uncut : goal.take_up-requires-clause-uncut
take_up-requires-clause-uncut c =
    let a = (goal.at.take_up-requires-clause-uncut c).After-is_known in
    let row = c.args.self.now.row in
    ap (λ (h : Held). h.planned.hold.cut_short) c.turn.ensures.held
    ∙ sym (ap (λ (h : Held). h.planned.hold.cut_short) (row_is row c.args.replacement (from a))) ∙ (from a).1.uncut

pub returns-clause-held : goal.returns-clause-held
returns-clause-held c =
    let a = (goal.at.returns-clause-held c).After-is_known in
    let plain = held_of c.args.self.now.row.hold in
    let p = c.args.replacement.position in
    row_alone c.take_up.new.self c.args.self.now.row.second c.turn.new.other c.get-place.result.away (from a).0
    ∙ ap (λ (h : Held). record h { second_away = c.get-place.result.away }) (c.take_up.ensures.held ∙ ap (λ (h : Held). rebuilding h p) c.turn.ensures.held)
    ∙ left a c.if-is_known.false (Kind.Rebuild p) Plan.Recover c.get-place.result.away
    (sym (ap (λ (b : Bool). if b then Kind.Idle else Kind.Rebuild p) c.if-replacement.false))
    (sym (ap (λ (b : Bool). turned_plan b plain.planned.plan) c.if-replacement.false)) (place_away a)

pub returns-clause-sound : goal.returns-clause-sound
returns-clause-sound c =
    let a = (goal.at.returns-clause-sound c).After-is_known in
    let row = c.args.self.now.row in
    let p = c.args.replacement.position in
    let was = c.take_up.ensures.held ∙ ap (λ (h : Held). rebuilding h p) c.turn.ensures.held in
    record {
      row = rests_sound c.take_up.new.self row.second c.turn.new.other c.get-place.result.away c.take_up.ensures.sound
          (ap (λ (h : Held). wants_all h.planned.hold.kind) was)
          (ap (λ (h : Held). h.class) was ∙ unclassed row c.args.replacement c.requires.sound.row (from a))
          (c.take_up.ensures.prepared ∙ c.turn.ensures.prepared ∙ unprepared row c.args.replacement c.requires.sound.row (from a))
          (from a).0 (λ home. long a c.if-is_known.false c.turn.new.other c.turn.ensures.other home ∙ sym (ap (λ (h : Held). h.planned.hold.size) was));
      replacement = tt;
    }
