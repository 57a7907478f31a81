use Rattle.std.proofs.Common.{◌≡◌, inl, inr, ℕ, [], List, length, get_or, set, refl, sym, ◌∙◌, ap, subst, arith}
use Rattle.std.proofs.lemmas.Bool.{cases_eq}
use Rattle.std.proofs.lemmas.List.{get_or-set_other, get_or-set_same, length-set}
use Rattle.r6_stripe.specs.Holds.{Cell, Reading, cell_at}
use Rattle.r6_stripe.specs.Places.{cell_of, cells_of, no_place, reading_of, writing_of}
use Rattle.r6_stripe.specs.Sound.{IsPlaceSound}
use Rattle.r6_stripe.specs.Views.{held_of, hold_of}
use Rattle.r6_stripe.specs.declared.place.PositionState.{PositionState}
use Rattle.r6_stripe.specs.declared.place.ReadState.{ReadState}
use Rattle.r6_stripe.specs.declared.place.ReadState.TheVariants as read
use Rattle.r6_stripe.specs.declared.place.WriteState.{WriteState}
use Rattle.r6_stripe.specs.declared.place.WriteState.TheVariants as write
use Rattle.r6_stripe.specs.declared.state.HoldState.{HoldState}
use Rattle.r6_stripe.proofs.Places.{any_default, cell_at-cells_of, known_only, known_reading}
use Rattle.r6_stripe.proofs.Sources.{cells_of-set_block}
use Rattle.r6_stripe.proofs.States.{away_at}
use Rattle.r6_stripe.proofs.state.HoldState.give_block.Goals.{After-swap}
use Rattle.r6_stripe.proofs.state.HoldState.give_block.Goals as goal

unwritten_known : (place : PositionState) → IsPlaceSound place → place.read ≡ read.Known → place.write ≡ write.Unwritten
unwritten_known place sound known = by_write place.write refl
  where
    by_write : (w : WriteState) → place.write ≡ w → place.write ≡ write.Unwritten
    by_write write.Unwritten e = e
    by_write write.Ready e = absurd (sound.one_block (λ u. let f = sym e ∙ u in cc) known)
    by_write write.Sent e = absurd (sound.one_block (λ u. let f = sym e ∙ u in cc) known)
    by_write write.Confirmed e = absurd (sound.one_block (λ u. let f = sym e ∙ u in cc) known)

module _ (c : After-swap) where
  abbrev s : HoldState
  s = c.args.self.now

  abbrev i : ℕ
  i = c.args.position

  abbrev place : PositionState
  place = get_or s.places i no_place

  at : cell_at (hold_of s).cells i ≡ cell_of place (get_or s.blocks.items i [])
  at = cell_at-cells_of s.places s.blocks.items i no_place c.requires.place

  known : place.read ≡ read.Known
  known = known_only place.read (sym (known_reading s.places s.blocks.items i c.requires.place) ∙ c.requires.known) (λ gone. c.requires.there (ap (λ (cell : Cell). cell.reading) at ∙ ap (λ (r : ReadState). reading_of r (get_or s.blocks.items i [])) gone))

  unwritten : place.write ≡ write.Unwritten
  unwritten = unwritten_known place (c.requires.sound.settled i c.requires.place) known

  block_is : c.swap.new.y ≡ get_or s.blocks.items i []
  block_is = c.swap.ensures.y_after ∙ c.index_mut.ensures.value ∙ any_default s.blocks.items i _ [] (omega (arith, c.requires.place, c.requires.sound.wide))

  new_cell : (block other : List ℕ) → cell_of place other ≡ record (cell_of place block) { reading = Reading.Known other }
  new_cell block other = (λ k. record (cell_of place other) {
    reading = (ap (λ (r : ReadState). reading_of r other) known) k;
    writing = (ap (λ (w : WriteState). writing_of w other) unwritten ∙ sym (ap (λ (w : WriteState). writing_of w block) unwritten)) k;
  })

  cells : cells_of s.places (set s.blocks.items i c.swap.new.x) ≡ set (cells_of s.places s.blocks.items) i (record (cell_at (cells_of s.places s.blocks.items) i) { reading = Reading.Known c.args.other.now })
  cells =
      cells_of-set_block s.places s.blocks.items i c.swap.new.x c.requires.place (omega (arith, c.requires.place, c.requires.sound.wide))
      ∙ ap (λ (b : List ℕ). set (cells_of s.places s.blocks.items) i (cell_of place b)) c.swap.ensures.x_after
      ∙ ap (λ (cell : Cell). set (cells_of s.places s.blocks.items) i cell) (new_cell (get_or s.blocks.items i []) c.args.other.now ∙ ap (λ (cell : Cell). record cell { reading = Reading.Known c.args.other.now }) (sym at))

pub returns-clause-held : goal.returns-clause-held
returns-clause-held c =
    let s = c.args.self.now in
    ap (λ (cs : List Cell). record (held_of s) { planned = record (held_of s).planned { hold = record (hold_of s) { cells = cs } } }) (cells (goal.at.returns-clause-held c).After-swap)

pub returns-clause-block : goal.returns-clause-block
returns-clause-block c =
    let a = (goal.at.returns-clause-block c).After-swap in
    ap (λ (cell : Cell). cell.reading) (at a) ∙ ap (λ (r : ReadState). reading_of r (get_or c.args.self.now.blocks.items c.args.position [])) (known a) ∙ ap Reading.Known (sym (block_is a))

pub returns-clause-long : goal.returns-clause-long
returns-clause-long c =
    let s = c.args.self.now in
    let i = c.args.position in
    ap length (block_is (goal.at.returns-clause-long c).After-swap) ∙ c.requires.sound.at_home i c.requires.place (inl (sym (away_at s.places i c.requires.place) ∙ c.requires.home))

pub returns-clause-sound : goal.returns-clause-sound
returns-clause-sound c =
    let sound = c.requires.sound in
    let s = c.args.self.now in
    let i = c.args.position in
    record {
      four_or_more = sound.four_or_more;
      at_most = sound.at_most;
      wide = length-set s.blocks.items i c.swap.new.x ∙ sound.wide;
      sum = sound.sum;
      weighted = sound.weighted;
      fits = sound.fits;
      at_home = λ j below has. elim (cases_eq j i) [
        | inl same ↦
            ap length (subst (λ (k : ℕ). get_or (set s.blocks.items i c.swap.new.x) k [] ≡ c.swap.new.x) (sym same) (get_or-set_same s.blocks.items i c.swap.new.x [] (omega (arith, c.requires.place, sound.wide))) ∙ c.swap.ensures.x_after)
            ∙ c.requires.size
        | inr apart ↦ ap length (get_or-set_other s.blocks.items i j c.swap.new.x [] apart) ∙ sound.at_home j below has
      ];
      settled = sound.settled;
      cut = sound.cut;
      targets = sound.targets;
      lends = sound.lends;
      lends_last = sound.lends_last;
      rests = sound.rests;
      computed = sound.computed;
      renewed = sound.renewed;
      course = sound.course;
    }
