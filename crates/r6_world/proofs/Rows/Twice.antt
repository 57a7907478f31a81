-- The laws of a row, by the sides of its positions: false names the first device of a position, true the second one.
use Rattle.std.proofs.Common.{◌≡◌, ◌≢◌, ℕ, List, Bool, true, false, length, inl, inr, refl, sym, ap, ◌∙◌}
use Rattle.std.proofs.lemmas.Bool.{cases_eq}
use Rattle.std.specs.Prelude.{if◌then◌else◌}
use Rattle.r6_recover.specs.Rows.{IsFull, block_at}
use Rattle.r6_stripe.specs.Holds.{Hold, Kind, Outcome, cell_at, after_event, begun, ended, after, IsIdle, IsBefore, MayAsk, MayFix, MayAskAgain, MayRestore, MayCompute, MayWrite, MayCopy, MayEnd, MayBegin}
use Rattle.r6_stripe.specs.Holds.Kind.{Idle, Read, Write, Rebuild, Check, Repair}
use Rattle.r6_stripe.specs.Holds.Outcome.{Data}
use Rattle.r6_stripe.specs.Holds.Standing.{InSync, Out}
use Rattle.r6_stripe.specs.Holds.Reading.{Asked}
use Rattle.r6_stripe.specs.Holds.Event.{Asks, Fixes, AsksAgain, Restores, Computes, Writes, Copies, Fails, Loses, Moves, Drops}
use Rattle.r6_stripe.specs.RowWorld.{Command, Device, performed, IsRead, IsUnperformed, IsPerformed, is_rewritten}
use Rattle.r6_stripe.specs.RowWorld.Command.{NoCommand, ReadOut, WriteOut}
use Rattle.r6_stripe.specs.Seen.{put, Sight, Seen}
use Rattle.r6_stripe.proofs.Law.{start_kept, run_kept}
use Rattle.r6_stripe.proofs.Seen as laws
use Rattle.r6_world.specs.Refusals.{standing_on, writing_on}
use Rattle.r6_world.proofs.Cells.{answered_on}

-- another value at one place of one side
abbrev pub put_on : {A : Type 0} → (Bool → ℕ → A) → Bool → ℕ → A → Bool → ℕ → A
put_on f false at value false = put (f false) at value
put_on f false at value true = f true
put_on f true at value false = f false
put_on f true at value true = put (f true) at value

abbrev pub sight : (Bool → ℕ → List ℕ) → (Bool → ℕ → Command) → Bool → Sight
sight block out side = record { block = block side; out = out side }

abbrev pub SeenTwice : Hold → (Bool → ℕ → List ℕ) → (Bool → ℕ → Command) → List (List ℕ) → Type 0
SeenTwice hold block out row = Seen hold (sight block out false) (sight block out true) row

-- what is out of sight may be anything
pub out_of_sight : (hold : Hold) (block block' : Bool → ℕ → List ℕ) (out out' : Bool → ℕ → Command) (row : List (List ℕ)) → SeenTwice hold block out row
    → ((side : Bool) (position : ℕ) → standing_on side (cell_at hold.cells position) ≢ Out → (block' side position ≡ block side position) × (out' side position ≡ out side position))
    → SeenTwice hold block' out' row
out_of_sight hold block block' out out' row x same =
    laws.out_of_sight hold (sight block out false) (sight block' out' false) (sight block out true) (sight block' out' true) row x (same false) (same true)

module _ (hold : Hold) (block : Bool → ℕ → List ℕ) (out : Bool → ℕ → Command) (row : List (List ℕ)) where
  pub starts : IsIdle hold → length row ≡ length hold.cells → IsFull hold.size row
      → ((side : Bool) (position : ℕ) → standing_on side (cell_at hold.cells position) ≢ Out → (block side position ≡ block_at row position) × (out side position ≡ NoCommand))
      → SeenTwice hold block out row
  starts rests wide full blocks = laws.starts hold (sight block out false) (sight block out true) row rests wide full (blocks false) (blocks true)

  -- a command is put out
  pub asks : (position : ℕ) → SeenTwice hold block out row → MayAsk hold position → SeenTwice (after_event hold (Asks position)) block (put_on out false position ReadOut) row
  asks position x may = laws.asks hold (sight block out false) (sight block out true) row position x may

  pub fixes : (position : ℕ) (was : List ℕ) → SeenTwice hold block out row → MayFix hold position was → SeenTwice (after_event hold (Fixes position was)) block (put_on out false position (WriteOut was)) row
  fixes position was x may = laws.fixes hold (sight block out false) (sight block out true) row position was x may

  pub asks_again : (position : ℕ) → SeenTwice hold block out row → MayAskAgain hold position → SeenTwice (after_event hold (AsksAgain position)) block (put_on out false position ReadOut) row
  asks_again position x may = laws.asks_again hold (sight block out false) (sight block out true) row position x may

  pub sends : (position : ℕ) (new : List ℕ) → SeenTwice hold block out row → MayWrite hold position new → SeenTwice (after_event hold (Writes position new)) block (put_on out false position (WriteOut new)) row
  sends position new x may = laws.sends hold (sight block out false) (sight block out true) row position new x may

  pub copies : (position : ℕ) (new : List ℕ) → SeenTwice hold block out row → MayCopy hold position new → SeenTwice (after_event hold (Copies position new)) block (put_on out true position (WriteOut new)) row
  copies position new x may = laws.copies hold (sight block out false) (sight block out true) row position new x may

  -- a hold works out blocks
  pub restores : (position : ℕ) (was : List ℕ) → SeenTwice hold block out row → MayRestore hold position was → SeenTwice (after_event hold (Restores position was)) block out row
  restores position was x may = laws.restores hold (sight block out false) (sight block out true) row position was x may

  pub computes : (new : List (ℕ × List ℕ)) → SeenTwice hold block out row → MayCompute hold new → SeenTwice (after_event hold (Computes new)) block out row
  computes new x may = laws.computes hold (sight block out false) (sight block out true) row new x may

  -- a device performs its command, and the answer is delivered
  pub performs : (side : Bool) (position : ℕ) → SeenTwice hold block out row → standing_on side (cell_at hold.cells position) ≢ Out → IsUnperformed (out side position)
      → SeenTwice hold (put_on block side position (performed (block side position) (out side position)).block) (put_on out side position (performed (block side position) (out side position)).command) row
  performs false position x there unperformed = laws.performs hold (sight block out false) (sight block out true) row position x there unperformed
  performs true position x there unperformed = laws.performs_copy hold (sight block out false) (sight block out true) row position x there unperformed

  pub answers : (side : Bool) (position : ℕ) → SeenTwice hold block out row → standing_on side (cell_at hold.cells position) ≢ Out → IsPerformed (out side position)
      → SeenTwice (answered_on side hold position (out side position)) block (put_on out side position NoCommand) row
  answers false position x there done = laws.answers hold (sight block out false) (sight block out true) row position x there done
  answers true position x there done = laws.settles hold (sight block out false) (sight block out true) row position x there done

  pub fails : (position : ℕ) → SeenTwice hold block out row → (cell_at hold.cells position).standing ≢ Out → IsRead (out false position) → (cell_at hold.cells position).reading ≡ Asked
      → SeenTwice (after_event hold (Fails position)) block (put_on out false position NoCommand) row
  fails position x there read asked = laws.fails hold (sight block out false) (sight block out true) row position x there read asked

  -- a position is lost, or one of its devices
  pub loses : (position : ℕ) → SeenTwice hold block out row → (cell_at hold.cells position).standing ≢ Out → SeenTwice (after_event hold (Loses position)) block out row
  loses position x there = laws.loses hold (sight block out false) (sight block out true) row position x there

  pub moves : (position : ℕ) → SeenTwice hold block out row → (cell_at hold.cells position).standing ≢ Out → (cell_at hold.cells position).second ≢ Out
      → SeenTwice (after_event hold (Moves position)) (put_on block false position (block true position)) (put_on out false position (out true position)) row
  moves position x there there' = laws.moves hold (sight block out false) (sight block out true) row position x there there'

  pub drops : (position : ℕ) → SeenTwice hold block out row → (cell_at hold.cells position).second ≢ Out → SeenTwice (after_event hold (Drops position)) block out row
  drops position x there = laws.drops hold (sight block out false) (sight block out true) row position x there

  -- while no hold is there no command is out
  pub calm : (side : Bool) (position : ℕ) → SeenTwice hold block out row → hold.kind ≡ Idle → standing_on side (cell_at hold.cells position) ≢ Out → out side position ≡ NoCommand
  calm false position x idle there =
      let kept = (run_kept x.steps x.start x.first x.full (start_kept x.start x.first x.at_rest x.full) x.may).1 in
      ap (λ (d : Device). d.command) (sym (x.firsts position there)) ∙ ((kept.here position).idle (ap (λ (h : Hold). h.kind) x.hold_is ∙ idle)).0.no_command
  calm true position x idle there =
      let kept = (run_kept x.steps x.start x.first x.full (start_kept x.start x.first x.at_rest x.full) x.may).1 in
      ap (λ (d : Device). d.command) (sym (x.seconds position there)) ∙ ((kept.here position).idle (ap (λ (h : Hold). h.kind) x.hold_is ∙ idle)).1.no_command

  -- a hold begins
  begins-there : (kind : Kind) (out' : Bool → ℕ → Command) → SeenTwice hold block out row → hold.kind ≡ Idle → MayBegin hold kind
      → ((side : Bool) (position : ℕ) → out side position ≡ NoCommand → out' side position ≡ out side position)
      → ((target : ℕ) → kind ≡ Rebuild target → (side : Bool) → out' side target ≡ NoCommand) → SeenTwice (begun hold kind) block out' row
  begins-there kind out' x idle may same lies =
      laws.begins hold (sight block out' false) (sight block out' true) row kind
      (out_of_sight hold block block out out' row x (λ side position there. (refl, same side position (calm side position x idle there)))) idle may (λ target e. (lies target e false, lies target e true))

  pub begins : (kind : Kind) → SeenTwice hold block out row → hold.kind ≡ Idle → MayBegin hold kind → (out' : Bool → ℕ → Command) × SeenTwice (begun hold kind) block out' row
  begins (Rebuild target) x idle may =
      let out' : Bool → ℕ → Command = λ side. put (out side) target NoCommand in (
        out',
        begins-there (Rebuild target) out' x idle may
            (λ side position none. elim (cases_eq position target) [
              | inl same ↦ laws.put-same (out side) target NoCommand position same ∙ sym none
              | inr ne ↦ laws.put-other (out side) target NoCommand position ne
            ])
            (λ t e side. laws.put-same (out side) target NoCommand t (rebuild-inj t target (sym e))),
      )
    where
      rebuild-inj : (c d : ℕ) → Rebuild c ≡ Rebuild d → c ≡ d
      rebuild-inj c d e = cc
  begins Idle x idle may = absurd may
  begins (Read index) x idle may = (out, begins-there (Read index) out x idle may (λ side position none. refl) (λ t e. absurd (cc)))
  begins (Write batch) x idle may = (out, begins-there (Write batch) out x idle may (λ side position none. refl) (λ t e. absurd (cc)))
  begins Check x idle may = (out, begins-there Check out x idle may (λ side position none. refl) (λ t e. absurd (cc)))
  begins Repair x idle may = (out, begins-there Repair out x idle may (λ side position none. refl) (λ t e. absurd (cc)))

  -- a hold ends, and leaves the row after it
  pub ends : (outcome : Outcome) → SeenTwice hold block out row → MayEnd hold outcome → SeenTwice (ended hold outcome) block out (after hold row)
  ends outcome x may = laws.ends hold (sight block out false) (sight block out true) row outcome x may

  -- what is seen is as the law of one row says
  pub full : SeenTwice hold block out row → IsFull hold.size row
  full x = (laws.idle hold (sight block out false) (sight block out true) row x).full

  pub idle : (side : Bool) → SeenTwice hold block out row → hold.kind ≡ Idle → (position : ℕ) → standing_on side (cell_at hold.cells position) ≡ InSync → block side position ≡ block_at row position
  idle false x = (laws.idle hold (sight block out false) (sight block out true) row x).firsts
  idle true x = (laws.idle hold (sight block out false) (sight block out true) row x).seconds

  pub before : SeenTwice hold block out row → IsBefore hold row
  before x = laws.before hold (sight block out false) (sight block out true) row x

  pub reads : (index : ℕ) (answer : List ℕ) → SeenTwice hold block out row → hold.kind ≡ Read index → MayEnd hold (Data answer) → block_at row index ≡ answer
  reads index answer x is may = laws.reads hold (sight block out false) (sight block out true) row index answer x is may

  pub held : (side : Bool) (position : ℕ) → SeenTwice hold block out row → standing_on side (cell_at hold.cells position) ≡ InSync
      → block side position ≡ (if is_rewritten (writing_on side (cell_at hold.cells position)) (out side position) then block_at (after hold row) position else block_at row position)
  held false position x in_sync = laws.held hold (sight block out false) (sight block out true) row position x in_sync
  held true position x in_sync = laws.held_twice hold (sight block out false) (sight block out true) row position x in_sync
