use Rattle.std.proofs.Common.{◌≡◌, ◌∙◌, ℕ, Bool, true, nat_le, nat_lt, ap, sym}
use Rattle.std.specs.Prelude.{◌==◌, ◌&&◌, not}
use Rattle.std.specs.List.{list_any}
use Rattle.std.proofs.lemmas.Bool.{false≢true, le-leb, lt-leb}
use Rattle.r6_frames.specs.Rebuilt.{next_row}
use Rattle.r6_frames.proofs.rebuilt.RebuiltRows.is_built.Goals.{then-self-row, else-self-row}
use Rattle.r6_frames.proofs.rebuilt.RebuiltRows.is_built.Goals as goal

last : (x y z : Bool) → x ≡ true → y ≡ true → z ≡ (x && (y && z))
last x y z first second = sym (ap (λ b. b && (y && z)) first ∙ ap (λ b. b && z) second)

pub returns-then-row-self : goal.returns-then-row-self
returns-then-row-self c =
    let r = c.args.self.now in
    let row = c.args.row in
    elim c.if-self-row.branch [
      | then-self-row w ↦
          ap not c.contains.ensures.value
          ∙ last (nat_le r.start row) (nat_lt row (next_row r 7)) (not (list_any (λ (next : ℕ). next == row) r.next))
          (le-leb r.start row w.if-self-row.true) (sym w.value-is ∙ c.if-row-self.true)
      | else-self-row w ↦
          let before = lt-leb r.start row w.if-self-row.false in
          absurd (false≢true (sym before ∙ sym w.value-is ∙ c.if-row-self.true))
    ]
