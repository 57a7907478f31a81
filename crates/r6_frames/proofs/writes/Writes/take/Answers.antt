use Rattle.std.proofs.Common.{◌∷◌, ◌∙◌, List, ℕ, ap, refl, sym}
use Rattle.r6_layout.specs.PlainArray.{Block}
use Rattle.r6_frames.specs.declared.frames.ServedRequest.{ServedRequest}
use Rattle.r6_frames.specs.Writes.{Entry, entries_of}
use Rattle.r6_frames.proofs.writes.Writes.take.Goals as goal

pub returns : goal.returns
returns c =
    let served = c.in_ok-id.field-0 in
    let taken : Entry =
    record { served = served; index = c.in_ok-buffer.field-0-0; new_data = c.in_ok-buffer.buffer } in (
      taken,
      sym c.self.view_is
          ∙ ap (λ (all : List ServedRequest). entries_of all c.self.inside.batch.blocks) c.in_ok-id.ensures
          ∙ ap (λ (blocks : List (ℕ × Block)). entries_of (served ∷ c.pop.new.self) blocks) c.in_ok-buffer.ensures.taken,
      refl,
    )
