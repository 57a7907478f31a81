use Rattle.std.proofs.Common.{inl, inr, sym, ◌∙◌}
use Rattle.std.proofs.lemmas.Bool.{cases_Bool}
use Rattle.r6_shard.proofs.Here.{found-here, placed-here, lacks-here, tells-here}
use Rattle.r6_shard.proofs.in_place.InPlaceTakesParts.has_part.Goals as goal

pub returns-clause-here : goal.returns-clause-here
returns-clause-here g c =
    let parts = c.args.self.now.parts.items in
    let slot = c.args.slot in
    let generation = c.args.generation in (
      λ some. placed-here parts slot generation c.place_of.result c.place_of.ensures.place (sym c.is_some.ensures ∙ some),
      λ here. elim (cases_Bool c.is_some.result) [
        | inl some ↦ some
        | inr none ↦ absurd (lacks-here parts slot generation c.place_of.result c.place_of.ensures.place (sym c.is_some.ensures ∙ none) here)
      ],
    )

pub returns-clause-tells : goal.returns-clause-tells
returns-clause-tells g c = λ some.
    let parts = c.args.self.now.parts.items in
    let here = placed-here parts c.args.slot c.args.generation c.place_of.result c.place_of.ensures.place (sym c.is_some.ensures ∙ some) in
    tells-here g.D.BlockDevice.told parts c.args.slot c.args.generation (found-here parts c.args.slot c.args.generation here)
