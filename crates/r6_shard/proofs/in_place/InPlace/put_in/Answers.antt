use Rattle.std.proofs.Common.{sym, subst, Some}
use Rattle.std.specs.Prelude.{slice_set}
use Rattle.r6_shard.specs.Parts.{PutsIn}
use Rattle.r6_shard.proofs.Handed.{puts-place, none-of}
use Rattle.r6_shard.proofs.in_place.InPlace.put_in.Goals as goal

pub returns-in-Some-clause-taken : goal.returns-in-Some-clause-taken
returns-in-Some-clause-taken g c =
    let parts = c.args.self.now.parts.items in
    let part = c.args.part in
    let at = c.in-Some.at in
    let there = c.index_mut.result.now in
    subst (λ e. PutsIn part (Some e) parts (slice_set parts at c.replace.new.dest)) (sym c.replace.ensures.value)
    (subst (λ p. PutsIn part (Some there) parts (slice_set parts at p)) (sym c.replace.ensures.after)
    (puts-place parts at there part (sym c.in-Some.ensures.place) (sym c.index_mut.ensures.value)))

pub add-requires : goal.add-requires
add-requires g c = none-of c.args.self.now.parts.items c.args.part.slot c.args.part.generation (sym c.in-None.ensures.place)
