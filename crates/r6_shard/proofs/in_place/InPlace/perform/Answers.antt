use Rattle.std.proofs.Common.{◌<◌, length, refl, sym, subst}
use Rattle.std.specs.Prelude.{option_map, unwrap_or}
use Rattle.r6_dev.specs.Promises.{Covers, no_promise}
use Rattle.r6_exchange.specs.declared.task.Part.{Part}
use Rattle.r6_shard.proofs.Places.{labels-kept, performed-there}
use Rattle.r6_shard.proofs.Handed.{none-of}
use Rattle.r6_shard.proofs.Promises.{part-at, promise-of, still-promised, no-row}
use Rattle.r6_shard.proofs.in_place.InPlace.perform.Goals as goal

pub returns-clause-performed : goal.returns-clause-performed
returns-clause-performed g c =
    performed-there g.D.BlockDevice.told c.args.self.now.parts.items c.in-Some.at c.index_mut-part.result.now
    (record { slot = c.index_mut-part.result.now.slot; generation = c.index_mut-part.result.now.generation; device = c.perform_on.new.device })
    c.args.command c.perform_on.result (sym c.in-Some.ensures.place) (sym c.index_mut-part.ensures.value) refl refl c.perform_on.ensures.done

pub returns-in_default-clause-sound : goal.returns-in_default-clause-sound
returns-in_default-clause-sound g c = λ covers.
    let command = c.args.command in
    let none = none-of c.args.self.now.parts.items command.slot command.generation (sym c.in_default.ensures.place) in
    absurd (no-row command.row (subst (λ o. command.row < (unwrap_or (option_map (λ (y : Part _). g.D.BlockDevice.promised y.device) o) no_promise).end) none covers.1))

pub returns-clause-sound : goal.returns-clause-sound
returns-clause-sound g c = λ covers.
    let command = c.args.command in
    let here = c.index_mut-part.result.now in
    let is = promise-of g.D.BlockDevice.promised c.args.self.now.parts.items command.slot command.generation here
    (part-at c.args.self.now.parts.items c.in-Some.at here command.slot command.generation (sym c.in-Some.ensures.place) (sym c.index_mut-part.ensures.value)) in
    c.perform_on.ensures.sound (subst (λ y. Covers y command.row (length command.buffer)) is covers)

pub returns-clause-promised : goal.returns-clause-promised
returns-clause-promised g c =
    let command = c.args.command in
    let same = still-promised g.D.BlockDevice.promised c.args.self.now.parts.items c.in-Some.at c.index_mut-part.result.now
    (record { slot = c.index_mut-part.result.now.slot; generation = c.index_mut-part.result.now.generation; device = c.perform_on.new.device })
    command.slot command.generation (sym c.in-Some.ensures.place) (sym c.index_mut-part.ensures.value) refl refl c.perform_on.ensures.promised in
    λ i slot generation. same slot generation i

pub returns-clause-labels : goal.returns-clause-labels
returns-clause-labels g c =
    labels-kept c.args.self.now.parts.items c.in-Some.at c.index_mut-part.result.now
    (record { slot = c.index_mut-part.result.now.slot; generation = c.index_mut-part.result.now.generation; device = c.perform_on.new.device })
    (sym c.index_mut-part.ensures.value) refl refl
