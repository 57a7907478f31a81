use Rattle.std.proofs.Common.{List, ◌++◌, ◌∷◌, [], refl, sym, subst, ap, ◌∙◌}
use Rattle.std.specs.Prelude.{slice_set}
use Rattle.r6_exchange.specs.declared.task.ServedPart.{ServedPart}
use Rattle.r6_exchange.specs.Answering.{label_of, labels_of}
use Rattle.r6_exchange.specs.Parts.{TakesUp}
use Rattle.r6_exchange.proofs.Labels.{permuted-same, labels-replaced, labels-after}
use Rattle.r6_exchange.proofs.Parts.{takes-place, takes-after}
use Rattle.r6_exchange.proofs.worker.Worker.take_up.Goals as goal

pub returns-in-Some-clause-takes : goal.returns-in-Some-clause-takes
returns-in-Some-clause-takes g c =
    let told = g.D.BlockDevice.told in
    let promised = g.D.BlockDevice.promised in
    let parts = c.args.self.now.parts.items in
    let served = c.args.served in
    let at = c.in-Some.at in
    subst (λ (y : ServedPart g.row.D.Denot). TakesUp told promised served parts (slice_set parts at y)) (sym c.replace-earlier.ensures.after)
    (takes-place told promised parts at c.index_mut.result.now served (sym c.in-Some.ensures.place) (sym c.index_mut.ensures.value))

pub returns-in-None-clause-takes : goal.returns-in-None-clause-takes
returns-in-None-clause-takes g c =
    let told = g.D.BlockDevice.told in
    let promised = g.D.BlockDevice.promised in
    let parts = c.args.self.now.parts.items in
    let served = c.args.served in
    subst (λ (y : List (ServedPart g.row.D.Denot)). TakesUp told promised served parts y) (sym c.push_reserved-in-None.ensures.items)
    (takes-after told promised parts served (sym c.in-None.ensures.place))

pub returns-in-Some-clause-labels : goal.returns-in-Some-clause-labels
returns-in-Some-clause-labels g c =
    let own = c.args.self.now in
    let earlier = c.index_mut.result.now in
    permuted-same ((labels_of own.parts.items ++ labels_of own.replaced.items) ++ label_of c.args.served ∷ [])
    ((labels_of own.parts.items ++ labels_of own.replaced.items) ++ label_of c.args.served ∷ [])
    (labels_of (slice_set own.parts.items c.in-Some.at c.args.served) ++ labels_of (own.replaced.items ++ earlier ∷ []))
    (labels_of (slice_set own.parts.items c.in-Some.at c.replace-earlier.new.dest) ++ labels_of c.push_reserved.new.self.items)
    refl
    (λ i. labels_of (slice_set own.parts.items c.in-Some.at (c.replace-earlier.ensures.after i))
    ++ labels_of ((c.push_reserved.ensures.items ∙ ap (λ (y : ServedPart g.row.D.Denot). own.replaced.items ++ y ∷ []) c.replace-earlier.ensures.value) i))
    (labels-replaced own.parts.items own.replaced.items c.in-Some.at earlier c.args.served (sym c.in-Some.ensures.place)
    (sym c.index_mut.ensures.value))

pub returns-in-None-clause-labels : goal.returns-in-None-clause-labels
returns-in-None-clause-labels g c =
    let own = c.args.self.now in
    permuted-same ((labels_of own.parts.items ++ labels_of own.replaced.items) ++ label_of c.args.served ∷ [])
    ((labels_of own.parts.items ++ labels_of own.replaced.items) ++ label_of c.args.served ∷ [])
    (labels_of (own.parts.items ++ c.args.served ∷ []) ++ labels_of own.replaced.items)
    (labels_of c.push_reserved-in-None.new.self.items ++ labels_of own.replaced.items)
    refl
    (λ i. labels_of (c.push_reserved-in-None.ensures.items i) ++ labels_of own.replaced.items)
    (labels-after own.parts.items own.replaced.items c.args.served)
