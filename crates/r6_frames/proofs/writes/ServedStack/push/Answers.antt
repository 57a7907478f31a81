use Rattle.std.proofs.Common.{◌<◌, ◌∷◌, ◌∙◌, [], List, length, sym, ap, subst, arith}
use Rattle.std.specs.Prelude.{reverse}
use Rattle.std.proofs.lemmas.List.{length-reverse, reverse-append}
use Rattle.r6_frames.specs.declared.frames.ServedRequest.{ServedRequest}
use Rattle.r6_frames.proofs.writes.ServedStack.push.Goals as goal

pub push_reserved-requires : goal.push_reserved-requires
push_reserved-requires c =
    let few : length (reverse c.self.inside.items.items) < 32 = subst (λ (served : List ServedRequest). length served < 32) (sym c.self.view_is) c.requires in
    omega (arith, few, length-reverse c.self.inside.items.items, c.self.invariant)

pub returns : goal.returns
returns c =
    ap reverse c.push_reserved.ensures.items ∙ reverse-append c.self.inside.items.items (c.args.served ∷ []) ∙ ap (λ (served : List ServedRequest). c.args.served ∷ served) c.self.view_is
