use Rattle.std.proofs.Common.{◌≡◌, ◌∙◌, [], ◌∷◌, ◌++◌, length, refl, sym, ap, arith}
use Rattle.std.specs.List.{zip}
use Rattle.r6_array.proofs.Lists.{as_many, zip_last}
use Rattle.r6_array.proofs.requests.RequestList.push.Goals as goal

pub returns-then-len-ge-MOST_UNANSWERED-clause-full : goal.returns-then-len-ge-MOST_UNANSWERED-clause-full
returns-then-len-ge-MOST_UNANSWERED-clause-full c =
    let list = c.self.inside in
    let all : length c.args.self.now ≡ length list.ops.items = ap length (sym c.self.view_is) ∙ as_many list.ops.items list.names.items c.self.invariant.0 in
    let len = c.len.ensures in
    let counted = list.ops.ok.0 in
    let small = list.ops.small.1 in
    let capacity = c.self.invariant.1 in
    let full = c.if-len-ge-MOST_UNANSWERED.true in
    (omega (arith, all, len, counted, small, capacity, full), refl, refl)

pub returns-clause-pushed : goal.returns-clause-pushed
returns-clause-pushed c =
    let list = c.self.inside in
    ap (λ ops. zip ops c.push_back_reserved-2.new.self.items) c.push_back_reserved.ensures.items
    ∙ ap (zip (list.ops.items ++ c.args.op ∷ [])) c.push_back_reserved-2.ensures.items
    ∙ zip_last list.ops.items list.names.items c.args.op c.args.name c.self.invariant.0 ∙ ap (λ v. v ++ (c.args.op, c.args.name) ∷ []) c.self.view_is
