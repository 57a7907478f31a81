use Rattle.std.proofs.Common.{◌∙◌, length, sym, ap}
use Rattle.r6_array.proofs.Lists.{as_many}
use Rattle.r6_array.proofs.requests.RequestList.len.Goals as goal

pub returns : goal.returns
returns c =
    let list = c.self.inside in
    c.len.ensures ∙ list.ops.ok.0 ∙ sym (as_many list.ops.items list.names.items c.self.invariant.0) ∙ ap length c.self.view_is
