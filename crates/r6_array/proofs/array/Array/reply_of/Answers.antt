use Rattle.std.proofs.Common.{◌≡◌, ◌∙◌, true, sym, subst}
use Rattle.std.proofs.lemmas.Option.{get_or_from_slice_get}
use Rattle.r6_core.specs.Order.{HasNoReply}
use Rattle.r6_array.specs.Arrays.{ShardView, ArrayView, Has}
use Rattle.r6_array.specs.Members.{HandsBack}
use Rattle.r6_array.specs.Effects.{LooksOf}
use Rattle.r6_array.proofs.Calls.{array_with}
use Rattle.r6_array.proofs.Completions.{looked_there, replies_none, replies_of, match_option}
use Rattle.r6_array.proofs.array.Array.reply_of.Goals as goal

abbrev view : goal.After-self-1 → ArrayView
view c = let was = c.self.inside in record { shape = was.geometry; register = was.register; shards = was.members.items; at_work = was.at_work }

looked : (c : goal.After-self-1) → LooksOf c.args.self.now c.args.shard true (view c)
looked c =
    subst (λ v. LooksOf c.args.self.now c.args.shard true v) (sym c.self.view_is) c.if-not-look.ensures

is_now : (c : goal.After-self-1) → c.index_mut.result.now ≡ (looked c).now
is_now c = c.index_mut.ensures.value ∙ get_or_from_slice_get c.self.inside.members.items c.args.shard (looked c).now c.index_mut.result.now (looked_there c.args.self.now (view c) c.args.shard true (looked c))

pub invariant_of-self : goal.invariant_of-self
invariant_of-self c =
    let has = subst (Has (view c) c.args.shard) (sym (is_now c)) (looked_there c.args.self.now (view c) c.args.shard true (looked c)) in
    (array_with (view c) c.args.shard c.index_mut.result.now c.take_reply.new.self c.self.invariant.0 has c.take_reply.ensures.shard, c.self.invariant.1)

pub returns : goal.returns
returns c =
    match_option c.take_reply.result _ _ _ _
    (λ none. replies_none c.args.self.now (view c) c.args.shard true (looked c) c.take_reply.new.self (none.0 ∙ is_now c) (subst (λ (v : ShardView). HasNoReply v.core) (is_now c) none.1))
    (λ r back. replies_of c.args.self.now (view c) c.args.shard r.0 r.1 (looked c) c.take_reply.new.self c.self.invariant.0
    (subst (λ (v : ShardView). HandsBack v r.0 r.1 c.take_reply.new.self) (is_now c) back))
    c.take_reply.ensures.reply
