use Rattle.std.proofs.Common.{◌≡◌, ◌<◌, ◌+◌, ◌++◌, ◌∷◌, ◌∙◌, ℕ, Bool, suc, [], length, take, get_or, vec_len, deque_len, ap, arith, refl, rules, sym, append_assoc, append-nil}
use Rattle.r6_world.specs.PlainArray.{block_of}
use Rattle.r6_world.specs.Values.{op_of}
use Rattle.std.proofs.lemmas.List.{get_or_default, length-append, length-take-le}
use Rattle.r6_shard.specs.declared.ledger.Asked.{Asked}
use Rattle.r6_shard.specs.Replying.{is_write}
use Rattle.r6_shard.specs.Together.{all_asked}
use Rattle.r6_shard.proofs.Together.{as-many-asked, none-asked, one-asked}
use Rattle.r6_shard.proofs.submitting.ask_all.Goals as goal

pub loop-place-init : goal.loop-place-init
loop-place-init c = record {
  asked = sym (append-nil c.args.asked.now.items) ∙ ap (λ xs. c.args.asked.now.items ++ xs) (sym (none-asked c.args.answered c.args.events.now.items));
  room = refl;
}

pub push_reserved-requires : goal.push_reserved-requires
push_reserved-requires c =
    let ops = c.args.ops.now.items in
    let place = c.loop-place.place in
    let below : place < length ops = (let ops-len : deque_len c.args.ops.now ≡ length ops = search rules in let end = c.len-place-end.ensures in let test = c.loop-place-test.true in omega (arith, end, test, ops-len)) in
    let first = length-take-le place ops (omega (arith, below)) in
    let many = as-many-asked c.args.answered c.args.events.now.items (take place ops) (let all = c.requires.numbered in omega (arith, first, below, all)) in
    let asked = ap length c.loop-place.invariant.asked ∙ length-append c.args.asked.now.items (all_asked c.args.answered c.args.events.now.items (take place ops)) in
    let len : vec_len c.loop-place.asked ≡ length c.loop-place.asked.items = search rules in
    let room = c.requires.room in
    let capacity = c.loop-place.invariant.room in
    omega (arith, below, first, many, asked, len, room, capacity)

pub loop-place-preserved : goal.loop-place-preserved
loop-place-preserved c =
    let old = c.args.asked.now.items in
    let ops = c.args.ops.now.items in
    let events = c.args.events.now.items in
    let place = c.loop-place.place in
    let own = c.index-op.result.now in
    let ops-len : deque_len c.args.ops.now ≡ length ops = search rules in
    let below : place < length ops = (let end = c.len-place-end.ensures in let test = c.loop-place-test.true in omega (arith, end, test, ops-len)) in
    let numbered = c.requires.numbered in
    let event : c.index.result.now ≡ get_or events place 0 =
    c.index.ensures ∙ get_or_default events place c.index.result.now 0 (omega (arith, below, numbered)) in
    let next : suc place ≡ place + 1 = omega arith in
    let before = old ++ all_asked c.args.answered events (take place ops) in
    let noted : ℕ → ℕ → Bool → Asked = λ e b w. record { event = e; block = b; writes = w; answered = c.args.answered } in
    record {
      asked = c.push_reserved.ensures.items
          ∙ ap (λ xs. xs ++ noted c.index.result.now c.block.result c.is_write.result ∷ []) c.loop-place.invariant.asked
          ∙ ap (λ (b : ℕ). before ++ noted c.index.result.now b c.is_write.result ∷ []) c.block.ensures
          ∙ ap (λ (w : Bool). before ++ noted c.index.result.now (block_of (op_of own)) w ∷ []) c.is_write.ensures
          ∙ ap (λ (e : ℕ). before ++ noted e (block_of (op_of own)) (is_write (op_of own)) ∷ []) event
          ∙ append_assoc old (all_asked c.args.answered events (take place ops)) (_ ∷ [])
          ∙ ap (λ xs. old ++ xs) (sym (one-asked c.args.answered events ops place own below (omega (arith, numbered)) c.index-op.ensures))
          ∙ ap (λ k. old ++ all_asked c.args.answered events (take k ops)) next;
      room = c.push_reserved.ensures.capacity ∙ c.loop-place.invariant.room;
    }
