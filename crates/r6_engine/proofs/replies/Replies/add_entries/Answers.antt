use Rattle.std.proofs.Common.{arith, sym, ap, length, map, ◌++◌, ◌∷◌, [], List, ◌∙◌}
use Rattle.std.proofs.lemmas.Iterator.Adapters.{YieldsList-from_vec}
use Rattle.std.proofs.lemmas.Iterator.Consumers.{YieldsList-turn, YieldsList-end}
use Rattle.std.proofs.lemmas.List.{length-map, map_push}
use Rattle.r6_engine.specs.declared.ledger.LedgerEntry.{LedgerEntry}
use Rattle.r6_engine.specs.Replies.{ledger_entries, ledger_entry, said_of_entry, with_all}
use Rattle.r6_engine.proofs.Saying.{one_more, unchanged}
use Rattle.r6_engine.proofs.replies.Replies.add_entries.Goals as goal

pub push_reserved-requires : goal.push_reserved-requires
push_reserved-requires c =
    let turn = YieldsList-turn
    (YieldsList-from_vec {s = c.into_iter-entry-iterator.result} c.args.entries.items c.into_iter-entry-iterator.ensures.into_iter_gives.0
    (c.into_iter-entry-iterator.ensures.into_iter_gives.1 ∙ c.args.entries.ok.0))
    c.loop-entry.yielded c.loop-entry.entry-iterator c.loop-entry.yielded_by c.next.result c.next.new.self c.in-Some.entry
    c.in-Some.is c.next.ensures.steps in
    let long = ap length c.loop-entry.invariant.2.ledger ∙ length-map c.loop-entry.yielded ledger_entry in
    let room = c.loop-entry.invariant.2.room in
    omega (arith, long, turn.0, room)

pub loop-entry-preserved : goal.loop-entry-preserved
loop-entry-preserved c = (
  tt,
  tt,
  record {
    said = one_more said_of_entry _ _ _ c.loop-entry.yielded c.in-Some.entry c.loop-entry.invariant.2.said c.add.ensures;
    ledger = c.push_reserved.ensures.items
        ∙ ap (λ (known : List LedgerEntry). known ++ ledger_entry c.in-Some.entry ∷ []) c.loop-entry.invariant.2.ledger
        ∙ sym (map_push ledger_entry c.loop-entry.yielded c.in-Some.entry);
    room = let room = c.loop-entry.invariant.2.room in let same = c.push_reserved.ensures.capacity in omega (arith, room, same);
  },
)

pub returns-clause-said : goal.returns-clause-said
returns-clause-said c =
    let end = YieldsList-end
    (YieldsList-from_vec {s = c.into_iter-entry-iterator.result} c.args.entries.items c.into_iter-entry-iterator.ensures.into_iter_gives.0
    (c.into_iter-entry-iterator.ensures.into_iter_gives.1 ∙ c.args.entries.ok.0))
    c.loop-entry.yielded c.loop-entry.entry-iterator c.loop-entry.yielded_by c.next.result c.next.new.self c.in-None.is
    c.next.ensures.steps in
    c.loop-entry.invariant.2.said
    ∙ ap (λ entries. with_all c.args.self.now.replies.items (map said_of_entry entries)) (sym (unchanged c.loop-entry.yielded) ∙ end.0)

pub returns-clause-ledger : goal.returns-clause-ledger
returns-clause-ledger c =
    let end = YieldsList-end
    (YieldsList-from_vec {s = c.into_iter-entry-iterator.result} c.args.entries.items c.into_iter-entry-iterator.ensures.into_iter_gives.0
    (c.into_iter-entry-iterator.ensures.into_iter_gives.1 ∙ c.args.entries.ok.0))
    c.loop-entry.yielded c.loop-entry.entry-iterator c.loop-entry.yielded_by c.next.result c.next.new.self c.in-None.is
    c.next.ensures.steps in
    c.loop-entry.invariant.2.ledger ∙ ap ledger_entries (sym (unchanged c.loop-entry.yielded) ∙ end.0)
