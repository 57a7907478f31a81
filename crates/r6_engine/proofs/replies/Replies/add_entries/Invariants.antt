use Rattle.std.proofs.Common.{◌≡◌, ◌≤◌, length, map, vec_capacity}
use Rattle.r6_engine.specs.Replies.{ledger_entries, said_of_entry, with_all}
use Rattle.r6_engine.proofs.replies.Replies.add_entries.Given as goal

abbrev pub invariant-loop-entry : goal.invariant-loop-entry
invariant-loop-entry l =
    goal.iterator-loop-entry.can_next l.entry-iterator × goal.iterator-loop-entry.is_finite l.entry-iterator × record {
      said : l.self.replies.items ≡ with_all l.initial.self.replies.items (map said_of_entry l.yielded);
      ledger : l.ledger.items ≡ ledger_entries l.yielded;
      room : length l.fn.entries.items ≤ vec_capacity l.ledger;
    }
