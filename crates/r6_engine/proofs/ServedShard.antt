-- What became of a shard, as its ledger, its parts and the replies tell it.
use Rattle.std.proofs.Common.{arith, ◌≡◌, ◌∙◌, ℕ, List, [], ◌∷◌, ◌++◌, All, map, length, false, true, Bool, refl, sym, ap, subst, Some, option_map, slice_get, slice_index_or, ◌<◌}
use Rattle.std.specs.List.{AllByRecursion, Contains, range_with_len}
use Rattle.std.specs.List.Sorted.{IsPermutation}
use Rattle.std.proofs.lemmas.Option.{get_or_from_slice_get, slice_get-map}
use Rattle.std.proofs.lemmas.List.Sorted.{IsPermutation-trans}
use Rattle.r6_dev.specs.History.{Telling}
use Rattle.r6_dev.specs.Promises.{Promise}
use Rattle.r6_layout.specs.Shape.{IsShape, Shape}
use Rattle.r6_health.specs.declared.history.View.{View}
use Rattle.r6_health.specs.Passes.{view_of}
use Rattle.r6_world.specs.PlainArray as world
use Rattle.r6_world.specs.PlainArray.{ArrayFailed}
use Rattle.r6_world.specs.Registers.{Snapshot, status_of}
use Rattle.r6_world.specs.Values.{reply_of}
use Rattle.r6_core.specs.Shards.{world_shard}
use Rattle.r6_engine.specs.lists.Events.{Event}
use Rattle.r6_shard.specs.declared.ledger.Asked.{Asked}
use Rattle.r6_shard.specs.declared.ledger.Entry.{Entry}
use Rattle.r6_shard.specs.declared.parts.Parts.{Parts}
use Rattle.r6_shard.specs.Courses.{IsOf as IsOfRequest}
use Rattle.r6_shard.specs.Own.{AreOwn}
use Rattle.r6_shard.specs.Parts.{labels_of}
use Rattle.r6_shard.specs.Whole.{SawWithPass}
use Rattle.r6_engine.specs.declared.feed.answer.EventAnswer.{EventAnswer}
use Rattle.r6_engine.specs.declared.feed.event.Event as feed
use Rattle.r6_engine.specs.feed.Events.{events_of}
use Rattle.r6_engine.specs.declared.runner.runner.Runner.{Runner}
use Rattle.r6_engine.specs.runner.Parts.{labels_in}
use Rattle.r6_engine.specs.runner.Waits.{AreBehindWaits}
use Rattle.r6_engine.specs.declared.ledger.Ledger.{Ledger}
use Rattle.r6_engine.specs.declared.ledger.LedgerEntry.{LedgerEntry}
use Rattle.r6_engine.specs.declared.part.ShardParts.{ShardParts}
use Rattle.r6_engine.specs.declared.reply.EventReply.{EventReply}
use Rattle.r6_engine.specs.declared.reply.EventReply.TheVariants.{Replied}
use Rattle.r6_engine.specs.Explained.{reply_in}
use Rattle.r6_engine.specs.Generations.{HasAgreed}
use Rattle.r6_engine.specs.Ledgers.{AreBack, IsLedgerOf, in_sync_in}
use Rattle.r6_engine.specs.Named.{NewDevicesFailNone, LeavesAlone}
use Rattle.r6_engine.specs.Ending.{HasInSync}
use Rattle.r6_engine.specs.Passes.{IsSeen}
use Rattle.r6_engine.specs.Refusals.{WereRight}
use Rattle.r6_engine.specs.Replies.{ledger_entries, ledger_entry}
use Rattle.r6_engine.specs.Serves.{HasServed}
use Rattle.r6_engine.specs.ServedShards.{AnswersEach, AreInOrder, HasCalled, KnowsSnapshot, NoneAfterEnd, HasParts, IsEntryOf, IsServedShard, WasFailed}
use Rattle.r6_shard.specs.Sound.{StartsSound}
use Rattle.r6_shard.specs.declared.performs.Performs.{Ghosts}
use Rattle.r6_engine.proofs.EachShard.{all-map, here_at, mapped-there, some_same}
use Rattle.r6_engine.proofs.Explains.{leads-from}
use Rattle.r6_engine.proofs.InOrder.{are-in-order}
use Rattle.r6_engine.proofs.InSync.{in-sync-of, of-synced, synced-used}
use Rattle.r6_engine.proofs.Reasons.{IsOf, each-of}
use Rattle.r6_engine.proofs.Replied.{there-at}
use Rattle.r6_engine.proofs.Told.{begun-all}
use Rattle.r6_engine.specs.lists.Events.{numbers_of, tasks_of}

-- an entry has the event and the block of the request of its number
entry-of : (asked : List Asked) (e : Entry) → IsOfRequest asked e → IsEntryOf asked (ledger_entry e)
entry-of asked e is =
    let there = there-at asked e.id.0 is.0 in (
      there.0,
      there.1,
      sym (mapped-there (λ (a : Asked). a.event) asked e.id.0 0 there.0 there.1) ∙ is.1,
      sym (mapped-there (λ (a : Asked). a.block) asked e.id.0 0 there.0 there.1) ∙ is.2,
    )

numbers-same : (entries : List Entry) → map (λ (e : LedgerEntry). e.id.0) (ledger_entries entries) ≡ map (λ (e : Entry). e.id.0) entries
numbers-same [] = refl
numbers-same (e ∷ entries) = ap (λ ns. e.id.0 ∷ ns) (numbers-same entries)

-- what the users were answered there, the shard answered
was-failed : (replies : List EventReply) (e : Entry) → slice_get replies e.event ≡ Some (Replied e.reply) → WasFailed replies (ledger_entry e)
    → reply_of e.reply ≡ ArrayFailed
was-failed replies e stands said =
    some_same (reply_of e.reply) world.ArrayFailed
    (ap reply_in (some_same (Replied e.reply) said.0 (sym stands ∙ said.1)) ∙ said.2)

module _ {P D : Type 0} {g : Ghosts P} (told : D → Telling) (promised : D → Promise) (steady : ℕ → ℕ → Bool) (shape : Shape) (given : List (feed.Event D)) (start : Snapshot)
    (window : ℕ) (answers : List EventAnswer) (last : View) (snapshot : Snapshot) (own : Parts D) (shard : ℕ) (r : Runner P D g)
    (x : HasServed told shape (events_of told given) start window own shard r)
    (ledger : Ledger) (is : IsLedgerOf r ledger) (back : ShardParts D) (mine : AreBack told r back) (replies : List EventReply)
    (stand : (k : ℕ) (e : Entry) → slice_get r.shard.entries.items k ≡ Some e → slice_get replies e.event ≡ Some (Replied e.reply))
    (agreed : HasAgreed answers r.handed.items) (seen : IsSeen last r) (saw : SawWithPass r.shard.saw_out last)
    (lawful : IsShape shape) (within : shard < shape.shards) (in_sync : snapshot.failed ≡ false → HasInSync shape.slots snapshot r.shard.core)
    (ended : NoneAfterEnd shape (events_of told given) replies shard ledger) (looked : r.shard.last ≡ snapshot) (calls : AreOwn shard r.shard.named (view_of r.shard.pass).mine)
    (sound : (slot : ℕ) → steady shard slot ≡ true → StartsSound promised shape shard start slot own.parts.items → NewDevicesFailNone promised shape shard slot given
    → LeavesAlone slot r)
  where
    abbrev events : List Event
    events = events_of told given

    all-begun : AllByRecursion (IsOf shape shard events) x.done.begun
    all-begun =
        subst (AllByRecursion (IsOf shape shard events)) (begun-all told shape events start window own shard r x)
        (each-of shape shard events (numbers_of (tasks_of shape shard events)))

    has-parts : HasParts shape events start answers shard own r.handed.items ledger back
    has-parts = record {
      came = x.done.parts;
      agreed = agreed;
      all = IsPermutation-trans (labels_of own.parts.items ++ labels_in r.handed.items)
          ((g.performer r.shard.parts).labels ++ labels_of r.others.items)
          (labels_of back.parts.items ++ labels_of back.others.items) x.all mine.labels;
      here = λ slot generation begun there.
          let sync = in-sync-of r.shard.core slot generation (subst (λ (xs : List (ℕ × ℕ)). Contains xs (slot, generation)) is.in_sync there) in
          mine.here slot generation
          ((x.here slot begun).0 sync.0 generation (synced-used ((world_shard r.shard.core).slot slot) generation sync.1));
    }

    has-called : HasCalled promised steady shape given start last shard own ledger
    has-called = record {
      pass = view_of r.shard.pass;
      same_start = seen.0;
      seen = seen.1;
      calls = subst (λ (named : List Bool). AreOwn shard named (view_of r.shard.pass).mine) (sym is.named) calls;
      sound = λ slot goes starts attaches.
          let alone = sound slot goes starts attaches in
          (ap (λ (named : List Bool). slice_index_or named slot false) is.named ∙ alone.0, alone.1);
    }

    slots-same : r.shard.core.shape.slots ≡ shape.slots
    slots-same = ap (λ (s : Shape). s.slots) x.done.shape_is

    in-core : (slot generation : ℕ) → Contains ledger.in_sync.items (slot, generation) → Contains (in_sync_in r.shard.core) (slot, generation)
    in-core slot generation there = subst (λ (xs : List (ℕ × ℕ)). Contains xs (slot, generation)) is.in_sync there

    knows-snapshot : KnowsSnapshot shape.slots snapshot ledger
    knows-snapshot = record {
      looked = is.last_look ∙ looked;
      failed = is.saw_failed ∙ r.shard.knows.failed ∙ ap (λ (y : Snapshot). y.failed) looked;
      lost = λ slot below status generation there.
          let sync = in-sync-of r.shard.core slot generation (in-core slot generation there) in
          r.shard.knows.lost slot sync.0 (ap (λ (y : Snapshot). status_of y slot) looked ∙ status) generation
          (synced-used ((world_shard r.shard.core).slot slot) generation sync.1);
      rebuilt = λ slot below new reported status generation there.
          let sync = in-sync-of r.shard.core slot generation (in-core slot generation there) in
          r.shard.knows.rebuilt slot sync.0 new reported (ap (λ (y : Snapshot). status_of y slot) looked ∙ status) generation
          (synced-used ((world_shard r.shard.core).slot slot) generation sync.1);
      replaced = λ slot below old new reported status generation there other.
          let sync = in-sync-of r.shard.core slot generation (in-core slot generation there) in
          r.shard.knows.replaced slot sync.0 old new reported (ap (λ (y : Snapshot). status_of y slot) looked ∙ status) generation
          (synced-used ((world_shard r.shard.core).slot slot) generation sync.1) other;
      in_sync = λ slot below current status attached generation there.
          let sync = in-sync-of r.shard.core slot generation (in-core slot generation there) in
          let same = ap (λ (y : Snapshot). y.attaches) looked in
          r.shard.knows.in_sync slot sync.0 current (ap (λ (y : Snapshot). status_of y slot) looked ∙ status)
          (omega (arith, same, attached)) generation
          (synced-used ((world_shard r.shard.core).slot slot) generation sync.1);
      kept = λ alive slot generation below status.
          let slots = slots-same in
          subst (λ (xs : List (ℕ × ℕ)). Contains xs (slot, generation)) (sym is.in_sync)
          (of-synced r.shard.core slot generation (omega (arith, below, slots)) (in_sync alive slot below generation status));
    }

    pub served-shard : IsServedShard told promised steady shape given start answers last replies snapshot shard own ledger back
    served-shard = record {
      right = subst (WereRight shape.block events) (sym is.requests) x.right;
      in_order = subst AreInOrder (sym is.requests)
          (are-in-order shape shard events r.shard.core x.done.begun r.shard.asked.items x.done.ops r.refused.items
          (sym (begun-all told shape events start window own shard r x)) x.done.served);
      behind = subst (AreBehindWaits events) (sym is.requests) x.behind;
      entries = subst (λ (asked : List Asked). AnswersEach asked ledger.entries.items) (sym is.requests)
          (subst (AnswersEach r.shard.asked.items) (sym is.entries)
          (record {
            numbers = subst (IsPermutation (range_with_len 0 (length r.shard.asked.items))) (sym (numbers-same r.shard.entries.items))
                x.over.rests.each.numbers;
            each = all-map ledger_entry (IsEntryOf r.shard.asked.items) r.shard.entries.items
                (λ k d below. entry-of r.shard.asked.items (slice_index_or r.shard.entries.items k d) (x.over.rests.each.linked k d below));
          }));
      handed = r.handed.items;
      parts = has-parts;
      leads = leads-from told shape events start window own shard r x lawful within all-begun ledger is back mine replies stand;
      register = has-called;
      saw = subst (λ (b : Bool). SawWithPass b last) (sym is.saw_out) saw;
      failed = subst (All (λ e. WasFailed replies e → ledger.saw_failed ≡ true)) (sym is.entries)
          (all-map ledger_entry (λ e. WasFailed replies e → ledger.saw_failed ≡ true) r.shard.entries.items
          (λ k d below said.
          let e = slice_index_or r.shard.entries.items k d in
          is.saw_failed ∙ r.shard.failure.answered k d below (was-failed replies e (stand k e (here_at r.shard.entries.items k d below)) said)));
      knows = knows-snapshot;
      ended = ended;
    }
