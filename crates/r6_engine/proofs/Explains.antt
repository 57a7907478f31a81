-- What a shard did explains its ledger and the replies.
use Rattle.std.proofs.Common.{◌≡◌, ◌∙◌, ℕ, Bool, ◌≤◌, List, [], ◌∷◌, map, length, inl, inr, refl, suc, sym, ap, subst, arith, Option, Some, None, option_map, option_and_then, slice_get, ◌<◌}
use Rattle.std.specs.List.{AllByRecursion, Contains, cons_option, filter_map}
use Rattle.r6_dev.specs.History.{Telling}
use Rattle.r6_layout.specs.Shape.{IsShape, Shape}
use Rattle.r6_health.specs.Passes.{view_of}
use Rattle.r6_world.specs.Geometries.{layout_of}
use Rattle.r6_world.specs.PlainArray as world
use Rattle.r6_world.specs.Registers.{Snapshot}
use Rattle.r6_world.specs.ShardStates.{IsLive, Shard as WorldShard, is_away}
use Rattle.r6_world.specs.Tables.{count_below}
use Rattle.r6_world.specs.Values.{op_of}
use Rattle.r6_world.proofs.Tables.{None-not_Some, Some-inj, not_both}
use Rattle.r6_core.specs.declared.refusal.Refusal.{Refusal}
use Rattle.r6_core.specs.Shards.{CoreView, core_layout, world_shard}
use Rattle.r6_engine.specs.lists.Events.{Event}
use Rattle.r6_shard.specs.declared.ledger.Asked.{Asked}
use Rattle.r6_shard.specs.declared.ledger.Asking.{Asking}
use Rattle.r6_shard.specs.declared.ledger.Entry.{Entry}
use Rattle.r6_shard.specs.declared.parts.Parts.{Parts}
use Rattle.r6_shard.specs.Beginnings.{start_of}
use Rattle.r6_shard.specs.Courses.{replied_of, stand_of}
use Rattle.r6_shard.specs.Histories.{numbered}
use Rattle.r6_shard.specs.Behind.{IsBehindAll}
use Rattle.r6_shard.specs.Runs.{AreServed, IsLedger}
use Rattle.r6_shard.specs.Shards.{Rests}
use Rattle.r6_shard.proofs.Behind.{behind_law}
use Rattle.r6_shard.specs.declared.performs.Performs.{Ghosts}
use Rattle.r6_course.specs.Courses.{AreFailed, Stand}
use Rattle.r6_course.proofs.Ledger.{order_law}
use Rattle.r6_course.proofs.Ends.{failure_law, idle_law}
use Rattle.r6_engine.specs.declared.runner.runner.Runner.{Runner}
use Rattle.r6_engine.specs.declared.ledger.Ledger.{Ledger}
use Rattle.r6_engine.specs.declared.part.ShardParts.{ShardParts}
use Rattle.r6_engine.specs.declared.reply.EventReply.{EventReply}
use Rattle.r6_engine.specs.declared.reply.EventReply.TheVariants.{Replied}
use Rattle.r6_engine.specs.Explained.{CountsEach, IsInService, op_in, ops_in, reply_in, reply_to}
use Rattle.r6_engine.specs.Ledgers.{AreBack, IsLedgerOf, in_sync_in, synced_in}
use Rattle.r6_engine.specs.Replies.{ledger_entries, ledger_entry}
use Rattle.r6_engine.specs.Serves.{HasServed}
use Rattle.r6_engine.specs.ServedShards.{LeadsFrom}
use Rattle.r6_engine.proofs.InSync.{in-sync-of, sync-and-away, synced-for}
use Rattle.r6_engine.proofs.Reasons.{IsOf}
use Rattle.r6_engine.proofs.Unskipped.{counted-each}

-- ---- what was asked and answered

-- what was handed in is what the accepted requests' events ask
pub ops-of : (shape : Shape) (shard : ℕ) (events : List Event) (core : CoreView) (begun : List Asking) (asked : List Asked) (ops : List world.Op)
    (refused : List (ℕ × Refusal)) → AllByRecursion (IsOf shape shard events) begun → AreServed core begun asked ops refused
    → ops ≡ ops_in events asked
ops-of shape shard events core [] asked ops refused all x = x.1 ∙ ap (ops_in events) (sym x.0)
ops-of shape shard events core (g ∷ begun) asked ops refused all x = elim x [
  | inl p ↦
      let rest : p.2 ≡ ops_in events p.1 = ops-of shape shard events core begun p.1 p.2 refused all.1 p.8 in
      let at : option_and_then op_in (slice_get events p.0.event) ≡ Some (op_of g.op) =
      ap (λ (n : ℕ). option_and_then op_in (slice_get events n)) p.4 ∙ ap (option_and_then op_in) all.0.at in
      p.5 ∙ ap (λ (os : List world.Op). op_of g.op ∷ os) rest ∙ sym (ap (λ (o : Option world.Op). cons_option o (ops_in events p.1)) at)
      ∙ sym (ap (ops_in events) p.3)
  | inr p ↦ ops-of shape shard events core begun asked ops p.1 all.1 p.5
]

-- what is not None
some-of : {A : Type 0} (o : Option A) → (o ≡ None → ⊥) → (x : A) × (o ≡ Some x)
some-of None there = absurd (there refl)
some-of (Some x) there = (x, refl)

filter-mapped : {X Y Z : Type 0} (f : Y → Option Z) (h : X → Y) (g : X → Z) (xs : List X)
    → ((k : ℕ) (x : X) → slice_get xs k ≡ Some x → f (h x) ≡ Some (g x)) → filter_map f (map h xs) ≡ map g xs
filter-mapped f h g [] all = refl
filter-mapped f h g (x ∷ xs) all =
    ap (λ o. cons_option o (filter_map f (map h xs))) (all 0 x refl)
    ∙ ap (λ ys. g x ∷ ys) (filter-mapped f h g xs (λ k y at. all (suc k) y at))

pub replies-of : (replies : List EventReply) (entries : List Entry)
    → ((k : ℕ) (e : Entry) → slice_get entries k ≡ Some e → slice_get replies e.event ≡ Some (Replied e.reply))
    → filter_map (reply_to replies) (ledger_entries entries) ≡ map replied_of entries
replies-of replies entries stand =
    filter-mapped (reply_to replies) ledger_entry replied_of entries
    (λ k e at. ap (λ o. option_map (λ (r : world.Reply). (e.id.0, r)) (option_and_then reply_in o)) (stand k e at))

-- ---- a shard

module _ {P D : Type 0} {g : Ghosts P} (told : D → Telling) (shape : Shape) (events : List Event) (start : Snapshot) (window : ℕ) (own : Parts D)
    (shard : ℕ) (r : Runner P D g) (x : HasServed told shape events start window own shard r)
    (lawful : IsShape shape) (within : shard < shape.shards) (all : AllByRecursion (IsOf shape shard events) x.done.begun)
    (ledger : Ledger) (is : IsLedgerOf r ledger) (back : ShardParts D) (given : AreBack told r back) (replies : List EventReply)
    (stand : (k : ℕ) (e : Entry) → slice_get r.shard.entries.items k ≡ Some e → slice_get replies e.event ≡ Some (Replied e.reply))
  where
    slots-same : r.shard.core.shape.slots ≡ shape.slots
    slots-same = ap (λ (s : Shape). s.slots) x.done.shape_is

    -- in service by its ledger, it is so
    serves : IsInService shape ledger → IsLive (core_layout r.shard.core) (world_shard r.shard.core)
    serves live =
        let core = r.shard.core in
        let slots = slots-same in
        let both = sync-and-away core core.shape.slots (omega arith) in
        let long : length ledger.in_sync.items ≡ length (in_sync_in core) = ap length is.in_sync in
        let many = live.1 in (omega (arith, both, long, many, slots), sym is.saw_failed ∙ live.0)

    in-service : IsInService shape ledger → IsLive (layout_of shape) (world_shard r.shard.core)
    in-service live =
        let x' = serves live in
        (subst (λ (n : ℕ). count_below (λ d. is_away ((world_shard r.shard.core).slot d)) n ≤ 2) slots-same x'.0, x'.1)

    in-sync : (slot generation : ℕ) → Contains ledger.in_sync.items (slot, generation) → Contains (in_sync_in r.shard.core) (slot, generation)
    in-sync slot generation there = subst (λ (xs : List (ℕ × ℕ)). Contains xs (slot, generation)) is.in_sync there

    counts : CountsEach shape events shard (world_shard r.shard.core) ledger
    counts live few small =
        let tokens = is.tokens in
        counted-each told shape lawful events start window own shard r within x (serves live) (omega (arith, few, tokens)) small

    pub leads-from : LeadsFrom told shape events start shard own r.handed.items replies ledger back
    leads-from telling device array lawful' hold =
        let s = start_of shape shard start device array in
        let course = x.done.comes telling device array lawful' hold in
        let follows = course.course.follows in
        let at : Stand =
        record (stand_of r.shard.core (view_of r.shard.pass) r.shard.last.attaches r.shard.named (g.performer r.shard.parts).tells course.history)
        { out = course.course.taken } in
        let law = order_law s course.course.lawful at follows in
        let fails = failure_law s course.course.lawful at follows in
        let idle = λ (rests : Rests r.shard) (live : IsLive s.layout (world_shard r.shard.core)).
        idle_law s course.course.lawful at follows live (λ token c e. absurd (not_both _ c (rests.none_out token) e)) in
        let found : IsLedger s x.done.ops r.shard =
        record {
          history = course.history;
          told = course.tells;
          explained = record {
            array = law.array;
            leads = law.leads;
            parts = law.parts;
            others = law.others;
            own = law.own;
            well_formed = law.well_formed;
            none_forgotten = law.none_forgotten;
          };
          failure = fails.0;
          seen = fails.1;
          idle = idle;
        } in
        let ops = ops-of shape shard events r.shard.core x.done.begun r.shard.asked.items x.done.ops r.refused.items all x.done.served in
        record {
          history = course.history;
          tells = record {
            asked = course.tells.asked ∙ ap (numbered 0) (ops ∙ ap (ops_in events) (sym is.requests));
            replied = course.tells.replied ∙ sym (replies-of replies r.shard.entries.items stand)
                ∙ ap (filter_map (reply_to replies)) (sym is.entries);
            answered = course.tells.answered ∙ ap (map (λ (a : Asked). a.answered)) (sym is.requests);
            blocks = ap (map (λ (a : Asked). a.block)) is.requests ∙ course.tells.blocks
                ∙ ap (map world.block_of) (ops ∙ ap (ops_in events) (sym is.requests));
          };
          world = follows.world;
          reached = follows.reached;
          ends = record {
            in_sync = is.in_sync ∙ ap (λ (n : ℕ). synced_in n (world_shard r.shard.core)) slots-same
                ∙ ap (synced_in shape.slots) (sym follows.shard);
            saw_failed = is.saw_failed ∙ ap (λ (y : WorldShard). y.saw_failed) (sym follows.shard);
            tokens = is.tokens ∙ ap (λ (y : WorldShard). y.tokens) (sym follows.shard);
          };
          looked = follows.looked ∙ ap (λ (y : Snapshot). y.attaches) (sym is.last_look);
          named = subst (λ (named : List Bool). AreFailed shard named follows.reached.moments) (sym is.named) follows.named;
          counted = subst (λ (y : WorldShard). CountsEach shape events shard y ledger) (sym follows.shard) counts;
          array = law.array;
          leads = law.leads;
          behind = λ number answered.
              behind_law g s x.done.ops r.shard found number (subst (λ (xs : List Asked). IsBehindAll xs number) is.requests answered);
          parts = λ live row slot generation of there telling' tells.
              let live' = in-service live in
              let sync = in-sync-of r.shard.core slot generation (in-sync slot generation there) in
              let below = sync.0 in
              let slots = slots-same in
              let known = some-of ((g.performer r.shard.parts).tells slot generation)
              (given.there slot generation (λ none. None-not_Some telling' (sym none ∙ tells))) in
              let holds = law.parts row slot generation (omega (arith, below, slots)) of live'
              (λ f h stands same writes. (idle x.over.rests live' row).0 f h stands same)
              (synced-for ((world_shard r.shard.core).slot slot) row generation sync.1) known.0 known.1 in
              let there' = given.tells slot generation holds.0 (known.1 ∙ ap Some holds.1) in
              (holds.0, Some-inj telling' (Some holds.0) (sym tells ∙ there'), holds.2);
          others = law.others;
          well_formed = law.well_formed;
        }
