-- The shards of an array that was served are one run of it.
use Rattle.std.proofs.Common.{◌≡◌, ◌∙◌, ℕ, ◌<◌, List, [], ◌∷◌, ◌++◌, Ok, Result, map, length, refl, sym, ap, subst, arith, Option, Some, slice_get, slice_index_or}
use Rattle.std.specs.List.{AllByRecursion, AllZip, filter_map}
use Rattle.std.proofs.lemmas.Option.{slice_get_within}
use Rattle.std.proofs.lemmas.Slice.Zip.{AllZip-long}
use Rattle.r6_dev.specs.History.{Telling}
use Rattle.r6_layout.specs.Shape.{IsShape, Shape}
use Rattle.r6_health.specs.declared.call.Answer.{Answer}
use Rattle.r6_health.specs.declared.history.HistoryEntry.{HistoryEntry}
use Rattle.r6_health.specs.declared.history.Start.{Start}
use Rattle.r6_health.specs.declared.refusal.Refusal.{Refusal}
use Rattle.r6_health.specs.Histories.{IsLegal, IsLegalAfter, held, held_after}
use Rattle.r6_health.specs.Registers.{after, answer}
use Rattle.r6_health.specs.Passes.{view_of}
use Rattle.r6_health.specs.Views.{NoneUngiven}
use Rattle.r6_world.specs.Claims.{IsLawfulStart}
use Rattle.r6_world.specs.Geometries.{layout_of}
use Rattle.r6_world.specs.PlainArray as world
use Rattle.r6_world.specs.Layouts.{Layout}
use Rattle.r6_world.specs.Registers.{Snapshot, register_after}
use Rattle.r6_world.specs.ShardStates.{Shard as WorldShard}
use Rattle.r6_world.specs.Witness.{after_all}
use Rattle.r6_world.specs.Worlds.{Devices, Happening, started}
use Rattle.r6_core.specs.Shards.{CoreView, world_shard}
use Rattle.r6_merge.specs.Courses.{register_since}
use Rattle.r6_merge.specs.Courses as merge
use Rattle.r6_merge.specs.Weaving.{IsWoven}
use Rattle.r6_course.specs.Courses.{Mark, Stand}
use Rattle.r6_shard.specs.declared.ledger.Asked.{Asked}
use Rattle.r6_shard.specs.declared.ledger.Entry.{Entry}
use Rattle.r6_shard.specs.declared.parts.Parts.{Parts}
use Rattle.r6_shard.specs.declared.performs.Performs.{Ghosts}
use Rattle.r6_shard.specs.Beginnings.{Hold, start_of}
use Rattle.r6_shard.specs.Courses as shards
use Rattle.r6_shard.specs.Histories.{numbered}
use Rattle.r6_shard.specs.Parts.{part_in}
use Rattle.r6_shard.specs.Shards.{ComesFrom}
use Rattle.r6_shards.specs.Shards.{IsKnown, StandsSo}
use Rattle.r6_shards.proofs.OneRun.{shards_law}
use Rattle.r6_engine.specs.declared.feed.answer.EventAnswer.{EventAnswer}
use Rattle.r6_engine.specs.declared.ledger.Ledger.{Ledger}
use Rattle.r6_engine.specs.declared.reply.EventReply.{EventReply}
use Rattle.r6_engine.specs.declared.reply.EventReply.TheVariants.{Replied}
use Rattle.r6_engine.specs.declared.runner.runner.Runner.{Runner}
use Rattle.r6_engine.specs.Explained.{Tells, ops_in, reply_to}
use Rattle.r6_engine.specs.Generations.{HasAgreed}
use Rattle.r6_engine.specs.Ledgers.{IsLedgerOf, in_sync_in, synced_in}
use Rattle.r6_engine.specs.OneRuns.{AreOneRun, HaveOneHistory, IsOneRun, RunAsOne}
use Rattle.r6_engine.specs.Replies.{ledger_entries}
use Rattle.r6_engine.specs.Serves.{HasServed}
use Rattle.r6_engine.specs.ServedShards.{new_parts}
use Rattle.r6_engine.specs.lists.Events.{Event, numbers_of, tasks_of}
use Rattle.r6_engine.specs.runner.Learning.{KeepsAllElse}
use Rattle.r6_engine.specs.runner.Runners.{NoneIsSilent, taken_up}
use Rattle.r6_engine.proofs.EachShard.{here_at, partner_at, some_same}
use Rattle.r6_engine.proofs.Explains.{ops-of, replies-of}
use Rattle.r6_engine.proofs.Reasons.{IsOf, each-of}
use Rattle.r6_engine.proofs.Replied.{there-at}
use Rattle.r6_engine.proofs.Told.{begun-all}

-- what a ledger tells of a shard it told before, where no more changed than what the shard's pass knows
ledger-before : {P D : Type 0} {g : Ghosts P} (old new : Runner P D g) (ledger : Ledger) → KeepsAllElse old new → IsLedgerOf new ledger
    → IsLedgerOf old ledger
ledger-before old new ledger k is = record {
  requests = is.requests ∙ k.shard.asked;
  entries = is.entries ∙ ap ledger_entries k.shard.entries;
  in_sync = is.in_sync ∙ ap in_sync_in k.shard.core;
  named = is.named ∙ k.shard.named;
  saw_failed = is.saw_failed ∙ ap (λ (y : CoreView). (world_shard y).saw_failed) k.shard.core;
  saw_out = is.saw_out ∙ k.shard.saw_out;
  tokens = is.tokens ∙ ap (λ (y : CoreView). (world_shard y).tokens) k.shard.core;
  last_look = is.last_look ∙ k.shard.last;
}

held-later : (shards : ℕ) (now : Snapshot) (log rest : List HistoryEntry) → held_after shards now (log ++ rest) ≡ held_after shards (held_after shards now log) rest
held-later shards now [] rest = refl
held-later shards now (e ∷ log) rest = held-later shards (after shards now e.call) log rest

legal-later : (slots shards : ℕ) (now : Snapshot) (log rest : List HistoryEntry) → IsLegalAfter slots shards now (log ++ rest)
    → IsLegalAfter slots shards (held_after shards now log) rest
legal-later slots shards now [] rest legal = legal
legal-later slots shards now (e ∷ log) rest legal = legal-later slots shards (after shards now e.call) log rest legal.1

-- after the later calls of a legal history the register of the array is what all calls leave
since-legal : (l : Layout) (slots shards : ℕ) (now : Snapshot) (rest : List HistoryEntry) → slots ≡ l.slots → shards ≡ l.shards
    → IsLegalAfter slots shards now rest → register_since l now rest ≡ held_after shards now rest
since-legal l slots shards now [] same same' legal = refl
since-legal l slots shards now (e ∷ rest) same same' legal =
    let answered : answer l.slots l.shards now e.call ≡ Ok e.answer =
    ap (λ (x : ℕ × ℕ). answer x.0 x.1 now e.call) (λ i. (sym same i, sym same' i)) ∙ legal.0 in
    ap (λ (told : Result Answer Refusal). register_since l (register_after l now e.call told) rest) answered
    ∙ ap (λ (n : ℕ). register_since l (after n now e.call) rest) (sym same')
    ∙ since-legal l slots shards (after shards now e.call) rest same same' legal.1

since-held : (l : Layout) (s : Start) (log rest : List HistoryEntry) → s.slots ≡ l.slots → s.shards ≡ l.shards → IsLegal s (log ++ rest)
    → register_since l (held s log) rest ≡ held s (log ++ rest)
since-held l s log rest same same' legal =
    since-legal l s.slots s.shards (held s log) rest same same' (legal-later s.slots s.shards s.snapshot log rest legal)
    ∙ sym (held-later s.shards s.snapshot log rest)

-- a history that a shard's lists tell is told by its ledger and the replies
tells-of : {P D : Type 0} {g : Ghosts P} (events : List Event) (r : Runner P D g) (ledger : Ledger) (replies : List EventReply)
    (history : List Mark) → IsLedgerOf r ledger
    → ((k : ℕ) (e : Entry) → slice_get r.shard.entries.items k ≡ Some e → slice_get replies e.event ≡ Some (Replied e.reply))
    → shards.Tells r.shard.asked.items r.shard.entries.items (ops_in events r.shard.asked.items) history → Tells events replies ledger history
tells-of events r ledger replies history is stand tells =
    let asked : ops_in events r.shard.asked.items ≡ ops_in events ledger.requests.items = ap (ops_in events) (sym is.requests) in
    record {
      asked = tells.asked ∙ ap (numbered 0) asked;
      replied = tells.replied ∙ sym (replies-of replies r.shard.entries.items stand) ∙ ap (filter_map (reply_to replies)) (sym is.entries);
      answered = tells.answered ∙ ap (map (λ (a : Asked). a.answered)) (sym is.requests);
      blocks = ap (map (λ (a : Asked). a.block)) is.requests ∙ tells.blocks ∙ ap (map world.block_of) asked;
    }

module _ {P D : Type 0} {g : Ghosts P} (told : D → Telling) (shape : Shape) (lawful : IsShape shape) (events : List Event) (start : Snapshot)
    (window : ℕ) (parts : List (Parts D)) (snapshot : Snapshot) (runners : List (Runner P D g)) (whole : length parts ≡ shape.shards)
    (h : HaveOneHistory told shape events start window parts snapshot runners) (ledgers : List Ledger) (tied : AllZip IsLedgerOf runners ledgers)
    (answers : List EventAnswer) (replies : List EventReply)
    (agreed : (n : ℕ) (r : Runner P D g) → slice_get runners n ≡ Some r → HasAgreed answers r.handed.items)
    (stand : (n : ℕ) (r : Runner P D g) → slice_get runners n ≡ Some r → (k : ℕ) (e : Entry) → slice_get r.shard.entries.items k ≡ Some e
    → slice_get replies e.event ≡ Some (Replied e.reply))
  where
    -- ---- the shards, as the calling thread's pass knew them

    many : length h.between ≡ shape.shards
    many = h.served.as_many ∙ whole

    some : 0 < shape.shards
    some = let one = lawful.shards_allowed.0 in omega (arith, one)

    first-runner : (r : Runner P D g) × (slice_get h.between 0 ≡ Some r)
    first-runner = there-at h.between 0 (omega (arith, many, some))

    first-own : (o : Parts D) × (slice_get parts 0 ≡ Some o)
    first-own = there-at parts 0 (omega (arith, whole, some))

    abbrev runner : ℕ → Runner P D g
    runner n = slice_index_or h.between n first-runner.0

    abbrev own : ℕ → Parts D
    own n = slice_index_or parts n first-own.0

    runner-at : (n : ℕ) → n < shape.shards → slice_get h.between n ≡ Some (runner n)
    runner-at n below = here_at h.between n first-runner.0 (omega (arith, below, many))

    own-at : (n : ℕ) → n < shape.shards → slice_get parts n ≡ Some (own n)
    own-at n below = here_at parts n first-own.0 (omega (arith, below, whole))

    own-is : (n : ℕ) (o : Parts D) → slice_get parts n ≡ Some o → (n < shape.shards) × (own n ≡ o)
    own-is n o at =
        let below = slice_get_within parts n o at in
        let within : n < shape.shards = omega (arith, below, whole) in (within, some_same (own n) o (sym (own-at n within) ∙ at))

    served : (n : ℕ) → n < shape.shards → HasServed told shape events start window (own n) n (runner n)
    served n below = h.served.each n (own n) (runner n) (own-at n below) (runner-at n below)

    -- the shard since then
    record Since (n : ℕ) : Type 0 where
      new : Runner P D g
      there : slice_get runners n ≡ Some new
      kept : KeepsAllElse (runner n) new

    since-at : (n : ℕ) (r : Runner P D g) → n < shape.shards → slice_get runners n ≡ Some r → KeepsAllElse (runner n) r
    since-at n r below at =
        let l = partner_at KeepsAllElse h.between runners n r h.kept at in
        subst (λ (y : Runner P D g). KeepsAllElse y r) (some_same l.0 (runner n) (sym l.1 ∙ runner-at n below)) l.2

    since : (n : ℕ) → n < shape.shards → Since n
    since n below =
        let long = AllZip-long KeepsAllElse h.between runners h.kept in
        let at = there-at runners n (omega (arith, below, many, long)) in
        record { new = at.0; there = at.1; kept = since-at n at.0 below at.1 }

    abbrev taken : ℕ → ℕ → ℕ → Option Telling
    taken n = taken_up (part_in told (own n).parts.items) (new_parts shape n events) (runner n).handed.items

    abbrev ops : ℕ → List world.Op
    ops n = ops_in events (runner n).shard.asked.items

    module _ (known : (n : ℕ) (o : Parts D) → slice_get parts n ≡ Some o → NoneIsSilent (part_in told o.parts.items) (new_parts shape n events)) where
      comes : (n : ℕ) → n < shape.shards → ComesFrom shape n start (taken n) (ops n) (runner n).shard
      comes n below =
          let r = runner n in
          let x = served n below in
          let begun = subst (AllByRecursion (IsOf shape n events)) (begun-all told shape events start window (own n) n r x)
          (each-of shape n events (numbers_of (tasks_of shape n events))) in
          subst (λ (os : List world.Op). ComesFrom shape n start (taken n) os r.shard)
          (ops-of shape n events r.shard.core x.done.begun r.shard.asked.items x.done.ops r.refused.items begun x.done.served)
          (x.done.comes (known n (own n) (own-at n below)))

      module _ (device : Devices) (array : world.Array) (begins : IsLawfulStart (layout_of shape) start device array)
          (hold : (n : ℕ) (o : Parts D) → slice_get parts n ≡ Some o → Hold (start_of shape n start device array)
          (taken_up (part_in told o.parts.items) (new_parts shape n events) (runner n).handed.items))
        where
          heard : (n : ℕ) → n < shape.shards → IsKnown h.last (view_of (runner n).shard.pass) n
          heard n below =
              let r = runner n in
              let k = h.known n r (runner-at n below) in
              let v = view_of r.shard.pass in
              record {
                name = r.shard.pass_name ∙ ap (λ (i : ℕ). i ∷ []) (r.shard.kept.0 ∙ (served n below).done.place);
                seen = k.seen.1;
                none_since = k.calls;
                none_below = subst (λ (next : ℕ). NoneUngiven v.name next h.last.seen) r.shard.no_names k.ungiven;
              }

          law : (at : ℕ → Stand) × merge.AreOneRun (layout_of shape) start device array h.last.seen at
              × ((n : ℕ) → n < shape.shards → StandsSo (runner n).shard (ops n) (at n))
          law =
              shards_law g shape lawful start taken ops (λ n. (runner n).shard) comes h.last h.caller heard device array begins
              (λ n below. hold n (own n) (own-at n below))

          -- the shard that a ledger tells of
          record OfLedger (n : ℕ) (ledger : Ledger) : Type 0 where
            below : n < shape.shards
            is : IsLedgerOf (runner n) ledger
            stands : (k : ℕ) (e : Entry) → slice_get (runner n).shard.entries.items k ≡ Some e → slice_get replies e.event ≡ Some (Replied e.reply)

          of-ledger : (n : ℕ) (ledger : Ledger) → slice_get ledgers n ≡ Some ledger → OfLedger n ledger
          of-ledger n ledger at =
              let l = partner_at IsLedgerOf runners ledgers n ledger tied at in
              let long = AllZip-long KeepsAllElse h.between runners h.kept in
              let there = slice_get_within runners n l.0 l.1 in
              let below : n < shape.shards = omega (arith, there, long, many) in
              let kept = since-at n l.0 below l.1 in
              record {
                below = below;
                is = ledger-before (runner n) l.0 ledger kept l.2;
                stands = λ k e at'. stand n l.0 l.1 k e (subst (λ (es : List Entry). slice_get es k ≡ Some e) (sym kept.shard.entries) at');
              }

          one : (happenings : List Happening) → IsWoven (layout_of shape) law.1.runs happenings
              → IsOneRun shape events start device array replies snapshot ledgers happenings
          one happenings woven =
              let run = law.1.every happenings woven in
              record {
                moments = run.moments;
                one = run.one;
                tells = λ n ledger at.
                    let o = of-ledger n ledger at in
                    subst (Tells events replies ledger) (sym (run.seen n o.below))
                    (tells-of events (runner n) ledger replies (law.0 n).history o.is o.stands (law.2 n o.below).tells);
                ends = λ n ledger at.
                    let o = of-ledger n ledger at in
                    let stands = law.2 n o.below in
                    let slots = ap (λ (s : Shape). s.slots) (served n o.below).done.shape_is in
                    let is : (after_all (layout_of shape) (started (layout_of shape) start device) run.moments).shard n ≡ world_shard (runner n).shard.core =
                    run.shard n o.below ∙ stands.shard_is in
                    record {
                      in_sync = o.is.in_sync ∙ ap (λ (s : ℕ). synced_in s (world_shard (runner n).shard.core)) slots ∙ ap (synced_in shape.slots) (sym is);
                      saw_failed = o.is.saw_failed ∙ ap (λ (y : WorldShard). y.saw_failed) (sym is);
                      tokens = o.is.tokens ∙ ap (λ (y : WorldShard). y.tokens) (sym is);
                    };
                register =
                    let r = runner 0 in
                    let v = view_of r.shard.pass in
                    let k = (h.known 0 r (runner-at 0 some)).seen in
                    let stands = law.2 0 some in
                    run.register 0 some k.1.0 (k.1.1 ∙ ap (λ (log : List HistoryEntry). log ++ k.1.0) (sym stands.log))
                    ∙ ap (λ (now : Snapshot). register_since (layout_of shape) now k.1.0) (stands.register ∙ ap (λ (s : Start). held s v.seen) (sym k.0))
                    ∙ since-held (layout_of shape) h.last.start v.seen k.1.0 h.slots h.shards (subst (IsLegal h.last.start) k.1.1 h.legal)
                    ∙ ap (held h.last.start) (sym k.1.1) ∙ sym h.held;
              }

          are-one : AreOneRun shape events start device array replies snapshot ledgers
          are-one = record { runs = law.1.runs; some = law.1.some; every = one }

    pub run-as-one : RunAsOne told shape events start parts answers replies snapshot ledgers
    run-as-one = record {
      handed = λ n. (runner n).handed.items;
      came = λ n o at. let is = own-is n o at in (served n is.0).done.parts;
      agreed = λ n o at.
          let s = since n (own-is n o at).0 in
          subst (HasAgreed answers) s.kept.goes.parts.handed (agreed n s.new s.there);
      one_run = λ known device array begins hold. are-one known device array begins hold;
    }
