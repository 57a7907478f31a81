-- What became of an array, as what it answers tells it.
use Rattle.std.proofs.Common.{◌≡◌, ◌∙◌, ℕ, ◌*◌, ◌<◌, List, [], ◌∷◌, All, length, map, suc, Bool, refl, sym, ap, subst, arith, Some, None, slice_get, slice_index_or, inl, inr}
use Rattle.std.specs.List.{AllZip}
use Rattle.std.proofs.lemmas.List.{length-map}
use Rattle.std.proofs.lemmas.Option.{get_or_from_slice_get, slice_get_within}
use Rattle.r6_dev.specs.History.{Telling}
use Rattle.r6_dev.specs.Promises.{Promise}
use Rattle.r6_layout.specs.Shape.{Shape, IsShape, blocks}
use Rattle.r6_health.specs.declared.history.View.{View}
use Rattle.r6_world.specs.Registers.{Snapshot}
use Rattle.r6_world.specs.ShardStates.{limit}
use Rattle.r6_engine.specs.declared.lists.bringing.Bringing.TheVariants as bringing
use Rattle.r6_engine.specs.lists.Events.{Event, Request, Bring, Fail, Check, Repair, Wait, duty_of}
use Rattle.r6_shard.specs.declared.ledger.Entry.{Entry}
use Rattle.r6_shard.specs.declared.parts.Parts.{Parts}
use Rattle.r6_shard.specs.declared.ledger.Asked.{Asked}
use Rattle.r6_shard.specs.Refusing.{IsEnding}
use Rattle.r6_shard.specs.Whole.{IsClean, SawWithPass}
use Rattle.r6_shard.specs.declared.performs.Performs.{Ghosts}
use Rattle.r6_world.specs.declared.values.Op.{Op}
use Rattle.r6_world.specs.declared.values.Reply.{Reply}
use Rattle.r6_core.specs.declared.refusal.Refusal.{Refusal}
use Rattle.r6_engine.specs.declared.feed.answer.EventAnswer.{EventAnswer}
use Rattle.r6_engine.specs.declared.feed.event.Event as feed
use Rattle.r6_engine.specs.feed.Events.{event_of, events_of}
use Rattle.r6_engine.specs.feed.Feeds.{asking_of}
use Rattle.r6_engine.specs.declared.runner.scrub.ScrubDone.{ScrubDone}
use Rattle.r6_engine.specs.declared.runner.runner.Runner.{Runner}
use Rattle.r6_engine.specs.declared.found.Found.{Found}
use Rattle.r6_engine.specs.declared.ledger.Ledger.{Ledger}
use Rattle.r6_engine.specs.declared.part.ShardParts.{ShardParts}
use Rattle.r6_engine.specs.declared.reply.EventReply.{EventReply}
use Rattle.r6_engine.specs.declared.reply.EventReply.TheVariants.{Counted, Refused, Replied, Waited}
use Rattle.r6_engine.specs.Answered.{IsReplyTo, block_in, shard_with}
use Rattle.r6_engine.specs.Ending.{HasInSync, IsRebuilt, tokens_of}
use Rattle.r6_engine.specs.Found.{found_by, found_in}
use Rattle.r6_engine.specs.Generations.{HasAgreed}
use Rattle.r6_engine.specs.Ledgers.{AreBack, IsLedgerOf}
use Rattle.r6_engine.specs.OneRuns.{RunAsOne}
use Rattle.r6_engine.specs.Passes.{IsSeen}
use Rattle.r6_engine.specs.RanArrays.{HasRunArray}
use Rattle.r6_engine.specs.Replies.{known_with, replies_of, said_by, said_by_all}
use Rattle.r6_engine.specs.ServedArrays.{AreToldIn, IsCleanLedger, SkipNone}
use Rattle.r6_engine.specs.ServedShards.{IsServedShard}
use Rattle.r6_engine.specs.Serves.{HasServed}
use Rattle.r6_engine.proofs.Answered.{counted-at, one-pass, table-long, request-known}
use Rattle.r6_engine.proofs.EachShard.{all_at, here_at, partner_at, some_same}
use Rattle.r6_engine.proofs.Known.{known, known-both}
use Rattle.r6_engine.proofs.OneRuns.{run-as-one}
use Rattle.r6_engine.proofs.Replied.{fits, other-partner, there-at}
use Rattle.r6_engine.proofs.Says.{HasSaid, asks_of, scrubs_of}
use Rattle.r6_engine.proofs.ServedShard.{served-shard}
use Rattle.r6_engine.proofs.Stands.{answer-stands, entry-stands}
use Rattle.r6_engine.proofs.Told.{all-reply, begun-all, has-said, linked}
use Rattle.r6_engine.proofs.Unskipped.{none-skipped}
use Rattle.r6_engine.proofs.RunnerLemmas.Serving.{clean-serves}
use Rattle.r6_engine.proofs.InOrder.{ended-before}

-- ---- what all shards skipped

-- a shard said this of an event, and skipped no row
record SkippedNone {P D : Type 0} {g : Ghosts P} (event : ℕ) (r : Runner P D g) : Type 0 where
  passed : ScrubDone
  adds : (answer : EventReply) → known event answer (said_by r) ≡ known_with answer (Counted (found_in passed))
  none : passed.skipped ≡ 0

none-both : (one other : Found) → one.skipped ≡ 0 → other.skipped ≡ 0 → (found_by one other).skipped ≡ 0
none-both one other none none' =
    let both = fits one.skipped other.skipped (omega (arith, none, none')) in omega (arith, both, none, none')

all-none : {P D : Type 0} {g : Ghosts P} (event : ℕ) (acc : Found) (rs : List (Runner P D g)) → acc.skipped ≡ 0
    → ((k : ℕ) (r : Runner P D g) → slice_get rs k ≡ Some r → SkippedNone event r)
    → (f : Found) × (known event (Counted acc) (said_by_all rs) ≡ Counted f) × (f.skipped ≡ 0)
all-none event acc [] none each = (acc, refl, none)
all-none event acc (r ∷ rs) none each =
    let one = each 0 r refl in
    let f = found_in one.passed in
    let rest = all-none event (found_by acc f) rs (none-both acc f none one.none) (λ k other there. each (suc k) other there) in (
      rest.0,
      known-both event (Counted acc) (said_by r) (said_by_all rs)
          ∙ ap (λ y. known event y (said_by_all rs)) (one.adds (Counted acc)) ∙ rest.1,
      rest.2,
    )

first-none : {P D : Type 0} {g : Ghosts P} (event : ℕ) (rs : List (Runner P D g)) → 0 < length rs
    → ((k : ℕ) (r : Runner P D g) → slice_get rs k ≡ Some r → SkippedNone event r)
    → (f : Found) × (known event Waited (said_by_all rs) ≡ Counted f) × (f.skipped ≡ 0)
first-none event [] some each = absurd (omega (arith, some))
first-none event (r ∷ rs) some each =
    let one = each 0 r refl in
    let rest = all-none event (found_in one.passed) rs one.none (λ k other there. each (suc k) other there) in (
      rest.0,
      known-both event Waited (said_by r) (said_by_all rs) ∙ ap (λ y. known event y (said_by_all rs)) (one.adds Waited) ∙ rest.1,
      rest.2,
    )

same-found : (one other : Found) → Counted one ≡ Counted other → one ≡ other
same-found one other is = ap (λ (y : EventReply). elim y [ Counted f ↦ f | z ↦ one ]) is

same-refusal : (one other : Refusal) → Refused one ≡ Refused other → one ≡ other
same-refusal one other is = ap (λ (y : EventReply). elim y [ Refused f ↦ f | z ↦ one ]) is

refused-not-replied : (refusal : Refusal) (reply : Reply) → Refused refusal ≡ Replied reply → ⊥
refused-not-replied refusal reply is = cc

-- ---- the array

tokens-same : {P D : Type 0} {g : Ghosts P} (runners : List (Runner P D g)) (ledgers : List Ledger) → AllZip IsLedgerOf runners ledgers
    → map tokens_of runners ≡ map (λ (l : Ledger). l.tokens) ledgers
tokens-same [] [] all = refl
tokens-same [] (l ∷ ledgers) all = absurd all
tokens-same (r ∷ runners) [] all = absurd all
tokens-same (r ∷ runners) (l ∷ ledgers) all =
    ap (λ (n : ℕ). n ∷ map tokens_of runners) (sym all.0.tokens) ∙ ap (λ ns. l.tokens ∷ ns) (tokens-same runners ledgers all.1)

module _ {P D : Type 0} {g : Ghosts P} (told : D → Telling) (promised : D → Promise) (steady : ℕ → ℕ → Bool) (shape : Shape) (lawful : IsShape shape) (given : List (feed.Event D))
    (start : Snapshot) (window : ℕ) (first : View) (parts : List (Parts D)) (runners : List (Runner P D g)) (answers : List EventAnswer)
    (last : View) (snapshot : Snapshot) (whole : length parts ≡ shape.shards)
    (x : HasRunArray told promised steady shape given start window first parts runners answers last snapshot)
    (ledgers : List Ledger) (tied : AllZip IsLedgerOf runners ledgers) (devices : List (ShardParts D)) (backs : AllZip (AreBack told) runners devices)
    (agree : All (λ (r : Runner P D g). HasAgreed answers r.handed.items) runners)
  where
    abbrev events : List Event
    events = events_of told given

    abbrev table : List EventReply
    table = replies_of (length events) runners answers

    abbrev own-of : (shard : ℕ) (r : Runner P D g) → slice_get runners shard ≡ Some r → (own : Parts D) × (slice_get parts shard ≡ Some own)
    own-of shard r there =
        let below = slice_get_within runners shard r there in
        let many = x.done.as_many in there-at parts shard (omega (arith, below, many))

    served-of : (shard : ℕ) (r : Runner P D g) (there : slice_get runners shard ≡ Some r)
        → HasServed told shape events start window (own-of shard r there).0 shard r
    served-of shard r there = let own = own-of shard r there in x.done.each shard own.0 r own.1 there

    said-of : (shard : ℕ) (r : Runner P D g) → slice_get runners shard ≡ Some r → HasSaid shape shard events r
    said-of shard r there = has-said told shape events start window (own-of shard r there).0 shard r (served-of shard r there)

    stand : (shard : ℕ) (r : Runner P D g) → slice_get runners shard ≡ Some r → (k : ℕ) (e : Entry)
        → slice_get r.shard.entries.items k ≡ Some e → slice_get table e.event ≡ Some (Replied e.reply)
    stand shard r there =
        let served = served-of shard r there in
        entry-stands shape events runners answers said-of x.answered.asked shard r there
        (linked r.shard.asked.items r.shard.entries.items served.over.rests.each.linked) served.right

    within-of : (shard : ℕ) (r : Runner P D g) → slice_get runners shard ≡ Some r → shard < shape.shards
    within-of shard r there =
        let below = slice_get_within runners shard r there in
        let many = x.done.as_many in omega (arith, below, many, whole)

    abbrev NoneAfter : (shard : ℕ) → List Asked → Type 0
    NoneAfter shard asked =
        (event : ℕ) (o : Op) (refusal : Refusal) → slice_get events event ≡ Some (Request o) → block_in o < blocks shape
        → shard_with shape (block_in o) ≡ shard → slice_get table event ≡ Some (Refused refusal) → IsEnding refusal
        → All (λ (a : Asked). a.event < event) asked

    ended : (shard : ℕ) (r : Runner P D g) → slice_get runners shard ≡ Some r → NoneAfter shard r.shard.asked.items
    ended shard r there event o refusal is below same stands ending =
        let served = served-of shard r there in
        let its = get_or_from_slice_get table event (Refused refusal) Waited stands in
        elim (request-known shape events runners answers said-of x.answered.asked event o is below r (ap (slice_get runners) same ∙ there)) [
          | inl y ↦
              let refused : refusal ≡ y.refused.1 = same-refusal refusal y.refused.1 (sym its ∙ y.reply) in
              subst (λ (n : ℕ). All (λ (a : Asked). a.event < n) r.shard.asked.items) y.event_is
              (ended-before shape shard events r.shard.core served.done.begun r.shard.asked.items served.done.ops r.refused.items
              (sym (begun-all told shape events start window (own-of shard r there).0 shard r served)) served.done.served y.k y.refused y.stands
              (subst IsEnding refused ending))
          | inr y ↦ absurd (refused-not-replied refusal y.entry.reply (sym its ∙ y.reply))
        ]

    pub each-shard : (shard : ℕ) (own : Parts D) (ledger : Ledger) (back : ShardParts D) → slice_get parts shard ≡ Some own
        → slice_get ledgers shard ≡ Some ledger → slice_get devices shard ≡ Some back
        → IsServedShard told promised steady shape given start answers last table snapshot shard own ledger back
    each-shard shard own ledger back part_at ledger_at back_at =
        let l = partner_at IsLedgerOf runners ledgers shard ledger tied ledger_at in
        let b = partner_at (AreBack told) runners devices shard back backs back_at in
        let r = l.0 in
        let same : b.0 ≡ r = some_same b.0 r (sym b.1 ∙ l.1) in
        served-shard told promised steady shape given start window answers last snapshot own shard r (x.done.each shard own r part_at l.1) ledger l.2 back
        (subst (λ (y : Runner P D g). AreBack told y back) same b.2) table (stand shard r l.1)
        (all_at (λ (y : Runner P D g). HasAgreed answers y.handed.items) runners shard r agree l.1)
        (all_at (IsSeen last) runners shard r x.seen l.1)
        (all_at (λ (y : Runner P D g). SawWithPass y.shard.saw_out last) runners shard r x.saw l.1)
        lawful (within-of shard r l.1)
        (λ alive. all_at (λ (y : Runner P D g). HasInSync shape.slots snapshot y.shard.core) runners shard r (x.in_sync alive) l.1)
        (subst (NoneAfter shard) (sym l.2.requests) (ended shard r l.1))
        (all_at (λ (y : Runner P D g). y.shard.last ≡ snapshot) runners shard r x.looked l.1)
        (x.calls shard r l.1)
        (λ slot goes starts attaches. x.sound shard slot own r part_at l.1 goes starts attaches)

    pub one-run : RunAsOne told shape events start parts answers table snapshot ledgers
    one-run =
        run-as-one told shape lawful events start window parts snapshot runners whole x.history ledgers tied answers table
        (λ n r at. all_at (λ (y : Runner P D g). HasAgreed answers y.handed.items) runners n r agree at) stand

    pub told-in : AreToldIn table answers
    told-in k d below =
        answer-stands shape events runners answers said-of x.answered.asked k (slice_index_or answers k d) (here_at answers k d below)

    pub rebuilt : IsRebuilt snapshot (map (λ (l : Ledger). l.tokens) ledgers)
    rebuilt = subst (IsRebuilt snapshot) (tokens-same runners ledgers tied) x.rebuilt

    module _ (clean : All IsCleanLedger ledgers) (small : length given * shape.rows < limit) where
      none-in : (k : ℕ) (r : Runner P D g) (there : slice_get runners k ≡ Some r) (j : ℕ) (d : ScrubDone) → j < length r.scrubs_done.items
          → (slice_index_or r.scrubs_done.items j d).skipped ≡ 0
      none-in k r there =
          let own = own-of k r there in
          let l = other-partner IsLedgerOf runners ledgers k r tied there in
          let its = all_at IsCleanLedger ledgers k l.0 clean l.1 in
          let tokens = its.2 in
          let few = l.2.tokens in
          let below = slice_get_within runners k r there in
          let many = x.done.as_many in
          let long : length events ≡ length given = length-map given (event_of told) in
          let clean' = subst (λ (named : List Bool). IsClean named r.shard.saw_out) l.2.named (subst (IsClean l.0.named) l.2.saw_out its.0) in
          none-skipped told shape lawful events start window own.0 k r (omega (arith, below, many, whole)) (served-of k r there)
          (clean-serves r.shard.core r.shard.named r.shard.saw_out r.shard.whole clean' (sym l.2.saw_failed ∙ its.1)) (omega (arith, tokens, few))
          (subst (λ (n : ℕ). n * shape.rows < limit) (sym long) small) clean'

      none-at : (event : ℕ) (ev : Event) → slice_get events event ≡ Some ev → asking_of shape ev ≡ None
          → ((k : ℕ) → (asks_of (duty_of shape k ev) ≡ 0) × (scrubs_of (duty_of shape k ev) ≡ 1))
          → (found : Found) → slice_get table event ≡ Some (Counted found) → found.skipped ≡ 0
      none-at event ev is asks duties found stands =
          let some = lawful.shards_allowed.0 in
          let many = x.done.as_many in
          let f = first-none event runners (omega (arith, many, whole, some)) (λ k r there.
          let one = one-pass shape events runners answers said-of x.answered.asked event k r ev is there (duties k).0 (duties k).1 in
          record {
            passed = one.passed;
            adds = one.adds;
            none = subst (λ (p : ScrubDone). p.skipped ≡ 0) (get_or_from_slice_get r.scrubs_done.items one.k one.passed one.passed one.stands)
                (none-in k r there one.k one.passed (slice_get_within r.scrubs_done.items one.k one.passed one.stands));
          }) in
          let same : found ≡ f.0 = same-found found f.0
          (sym (get_or_from_slice_get table event (Counted found) Waited stands)
          ∙ counted-at shape events runners answers said-of x.answered.asked event ev is asks ∙ f.1) in
          ap (λ (y : Found). y.skipped) same ∙ f.2

      by-event : (event : ℕ) (ev : Event) → slice_get events event ≡ Some ev → (found : Found) → slice_get table event ≡ Some (Counted found)
          → IsReplyTo shape ledgers event ev (Counted found) → found.skipped ≡ 0
      by-event event (Request o) is found stands answers' = absurd answers'
      by-event event (Bring bringing.Attach slot part) is found stands answers' = absurd answers'
      by-event event (Bring bringing.Replace slot part) is found stands answers' = absurd answers'
      by-event event (Fail slot) is found stands answers' = absurd answers'
      by-event event Check is found stands answers' = none-at event Check is refl (λ k. (refl, refl)) found stands
      by-event event Repair is found stands answers' = none-at event Repair is refl (λ k. (refl, refl)) found stands
      by-event event Wait is found stands answers' = absurd answers'

    pub skip-none : SkipNone shape (length given) ledgers table
    skip-none clean small event found stands =
        let replies = all-reply told shape lawful events start window parts runners whole x.done answers ledgers x.answered.asked tied in
        let below = slice_get_within table event (Counted found) stands in
        let long = table-long shape events runners answers said-of x.answered.asked in
        let ev = there-at events event (omega (arith, below, long)) in
        by-event clean small event ev.0 ev.1 found stands (replies.each event ev.0 (Counted found) ev.1 stands)
